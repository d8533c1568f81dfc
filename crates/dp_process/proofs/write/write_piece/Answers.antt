use Rattle.dp_process.specs.Writing.{numbered}
use Rattle.dp_process.proofs.WritingLaws.{piece-added}
use Rattle.dp_process.proofs.write.write_piece.Goals as goal

pub returns-in-Some-clause-written : goal.returns-in-Some-clause-written
returns-in-Some-clause-written c =
    piece-added c.args.problem.now (numbered c.args.numbers.now) c.args.steps c.args.writer.now.count c.args.writer.now c.write_nogood.new.writer c.args.nogood.now c.as_slice.result.now c.args.piece c.in-Some.piece c.write_nogood.result
    c.in-Some.is c.as_slice.ensures c.requires.count c.write_nogood.ensures.written
