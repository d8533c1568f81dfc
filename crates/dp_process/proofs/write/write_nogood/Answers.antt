-- The nogood stands behind its kept turns.
use Rattle.dp_process.specs.Writing.{numbered}
use Rattle.dp_process.proofs.WritingLaws.{nogood-added}
use Rattle.dp_process.proofs.write.write_nogood.Goals as goal

pub returns-clause-written : goal.returns-clause-written
returns-clause-written c =
    nogood-added c.args.problem.now (numbered c.args.numbers.now) c.args.writer.now.count c.args.writer.now c.write_turns.new.writer c.nogood.new.self c.args.turns.now c.args.nogood.now c.atoms.result.now
    c.in_ok-hints.hints.items c.as_slice.result.now c.nogood.result
    c.in_ok-hints.ensures.written c.atoms.ensures c.as_slice.ensures.value c.in_ok-hints.ensures.hints c.nogood.ensures.written
