-- The label is that of the part at its place.
use Rattle.dp_process.proofs.WritingLaws.{inference-added, label-here}
use Rattle.dp_process.proofs.write.write_inference.Goals as goal

pub returns-clause-written : goal.returns-clause-written
returns-clause-written c =
    inference-added c.args.problem.now c.args.constraint c.args.part c.args.turn.now c.as_slice.result.now c.label-label.result.now c.inference.result c.args.writer.now c.inference.new.self
    c.as_slice.ensures
    (label-here c.args.problem.now c.args.constraint c.args.part c.parts_of.result.now c.index-parts_of-part.result c.label-label.result.now c.requires.part c.parts_of.ensures.parts c.index-parts_of-part.is c.label-label.ensures)
    c.inference.ensures.written
