-- What is used stands below the place, and so has a mark.
use Rattle.std.proofs.Common.{length}
use Rattle.dp_process.proofs.MarkLaws.{uses-within}
use Rattle.dp_process.proofs.met.justify_place.Goals as goal

pub mark-requires : goal.mark-requires
mark-requires c =
    uses-within c.args.index.now.problem c.args.index.now.nogoods c.args.place (length c.args.marks.now.items) c.in-Some.piece c.in_ok-piece.field-0 c.as_slice.result.now
    c.problem-problem.ensures.index.problem c.problem-problem.ensures.index.nogoods c.requires.place c.requires.marks c.in_ok-piece.ensures.justification c.in-Some.is c.as_slice.ensures
