use Rattle.std.proofs.Common.{[], ◌∷◌}
use Rattle.fz_model.specs.Words.{Round, Square}
use Rattle.fz_items.proofs.OutputRanges.{range_kept}
use Rattle.fz_items.proofs.ranges.plain_range.Goals as goal

pub returns-clause-plain : goal.returns-clause-plain
returns-clause-plain c = range_kept Square (Round ∷ []) c.args.source.now.left c.range.new.source.left c.range.result c.range.ensures.reads
