-- At the end nothing is left of the pass.
use Rattle.std.proofs.Common.{sym, ◌∙◌}
use Rattle.std.proofs.lemmas.Int.{to_z-of_z}
use mir.Syntax.{w64}
use Rattle.dp_rule_alldiff.proofs.TightLaws.{reach_read, reaches_none}
use Rattle.dp_rule_alldiff.proofs.tight.reach.Goals as goal

pub returns : goal.returns
returns c =
    reach_read _ c.args.first c.args.spans.now c.loop-span.last (to_z-of_z w64 c.args.first c.ranges.first) c.requires.order c.requires.spans c.requires.calm
    (sym c.loop-span.invariant.0 ∙ reaches_none c.args.spans.now c.loop-span.span-index _ c.loop-span.count c.loop-span.last c.loop-span-test.false)
