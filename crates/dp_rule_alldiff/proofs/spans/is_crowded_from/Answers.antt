-- A span is passed over, is one too many, or is counted.
use Rattle.std.proofs.Common.{pos, arith, sym, ◌∙◌}
use Rattle.std.proofs.lemmas.Int.{to_z-of_z}
use mir.Syntax.{w64}
use Rattle.dp_rule_alldiff.proofs.CrowdSteps.{overfills_counted, overfills_here, overfills_none, overfills_over, overfills_read}
use Rattle.dp_rule_alldiff.proofs.spans.is_crowded_from.Goals as goal
use Rattle.dp_rule_alldiff.proofs.spans.is_crowded_from.Goals.{then-begins_from+else-is_exceeded, else-begins_from}

pub returns-then-is_exceeded : goal.returns-then-is_exceeded
returns-then-is_exceeded c =
    overfills_read _ c.args.first c.args.spans.now _ (to_z-of_z w64 c.args.first c.ranges.first) c.requires.order c.requires.spans
    (c.loop-span.invariant.0 ∙ overfills_here c.args.spans.now c.loop-span.span-index (pos 0, pos 0) _ c.loop-span.count c.loop-span-test.true (sym c.begins_from.ensures ∙ c.if-begins_from.true) (sym c.is_exceeded.ensures ∙ c.if-is_exceeded.true))

pub loop-span-preserved : goal.loop-span-preserved
loop-span-preserved c = elim c.if-begins_from.branch [
  | then-begins_from+else-is_exceeded w ↦ rw w.count-is (
    c.loop-span.invariant.0 ∙ overfills_counted c.args.spans.now c.loop-span.span-index (pos 0, pos 0) _ c.loop-span.count c.loop-span-test.true (sym c.begins_from.ensures ∙ w.if-begins_from.true) (sym w.is_exceeded.ensures ∙ w.if-is_exceeded.false),
    omega (arith, c.loop-span.invariant.1),
  )
  | else-begins_from w ↦ rw w.count-is (
    c.loop-span.invariant.0 ∙ overfills_over c.args.spans.now c.loop-span.span-index (pos 0, pos 0) _ c.loop-span.count c.loop-span-test.true (sym c.begins_from.ensures ∙ w.if-begins_from.false),
    omega (arith, c.loop-span.invariant.1),
  )
]

pub returns : goal.returns
returns c =
    overfills_read _ c.args.first c.args.spans.now _ (to_z-of_z w64 c.args.first c.ranges.first) c.requires.order c.requires.spans
    (c.loop-span.invariant.0 ∙ overfills_none c.args.spans.now c.loop-span.span-index _ c.loop-span.count c.loop-span-test.false)
