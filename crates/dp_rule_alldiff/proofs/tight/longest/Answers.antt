-- One span more.
use Rattle.std.proofs.Common.{pos, subst}
use Rattle.std.proofs.lemmas.List.{take_all}
use Rattle.dp_rule_alldiff.proofs.TightLaws.{AreLongestFrom, longest_all, longest_step}
use Rattle.dp_rule_alldiff.proofs.tight.longest.Goals as goal

pub loop-span-preserved : goal.loop-span-preserved
loop-span-preserved c =
    longest_step c.args.spans.now c.loop-span.span-index (pos 0, pos 0) c.loop-span.intervals.items _ c.in_ok-push_longest.ensures.0 c.loop-span-test.true c.loop-span.invariant c.in_ok-push_longest.ensures.1 c.in_ok-push_longest.ensures.2

pub returns : goal.returns
returns c =
    longest_all c.args.spans.now c.loop-span.intervals.items c.requires.spans c.requires.calm
    (subst (λ ts. AreLongestFrom c.args.spans.now ts c.loop-span.intervals.items) (take_all c.loop-span.span-index c.args.spans.now c.loop-span-test.false) c.loop-span.invariant)
