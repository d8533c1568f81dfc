-- Each that follows the one before it leaves those behind it.
use mir.Syntax.{w64}
use mir.Val.{SFits, to_z}
use Rattle.std.proofs.Common.{ℤ, ◌+◌, drop, get_or, pos, rules, subst}
use Rattle.std.proofs.lemmas.Int.{to_z-of_z}
use Rattle.dp_base.proofs.Lists.{Each-get_or}
use Rattle.dp_domain.specs.Sets.{HasSmallEnds}
use Rattle.dp_domain.proofs.UnionSteps.{AreBehind, behind_next, behind_none}
use Rattle.dp_domain.proofs.intervals.are_apart.Goals as goal

pub follows-requires : goal.follows-requires
follows-requires c = Each-get_or HasSmallEnds c.args.intervals.now c.loop-interval.interval-index (pos 0, pos 0) c.loop-interval-test.true c.requires

pub loop-interval-init : goal.loop-interval-init
loop-interval-init c = λ b. b.1

pub loop-interval-preserved : goal.loop-interval-preserved
loop-interval-preserved c =
    let i = c.loop-interval.interval-index in
    let j = get_or c.args.intervals.now i (pos 0, pos 0) in
    let small : HasSmallEnds j = Each-get_or HasSmallEnds c.args.intervals.now i (pos 0, pos 0) c.loop-interval-test.true c.requires in
    let fits : SFits w64 j.1 = search rules in
    λ b. c.loop-interval.invariant
    (behind_next c.args.intervals.now i (to_z w64 c.loop-interval.end-bits) c.loop-interval-test.true (c.follows.ensures c.if-not-follows.false)
    (subst (λ (end : ℤ). AreBehind end (drop (i + 1) c.args.intervals.now)) (to_z-of_z w64 j.1 fits) b))

pub returns : goal.returns
returns c = λ t. c.loop-interval.invariant (behind_none c.args.intervals.now c.loop-interval.interval-index (to_z w64 c.loop-interval.end-bits) c.loop-interval-test.false)
