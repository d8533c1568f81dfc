-- The one interval, if it has a number.
use mir.Syntax.{w64}
use mir.Val.{of_z, to_z}
use Rattle.std.proofs.Common.{arith}
use Rattle.std.proofs.lemmas.Int.{ints}
use Rattle.dp_domain.proofs.ExpandLaws.{expand-domain}
use Rattle.dp_domain.proofs.IntervalSteps.{single_collects, single_maximal}
use Rattle.dp_domain.proofs.dom.Dom.range.Goals as goal

pub invariant_of-result : goal.invariant_of-result
invariant_of-result c =
    let a = c.requires.first.0 in
    let b = c.requires.first.1 in
    let d = c.requires.last.0 in
    let e = c.requires.last.1 in
    single_maximal _ (to_z w64 (of_z w64 c.args.first)) (to_z w64 (of_z w64 c.args.last)) c.in_ok-intervals.ensures ((omega (arith, ints), omega (arith, ints)), (omega (arith, ints), omega (arith, ints)))

pub returns-clause-domain : goal.returns-clause-domain
returns-clause-domain c =
    let a = c.requires.first.0 in
    let b = c.requires.first.1 in
    let d = c.requires.last.0 in
    let e = c.requires.last.1 in
    expand-domain _ (single_maximal _ (to_z w64 (of_z w64 c.args.first)) (to_z w64 (of_z w64 c.args.last)) c.in_ok-intervals.ensures ((omega (arith, ints), omega (arith, ints)), (omega (arith, ints), omega (arith, ints))))

pub returns-clause-numbers : goal.returns-clause-numbers
returns-clause-numbers c = single_collects _ (to_z w64 (of_z w64 c.args.first)) (to_z w64 (of_z w64 c.args.last)) c.args.first c.args.last (omega (arith, ints)) (omega (arith, ints)) c.in_ok-intervals.ensures
