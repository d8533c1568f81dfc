-- The first interval that does not end before the value gives the least number from it on.
use mir.Syntax.{w64}
use mir.Val.{of_z, to_z}
use Rattle.std.proofs.Common.{◌∙◌, arith}
use Rattle.std.proofs.lemmas.Int.{clamps, ints}
use Rattle.dp_domain.proofs.SeekLaws.{least_from_none, least_from_some}
use Rattle.dp_domain.proofs.dom.Dom.least_from.Goals as goal

pub returns-in_err-first : goal.returns-in_err-first
returns-in_err-first c =
    c.from_residual.ensures
    ∙ least_from_none c.self.inside.intervals.items c.as_slice.result.now c.from.result.now c.args.self.now c.args.value (to_z w64 (of_z w64 c.args.value)) c.self.invariant.apart c.self.view_is c.as_slice.ensures (omega (arith, ints)) c.from.ensures c.in_err-first.ensures.value

pub returns : goal.returns
returns c =
    least_from_some c.self.inside.intervals.items c.as_slice.result.now c.from.result.now c.args.self.now c.args.value (to_z w64 (of_z w64 c.args.value)) _ c.in_ok-first.field-0.now
    c.self.invariant.apart c.self.view_is c.as_slice.ensures (omega (arith, ints)) c.from.ensures c.in_ok-first.ensures.value (omega (arith, ints, clamps))
