-- The last interval that does not begin after the value gives the greatest number up to it.
use mir.Syntax.{w64}
use mir.Val.{of_z, to_z}
use Rattle.std.proofs.Common.{◌∙◌, arith}
use Rattle.std.proofs.lemmas.Int.{clamps, ints}
use Rattle.dp_domain.proofs.SeekLaws.{greatest_to_none, greatest_to_some}
use Rattle.dp_domain.proofs.dom.Dom.greatest_to.Goals as goal

pub returns-in_err-last : goal.returns-in_err-last
returns-in_err-last c =
    c.from_residual.ensures
    ∙ greatest_to_none c.self.inside.intervals.items c.as_slice.result.now c.up_to.result.now c.args.self.now c.args.value (to_z w64 (of_z w64 c.args.value)) c.self.invariant.apart c.self.view_is c.as_slice.ensures (omega (arith, ints)) c.up_to.ensures c.in_err-last.ensures.value

pub returns : goal.returns
returns c =
    greatest_to_some c.self.inside.intervals.items c.as_slice.result.now c.up_to.result.now c.args.self.now c.args.value (to_z w64 (of_z w64 c.args.value)) _ c.in_ok-last.field-0.now
    c.self.invariant.apart c.self.view_is c.as_slice.ensures (omega (arith, ints)) c.up_to.ensures c.in_ok-last.ensures.value (omega (arith, ints, clamps))
