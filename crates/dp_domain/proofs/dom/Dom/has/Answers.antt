-- The number is in the set exactly where an interval reaches it.
use mir.Syntax.{w64}
use mir.Val.{of_z, to_z}
use Rattle.std.proofs.Common.{List, ℤ, ◌∙◌, ap, arith, subst, sym}
use Rattle.std.specs.List.{list_any}
use Rattle.std.proofs.lemmas.Int.{ints}
use Rattle.dp_domain.specs.Intervals.{reaches}
use Rattle.dp_domain.specs.Sets.{AreApart}
use Rattle.dp_domain.proofs.ReachSteps.{has_all, has_only}
use Rattle.dp_domain.proofs.dom.Dom.has.Goals as goal

pub reach-requires : goal.reach-requires
reach-requires c = subst AreApart (sym c.as_slice.ensures) c.self.invariant.apart

pub returns : goal.returns
returns c =
    let number = to_z w64 (of_z w64 c.args.number) in
    let found = c.reach.ensures ∙ ap (λ (is : List (ℤ × ℤ)). list_any (reaches (number, number)) is) c.as_slice.ensures in (
      has_only c.self.inside.intervals.items c.args.number number c.args.self.now c.reach.result c.self.invariant.apart c.self.view_is (omega (arith, ints)) found,
      has_all c.self.inside.intervals.items c.args.number number c.args.self.now c.reach.result c.self.invariant.apart c.self.view_is (omega (arith, ints)) found,
    )
