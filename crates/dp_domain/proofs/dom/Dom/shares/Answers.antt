-- A number is in both sets exactly where intervals of both reach each other.
use Rattle.std.proofs.Common.{◌≡◌, List, ℤ, ◌∙◌, ap, subst, sym}
use Rattle.std.specs.List.{list_any}
use Rattle.dp_domain.specs.Intervals.{reaches}
use Rattle.dp_domain.specs.Sets.{AreApart, share}
use Rattle.dp_domain.proofs.ReachSteps.{shares_is}
use Rattle.dp_domain.proofs.dom.Dom.shares.Goals as goal

pub share-requires : goal.share-requires
share-requires c = subst AreApart (sym c.as_slice-2.ensures) c.other.invariant.apart

pub returns : goal.returns
returns c =
    c.share.ensures
    ∙ ap (λ (is : List (ℤ × ℤ)). list_any (λ i. list_any (reaches i) c.as_slice-2.result.now) is) c.as_slice.ensures
    ∙ ap (λ (js : List (ℤ × ℤ)). list_any (λ i. list_any (reaches i) js) c.self.inside.intervals.items) c.as_slice-2.ensures
    ∙ shares_is c.self.inside.intervals.items c.other.inside.intervals.items c.self.invariant.apart c.other.invariant.apart
    ∙ both _ c.args.self.now _ c.args.other.now c.self.view_is c.other.view_is
  where
    both : (xs xs' ys ys' : List ℤ) → xs ≡ xs' → ys ≡ ys' → share xs ys ≡ share xs' ys'
    both xs xs' ys ys' e f = ap (λ (zs : List ℤ). share zs ys) e ∙ ap (share xs') f
