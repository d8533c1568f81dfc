-- The least value that is not supported is the hole.
use Rattle.std.proofs.Common.{◌≡◌, ℕ, false, true, not, ◌↔◌, List, ℤ, Option, Some, None, IsSome, IfSome, is_some, option_map, refl, sym, ◌∙◌, ap, subst, arith}
use Rattle.std.specs.List.{filter}
use mir.Syntax.{w64}
use mir.Val.{of_z, to_z}
use Rattle.std.proofs.lemmas.Int.{ints}
use Rattle.std.proofs.lemmas.Bool.{both_ways, false≢true}
use Rattle.dp_domain.specs.Atoms.{Atomic, IsNameable}
use Rattle.dp_domain.specs.declared.atom.Op.TheVariants.{Ne}
use Rattle.dp_domain.specs.Sets.{IsDomain, IsSmall, is_among, least}
use Rattle.dp_domain.specs.Supports.{bound_by, hole_by}
use Rattle.dp_domain.specs.Turns.{or_else, other_than}
use Rattle.dp_domain.proofs.SetLaws.{IsSmall-among, least-among}
use Rattle.dp_rule_element.specs.Choices.{atom_by}

nameable : (v : ℤ) → IsSmall v → IsNameable Ne v
nameable v small = (omega (arith, ints, small.0, small.1), omega (arith, ints, small.0, small.1))

small_read : (v : ℤ) → IsSmall v → to_z w64 (of_z w64 v) ≡ v
small_read v small = omega (arith, ints, small.0, small.1)

-- an atom that can be named is made
made : (r : Option Atomic) (a : Atomic) → IsSome r → IfSome r (λ b. b ≡ a) → r ≡ Some a
made None a there is = absurd (false≢true there)
made (Some b) a there is = ap Some is

made_other : (r : Option Atomic) (x : ℕ) (w v : ℤ) → IsSmall w → v ≡ to_z w64 (of_z w64 w) → (IsSome r ↔ IsNameable Ne v) → IfSome r (λ a. a ≡ other_than x v) → r ≡ Some (other_than x w)
made_other r x w v small e named is =
    let s : v ≡ w = e ∙ small_read w small in
    made r (other_than x v) (named.1 (subst (IsNameable Ne) (sym s) (nameable w small))) is ∙ ap (λ u. Some (other_than x u)) s

absent : (a b : Option Atomic) → is_some a ≡ false → or_else a b ≡ b
absent None b e = refl
absent (Some a) b e = absurd (both_ways true e refl)

pub hole_found : (xs good others : List ℤ) (x : ℕ) (w v : ℤ) (r bound : Option Atomic) → bound ≡ bound_by xs good x → is_some bound ≡ false → others ≡ filter (λ v. not (is_among v good)) xs → IsDomain others → Some w ≡ least others
    → v ≡ to_z w64 (of_z w64 w) → (IsSome r ↔ IsNameable Ne v) → IfSome r (λ a. a ≡ other_than x v) → r ≡ atom_by xs good x
hole_found xs good others x w v r bound e none f domain least_is read named made_is =
    made_other r x w v (IsSmall-among others domain w (least-among others w (sym least_is))) read named made_is
    ∙ ap (λ o. option_map (other_than x) o) (least_is ∙ ap least f)
    ∙ sym (absent bound (hole_by xs good x) none) ∙ ap (λ o. or_else o (hole_by xs good x)) e
