-- Variables with one value, and decisions on those with several.
use Rattle.std.proofs.Common.{◌≡◌, ℕ, ◌<◌, true, false, not, T, ◌⊎◌, List, [], ◌∷◌, length, Option, Some, None, ℤ, pos, ◌≤ℤ◌, ◌<ℤ◌, refl, sym, ◌∙◌, ap, subst, inl, inr, arith}
use Rattle.std.specs.Option.{unwrap_or}
use Rattle.std.specs.Int.Signed.{lt_z, lt_z_no, lt_z_yes}
use Rattle.std.specs.Prelude.{◌↔◌, Bool, IfNone, IfSome, IsSome}
use Rattle.std.proofs.lemmas.Int.{ints}
use mir.Syntax.{w64}
use mir.Val.{of_z, to_z}
use Rattle.dp_base.specs.Lists.{Among}
use Rattle.dp_domain.specs.Atoms.{Atomic, IsNameable, negated}
use Rattle.dp_domain.specs.Sets.{IsDomain, IsSmall, greatest, least}
use Rattle.dp_domain.specs.States.{Domains, is_dead, values}
use Rattle.dp_domain.specs.Turns.{at_most}
use Rattle.dp_domain.specs.declared.atom.Op.TheVariants.{Ge, Le}
use Rattle.dp_domain.proofs.AtomLaws.{meets-negated, test-from_le, test-from_lt}
use Rattle.dp_domain.proofs.SetLaws.{IsSmall-among, greatest-among, greatest-bound, least-among, least-bound}
use Rattle.dp_domain.proofs.StateLaws.{alive-value, entails-not}
use Rattle.dp_solver.specs.Descents.{IsOpenAt, lowest}

none_some : {A : Type 0} (x : A) (P : Type 0) → None ≡ Some x → P
none_some x P e = cc

some_same : {A : Type 0} (x y : A) → Some x ≡ Some y → x ≡ y
some_same x y e = cc

-- where the least value is not below the greatest there is one value
settled : (xs : List ℤ) (l u : ℤ) → IsDomain xs → least xs ≡ Some l → greatest xs ≡ Some u → (l <ℤ u → ⊥) → xs ≡ l ∷ []
settled [] l u dom low high not_less = none_some l _ low
settled (x ∷ []) l u dom low high not_less = ap (λ v. v ∷ []) (some_same x l low)
settled (x ∷ y ∷ xs) l u dom low high not_less =
    let first : l ≤ℤ x = least-bound (x ∷ y ∷ xs) l low x (inl refl) in
    let last : y ≤ℤ u = greatest-bound (x ∷ y ∷ xs) u high y (inr (inl refl)) in
    let apart : x <ℤ y = dom.ascending.0.0 in
    absurd (not_less (omega (arith, ints, first, last, apart)))

-- so it is the only one
pub settled-at : (xs : List ℤ) (l u : ℤ) → IsDomain xs → Some l ≡ least xs → Some u ≡ greatest xs → (l <ℤ u → ⊥) → xs ≡ lowest xs ∷ []
settled-at xs l u dom low high not_less =
    settled xs l u dom (sym low) (sym high) not_less ∙ ap (λ (o : Option ℤ). unwrap_or o (pos 0) ∷ []) low

least_some : (xs : List ℤ) (v : ℤ) → Among v xs → None ≡ least xs → ⊥
least_some [] v h none = h
least_some (x ∷ xs) v h none = cc

greatest_some : (xs : List ℤ) (v : ℤ) → Among v xs → None ≡ greatest xs → ⊥
greatest_some [] v h none = h
greatest_some (x ∷ xs) v h none = cc

-- a variable of a state that is not dead has a least and a greatest value
pub has-least : (d : Domains) (x : ℕ) → is_dead d ≡ false → x < length d → None ≡ least (values d x) → ⊥
has-least d x alive on none = let v = alive-value d x alive on in least_some (values d x) v.0 v.1 none

pub has-greatest : (d : Domains) (x : ℕ) → is_dead d ≡ false → x < length d → None ≡ greatest (values d x) → ⊥
has-greatest d x alive on none = let v = alive-value d x alive on in greatest_some (values d x) v.0 v.1 none

-- the atoms at a small number can be named
pub nameable-le : (v : ℤ) → IsSmall v → IsNameable Le v
nameable-le v small = (omega (arith, ints, small.0, small.1), omega (arith, ints, small.0, small.1))

pub nameable-ge : (v : ℤ) → IsSmall v → IsNameable Ge v
nameable-ge v small = (omega (arith, ints, small.0, small.1), omega (arith, ints, small.0, small.1))

-- the least value is small
pub least-small : (xs : List ℤ) (l : ℤ) → IsDomain xs → Some l ≡ least xs → IsSmall l
least-small xs l dom low = IsSmall-among xs dom l (least-among xs l (sym low))

-- neither the least value of several nor what is above it is the only one
pub open-at : (d : Domains) (x : ℕ) (l u : ℤ) → x < length d → Some l ≡ least (values d x) → Some u ≡ greatest (values d x) → l <ℤ u → IsOpenAt d (at_most x l)
open-at d x l u on low high less = record {
  variable = on;
  unsettled = entails-not d (at_most x l) u (greatest-among (values d x) u (sym high)) (test-from_lt u l less);
  possible = entails-not d (negated (at_most x l)) l (least-among (values d x) l (sym low))
      (meets-negated (at_most x l) l ∙ ap not (test-from_le l l (omega (arith, ints))));
}

-- ---- the code's numbers

-- a small number is read as it is
small-read : (v : ℤ) → IsSmall v → to_z w64 (of_z w64 v) ≡ v
small-read v small = omega (arith, ints, small.0, small.1)

-- so is the least value
pub read-least : (xs : List ℤ) (l : ℤ) → IsDomain xs → Some l ≡ least xs → to_z w64 (of_z w64 l) ≡ l
read-least xs l dom low = small-read l (least-small xs l dom low)

-- the greatest value is small
greatest-small : (xs : List ℤ) (u : ℤ) → IsDomain xs → Some u ≡ greatest xs → IsSmall u
greatest-small xs u dom high = IsSmall-among xs dom u (greatest-among xs u (sym high))

to_T : (b : Bool) → b ≡ true → T b
to_T true e = tt
to_T false e = absurd cc

less-is : (a b : ℤ) (t : Bool) → lt_z a b ≡ t → ((t ≡ true) × (a <ℤ b)) ⊎ ((t ≡ false) × (a <ℤ b → ⊥))
less-is a b true e = inl (refl, lt_z_yes {a = a} {b = b} (to_T (lt_z a b) e))
less-is a b false e = inr (refl, λ h. let back : b ≤ℤ a = lt_z_no {a = a} {b = b} (to_T (not (lt_z a b)) (ap not e)) in omega (arith, ints, h, back))

true_false : (P : Type 0) → true ≡ false → P
true_false P e = cc

less-read : (l u : ℤ) → IsSmall l → IsSmall u → lt_z (to_z w64 (of_z w64 l)) (to_z w64 (of_z w64 u)) ≡ true → l <ℤ u
less-read l u low high e = elim (less-is l u true (ap (λ (v : ℤ). lt_z v u) (sym (small-read l low)) ∙ ap (λ (v : ℤ). lt_z (to_z w64 (of_z w64 l)) v) (sym (small-read u high)) ∙ e)) [
  | inl h ↦ h.1
  | inr h ↦ true_false (l <ℤ u) h.0
]

not-less-read : (l u : ℤ) → IsSmall l → IsSmall u → lt_z (to_z w64 (of_z w64 l)) (to_z w64 (of_z w64 u)) ≡ false → l <ℤ u → ⊥
not-less-read l u low high e = elim (less-is l u false (ap (λ (v : ℤ). lt_z v u) (sym (small-read l low)) ∙ ap (λ (v : ℤ). lt_z (to_z w64 (of_z w64 l)) v) (sym (small-read u high)) ∙ e)) [
  | inl h ↦ true_false (l <ℤ u → ⊥) (sym h.0)
  | inr h ↦ h.1
]

-- the atom at the least of several values is a decision
pub decision-open : (d : Domains) (x : ℕ) (l u v : ℤ) (r : Option Atomic) → x < length d → IsDomain (values d x) → Some l ≡ least (values d x) → Some u ≡ greatest (values d x)
    → lt_z (to_z w64 (of_z w64 l)) (to_z w64 (of_z w64 u)) ≡ true → v ≡ l → IfSome r (λ a. a ≡ at_most x v) → IfSome r (IsOpenAt d)
decision-open d x l u v None on dom low high less is made = tt
decision-open d x l u v (Some a) on dom low high less is made =
    subst (IsOpenAt d) (sym (made ∙ ap (at_most x) is))
    (open-at d x l u on low high (less-read l u (least-small (values d x) l dom low) (greatest-small (values d x) u dom high) less))

-- it can be named
pub decision-named : (d : Domains) (x : ℕ) (l : ℤ) (r : Option Atomic) (P : Type 0) → IsDomain (values d x) → Some l ≡ least (values d x) → IsSome r ↔ IsNameable Le (to_z w64 (of_z w64 l)) → IfNone r P
decision-named d x l (Some a) P dom low named = tt
decision-named d x l None P dom low named =
    let small = least-small (values d x) l dom low in
    true_false P (sym (named.1 (subst (IsNameable Le) (sym (small-read l small)) (nameable-le l small))))

-- where the least value is not less than the greatest it is the only one
pub decision-none : (d : Domains) (x : ℕ) (l u : ℤ) → IsDomain (values d x) → Some l ≡ least (values d x) → Some u ≡ greatest (values d x)
    → lt_z (to_z w64 (of_z w64 l)) (to_z w64 (of_z w64 u)) ≡ false → values d x ≡ lowest (values d x) ∷ []
decision-none d x l u dom low high not_less =
    settled-at (values d x) l u dom low high (not-less-read l u (least-small (values d x) l dom low) (greatest-small (values d x) u dom high) not_less)

-- the least value, or 0, is small
pub number-small : (xs : List ℤ) (o : Option ℤ) (v : ℤ) → IsDomain xs → o ≡ least xs → v ≡ unwrap_or o (pos 0) → IsSmall (to_z w64 (of_z w64 v))
number-small xs None v dom low is = subst (λ (w : ℤ). IsSmall (to_z w64 (of_z w64 w))) (sym is) (omega (arith, ints), omega (arith, ints))
number-small xs (Some l) v dom low is =
    let small = least-small xs l dom low in subst (λ (w : ℤ). IsSmall (to_z w64 (of_z w64 w))) (sym is) (subst IsSmall (sym (small-read l small)) small)
