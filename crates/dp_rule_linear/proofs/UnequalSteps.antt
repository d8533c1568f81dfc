-- How the atoms of a sum other than a number are found.
use Rattle.std.proofs.Common.{◌≡◌, ℕ, ◌^◌, ◌<◌, ◌↔◌, true, false, not, ◌&&◌, List, [], ◌∷◌, length, get_or, Option, Some, None, Result, IsSome, IfSome, IfOk, is_some, option_map, ℤ, pos, ◌*ℤ◌, int_le, refl, sym, ◌∙◌, ap, subst, inl, inr, arith}
use Rattle.std.specs.List.{filter, list_all}
use mir.Syntax.{w64, w128}
use mir.Val.{of_z, to_z}
use Rattle.std.proofs.lemmas.Int.{ints}
use Rattle.std.proofs.lemmas.Bool.{both_ways, cases_Bool, false≢true, false_from_ne_true, not-true, not_from_false}
use Rattle.std.proofs.lemmas.List.{get_or_default}
use Rattle.std.proofs.lemmas.Result.{IfOk-weaker}
use Rattle.dp_base.specs.Lists.{Among}
use Rattle.dp_base.proofs.Lists.{Among-filter_only, Among-get_or, Each-among, filter-whole, list_all-from, list_any-at}
use Rattle.dp_base.specs.declared.memory.Memory.{Memory}
use Rattle.dp_domain.specs.Atoms.{Atomic, IsNameable, meets}
use Rattle.dp_domain.specs.declared.atom.Op.TheVariants.{Ne}
use Rattle.dp_domain.specs.Sets.{IsDomain, IsSmall, greatest_from, is_among, least, least_from}
use Rattle.dp_domain.specs.States.{Domains, values}
use Rattle.dp_domain.specs.Faces.{Covers}
use Rattle.dp_domain.specs.Supports.{bound_by, hole_by}
use Rattle.dp_domain.specs.Turns.{or_else, other_than}
use Rattle.dp_domain.proofs.AtomLaws.{tests-from_same}
use Rattle.dp_domain.proofs.SetLaws.{IsSmall-among, least-among}
use Rattle.dp_domain.proofs.StateLaws.{is_nil-none, nil-from_test}
use Rattle.dp_domain.proofs.TurnLaws.{filter-same}
use Rattle.dp_rule_linear.specs.Bounds.{atom_by, unequal}
use Rattle.dp_rule_linear.specs.Forms.{HaveDomains, IsBounded, IsProper, Linear, scope_of, term_at, variables}
use Rattle.dp_rule_linear.specs.FormLaws.{variable_of}
use Rattle.dp_rule_linear.specs.Differs.{is_same}
use Rattle.dp_rule_linear.specs.DiffersLaws.{is_same_where, same_where}
use Rattle.dp_rule_linear.proofs.BoundSteps.{first_absent, made}
use Rattle.dp_rule_linear.proofs.CloseLaws.{bound-whole}
use Rattle.dp_rule_linear.proofs.DiffersTurns.{times-cancel}
use Rattle.dp_rule_linear.proofs.Places.{terms_covered}

-- ---- all values supported

among_itself : (xs : List ℤ) (v : ℤ) → Among v xs → is_among v xs ≡ true
among_itself xs v here = list_any-at (λ w. int_le v w && int_le w v) xs v here (tests-from_same v v refl)

no_hole : (xs : List ℤ) (x : ℕ) → hole_by xs xs x ≡ None
no_hole xs x = ap (λ ys. option_map (other_than x) (least ys))
    (nil-from_test (filter (λ v. not (is_among v xs)) xs) (is_nil-none (filter (λ v. not (is_among v xs)) xs) (λ v m.
    let r = Among-filter_only (λ v. not (is_among v xs)) xs v m in
    both_ways (is_among v xs) (not-true (is_among v xs) r.1) (among_itself xs v r.0))))

whole_bound : (xs : List ℤ) (x : ℕ) → bound_by xs xs x ≡ None
whole_bound [] x = refl
whole_bound (y ∷ ys) x = bound-whole (y ∷ ys) (y ∷ ys) x (least_from y ys) (greatest_from y ys) refl refl refl

-- where all values are supported, nothing follows
pub atom_whole : (xs good : List ℤ) (x : ℕ) → good ≡ xs → atom_by xs good x ≡ None
atom_whole xs good x same =
    ap (λ ys. atom_by xs ys x) same ∙ ap (λ o. or_else o (hole_by xs xs x)) (whole_bound xs x) ∙ no_hole xs x

-- ---- holes

nameable-ne : (v : ℤ) → IsSmall v → IsNameable Ne v
nameable-ne v small = (omega (arith, ints, small.0, small.1), omega (arith, ints, small.0, small.1))

small_read : (v : ℤ) → IsSmall v → to_z w64 (of_z w64 v) ≡ v
small_read v small = omega (arith, ints, small.0, small.1)

made_ne : (r : Option Atomic) (x : ℕ) (w v : ℤ) → IsSmall w → v ≡ to_z w64 (of_z w64 w) → (IsSome r ↔ IsNameable Ne v) → IfSome r (λ a. a ≡ other_than x v) → r ≡ Some (other_than x w)
made_ne r x w v small e named is =
    let s : v ≡ w = e ∙ small_read w small in
    made r (other_than x v) (named.1 (subst (IsNameable Ne) (sym s) (nameable-ne w small))) is ∙ ap (λ u. Some (other_than x u)) s

-- the least value that is not supported is the hole
pub hole_found : (xs good others : List ℤ) (x : ℕ) (w v : ℤ) (r bound : Option Atomic) → bound ≡ bound_by xs good x → is_some bound ≡ false → others ≡ filter (λ v. not (is_among v good)) xs → IsDomain others → Some w ≡ least others
    → v ≡ to_z w64 (of_z w64 w) → (IsSome r ↔ IsNameable Ne v) → IfSome r (λ a. a ≡ other_than x v) → r ≡ atom_by xs good x
hole_found xs good others x w v r bound e none f domain least_is read named made_is =
    made_ne r x w v (IsSmall-among others domain w (least-among others w (sym least_is))) read named made_is
    ∙ ap (λ o. option_map (other_than x) o) (least_is ∙ ap least f)
    ∙ sym (first_absent bound (hole_by xs good x) none) ∙ ap (λ o. or_else o (hole_by xs good x)) e

-- a number that is no value
pub nothing_taken : (xs ys : List ℤ) (x : ℕ) (v w : ℤ) (a : Atomic) → ys ≡ xs → IsSmall v → w ≡ to_z w64 (of_z w64 v) → a ≡ other_than x w → list_all (meets a) ys ≡ true → None ≡ atom_by xs (filter (meets (other_than x v)) xs) x
nothing_taken xs ys x v w a same small read is all =
    let s : a ≡ other_than x v = is ∙ ap (other_than x) (read ∙ small_read v small) in
    sym (atom_whole xs (filter (meets (other_than x v)) xs) x
    (filter-whole (meets (other_than x v)) xs (sym (ap (λ b. list_all (meets b) ys) s ∙ ap (λ zs. list_all (meets (other_than x v)) zs) same) ∙ all)))

-- its atom can be named
pub always_made : (r : Option Atomic) (v w : ℤ) (P : Type 0) → IsSmall v → w ≡ to_z w64 (of_z w64 v) → (IsSome r ↔ IsNameable Ne w) → r ≡ None → P
always_made (Some a) v w P small read named none = absurd (false≢true (ap is_some (sym none)))
always_made None v w P small read named none = absurd (false≢true (named.1 (subst (IsNameable Ne) (sym (read ∙ small_read v small)) (nameable-ne v small))))

-- ---- quotients

same_apart : (a w v n : ℤ) → ¬ (a ≡ pos 0) → a *ℤ v ≡ n → is_same (a *ℤ w) n ≡ is_same w v
same_apart a w v n some e = elim (cases_Bool (is_same w v)) [
  | inl t ↦ is_same_where (a *ℤ w) n (ap (λ z. a *ℤ z) (same_where w v t) ∙ e) ∙ sym t
  | inr t ↦ false_from_ne_true (is_same (a *ℤ w) n) (λ s. both_ways (is_same w v) t (is_same_where w v (times-cancel a w v some (same_where (a *ℤ w) n s ∙ sym e)))) ∙ sym t
]

coefficient_bits : (a : ℤ) → IsBounded (10 ^ 16) a → to_z w64 (of_z w64 a) ≡ a
coefficient_bits a h = omega (arith, ints, h.0, h.1)

number_bits : (n : ℤ) → IsBounded (10 ^ 38) n → to_z w128 (of_z w128 n) ≡ n
number_bits n h = omega (arith, ints, h.0, h.1)

pub quotient_found : (a n v : ℤ) (d : Domains) (x : ℕ) (r : Result (Option Atomic) Memory) → ¬ (a ≡ pos 0) → IsBounded (10 ^ 16) a → IsBounded (10 ^ 38) n → IsSmall v × (to_z w64 (of_z w64 a) *ℤ v ≡ to_z w128 (of_z w128 n))
    → IfOk r (λ o. o ≡ atom_by (values d x) (filter (meets (other_than x (to_z w64 (of_z w64 v)))) (values d x)) x) → IfOk r (λ o. o ≡ atom_by (values d x) (unequal n d (a, x)) x)
quotient_found a n v d x r some ba bn is found =
    let product : a *ℤ v ≡ n = ap (λ z. z *ℤ v) (sym (coefficient_bits a ba)) ∙ is.1 ∙ number_bits n bn in
    IfOk-weaker r (λ o. o ≡ atom_by (values d x) (filter (meets (other_than x (to_z w64 (of_z w64 v)))) (values d x)) x) (λ o. o ≡ atom_by (values d x) (unequal n d (a, x)) x)
    (λ o e. e ∙ ap (λ z. atom_by (values d x) (filter (meets (other_than x z)) (values d x)) x) (small_read v is.0)
    ∙ ap (λ ys. atom_by (values d x) ys x) (sym (filter-same (λ w. not (is_same (a *ℤ w) n)) (meets (other_than x v)) (values d x) (λ w here. ap not (same_apart a w v n some product))))) found

pub quotient_none : (a n : ℤ) (d : Domains) (x : ℕ) → IsBounded (10 ^ 16) a → IsBounded (10 ^ 38) n → IsDomain (values d x) → ((v : ℤ) → IsSmall v → to_z w64 (of_z w64 a) *ℤ v ≡ to_z w128 (of_z w128 n) → ⊥) → None ≡ atom_by (values d x) (unequal n d (a, x)) x
quotient_none a n d x ba bn domain none =
    sym (atom_whole (values d x) (unequal n d (a, x)) x (filter-whole (λ w. not (is_same (a *ℤ w) n)) (values d x) (list_all-from (λ w. not (is_same (a *ℤ w) n)) (values d x) (λ w here.
    not_from_false (is_same (a *ℤ w) n) (false_from_ne_true (is_same (a *ℤ w) n) (λ s. none w (IsSmall-among (values d x) domain w here)
    (ap (λ z. z *ℤ w) (coefficient_bits a ba) ∙ same_where (a *ℤ w) n s ∙ sym (number_bits n bn))))))))

-- ---- the term at a place

pub term_same : (us ts : List (ℤ × ℕ)) (i : ℕ) (t : ℤ × ℕ) → us ≡ ts → i < length ts → get_or us i t ≡ term_at ts i
term_same us ts i t same h = ap (λ zs. get_or zs i t) same ∙ get_or_default ts i t (pos 0, 0) h

pub coefficient_at : (q : Linear) (us : List (ℤ × ℕ)) (i : ℕ) (t : ℤ × ℕ) → IsProper q → us ≡ q.terms → i < length q.terms → to_z w64 (of_z w64 (get_or us i t).0) ≡ (term_at q.terms i).0
coefficient_at q us i t proper same h =
    ap (λ (u : ℤ × ℕ). to_z w64 (of_z w64 u.0)) (term_same us q.terms i t same h) ∙ coefficient_bits (term_at q.terms i).0 (proper.good i h).bounded

pub place_covered : (q : Linear) (d : Domains) (us : List (ℤ × ℕ)) (i : ℕ) (t : ℤ × ℕ) → Covers (scope_of q) d → us ≡ q.terms → i < length q.terms → (get_or us i t).1 < length d
place_covered q d us i t covers same h =
    subst (λ (u : ℤ × ℕ). u.1 < length d) (sym (term_same us q.terms i t same h))
    (Each-among (λ x. x < length d) (variables q.terms) (terms_covered q d covers) (term_at q.terms i).1 (variable_of q.terms (term_at q.terms i) (Among-get_or q.terms i (pos 0, 0) h)))

pub place_domain : (q : Linear) (d : Domains) (us : List (ℤ × ℕ)) (i : ℕ) (t : ℤ × ℕ) → HaveDomains q.terms d → us ≡ q.terms → i < length q.terms → IsDomain (values d (get_or us i t).1)
place_domain q d us i t domains same h =
    subst (λ (u : ℤ × ℕ). IsDomain (values d u.1)) (sym (term_same us q.terms i t same h))
    (Each-among (λ (t : ℤ × ℕ). IsDomain (values d t.1)) q.terms domains (term_at q.terms i) (Among-get_or q.terms i (pos 0, 0) h))
