-- The test of each constraint is true exactly where its meaning holds.
use Rattle.std.proofs.Common.{◌≡◌, ℕ, zero, suc, ◌+◌, Bool, true, false, not, ◌↔◌, IsTrue, Option, Some, None, List, [], ◌∷◌, slice_get, ℤ, pos, negsuc, refl, sym, ◌∙◌, ap, subst, arith}
use Rattle.std.specs.Option.{option_map_or}
use Rattle.std.specs.Ordering.{int_eq}
use Rattle.std.proofs.lemmas.Bool.{false≢true, and_from, and_parts, both_ways, false_from_ne_true, not_from_false}
use Rattle.std.proofs.lemmas.Bool.Decides.{Decides-int_eq}
use Rattle.dp_domain.specs.Sets.{is_among}
use Rattle.dp_domain.proofs.ShareLaws.{is_among-at, is_among-some}
use Rattle.fz_model.specs.declared.kinds.ConstraintKind.{ConstraintKind}
use Rattle.fz_model.specs.declared.kinds.ConstraintKind.TheVariants as of
use Rattle.fz_sat.specs.Globals.{AreDistinct, IsEntryAt, are_distinct, is_entry_at, tasks_of}
use Rattle.fz_sat.specs.Meaning.{Given, Meaning, holds}
use Rattle.fz_sat.proofs.Capacity.{capacity_exact}

-- ---- entries

found : (o : Option ℤ) (value : ℤ) → option_map_or (λ entry. int_eq entry value) o false ≡ true → o ≡ Some value
found None value e = absurd (false≢true e)
found (Some entry) value e = ap Some ((Decides-int_eq entry value).0 e)

entry_from : (array : List ℤ) (index value : ℤ) → is_entry_at array index value ≡ true → IsEntryAt array index value
entry_from array (pos zero) value e = absurd (false≢true e)
entry_from array (pos (suc place)) value e = (place, ap pos (next place), found (slice_get array place) value e)
  where
    next : (n : ℕ) → suc n ≡ n + 1
    next n = omega arith
entry_from array (negsuc n) value e = absurd (false≢true e)

entry_to : (array : List ℤ) (index value : ℤ) → IsEntryAt array index value → is_entry_at array index value ≡ true
entry_to array index value at =
    subst (λ i. is_entry_at array i value ≡ true) (sym (at.1 ∙ ap pos (next at.0)))
    (ap (λ o. option_map_or (λ entry. int_eq entry value) o false) at.2 ∙ (Decides-int_eq value value).1 refl)
  where
    next : (n : ℕ) → n + 1 ≡ suc n
    next n = omega arith

pub entry_exact : (array : List ℤ) (index value : ℤ) → is_entry_at array index value ≡ true ↔ IsEntryAt array index value
entry_exact array index value = (entry_from array index value, entry_to array index value)

-- ---- numbers that differ

is_apart : (b : Bool) → not b ≡ true → b ≡ false
is_apart true e = absurd (false≢true e)
is_apart false e = refl

distinct_from : (vs : List ℤ) → are_distinct vs ≡ true → AreDistinct vs
distinct_from [] e = tt
distinct_from (v ∷ vs) e =
    let both = and_parts (not (is_among v vs)) (are_distinct vs) e in
    (λ here. both_ways (is_among v vs) (is_apart (is_among v vs) both.0) (is_among-at v vs here), distinct_from vs both.1)

distinct_to : (vs : List ℤ) → AreDistinct vs → are_distinct vs ≡ true
distinct_to [] distinct = refl
distinct_to (v ∷ vs) distinct =
    and_from (not (is_among v vs)) (are_distinct vs)
    (not_from_false (is_among v vs) (false_from_ne_true (is_among v vs) (λ e. distinct.0 (is_among-some v vs e))))
    (distinct_to vs distinct.1)

pub distinct_exact : (vs : List ℤ) → are_distinct vs ≡ true ↔ AreDistinct vs
distinct_exact vs = (distinct_from vs, distinct_to vs)

-- ---- the table

-- the test of each constraint is true exactly where its meaning holds
pub meaning_exact : (kind : ConstraintKind) (g : Given) → IsTrue (holds kind g) ↔ Meaning kind g
meaning_exact of.ArrayIntElement g = entry_exact (g.numbers 1) (g.number 0) (g.number 2)
meaning_exact of.ArrayVarIntElement g = entry_exact (g.numbers 1) (g.number 0) (g.number 2)
meaning_exact of.ArrayBoolElement g = entry_exact (g.numbers 1) (g.number 0) (g.number 2)
meaning_exact of.ArrayVarBoolElement g = entry_exact (g.numbers 1) (g.number 0) (g.number 2)
meaning_exact of.AllDifferentInt g = distinct_exact (g.numbers 0)
meaning_exact of.FznAllDifferentInt g = distinct_exact (g.numbers 0)
meaning_exact of.Cumulative g = capacity_exact (tasks_of (g.numbers 0) (g.numbers 1) (g.numbers 2)) (g.number 3)
meaning_exact of.FznCumulative g = capacity_exact (tasks_of (g.numbers 0) (g.numbers 1) (g.numbers 2)) (g.number 3)
meaning_exact kind g = (λ e. e, λ e. e)
