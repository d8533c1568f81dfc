-- The parts of tasks use what the tasks use that must run.
use Rattle.std.proofs.Common.{◌≡◌, ℕ, ◌+◌, nat_lt, Bool, true, false, List, [], ◌∷◌, ℤ, pos, ◌-ℤ◌, ◌≤ℤ◌, ◌<ℤ◌, int_le, int_lt, refl, sym, ◌∙◌, ap, arith}
use Rattle.std.specs.Prelude.{cond, ◌&&◌, ◌||◌}
use Rattle.std.specs.List.{filter, list_any, sum_by}
use Rattle.std.proofs.lemmas.Int.{ints}
use Rattle.std.proofs.lemmas.Bool.{both_ways, false_from_ne_true}
use Rattle.std.proofs.lemmas.List.Sums.{sum_by-cons}
use Rattle.dp_domain.specs.States.{Domains}
use Rattle.dp_domain.proofs.TestLaws.{same_tests}
use Rattle.dp_rule_cumulative.specs.Profiles.{has_time, holds_at, is_exceeded, part_of, parts_of, used_at}
use Rattle.dp_rule_cumulative.specs.Schedules.{earliest_end, latest_start, must_run, usage_of}
use Rattle.dp_rule_cumulative.specs.TimeTable.{has_overload, starts_overload}
use Rattle.dp_rule_cumulative.specs.UsageLaws.{during_from, during_parts, usage}
use Rattle.dp_rule_cumulative.specs.declared.profile.Part.{Part}
use Rattle.dp_rule_cumulative.specs.declared.task.Task.{Task}

-- ---- times

before_end : (t e : ℤ) → int_le t (e -ℤ pos 1) ≡ true → t <ℤ e
before_end t e h = omega (arith, ints)

until_end : (t e : ℤ) → t <ℤ e → int_le t (e -ℤ pos 1) ≡ true
until_end t e h = sym (omega (arith, ints))

less_test : (t e : ℤ) → t <ℤ e → int_lt t e ≡ true
less_test t e h = sym (omega (arith, ints))

from_less_test : (t e : ℤ) → int_lt t e ≡ true → t <ℤ e
from_less_test t e h = omega (arith, ints)

-- the time is before the end where it is at most the last time
last_test : (t e : ℤ) → int_le t (e -ℤ pos 1) ≡ int_lt t e
last_test t e = same_tests (int_le t (e -ℤ pos 1)) (int_lt t e) (λ h. less_test t e (before_end t e h)) (λ h. until_end t e (from_less_test t e h))

-- a part holds where its task must run
holds_where : (d : Domains) (t : ℤ) (k : Task) → holds_at t (part_of d k) ≡ must_run d t k
holds_where d t k = ap (λ b. int_le (latest_start d k) t && b) (last_test t (earliest_end d k))

between : (a t e : ℤ) → a ≤ℤ t → t <ℤ e → a <ℤ e
between a t e h k = omega (arith, ints)

-- without a part the task need not run at any time
idle : (d : Domains) (t : ℤ) (k : Task) → has_time (part_of d k) ≡ false → must_run d t k ≡ false
idle d t k e = false_from_ne_true (must_run d t k) (λ runs.
    let s = during_parts (latest_start d k) (earliest_end d k) t runs in
    both_ways (has_time (part_of d k)) e (until_end (latest_start d k) (earliest_end d k) (between (latest_start d k) t (earliest_end d k) s.0 s.1)))

-- ---- sums

same_sum : (a b m n x y : ℕ) → x ≡ a + m → y ≡ b + n → a ≡ b → m ≡ n → x ≡ y
same_sum a b m n x y e f g h = omega arith

part_step : (p : Part) (k : Task) (ps : List Part) (ks : List Task) (b : Bool) → p.usage ≡ k.usage → sum_by (λ (p : Part). p.usage) ps ≡ sum_by usage ks → sum_by (λ (p : Part). p.usage) (cond b (p ∷ ps) ps) ≡ sum_by usage (cond b (k ∷ ks) ks)
part_step p k ps ks true e h = same_sum p.usage k.usage (sum_by (λ (p : Part). p.usage) ps) (sum_by usage ks) _ _ (sum_by-cons (λ (p : Part). p.usage) p ps) (sum_by-cons usage k ks) e h
part_step p k ps ks false e h = h

used_step : (d : Domains) (t : ℤ) (k : Task) (ks : List Task) (b : Bool) → has_time (part_of d k) ≡ b → used_at t (parts_of d ks) ≡ usage_of (must_run d t) ks → used_at t (cond b (part_of d k ∷ parts_of d ks) (parts_of d ks)) ≡ usage_of (must_run d t) (k ∷ ks)
used_step d t k ks true e h =
    part_step (part_of d k) k (filter (holds_at t) (parts_of d ks)) (filter (must_run d t) ks) (holds_at t (part_of d k)) refl h
    ∙ ap (λ b. sum_by usage (cond b (k ∷ filter (must_run d t) ks) (filter (must_run d t) ks))) (holds_where d t k)
used_step d t k ks false e h = h ∙ sym (ap (λ b. sum_by usage (cond b (k ∷ filter (must_run d t) ks) (filter (must_run d t) ks))) (idle d t k e))

-- the parts use at each time what the tasks use that must run then
pub used-is : (d : Domains) (t : ℤ) (ks : List Task) → used_at t (parts_of d ks) ≡ usage_of (must_run d t) ks
used-is d t [] = refl
used-is d t (k ∷ ks) = used_step d t k ks (has_time (part_of d k)) refl (used-is d t ks)

-- ---- overloads

-- a test of what a filter keeps of mapped items
any_step : (q : Part → Bool) (p : Part) (ps : List Part) (b : Bool) → list_any q (cond b (p ∷ ps) ps) ≡ ((b && q p) || list_any q ps)
any_step q p ps true = refl
any_step q p ps false = refl

overload_step : (capacity : ℕ) (d : Domains) (ks : List Task) (k : Task) → (has_time (part_of d k) && nat_lt capacity (used_at (latest_start d k) (parts_of d ks))) ≡ starts_overload capacity ks d k
overload_step capacity d ks k =
    ap (λ n. has_time (part_of d k) && nat_lt capacity n) (used-is d (latest_start d k) ks)
    ∙ ap (λ b. b && nat_lt capacity (usage_of (must_run d (latest_start d k)) ks)) (time_where d k)
  where
    le_refl : (a : ℤ) → a ≤ℤ a
    le_refl a = omega (arith, ints)

    time_where : (d : Domains) (k : Task) → has_time (part_of d k) ≡ must_run d (latest_start d k) k
    time_where d k = same_tests (has_time (part_of d k)) (must_run d (latest_start d k) k)
        (λ h. during_from (latest_start d k) (earliest_end d k) (latest_start d k) (le_refl (latest_start d k)) (before_end (latest_start d k) (earliest_end d k) h))
        (λ h. until_end (latest_start d k) (earliest_end d k) (during_parts (latest_start d k) (earliest_end d k) (latest_start d k) h).1)

overloads : (capacity : ℕ) (d : Domains) (ks js : List Task) → list_any (λ (p : Part). nat_lt capacity (used_at p.from (parts_of d ks))) (parts_of d js) ≡ list_any (starts_overload capacity ks d) js
overloads capacity d ks [] = refl
overloads capacity d ks (j ∷ js) =
    any_step (λ (p : Part). nat_lt capacity (used_at p.from (parts_of d ks))) (part_of d j) (parts_of d js) (has_time (part_of d j))
    ∙ ap (λ b. b || list_any (λ (p : Part). nat_lt capacity (used_at p.from (parts_of d ks))) (parts_of d js)) (overload_step capacity d ks j)
    ∙ ap (λ b. starts_overload capacity ks d j || b) (overloads capacity d ks js)

-- more than the capacity is used at the first time of a part exactly where a task starts an overload
pub exceeded-is : (capacity : ℕ) (d : Domains) (ks : List Task) → is_exceeded capacity (parts_of d ks) ≡ has_overload capacity ks d
exceeded-is capacity d ks = overloads capacity d ks ks
