-- A schedule shows what it was made of.
use Rattle.std.specs.Prelude.{◌≡◌, suc, List, [], ◌∷◌, length, map, unsigned_abs, ℤ, pos, negsuc}
use Rattle.std.specs.List.{zip}
use Rattle.std.proofs.Common.{refl, arith}
use Rattle.std.proofs.lemmas.Int.{ints}
use Rattle.dp_domain.specs.declared.term.Term.{Term}
use Rattle.dp_rule_cumulative.specs.Refusals.{AreGood, IsAllowed, IsProper}
use Rattle.dp_rule_cumulative.specs.Schedules.{Given, schedule_of, starts, task_of}
use Rattle.dp_rule_cumulative.specs.declared.task.Task.{Task}
use Rattle.dp_rule_cumulative.proofs.MadeSteps.{starts_made}

-- a number that is allowed is not negative
allowed : (v : ℤ) → IsAllowed v → pos (unsigned_abs v) ≡ v
allowed (pos n) h = refl
allowed (negsuc n) h = absurd (omega (arith, ints))

good_later : (d u : ℤ) (ds us : List ℤ) → AreGood (d ∷ ds) (u ∷ us) → AreGood ds us
good_later d u ds us good = λ k h. let g = good (suc k) (omega arith) in record { duration = g.duration; usage = g.usage }

same_front : (x y : ℤ) (xs ys : List ℤ) → x ≡ y → xs ≡ ys → x ∷ xs ≡ y ∷ ys
same_front x y xs ys e f = cc

durations_from : (ss : List Term) (ds us : List ℤ) → length ds ≡ length ss → length us ≡ length ss → AreGood ds us → map (λ (k : Task). pos k.duration) (map task_of (zip ss (zip ds us))) ≡ ds
durations_from [] [] us e f good = refl
durations_from [] (d ∷ ds) us e f good = absurd (omega arith)
durations_from (s ∷ ss) [] us e f good = absurd (omega arith)
durations_from (s ∷ ss) (d ∷ ds) [] e f good = absurd (omega arith)
durations_from (s ∷ ss) (d ∷ ds) (u ∷ us) e f good =
    same_front (pos (unsigned_abs d)) d _ ds (allowed d (good 0 (omega arith)).duration) (durations_from ss ds us (omega arith) (omega arith) (good_later d u ds us good))

uses_from : (ss : List Term) (ds us : List ℤ) → length ds ≡ length ss → length us ≡ length ss → AreGood ds us → map (λ (k : Task). pos k.usage) (map task_of (zip ss (zip ds us))) ≡ us
uses_from [] ds [] e f good = refl
uses_from [] ds (u ∷ us) e f good = absurd (omega arith)
uses_from (s ∷ ss) [] us e f good = absurd (omega arith)
uses_from (s ∷ ss) (d ∷ ds) [] e f good = absurd (omega arith)
uses_from (s ∷ ss) (d ∷ ds) (u ∷ us) e f good =
    same_front (pos (unsigned_abs u)) u _ us (allowed u (good 0 (omega arith)).usage) (uses_from ss ds us (omega arith) (omega arith) (good_later d u ds us good))

-- the schedule has the starts, the durations, the uses and the capacity that were given
pub record Shows (g : Given) : Type 0 where
  pub starts : starts (schedule_of g).tasks ≡ g.starts
  pub durations : map (λ (k : Task). pos k.duration) (schedule_of g).tasks ≡ g.durations
  pub uses : map (λ (k : Task). pos k.usage) (schedule_of g).tasks ≡ g.uses
  pub capacity : pos (schedule_of g).capacity ≡ g.capacity

pub shown : (g : Given) → IsProper g → Shows g
shown g proper = record {
  starts = starts_made g.starts g.durations g.uses proper.even.durations proper.even.uses;
  durations = durations_from g.starts g.durations g.uses proper.even.durations proper.even.uses proper.good;
  uses = uses_from g.starts g.durations g.uses proper.even.durations proper.even.uses proper.good;
  capacity = allowed g.capacity proper.capacity;
}
