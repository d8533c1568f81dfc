-- Which refusal the constructor gives: the first in order that applies.
use Rattle.std.specs.Prelude.{◌≡◌, ℕ, ◌^◌, ◌<◌, ◌≤◌, length, List, get_or, ℤ, pos, ◌≤ℤ◌}
use Rattle.dp_rule_cumulative.specs.Schedules.{Given}
use Rattle.dp_rule_cumulative.specs.declared.refusal.TaskRefusal.{TaskRefusal}
use Rattle.dp_rule_cumulative.specs.declared.refusal.TaskRefusal.TheVariants.{BadLength, TooMany, BadTask, BadCapacity, Memory}

-- each start has a duration and a use
pub record AreEven (g : Given) : Type 0 where
  pub durations : length g.durations ≡ length g.starts
  pub uses : length g.uses ≡ length g.starts

-- there are at most 2,000,000 tasks
abbrev pub AreFew : Given → Type 0
AreFew g = length g.starts ≤ 2000000

-- within 0..10^9
abbrev pub IsAllowed : ℤ → Type 0
IsAllowed v = (pos 0 ≤ℤ v) × (v ≤ℤ pos (10 ^ 9))

-- the duration and the use at the place are within 0..10^9
pub record IsGoodAt (durations uses : List ℤ) (k : ℕ) : Type 0 where
  pub duration : IsAllowed (get_or durations k (pos 0))
  pub usage : IsAllowed (get_or uses k (pos 0))

-- those at each place are
abbrev pub AreGood : List ℤ → List ℤ → Type 0
AreGood durations uses = (k : ℕ) → k < length durations → IsGoodAt durations uses k

-- the place is the first at which they are not
pub record IsFirstBad (durations uses : List ℤ) (k : ℕ) : Type 0 where
  pub place : k < length durations
  pub before : (j : ℕ) → j < k → IsGoodAt durations uses j
  pub bad : ¬ (IsGoodAt durations uses k)

-- what the constructor makes sure of
pub record IsProper (g : Given) : Type 0 where
  pub even : AreEven g
  pub few : AreFew g
  pub good : AreGood g.durations g.uses
  pub capacity : IsAllowed g.capacity

-- the refusal is the first in order that applies; memory is wanted only for what is proper
abbrev pub IsRefused : TaskRefusal → Given → Type 0
IsRefused BadLength g = ¬ (AreEven g)
IsRefused TooMany g = AreEven g × (2000000 < length g.starts)
IsRefused (BadTask k) g = AreEven g × AreFew g × IsFirstBad g.durations g.uses k
IsRefused BadCapacity g = AreEven g × AreFew g × AreGood g.durations g.uses × (¬ (IsAllowed g.capacity))
IsRefused (Memory m) g = IsProper g
