-- A task must run at a time exactly where it runs then from each of its starts.
use Rattle.std.proofs.Common.{◌≡◌, ℕ, true, ◌↔◌, List, [], ◌∷◌, ℤ, pos, ◌+ℤ◌}
use Rattle.std.specs.Prelude.{unwrap_or}
use Rattle.dp_base.specs.Lists.{Among}
use Rattle.dp_domain.specs.Sets.{greatest, least}
use Rattle.dp_domain.specs.States.{Domains}
use Rattle.dp_domain.specs.Terms.{term_values}
use Rattle.dp_domain.proofs.SetLaws.{greatest_from-among, least_from-among}
use Rattle.dp_rule_cumulative.specs.Schedules.{earliest_end, is_during, latest_start, must_run}
use Rattle.dp_rule_cumulative.specs.UsageLaws.{during_from, during_parts, greatest-value, least-value, longer, wider}
use Rattle.dp_rule_cumulative.specs.declared.task.Task.{Task}

from_each : (xs : List ℤ) (n : ℕ) (t v : ℤ) → Among v xs → ((w : ℤ) → Among w xs → is_during w (w +ℤ pos n) t ≡ true) → is_during (unwrap_or (greatest xs) (pos 0)) (unwrap_or (least xs) (pos 0) +ℤ pos n) t ≡ true
from_each [] n t v here each = absurd here
from_each (x ∷ xs) n t v here each =
    let last = during_parts _ _ t (each _ (greatest_from-among x xs)) in
    let first = during_parts _ _ t (each _ (least_from-among x xs)) in
    during_from _ _ t last.0 first.1

pub must_run-each : (d : Domains) (t : ℤ) (k : Task) (v : ℤ) → Among v (term_values d k.start) → (must_run d t k ≡ true) ↔ ((w : ℤ) → Among w (term_values d k.start) → is_during w (w +ℤ pos k.duration) t ≡ true)
must_run-each d t k v here = (
  λ runs w there. wider (latest_start d k) (earliest_end d k) w (w +ℤ pos k.duration) t (greatest-value (term_values d k.start) w there) (longer _ w k.duration (least-value (term_values d k.start) w there)) runs,
  from_each (term_values d k.start) k.duration t v here,
)
