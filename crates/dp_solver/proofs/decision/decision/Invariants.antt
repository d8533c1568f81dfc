-- Each variable so far has one value.
use Rattle.std.proofs.Common.{◌≡◌, ℕ, ◌<◌, false, [], ◌∷◌}
use Rattle.dp_domain.specs.States.{is_dead, values}
use Rattle.dp_solver.specs.Descents.{lowest}
use Rattle.dp_solver.proofs.decision.decision.Given as goal

abbrev pub invariant-loop-place : goal.invariant-loop-place
invariant-loop-place l = is_dead l.state ≡ false → (x : ℕ) → x < l.place → values l.state x ≡ lowest (values l.state x) ∷ []
