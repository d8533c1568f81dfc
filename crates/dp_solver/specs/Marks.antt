-- What is asked of a search, and an engine that stands on it.
use Rattle.std.specs.Prelude.{◌≡◌, ℕ, ◌≤◌, [], length, get_or}
use Rattle.dp_base.specs.Lists.{Each}
use Rattle.dp_domain.specs.States.{AreOf, Domains}
use Rattle.dp_engine.specs.Engines.{Propagation, states}
use Rattle.dp_learning.specs.Solutions.{cut_problem}
use Rattle.dp_parts.specs.Problems.{Csp, IsProblem}
use Rattle.dp_solver.specs.declared.task.Task.{Task}

-- the problem that is to be solved
abbrev pub asked : Task → Csp
asked t = cut_problem t.problem.now t.atoms.now t.goal

-- ---- the engine

-- the state at the mark
abbrev pub state_at : ℕ → Propagation → Domains
state_at mark e = get_or (states e) mark []

-- an engine of the problem's constraints, whose nogoods are on its variables
pub record IsEngineOf (p : Csp) (e : Propagation) : Type 0 where
  pub problem : IsProblem p
  pub parts : e.problem.parts ≡ p.parts
  pub variables : length e.problem.initial ≡ length p.initial
  pub nogoods : Each (AreOf p.initial) e.nogoods

-- at the mark it stands at the problem's initial domains
pub record IsOn (p : Csp) (mark : ℕ) (e : Propagation) : Type 0 where
  pub engine : IsEngineOf p e
  pub marked : mark ≤ length e.past
  pub root : state_at mark e ≡ p.initial
