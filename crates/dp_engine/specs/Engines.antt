-- What contracts see of an engine.
use Rattle.std.specs.Prelude.{◌≡◌, ℕ, ◌^◌, ◌<◌, ◌≤◌, List, [], ◌∷◌, ◌++◌, length}
use Rattle.dp_base.specs.Lists.{Each}
use Rattle.dp_domain.specs.Atoms.{Atomic}
use Rattle.dp_domain.specs.States.{AreOf, Domains}
use Rattle.dp_parts.specs.Problems.{Csp, IsProblem, posed}
use Rattle.dp_engine.specs.Placed.{Placed, turn_order}

-- a problem, nogoods, the states so far, the present one, and the number of searches that are owed
pub record Propagation : Type 0 where
  pub problem : Csp
  pub nogoods : List (List Atomic)
  pub past : List Domains
  pub present : Domains
  pub owed : ℕ

-- its parts in the order of turns
abbrev pub parts_of : Propagation → List Placed
parts_of e = turn_order (posed e.problem) e.nogoods

-- its states in order, the present one last
abbrev pub states : Propagation → List Domains
states e = e.past ++ e.present ∷ []

-- each of the states has so many variables
abbrev pub HaveCount : ℕ → List Domains → Type 0
HaveCount n ds = Each (λ d. length d ≡ n) ds

-- what every engine keeps: its nogoods and states are of the problem's variables, and no more searches are owed than there are parts
pub record IsEngine (e : Propagation) : Type 0 where
  pub problem : IsProblem e.problem
  pub few : length e.nogoods < 2 ^ 32
  pub nogoods : Each (AreOf e.problem.initial) e.nogoods
  pub states : HaveCount (length e.problem.initial) (states e)
  pub owed : e.owed ≤ length (parts_of e)

-- it stands at the initial state of the problem, with these nogoods
pub record Starts (p : Csp) (ns : List (List Atomic)) (e : Propagation) : Type 0 where
  pub problem : e.problem ≡ p
  pub nogoods : e.nogoods ≡ ns
  pub past : e.past ≡ []
  pub present : e.present ≡ p.initial

-- the problem and the nogoods are those before
pub record KeepsParts (before now : Propagation) : Type 0 where
  pub problem : now.problem ≡ before.problem
  pub nogoods : now.nogoods ≡ before.nogoods

-- the states are those before
pub record KeepsStates (before now : Propagation) : Type 0 where
  pub past : now.past ≡ before.past
  pub present : now.present ≡ before.present

-- the states begin with those before
abbrev pub Begins : List Domains → List Domains → Type 0
Begins before now = (more : List Domains) × (now ≡ before ++ more)

-- the engine's states begin with those before
abbrev pub Extends : Propagation → Propagation → Type 0
Extends before now = Begins (states before) (states now)
