-- What everything above a problem sees of it: names, initial domains, tests and a goal.
use Rattle.std.specs.Prelude.{◌≡◌, ℕ, ◌<◌, List, length, ℤ, false}
use Rattle.dp_base.specs.Lists.{Each}
use Rattle.dp_domain.specs.States.{Domains, LiesIn}
use Rattle.dp_domain.specs.Faces.{Face, Covers, IsLawful}
use Rattle.dp_parts.specs.declared.goal.Goal.{Goal}

-- a part of a constraint: the label of its kind, and its face
pub record Labelled : Type 0 where
  pub label : List ℕ
  pub face : Face

-- a problem: the names of its variables, what each variable may be at first, the parts of each
-- constraint in order, and the goal
pub record Posed : Type 0 where
  pub names : List (List ℕ × ℕ)
  pub initial : Domains
  pub constraints : List (List Labelled)
  pub goal : Goal

-- the part's test has the laws of every test, and speaks of variables that there are
pub record IsSoundPart (variables : ℕ) (part : Labelled) : Type 0 where
  pub lawful : IsLawful part.face
  pub covered : Each (λ x. x < variables) part.face.scope

-- each part of each constraint is such
abbrev pub IsSoundlyPosed : Posed → Type 0
IsSoundlyPosed p = Each (Each (IsSoundPart (length p.initial))) p.constraints

-- the assignment passes a test: it clashes at no state that the assignment lies in
abbrev pub Passes : (ℕ → ℤ) → Face → Type 0
Passes s face = (d : Domains) → Covers face.scope d → LiesIn s d → face.test d ≡ false

-- the assignment lies in the initial domains, and passes the test of every part
pub record Solves (s : ℕ → ℤ) (p : Posed) : Type 0 where
  pub within : LiesIn s p.initial
  pub passes : Each (Each (λ part. Passes s part.face)) p.constraints
