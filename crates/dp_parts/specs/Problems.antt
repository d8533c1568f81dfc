-- Problems: names, initial domains, the parts of each constraint, and a goal.
use Rattle.std.specs.Prelude.{◌≡◌, ℕ, ◌^◌, ◌<◌, true, List, length, map, slice_get, Some, ℤ}
use Rattle.dp_base.specs.Lists.{Each}
use Rattle.dp_domain.specs.Faces.{Covers}
use Rattle.dp_domain.specs.States.{Domains, LiesIn}
use Rattle.dp_parts.specs.declared.goal.Goal.{Goal}
use Rattle.dp_parts.specs.declared.goal.Goal.TheVariants.{Satisfy, Minimize, Maximize}
use Rattle.dp_parts.specs.declared.part.Part.{Part}
use Rattle.dp_base.specs.Names.{is_name, named}
use Rattle.dp_parts.specs.Parts.{MeetsPart, face_of, label_of}
use Rattle.dp_parts.specs.Posed.{Labelled, Posed}

-- every name of a variable, aliases included, in order of declaration; for each variable the place of
-- its own name; what it may be at first; the parts of each constraint in order; the goal
pub record Csp : Type 0 where
  pub names : List (List ℕ × ℕ)
  pub own : List ℕ
  pub initial : Domains
  pub parts : List (List Part)
  pub goal : Goal

-- each entry's name leads to its variable: no name stands twice
abbrev pub LeadBack : List (List ℕ × ℕ) → Type 0
LeadBack names = (place x : ℕ) (name : List ℕ) → slice_get names place ≡ Some (name, x) → named names name ≡ Some x

-- the goal's variable is below the number of variables
abbrev pub IsGoalOf : ℕ → Goal → Type 0
IsGoalOf variables Satisfy = Unit {0}
IsGoalOf variables (Minimize x) = x < variables
IsGoalOf variables (Maximize x) = x < variables

-- what every problem keeps: all that it speaks of is there
pub record IsProblem (p : Csp) : Type 0 where
  pub names : Each (λ e. e.1 < length p.initial) p.names
  pub spelled : Each (λ e. is_name e.0 ≡ true) p.names
  pub owned : length p.own ≡ length p.initial
  pub own : (x place : ℕ) → slice_get p.own x ≡ Some place → (name : List ℕ) × (slice_get p.names place ≡ Some (name, x))
  pub parts : Each (Each (λ q. Covers (face_of q).scope p.initial)) p.parts
  pub goal : IsGoalOf (length p.initial) p.goal
  pub few_names : length p.names < 2 ^ 32
  pub few_variables : length p.initial < 2 ^ 32
  pub few_constraints : length p.parts < 2 ^ 32
  pub few_parts : Each (λ ps. length ps < 2 ^ 32) p.parts

-- a part as its label and its face
abbrev pub labelled : Part → Labelled
labelled q = record { label = label_of q; face = face_of q }

-- the problem as it is judged: by the faces of its parts
abbrev pub posed : Csp → Posed
posed p = record { names = p.names; initial = p.initial; constraints = map (map labelled) p.parts; goal = p.goal }

-- the assignment lies in the initial domains and meets every part
pub record IsSolution (s : ℕ → ℤ) (p : Csp) : Type 0 where
  pub within : LiesIn s p.initial
  pub meets : Each (Each (λ q. MeetsPart q s)) p.parts
