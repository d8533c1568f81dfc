-- The way down: propagation, decisions, conflicts.
use Rattle.std.specs.Prelude.{◌≡◌, ℕ, ◌<◌, true, false, List, ◌∷◌, [], length, ℤ, pos}
use Rattle.std.specs.Option.{unwrap_or}
use Rattle.dp_domain.specs.Atoms.{Atomic, negated}
use Rattle.dp_domain.specs.Sets.{least}
use Rattle.dp_domain.specs.States.{AreOf, Domains, IsWithin, cut_all, entails, entails_all, total, values}
use Rattle.dp_engine.specs.Engines.{Propagation}
use Rattle.dp_engine.specs.Placed.{Placed, turn_order}
use Rattle.dp_engine.specs.Runs.{follows}
use Rattle.dp_engine.specs.declared.turn.Turn.TheVariants.{Quiet}
use Rattle.dp_learning.specs.Learning.{IsAtRest, IsLearned, end_after}
use Rattle.dp_parts.specs.Problems.{Csp, posed}
use Rattle.dp_rule_clause.specs.Nogoods.{IsOnce}
use Rattle.dp_solver.specs.Marks.{IsEngineOf}
use Rattle.dp_solver.specs.declared.descent.Descent.{Descent}
use Rattle.dp_solver.specs.declared.descent.Descent.TheVariants.{Refuted, Fixed, Conflict}
use Rattle.dp_solver.specs.declared.descent.Level.{Level}
use Rattle.dp_solver.specs.declared.descent.Level.TheVariants as levels

-- ---- states

-- the least of the values; 0 where there is none
abbrev pub lowest : List ℤ → ℤ
lowest vs = unwrap_or (least vs) (pos 0)

-- each variable has one value left
abbrev pub IsFixed : Domains → Type 0
IsFixed d = (x : ℕ) → x < length d → values d x ≡ lowest (values d x) ∷ []

-- neither the atom nor its negation holds yet
pub record IsOpenAt (d : Domains) (a : Atomic) : Type 0 where
  pub variable : a.var < length d
  pub unsettled : entails d a ≡ false
  pub possible : entails d (negated a) ≡ false

-- each state at rest within the base is within the state
abbrev pub KeepsRest : List Placed → Domains → Domains → Type 0
KeepsRest parts base d = (e : Domains) → IsAtRest parts e → IsWithin e base → IsWithin e d

-- ---- decisions

-- propagation of the atoms rests at the present state
pub record IsDescending (p : Csp) (atoms : List Atomic) (e : Propagation) : Type 0 where
  pub engine : IsEngineOf p e
  pub variables : AreOf p.initial atoms
  pub once : IsOnce atoms
  pub within : IsWithin e.present p.initial
  pub entailed : entails_all e.present atoms ≡ true
  pub rests : IsAtRest (turn_order (posed p) e.nogoods) e.present
  pub keeps : KeepsRest (turn_order (posed p) e.nogoods) (cut_all p.initial atoms) e.present

-- a nogood that is learned, each atom once
pub record IsLearnable (p : Csp) (nogoods : List (List Atomic)) (atoms : List Atomic) : Type 0 where
  pub learned : IsLearned (posed p) nogoods atoms
  pub once : IsOnce atoms

-- one decision more: there was none; or a nogood is found; or propagation rests again, at fewer values
abbrev pub IsLevel : Csp → Propagation → List Atomic → Propagation → Level → Type 0
IsLevel p before atoms now levels.Fixed = IsFixed now.present × (now.present ≡ before.present)
IsLevel p before atoms now levels.Failed = IsLearnable p now.nogoods atoms
IsLevel p before atoms now levels.Rests = IsDescending p atoms now × IsWithin now.present before.present

-- where propagation rests again there are fewer values
abbrev pub IsLess : Domains → Domains → Level → Type 0
IsLess before now levels.Fixed = Unit {0}
IsLess before now levels.Failed = Unit {0}
IsLess before now levels.Rests = total now < total before

-- ---- where the way down ends

-- propagation rests where the atoms hold and each variable has one value
pub record IsReached (p : Csp) (nogoods : List (List Atomic)) (under : List Atomic) (d : Domains) : Type 0 where
  pub within : IsWithin d p.initial
  pub entailed : entails_all d under ≡ true
  pub rests : IsAtRest (turn_order (posed p) nogoods) d
  pub fixed : IsFixed d

-- propagation of the atoms rests; a nogood is found beyond
pub record IsConflict (p : Csp) (nogoods : List (List Atomic)) (under atoms : List Atomic) : Type 0 where
  pub rests : end_after (posed p) nogoods under ≡ Quiet
  pub found : IsLearnable p nogoods atoms

-- propagation of the atoms fails; or the way down under them ends at a solution; or it ends in a conflict
abbrev pub IsDescent : Csp → List (List Atomic) → List Atomic → Domains → Descent → Type 0
IsDescent p nogoods under d Refuted = follows (posed p) nogoods under ≡ true
IsDescent p nogoods under d Fixed = IsReached p nogoods under d
IsDescent p nogoods under d (Conflict atoms) = IsConflict p nogoods under atoms.items
