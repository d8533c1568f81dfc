-- The atoms of all steps in one list.
use Rattle.std.specs.Prelude.{ℕ, ◌-◌, ◌≤◌, List, map, length, take, drop}
use Rattle.dp_base.specs.Lists.{Each}
use Rattle.dp_domain.specs.Atoms.{Atomic}
use Rattle.dp_checker.specs.declared.steps.Run.{Run}

-- the atoms of one step
abbrev pub run_of : List Atomic → Run → List Atomic
run_of atoms r = take (r.end - r.start) (drop r.start atoms)

-- the steps by their numbers
abbrev pub steps_of : List Atomic → List (ℕ × Run) → List (ℕ × List Atomic)
steps_of atoms runs = map (λ e. (e.0, run_of atoms e.1)) runs

-- the step's atoms are in the list
pub record IsStored (atoms : List Atomic) (r : Run) : Type 0 where
  pub order : r.start ≤ r.end
  pub within : r.end ≤ length atoms

-- the atoms of each step are
abbrev pub AreStored : List Atomic → List (ℕ × Run) → Type 0
AreStored atoms runs = Each (λ e. IsStored atoms e.1) runs
