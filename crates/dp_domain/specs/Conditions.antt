-- Conditions: an atom that a part waits for, or none.
use Rattle.std.specs.Prelude.{◌≡◌, ℕ, Bool, true, false, Option, Some, None, List, ◌∷◌, ℤ}
use Rattle.dp_base.specs.Lists.{Among}
use Rattle.dp_domain.specs.Atoms.{Atomic, meets}
use Rattle.dp_domain.specs.States.{Domains, entails}

-- whether the condition is absent or entailed
abbrev pub in_force : Domains → Option Atomic → Bool
in_force d None = true
in_force d (Some a) = entails d a

-- the condition is there, and the assignment fails it
abbrev pub Fails : (ℕ → ℤ) → Option Atomic → Type 0
Fails s None = ⊥
Fails s (Some a) = meets a (s a.var) ≡ false

-- these variables and that of the condition
abbrev pub with_condition : Option Atomic → List ℕ → List ℕ
with_condition None xs = xs
with_condition (Some a) xs = a.var ∷ xs

-- the condition's variable is none of these
abbrev pub IsApart : Option Atomic → List ℕ → Type 0
IsApart None xs = Unit {0}
IsApart (Some a) xs = ¬ (Among a.var xs)
