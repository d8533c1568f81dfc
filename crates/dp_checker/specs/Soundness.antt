-- What an accepted log proves: each step denies its atoms together, and the conclusion holds.
use Rattle.std.specs.Prelude.{◌≡◌, ℕ, true, List, ℤ, IfSome}
use Rattle.dp_base.specs.Lists.{Each}
use Rattle.dp_domain.specs.Atoms.{Atomic, meets}
use Rattle.dp_domain.specs.declared.verdict.Verdict.{Verdict}
use Rattle.dp_domain.specs.declared.verdict.Verdict.TheVariants.{Unsat, Bound}
use Rattle.dp_parts.specs.Posed.{Posed, Solves}
use Rattle.dp_checker.specs.Known.{Known}

-- the assignment meets the atom
abbrev pub Meets : (ℕ → ℤ) → Atomic → Type 0
Meets s a = meets a (s a.var) ≡ true

-- no solution meets all of the atoms together
abbrev pub Denies : Posed → List Atomic → Type 0
Denies p denial = (s : ℕ → ℤ) → Solves s p → Each (Meets s) denial → ⊥

-- a conclusion holds: there is no solution, or none that fails the bound
abbrev pub HoldsOf : Posed → Verdict → Type 0
HoldsOf p Unsat = (s : ℕ → ℤ) → Solves s p → ⊥
HoldsOf p (Bound a) = (s : ℕ → ℤ) → Solves s p → Meets s a

-- everything that is known so far holds of the problem
pub record IsSupported (p : Posed) (known : Known) : Type 0 where
  pub steps : Each (λ step. Denies p step.1) known.steps
  pub conclusion : IfSome known.conclusion (HoldsOf p)
