-- What the checker keeps true of what is known.
use Rattle.std.specs.Prelude.{◌≡◌, ℕ, ◌<◌, List, length, ℤ, IfSome}
use Rattle.dp_base.specs.Lists.{Each}
use Rattle.dp_domain.specs.Atoms.{Atomic}
use Rattle.dp_domain.specs.States.{Domains}
use Rattle.dp_domain.specs.declared.verdict.Verdict.{Verdict}
use Rattle.dp_domain.specs.declared.verdict.Verdict.TheVariants.{Unsat, Bound}
use Rattle.dp_parts.specs.Posed.{Posed, Solves}
use Rattle.dp_parts.specs.Problems.{Csp, IsProblem, IsSolution, posed}
use Rattle.dp_checker.specs.Known.{Known}
use Rattle.dp_checker.specs.Soundness.{HoldsOf, Meets}

-- the assignment meets the atom, if its variable is one of so many
abbrev pub MeetsBelow : ℕ → (ℕ → ℤ) → Atomic → Type 0
MeetsBelow n s a = a.var < n → Meets s a

-- no solution meets together all of the atoms on the problem's variables
abbrev pub DeniesBelow : Posed → List Atomic → Type 0
DeniesBelow p denial = (s : ℕ → ℤ) → Solves s p → Each (MeetsBelow (length p.initial) s) denial → ⊥

-- what is known holds of the problem, whatever is said of variables that it has not
pub record IsBacked (p : Posed) (known : Known) : Type 0 where
  pub steps : Each (λ step. DeniesBelow p step.1) known.steps
  pub conclusion : IfSome known.conclusion (HoldsOf p)

-- each atom's variable is one of so many
abbrev pub AreBelow : ℕ → List Atomic → Type 0
AreBelow n atoms = Each (λ a. a.var < n) atoms

-- what is known speaks of the problem's variables alone, and holds of it
pub record IsKept (p : Csp) (known : Known) : Type 0 where
  pub atoms : Each (λ entry. entry.1.var < length p.initial) known.atoms
  pub steps : Each (λ entry. AreBelow (length p.initial) entry.1) known.steps
  pub backed : IsBacked (posed p) known

-- what is known is kept of a problem, to whose initial state the working state goes back
pub record IsReady (p : Csp) (known : Known) (start : Domains) : Type 0 where
  pub problem : IsProblem p
  pub kept : IsKept p known
  pub base : start ≡ p.initial

-- a conclusion is right: the problem has no solution, or none that fails the bound
abbrev pub IsRight : Csp → Verdict → Type 0
IsRight p Unsat = (s : ℕ → ℤ) → IsSolution s p → ⊥
IsRight p (Bound a) = (s : ℕ → ℤ) → IsSolution s p → Meets s a
