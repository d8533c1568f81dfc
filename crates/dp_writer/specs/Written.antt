-- What a writer keeps, and the steps that it stands for.
use Rattle.std.specs.Prelude.{◌≡◌, ℕ, ◌<◌, ◌≤◌, Option, Some, None, List, [], ◌∷◌, ◌++◌, length, map, slice_get}
use Rattle.std.specs.Option.{option_and_then, option_map}
use Rattle.dp_base.specs.Lists.{Each}
use Rattle.dp_domain.specs.Atoms.{Atomic}
use Rattle.dp_domain.specs.declared.verdict.Verdict.{Verdict}
use Rattle.dp_domain.specs.declared.verdict.Verdict.TheVariants.{Unsat, Bound}
use Rattle.dp_lines.specs.Allowed.{IsAllowed}
use Rattle.dp_parts.specs.Problems.{Csp}
use Rattle.dp_writer.specs.Atoms.{Named}
use Rattle.dp_writer.specs.Steps.{Step, atoms_in, table, count_of, lines, text_of}
use Rattle.dp_writer.specs.Steps.Step.{Inference, Nogood, Conclusion}

-- the name in an entry, where there is one
abbrev pub name_in : Option (List ℕ × ℕ) → List ℕ
name_in None = []
name_in (Some entry) = entry.0

-- a variable's own name
abbrev pub own_name : Csp → ℕ → List ℕ
own_name p x = name_in (option_and_then (slice_get p.names) (slice_get p.own x))

-- the atom under its variable's own name
abbrev pub named : Csp → Atomic → Named
named p a = record { name = own_name p a.var; atom = a }

-- the atom stands under its variable's own name
abbrev pub IsNamedIn : Csp → Named → Type 0
IsNamedIn p a = a.name ≡ own_name p a.atom.var

-- the atom's variable is one of the problem's
abbrev pub IsOf : Csp → Atomic → Type 0
IsOf p a = a.var < length p.initial

-- so it is in the bound of a claim
abbrev pub IsClaimOf : Csp → Verdict → Type 0
IsClaimOf p Unsat = Unit {0}
IsClaimOf p (Bound a) = IsOf p a

-- a constraint's number is one of the problem's
abbrev pub IsConstraintOf : Csp → ℕ → Type 0
IsConstraintOf p k = (1 ≤ k) × (k ≤ length p.parts)

-- the inference from these premises to this consequent, if any
abbrev pub inference : Csp → List Atomic → Option Atomic → ℕ → List ℕ → Step
inference p premises consequent constraint label = Inference (map (named p) premises) (option_map (named p) consequent) constraint label

-- the nogood of these atoms
abbrev pub nogood : Csp → List Atomic → List ℕ → Step
nogood p atoms hints = Nogood (map (named p) atoms) hints

-- the bound of a claim, where it has one
abbrev pub bound_of : Csp → Verdict → Option Named
bound_of p Unsat = None
bound_of p (Bound a) = Some (named p a)

-- the conclusion of a claim
abbrev pub conclusion : Csp → Verdict → Step
conclusion p claim = Conclusion (bound_of p claim)

-- the defined atoms in the order of their numbers, how many steps have numbers, and the bytes that
-- were not handed over yet
pub record Written : Type 0 where
  pub atoms : List Atomic
  pub count : ℕ
  pub text : List ℕ

-- a step that has this number was written
abbrev pub IsAnswered : Written → ℕ → Type 0
IsAnswered w number = (1 ≤ number) × (number ≤ w.count)

-- these steps were written, each of their lines is one that a log may have, and these bytes were handed over
pub record StandsFor (w : Written) (steps : List Step) (drained : List ℕ) : Type 0 where
  pub atoms : w.atoms ≡ atoms_in (table steps)
  pub count : w.count ≡ count_of steps
  pub lines : Each IsAllowed (lines steps)
  pub text : drained ++ w.text ≡ text_of steps

-- whatever was written before, this step was written after it
abbrev pub Adds : Written → Step → Written → Type 0
Adds old step new =
    (steps : List Step) (drained : List ℕ) → StandsFor old steps drained → StandsFor new (steps ++ step ∷ []) drained

-- whatever was written, these bytes were handed over next
abbrev pub HandsOver : Written → List ℕ → Written → Type 0
HandsOver old bytes new =
    (steps : List Step) (drained : List ℕ) → StandsFor old steps drained → StandsFor new steps (drained ++ bytes)
