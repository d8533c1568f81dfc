-- The tests of a log, over steps in which atoms stand themselves: what each step denies, and which steps pass.
use Rattle.std.specs.Prelude.{◌≡◌, ℕ, ◌+◌, true, Option, Some, None, List, [], ◌∷◌, ◌++◌}
use Rattle.std.specs.List.{flat_map}
use Rattle.std.specs.Option.{option_map}
use Rattle.dp_base.specs.Lists.{Each}
use Rattle.dp_base.specs.Names.{named}
use Rattle.dp_domain.specs.Atoms.{Atomic, negated}
use Rattle.dp_domain.specs.Explanations.{failing}
use Rattle.dp_domain.specs.States.{cut_all}
use Rattle.dp_parts.specs.Posed.{Posed}
use Rattle.dp_parts.specs.Rules.{concludes, implies, proves}
use Rattle.dp_checker.specs.Judged.{grounds, is_bound, is_constraint, is_fitting}
use Rattle.dp_checker.specs.Known.{denials, first_unknown}
use Rattle.dp_writer.specs.Atoms.{Named}
use Rattle.dp_writer.specs.Steps.{Step, atoms_in, atoms_of, counted}
use Rattle.dp_writer.specs.Steps.Step.{Inference, Nogood, Conclusion}

-- what a step denies: an inference its premises with the negation of its consequent, a nogood its atoms
abbrev pub denied : Step → List Atomic
denied (Inference premises consequent constraint label) = atoms_in premises ++ failing (option_map (λ a. a.atom) consequent)
denied (Nogood atoms hints) = atoms_in atoms
denied (Conclusion bound) = []

-- the step with its number, where it has one
abbrev pub numbered : ℕ → Step → List (ℕ × List Atomic)
numbered n (Inference premises consequent constraint label) = (n, denied (Inference premises consequent constraint label)) ∷ []
numbered n (Nogood atoms hints) = (n, denied (Nogood atoms hints)) ∷ []
numbered n (Conclusion bound) = []

-- the denials of steps under their numbers, from n + 1 on
abbrev pub denials_from : ℕ → List Step → List (ℕ × List Atomic)
denials_from n [] = []
denials_from n (step ∷ steps) = numbered (n + 1) step ++ denials_from (n + counted step) steps

-- the denials of all the steps
abbrev pub denials_of : List Step → List (ℕ × List Atomic)
denials_of steps = denials_from 0 steps

-- the inference names a constraint, and its own label there, and holds
pub record IsImplied (p : Posed) (denial : List Atomic) (constraint : ℕ) (label : List ℕ) : Type 0 where
  pub named : is_constraint p (Some constraint) ≡ true
  pub fits : is_fitting p (Some constraint) (Some label) ≡ true
  pub holds : implies (cut_all p.initial denial) (grounds p (Some constraint) (Some label)) (Some label) ≡ true

-- each hint is an earlier step, and they prove the nogood
pub record IsProved (p : Posed) (earlier : List (ℕ × List Atomic)) (atoms : List Atomic) (hints : List ℕ) : Type 0 where
  pub known : first_unknown earlier hints ≡ None
  pub proved : proves (cut_all p.initial atoms) (denials earlier hints) ≡ true

-- what is claimed holds: nothing is left at the start, or a step denies what is left; and a bound is on the goal's
-- variable and side
abbrev pub Concludes : Posed → List (ℕ × List Atomic) → Option Named → Type 0
Concludes p earlier None = concludes p.initial earlier ≡ true
Concludes p earlier (Some bound) = (is_bound p.goal bound.atom ≡ true) × (concludes (cut_all p.initial (negated bound.atom ∷ [])) earlier ≡ true)

-- the step passes its tests behind the earlier ones
abbrev pub Passes : Posed → List Step → Step → Type 0
Passes p earlier (Inference premises consequent constraint label) = IsImplied p (denied (Inference premises consequent constraint label)) constraint label
Passes p earlier (Nogood atoms hints) = IsProved p (denials_of earlier) (atoms_in atoms) hints
Passes p earlier (Conclusion bound) = Concludes p (denials_of earlier) bound

-- each of the steps passes behind those before it
abbrev pub EachPasses : Posed → List Step → List Step → Type 0
EachPasses p earlier [] = Unit {0}
EachPasses p earlier (step ∷ steps) = Passes p earlier step × EachPasses p (earlier ++ step ∷ []) steps

-- the name is that of the atom's variable
abbrev pub LeadsTo : Posed → Named → Type 0
LeadsTo p a = named p.names a.name ≡ Some a.atom.var

-- the step is an inference or a nogood
abbrev pub IsCounted : Step → Type 0
IsCounted step = counted step ≡ 1

-- a log of steps and a conclusion: each passes behind those before it, and each atom is spelled by a name of its variable
pub record IsReplayed (p : Posed) (steps : List Step) (bound : Option Named) : Type 0 where
  pub counted : Each IsCounted steps
  pub passes : EachPasses p [] (steps ++ Conclusion bound ∷ [])
  pub names : Each (LeadsTo p) (flat_map atoms_of (steps ++ Conclusion bound ∷ []))
