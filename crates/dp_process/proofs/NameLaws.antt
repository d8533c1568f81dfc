-- Atoms of a problem's variables, written under the variables' own names: the names lead back, and the atoms stay.
use Rattle.std.proofs.Common.{◌≡◌, ℕ, ◌<◌, Option, Some, None, List, [], ◌∷◌, ◌++◌, length, get_or, map, slice_get, refl, ◌∙◌, ap, arith}
use Rattle.std.specs.Option.{option_and_then, option_map, option_to_list}
use Rattle.std.proofs.lemmas.Option.{slice_get-get_or}
use Rattle.dp_base.specs.Lists.{Each}
use Rattle.dp_base.specs.Names.{named as variable_of}
use Rattle.dp_base.proofs.Lists.{Each-append, Each-append_parts}
use Rattle.dp_domain.specs.Atoms.{Atomic}
use Rattle.dp_domain.specs.Explanations.{failing}
use Rattle.dp_domain.specs.States.{AreOf}
use Rattle.dp_domain.specs.declared.verdict.Verdict.{Verdict}
use Rattle.dp_domain.specs.declared.verdict.Verdict.TheVariants.{Unsat, Bound}
use Rattle.dp_judge.specs.Logs.{IsOfGoal}
use Rattle.dp_parts.specs.Problems.{Csp, IsProblem, LeadBack, posed}
use Rattle.dp_writer.specs.Atoms.{Named}
use Rattle.dp_writer.specs.Steps.{atoms_in, atoms_of}
use Rattle.dp_writer.specs.Written.{conclusion, inference, name_in, named, nogood, own_name}
use Rattle.dp_replay.specs.Judging.{LeadsTo, denied}

-- ---- atoms

-- the atoms of named atoms
pub atoms-named : (p : Csp) (atoms : List Atomic) → atoms_in (map (named p) atoms) ≡ atoms
atoms-named p [] = refl
atoms-named p (a ∷ atoms) = ap (λ (rest : List Atomic). a ∷ rest) (atoms-named p atoms)

atom_named : (p : Csp) (o : Option Atomic) → option_map (λ (a : Named). a.atom) (option_map (named p) o) ≡ o
atom_named p None = refl
atom_named p (Some a) = refl

-- an inference denies its premises with the negation of its consequent
pub denied-inference : (p : Csp) (premises : List Atomic) (consequent : Option Atomic) (constraint : ℕ) (label : List ℕ) → denied (inference p premises consequent constraint label) ≡ premises ++ failing consequent
denied-inference p premises consequent constraint label =
    ap (λ (rest : List Atomic). rest ++ failing (option_map (λ (a : Named). a.atom) (option_map (named p) consequent))) (atoms-named p premises)
    ∙ ap (λ (o : Option Atomic). premises ++ failing o) (atom_named p consequent)

-- ---- names

-- a variable's own name leads to it
pub own-leads : (p : Csp) → IsProblem p → LeadBack p.names → (a : Atomic) → a.var < length p.initial → LeadsTo (posed p) (named p a)
own-leads p problem back a below =
    let owned : length p.own ≡ length p.initial = problem.owned in
    let there = slice_get-get_or p.own a.var 0 (omega arith) in
    let stands = problem.own a.var (get_or p.own a.var 0) there in
    let is_own : own_name p a.var ≡ stands.0 =
    ap (λ (o : Option ℕ). name_in (option_and_then (slice_get p.names) o)) there ∙ ap name_in stands.1 in
    ap (variable_of p.names) is_own ∙ back (get_or p.own a.var 0) a.var stands.0 stands.1

module _ (p : Csp) (problem : IsProblem p) (back : LeadBack p.names) where
  leads_all : (atoms : List Atomic) → AreOf p.initial atoms → Each (LeadsTo (posed p)) (map (named p) atoms)
  leads_all [] h = tt
  leads_all (a ∷ atoms) h = (own-leads p problem back a h.0, leads_all atoms h.1)

  leads_some : (o : Option Atomic) → AreOf p.initial (failing o) → Each (LeadsTo (posed p)) (option_to_list (option_map (named p) o))
  leads_some None h = tt
  leads_some (Some a) h = (own-leads p problem back a h.0, tt)

  -- so they do in an inference
  pub leads-inference : (premises : List Atomic) (consequent : Option Atomic) (constraint : ℕ) (label : List ℕ) → AreOf p.initial (premises ++ failing consequent)
      → Each (LeadsTo (posed p)) (atoms_of (inference p premises consequent constraint label))
  leads-inference premises consequent constraint label h =
      let parts = Each-append_parts (λ (a : Atomic). a.var < length p.initial) premises (failing consequent) h in
      Each-append (LeadsTo (posed p)) (map (named p) premises) (option_to_list (option_map (named p) consequent)) (leads_all premises parts.0) (leads_some consequent parts.1)

  -- and in a nogood
  pub leads-nogood : (atoms : List Atomic) (hints : List ℕ) → AreOf p.initial atoms → Each (LeadsTo (posed p)) (atoms_of (nogood p atoms hints))
  leads-nogood atoms hints h = leads_all atoms h

  -- and in the bound of a claim of the goal
  pub leads-bound : (claim : Verdict) → IsOfGoal p claim → Each (LeadsTo (posed p)) (atoms_of (conclusion p claim))
  leads-bound Unsat h = tt
  leads-bound (Bound a) h = (own-leads p problem back a h.1, tt)
