-- Atoms of a problem's variables: their names lead back, they stay as they are, and each stands once.
use Rattle.std.proofs.Common.{◌≡◌, ℕ, ◌<◌, true, not, Option, Some, List, [], ◌∷◌, filter, length, get_or, map, slice_get, sym, ap, ◌∙◌, subst, refl, arith}
use Rattle.std.specs.Option.{option_and_then}
use Rattle.std.proofs.lemmas.Bool.{false_from_ne_true, not_from_false}
use Rattle.std.proofs.lemmas.Option.{slice_get-get_or}
use Rattle.dp_base.specs.Lists.{Among, Each}
use Rattle.dp_base.specs.Names.{named as variable_of}
use Rattle.dp_base.proofs.Lists.{filter-whole, list_all-from}
use Rattle.dp_domain.specs.Atoms.{Atomic}
use Rattle.dp_domain.specs.States.{AreOf}
use Rattle.dp_domain.specs.declared.verdict.Verdict.{Verdict}
use Rattle.dp_domain.specs.declared.verdict.Verdict.TheVariants.{Unsat, Bound}
use Rattle.dp_judge.specs.Logs.{IsOfGoal}
use Rattle.dp_parts.specs.Posed.{Posed}
use Rattle.dp_parts.specs.Problems.{Csp, IsProblem, LeadBack, posed}
use Rattle.dp_replay.specs.Judging.{LeadsTo}
use Rattle.dp_rule_clause.specs.Nogoods.{IsOnce, each_once, same_atom}
use Rattle.dp_rule_clause.proofs.AtomSteps.{same_where}
use Rattle.dp_writer.specs.Atoms.{Named, named_defined}
use Rattle.dp_writer.specs.Steps.{atoms_in, atoms_of}
use Rattle.dp_writer.specs.Written.{conclusion, name_in, named, own_name}
use Rattle.dp_writer.proofs.OrderLemmas.{defined_var}

-- ---- names

-- a variable's own name leads to it
own_leads : (p : Csp) → IsProblem p → LeadBack p.names → (a : Atomic) → a.var < length p.initial → LeadsTo (posed p) (named p a)
own_leads p problem back a below =
    let owned : length p.own ≡ length p.initial = problem.owned in
    let there = slice_get-get_or p.own a.var 0 (omega arith) in
    let stands = problem.own a.var (get_or p.own a.var 0) there in
    let is_own : own_name p a.var ≡ stands.0 =
    ap (λ (o : Option ℕ). name_in (option_and_then (slice_get p.names) o)) there ∙ ap name_in stands.1 in
    ap (variable_of p.names) is_own ∙ back (get_or p.own a.var 0) a.var stands.0 stands.1

-- so do the names of a nogood's atoms
pub nogood_leads : (p : Csp) → IsProblem p → LeadBack p.names → (atoms : List Atomic) → AreOf p.initial atoms → Each (LeadsTo (posed p)) (map (named p) atoms)
nogood_leads p problem back [] h = tt
nogood_leads p problem back (a ∷ atoms) h = (own_leads p problem back a h.0, nogood_leads p problem back atoms h.1)

-- and that of a claim's bound
pub claim_leads : (p : Csp) → IsProblem p → LeadBack p.names → (claim : Verdict) → IsOfGoal p claim → Each (LeadsTo (posed p)) (atoms_of (conclusion p claim))
claim_leads p problem back Unsat h = tt
claim_leads p problem back (Bound a) h = (own_leads p problem back a h.1, tt)

-- a defined atom has the name of the one that is used
pub defined_leads : (p : Posed) (a : Named) → LeadsTo p a → LeadsTo p (named_defined a)
defined_leads p a h = h ∙ ap Some (sym (defined_var a.atom))

-- the atoms of named atoms
pub atoms_named : (p : Csp) (atoms : List Atomic) → atoms_in (map (named p) atoms) ≡ atoms
atoms_named p [] = refl
atoms_named p (a ∷ atoms) = ap (λ (rest : List Atomic). a ∷ rest) (atoms_named p atoms)

-- ---- atoms that stand once

-- a list without an atom twice is kept whole
pub once_whole : (atoms : List Atomic) → IsOnce atoms → each_once atoms ≡ atoms
once_whole [] once = refl
once_whole (a ∷ atoms) once =
    let apart : (b : Atomic) → Among b atoms → not (same_atom a b) ≡ true =
    λ b h. not_from_false (same_atom a b) (false_from_ne_true (same_atom a b) (λ e. once.0 (subst (λ (c : Atomic). Among c atoms) (sym (same_where a b e)) h))) in
    ap (λ (rest : List Atomic). a ∷ filter (λ b. not (same_atom a b)) rest) (once_whole atoms once.1)
    ∙ ap (λ (rest : List Atomic). a ∷ rest) (filter-whole (λ b. not (same_atom a b)) atoms (list_all-from (λ b. not (same_atom a b)) atoms apart))
