-- The lines of one step, behind those of earlier steps.
use Rattle.std.proofs.Common.{◌≡◌, ℕ, zero, suc, ◌+◌, true, ◌&&◌, Option, Some, None, is_none, is_some, List, [], ◌∷◌, ◌++◌, length, map, ℤ, pos, negsuc, sym, ap, ◌∙◌, subst, refl, append_assoc, inl, arith, if◌then◌else◌}
use Rattle.std.proofs.lemmas.List.{append-nil, length-append, length-map, map-append}
use Rattle.std.specs.List.{flat_map, list_all}
use Rattle.std.specs.Option.{option_map, option_to_list}
use Rattle.dp_base.specs.Lists.{Among, Each}
use Rattle.dp_base.specs.Names.{named}
use Rattle.dp_base.proofs.Lists.{Among-append_right, Each-append_parts, Each-from_among}
use Rattle.dp_domain.specs.Atoms.{Atomic, negated}
use Rattle.dp_domain.specs.Explanations.{failing}
use Rattle.dp_domain.specs.States.{cut_all}
use Rattle.dp_domain.specs.declared.verdict.Verdict.{Verdict}
use Rattle.dp_domain.specs.declared.verdict.Verdict.TheVariants.{Unsat, Bound}
use Rattle.dp_domain.proofs.ExplanationLaws.{Among-flat_map}
use Rattle.dp_parts.specs.declared.goal.Goal.{Goal}
use Rattle.dp_parts.specs.declared.goal.Goal.TheVariants.{Satisfy, Minimize, Maximize}
use Rattle.dp_parts.specs.Posed.{Posed}
use Rattle.dp_parts.specs.Rules.{concludes, implies, proves}
use Rattle.dp_checker.specs.Judged.{grounds, has_goal, inference_denial, is_bound, naming, or_else, unless, with_atom, with_last}
use Rattle.dp_checker.specs.declared.refusal.Why.TheVariants.{AtomTwice, UnknownVar, UnknownAtom, StepTwice, UnknownStep, UnknownConstraint, WrongLabel, NotImplied, NoClash, NoGoal, WrongBound, NotConcluded}
use Rattle.dp_checker.specs.Known.{Known, cons_some, denials, first_undefined, found, literal_atom, literal_atoms}
use Rattle.dp_writer.specs.Atoms.{Named, literal_in}
use Rattle.dp_writer.specs.Reading.{atom_of}
use Rattle.dp_writer.specs.Steps.{Step, atoms_in, atoms_of, count_of, definitions, line_of, lines_of, literals_in, new_atoms, table}
use Rattle.dp_writer.specs.Steps.Step.{Inference, Nogood, Conclusion}
use Rattle.dp_writer.proofs.FirstLemmas.{table_new}
use Rattle.dp_writer.proofs.ReadingLemmas.{read_literal, used_in_table}
use Rattle.dp_replay.specs.Accepting.{verdict_of}
use Rattle.dp_replay.specs.Judging.{Concludes, IsImplied, IsProved, LeadsTo, Passes, denials_of, denied, numbered}
use Rattle.dp_replay.proofs.EntryLemmas.{denials_push, entries, entries_push, found_at, found_behind, found_below, unnumbered}
use Rattle.dp_replay.proofs.LeadLemmas.{Leads, leads_append}

-- what is known of these defined atoms and denials
abbrev pub known_of : List Atomic → List (ℕ × List Atomic) → Option Verdict → Known
known_of atoms steps conclusion = record { atoms = entries 0 atoms; steps = steps; conclusion = conclusion }

-- ---- literals

read_is : (atoms : List Atomic) (l : ℤ) → literal_atom (entries 0 atoms) l ≡ atom_of atoms l
read_is atoms (pos zero) = found_below 0 0 atoms (omega arith)
read_is atoms (pos (suc place)) = found_at 0 (suc place) place atoms (omega arith)
read_is atoms (negsuc n) = ap (option_map negated) (found_at 0 (n + 1) n atoms (omega arith))

-- the literal of the atom stands for it
abbrev pub IsRead : List Atomic → Named → Type 0
IsRead atoms a = literal_atom (entries 0 atoms) (literal_in atoms a.atom) ≡ Some a.atom

pub literals_read : (atoms : List Atomic) (used : List Named) → Each (IsRead atoms) used → literal_atoms (entries 0 atoms) (literals_in atoms used) ≡ atoms_in used
literals_read atoms [] all = refl
literals_read atoms (a ∷ used) all = λ j. cons_some (all.0 j) (literals_read atoms used all.1 j)

pub literals_defined : (atoms : List Atomic) (used : List Named) → Each (IsRead atoms) used → first_undefined (entries 0 atoms) (literals_in atoms used) ≡ None
literals_defined atoms [] all = refl
literals_defined atoms (a ∷ used) all =
    ap (λ o. if is_some o then first_undefined (entries 0 atoms) (literals_in atoms used) else Some (literal_in atoms a.atom)) all.0
    ∙ literals_defined atoms used all.1

-- ---- definitions of atoms

defined_once : (p : Posed) (atoms : List Atomic) (steps : List (ℕ × List Atomic)) (n : ℕ) (a : Named) → n ≡ length atoms → LeadsTo p a
    → with_atom (known_of atoms steps None) (n + 1) a.atom.op a.atom.value (named p.names a.name) ≡ known_of (atoms ++ a.atom ∷ []) steps None
defined_once p atoms steps n a e names =
    ap (with_atom (known_of atoms steps None) (n + 1) a.atom.op a.atom.value) names
    ∙ ap (λ l. record { atoms = l; steps = steps; conclusion = None }) (entries_push 0 n atoms a.atom (omega arith))

definitions_lead : (p : Posed) (atoms : List Atomic) (steps : List (ℕ × List Atomic)) (n : ℕ) (new : List Named) → n ≡ length atoms → Each (LeadsTo p) new
    → Leads p (known_of atoms steps None) (definitions n new) (known_of (atoms ++ atoms_in new) steps None)
definitions_lead p atoms steps n [] e names = ap (λ t. known_of t steps None) (sym (append-nil atoms))
definitions_lead p atoms steps n (a ∷ new) e names =
    let more : List Atomic = atoms ++ a.atom ∷ [] in
    let next : n + 1 ≡ length more = (let k = length-append atoms (a.atom ∷ []) in omega arith) in
    let unseen : found (n + 1) (entries 0 atoms) ≡ None = found_behind 0 (n + 1) atoms (omega arith) in
    let rest : Leads p (known_of more steps None) (definitions (n + 1) new) (known_of (more ++ atoms_in new) steps None) =
    definitions_lead p more steps (n + 1) new next names.1 in
    let whole : Leads p (known_of more steps None) (definitions (n + 1) new) (known_of (atoms ++ atoms_in (a ∷ new)) steps None) =
    subst (λ (t : List Atomic). Leads p (known_of more steps None) (definitions (n + 1) new) (known_of t steps None)) (append_assoc atoms (a.atom ∷ []) (atoms_in new)) rest in (
      λ j. or_else (unless (is_some (names.0 j)) UnknownVar) (unless (is_none (unseen j)) AtomTwice),
      subst (λ (k : Known). Leads p k (definitions (n + 1) new) (known_of (atoms ++ atoms_in (a ∷ new)) steps None)) (sym (defined_once p atoms steps n a e names.0)) whole,
    )

-- ---- a step's own line

-- what a step concludes
abbrev pub concluded : Step → Option Verdict
concluded (Inference premises consequent constraint label) = None
concluded (Nogood atoms hints) = None
concluded (Conclusion bound) = Some (verdict_of bound)

denial_read : (atoms : List Atomic) (premises : List Named) (consequent : Option Named) → Each (IsRead atoms) (premises ++ option_to_list consequent)
    → inference_denial (entries 0 atoms) (literals_in atoms premises) (option_map (λ (a : Named). literal_in atoms a.atom) consequent)
    ≡ atoms_in premises ++ failing (option_map (λ (a : Named). a.atom) consequent)
denial_read atoms premises None all =
    let parts = Each-append_parts (IsRead atoms) premises [] all in
    ap (λ l. l ++ []) (literals_read atoms premises parts.0)
denial_read atoms premises (Some a) all =
    let parts = Each-append_parts (IsRead atoms) premises (a ∷ []) all in
    λ j. literals_read atoms premises parts.0 j ++ map negated (literals_read atoms (a ∷ []) parts.1 j)

all_defined : (atoms : List Atomic) (premises : List Named) (consequent : Option Named) → Each (IsRead atoms) (premises ++ option_to_list consequent)
    → first_undefined (entries 0 atoms) (with_last (literals_in atoms premises) (option_map (λ (a : Named). literal_in atoms a.atom) consequent)) ≡ None
all_defined atoms premises None all = literals_defined atoms premises (Each-append_parts (IsRead atoms) premises [] all).0
all_defined atoms premises (Some a) all =
    ap (first_undefined (entries 0 atoms)) (sym (map-append (λ (b : Named). literal_in atoms b.atom) premises (a ∷ [])))
    ∙ literals_defined atoms (premises ++ a ∷ []) all

has_some : (goal : Goal) (a : Atomic) → is_bound goal a ≡ true → has_goal goal ≡ true
has_some Satisfy a h = h
has_some (Minimize x) a h = refl
has_some (Maximize x) a h = refl

module _ (p : Posed) (atoms : List Atomic) (steps : List (ℕ × List Atomic)) (n : ℕ) where
  inference_leads : (premises : List Named) (consequent : Option Named) (constraint : ℕ) (label : List ℕ) → found n steps ≡ None
      → Each (IsRead atoms) (premises ++ option_to_list consequent) → IsImplied p (denied (Inference premises consequent constraint label)) constraint label
      → Leads p (known_of atoms steps None) (line_of atoms n (Inference premises consequent constraint label) ∷ [])
      (known_of atoms (steps ++ numbered n (Inference premises consequent constraint label)) None)
  inference_leads premises consequent constraint label new all h =
      let is = denial_read atoms premises consequent all in
      let here = all_defined atoms premises consequent all in
      let holds = ap (λ (d : List Atomic). implies (cut_all p.initial d) (grounds p (Some constraint) (Some label)) (Some label)) is ∙ h.holds in (
        λ j. or_else (naming UnknownAtom (here j)) (or_else (unless (is_none (new j)) StepTwice) (or_else (unless (h.named j) UnknownConstraint) (or_else (unless (h.fits j) WrongLabel) (unless (holds j) NotImplied)))),
        ap (λ (d : List Atomic). known_of atoms (steps ++ (n, d) ∷ []) None) is,
      )

  nogood_leads : (used : List Named) (hints : List ℕ) → found n steps ≡ None → Each (IsRead atoms) used → IsProved p steps (atoms_in used) hints
      → Leads p (known_of atoms steps None) (line_of atoms n (Nogood used hints) ∷ []) (known_of atoms (steps ++ numbered n (Nogood used hints)) None)
  nogood_leads used hints new all h =
      let is = literals_read atoms used all in
      let here = literals_defined atoms used all in
      let holds = ap (λ (d : List Atomic). proves (cut_all p.initial d) (denials steps hints)) is ∙ h.proved in (
        λ j. or_else (naming UnknownAtom (here j)) (or_else (unless (is_none (new j)) StepTwice) (or_else (naming UnknownStep (h.known j)) (unless (holds j) NoClash))),
        ap (λ (d : List Atomic). known_of atoms (steps ++ (n, d) ∷ []) None) is,
      )

  conclusion_leads : (bound : Option Named) → Each (IsRead atoms) (option_to_list bound) → Concludes p steps bound
      → Leads p (known_of atoms steps None) (line_of atoms n (Conclusion bound) ∷ []) (known_of atoms (steps ++ numbered n (Conclusion bound)) (Some (verdict_of bound)))
  conclusion_leads None all h =
      (ap (λ b. unless b NotConcluded) h, ap (λ (s : List (ℕ × List Atomic)). known_of atoms s (Some Unsat)) (sym (append-nil steps)))
  conclusion_leads (Some bound) all h =
      let is = literals_read atoms (bound ∷ []) all in
      let here = literals_defined atoms (bound ∷ []) all in
      let goal = has_some p.goal bound.atom h.0 in
      let fits = ap (λ (l : List Atomic). list_all (is_bound p.goal) l) is ∙ ap (λ b. b && true) h.0 in
      let holds = ap (λ (l : List Atomic). concludes (cut_all p.initial (map negated l)) steps) is ∙ h.1 in (
        λ j. or_else (naming UnknownAtom (here j)) (or_else (unless (goal j) NoGoal) (or_else (unless (fits j) WrongBound) (unless (holds j) NotConcluded))),
        λ j. known_of atoms (sym (append-nil steps) j) (option_map Bound (all.0 j)),
      )

own_leads : (p : Posed) (earlier : List Step) (atoms : List Atomic) (step : Step) → Each (IsRead atoms) (atoms_of step) → Passes p earlier step
    → Leads p (known_of atoms (denials_of earlier) None) (line_of atoms (count_of earlier + 1) step ∷ [])
    (known_of atoms (denials_of earlier ++ numbered (count_of earlier + 1) step) (concluded step))
own_leads p earlier atoms (Inference premises consequent constraint label) all h =
    inference_leads p atoms (denials_of earlier) (count_of earlier + 1) premises consequent constraint label (unnumbered 0 (count_of earlier + 1) earlier (omega arith)) all h
own_leads p earlier atoms (Nogood used hints) all h =
    nogood_leads p atoms (denials_of earlier) (count_of earlier + 1) used hints (unnumbered 0 (count_of earlier + 1) earlier (omega arith)) all h
own_leads p earlier atoms (Conclusion bound) all h = conclusion_leads p atoms (denials_of earlier) (count_of earlier + 1) bound all h

-- ---- all lines of a step

-- what is known behind steps
abbrev pub behind : List Step → Option Verdict → Known
behind earlier conclusion = known_of (atoms_in (table earlier)) (denials_of earlier) conclusion

last_used : (earlier : List Step) (step : Step) (a : Named) → Among a (atoms_of step) → Among a (flat_map atoms_of (earlier ++ step ∷ []))
last_used earlier step a h = Among-flat_map atoms_of (earlier ++ step ∷ []) step a (Among-append_right step earlier (step ∷ []) (inl refl)) h

pub step_leads : (p : Posed) (earlier : List Step) (step : Step) → Each (LeadsTo p) (table (earlier ++ step ∷ [])) → Passes p earlier step
    → Leads p (behind earlier None) (lines_of earlier step) (behind (earlier ++ step ∷ []) (concluded step))
step_leads p earlier step names passes =
    let whole : List Step = earlier ++ step ∷ [] in
    let new : List Named = new_atoms earlier step in
    let old : List Atomic = atoms_in (table earlier) in
    let atoms : List Atomic = atoms_in (table whole) in
    let grown : old ++ atoms_in new ≡ atoms = sym (ap atoms_in (table_new earlier step) ∙ map-append (λ (a : Named). a.atom) (table earlier) new) in
    let fresh : Each (LeadsTo p) new = (Each-append_parts (LeadsTo p) (table earlier) new (subst (Each (LeadsTo p)) (table_new earlier step) names)).1 in
    let reads : Each (IsRead atoms) (atoms_of step) =
    Each-from_among (IsRead atoms) (atoms_of step) (λ a h. read_is atoms (literal_in atoms a.atom) ∙ read_literal atoms a.atom (used_in_table whole a (last_used earlier step a h))) in
    let front : Leads p (behind earlier None) (definitions (length (table earlier)) new) (known_of atoms (denials_of earlier) None) =
    subst (λ (t : List Atomic). Leads p (behind earlier None) (definitions (length (table earlier)) new) (known_of t (denials_of earlier) None)) grown
    (definitions_lead p old (denials_of earlier) (length (table earlier)) new (sym (length-map (table earlier) (λ (a : Named). a.atom))) fresh) in
    let back : Leads p (known_of atoms (denials_of earlier) None) (line_of atoms (count_of earlier + 1) step ∷ []) (behind whole (concluded step)) =
    subst (λ (s : List (ℕ × List Atomic)). Leads p (known_of atoms (denials_of earlier) None) (line_of atoms (count_of earlier + 1) step ∷ []) (known_of atoms s (concluded step)))
    (denials_push 0 (count_of earlier) earlier step (omega arith)) (own_leads p earlier atoms step reads passes) in
    leads_append p (behind earlier None) (known_of atoms (denials_of earlier) None) (behind whole (concluded step)) (definitions (length (table earlier)) new)
    (line_of atoms (count_of earlier + 1) step ∷ []) front back
