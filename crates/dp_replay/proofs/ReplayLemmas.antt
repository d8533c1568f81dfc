-- The lines of a whole log.
use Rattle.std.proofs.Common.{◌≡◌, not, Option, Some, None, List, [], ◌∷◌, ◌++◌, map, sym, ap, ◌∙◌, subst, refl, arith}
use Rattle.std.proofs.lemmas.List.{append-nil}
use Rattle.std.proofs.lemmas.Grind.{flat_map-append}
use Rattle.std.specs.List.{flat_map}
use Rattle.dp_base.specs.Lists.{Each}
use Rattle.dp_base.proofs.Lists.{Each-append, Each-append_parts, Each-filter}
use Rattle.dp_domain.specs.declared.verdict.Verdict.{Verdict}
use Rattle.dp_lines.specs.declared.line.Line.{Line}
use Rattle.dp_parts.specs.Posed.{Posed}
use Rattle.dp_checker.specs.Known.{Known, nothing}
use Rattle.dp_writer.specs.Atoms.{Named, firsts, named_defined, same}
use Rattle.dp_writer.specs.Steps.{Step, atoms_of, lines, lines_after, lines_of, table, uses}
use Rattle.dp_writer.specs.Steps.Step.{Inference, Nogood, Conclusion}
use Rattle.dp_writer.proofs.OrderLemmas.{defined_var}
use Rattle.dp_replay.specs.Accepting.{IsAccepted, verdict_of}
use Rattle.dp_replay.specs.Judging.{EachPasses, IsCounted, IsReplayed, LeadsTo}
use Rattle.dp_replay.proofs.LeadLemmas.{Leads, leads_append, leads_judged}
use Rattle.dp_replay.proofs.StepLemmas.{behind, concluded, step_leads}

-- ---- names of defined atoms

firsts_each : (P : Named → Type 0) (atoms : List Named) → Each P atoms → Each P (firsts atoms)
firsts_each P [] all = tt
firsts_each P (a ∷ atoms) all = (all.0, Each-filter P (λ b. not (same a.atom b.atom)) (firsts atoms) (firsts_each P atoms all.1))

defined_leads : (p : Posed) (a : Named) → LeadsTo p a → LeadsTo p (named_defined a)
defined_leads p a h = h ∙ ap Some (sym (defined_var a.atom))

defined_each : (p : Posed) (atoms : List Named) → Each (LeadsTo p) atoms → Each (LeadsTo p) (map named_defined atoms)
defined_each p [] all = tt
defined_each p (a ∷ atoms) all = (defined_leads p a all.0, defined_each p atoms all.1)

uses_each : (p : Posed) (steps : List Step) → Each (LeadsTo p) (flat_map atoms_of steps) → Each (LeadsTo p) (uses steps)
uses_each p [] all = tt
uses_each p (step ∷ steps) all =
    let parts = Each-append_parts (LeadsTo p) (atoms_of step) (flat_map atoms_of steps) all in
    Each-append (LeadsTo p) (map named_defined (atoms_of step)) (uses steps) (defined_each p (atoms_of step) parts.0) (uses_each p steps parts.1)

table_each : (p : Posed) (steps : List Step) → Each (LeadsTo p) (flat_map atoms_of steps) → Each (LeadsTo p) (table steps)
table_each p steps all = firsts_each (LeadsTo p) (uses steps) (uses_each p steps all)

-- ---- steps

unconcluded : (step : Step) → IsCounted step → concluded step ≡ None
unconcluded (Inference premises consequent constraint label) h = refl
unconcluded (Nogood atoms hints) h = refl
unconcluded (Conclusion bound) h = absurd (omega arith)

abbrev Concludes : Posed → List Step → List Step → Option Named → Type 0
Concludes p earlier steps bound = (known : Known) × Leads p (behind earlier None) (lines_after earlier (steps ++ Conclusion bound ∷ [])) known × (known.conclusion ≡ Some (verdict_of bound))

names_more : (p : Posed) (earlier : List Step) (step : Step) → Each (LeadsTo p) (flat_map atoms_of earlier) → Each (LeadsTo p) (atoms_of step)
    → Each (LeadsTo p) (flat_map atoms_of (earlier ++ step ∷ []))
names_more p earlier step front one =
    subst (Each (LeadsTo p)) (sym (flat_map-append atoms_of earlier (step ∷ []) ∙ ap (λ l. flat_map atoms_of earlier ++ l) (append-nil (atoms_of step))))
    (Each-append (LeadsTo p) (flat_map atoms_of earlier) (atoms_of step) front one)

steps_lead : (p : Posed) (earlier steps : List Step) (bound : Option Named) → Each IsCounted steps → EachPasses p earlier (steps ++ Conclusion bound ∷ [])
    → Each (LeadsTo p) (flat_map atoms_of earlier) → Each (LeadsTo p) (flat_map atoms_of (steps ++ Conclusion bound ∷ [])) → Concludes p earlier steps bound
steps_lead p earlier [] bound counted passes front names =
    let step : Step = Conclusion bound in
    let parts = Each-append_parts (LeadsTo p) (atoms_of step) [] names in
    let next : List Step = earlier ++ step ∷ [] in
    let known : Known = behind next (Some (verdict_of bound)) in
    let led : Leads p (behind earlier None) (lines_of earlier step) known = step_leads p earlier step (table_each p next (names_more p earlier step front parts.0)) passes.0 in
    (known, leads_append p (behind earlier None) known known (lines_of earlier step) [] led refl, refl)
steps_lead p earlier (step ∷ steps) bound counted passes front names =
    let parts = Each-append_parts (LeadsTo p) (atoms_of step) (flat_map atoms_of (steps ++ Conclusion bound ∷ [])) names in
    let next : List Step = earlier ++ step ∷ [] in
    let named_next : Each (LeadsTo p) (flat_map atoms_of next) = names_more p earlier step front parts.0 in
    let led : Leads p (behind earlier None) (lines_of earlier step) (behind next None) =
    subst (λ (c : Option Verdict). Leads p (behind earlier None) (lines_of earlier step) (behind next c)) (unconcluded step counted.0)
    (step_leads p earlier step (table_each p next named_next) passes.0) in
    let rest : Concludes p next steps bound = steps_lead p next steps bound counted.1 passes.1 named_next parts.1 in
    (rest.0, leads_append p (behind earlier None) (behind next None) rest.0 (lines_of earlier step) (lines_after next (steps ++ Conclusion bound ∷ [])) led rest.1, rest.2)

-- the lines are accepted
pub replays : (p : Posed) (steps : List Step) (bound : Option Named) → IsReplayed p steps bound → IsAccepted p (lines (steps ++ Conclusion bound ∷ [])) (verdict_of bound)
replays p steps bound h given are =
    let r : Concludes p [] steps bound = steps_lead p [] steps bound h.counted h.passes tt h.names in
    (r.0, leads_judged p nothing r.0 given (subst (λ (ls : List Line). Leads p nothing ls r.0) (sym are) r.1), r.2)
