-- A nogood or a claim behind the nogoods that were written.
use Rattle.std.proofs.Common.{◌≡◌, ℕ, List, [], ◌∷◌, ◌++◌, map, Some, None, Result, Ok, Err, sym, ◌∙◌, ap, subst, append-nil}
use Rattle.std.specs.List.{flat_map}
use Rattle.std.specs.Prelude.{OnErr}
use Rattle.std.proofs.lemmas.List.{map-append}
use Rattle.std.proofs.lemmas.List.Concat.{flat_map-append}
use Rattle.dp_base.specs.Lists.{Each}
use Rattle.dp_desk.specs.Channel.{Channel, Grows, GrowsByPart}
use Rattle.dp_desk.proofs.Channels.{grows_by_all, grows_by_front, grows_then_part, grows_twice}
use Rattle.dp_domain.specs.Atoms.{Atomic}
use Rattle.dp_domain.specs.declared.verdict.Verdict.{Verdict}
use Rattle.dp_learning.specs.Scaffolds.{scaffold_of, steps_of}
use Rattle.dp_lines.specs.Allowed.{IsAllowed}
use Rattle.dp_lines.specs.Spelling.{line_text}
use Rattle.dp_lines.specs.declared.line.Line.{Line}
use Rattle.dp_parts.specs.Problems.{Csp}
use Rattle.dp_solver.specs.Rounds.{IsWritten}
use Rattle.dp_writer.specs.Steps.{Step, lines, lines_of, text_of}
use Rattle.dp_writer.specs.Written.{Adds, HandsOver, StandsFor, Written, conclusion, nogood}
use Rattle.dp_writer.proofs.FirstLemmas.{lines_push}

-- ---- steps

-- one nogood more is one step more
steps-nogood : (p : Csp) (nogoods : List (List Atomic)) (atoms : List Atomic) → steps_of p nogoods None ++ nogood p atoms [] ∷ [] ≡ steps_of p (nogoods ++ atoms ∷ []) None
steps-nogood p nogoods atoms =
    ap (λ (steps : List Step). steps ++ nogood p atoms [] ∷ []) (append-nil (map (λ ns. nogood p ns []) nogoods))
    ∙ sym (map-append (λ (ns : List Atomic). nogood p ns []) nogoods (atoms ∷ []))
    ∙ sym (append-nil (map (λ ns. nogood p ns []) (nogoods ++ atoms ∷ [])))

-- and so is the claim
steps-claim : (p : Csp) (nogoods : List (List Atomic)) (claim : Verdict) → steps_of p nogoods None ++ conclusion p claim ∷ [] ≡ steps_of p nogoods (Some claim)
steps-claim p nogoods claim = ap (λ (steps : List Step). steps ++ conclusion p claim ∷ []) (append-nil (map (λ ns. nogood p ns []) nogoods))

-- the text of one step more begins with that of the others
text-more : (steps : List Step) (step : Step) → text_of (steps ++ step ∷ []) ≡ text_of steps ++ flat_map line_text (lines_of steps step)
text-more steps step = ap (λ (ls : List Line). flat_map line_text ls) (lines_push [] steps step) ∙ flat_map-append line_text (lines steps) (lines_of steps step)

-- ---- one step

-- what was added and handed over is the text of one step more
step-drained : (w added left : Written) (steps : List Step) (step : Step) (bytes drained : List ℕ) → StandsFor w steps drained → Adds w step added → HandsOver added bytes left → bytes ≡ added.text
    → StandsFor left (steps ++ step ∷ []) (drained ++ bytes) × (drained ++ bytes ≡ text_of (steps ++ step ∷ []))
step-drained w added left steps step bytes drained stands adds hands is =
    let now : StandsFor added (steps ++ step ∷ []) drained = adds steps drained stands in
    (hands (steps ++ step ∷ []) drained now, ap (λ (text : List ℕ). drained ++ text) is ∙ now.text)

-- ---- nogoods

-- a nogood was written
pub nogood-written : (p : Csp) (atoms : List Atomic) (old new : Channel) (w added left : Written) (bytes : List ℕ) → Adds w (nogood p atoms []) added → HandsOver added bytes left → bytes ≡ added.text → Grows old new bytes
    → (was : Channel) (nogoods : List (List Atomic)) → IsWritten p nogoods was old w → IsWritten p (nogoods ++ atoms ∷ []) was new left
nogood-written p atoms old new w added left bytes adds hands is grows was nogoods before =
    let d = step-drained w added left (steps_of p nogoods None) (nogood p atoms []) bytes (scaffold_of p nogoods None) before.stands adds hands is in
    let more : steps_of p nogoods None ++ nogood p atoms [] ∷ [] ≡ steps_of p (nogoods ++ atoms ∷ []) None = steps-nogood p nogoods atoms in
    let text : scaffold_of p nogoods None ++ bytes ≡ scaffold_of p (nogoods ++ atoms ∷ []) None = d.1 ∙ ap (λ (steps : List Step). text_of steps) more in
    record {
      grows = subst (Grows was new) text (grows_twice was old new (scaffold_of p nogoods None) bytes before.grows grows);
      stands = subst (StandsFor left (steps_of p (nogoods ++ atoms ∷ []) None)) text (subst (λ (steps : List Step). StandsFor left steps (scaffold_of p nogoods None ++ bytes)) more d.0);
    }

-- a part of it was written
pub nogood-part : (p : Csp) (atoms : List Atomic) (old new : Channel) (w added left : Written) (bytes : List ℕ) → Adds w (nogood p atoms []) added → HandsOver added bytes left → bytes ≡ added.text → GrowsByPart old new bytes
    → (was : Channel) (nogoods : List (List Atomic)) → IsWritten p nogoods was old w → GrowsByPart was new (scaffold_of p (nogoods ++ atoms ∷ []) None)
nogood-part p atoms old new w added left bytes adds hands is grows was nogoods before =
    let d = step-drained w added left (steps_of p nogoods None) (nogood p atoms []) bytes (scaffold_of p nogoods None) before.stands adds hands is in
    subst (GrowsByPart was new) (d.1 ∙ ap (λ (steps : List Step). text_of steps) (steps-nogood p nogoods atoms)) (grows_then_part was old new (scaffold_of p nogoods None) bytes before.grows grows)

-- or nothing
pub nogood-unwritten : (p : Csp) (atoms : List Atomic) (old : Channel) (w : Written) (was : Channel) (nogoods : List (List Atomic)) → IsWritten p nogoods was old w → GrowsByPart was old (scaffold_of p (nogoods ++ atoms ∷ []) None)
nogood-unwritten p atoms old w was nogoods before =
    subst (GrowsByPart was old) (sym (text-more (steps_of p nogoods None) (nogood p atoms [])) ∙ ap (λ (steps : List Step). text_of steps) (steps-nogood p nogoods atoms))
    (grows_by_front was old (scaffold_of p nogoods None) (flat_map line_text (lines_of (steps_of p nogoods None) (nogood p atoms []))) (grows_by_all was old (scaffold_of p nogoods None) before.grows))

-- ---- claims

-- the claim was written
pub claim-written : (p : Csp) (claim : Verdict) (old new : Channel) (w added left : Written) (bytes : List ℕ) → Adds w (conclusion p claim) added → HandsOver added bytes left → bytes ≡ added.text → Grows old new bytes
    → (was : Channel) (nogoods : List (List Atomic)) → IsWritten p nogoods was old w → Grows was new (scaffold_of p nogoods (Some claim)) × Each IsAllowed (lines (steps_of p nogoods (Some claim)))
claim-written p claim old new w added left bytes adds hands is grows was nogoods before =
    let d = step-drained w added left (steps_of p nogoods None) (conclusion p claim) bytes (scaffold_of p nogoods None) before.stands adds hands is in (
      subst (Grows was new) (d.1 ∙ ap (λ (steps : List Step). text_of steps) (steps-claim p nogoods claim)) (grows_twice was old new (scaffold_of p nogoods None) bytes before.grows grows),
      subst (λ (steps : List Step). Each IsAllowed (lines steps)) (steps-claim p nogoods claim) d.0.lines,
    )

-- a part of it was written
pub claim-part : (p : Csp) (claim : Verdict) (old new : Channel) (w added left : Written) (bytes : List ℕ) → Adds w (conclusion p claim) added → HandsOver added bytes left → bytes ≡ added.text → GrowsByPart old new bytes
    → (was : Channel) (nogoods : List (List Atomic)) → IsWritten p nogoods was old w → GrowsByPart was new (scaffold_of p nogoods (Some claim))
claim-part p claim old new w added left bytes adds hands is grows was nogoods before =
    let d = step-drained w added left (steps_of p nogoods None) (conclusion p claim) bytes (scaffold_of p nogoods None) before.stands adds hands is in
    subst (GrowsByPart was new) (d.1 ∙ ap (λ (steps : List Step). text_of steps) (steps-claim p nogoods claim)) (grows_then_part was old new (scaffold_of p nogoods None) bytes before.grows grows)

-- or nothing
pub claim-unwritten : (p : Csp) (claim : Verdict) (old : Channel) (w : Written) (was : Channel) (nogoods : List (List Atomic)) → IsWritten p nogoods was old w → GrowsByPart was old (scaffold_of p nogoods (Some claim))
claim-unwritten p claim old w was nogoods before =
    subst (GrowsByPart was old) (sym (text-more (steps_of p nogoods None) (conclusion p claim)) ∙ ap (λ (steps : List Step). text_of steps) (steps-claim p nogoods claim))
    (grows_by_front was old (scaffold_of p nogoods None) (flat_map line_text (lines_of (steps_of p nogoods None) (conclusion p claim))) (grows_by_all was old (scaffold_of p nogoods None) before.grows))

-- what holds after a fault holds whatever the result
pub on-err : {T E : Type 0} (r : Result T E) (P : Type 0) → P → OnErr r P
on-err (Ok v) P h = tt
on-err (Err e) P h = h
