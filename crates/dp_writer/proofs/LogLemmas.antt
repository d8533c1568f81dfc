-- The lines of a log, sorted into those that define atoms and the steps' own.
use Rattle.std.proofs.Common.{◌≡◌, ℕ, suc, ◌+◌, Bool, true, not, Some, None, List, [], ◌∷◌, ◌++◌, filter, drop, length, sym, ap, ◌∙◌, refl, append_assoc, inl, arith}
use Rattle.std.proofs.lemmas.List.{append-nil, length-append}
use Rattle.std.proofs.lemmas.List.Elements.{filter-append}
use Rattle.std.proofs.Math.Seq.{drop-append_seam}
use Rattle.std.specs.List.{flat_map, list_any}
use Rattle.dp_base.specs.Lists.{Among, Each}
use Rattle.dp_base.proofs.Lists.{Among-append_right, Each-append_parts, Each-from_among}
use Rattle.dp_domain.specs.Atoms.{Atomic}
use Rattle.dp_domain.proofs.ExplanationLaws.{Among-flat_map}
use Rattle.dp_lines.specs.declared.line.Line.{Line}
use Rattle.dp_lines.specs.declared.line.Line.TheVariants.{Inference as inference_line, Nogood as nogood_line, Conclude as conclusion_line}
use Rattle.dp_lines.specs.declared.line.Claim.TheVariants.{Bound}
use Rattle.dp_writer.specs.Atoms.{Named, same, defined, is_defined, signed_by, literal_in}
use Rattle.dp_writer.specs.Steps.{Step, atoms_in, atoms_of, table, counted, count_of, definition, definitions, new_atoms, literals_in, line_of, lines_of, lines_after}
use Rattle.dp_writer.specs.Steps.Step.{Inference, Nogood, Conclusion}
use Rattle.dp_writer.specs.Logs.{is_definition, own_lines, IsInOrder}
use Rattle.dp_writer.proofs.FirstLemmas.{table_new}
use Rattle.dp_writer.proofs.LiteralLemmas.{kept_place}
use Rattle.dp_writer.proofs.ReadingLemmas.{used_in_table, table_front, table_whole}
use Rattle.dp_writer.proofs.WrittenLemmas.{count_push}

abbrev is_own : Line → Bool
is_own line = not (is_definition line)

definitions_kept : (n : ℕ) (atoms : List Named) → filter is_definition (definitions n atoms) ≡ definitions n atoms
definitions_kept n [] = refl
definitions_kept n (a ∷ atoms) = ap (λ ls. definition (n + 1) a ∷ ls) (definitions_kept (n + 1) atoms)

definitions_gone : (n : ℕ) (atoms : List Named) → filter is_own (definitions n atoms) ≡ []
definitions_gone n [] = refl
definitions_gone n (a ∷ atoms) = definitions_gone (n + 1) atoms

own_gone : (atoms : List Atomic) (n : ℕ) (step : Step) → filter is_definition (line_of atoms n step ∷ []) ≡ []
own_gone atoms n (Inference premises consequent constraint label) = refl
own_gone atoms n (Nogood denied hints) = refl
own_gone atoms n (Conclusion None) = refl
own_gone atoms n (Conclusion (Some bound)) = refl

own_kept : (atoms : List Atomic) (n : ℕ) (step : Step) → filter is_own (line_of atoms n step ∷ []) ≡ line_of atoms n step ∷ []
own_kept atoms n (Inference premises consequent constraint label) = refl
own_kept atoms n (Nogood denied hints) = refl
own_kept atoms n (Conclusion None) = refl
own_kept atoms n (Conclusion (Some bound)) = refl

definitions_append : (n : ℕ) (xs ys : List Named) → definitions n (xs ++ ys) ≡ definitions n xs ++ definitions (n + length xs) ys
definitions_append n [] ys = ap (λ k. definitions k ys) (omega arith)
definitions_append n (x ∷ xs) ys =
    let next : (n + 1) + length xs ≡ n + suc (length xs) = omega arith in
    ap (λ ls. definition (n + 1) x ∷ ls) (definitions_append (n + 1) xs ys ∙ ap (λ k. definitions (n + 1) xs ++ definitions k ys) next)

-- ---- definitions

defined_of : (earlier : List Step) (step : Step) → filter is_definition (lines_of earlier step) ≡ definitions (length (table earlier)) (new_atoms earlier step)
defined_of earlier step =
    filter-append is_definition (definitions (length (table earlier)) (new_atoms earlier step)) (line_of (atoms_in (table (earlier ++ step ∷ []))) (count_of earlier + 1) step ∷ [])
    ∙ (λ j. definitions_kept (length (table earlier)) (new_atoms earlier step) j ++ own_gone (atoms_in (table (earlier ++ step ∷ []))) (count_of earlier + 1) step j)
    ∙ append-nil (definitions (length (table earlier)) (new_atoms earlier step))

-- what stands in the table behind the atoms of earlier steps
abbrev behind : List Step → List Step → List Named
behind earlier steps = drop (length (table earlier)) (table (earlier ++ steps))

behind_is : (earlier steps : List Step) (more : List Named) → table (earlier ++ steps) ≡ table earlier ++ more → behind earlier steps ≡ more
behind_is earlier steps more e = ap (drop (length (table earlier))) e ∙ drop-append_seam (table earlier) more

defined_after : (earlier steps : List Step) → filter is_definition (lines_after earlier steps) ≡ definitions (length (table earlier)) (behind earlier steps)
defined_after earlier [] =
    ap (definitions (length (table earlier))) (sym (behind_is earlier [] [] (ap table (append-nil earlier) ∙ sym (append-nil (table earlier)))))
defined_after earlier (step ∷ steps) =
    let next : List Step = earlier ++ step ∷ [] in
    let new : List Named = new_atoms earlier step in
    let front = table_whole next steps in
    let more : List Named = front.0 in
    let rest : filter is_definition (lines_after next steps) ≡ definitions (length (table next)) more =
    defined_after next steps ∙ ap (definitions (length (table next))) (behind_is next steps more front.1) in
    let count : length (table next) ≡ length (table earlier) + length new = ap length (table_new earlier step) ∙ length-append (table earlier) new in
    let whole : table (earlier ++ step ∷ steps) ≡ table earlier ++ (new ++ more) =
    ap table (sym (append_assoc earlier (step ∷ []) steps)) ∙ front.1 ∙ ap (λ t. t ++ more) (table_new earlier step) ∙ append_assoc (table earlier) new more in
    filter-append is_definition (lines_of earlier step) (lines_after next steps)
    ∙ (λ j. defined_of earlier step j ++ (rest ∙ ap (λ n. definitions n more) count) j)
    ∙ sym (definitions_append (length (table earlier)) new more)
    ∙ ap (definitions (length (table earlier))) (sym (behind_is earlier (step ∷ steps) (new ++ more) whole))

-- ---- the steps' own lines

abbrev IsIn : List Atomic → Named → Type 0
IsIn atoms a = list_any (same (defined a.atom)) atoms ≡ true

literal_stays : (atoms more : List Atomic) (a : Named) → IsIn atoms a → literal_in atoms a.atom ≡ literal_in (atoms ++ more) a.atom
literal_stays atoms more a h = ap (λ n. signed_by (is_defined a.atom.op) (n + 1)) (sym (kept_place (same (defined a.atom)) atoms more h))

literals_stay : (atoms more : List Atomic) (used : List Named) → Each (IsIn atoms) used → literals_in atoms used ≡ literals_in (atoms ++ more) used
literals_stay atoms more [] all = refl
literals_stay atoms more (a ∷ used) all = λ j. literal_stays atoms more a all.0 j ∷ literals_stay atoms more used all.1 j

line_stays : (atoms more : List Atomic) (n : ℕ) (step : Step) → Each (IsIn atoms) (atoms_of step) → line_of atoms n step ≡ line_of (atoms ++ more) n step
line_stays atoms more n (Inference premises None constraint label) all =
    let parts = Each-append_parts (IsIn atoms) premises [] all in
    ap (λ ls. inference_line n ls None (Some constraint) (Some label)) (literals_stay atoms more premises parts.0)
line_stays atoms more n (Inference premises (Some a) constraint label) all =
    let parts = Each-append_parts (IsIn atoms) premises (a ∷ []) all in
    λ j. inference_line n (literals_stay atoms more premises parts.0 j) (Some (literal_stays atoms more a parts.1.0 j)) (Some constraint) (Some label)
line_stays atoms more n (Nogood denied hints) all = ap (λ ls. nogood_line n ls hints) (literals_stay atoms more denied all)
line_stays atoms more n (Conclusion None) all = refl
line_stays atoms more n (Conclusion (Some bound)) all = ap (λ l. conclusion_line (Bound l)) (literal_stays atoms more bound all.0)

last_used : (earlier : List Step) (step : Step) (a : Named) → Among a (atoms_of step) → Among a (flat_map atoms_of (earlier ++ step ∷ []))
last_used earlier step a h = Among-flat_map atoms_of (earlier ++ step ∷ []) step a (Among-append_right step earlier (step ∷ []) (inl refl)) h

own_of : (earlier : List Step) (step : Step) (more : List Atomic)
    → filter is_own (lines_of earlier step) ≡ line_of (atoms_in (table (earlier ++ step ∷ [])) ++ more) (count_of earlier + 1) step ∷ []
own_of earlier step more =
    let atoms : List Atomic = atoms_in (table (earlier ++ step ∷ [])) in
    filter-append is_own (definitions (length (table earlier)) (new_atoms earlier step)) (line_of atoms (count_of earlier + 1) step ∷ [])
    ∙ (λ j. definitions_gone (length (table earlier)) (new_atoms earlier step) j ++ own_kept atoms (count_of earlier + 1) step j)
    ∙ ap (λ l. l ∷ []) (line_stays atoms more (count_of earlier + 1) step
    (Each-from_among (IsIn atoms) (atoms_of step) (λ a h. used_in_table (earlier ++ step ∷ []) a (last_used earlier step a h))))

own_after : (earlier steps : List Step) → filter is_own (lines_after earlier steps) ≡ own_lines (atoms_in (table (earlier ++ steps))) (count_of earlier) steps
own_after earlier [] = refl
own_after earlier (step ∷ steps) =
    let next : List Step = earlier ++ step ∷ [] in
    let front = table_front next steps in
    let whole : atoms_in (table next) ++ front.0 ≡ atoms_in (table (earlier ++ step ∷ steps)) =
    sym front.1 ∙ ap (λ e. atoms_in (table e)) (append_assoc earlier (step ∷ []) steps) in
    let rest : filter is_own (lines_after next steps) ≡ own_lines (atoms_in (table (earlier ++ step ∷ steps))) (count_of earlier + counted step) steps =
    own_after next steps ∙ (λ j. own_lines ((front.1 ∙ whole) j) (count_push earlier step j) steps) in
    filter-append is_own (lines_of earlier step) (lines_after next steps)
    ∙ (λ j. (own_of earlier step front.0 ∙ ap (λ t. line_of t (count_of earlier + 1) step ∷ []) whole) j ++ rest j)

pub in_order : (steps : List Step) → IsInOrder steps
in_order steps = record { defined = defined_after [] steps; own = own_after [] steps }
