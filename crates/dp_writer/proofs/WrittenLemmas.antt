-- A step more was written.
use Rattle.std.proofs.Common.{◌≡◌, ℕ, ◌+◌, List, [], ◌∷◌, ◌++◌, sym, ap, ◌∙◌, subst, append_assoc, arith, Result, Ok, Err, IfOk, OnOk, IsOkAnd}
use Rattle.std.proofs.lemmas.Grind.{flat_map-append}
use Rattle.std.specs.List.{flat_map}
use Rattle.dp_base.specs.Lists.{Each}
use Rattle.dp_base.proofs.Lists.{Each-append}
use Rattle.dp_domain.specs.Atoms.{Atomic}
use Rattle.dp_lines.specs.Allowed.{IsAllowed}
use Rattle.dp_lines.specs.Spelling.{line_text}
use Rattle.dp_writer.specs.Steps.{Step, atoms_of, counted, count_of, lines, lines_of}
use Rattle.dp_writer.specs.Numbering.{Writes, step_lines, with_atoms}
use Rattle.dp_writer.specs.Written.{Written, Adds}
use Rattle.dp_writer.proofs.FirstLemmas.{atoms_after, lines_are, lines_push}

pub count_push : (steps : List Step) (step : Step) → count_of (steps ++ step ∷ []) ≡ count_of steps + counted step
count_push [] step = omega arith
count_push (s ∷ steps) step = let e = count_push steps step in omega arith

-- whatever was written, the step was written after it
pub adds : (old new : Written) (number : ℕ) (step : Step) (text : List ℕ) → Writes number step old.atoms new.atoms text
    → ((n : ℕ) → old.count ≡ n → step_lines old.atoms number step ≡ step_lines old.atoms (n + 1) step)
    → new.count ≡ old.count + counted step → new.text ≡ old.text ++ text → Adds old step new
adds old new number step text writes numbered count spelled steps drained stands =
    let are : step_lines old.atoms number step ≡ lines_of steps step =
    numbered (count_of steps) stands.count ∙ ap (λ t. step_lines t (count_of steps + 1) step) stands.atoms ∙ lines_are steps step in
    let whole : lines (steps ++ step ∷ []) ≡ lines steps ++ lines_of steps step = lines_push [] steps step in
    record {
      atoms = writes.table ∙ ap (λ t. with_atoms t (atoms_of step)) stands.atoms ∙ atoms_after steps step;
      count = count ∙ ap (λ n. n + counted step) stands.count ∙ sym (count_push steps step);
      lines = subst (Each IsAllowed) (sym whole)
          (Each-append IsAllowed (lines steps) (lines_of steps step) stands.lines (subst (Each IsAllowed) are writes.allowed));
      text = ap (λ t. drained ++ t) spelled ∙ sym (append_assoc drained old.text text)
          ∙ (λ j. stands.text j ++ (writes.spelled ∙ ap (flat_map line_text) are) j)
          ∙ sym (flat_map-append line_text (lines steps) (lines_of steps step))
          ∙ ap (flat_map line_text) (sym whole);
    }

-- so where its lines were made and appended
pub adds_lines : {T E : Type 0} (items : T → List ℕ) (made : Result T E) (old new : Written) (mid : List Atomic) (number : ℕ) (step : Step)
    → IfOk made (λ l. Writes number step old.atoms mid (items l)) → new.atoms ≡ mid → IsOkAnd made (λ l. new.text ≡ old.text ++ items l)
    → ((n : ℕ) → old.count ≡ n → step_lines old.atoms number step ≡ step_lines old.atoms (n + 1) step)
    → new.count ≡ old.count + counted step → Adds old step new
adds_lines items (Ok l) old new mid number step writes kept spelled numbered count =
    adds old new number step (items l) (subst (λ t. Writes number step old.atoms t (items l)) (sym kept) writes) numbered count spelled
adds_lines items (Err e) old new mid number step writes kept spelled numbered count = absurd spelled

pub on_both : {X E : Type 0} (r : Result X E) {P Q R : Type 0} → (P → Q → R) → OnOk r P → OnOk r Q → OnOk r R
on_both (Ok x) f p q = f p q
on_both (Err e) f p q = tt
