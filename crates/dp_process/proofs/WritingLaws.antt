-- Steps of the writing: kept turns, nogoods, and the whole log.
use Rattle.std.proofs.Common.{◌≡◌, ℕ, ◌+◌, ◌<◌, ◌≤◌, List, [], ◌∷◌, ◌++◌, length, get_or, Option, Some, take, map, refl, sym, ◌∙◌, ap, subst, arith}
use Rattle.std.specs.Prelude.{OnOk, Result, slice_get}
use Rattle.std.proofs.Math.ListN.{get_or-map}
use Rattle.std.proofs.lemmas.Option.{get_or_from_slice_get}
use Rattle.std.proofs.lemmas.Result.{on_ok_weaker}
use Rattle.std.proofs.lemmas.Grind.{flat_map-append}
use Rattle.std.proofs.lemmas.List.{append-nil, append_assoc, length-append, take_more}
use Rattle.dp_base.specs.Lists.{Each}
use Rattle.dp_base.proofs.Lists.{Each-append, Each-get_or, Each-weaker}
use Rattle.dp_domain.specs.Atoms.{Atomic}
use Rattle.dp_engine.specs.declared.part_id.PartId.{PartId}
use Rattle.dp_engine.specs.declared.part_id.PartId.TheVariants.{Model, Nogood}
use Rattle.dp_justify.specs.Replay.{constraint_at}
use Rattle.dp_justify.specs.declared.kept.Kept.{Kept}
use Rattle.dp_justify.specs.declared.piece.Piece.{Piece}
use Rattle.dp_parts.specs.declared.part.Part.{Part}
use Rattle.dp_parts.specs.Parts.{label_of}
use Rattle.dp_parts.specs.Posed.{Labelled}
use Rattle.dp_parts.specs.Problems.{Csp, labelled, posed}
use Rattle.dp_writer.specs.Steps.{Step}
use Rattle.dp_writer.specs.Written.{Adds, IsAnswered, StandsFor, Written, inference, nogood}
use Rattle.dp_process.specs.Processed.{after_turn, hint_of, hints_of, inferences, label_at, label_in, written_of}
use Rattle.dp_process.specs.Writing.{AddsAll, IsKnown, IsPartAt, IsWritable, numbered, steps_from}

-- ---- steps that are added

pub adds-none : (w : Written) → AddsAll w [] w
adds-none w = λ steps drained h. subst (λ (s : List Step). StandsFor w s drained) (sym (append-nil steps)) h

pub adds-more : (first mid now : Written) (xs ys : List Step) → AddsAll first xs mid → AddsAll mid ys now → AddsAll first (xs ++ ys) now
adds-more first mid now xs ys f g = λ steps drained h.
    subst (λ (s : List Step). StandsFor now s drained) (append_assoc steps xs ys) (g (steps ++ xs) drained (f steps drained h))

-- ---- one more kept turn

inferences-next : (p : Csp) (turns : List Kept) (k : Kept) → inferences p (turns ++ k ∷ []) ≡ inferences p turns ++ written_of p k.source k.premises k.consequent
inferences-next p turns k =
    flat_map-append (λ (t : Kept). written_of p t.source t.premises t.consequent) turns (k ∷ [])
    ∙ ap (λ (s : List Step). inferences p turns ++ s) (append-nil (written_of p k.source k.premises k.consequent))

after_count : (p : Csp) (n : ℕ) (id : PartId) (premises : List Atomic) (consequent : Option Atomic) → after_turn n id ≡ n + length (written_of p id premises consequent)
after_count p n (Model k i) premises consequent = omega arith
after_count p n (Nogood j) premises consequent = omega arith

hints-next : (p : Csp) (number : ℕ → ℕ) (n : ℕ) (turns : List Kept) (k : Kept)
    → hints_of number n (turns ++ k ∷ []) ≡ hints_of number n turns ++ hint_of number (n + length (inferences p turns)) k.source ∷ []
hints-next p number n [] k = ap (λ (m : ℕ). hint_of number m k.source ∷ []) (omega arith)
hints-next p number n (t ∷ turns) k =
    let written : List Step = written_of p t.source t.premises t.consequent in
    let there : after_turn n t.source ≡ n + length written = after_count p n t.source t.premises t.consequent in
    let count : length (written ++ inferences p turns) ≡ length written + length (inferences p turns) = length-append written (inferences p turns) in
    let same : after_turn n t.source + length (inferences p turns) ≡ n + length (written ++ inferences p turns) = omega (arith, there, count) in
    ap (λ (hints : List ℕ). hint_of number n t.source ∷ hints)
    (hints-next p number (after_turn n t.source) turns k ∙ ap (λ (m : ℕ). hints_of number (after_turn n t.source) turns ++ hint_of number m k.source ∷ []) same)

-- what stands where so many kept turns are written
pub record AreWritten (p : Csp) (numbers : List ℕ) (first now : Written) (turns : List Kept) (hints : List ℕ) : Type 0 where
  pub written : AddsAll first (inferences p turns) now
  pub told : hints ≡ hints_of (numbered numbers) first.count turns
  pub answered : Each (IsAnswered now) hints
  pub count : now.count ≡ first.count + length (inferences p turns)

pub turns-start : (p : Csp) (numbers : List ℕ) (w : Written) → AreWritten p numbers w w [] []
turns-start p numbers w = record { written = adds-none w; told = refl; answered = tt; count = omega arith }

-- the number of one more is answered
hint_answered : (numbers : List ℕ) (first mid now : ℕ) (id : PartId) → first ≤ mid → IsKnown first numbers id → now ≡ after_turn mid id → (1 ≤ hint_of (numbered numbers) mid id) × (hint_of (numbered numbers) mid id ≤ now)
hint_answered numbers first mid now (Model k i) h known e = (omega arith, omega arith)
hint_answered numbers first mid now (Nogood j) h known e = (known.0, omega (arith, known.1))

still_answered : (old new : Written) (hints : List ℕ) → old.count ≤ new.count → Each (IsAnswered old) hints → Each (IsAnswered new) hints
still_answered old new hints h all = Each-weaker (IsAnswered old) (IsAnswered new) (λ n k. (k.0, omega (arith, k.1))) hints all

more_counted : (mid now : ℕ) (id : PartId) → now ≡ after_turn mid id → mid ≤ now
more_counted mid now (Model k i) e = omega arith
more_counted mid now (Nogood j) e = omega arith

push_turn : (p : Csp) (numbers : List ℕ) (first mid now : Written) (turns : List Kept) (hints : List ℕ) (k : Kept) (hint : ℕ) → AreWritten p numbers first mid turns hints → IsWritable p numbers first.count k
    → AddsAll mid (written_of p k.source k.premises k.consequent) now → hint ≡ hint_of (numbered numbers) mid.count k.source → now.count ≡ after_turn mid.count k.source
    → AreWritten p numbers first now (turns ++ k ∷ []) (hints ++ hint ∷ [])
push_turn p numbers first mid now turns hints k hint before writable added told counted =
    let answer = hint_answered numbers first.count mid.count now.count k.source (omega (arith, before.count)) writable.known counted in
    let lines : inferences p (turns ++ k ∷ []) ≡ inferences p turns ++ written_of p k.source k.premises k.consequent = inferences-next p turns k in
    let here : after_turn mid.count k.source ≡ mid.count + length (written_of p k.source k.premises k.consequent) = after_count p mid.count k.source k.premises k.consequent in
    let both : length (inferences p turns ++ written_of p k.source k.premises k.consequent) ≡ length (inferences p turns) + length (written_of p k.source k.premises k.consequent) =
    length-append (inferences p turns) (written_of p k.source k.premises k.consequent) in
    let all : length (inferences p (turns ++ k ∷ [])) ≡ length (inferences p turns ++ written_of p k.source k.premises k.consequent) = ap length lines in
    record {
      written = subst (λ (s : List Step). AddsAll first s now) (sym lines)
          (adds-more first mid now (inferences p turns) (written_of p k.source k.premises k.consequent) before.written added);
      told = (λ j. before.told j ++ (told ∙ ap (λ (n : ℕ). hint_of (numbered numbers) n k.source) before.count) j ∷ []) ∙ sym (hints-next p (numbered numbers) first.count turns k);
      answered = Each-append (IsAnswered now) hints (hint ∷ []) (still_answered mid now hints (more_counted mid.count now.count k.source counted) before.answered)
          (subst (λ (n : ℕ). (1 ≤ n) × (n ≤ now.count)) (sym told) answer, tt);
      count = omega (arith, before.count, counted, here, both, all);
    }

pub turns-next : (p : Csp) (numbers : List ℕ) (first mid now : Written) (turns : List Kept) (hints more : List ℕ) (n : ℕ) (k : Kept) (hint : ℕ)
    → AreWritten p numbers first mid (take n turns) hints → Each (IsWritable p numbers first.count) turns → n < length turns → k ≡ get_or turns n k
    → AddsAll mid (written_of p k.source k.premises k.consequent) now → hint ≡ hint_of (numbered numbers) mid.count k.source → now.count ≡ after_turn mid.count k.source → more ≡ hints ++ hint ∷ []
    → AreWritten p numbers first now (take (n + 1) turns) more
turns-next p numbers first mid now turns hints more n k hint before all h at added told counted pushed =
    let next : take n turns ++ k ∷ [] ≡ take (n + 1) turns = ap (λ (t : Kept). take n turns ++ t ∷ []) at ∙ sym (take_more turns n k h) in
    subst (λ (ts : List Kept). AreWritten p numbers first now ts more) next
    (subst (AreWritten p numbers first now (take n turns ++ k ∷ [])) (sym pushed)
    (push_turn p numbers first mid now (take n turns) hints k hint before
    (subst (IsWritable p numbers first.count) (sym at) (Each-get_or (IsWritable p numbers first.count) turns n k h all)) added told counted))

-- ---- one inference

-- the label of the part that stands there
pub label-here : (p : Csp) (k i : ℕ) (parts : List Part) (part : Part) (label : List ℕ) → IsPartAt p k i → slice_get p.parts k ≡ Some parts → part ≡ get_or parts i part → label ≡ label_of part → label ≡ label_at p k i
label-here p k i parts part label at there is same =
    let whole : constraint_at (posed p) k ≡ map labelled parts = get_or-map (map labelled) p.parts k [] ∙ ap (map labelled) (get_or_from_slice_get p.parts k parts [] there) in
    let got : slice_get (map labelled parts) i ≡ Some at.0 = ap (λ (qs : List Labelled). slice_get qs i) (sym whole) ∙ at.1 in
    let one : labelled part ≡ at.0 = ap labelled is ∙ sym (get_or-map labelled parts i part) ∙ get_or_from_slice_get (map labelled parts) i at.0 (labelled part) got in
    same ∙ ap (λ (q : Labelled). q.label) one ∙ ap label_in (sym at.1)

pub inference-added : {E : Type 0} (p : Csp) (k i : ℕ) (turn : Kept) (premises : List Atomic) (label : List ℕ) (r : Result ℕ E) (old new : Written) → premises ≡ turn.premises → label ≡ label_at p k i
    → OnOk r (Adds old (inference p premises turn.consequent (k + 1) label) new) → OnOk r (Adds old (inference p turn.premises turn.consequent (k + 1) (label_at p k i)) new)
inference-added p k i turn premises label r old new e f h =
    on_ok_weaker r (λ added. subst (λ (step : Step). Adds old step new) (λ j. inference p (e j) turn.consequent (k + 1) (f j)) added) h

-- ---- a nogood behind its kept turns

pub nogood-added : {E : Type 0} (p : Csp) (number : ℕ → ℕ) (n : ℕ) (first mid now : Written) (turns : List Kept) (atoms denied : List Atomic) (hints told : List ℕ) (r : Result ℕ E)
    → AddsAll first (inferences p turns) mid → denied ≡ atoms → told ≡ hints → hints ≡ hints_of number n turns → OnOk r (Adds mid (nogood p denied told) now)
    → OnOk r (AddsAll first (inferences p turns ++ nogood p atoms (hints_of number n turns) ∷ []) now)
nogood-added p number n first mid now turns atoms denied hints told r before e f g h =
    on_ok_weaker r (λ added. adds-more first mid now (inferences p turns) (nogood p atoms (hints_of number n turns) ∷ []) before
    (subst (λ (step : Step). Adds mid step now) (λ j. nogood p (e j) ((f ∙ g) j)) added)) h

-- the same of its justification
pub piece-added : {E : Type 0} (p : Csp) (number : ℕ → ℕ) (n count : ℕ) (old new : Written) (atoms : List Atomic) (turns : List Kept) (piece : Option Piece) (q : Piece) (r : Result ℕ E) → piece ≡ Some q → turns ≡ q.steps → count ≡ n
    → OnOk r (AddsAll old (inferences p turns ++ nogood p atoms (hints_of number count turns) ∷ []) new) → OnOk r (AddsAll old (steps_from p number n atoms piece) new)
piece-added p number n count old new atoms turns piece q r is e f h =
    let same : inferences p turns ++ nogood p atoms (hints_of number count turns) ∷ [] ≡ steps_from p number n atoms piece =
    (λ j. inferences p (e j) ++ nogood p atoms (hints_of number (f j) (e j)) ∷ []) ∙ ap (steps_from p number n atoms) (sym is) in
    on_ok_weaker r (λ added. subst (λ (steps : List Step). AddsAll old steps new) same added) h
