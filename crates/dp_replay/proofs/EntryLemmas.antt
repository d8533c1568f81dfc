-- Numbered items, and what stands under a number.
use Rattle.std.proofs.Common.{◌≡◌, ℕ, zero, suc, ◌+◌, ◌<◌, ◌≤◌, cond, nat_eq, Option, Some, None, List, [], ◌∷◌, ◌++◌, length, slice_get, sym, ap, ◌∙◌, refl, append_assoc, arith}
use Rattle.std.proofs.lemmas.Bool.{eq-eqb, ne_eqb}
use Rattle.std.proofs.lemmas.List.{append-nil}
use Rattle.dp_domain.specs.Atoms.{Atomic}
use Rattle.dp_checker.specs.Known.{found}
use Rattle.dp_writer.specs.Steps.{Step, count_of, counted}
use Rattle.dp_writer.specs.Steps.Step.{Inference, Nogood, Conclusion}
use Rattle.dp_replay.specs.Judging.{denied, denials_from, numbered}

-- ---- items with numbers from n + 1 on

abbrev pub entries : {A : Type 0} → ℕ → List A → List (ℕ × A)
entries n [] = []
entries n (x ∷ xs) = (n + 1, x) ∷ entries (n + 1) xs

here : {A : Type 0} (k m : ℕ) (x : A) (rest : Option A) → k ≡ m → cond (nat_eq k m) (Some x) rest ≡ Some x
here k m x rest e = ap (λ b. cond b (Some x) rest) (eq-eqb k m e)

apart : {A : Type 0} (k m : ℕ) (x : A) (rest : Option A) → (k ≡ m → ⊥) → cond (nat_eq k m) (Some x) rest ≡ rest
apart k m x rest h = ap (λ b. cond b (Some x) rest) (ne_eqb k m h)

-- under a number up to n stands nothing
pub found_below : {A : Type 0} (n k : ℕ) (xs : List A) → k ≤ n → found k (entries n xs) ≡ None
found_below n k [] h = refl
found_below n k (x ∷ xs) h = apart k (n + 1) x (found k (entries (n + 1) xs)) (λ e. omega arith) ∙ found_below (n + 1) k xs (omega arith)

-- nor behind the last number
pub found_behind : {A : Type 0} (n k : ℕ) (xs : List A) → n + length xs < k → found k (entries n xs) ≡ None
found_behind n k [] h = refl
found_behind n k (x ∷ xs) h = apart k (n + 1) x (found k (entries (n + 1) xs)) (λ e. omega arith) ∙ found_behind (n + 1) k xs (omega arith)

-- under a number stands the item of its place
pub found_at : {A : Type 0} (n k place : ℕ) (xs : List A) → k ≡ n + suc place → found k (entries n xs) ≡ slice_get xs place
found_at n k place [] e = refl
found_at n k zero (x ∷ xs) e = here k (n + 1) x (found k (entries (n + 1) xs)) (omega arith)
found_at n k (suc place) (x ∷ xs) e =
    apart k (n + 1) x (found k (entries (n + 1) xs)) (λ f. omega arith) ∙ found_at (n + 1) k place xs (omega arith)

-- one item more goes last
pub entries_push : {A : Type 0} (n m : ℕ) (xs : List A) (x : A) → m ≡ n + length xs → entries n xs ++ (m + 1, x) ∷ [] ≡ entries n (xs ++ x ∷ [])
entries_push n m [] x e = let same : m ≡ n = omega arith in ap (λ k. (k + 1, x) ∷ []) same
entries_push n m (y ∷ xs) x e = ap (λ l. (n + 1, y) ∷ l) (entries_push (n + 1) m xs x (omega arith))

-- ---- denials of steps

found_numbered : (n k : ℕ) (step : Step) (rest : List (ℕ × List Atomic)) → (k ≡ n → ⊥) → found k (numbered n step ++ rest) ≡ found k rest
found_numbered n k (Inference premises consequent constraint label) rest h = apart k n (denied (Inference premises consequent constraint label)) (found k rest) h
found_numbered n k (Nogood atoms hints) rest h = apart k n (denied (Nogood atoms hints)) (found k rest) h
found_numbered n k (Conclusion bound) rest h = refl

-- behind the last step's number stands none
pub unnumbered : (n k : ℕ) (steps : List Step) → n + count_of steps < k → found k (denials_from n steps) ≡ None
unnumbered n k [] h = refl
unnumbered n k (Inference premises consequent constraint label ∷ steps) h =
    found_numbered (n + 1) k (Inference premises consequent constraint label) (denials_from (n + 1) steps) (λ e. omega arith) ∙ unnumbered (n + 1) k steps (omega arith)
unnumbered n k (Nogood atoms hints ∷ steps) h =
    found_numbered (n + 1) k (Nogood atoms hints) (denials_from (n + 1) steps) (λ e. omega arith) ∙ unnumbered (n + 1) k steps (omega arith)
unnumbered n k (Conclusion bound ∷ steps) h = unnumbered (n + 0) k steps (omega arith)

pub denials_push : (n m : ℕ) (steps : List Step) (step : Step) → m ≡ n + count_of steps → denials_from n steps ++ numbered (m + 1) step ≡ denials_from n (steps ++ step ∷ [])
denials_push n m [] step e = let same : m ≡ n = omega arith in ap (λ k. numbered (k + 1) step) same ∙ sym (append-nil (numbered (n + 1) step))
denials_push n m (s ∷ steps) step e =
    append_assoc (numbered (n + 1) s) (denials_from (n + counted s) steps) (numbered (m + 1) step)
    ∙ ap (λ l. numbered (n + 1) s ++ l) (denials_push (n + counted s) m steps step (omega arith))
