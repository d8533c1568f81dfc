-- Numbers of steps: how many there are, and which denial stands under a number.
use Rattle.std.proofs.Common.{◌≡◌, ℕ, ◌+◌, ◌<◌, Option, Some, None, cond, is_some, List, [], ◌∷◌, ◌++◌, length, refl, ◌∙◌, ap, arith}
use Rattle.std.specs.List.{flat_map}
use Rattle.std.proofs.lemmas.Bool.{eq-eqb, ne_eqb}
use Rattle.std.proofs.lemmas.Map.Entries.{lookup_head, lookup_tail}
use Rattle.std.specs.Prelude.{nat_eq}
use Rattle.dp_base.specs.Lists.{Each}
use Rattle.dp_base.proofs.Lists.{Each-append}
use Rattle.dp_domain.specs.Atoms.{Atomic}
use Rattle.dp_checker.specs.Known.{cons_some, denials, first_unknown, found}
use Rattle.dp_writer.specs.Steps.{Step, count_of, counted}
use Rattle.dp_writer.specs.Steps.Step.{Inference, Nogood, Conclusion}
use Rattle.dp_replay.specs.Judging.{IsCounted, denials_from, denied, numbered}

-- ---- how many

-- the steps of two lists are those of each
pub count-append : (xs ys : List Step) → count_of (xs ++ ys) ≡ count_of xs + count_of ys
count-append [] ys = omega arith
count-append (x ∷ xs) ys = let e = count-append xs ys in omega arith

-- where each has a number they are as many as the list is long
pub count-counted : (xs : List Step) → Each IsCounted xs → count_of xs ≡ length xs
count-counted [] h = refl
count-counted (x ∷ xs) h = let e : counted x ≡ 1 = h.0 in let f : count_of xs ≡ length xs = count-counted xs h.1 in omega arith

-- a fact of each item gives one of each piece's items
pub Each-pieces : {A B : Type 0} (P : A → Type 0) (Q : B → Type 0) (f : A → List B) → ((x : A) → P x → Each Q (f x)) → (xs : List A) → Each P xs → Each Q (flat_map f xs)
Each-pieces P Q f h [] e = tt
Each-pieces P Q f h (x ∷ xs) e = Each-append Q (f x) (flat_map f xs) (h x e.0) (Each-pieces P Q f h xs e.1)

-- ---- what stands under a number

-- the number of a step leads to its denial
found-here : (k n : ℕ) (s : Step) (rest : List (ℕ × List Atomic)) → counted s ≡ 1 → k ≡ n → found k (numbered n s ++ rest) ≡ Some (denied s)
found-here k n (Inference premises consequent constraint label) rest c e = lookup_head (nat_eq k) (n, denied (Inference premises consequent constraint label)) rest (eq-eqb k n e)
found-here k n (Nogood atoms hints) rest c e = lookup_head (nat_eq k) (n, denied (Nogood atoms hints)) rest (eq-eqb k n e)
found-here k n (Conclusion bound) rest c e = absurd (omega arith)

-- a number behind that of the first step leads to what it leads to without it
found-behind : (k n : ℕ) (s : Step) (rest : List (ℕ × List Atomic)) → n + counted s < k → found k (numbered (n + 1) s ++ rest) ≡ found k rest
found-behind k n (Inference premises consequent constraint label) rest h =
    let apart : k ≡ n + 1 → ⊥ = λ (e : k ≡ n + 1). omega arith in
    lookup_tail (nat_eq k) (n + 1, denied (Inference premises consequent constraint label)) rest (ne_eqb k (n + 1) apart)
found-behind k n (Nogood atoms hints) rest h =
    let apart : k ≡ n + 1 → ⊥ = λ (e : k ≡ n + 1). omega arith in
    lookup_tail (nat_eq k) (n + 1, denied (Nogood atoms hints)) rest (ne_eqb k (n + 1) apart)
found-behind k n (Conclusion bound) rest h = refl

-- the number next to those of the steps before it leads to a step's denial
pub found-step : (k n : ℕ) (xs : List Step) (s : Step) (ys : List Step) → counted s ≡ 1 → k ≡ n + count_of xs + 1 → found k (denials_from n (xs ++ s ∷ ys)) ≡ Some (denied s)
found-step k n [] s ys c e = found-here k (n + 1) s (denials_from (n + counted s) ys) c (omega arith)
found-step k n (x ∷ xs) s ys c e =
    found-behind k n x (denials_from (n + counted x) (xs ++ s ∷ ys)) (omega arith) ∙ found-step k (n + counted x) xs s ys c (omega arith)

-- ---- hints

-- each number leads to the denial at the same place
abbrev pub AreFound : List (ℕ × List Atomic) → List ℕ → List (List Atomic) → Type 0
AreFound entries [] [] = Unit {0}
AreFound entries [] (d ∷ ds) = ⊥
AreFound entries (h ∷ hs) [] = ⊥
AreFound entries (h ∷ hs) (d ∷ ds) = (found h entries ≡ Some d) × AreFound entries hs ds

-- then none is unknown
pub found-known : (entries : List (ℕ × List Atomic)) (hs : List ℕ) (ds : List (List Atomic)) → AreFound entries hs ds → first_unknown entries hs ≡ None
found-known entries [] ds f = refl
found-known entries (h ∷ hs) [] f = absurd f
found-known entries (h ∷ hs) (d ∷ ds) f =
    ap (λ (o : Option (List Atomic)). cond (is_some o) (first_unknown entries hs) (Some h)) f.0 ∙ found-known entries hs ds f.1

-- and those are the denials of the numbers
pub found-denials : (entries : List (ℕ × List Atomic)) (hs : List ℕ) (ds : List (List Atomic)) → AreFound entries hs ds → denials entries hs ≡ ds
found-denials entries [] [] f = refl
found-denials entries [] (d ∷ ds) f = absurd f
found-denials entries (h ∷ hs) [] f = absurd f
found-denials entries (h ∷ hs) (d ∷ ds) f =
    ap (λ (o : Option (List Atomic)). cons_some o (denials entries hs)) f.0 ∙ ap (λ (es : List (List Atomic)). d ∷ es) (found-denials entries hs ds f.1)
