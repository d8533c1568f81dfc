-- What is answered for what is read of an input.
use Rattle.std.specs.Prelude.{◌≡◌, ◌⊎◌, ℕ, zero, suc, Bool, true, false, nat_lt, ◌+◌, ◌-◌, ◌≤◌, ◌<◌, List, [], length, take, ◌++◌, Option, Some, None}
use Rattle.std.proofs.Common.{refl, sym, ◌∙◌, ap, subst, inl, inr, arith}
use Rattle.std.proofs.lemmas.List.{append-nil}
use Rattle.std.proofs.lemmas.Bool.Decides.{nat_tests}
use Rattle.std.proofs.Math.Seq.{take-append-add, take-append_seam}
use Rattle.dp_desk.specs.Channel.{Channel, Files, Shut, Hidden, Shown, Takes, IsAtEnd, Opens, Shows}
use Rattle.dp_command.specs.Pieces.{IsAnswered, Judges}

by_test : (n bound : ℕ) (b : Bool) → nat_lt n bound ≡ b → (n < bound) ⊎ (bound ≤ n)
by_test n bound true e = inl (grind (arith, nat_tests, e))
by_test n bound false e = inr (grind (arith, nat_tests, e))

lt_or_ge : (n bound : ℕ) → (n < bound) ⊎ (bound ≤ n)
lt_or_ge n bound = by_test n bound (nat_lt n bound) refl

sum_of : (n bound : ℕ) → n ≤ bound → bound ≡ n + (bound - n)
sum_of n bound h = omega (arith, h)

-- the first bytes, where some of them were taken
front_of : (bound : ℕ) (xs ys : List ℕ) → length xs ≤ bound → take bound (xs ++ ys) ≡ xs ++ take (bound - length xs) ys
front_of bound xs ys few = ap (λ n. take n (xs ++ ys)) (sum_of (length xs) bound few) ∙ take-append-add xs ys (bound - length xs)

abbrev Judged : {A : Type 0} → (List ℕ → A → Type 0) → (A → Type 0) → ℕ → Channel → List ℕ → A → Type 0
Judged {A = A} due refuses bound now bytes answer = (refuses answer × ((more : List ℕ) → due (bytes ++ more) answer)) ⊎ (due bytes answer × (length bytes < bound → IsAtEnd now))

-- where names are not told
untold : {A : Type 0} (due : List ℕ → A → Type 0) (refuses : A → Type 0) (bound : ℕ) (name : List ℕ) (now : Channel) (bytes : List ℕ) (answer : A) →
    length bytes ≤ bound → Judged due refuses bound now bytes answer → IsAnswered due refuses bound None name now answer
untold due refuses bound name now bytes answer few (inl j) =
    record { text = bytes; read = few; answered = subst (λ t. due t answer) (append-nil bytes) (j.1 []); ended = inl j.0 }
untold due refuses bound name now bytes answer few (inr j) = record { text = bytes; read = few; answered = j.0; ended = inr j.1 }

none : (n : ℕ) → take {A = ℕ} n [] ≡ []
none zero = refl
none (suc n) = refl

ends : (bound : ℕ) (xs rest : List ℕ) → length xs ≤ bound → (length xs < bound → rest ≡ []) → (length xs < bound) ⊎ (bound ≤ length xs) → take bound (xs ++ rest) ≡ xs
ends bound xs rest few end (inl less) =
    front_of bound xs rest few ∙ ap (λ r. xs ++ take (bound - length xs) r) (end less) ∙ ap (λ t. xs ++ t) (none (bound - length xs)) ∙ append-nil xs
ends bound xs rest few end (inr more) = ap (λ n. take n (xs ++ rest)) (same (length xs) bound few more) ∙ take-append_seam xs rest
  where
    same : (n bound : ℕ) → n ≤ bound → bound ≤ n → bound ≡ n
    same n bound h k = omega (arith, h, k)

-- where they are
told : {A : Type 0} (due : List ℕ → A → Type 0) (refuses : A → Type 0) (bound : ℕ) (files : Files) (name whole rest : List ℕ) (bytes : List ℕ) (answer : A) →
    files name ≡ Some whole → whole ≡ bytes ++ rest → length bytes ≤ bound → Judged due refuses bound (Shown rest) bytes answer → IsAnswered due refuses bound (Some files) name (Shown rest) answer
told due refuses bound files name whole rest bytes answer held cut few (inl j) = record {
  text = take bound whole;
  read = record { whole = whole; holds = held; front = refl };
  answered = subst (λ t. due t answer) (sym (ap (λ w. take bound w) cut ∙ front_of bound bytes rest few)) (j.1 (take (bound - length bytes) rest));
  ended = inl j.0;
}
told due refuses bound files name whole rest bytes answer held cut few (inr j) =
    let same = ap (λ w. take bound w) cut ∙ ends bound bytes rest few j.1 (lt_or_ge (length bytes) bound) in
    record {
      text = take bound whole;
      read = record { whole = whole; holds = held; front = refl };
      answered = subst (λ t. due t answer) (sym same) j.0;
      ended = inr (λ h. j.1 (subst (λ t. length t < bound) same h));
    }

by_now : {A : Type 0} (due : List ℕ → A → Type 0) (refuses : A → Type 0) (bound : ℕ) (files : Files) (name whole : List ℕ) (now : Channel) (bytes : List ℕ) (answer : A) →
    files name ≡ Some whole → Takes (Shown whole) now bytes → length bytes ≤ bound → Judged due refuses bound now bytes answer → IsAnswered due refuses bound (Some files) name now answer
by_now due refuses bound files name whole Shut bytes answer held took few j = absurd took
by_now due refuses bound files name whole Hidden bytes answer held took few j = absurd took
by_now due refuses bound files name whole (Shown rest) bytes answer held took few j = told due refuses bound files name whole rest bytes answer held took few j

by_held : {A : Type 0} (due : List ℕ → A → Type 0) (refuses : A → Type 0) (bound : ℕ) (files : Files) (name : List ℕ) (held : Option (List ℕ)) (was now : Channel) (answer : A) →
    files name ≡ held → Shows held was → Judges due refuses bound was now answer → IsAnswered due refuses bound (Some files) name now answer
by_held due refuses bound files name None was now answer e h j = absurd h
by_held due refuses bound files name (Some whole) was now answer e h j =
    by_now due refuses bound files name whole now j.bytes answer e (subst (λ w. Takes w now j.bytes) h j.took) j.few j.judged

-- what is judged of an input that was opened is answered for it
pub judges-answered : {A : Type 0} (due : List ℕ → A → Type 0) (refuses : A → Type 0) (bound : ℕ) (names : Option Files) (name : List ℕ) (was now : Channel) (answer : A) →
    Opens names name was → Judges due refuses bound was now answer → IsAnswered due refuses bound names name now answer
judges-answered due refuses bound None name was now answer h j = untold due refuses bound name now j.bytes answer j.few j.judged
judges-answered due refuses bound (Some files) name was now answer h j = by_held due refuses bound files name (files name) was now answer refl h j
