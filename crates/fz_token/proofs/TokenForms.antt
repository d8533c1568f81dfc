-- What stands in front of some bytes is the longest form there.
use Rattle.std.proofs.Common.{◌≡◌, ℕ, true, false, ◌||◌, eqb, List, get_or, refl, inl, inr}
use Rattle.std.specs.Char.{is_ascii_digit}
use Rattle.std.proofs.lemmas.Bool.{cases_Bool, eqb-true}
use Rattle.fz_token.specs.Forms.{Says}
use Rattle.fz_token.specs.Token.{token_at}
use Rattle.fz_token.specs.Word.{begins_word}
use Rattle.fz_token.proofs.Classes.{Numbers, class_of, is_mark_byte}
use Rattle.fz_token.proofs.MarkForms.{IsMarkClass, mark_says}
use Rattle.fz_token.proofs.NumberForms.{number_says}
use Rattle.fz_token.proofs.StringForms.{string_says}
use Rattle.fz_token.proofs.WordForms.{word_says}

number_class : (b : ℕ) → begins_word b ≡ false → (is_ascii_digit b || eqb b 45) ≡ true → class_of b ≡ Numbers
unfolding class_of
number_class b w n = rw (w, n) refl

mark_class : (b : ℕ) → begins_word b ≡ false → (is_ascii_digit b || eqb b 45) ≡ false → eqb b 34 ≡ false → IsMarkClass (class_of b)
unfolding class_of
mark_class b w n q = elim (cases_Bool (is_mark_byte b)) [
  | inl mark ↦ inl (rw (w, n, q, mark) refl)
  | inr other ↦ inr (rw (w, n, q, other) refl)
]

-- what is answered of some bytes is what the table says of them
pub token_says : (at : ℕ) (s : List ℕ) → Says at s (token_at at s)
unfolding token_at
token_says at s = elim (cases_Bool (begins_word (get_or s 0 0))) [
  | inl word ↦ rw word (word_says at s word)
  | inr w ↦ elim (cases_Bool (is_ascii_digit (get_or s 0 0) || eqb (get_or s 0 0) 45)) [
    | inl number ↦ rw (w, number) (number_says at s (number_class (get_or s 0 0) w number))
    | inr n ↦ elim (cases_Bool (eqb (get_or s 0 0) 34)) [
      | inl quote ↦ rw (w, n, quote) (string_says at s (eqb-true (get_or s 0 0) 34 quote))
      | inr q ↦ rw (w, n, q) (mark_says at s (mark_class (get_or s 0 0) w n q))
    ]
  ]
]
