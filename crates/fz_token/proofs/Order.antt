-- The tokens of a text stand one behind another.
use Rattle.std.proofs.Common.{◌≡◌, ℕ, suc, ◌+◌, ◌-◌, ◌<◌, ◌≤◌, false, List, [], ◌∷◌, length, drop, Result, Ok, Err, refl, sym, subst, arith, inl, inr}
use Rattle.std.proofs.lemmas.Bool.{cases_lt}
use Rattle.fz_token.specs.Forms.{Says}
use Rattle.fz_token.specs.Gap.{gap_end}
use Rattle.fz_token.specs.Stream.{Stream, IsInOrder, stream, stream_from, led_by, start_after}
use Rattle.fz_token.specs.Token.{token_at}
use Rattle.fz_token.specs.declared.Token.{Token}
use Rattle.fz_token.specs.declared.TokenRefusal.{TokenRefusal}
use Rattle.fz_token.proofs.Classes.{front_some}
use Rattle.fz_token.proofs.Streams.{stream_passed, stream_reached, gap_end-ge}
use Rattle.fz_token.proofs.TokenForms.{token_says}

-- what stands in order behind a later place stands so behind an earlier one
earlier : (m n size : ℕ) (tokens : List Token) → m ≤ n → IsInOrder n size tokens → IsInOrder m size tokens
earlier m n size [] l h = tt
earlier m n size (t ∷ tokens) l h = let first : n ≤ t.start = h.0 in (omega arith, h.1, h.2, h.3)

led_in_order : (at size place : ℕ) (s : List ℕ) (t : Result Token TokenRefusal) (after : ℕ → Stream) → place ≤ at → size ≡ at + length s → Says at s t →
    ((token : Token) → t ≡ Ok token → IsInOrder token.end size (after token.end).tokens) → IsInOrder place size (led_by t after).tokens
led_in_order at size place s (Err refusal) after l e says h = tt
led_in_order at size place s (Ok token) after l e says h =
    let some : 0 < says.len = front_some s says.len token.kind says.stands.spelled in
    let within : says.len ≤ length s = says.stands.within in
    let starts : token.start ≡ at = says.starts in
    let ends : token.end ≡ at + says.len = says.ends in
    (omega arith, omega arith, omega arith, h token refl)

token_longer : (at b : ℕ) (rest : List ℕ) (t : Result Token TokenRefusal) (token : Token) → Says at (b ∷ rest) t → t ≡ Ok token → at + 1 ≤ token.end
token_longer at b rest t token says e =
    let is = subst (Says at (b ∷ rest)) e says in
    let some : 0 < is.len = front_some (b ∷ rest) is.len token.kind is.stands.spelled in
    let ends : token.end ≡ at + is.len = is.ends in
    omega arith

far_enough : (at b : ℕ) (rest : List ℕ) (token : Token) (next : ℕ) → token_at at (b ∷ rest) ≡ Ok token → token.end ≤ next → at + 1 ≤ next
far_enough at b rest token next e bound =
    let longer : at + 1 ≤ token.end = token_longer at b rest (token_at at (b ∷ rest)) token (token_says at (b ∷ rest)) e in
    omega arith

from_in_order : (s : List ℕ) (at place : ℕ) → at ≤ place → IsInOrder place (at + length s) (stream_from s at place).tokens
unfolding stream_from
from_in_order [] at place l = tt
from_in_order (b ∷ rest) at place l =
    let size : at + 1 + length rest ≡ at + suc (length rest) = omega arith in
    elim (cases_lt at place) [
      | inl before ↦ subst (λ f. IsInOrder place (at + suc (length rest)) f.tokens) (sym (stream_passed b rest at place before))
          (subst (λ n. IsInOrder place n (stream_from rest (at + 1) place).tokens) size (from_in_order rest (at + 1) place (omega arith)))
      | inr reached ↦ subst (λ f. IsInOrder place (at + suc (length rest)) f.tokens) (sym (stream_reached b rest at place reached))
          (led_in_order at (at + suc (length rest)) place (b ∷ rest) (token_at at (b ∷ rest)) (λ end. stream_from rest (at + 1) (gap_end end false (drop (end - at) (b ∷ rest)))) reached refl
          (token_says at (b ∷ rest)) (λ token e.
          let next = gap_end token.end false (drop (token.end - at) (b ∷ rest)) in
          let bound : token.end ≤ next = gap_end-ge (drop (token.end - at) (b ∷ rest)) token.end false in
          let far : at + 1 ≤ next = far_enough at b rest token next e bound in
          earlier token.end next (at + suc (length rest)) (stream_from rest (at + 1) next).tokens bound
          (subst (λ n. IsInOrder next n (stream_from rest (at + 1) next).tokens) size (from_in_order rest (at + 1) next far))))
    ]

-- the tokens of a text stand in it, one behind another
pub stream_in_order : (text : List ℕ) → IsInOrder 0 (length text) (stream text).tokens
stream_in_order text =
    let start = start_after text 0 in
    let size : 0 + length text ≡ length text = omega arith in
    earlier 0 start (length text) (stream_from text 0 start).tokens (omega arith)
    (subst (λ n. IsInOrder start n (stream_from text 0 start).tokens) size (from_in_order text 0 start (omega arith)))
