-- The stream of a text, a token at a time.
use Rattle.std.proofs.Common.{◌≡◌, ℕ, zero, suc, ◌+◌, ◌-◌, ◌<◌, ◌≤◌, Bool, true, false, List, [], ◌∷◌, length, drop, get_or, nat_lt, Result, Ok, Err, IfOk, refl, sym, ◌∙◌, ap, subst, arith}
use Rattle.std.proofs.lemmas.List.{drop-drop, drop_more}
use Rattle.fz_token.specs.Gap.{gap_end}
use Rattle.fz_token.specs.Stream.{stream_at, before, found, place_after, stream_from, nothing, refused, with_token, led_by, start_after}
use Rattle.fz_token.specs.Token.{token_at}
use Rattle.fz_token.specs.declared.Token.{Token}
use Rattle.fz_token.specs.declared.TokenRefusal.{TokenRefusal}

lt_true : (m n : ℕ) → m < n → nat_lt m n ≡ true
lt_true m n h = grind arith

lt_false : (m n : ℕ) → n ≤ m → nat_lt m n ≡ false
lt_false m n h = grind arith

pub stream_passed : (b : ℕ) (rest : List ℕ) (at place : ℕ) → at < place → stream_from (b ∷ rest) at place ≡ stream_from rest (at + 1) place
unfolding stream_from
stream_passed b rest at place h = rw (lt_true at place h) refl

pub stream_reached : (b : ℕ) (rest : List ℕ) (at place : ℕ) → place ≤ at →
    stream_from (b ∷ rest) at place ≡ led_by (token_at at (b ∷ rest)) (λ end. stream_from rest (at + 1) (gap_end end false (drop (end - at) (b ∷ rest))))
unfolding stream_from
stream_reached b rest at place h = rw (lt_false at place h) refl

-- the bytes before the token's place say nothing
passes : (k : ℕ) (s : List ℕ) (at place : ℕ) → at + k ≤ place → stream_from s at place ≡ stream_from (drop k s) (at + k) place
unfolding stream_from
passes zero s at place h = let e : at + 0 ≡ at = omega arith in rw e refl
passes (suc k) [] at place h = refl
passes (suc k) (b ∷ rest) at place h =
    let e : at + 1 + k ≡ at + suc k = omega arith in
    let before : at < place = omega arith in
    let within : at + 1 + k ≤ place = omega arith in
    stream_passed b rest at place before ∙ passes k rest (at + 1) place within ∙ ap (λ n. stream_from (drop k rest) n place) e

ends : (s : List ℕ) (at place : ℕ) → at + length s ≤ place → stream_from s at place ≡ nothing
unfolding stream_from
ends [] at place h = refl
ends (b ∷ rest) at place h =
    let before : at < place = omega arith in
    let within : at + 1 + length rest ≤ place = omega arith in
    stream_passed b rest at place before ∙ ends rest (at + 1) place within

-- where no token is left, the stream is at its end
pub stream_ends : (text : List ℕ) (place : ℕ) → length text ≤ place → stream_from text 0 place ≡ nothing
stream_ends text place h = let within : 0 + length text ≤ place = omega arith in ends text 0 place within

-- what stands at the token's place leads the stream
leads : (text : List ℕ) (place : ℕ) → place < length text →
    stream_from text 0 place ≡ led_by (token_at place (drop place text)) (λ end. stream_from (drop (place + 1) text) (place + 1) (gap_end end false (drop (end - place) (drop place text))))
leads text place h =
    let e = drop_more text place 0 h in
    let z : 0 + place ≡ place = omega arith in
    let start : 0 + place ≤ place = omega arith in
    passes place text 0 place start
    ∙ ap (λ n. stream_from (drop place text) n place) z
    ∙ subst (λ s. stream_from s place place ≡ led_by (token_at place s) (λ end. stream_from (drop (place + 1) text) (place + 1) (gap_end end false (drop (end - place) s)))) (sym e)
    (stream_reached (get_or text place 0) (drop (place + 1) text) place place (omega arith))

pub gap_end-ge : (s : List ℕ) (at : ℕ) (in_comment : Bool) → at ≤ gap_end at in_comment s
gap_end-ge [] at in_comment = omega arith
gap_end-ge (b ∷ rest) at in_comment =
    grind (arith, gap_end-ge rest (at + 1) false, gap_end-ge rest (at + 1) true)

pub stream_refused : (text : List ℕ) (place : ℕ) (refusal : TokenRefusal) → place < length text → token_at place (drop place text) ≡ Err refusal →
    stream_from text 0 place ≡ refused refusal
stream_refused text place refusal h e =
    leads text place h
    ∙ ap (λ f. led_by f (λ end. stream_from (drop (place + 1) text) (place + 1) (gap_end end false (drop (end - place) (drop place text))))) e

pub stream_token : (text : List ℕ) (place : ℕ) (token : Token) → place < length text → place < token.end → token_at place (drop place text) ≡ Ok token →
    stream_from text 0 place ≡ with_token token (stream_from text 0 (start_after text token.end))
stream_token text place token h later e =
    let z : place + (token.end - place) ≡ token.end = omega arith in
    let after : drop (token.end - place) (drop place text) ≡ drop token.end text = drop-drop (token.end - place) place text ∙ ap (λ n. drop n text) z in
    let bound : 0 + (place + 1) ≤ start_after text token.end = omega (arith, gap_end-ge (drop token.end text) token.end false) in
    let one : 0 + (place + 1) ≡ place + 1 = omega arith in
    leads text place h
    ∙ ap (λ f. led_by f (λ end. stream_from (drop (place + 1) text) (place + 1) (gap_end end false (drop (end - place) (drop place text))))) e
    ∙ ap (λ s. with_token token (stream_from (drop (place + 1) text) (place + 1) (gap_end token.end false s))) after
    ∙ ap (λ n. with_token token (stream_from (drop (place + 1) text) n (start_after text token.end))) (sym one)
    ∙ ap (λ s. with_token token s) (sym (passes (place + 1) text 0 (start_after text token.end) bound))

-- what stands at the next token's place leads the stream, whatever it is
pub stream_found : (text : List ℕ) (at place n : ℕ) (t : Result Token TokenRefusal) → place ≡ start_after text at → place < length text →
    t ≡ token_at place (drop place text) → IfOk t (λ token. (place < token.end) × (token.end ≤ place + n)) →
    stream_at (record { text = text; at = at }) ≡ before (found t) (stream_at (record { text = text; at = place_after (found t) at }))
stream_found text at place n (Ok token) s h e later = ap (λ p. stream_from text 0 p) (sym s) ∙ stream_token text place token h later.0 (sym e)
stream_found text at place n (Err refusal) s h e later = ap (λ p. stream_from text 0 p) (sym s) ∙ stream_refused text place refusal h (sym e)
