-- Integers in front of a text.
use Rattle.std.proofs.Common.{◌≡◌, ℕ, ◌+◌, ◌<◌, ◌≤◌, ◌^◌, Bool, true, false, ◌&&◌, ◌||◌, ◌==◌, if◌then◌else◌, List, [], ◌∷◌, ◌++◌, length, take, drop, get_or, Option, Some, None, Result, Ok, Err, refl, sym, ◌∙◌, ap, subst, add-one, arith}
use Rattle.std.specs.Prelude.{ℤ, pos, negsuc, nat_abs, nat_lt}
use Rattle.std.specs.Char.{is_ascii_digit, is_digit}
use Rattle.std.specs.Fmt.{decimal}
use Rattle.std.specs.List.{list_all}
use Rattle.std.specs.Str.Parse.{AllDigits, digits_value}
use Rattle.std.proofs.lemmas.Bool.{and_parts}
use Rattle.std.proofs.lemmas.Bool.Decides.{nat_tests}
use Rattle.std.proofs.lemmas.Fmt.{decimal_is_IsNumeral}
use Rattle.std.proofs.lemmas.List.Sums.{AllPass-from_list_all}
use Rattle.std.proofs.Math.Seq.{take-append_seam, drop-append_seam}
use Rattle.dp_grammar.specs.Brackets.{Plain}
use Rattle.fz_token.specs.Gap.{gap_end}
use Rattle.fz_token.specs.Number.{base_len, digits_len, exponent_len, float_tail_len, fraction_len, integer, integer_token, limit, number_at, radix_of, signed, unsigned_at}
use Rattle.fz_token.specs.Token.{token_at}
use Rattle.fz_token.specs.Word.{begins_word, is_word_byte}
use Rattle.fz_token.specs.declared.Token.{Token}
use Rattle.fz_token.specs.declared.TokenKind.TheVariants as kind
use Rattle.fz_token.specs.declared.TokenRefusal.{TokenRefusal}
use Rattle.fz_token.specs.declared.TokenRefusal.TheVariants.{BadByte}
use Rattle.fz_token.proofs.Runs.{run_before}
use Rattle.fz_model.specs.Words.{Number, Word}
use Rattle.fz_print.specs.Printed.{integer_text}
use Rattle.fz_print.proofs.Lexemes.{EndsWord}
use Rattle.fz_print.proofs.Lexes.{Lexes, is_dotted, lexes_token}

-- what follows ends a number
abbrev pub EndsNumber : List ℕ → Type 0
EndsNumber s = EndsWord s × (fraction_len s ≡ 0)

no_letter : (b : ℕ) → is_word_byte b ≡ false → is_digit b 10 ≡ false
no_letter b h = grind (arith, nat_tests)

-- ---- digits

abbrev AreDigits : List ℕ → Type 0
AreDigits ds = list_all (λ b. is_digit b 10) ds ≡ true

digits_are : (ds : List ℕ) → AllDigits 10 ds → AreDigits ds
digits_are [] h = refl
digits_are (c ∷ ds) h =
    let first : is_digit c 10 ≡ true = grind (arith, nat_tests, h.0) in
    rw (first, digits_are ds h.1) refl

run_is : (ds s : List ℕ) → AreDigits ds → EndsWord s → digits_len 10 (ds ++ s) ≡ length ds
run_is ds s all ends = run_before (λ b. is_digit b 10) ds s (AllPass-from_list_all (λ b. is_digit b 10) ds all) (no_letter (get_or s 0 0) ends)

-- no base is named
no_base : (x : ℕ) → is_word_byte x ≡ false → ((x == 120) ≡ false) × ((x == 111) ≡ false)
no_base x h = (grind (arith, nat_tests), grind (arith, nat_tests))

no_base_digit : (x : ℕ) → is_digit x 10 ≡ true → ((x == 120) ≡ false) × ((x == 111) ≡ false)
no_base_digit x h = (grind (arith, nat_tests), grind (arith, nat_tests))

second : (b : ℕ) (t s : List ℕ) → AreDigits t → EndsWord s → ((get_or ((b ∷ t) ++ s) 1 0 == 120) ≡ false) × ((get_or ((b ∷ t) ++ s) 1 0 == 111) ≡ false)
second b [] s all ends = no_base (get_or s 0 0) ends
second b (c ∷ t) s all ends = no_base_digit c (and_parts (is_digit c 10) (list_all (λ b. is_digit b 10) t) all).0

abbrev radix_from : Bool → Bool → Bool → ℕ
radix_from x y z = if x && y then 16 else (if x && z then 8 else 10)

radix_by : (x : Bool) (y z : Bool) → y ≡ false → z ≡ false → radix_from x y z ≡ 10
radix_by false y z e f = refl
radix_by true false false e f = refl
radix_by true true z e f = absurd cc
radix_by true false true e f = absurd cc

radix_is : (b : ℕ) (t s : List ℕ) → AreDigits t → EndsWord s → radix_of ((b ∷ t) ++ s) ≡ 10
radix_is b t s all ends =
    let x = get_or ((b ∷ t) ++ s) 1 0 in
    let p = second b t s all ends in
    radix_by (b == 48) (x == 120) (x == 111) p.0 p.1

-- ---- the integer

abbrev as_integer : Bool → ℕ → ℕ → ℕ → Option (ℤ × ℕ)
as_integer negative base len value = if (len == 0) || nat_lt limit value then None else Some (signed negative value, base + len)

abbrev by_radix : Bool → List ℕ → ℕ → Option (ℤ × ℕ)
by_radix negative u r = as_integer negative (base_len r) (digits_len r (drop (base_len r) u)) (digits_value r (take (digits_len r (drop (base_len r) u)) (drop (base_len r) u)))

integer_by : (negative : Bool) (u : List ℕ) → integer negative u ≡ by_radix negative u (radix_of u)
unfolding integer
integer_by negative u = refl

as_small : (negative : Bool) (len value : ℕ) → 0 < len → value ≤ limit → as_integer negative 0 len value ≡ Some (signed negative value, 0 + len)
as_small negative len value some small =
    let a : (len == 0) ≡ false = grind (arith, nat_tests) in
    let b : nat_lt limit value ≡ false = grind (arith, nat_tests) in
    rw (a, b) refl

integer_is : (negative : Bool) (b : ℕ) (t s : List ℕ) → AreDigits (b ∷ t) → EndsWord s → digits_value 10 (b ∷ t) ≤ limit
    → integer negative ((b ∷ t) ++ s) ≡ Some (signed negative (digits_value 10 (b ∷ t)), 0 + length (b ∷ t))
integer_is negative b t s all ends small =
    let u = (b ∷ t) ++ s in
    integer_by negative u
    ∙ ap (by_radix negative u) (radix_is b t s (and_parts (is_digit b 10) (list_all (λ b. is_digit b 10) t) all).1 ends)
    ∙ ap (λ l. as_integer negative 0 l (digits_value 10 (take l u))) (run_is (b ∷ t) s all ends)
    ∙ ap (λ w. as_integer negative 0 (length (b ∷ t)) (digits_value 10 w)) (take-append_seam (b ∷ t) s)
    ∙ as_small negative (length (b ∷ t)) (digits_value 10 (b ∷ t)) (omega arith) small

-- ---- no float

no_exponent : (s : List ℕ) → EndsWord s → exponent_len s ≡ 0
no_exponent s h =
    let e : (get_or s 0 0 == 101) ≡ false = grind (arith, nat_tests) in
    let f : (get_or s 0 0 == 69) ≡ false = grind (arith, nat_tests) in
    rw (e, f) refl

no_tail : (s : List ℕ) → EndsNumber s → float_tail_len s ≡ 0
no_tail s h = ap (λ n. n + exponent_len (drop n s)) h.1 ∙ ap (λ n. 0 + n) (no_exponent s h.0)

abbrev as_number : Bool → ℕ → ℕ → List ℕ → ℕ → ℕ → Result Token TokenRefusal
as_number negative start at u whole tail =
    if whole == 0 then Err (BadByte start)
    else (if nat_lt 0 tail then Ok (record { kind = kind.Float; start = start; end = at + whole + tail })
    else integer_token start at (integer negative u))

whole_number : (negative : Bool) (start at : ℕ) (u : List ℕ) (whole : ℕ) → 0 < whole → as_number negative start at u whole 0 ≡ integer_token start at (integer negative u)
whole_number negative start at u whole some =
    let a : (whole == 0) ≡ false = grind (arith, nat_tests) in
    rw a refl

unsigned_is : (negative : Bool) (start at b : ℕ) (t s : List ℕ) → AreDigits (b ∷ t) → EndsNumber s → digits_value 10 (b ∷ t) ≤ limit
    → unsigned_at negative start at ((b ∷ t) ++ s) ≡ Ok (record { kind = kind.Integer (signed negative (digits_value 10 (b ∷ t))); start = start; end = at + length (b ∷ t) })
unsigned_is negative start at b t s all ends small =
    let u = (b ∷ t) ++ s in
    let z : 0 + length (b ∷ t) ≡ length (b ∷ t) = omega arith in
    ap (λ w. as_number negative start at u w (float_tail_len (drop w u))) (run_is (b ∷ t) s all ends.0)
    ∙ ap (λ r. as_number negative start at u (length (b ∷ t)) (float_tail_len r)) (drop-append_seam (b ∷ t) s)
    ∙ ap (λ n. as_number negative start at u (length (b ∷ t)) n) (no_tail s ends)
    ∙ whole_number negative start at u (length (b ∷ t)) (omega arith)
    ∙ ap (integer_token start at) (integer_is negative b t s all ends.0 small)
    ∙ ap (λ n. Ok (record { kind = kind.Integer (signed negative (digits_value 10 (b ∷ t))); start = start; end = at + n })) z

-- ---- the token

digit_gap : (b : ℕ) (s : List ℕ) → is_digit b 10 ≡ true → (at : ℕ) → gap_end at false (b ∷ s) ≡ at
digit_gap b s h at =
    let line : (b == 10) ≡ false = grind (arith, nat_tests) in
    let percent : (b == 37) ≡ false = grind (arith, nat_tests) in
    let space : (b == 32) ≡ false = grind (arith, nat_tests) in
    let tab : (b == 9) ≡ false = grind (arith, nat_tests) in
    let back : (b == 13) ≡ false = grind (arith, nat_tests) in
    rw (line, percent, space, tab, back) refl

digit_leads : (b : ℕ) (s : List ℕ) (at : ℕ) → is_digit b 10 ≡ true → token_at at (b ∷ s) ≡ number_at at (b ∷ s)
unfolding token_at
digit_leads b s at h =
    let word : begins_word b ≡ false = grind (arith, nat_tests) in
    let is : is_ascii_digit b ≡ true = grind (arith, nat_tests) in
    rw (word, is) refl

no_minus : (b : ℕ) (s : List ℕ) (at : ℕ) → is_digit b 10 ≡ true → number_at at (b ∷ s) ≡ unsigned_at false at at (b ∷ s)
unfolding number_at
no_minus b s at h =
    let e : (b == 45) ≡ false = grind (arith, nat_tests) in
    rw e refl

minus_leads : (s : List ℕ) (at : ℕ) → token_at at (45 ∷ s) ≡ unsigned_at true at (at + 1) s
unfolding token_at number_at
minus_leads s at = refl

lexes_digits : (ds s : List ℕ) (ws : List Word) → 0 < length ds → AreDigits ds → EndsNumber s → digits_value 10 ds ≤ limit → Lexes s ws
    → Lexes (ds ++ s) (Plain (Number (pos (digits_value 10 ds)) (is_dotted ws)) ∷ ws)
lexes_digits [] s ws some all ends small h = absurd (omega arith)
lexes_digits (b ∷ t) s ws some all ends small h =
    let first = (and_parts (is_digit b 10) (list_all (λ b. is_digit b 10) t) all).0 in
    lexes_token (b ∷ t) s ws (kind.Integer (pos (digits_value 10 (b ∷ t)))) some (digit_gap b (t ++ s) first)
    (λ at. digit_leads b (t ++ s) at first ∙ no_minus b (t ++ s) at first ∙ unsigned_is false at at b t s all ends small) h

lexes_minus : (ds s : List ℕ) (ws : List Word) → 0 < length ds → AreDigits ds → EndsNumber s → digits_value 10 ds ≤ limit → Lexes s ws
    → Lexes (45 ∷ (ds ++ s)) (Plain (Number (signed true (digits_value 10 ds)) (is_dotted ws)) ∷ ws)
lexes_minus [] s ws some all ends small h = absurd (omega arith)
lexes_minus (b ∷ t) s ws some all ends small h =
    lexes_token (45 ∷ (b ∷ t)) s ws (kind.Integer (signed true (digits_value 10 (b ∷ t)))) (omega arith) (λ at. refl)
    (λ at. (let e : (at + 1) + length (b ∷ t) ≡ at + length (45 ∷ (b ∷ t)) = omega arith in
    minus_leads ((b ∷ t) ++ s) at ∙ unsigned_is true at (at + 1) b t s all ends small
    ∙ ap (λ n. Ok (record { kind = kind.Integer (signed true (digits_value 10 (b ∷ t))); start = at; end = n })) e)) h

within_word : (n : ℕ) → n ≤ limit → n < 2 ^ 64
within_word n h = omega arith

-- an integer in decimal
pub lexes_natural : (n : ℕ) (s : List ℕ) (ws : List Word) → n ≤ limit → EndsNumber s → Lexes s ws → Lexes (decimal n ++ s) (Plain (Number (pos n) (is_dotted ws)) ∷ ws)
lexes_natural n s ws small ends h =
    let d = decimal_is_IsNumeral n (within_word n small) in
    subst (λ k. Lexes (decimal n ++ s) (Plain (Number (pos k) (is_dotted ws)) ∷ ws)) d.1
    (lexes_digits (decimal n) s ws d.0.0 (digits_are (decimal n) d.0.1) ends (subst (λ k. k ≤ limit) (sym d.1) small) h)

pub lexes_integer : (v : ℤ) (s : List ℕ) (ws : List Word) → nat_abs v ≤ limit → EndsNumber s → Lexes s ws → Lexes (integer_text v ++ s) (Plain (Number v (is_dotted ws)) ∷ ws)
lexes_integer (pos n) s ws small ends h = lexes_natural n s ws small ends h
lexes_integer (negsuc n) s ws small ends h =
    let d = decimal_is_IsNumeral (n + 1) (within_word (n + 1) (omega (arith, small))) in
    let v : signed true (n + 1) ≡ negsuc n = ap (signed true) (add-one n) in
    subst (λ k. Lexes (45 ∷ (decimal (n + 1) ++ s)) (Plain (Number k (is_dotted ws)) ∷ ws)) (ap (signed true) d.1 ∙ v)
    (lexes_minus (decimal (n + 1)) s ws d.0.0 (digits_are (decimal (n + 1)) d.0.1) ends (subst (λ k. k ≤ limit) (sym d.1) (omega (arith, small))) h)
