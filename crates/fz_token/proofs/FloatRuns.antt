-- The longest fraction and exponent in front of some bytes.
use Rattle.std.proofs.Common.{◌≡◌, ℕ, zero, suc, ◌+◌, ◌-◌, ◌<◌, ◌≤◌, true, false, ◌||◌, eqb, List, [], ◌∷◌, ◌++◌, length, take, drop, get_or, refl, sym, ◌∙◌, ap, subst, arith, inl, inr, ◌⊎◌}
use Rattle.std.specs.Char.{is_digit}
use Rattle.std.proofs.lemmas.List.{append_assoc, append-nil, drop_at, length-append, length-take-le, length-drop}
use Rattle.std.proofs.lemmas.List.Sums.{prefix_len-le-length}
use Rattle.std.proofs.lemmas.Bool.{cases_Bool, eqb-true, eq-eqb, ne_eqb, or_left, or_right, or_cases}
use Rattle.fz_token.specs.Forms.{IsDigits, IsFraction, IsExponent}
use Rattle.fz_token.specs.Number.{digits_len, with_digits, fraction_len, sign_len, exponent_len, float_tail_len}
use Rattle.fz_token.proofs.Classes.{digit_between}
use Rattle.fz_token.proofs.Runs.{take_add, run_passes, passing_part, run_before}

pub with_some : (len digits : ℕ) → 0 < digits → with_digits len digits ≡ len + digits
with_some len digits h = let some : eqb digits 0 ≡ false = ne_eqb digits 0 (λ z. omega arith) in rw some refl

some_from : (len digits : ℕ) → 0 < with_digits len digits → 0 < digits
some_from len zero h = absurd (omega arith)
some_from len (suc d) h = omega arith

-- the digits in front are digits
pub digits_form : (radix : ℕ) (s : List ℕ) → 0 < digits_len radix s → IsDigits radix (take (digits_len radix s) s)
digits_form radix s h = record {
  some = (let size = length-take-le (digits_len radix s) s (prefix_len-le-length (λ b. is_digit b radix) s) in omega (arith, size));
  each = run_passes (λ b. is_digit b radix) s;
}

pub digits_part : (radix : ℕ) (ds more : List ℕ) → IsDigits radix ds → length ds ≤ digits_len radix (ds ++ more)
digits_part radix ds more h = passing_part (λ b. is_digit b radix) ds more h.each

-- ---- exponents

letter_test : (e : ℕ) → (e ≡ 101) ⊎ (e ≡ 69) → (eqb e 101 || eqb e 69) ≡ true
letter_test e h = elim h [ inl lower ↦ or_left (eqb e 101) (eqb e 69) (eq-eqb e 101 lower) | inr upper ↦ or_right (eqb e 101) (eqb e 69) (eq-eqb e 69 upper) ]

letter_from : (e : ℕ) → (eqb e 101 || eqb e 69) ≡ true → (e ≡ 101) ⊎ (e ≡ 69)
letter_from e h = elim (or_cases (eqb e 101) (eqb e 69) h) [ inl lower ↦ inl (eqb-true e 101 lower) | inr upper ↦ inr (eqb-true e 69 upper) ]

letter_no_digit : (e : ℕ) → (e ≡ 101) ⊎ (e ≡ 69) → is_digit e 10 ≡ false
letter_no_digit e h = elim h [ inl lower ↦ rw lower refl | inr upper ↦ rw upper refl ]

letter_no_point : (e : ℕ) → (e ≡ 101) ⊎ (e ≡ 69) → eqb e 46 ≡ false
letter_no_point e h = elim h [ inl lower ↦ rw lower refl | inr upper ↦ rw upper refl ]

exponent_value : (e : ℕ) (t : List ℕ) → (e ≡ 101) ⊎ (e ≡ 69) → exponent_len (e ∷ t) ≡ with_digits (1 + sign_len t) (digits_len 10 (drop (sign_len t) t))
exponent_value e t h = rw (letter_test e h) refl

-- the byte of a sign is no digit
unsigned_digits : (ds more : List ℕ) → IsDigits 10 ds → sign_len (ds ++ more) ≡ 0
unsigned_digits [] more h = let lt : 0 < 0 = h.some in absurd (omega arith)
unsigned_digits (d ∷ ds) more h =
    let range = digit_between d (h.each 0 d (omega arith)) in
    let low : 48 ≤ d = range.0 in
    let plus : eqb d 43 ≡ false = ne_eqb d 43 (λ e. omega arith) in
    let minus : eqb d 45 ≡ false = ne_eqb d 45 (λ e. omega arith) in
    rw (plus, minus) refl

sign_part : (sign ds more : List ℕ) → (sign ≡ []) ⊎ ((sign ≡ 43 ∷ []) ⊎ (sign ≡ 45 ∷ [])) → IsDigits 10 ds → sign_len (sign ++ (ds ++ more)) ≡ length sign
sign_part sign ds more h d = elim h [
  | inl none ↦ rw none (unsigned_digits ds more d)
  | inr some ↦ elim some [ inl plus ↦ rw plus refl | inr minus ↦ rw minus refl ]
]

-- an exponent in front of other bytes is no longer than that which is found
pub exponent_part : (x more : List ℕ) → IsExponent x → length x ≤ exponent_len (x ++ more)
exponent_part x more h =
    let t : List ℕ = h.sign ++ (h.digits ++ more) in
    let whole : x ++ more ≡ h.letter ∷ t = ap (λ l. l ++ more) h.spelled ∙ ap (λ l. h.letter ∷ l) (append_assoc h.sign h.digits more) in
    let sign : sign_len t ≡ length h.sign = sign_part h.sign h.digits more h.is_sign h.are_digits in
    let rest : drop (sign_len t) t ≡ h.digits ++ more = drop_at h.sign (h.digits ++ more) (sign_len t) (sym sign) in
    let many : length h.digits ≤ digits_len 10 (drop (sign_len t) t) = subst (λ l. length h.digits ≤ digits_len 10 l) (sym rest) (digits_part 10 h.digits more h.are_digits) in
    let some : 0 < length h.digits = h.are_digits.some in
    let value : exponent_len (h.letter ∷ t) ≡ (1 + sign_len t) + digits_len 10 (drop (sign_len t) t) =
    exponent_value h.letter t h.is_letter ∙ with_some (1 + sign_len t) (digits_len 10 (drop (sign_len t) t)) (omega arith) in
    let size : length x ≡ suc (length h.sign + length h.digits) = ap length h.spelled ∙ ap suc (length-append h.sign h.digits) in
    omega (arith, ap exponent_len whole)

sign_form : (t : List ℕ) → (take (sign_len t) t ≡ []) ⊎ ((take (sign_len t) t ≡ 43 ∷ []) ⊎ (take (sign_len t) t ≡ 45 ∷ []))
sign_form [] = inl refl
sign_form (c ∷ t) = elim (cases_Bool (eqb c 43)) [
  | inl plus ↦ inr (inl (rw plus (ap (λ x. x ∷ []) (eqb-true c 43 plus))))
  | inr other ↦ elim (cases_Bool (eqb c 45)) [
    | inl minus ↦ inr (inr (rw (other, minus) (ap (λ x. x ∷ []) (eqb-true c 45 minus))))
    | inr none ↦ inl (rw (other, none) refl)
  ]
]

sign_within : (t : List ℕ) → sign_len t ≤ length t
sign_within [] = omega arith
sign_within (c ∷ t) = elim (cases_Bool (eqb c 43 || eqb c 45)) [ inl sign ↦ rw sign (omega arith) | inr none ↦ rw none (omega arith) ]

letter_form : (e : ℕ) (t : List ℕ) → (e ≡ 101) ⊎ (e ≡ 69) → 0 < with_digits (1 + sign_len t) (digits_len 10 (drop (sign_len t) t)) →
    IsExponent (take (exponent_len (e ∷ t)) (e ∷ t)) × (exponent_len (e ∷ t) ≤ length (e ∷ t))
letter_form e t letter h =
    let sign = sign_len t in
    let rest = drop sign t in
    let digits = digits_len 10 rest in
    let some : 0 < digits = some_from (1 + sign) digits h in
    let size : exponent_len (e ∷ t) ≡ suc (sign + digits) = exponent_value e t letter ∙ (with_some (1 + sign) digits some ∙ omega arith) in
    let bound : digits ≤ length rest = prefix_len-le-length (λ b. is_digit b 10) rest in
    let left : length rest ≡ length t - sign = length-drop sign t in
    let is : IsExponent (take (suc (sign + digits)) (e ∷ t)) = record {
      letter = e;
      sign = take sign t;
      digits = take digits rest;
      spelled = ap (λ l. e ∷ l) (take_add sign digits t);
      is_letter = letter;
      is_sign = sign_form t;
      are_digits = digits_form 10 rest some;
    } in
    (subst (λ n. IsExponent (take n (e ∷ t))) (sym size) is, omega (arith, sign_within t))

-- an exponent that is found has the form
pub exponent_form : (s : List ℕ) → 0 < exponent_len s → IsExponent (take (exponent_len s) s) × (exponent_len s ≤ length s)
exponent_form [] h = absurd (omega arith)
exponent_form (e ∷ t) h = elim (cases_Bool (eqb e 101 || eqb e 69)) [
  | inl letter ↦ letter_form e t (letter_from e letter) (subst (λ n. 0 < n) (exponent_value e t (letter_from e letter)) h)
  | inr other ↦ (let none : exponent_len (e ∷ t) ≡ 0 = rw other refl in absurd (omega (arith, none)))
]

-- ---- fractions

fraction_value : (t : List ℕ) → fraction_len (46 ∷ t) ≡ with_digits 1 (digits_len 10 t)
fraction_value t = refl

point_form : (b : ℕ) (t : List ℕ) → b ≡ 46 → 0 < fraction_len (46 ∷ t) → IsFraction (take (fraction_len (b ∷ t)) (b ∷ t)) × (fraction_len (b ∷ t) ≤ length (b ∷ t))
point_form b t point h =
    let digits = digits_len 10 t in
    let some : 0 < digits = some_from 1 digits h in
    let size : fraction_len (46 ∷ t) ≡ suc digits = with_some 1 digits some ∙ omega arith in
    let bound : digits ≤ length t = prefix_len-le-length (λ b. is_digit b 10) t in
    let is : IsFraction (take (suc digits) (46 ∷ t)) = record { digits = take digits t; spelled = refl; are_digits = digits_form 10 t some } in
    subst (λ c. IsFraction (take (fraction_len (c ∷ t)) (c ∷ t)) × (fraction_len (c ∷ t) ≤ length (c ∷ t))) (sym point)
    (subst (λ n. IsFraction (take n (46 ∷ t))) (sym size) is, omega (arith, size))

fraction_form : (s : List ℕ) → 0 < fraction_len s → IsFraction (take (fraction_len s) s) × (fraction_len s ≤ length s)
fraction_form [] h = absurd (omega arith)
fraction_form (b ∷ t) h = elim (cases_Bool (eqb b 46)) [
  | inl point ↦ point_form b t (eqb-true b 46 point) (subst (λ c. 0 < fraction_len (c ∷ t)) (eqb-true b 46 point) h)
  | inr other ↦ (let none : fraction_len (b ∷ t) ≡ 0 = rw other refl in absurd (omega (arith, none)))
]

-- ---- the tail of a float

-- a fraction with or without an exponent, or an exponent
abbrev pub IsTail : List ℕ → List ℕ → Type 0
IsTail fraction exponent = (IsFraction fraction × ((exponent ≡ []) ⊎ IsExponent exponent)) ⊎ ((fraction ≡ []) × IsExponent exponent)

-- the two parts of a tail that is found
pub record Tail (t : List ℕ) : Type 0 where
  pub fraction : List ℕ
  pub exponent : List ℕ
  pub spelled : take (float_tail_len t) t ≡ fraction ++ exponent
  pub within : float_tail_len t ≤ length t
  pub is_tail : IsTail fraction exponent

pub zero_or_some : (n : ℕ) → (n ≡ 0) ⊎ (0 < n)
zero_or_some zero = inl refl
zero_or_some (suc n) = inr (omega arith)

pub tail_form : (t : List ℕ) → 0 < float_tail_len t → Tail t
tail_form t h =
    let f = fraction_len t in
    let x = exponent_len (drop f t) in
    let left : length (drop f t) ≡ length t - f = length-drop f t in
    elim (zero_or_some f) [
      | inl no_fraction ↦
          (let e = exponent_form (drop f t) (omega (arith, no_fraction)) in record {
            fraction = take f t;
            exponent = take x (drop f t);
            spelled = take_add f x t;
            within = omega (arith, e.1);
            is_tail = inr (subst (λ n. take n t ≡ []) (sym no_fraction) refl, e.0);
          })
      | inr fraction ↦
          (let g = fraction_form t fraction in elim (zero_or_some x) [
            | inl no_exponent ↦ record {
              fraction = take f t;
              exponent = take x (drop f t);
              spelled = take_add f x t;
              within = omega (arith, g.1);
              is_tail = inl (g.0, inl (subst (λ n. take n (drop f t) ≡ []) (sym no_exponent) refl));
            }
            | inr exponent ↦
                (let e = exponent_form (drop f t) exponent in record {
                  fraction = take f t;
                  exponent = take x (drop f t);
                  spelled = take_add f x t;
                  within = omega (arith, e.1, g.1);
                  is_tail = inl (g.0, inr e.0);
                })
          ])
    ]

exponent_first : (x more : List ℕ) → IsExponent x → (is_digit (get_or (x ++ more) 0 0) 10 ≡ false) × (eqb (get_or (x ++ more) 0 0) 46 ≡ false)
exponent_first x more h =
    let first : get_or (x ++ more) 0 0 ≡ h.letter = ap (λ l. get_or (l ++ more) 0 0) h.spelled in
    (ap (λ b. is_digit b 10) first ∙ letter_no_digit h.letter h.is_letter, ap (λ b. eqb b 46) first ∙ letter_no_point h.letter h.is_letter)

no_fraction : (s : List ℕ) → eqb (get_or s 0 0) 46 ≡ false → fraction_len s ≡ 0
no_fraction s h = rw h refl

-- a tail in front of other bytes is no longer than that which is found, and its first byte is no digit
pub record TailPart (fraction exponent more : List ℕ) : Type 0 where
  pub no_digit : is_digit (get_or ((fraction ++ exponent) ++ more) 0 0) 10 ≡ false
  pub some : 0 < length fraction + length exponent
  pub bound : length fraction + length exponent ≤ float_tail_len ((fraction ++ exponent) ++ more)

fraction_alone : (fraction exponent more : List ℕ) → IsFraction fraction → exponent ≡ [] → TailPart fraction exponent more
fraction_alone fraction exponent more g none =
    let whole : (fraction ++ exponent) ++ more ≡ 46 ∷ (g.digits ++ more) =
    ap (λ l. (fraction ++ l) ++ more) none ∙ ap (λ l. l ++ more) (append-nil fraction) ∙ ap (λ l. l ++ more) g.spelled in
    let some : 0 < length g.digits = g.are_digits.some in
    let many : length g.digits ≤ digits_len 10 (g.digits ++ more) = digits_part 10 g.digits more g.are_digits in
    let value : fraction_len (46 ∷ (g.digits ++ more)) ≡ 1 + digits_len 10 (g.digits ++ more) = with_some 1 (digits_len 10 (g.digits ++ more)) (omega arith) in
    let size : length fraction ≡ suc (length g.digits) = ap length g.spelled in
    let nothing : length exponent ≡ 0 = ap length none in
    record {
      no_digit = ap (λ l. is_digit (get_or l 0 0) 10) whole;
      some = omega arith;
      bound = subst (λ l. length fraction + length exponent ≤ float_tail_len l) (sym whole) (omega arith);
    }

exponent_alone : (fraction exponent more : List ℕ) → fraction ≡ [] → IsExponent exponent → TailPart fraction exponent more
exponent_alone fraction exponent more none e =
    let whole : (fraction ++ exponent) ++ more ≡ exponent ++ more = ap (λ l. (l ++ exponent) ++ more) none in
    let first = exponent_first exponent more e in
    let no : fraction_len (exponent ++ more) ≡ 0 = no_fraction (exponent ++ more) first.1 in
    let value : float_tail_len (exponent ++ more) ≡ 0 + exponent_len (exponent ++ more) = ap (λ n. n + exponent_len (drop n (exponent ++ more))) no in
    let size : length exponent ≡ suc (length (e.sign ++ e.digits)) = ap length e.spelled in
    let nothing : length fraction ≡ 0 = ap length none in
    record {
      no_digit = ap (λ l. is_digit (get_or l 0 0) 10) whole ∙ first.0;
      some = omega arith;
      bound = subst (λ l. length fraction + length exponent ≤ float_tail_len l) (sym whole) (omega (arith, exponent_part exponent more e));
    }

both_parts : (fraction exponent more : List ℕ) → IsFraction fraction → IsExponent exponent → TailPart fraction exponent more
both_parts fraction exponent more g e =
    let rest : List ℕ = exponent ++ more in
    let whole : (fraction ++ exponent) ++ more ≡ 46 ∷ (g.digits ++ rest) =
    append_assoc fraction exponent more ∙ ap (λ l. l ++ rest) g.spelled in
    let first = exponent_first exponent more e in
    let some : 0 < length g.digits = g.are_digits.some in
    let run : digits_len 10 (g.digits ++ rest) ≡ length g.digits = run_before (λ b. is_digit b 10) g.digits rest g.are_digits.each first.0 in
    let value : fraction_len (46 ∷ (g.digits ++ rest)) ≡ suc (length g.digits) =
    with_some 1 (digits_len 10 (g.digits ++ rest)) (omega arith) ∙ (ap (λ n. 1 + n) run ∙ omega arith) in
    let after : drop (suc (length g.digits)) (46 ∷ (g.digits ++ rest)) ≡ rest = drop_at g.digits rest (length g.digits) refl in
    let total : float_tail_len (46 ∷ (g.digits ++ rest)) ≡ suc (length g.digits) + exponent_len rest =
    ap (λ n. n + exponent_len (drop n (46 ∷ (g.digits ++ rest)))) value ∙ ap (λ l. suc (length g.digits) + exponent_len l) after in
    let size : length fraction ≡ suc (length g.digits) = ap length g.spelled in
    record {
      no_digit = ap (λ l. is_digit (get_or l 0 0) 10) whole;
      some = omega arith;
      bound = subst (λ l. length fraction + length exponent ≤ float_tail_len l) (sym whole) (omega (arith, exponent_part exponent more e, total));
    }

pub tail_part : (fraction exponent more : List ℕ) → IsTail fraction exponent → TailPart fraction exponent more
tail_part fraction exponent more h = elim h [
  | inl f ↦ elim f.1 [ inl none ↦ fraction_alone fraction exponent more f.0 none | inr e ↦ both_parts fraction exponent more f.0 e ]
  | inr x ↦ exponent_alone fraction exponent more x.0 x.1
]
