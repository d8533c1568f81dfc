-- The number in front of some bytes is the longest form there.
use Rattle.std.proofs.Common.{◌≡◌, ◌≢◌, ℕ, zero, suc, ◌+◌, ◌-◌, ◌<◌, ◌≤◌, Bool, true, false, ◌||◌, cond, eqb, ltb, List, [], ◌∷◌, ◌++◌, length, take, drop, get_or, Option, Some, None, refl, sym, ◌∙◌, ap, subst, arith, inl, inr, ◌⊎◌}
use Rattle.std.specs.Prelude.{slice_index, ℤ, nat_abs, nat_lt}
use Rattle.std.specs.Char.{is_digit}
use Rattle.std.specs.Str.Parse.{digits_value}
use Rattle.std.proofs.lemmas.List.{append_assoc, drop_at, length-append, length-take-le, length-drop, take-append-drop}
use Rattle.std.proofs.lemmas.List.Sums.{prefix_len-le-length}
use Rattle.std.proofs.lemmas.Bool.{cases_Bool, eqb-true, eq-eqb, ne_eqb, lt-ltb, le-ltb, ltb-true, ltb-false}
use Rattle.fz_token.specs.Forms.{Spells, Says, Stands, IsToken, IsInteger, IsFloat, IsNatural, LacksDigits, NothingStands, unsigned, is_negative}
use Rattle.fz_token.specs.Number.{limit, digits_len, float_tail_len, radix_of, base_len, signed, integer, integer_token, unsigned_at, number_at}
use Rattle.fz_token.specs.declared.TokenKind.{TokenKind}
use Rattle.fz_token.specs.declared.TokenKind.TheVariants as kind
use Rattle.fz_token.proofs.Classes.{Words, Numbers, Quotes, Marks, class_of, front_class, front_some, first_digit, natural_first, quote_class}
use Rattle.fz_token.proofs.FloatRuns.{digits_form, tail_form, tail_part, zero_or_some}
use Rattle.fz_token.proofs.NaturalRuns.{NaturalRun, Named, named_cases, named_hex, named_oct, hex_run, oct_run, dec_run}
use Rattle.fz_token.proofs.Runs.{take_add, run_before}

-- ---- a number and its sign

-- s is u with a sign of this length in front
record Signed (s u : List ℕ) (sign : ℕ) (negative : Bool) : Type 0 where
  size : length s ≡ sign + length u
  small : sign ≤ 1
  front : (m : ℕ) → unsigned (take (sign + m) s) ≡ take m u
  minus : (m : ℕ) → is_negative (take (sign + m) s) ≡ negative
  whole : unsigned s ≡ u

minus_front : (u : List ℕ) (m : ℕ) → take (1 + m) (45 ∷ u) ≡ 45 ∷ take m u
minus_front u m = let e : 1 + m ≡ suc m = omega arith in ap (λ n. take n (45 ∷ u)) e

with_minus : (u : List ℕ) → Signed (45 ∷ u) u 1 true
with_minus u = record {
  size = omega arith;
  small = omega arith;
  front = λ m. ap unsigned (minus_front u m);
  minus = λ m. ap is_negative (minus_front u m);
  whole = refl;
}

plain_sign : (s : List ℕ) (m : ℕ) → eqb (get_or s 0 0) 45 ≡ false → is_negative (take m s) ≡ false
plain_sign s zero h = refl
plain_sign [] (suc m) h = refl
plain_sign (b ∷ s) (suc m) h = h

plain_front : (w : List ℕ) → is_negative w ≡ false → unsigned w ≡ w
plain_front w h = rw h refl

without_sign : (s : List ℕ) → eqb (get_or s 0 0) 45 ≡ false → Signed s s 0 false
without_sign s h = record {
  size = omega arith;
  small = omega arith;
  front = λ m. (let e : 0 + m ≡ m = omega arith in ap (λ n. unsigned (take n s)) e ∙ plain_front (take m s) (plain_sign s m h));
  minus = λ m. (let e : 0 + m ≡ m = omega arith in ap (λ n. is_negative (take n s)) e ∙ plain_sign s m h);
  whole = plain_front s h;
}

-- ---- which forms a front may have

only_number : (s : List ℕ) (n : ℕ) (k : TokenKind) → class_of (get_or s 0 0) ≡ Numbers → Spells k (take n s) → ((v : ℤ) × IsInteger (take n s) v) ⊎ IsFloat (take n s)
only_number s n kind.Name c h = let other : class_of (get_or s 0 0) ≡ Words = front_class s n kind.Name h in cc
only_number s n (kind.Keyword keyword) c h = let other : class_of (get_or s 0 0) ≡ Words = front_class s n (kind.Keyword keyword) h in cc
only_number s n (kind.Integer value) c h = inl (value, h)
only_number s n kind.Float c h = inr h
only_number s n kind.Quoted c h = let other : class_of (get_or s 0 0) ≡ Quotes = front_class s n kind.Quoted h in cc
only_number s n (kind.Mark m) c h = let other : class_of (get_or s 0 0) ≡ Marks = front_class s n (kind.Mark m) h in cc

-- a front of s is the sign and a front of u
record FrontOf (s u : List ℕ) (sign n : ℕ) : Type 0 where
  m : ℕ
  size : n ≡ sign + m
  within : m ≤ length u
  unsigned_is : unsigned (take n s) ≡ take m u

front_of : (s u : List ℕ) (sign n : ℕ) (negative : Bool) → Signed s u sign negative → 0 < n → n ≤ length s → FrontOf s u sign n
front_of s u sign n negative g some within =
    let small : sign ≤ 1 = g.small in
    let size : length s ≡ sign + length u = g.size in
    let e : sign + (n - sign) ≡ n = omega arith in
    record {
      m = n - sign;
      size = sym e;
      within = omega arith;
      unsigned_is = ap (λ k. unsigned (take k s)) (sym e) ∙ g.front (n - sign);
    }

-- a float in front has the digits and the tail that are found, at most
pub float_front : (u w : List ℕ) (m : ℕ) → m ≤ length u → unsigned w ≡ take m u → IsFloat w →
    (m ≤ digits_len 10 u + float_tail_len (drop (digits_len 10 u) u)) × (0 < float_tail_len (drop (digits_len 10 u) u))
float_front u w m within e h =
    let more = drop m u in
    let front : take m u ≡ h.whole ++ (h.fraction ++ h.exponent) = sym e ∙ h.spelled in
    let all : u ≡ h.whole ++ ((h.fraction ++ h.exponent) ++ more) =
    sym (take-append-drop m u) ∙ ap (λ l. l ++ more) front ∙ append_assoc h.whole (h.fraction ++ h.exponent) more in
    let tail = tail_part h.fraction h.exponent more h.is_tail in
    let run : digits_len 10 u ≡ length h.whole = ap (digits_len 10) all ∙ run_before (λ b. is_digit b 10) h.whole ((h.fraction ++ h.exponent) ++ more) h.are_digits.each tail.no_digit in
    let rest : drop (digits_len 10 u) u ≡ (h.fraction ++ h.exponent) ++ more =
    ap (drop (digits_len 10 u)) all ∙ drop_at h.whole ((h.fraction ++ h.exponent) ++ more) (digits_len 10 u) (sym run) in
    let bound : length h.fraction + length h.exponent ≤ float_tail_len (drop (digits_len 10 u) u) =
    subst (λ l. length h.fraction + length h.exponent ≤ float_tail_len l) (sym rest) tail.bound in
    let some : 0 < length h.fraction + length h.exponent = tail.some in
    let size : m ≡ length h.whole + (length h.fraction + length h.exponent) =
    sym (length-take-le m u within) ∙ ap length front ∙ length-append h.whole (h.fraction ++ h.exponent)
    ∙ ap (λ n. length h.whole + n) (length-append h.fraction h.exponent) in
    (omega arith, omega arith)

-- ---- where no digit stands

pub digit_run : (u : List ℕ) (m : ℕ) → is_digit (get_or (take m u) 0 0) 10 ≡ true → 0 < digits_len 10 u
digit_run u zero h = let none : is_digit 0 10 ≡ false = refl in cc
digit_run [] (suc m) h = let none : is_digit 0 10 ≡ false = refl in cc
digit_run (b ∷ u) (suc m) h = rw h (omega arith)

no_quote : (b : ℕ) → class_of b ≡ Numbers → b ≢ 34
no_quote b c e = let other : class_of b ≡ Quotes = ap class_of e ∙ quote_class in cc

bare_says : (start sign : ℕ) (negative : Bool) (s u : List ℕ) → Signed s u sign negative → class_of (get_or s 0 0) ≡ Numbers → digits_len 10 u ≡ 0 →
    (slice_index s 0 ≢ 34) × NothingStands s
bare_says start sign negative s u g c none = (
  no_quote (get_or s 0 0) c,
  λ n k within h.
      let f = front_of s u sign n negative g (front_some s n k h) within in
      elim (only_number s n k c h) [
        | inl i ↦ (let first : is_digit (get_or (take f.m u) 0 0) 10 ≡ true =
            subst (λ l. is_digit (get_or l 0 0) 10 ≡ true) f.unsigned_is (natural_first (unsigned (take n s)) i.1.magnitude i.1.is_natural) in
            absurd (omega (arith, digit_run u f.m first)))
        | inr x ↦ (let first : is_digit (get_or (take f.m u) 0 0) 10 ≡ true =
            subst (λ l. is_digit (get_or l 0 0) 10 ≡ true) (sym x.spelled ∙ f.unsigned_is) (first_digit x.whole (x.fraction ++ x.exponent) x.are_digits) in
            absurd (omega (arith, digit_run u f.m first)))
      ],
)

-- ---- floats

hex_tail : (u : List ℕ) → Named 120 u → float_tail_len (drop (digits_len 10 u) u) ≡ 0
hex_tail u h = ap (λ v. float_tail_len (drop (digits_len 10 v) v)) h.is

oct_tail : (u : List ℕ) → Named 111 u → float_tail_len (drop (digits_len 10 u) u) ≡ 0
oct_tail u h = ap (λ v. float_tail_len (drop (digits_len 10 v) v)) h.is

pub natural_within : (u : List ℕ) (m n : ℕ) → 0 < digits_len 10 u → 0 < float_tail_len (drop (digits_len 10 u) u) → m ≤ length u → IsNatural (take m u) n → m ≤ digits_len 10 u
natural_within u m n some tail within h = elim (named_cases u) [
  | inl hex ↦ absurd (omega (arith, hex_tail u hex))
  | inr o ↦ elim o [
    | inl oct ↦ absurd (omega (arith, oct_tail u oct))
    | inr dec ↦ (let bound : m ≤ 0 + digits_len 10 u = (dec_run u dec some).longest m n within h in omega arith)
  ]
]

lacks_named : (s u : List ℕ) → unsigned s ≡ u → LacksDigits s → Named 120 u ⊎ Named 111 u
lacks_named s u e h = elim h [
  | inl x ↦ inl (record { rest = x.rest; is = sym e ∙ x.spelled })
  | inr y ↦ inr (record { rest = y.rest; is = sym e ∙ y.spelled })
]

float_token : (start sign at : ℕ) (negative : Bool) (s u : List ℕ) → Signed s u sign negative → class_of (get_or s 0 0) ≡ Numbers → at ≡ start + sign →
    0 < digits_len 10 u → 0 < float_tail_len (drop (digits_len 10 u) u) →
    IsToken start s (record { kind = kind.Float; start = start; end = at + digits_len 10 u + float_tail_len (drop (digits_len 10 u) u) })
float_token start sign at negative s u g c place some tail =
    let d = digits_len 10 u in
    let t = float_tail_len (drop d u) in
    let f = tail_form (drop d u) tail in
    let size : length s ≡ sign + length u = g.size in
    let digits : d ≤ length u = prefix_len-le-length (λ b. is_digit b 10) u in
    let left : length (drop d u) ≡ length u - d = length-drop d u in
    let inside : t ≤ length (drop d u) = f.within in
    record {
      len = sign + (d + t);
      starts = refl;
      ends = omega arith;
      stands = record {
        within = omega arith;
        spelled = record {
          whole = take d u;
          fraction = f.fraction;
          exponent = f.exponent;
          spelled = g.front (d + t) ∙ take_add d t u ∙ ap (λ l. take d u ++ l) f.spelled;
          are_digits = digits_form 10 u some;
          is_tail = f.is_tail;
        };
        longest = λ n k within h.
            let r = front_of s u sign n negative g (front_some s n k h) within in
            let e : n ≡ sign + r.m = r.size in
            elim (only_number s n k c h) [
              | inl i ↦ (let bound : r.m ≤ d = natural_within u r.m i.1.magnitude some tail r.within (subst (λ l. IsNatural l i.1.magnitude) r.unsigned_is i.1.is_natural) in omega arith)
              | inr x ↦ omega (arith, float_front u (take n s) r.m r.within r.unsigned_is x)
            ];
      };
      keeps_limit = tt;
      has_digits = λ lacks. elim (lacks_named s u g.whole lacks) [
        | inl hex ↦ omega (arith, hex_tail u hex)
        | inr oct ↦ omega (arith, oct_tail u oct)
      ];
    }

-- ---- integers

nat_abs-signed : (negative : Bool) (n : ℕ) → nat_abs (signed negative n) ≡ n
nat_abs-signed false n = refl
nat_abs-signed true zero = refl
nat_abs-signed true (suc n) = refl

-- an integer where the base is known
integer_in : Bool → List ℕ → ℕ → Option (ℤ × ℕ)
integer_in negative u radix =
    let base = base_len radix in
    let len = digits_len radix (drop base u) in
    let value = digits_value radix (take len (drop base u)) in
    cond (eqb len 0 || nat_lt limit value) None (Some (signed negative value, base + len))

integer-known : (negative : Bool) (u : List ℕ) (radix : ℕ) → radix_of u ≡ radix → integer negative u ≡ integer_in negative u radix
unfolding integer integer_in
integer-known negative u radix e = ap (integer_in negative u) e

-- no digits: no integer
integer-none : (negative : Bool) (u : List ℕ) (radix : ℕ) → digits_len radix (drop (base_len radix) u) ≡ 0 → integer_in negative u radix ≡ None
unfolding integer_in
integer-none negative u radix e = rw e refl

-- with digits, the limit decides
abbrev limited : Bool → ℕ → ℕ → Option (ℤ × ℕ)
limited negative value size = cond (nat_lt limit value) None (Some (signed negative value, size))

integer-some : (negative : Bool) (u : List ℕ) (radix : ℕ) → 0 < digits_len radix (drop (base_len radix) u) →
    integer_in negative u radix ≡ limited negative (digits_value radix (take (digits_len radix (drop (base_len radix) u)) (drop (base_len radix) u))) (base_len radix + digits_len radix (drop (base_len radix) u))
unfolding integer_in
integer-some negative u radix some =
    let e : eqb (digits_len radix (drop (base_len radix) u)) 0 ≡ false = ne_eqb (digits_len radix (drop (base_len radix) u)) 0 (λ z. omega arith) in
    rw e refl

integer_stands : (start sign : ℕ) (negative : Bool) (s u : List ℕ) (size value : ℕ) → Signed s u sign negative → class_of (get_or s 0 0) ≡ Numbers →
    float_tail_len (drop (digits_len 10 u) u) ≡ 0 → NaturalRun u size value → Stands s (kind.Integer (signed negative value)) (sign + size)
integer_stands start sign negative s u size value g c tail run =
    let whole : length s ≡ sign + length u = g.size in
    let inside : size ≤ length u = run.within in
    record {
      within = omega arith;
      spelled = record {
        magnitude = value;
        is_natural = subst (λ l. IsNatural l value) (sym (g.front size)) run.form;
        is_signed = ap (λ b. signed b value) (sym (g.minus size));
      };
      longest = λ n k within h.
          let r = front_of s u sign n negative g (front_some s n k h) within in
          let e : n ≡ sign + r.m = r.size in
          elim (only_number s n k c h) [
            | inl i ↦ (let bound : r.m ≤ size = run.longest r.m i.1.magnitude r.within (subst (λ l. IsNatural l i.1.magnitude) r.unsigned_is i.1.is_natural) in omega arith)
            | inr x ↦ (let some = float_front u (take n s) r.m r.within r.unsigned_is x in absurd (omega (arith, some.1)))
          ];
    }

limited_says : (start sign at : ℕ) (negative : Bool) (s u : List ℕ) (size value : ℕ) → Signed s u sign negative → class_of (get_or s 0 0) ≡ Numbers →
    at ≡ start + sign → float_tail_len (drop (digits_len 10 u) u) ≡ 0 → NaturalRun u size value → (LacksDigits s → ⊥) →
    (over : Bool) → nat_lt limit value ≡ over → Says start s (integer_token start at (cond over None (Some (signed negative value, size))))
limited_says start sign at negative s u size value g c place tail run has true e = (
  refl,
  inr (record {
    value = signed negative value;
    len = sign + size;
    stands = integer_stands start sign negative s u size value g c tail run;
    beyond = subst (λ n. limit < n) (sym (nat_abs-signed negative value)) (ltb-true limit value e);
  }),
)
limited_says start sign at negative s u size value g c place tail run has false e =
    record {
      len = sign + size;
      starts = refl;
      ends = omega arith;
      stands = integer_stands start sign negative s u size value g c tail run;
      keeps_limit = subst (λ n. n ≤ limit) (sym (nat_abs-signed negative value)) (ltb-false limit value e);
      has_digits = has;
    }

known_says : (start sign at : ℕ) (negative : Bool) (s u : List ℕ) (size value : ℕ) → Signed s u sign negative → class_of (get_or s 0 0) ≡ Numbers →
    at ≡ start + sign → float_tail_len (drop (digits_len 10 u) u) ≡ 0 → NaturalRun u size value → (LacksDigits s → ⊥) →
    integer negative u ≡ limited negative value size → Says start s (integer_token start at (integer negative u))
known_says start sign at negative s u size value g c place tail run has e =
    subst (λ o. Says start s (integer_token start at o)) (sym e) (limited_says start sign at negative s u size value g c place tail run has (nat_lt limit value) refl)

lacking_says : (start at : ℕ) (negative : Bool) (s u : List ℕ) → LacksDigits s → integer negative u ≡ None → Says start s (integer_token start at (integer negative u))
lacking_says start at negative s u lacks e = subst (λ o. Says start s (integer_token start at o)) (sym e) (refl, inl lacks)

-- a base that is named, and whether a digit follows
no_digit_first : (radix : ℕ) (rest : List ℕ) → is_digit 0 radix ≡ false → digits_len radix rest ≡ 0 → is_digit (get_or rest 0 0) radix ≡ false
no_digit_first radix [] z h = z
no_digit_first radix (b ∷ rest) z h = elim (cases_Bool (is_digit b radix)) [
  | inl digit ↦ (let some : digits_len radix (b ∷ rest) ≡ 1 + digits_len radix rest = rw digit refl in absurd (omega arith))
  | inr none ↦ none
]

no_digits_after : (radix : ℕ) (rest : List ℕ) → is_digit (get_or rest 0 0) radix ≡ false → digits_len radix rest ≡ 0
no_digits_after radix [] h = refl
no_digits_after radix (b ∷ rest) h = rw h refl

pub second_is : (x y : ℕ) (r t : List ℕ) → 48 ∷ x ∷ r ≡ 48 ∷ y ∷ t → x ≡ y
second_is x y r t h = cc

pub rest_is : (x y : ℕ) (r t : List ℕ) → 48 ∷ x ∷ r ≡ 48 ∷ y ∷ t → r ≡ t
rest_is x y r t h = cc

hex_has : (s rest : List ℕ) → unsigned s ≡ 48 ∷ 120 ∷ rest → 0 < digits_len 16 rest → LacksDigits s → ⊥
hex_has s rest e some lacks = elim lacks [
  | inl x ↦ (let same : x.rest ≡ rest = rest_is 120 120 x.rest rest (sym x.spelled ∙ e) in
      omega (arith, no_digits_after 16 rest (subst (λ l. is_digit (get_or l 0 0) 16 ≡ false) same x.no_digit)))
  | inr y ↦ omega (arith, second_is 111 120 y.rest rest (sym y.spelled ∙ e))
]

oct_has : (s rest : List ℕ) → unsigned s ≡ 48 ∷ 111 ∷ rest → 0 < digits_len 8 rest → LacksDigits s → ⊥
oct_has s rest e some lacks = elim lacks [
  | inl x ↦ omega (arith, second_is 120 111 x.rest rest (sym x.spelled ∙ e))
  | inr y ↦ (let same : y.rest ≡ rest = rest_is 111 111 y.rest rest (sym y.spelled ∙ e) in
      omega (arith, no_digits_after 8 rest (subst (λ l. is_digit (get_or l 0 0) 8 ≡ false) same y.no_digit)))
]

dec_has : (s u : List ℕ) → unsigned s ≡ u → radix_of u ≡ 10 → LacksDigits s → ⊥
dec_has s u e plain lacks = elim (lacks_named s u e lacks) [
  | inl hex ↦ omega (arith, named_hex u hex)
  | inr oct ↦ omega (arith, named_oct u oct)
]

hex_says : (start sign at : ℕ) (negative : Bool) (s rest : List ℕ) → Signed s (48 ∷ 120 ∷ rest) sign negative → class_of (get_or s 0 0) ≡ Numbers → at ≡ start + sign →
    Says start s (integer_token start at (integer negative (48 ∷ 120 ∷ rest)))
hex_says start sign at negative s rest g c place = elim (zero_or_some (digits_len 16 rest)) [
  | inl none ↦ lacking_says start at negative s (48 ∷ 120 ∷ rest)
      (inl (record { rest = rest; spelled = g.whole; no_digit = no_digit_first 16 rest refl none }))
      (integer-known negative (48 ∷ 120 ∷ rest) 16 refl ∙ integer-none negative (48 ∷ 120 ∷ rest) 16 none)
  | inr some ↦ known_says start sign at negative s (48 ∷ 120 ∷ rest) (2 + digits_len 16 rest) (digits_value 16 (take (digits_len 16 rest) rest)) g c place refl
      (hex_run rest some) (hex_has s rest g.whole some)
      (integer-known negative (48 ∷ 120 ∷ rest) 16 refl ∙ integer-some negative (48 ∷ 120 ∷ rest) 16 some)
]

oct_says : (start sign at : ℕ) (negative : Bool) (s rest : List ℕ) → Signed s (48 ∷ 111 ∷ rest) sign negative → class_of (get_or s 0 0) ≡ Numbers → at ≡ start + sign →
    Says start s (integer_token start at (integer negative (48 ∷ 111 ∷ rest)))
oct_says start sign at negative s rest g c place = elim (zero_or_some (digits_len 8 rest)) [
  | inl none ↦ lacking_says start at negative s (48 ∷ 111 ∷ rest)
      (inr (record { rest = rest; spelled = g.whole; no_digit = no_digit_first 8 rest refl none }))
      (integer-known negative (48 ∷ 111 ∷ rest) 8 refl ∙ integer-none negative (48 ∷ 111 ∷ rest) 8 none)
  | inr some ↦ known_says start sign at negative s (48 ∷ 111 ∷ rest) (2 + digits_len 8 rest) (digits_value 8 (take (digits_len 8 rest) rest)) g c place refl
      (oct_run rest some) (oct_has s rest g.whole some)
      (integer-known negative (48 ∷ 111 ∷ rest) 8 refl ∙ integer-some negative (48 ∷ 111 ∷ rest) 8 some)
]

dec_says : (start sign at : ℕ) (negative : Bool) (s u : List ℕ) → Signed s u sign negative → class_of (get_or s 0 0) ≡ Numbers → at ≡ start + sign →
    0 < digits_len 10 u → float_tail_len (drop (digits_len 10 u) u) ≡ 0 → radix_of u ≡ 10 →
    Says start s (integer_token start at (integer negative u))
dec_says start sign at negative s u g c place some tail plain =
    known_says start sign at negative s u (0 + digits_len 10 u) (digits_value 10 (take (digits_len 10 u) u)) g c place tail
    (dec_run u plain some) (dec_has s u g.whole plain)
    (integer-known negative u 10 plain ∙ integer-some negative u 10 some)

integer_says : (start sign at : ℕ) (negative : Bool) (s u : List ℕ) → Signed s u sign negative → class_of (get_or s 0 0) ≡ Numbers → at ≡ start + sign →
    0 < digits_len 10 u → float_tail_len (drop (digits_len 10 u) u) ≡ 0 → Says start s (integer_token start at (integer negative u))
integer_says start sign at negative s u g c place some tail = elim (named_cases u) [
  | inl hex ↦ subst (λ v. Signed s v sign negative → Says start s (integer_token start at (integer negative v))) (sym hex.is)
      (λ h. hex_says start sign at negative s hex.rest h c place) g
  | inr o ↦ elim o [
    | inl oct ↦ subst (λ v. Signed s v sign negative → Says start s (integer_token start at (integer negative v))) (sym oct.is)
        (λ h. oct_says start sign at negative s oct.rest h c place) g
    | inr plain ↦ dec_says start sign at negative s u g c place some tail plain
  ]
]

-- ---- a number

unsigned_says : (start sign at : ℕ) (negative : Bool) (s u : List ℕ) → Signed s u sign negative → class_of (get_or s 0 0) ≡ Numbers → at ≡ start + sign →
    Says start s (unsigned_at negative start at u)
unsigned_says start sign at negative s u g c place = elim (zero_or_some (digits_len 10 u)) [
  | inl none ↦ (let bare : eqb (digits_len 10 u) 0 ≡ true = eq-eqb (digits_len 10 u) 0 none in
      let b = bare_says start sign negative s u g c none in rw bare (refl, b.0, b.1))
  | inr some ↦
      (let digits : eqb (digits_len 10 u) 0 ≡ false = ne_eqb (digits_len 10 u) 0 (λ z. omega arith) in
      elim (zero_or_some (float_tail_len (drop (digits_len 10 u) u))) [
        | inl none ↦ (let no_tail : ltb 0 (float_tail_len (drop (digits_len 10 u) u)) ≡ false = le-ltb 0 (float_tail_len (drop (digits_len 10 u) u)) (omega arith) in
            rw (digits, no_tail) (integer_says start sign at negative s u g c place some none))
        | inr tail ↦ (let a_tail : ltb 0 (float_tail_len (drop (digits_len 10 u) u)) ≡ true = lt-ltb 0 (float_tail_len (drop (digits_len 10 u) u)) tail in
            rw (digits, a_tail) (float_token start sign at negative s u g c place some tail))
      ])
]

-- where a digit or `-` stands in front, the number there is the answer, or why there is none
pub number_says : (at : ℕ) (s : List ℕ) → class_of (get_or s 0 0) ≡ Numbers → Says at s (number_at at s)
unfolding number_at
number_says at [] c = (unsigned_says at 0 at false [] [] (without_sign [] refl) c (omega arith))
number_says at (b ∷ u) c = elim (cases_Bool (eqb b 45)) [
  | inl minus ↦ rw minus (unsigned_says at 1 (at + 1) true (b ∷ u) u (subst (λ v. Signed (v ∷ u) u 1 true) (sym (eqb-true b 45 minus)) (with_minus u)) c refl)
  | inr plain ↦ rw plain (unsigned_says at 0 at false (b ∷ u) (b ∷ u) (without_sign (b ∷ u) plain) c (omega arith))
]
