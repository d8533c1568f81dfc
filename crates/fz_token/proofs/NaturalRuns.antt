-- The longest integer without sign in front of some bytes.
use Rattle.std.proofs.Common.{◌≡◌, ℕ, zero, suc, ◌+◌, ◌<◌, ◌≤◌, false, ◌&&◌, eqb, List, [], ◌∷◌, length, take, refl, sym, ◌∙◌, ap, subst, arith, inl, inr, ◌⊎◌}
use Rattle.std.specs.Char.{is_digit}
use Rattle.std.specs.List.{AllPass}
use Rattle.std.specs.Str.Parse.{digits_value}
use Rattle.std.proofs.lemmas.List.Sums.{prefix_len-le-length}
use Rattle.std.proofs.lemmas.Bool.{cases_Bool, eqb-true, and_parts, and_right}
use Rattle.fz_token.specs.Forms.{IsDigits, IsBased, IsNatural}
use Rattle.fz_token.specs.Number.{digits_len, radix_of}
use Rattle.fz_token.proofs.FloatRuns.{digits_form}
use Rattle.fz_token.proofs.Runs.{passing_front}

-- the longest natural number in front
pub record NaturalRun (u : List ℕ) (size value : ℕ) : Type 0 where
  pub within : size ≤ length u
  pub form : IsNatural (take size u) value
  pub longest : (m n : ℕ) → m ≤ length u → IsNatural (take m u) n → m ≤ size

-- how the bytes name their base
pub record Named (second : ℕ) (u : List ℕ) : Type 0 where
  pub rest : List ℕ
  pub is : u ≡ 48 ∷ second ∷ rest

-- a front with two bytes and more
pub record Front (u : List ℕ) (m x y : ℕ) (ds : List ℕ) : Type 0 where
  pub rest : List ℕ
  pub count : ℕ
  pub is : u ≡ x ∷ y ∷ rest
  pub size : m ≡ suc (suc count)
  pub digits : take count rest ≡ ds

pub front_two : (u : List ℕ) (m x y : ℕ) (ds : List ℕ) → take m u ≡ x ∷ y ∷ ds → Front u m x y ds
front_two u zero x y ds h = cc
front_two [] (suc m) x y ds h = cc
front_two (b ∷ u) (suc zero) x y ds h = cc
front_two (b ∷ []) (suc (suc m)) x y ds h = cc
front_two (b ∷ c ∷ u) (suc (suc m)) x y ds h = record {
  rest = u;
  count = m;
  is = (let first : b ≡ x = cc in let second : c ≡ y = cc in ap (λ v. v ∷ c ∷ u) first ∙ ap (λ v. x ∷ v ∷ u) second);
  size = refl;
  digits = (let tail : take m u ≡ ds = cc in tail);
}

decimal_front : (u : List ℕ) (m n : ℕ) → m ≤ length u → IsBased [] 10 (take m u) n → m ≤ digits_len 10 u
decimal_front u m n within h =
    passing_front (λ b. is_digit b 10) u m within (subst (AllPass (λ b. is_digit b 10)) (sym h.spelled) h.are_digits.each)

-- ---- with a named base

named_digits : (radix : ℕ) (rest : List ℕ) (m count : ℕ) (ds : List ℕ) → m ≤ suc (suc (length rest)) → m ≡ suc (suc count) → take count rest ≡ ds → IsDigits radix ds →
    m ≤ suc (suc (digits_len radix rest))
named_digits radix rest m count ds within size e h =
    let bound : count ≤ digits_len radix rest = passing_front (λ b. is_digit b radix) rest count (omega arith) (subst (AllPass (λ b. is_digit b radix)) (sym e) h.each) in
    omega arith

named_longest : (second radix : ℕ) (rest : List ℕ) → digits_len 10 (48 ∷ second ∷ rest) ≤ 2 → (120 ≡ second → 16 ≡ radix) → (111 ≡ second → 8 ≡ radix) →
    (m n : ℕ) → m ≤ length (48 ∷ second ∷ rest) → IsNatural (take m (48 ∷ second ∷ rest)) n → m ≤ suc (suc (digits_len radix rest))
named_longest second radix rest few hex oct m n within h = elim h [
  | inl d ↦ omega (arith, decimal_front (48 ∷ second ∷ rest) m n within d)
  | inr o ↦ elim o [
    | inl x ↦
        (let f = front_two (48 ∷ second ∷ rest) m 48 120 x.digits x.spelled in
        let is : 48 ∷ second ∷ rest ≡ 48 ∷ 120 ∷ f.rest = f.is in
        let same : second ≡ 120 = cc in
        let tail : f.rest ≡ rest = cc in
        named_digits radix rest m f.count x.digits within f.size (ap (take f.count) (sym tail) ∙ f.digits) (subst (λ r. IsDigits r x.digits) (hex (sym same)) x.are_digits))
    | inr y ↦
        (let f = front_two (48 ∷ second ∷ rest) m 48 111 y.digits y.spelled in
        let is : 48 ∷ second ∷ rest ≡ 48 ∷ 111 ∷ f.rest = f.is in
        let same : second ≡ 111 = cc in
        let tail : f.rest ≡ rest = cc in
        named_digits radix rest m f.count y.digits within f.size (ap (take f.count) (sym tail) ∙ f.digits) (subst (λ r. IsDigits r y.digits) (oct (sym same)) y.are_digits))
  ]
]

pub hex_run : (rest : List ℕ) → 0 < digits_len 16 rest → NaturalRun (48 ∷ 120 ∷ rest) (2 + digits_len 16 rest) (digits_value 16 (take (digits_len 16 rest) rest))
hex_run rest some =
    let len = digits_len 16 rest in
    let size : suc (suc len) ≡ 2 + len = omega arith in
    let bound : len ≤ length rest = prefix_len-le-length (λ b. is_digit b 16) rest in
    record {
      within = omega arith;
      form = subst (λ n. IsNatural (take n (48 ∷ 120 ∷ rest)) (digits_value 16 (take len rest))) size
          (inr (inl (record { digits = take len rest; spelled = refl; are_digits = digits_form 16 rest some; value = refl })));
      longest = λ m n within h. omega (arith, named_longest 120 16 rest (omega arith) (λ e. refl) (λ e. absurd (omega arith)) m n within h);
    }

pub oct_run : (rest : List ℕ) → 0 < digits_len 8 rest → NaturalRun (48 ∷ 111 ∷ rest) (2 + digits_len 8 rest) (digits_value 8 (take (digits_len 8 rest) rest))
oct_run rest some =
    let len = digits_len 8 rest in
    let size : suc (suc len) ≡ 2 + len = omega arith in
    let bound : len ≤ length rest = prefix_len-le-length (λ b. is_digit b 8) rest in
    record {
      within = omega arith;
      form = subst (λ n. IsNatural (take n (48 ∷ 111 ∷ rest)) (digits_value 8 (take len rest))) size
          (inr (inr (record { digits = take len rest; spelled = refl; are_digits = digits_form 8 rest some; value = refl })));
      longest = λ m n within h. omega (arith, named_longest 111 8 rest (omega arith) (λ e. absurd (omega arith)) (λ e. refl) m n within h);
    }

-- ---- with no named base

pub named_hex : (u : List ℕ) → Named 120 u → radix_of u ≡ 16
named_hex u h = ap radix_of h.is

pub named_oct : (u : List ℕ) → Named 111 u → radix_of u ≡ 8
named_oct u h = ap radix_of h.is

pub dec_run : (u : List ℕ) → radix_of u ≡ 10 → 0 < digits_len 10 u → NaturalRun u (0 + digits_len 10 u) (digits_value 10 (take (digits_len 10 u) u))
dec_run u plain some =
    let len = digits_len 10 u in
    let size : len ≡ 0 + len = omega arith in
    let bound : len ≤ length u = prefix_len-le-length (λ b. is_digit b 10) u in
    record {
      within = omega arith;
      form = subst (λ n. IsNatural (take n u) (digits_value 10 (take len u))) size
          (inl (record { digits = take len u; spelled = refl; are_digits = digits_form 10 u some; value = refl }));
      longest = λ m n within h. elim h [
        | inl d ↦ omega (arith, decimal_front u m n within d)
        | inr o ↦ elim o [
          | inl x ↦ (let f = front_two u m 48 120 x.digits x.spelled in let other : radix_of u ≡ 16 = ap radix_of f.is in absurd (omega arith))
          | inr y ↦ (let f = front_two u m 48 111 y.digits y.spelled in let other : radix_of u ≡ 8 = ap radix_of f.is in absurd (omega arith))
        ]
      ];
    }

-- the base is named by the first two bytes, or it is ten
pub named_cases : (u : List ℕ) → Named 120 u ⊎ (Named 111 u ⊎ (radix_of u ≡ 10))
named_cases [] = inr (inr refl)
named_cases (b ∷ []) = inr (inr (rw (and_right (eqb b 48) false refl) refl))
named_cases (b ∷ c ∷ u) = elim (cases_Bool (eqb b 48 && eqb c 120)) [
  | inl hex ↦ (let both = and_parts (eqb b 48) (eqb c 120) hex in
      inl (record { rest = u; is = ap (λ v. v ∷ c ∷ u) (eqb-true b 48 both.0) ∙ ap (λ v. 48 ∷ v ∷ u) (eqb-true c 120 both.1) }))
  | inr other ↦ elim (cases_Bool (eqb b 48 && eqb c 111)) [
    | inl oct ↦ (let both = and_parts (eqb b 48) (eqb c 111) oct in
        inr (inl (record { rest = u; is = ap (λ v. v ∷ c ∷ u) (eqb-true b 48 both.0) ∙ ap (λ v. 48 ∷ v ∷ u) (eqb-true c 111 both.1) })))
    | inr none ↦ inr (inr (rw (other, none) refl))
  ]
]
