-- The mark in front of some bytes is the longest form there.
use Rattle.std.proofs.Common.{◌≡◌, ℕ, ◌≤◌, Bool, true, false, ◌&&◌, cond, eqb, List, [], ◌∷◌, length, take, get_or, Option, Some, None, refl, sym, ◌∙◌, ap, subst, arith, inl, inr, ◌⊎◌}
use Rattle.std.proofs.lemmas.List.{length-take-le, get_or-take}
use Rattle.std.proofs.lemmas.Bool.{eqb-true, and_parts, and_right}
use Rattle.fz_token.specs.Forms.{Spells, Says, mark_spelling}
use Rattle.fz_token.specs.Mark.{single, double, single_token, longer_token, mark_at}
use Rattle.fz_token.specs.declared.Mark.{Mark}
use Rattle.fz_token.specs.declared.Mark.TheVariants as mark
use Rattle.fz_token.specs.declared.TokenKind.{TokenKind}
use Rattle.fz_token.specs.declared.TokenKind.TheVariants as kind
use Rattle.fz_token.proofs.Classes.{Class, Words, Numbers, Quotes, Marks, Others, class_of, front_class, lacks_class, quote_class}

-- ---- the tests know the spellings

single_step : (b x : ℕ) (found m : Mark) (more : Option Mark) (P : Type 0) → (b ≡ x → found ≡ m → P) → (more ≡ Some m → P) →
    (t : Bool) → eqb b x ≡ t → cond t (Some found) more ≡ Some m → P
single_step b x found m more P here later true e h = here (eqb-true b x e) (let same : found ≡ m = cc in same)
single_step b x found m more P here later false e h = later h

double_step : (b x c y : ℕ) (found m : Mark) (more : Option Mark) (P : Type 0) → (b ≡ x → c ≡ y → found ≡ m → P) → (more ≡ Some m → P) →
    (t : Bool) → (eqb b x && eqb c y) ≡ t → cond t (Some found) more ≡ Some m → P
double_step b x c y found m more P here later true e h =
    let both = and_parts (eqb b x) (eqb c y) e in
    here (eqb-true b x both.0) (eqb-true c y both.1) (let same : found ≡ m = cc in same)
double_step b x c y found m more P here later false e h = later h

spelled_one : (b x : ℕ) (found m : Mark) → mark_spelling found ≡ x ∷ [] → b ≡ x → found ≡ m → b ∷ [] ≡ mark_spelling m
spelled_one b x found m is e f = ap (λ v. v ∷ []) e ∙ sym is ∙ ap mark_spelling f

single_spells : (b : ℕ) (m : Mark) → single b ≡ Some m → b ∷ [] ≡ mark_spelling m
single_spells b m h =
    let P : Type 0 = b ∷ [] ≡ mark_spelling m in
    single_step b 40 mark.OpenRound m _ P (spelled_one b 40 mark.OpenRound m refl)
    (single_step b 41 mark.CloseRound m _ P (spelled_one b 41 mark.CloseRound m refl)
    (single_step b 91 mark.OpenSquare m _ P (spelled_one b 91 mark.OpenSquare m refl)
    (single_step b 93 mark.CloseSquare m _ P (spelled_one b 93 mark.CloseSquare m refl)
    (single_step b 123 mark.OpenCurly m _ P (spelled_one b 123 mark.OpenCurly m refl)
    (single_step b 125 mark.CloseCurly m _ P (spelled_one b 125 mark.CloseCurly m refl)
    (single_step b 44 mark.Comma m _ P (spelled_one b 44 mark.Comma m refl)
    (single_step b 59 mark.Semicolon m _ P (spelled_one b 59 mark.Semicolon m refl)
    (single_step b 58 mark.Colon m _ P (spelled_one b 58 mark.Colon m refl)
    (single_step b 61 mark.Equals m None P (spelled_one b 61 mark.Equals m refl) (λ none. cc)
    (eqb b 61) refl) (eqb b 58) refl) (eqb b 59) refl) (eqb b 44) refl) (eqb b 125) refl) (eqb b 123) refl) (eqb b 93) refl) (eqb b 91) refl) (eqb b 41) refl) (eqb b 40) refl h

spelled_two : (b x c y : ℕ) (found m : Mark) → mark_spelling found ≡ x ∷ y ∷ [] → b ≡ x → c ≡ y → found ≡ m → b ∷ c ∷ [] ≡ mark_spelling m
spelled_two b x c y found m is e f g = ap (λ v. v ∷ c ∷ []) e ∙ ap (λ v. x ∷ v ∷ []) f ∙ sym is ∙ ap mark_spelling g

double_spells : (b c : ℕ) (m : Mark) → double b c ≡ Some m → b ∷ c ∷ [] ≡ mark_spelling m
double_spells b c m h =
    let P : Type 0 = b ∷ c ∷ [] ≡ mark_spelling m in
    double_step b 58 c 58 mark.DoubleColon m _ P (spelled_two b 58 c 58 mark.DoubleColon m refl)
    (double_step b 46 c 46 mark.DoubleDot m None P (spelled_two b 46 c 46 mark.DoubleDot m refl) (λ none. cc)
    (eqb b 46 && eqb c 46) refl) (eqb b 58 && eqb c 58) refl h

double_alone : (b : ℕ) → double b 0 ≡ None
double_alone b = rw (and_right (eqb b 58) false refl, and_right (eqb b 46) false refl) refl

double_within : (s : List ℕ) (m : Mark) → double (get_or s 0 0) (get_or s 1 0) ≡ Some m → 2 ≤ length s
double_within [] m h = let none = double_alone 0 in cc
double_within (b ∷ []) m h = let none = double_alone b in cc
double_within (b ∷ c ∷ s) m h = omega arith

single_within : (s : List ℕ) (m : Mark) → single (get_or s 0 0) ≡ Some m → 1 ≤ length s
single_within [] m h = let none : single 0 ≡ None = refl in cc
single_within (b ∷ s) m h = omega arith

take_one : (s : List ℕ) → 1 ≤ length s → take 1 s ≡ get_or s 0 0 ∷ []
take_one [] h = absurd (omega arith)
take_one (b ∷ s) h = refl

take_two : (s : List ℕ) → 2 ≤ length s → take 2 s ≡ get_or s 0 0 ∷ get_or s 1 0 ∷ []
take_two [] h = absurd (omega arith)
take_two (b ∷ []) h = absurd (omega arith)
take_two (b ∷ c ∷ s) h = refl

-- ---- a front that is a mark passes one of the tests

abbrev pub IsTested : List ℕ → ℕ → Mark → Type 0
IsTested s n m = ((n ≡ 1) × (single (get_or s 0 0) ≡ Some m)) ⊎ ((n ≡ 2) × (double (get_or s 0 0) (get_or s 1 0) ≡ Some m))

one_tested : (s : List ℕ) (n : ℕ) (m : Mark) (x : ℕ) → n ≤ length s → take n s ≡ x ∷ [] → single x ≡ Some m → IsTested s n m
one_tested s n m x within e is =
    let size : n ≡ 1 = omega (arith, length-take-le n s within, ap length e) in
    let first : get_or s 0 0 ≡ x = sym (get_or-take n s 0 0 (omega arith)) ∙ ap (λ w. get_or w 0 0) e in
    inl (size, ap single first ∙ is)

two_tested : (s : List ℕ) (n : ℕ) (m : Mark) (x y : ℕ) → n ≤ length s → take n s ≡ x ∷ y ∷ [] → double x y ≡ Some m → IsTested s n m
two_tested s n m x y within e is =
    let size : n ≡ 2 = omega (arith, length-take-le n s within, ap length e) in
    let first : get_or s 0 0 ≡ x = sym (get_or-take n s 0 0 (omega arith)) ∙ ap (λ w. get_or w 0 0) e in
    let second : get_or s 1 0 ≡ y = sym (get_or-take n s 1 0 (omega arith)) ∙ ap (λ w. get_or w 1 0) e in
    inr (size, ap (λ v. double v (get_or s 1 0)) first ∙ ap (double x) second ∙ is)

pub front_tested : (s : List ℕ) (n : ℕ) (m : Mark) → n ≤ length s → take n s ≡ mark_spelling m → IsTested s n m
front_tested s n mark.OpenRound h e = one_tested s n mark.OpenRound 40 h e refl
front_tested s n mark.CloseRound h e = one_tested s n mark.CloseRound 41 h e refl
front_tested s n mark.OpenSquare h e = one_tested s n mark.OpenSquare 91 h e refl
front_tested s n mark.CloseSquare h e = one_tested s n mark.CloseSquare 93 h e refl
front_tested s n mark.OpenCurly h e = one_tested s n mark.OpenCurly 123 h e refl
front_tested s n mark.CloseCurly h e = one_tested s n mark.CloseCurly 125 h e refl
front_tested s n mark.Comma h e = one_tested s n mark.Comma 44 h e refl
front_tested s n mark.Semicolon h e = one_tested s n mark.Semicolon 59 h e refl
front_tested s n mark.Colon h e = one_tested s n mark.Colon 58 h e refl
front_tested s n mark.DoubleColon h e = two_tested s n mark.DoubleColon 58 58 h e refl
front_tested s n mark.Equals h e = one_tested s n mark.Equals 61 h e refl
front_tested s n mark.DoubleDot h e = two_tested s n mark.DoubleDot 46 46 h e refl

-- ---- no other form begins so

abbrev pub IsMarkClass : Class → Type 0
IsMarkClass c = (c ≡ Marks) ⊎ (c ≡ Others)

not_words : IsMarkClass Words → ⊥
not_words h = elim h [ inl e ↦ cc | inr e ↦ cc ]

not_numbers : IsMarkClass Numbers → ⊥
not_numbers h = elim h [ inl e ↦ cc | inr e ↦ cc ]

not_quotes : IsMarkClass Quotes → ⊥
not_quotes h = elim h [ inl e ↦ cc | inr e ↦ cc ]

only_mark : (s : List ℕ) (n : ℕ) (k : TokenKind) → IsMarkClass (class_of (get_or s 0 0)) → n ≤ length s → Spells k (take n s) → (m : Mark) × IsTested s n m
only_mark s n kind.Name c within h = absurd (not_words (subst IsMarkClass (front_class s n kind.Name h) c))
only_mark s n (kind.Keyword keyword) c within h = absurd (not_words (subst IsMarkClass (front_class s n (kind.Keyword keyword) h) c))
only_mark s n (kind.Integer value) c within h = absurd (not_numbers (subst IsMarkClass (front_class s n (kind.Integer value) h) c))
only_mark s n kind.Float c within h = absurd (not_numbers (subst IsMarkClass (front_class s n kind.Float h) c))
only_mark s n kind.Quoted c within h = absurd (not_quotes (subst IsMarkClass (front_class s n kind.Quoted h) c))
only_mark s n (kind.Mark m) c within h = (m, front_tested s n m within h)

longest_double : (s : List ℕ) (n : ℕ) (m : Mark) → IsTested s n m → n ≤ 2
longest_double s n m h = elim h [ inl one ↦ omega (arith, one.0) | inr two ↦ omega (arith, two.0) ]

longest_single : (s : List ℕ) (n : ℕ) (m : Mark) → double (get_or s 0 0) (get_or s 1 0) ≡ None → IsTested s n m → n ≤ 1
longest_single s n m none h = elim h [ inl one ↦ omega (arith, one.0) | inr two ↦ (let some : double (get_or s 0 0) (get_or s 1 0) ≡ Some m = two.1 in cc) ]

untested : (s : List ℕ) (n : ℕ) (m : Mark) → double (get_or s 0 0) (get_or s 1 0) ≡ None → single (get_or s 0 0) ≡ None → IsTested s n m → ⊥
untested s n m no_two no_one h = elim h [
  | inl one ↦ (let some : single (get_or s 0 0) ≡ Some m = one.1 in cc)
  | inr two ↦ (let some : double (get_or s 0 0) (get_or s 1 0) ≡ Some m = two.1 in cc)
]

single_says : (at : ℕ) (s : List ℕ) (o : Option Mark) → IsMarkClass (class_of (get_or s 0 0)) → double (get_or s 0 0) (get_or s 1 0) ≡ None →
    single (get_or s 0 0) ≡ o → Says at s (single_token at o)
single_says at s None c none e = (
  refl,
  λ q. not_quotes (subst IsMarkClass (ap class_of q ∙ quote_class) c),
  λ n k within h. let found = only_mark s n k c within h in untested s n found.0 none e found.1,
)
single_says at s (Some m) c none e =
    let within = single_within s m e in
    record {
      len = 1;
      starts = refl;
      ends = refl;
      stands = record {
        within = within;
        spelled = take_one s within ∙ single_spells (get_or s 0 0) m e;
        longest = λ n other bound h. let found = only_mark s n other c bound h in longest_single s n found.0 none found.1;
      };
      keeps_limit = tt;
      has_digits = λ lacks. not_numbers (subst IsMarkClass (lacks_class s lacks) c);
    }

longer_says : (at : ℕ) (s : List ℕ) (o : Option Mark) → IsMarkClass (class_of (get_or s 0 0)) → double (get_or s 0 0) (get_or s 1 0) ≡ o →
    Says at s (longer_token at (get_or s 0 0) o)
longer_says at s None c e = single_says at s (single (get_or s 0 0)) c e refl
longer_says at s (Some m) c e =
    let within = double_within s m e in
    record {
      len = 2;
      starts = refl;
      ends = refl;
      stands = record {
        within = within;
        spelled = take_two s within ∙ double_spells (get_or s 0 0) (get_or s 1 0) m e;
        longest = λ n other bound h. let found = only_mark s n other c bound h in longest_double s n found.0 found.1;
      };
      keeps_limit = tt;
      has_digits = λ lacks. not_numbers (subst IsMarkClass (lacks_class s lacks) c);
    }

-- where no word, number or string begins, the mark there is the answer, or that there is none
pub mark_says : (at : ℕ) (s : List ℕ) → IsMarkClass (class_of (get_or s 0 0)) → Says at s (mark_at at s)
mark_says at s c = longer_says at s (double (get_or s 0 0) (get_or s 1 0)) c refl
