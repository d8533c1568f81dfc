-- The first byte of a token says of which kind it is.
use Rattle.std.proofs.Common.{◌≡◌, ℕ, zero, suc, ◌<◌, ◌≤◌, Bool, true, cond, ◌||◌, List, [], ◌∷◌, ◌++◌, take, drop, get_or, refl, sym, ◌∙◌, ap, subst, arith, inl, inr, if◌then◌else◌, ◌==◌}
use Rattle.std.specs.Char.{is_digit, is_ascii_digit}
use Rattle.std.proofs.lemmas.Bool.{cases_Bool, eqb-true}
use Rattle.std.proofs.lemmas.Bool.Decides.{nat_tests}
use Rattle.fz_token.specs.Forms.{Spells, IsNatural, IsDigits, unsigned, is_negative, mark_spelling, LacksDigits}
use Rattle.fz_token.specs.Word.{begins_word, spelling}
use Rattle.fz_token.specs.declared.Keyword.{Keyword}
use Rattle.fz_token.specs.declared.Keyword.TheVariants as word
use Rattle.fz_token.specs.declared.Mark.{Mark}
use Rattle.fz_token.specs.declared.Mark.TheVariants as mark
use Rattle.fz_token.specs.declared.TokenKind.{TokenKind}
use Rattle.fz_token.specs.declared.TokenKind.TheVariants as kind

pub data Class : Type 0 where
  Words : Class
  Numbers : Class
  Quotes : Class
  Marks : Class
  Others : Class

abbrev pub is_mark_byte : ℕ → Bool
is_mark_byte b = (b == 40) || (b == 41) || (b == 91) || (b == 93) || (b == 123) || (b == 125) || (b == 44) || (b == 59) || (b == 58) || (b == 61) || (b == 46)

unfoldable pub class_of : ℕ → Class
class_of b =
    if begins_word b then Words
    else (if is_ascii_digit b || (b == 45) then Numbers
    else (if b == 34 then Quotes
    else (if is_mark_byte b then Marks else Others)))

abbrev pub kind_class : TokenKind → Class
kind_class kind.Name = Words
kind_class (kind.Keyword keyword) = Words
kind_class (kind.Integer value) = Numbers
kind_class kind.Float = Numbers
kind_class kind.Quoted = Quotes
kind_class (kind.Mark m) = Marks

pub class_of_letter : (b : ℕ) → begins_word b ≡ true → class_of b ≡ Words
unfolding class_of
class_of_letter b h = rw h refl

pub digit_between : (b : ℕ) → is_digit b 10 ≡ true → (48 ≤ b) × (b ≤ 57)
digit_between b h = (grind (arith, nat_tests), grind (arith, nat_tests))

between_class : (b : ℕ) → 48 ≤ b → b ≤ 57 → class_of b ≡ Numbers
unfolding class_of
between_class b l h = grind (arith, nat_tests)

pub class_of_digit : (b : ℕ) → is_digit b 10 ≡ true → class_of b ≡ Numbers
class_of_digit b h = let r = digit_between b h in between_class b r.0 r.1

pub class_of_minus : class_of 45 ≡ Numbers
unfolding class_of
class_of_minus = refl

keyword_class : (k : Keyword) → class_of (get_or (spelling k) 0 0) ≡ Words
unfolding class_of
keyword_class word.Array = refl
keyword_class word.Bool = refl
keyword_class word.Constraint = refl
keyword_class word.False = refl
keyword_class word.Float = refl
keyword_class word.Int = refl
keyword_class word.Maximize = refl
keyword_class word.Minimize = refl
keyword_class word.Of = refl
keyword_class word.Predicate = refl
keyword_class word.Satisfy = refl
keyword_class word.Set = refl
keyword_class word.Solve = refl
keyword_class word.True = refl
keyword_class word.Var = refl

mark_class : (m : Mark) → class_of (get_or (mark_spelling m) 0 0) ≡ Marks
unfolding class_of
mark_class mark.OpenRound = refl
mark_class mark.CloseRound = refl
mark_class mark.OpenSquare = refl
mark_class mark.CloseSquare = refl
mark_class mark.OpenCurly = refl
mark_class mark.CloseCurly = refl
mark_class mark.Comma = refl
mark_class mark.Semicolon = refl
mark_class mark.Colon = refl
mark_class mark.DoubleColon = refl
mark_class mark.Equals = refl
mark_class mark.DoubleDot = refl

-- a number begins with a digit, after its sign
pub first_digit : (ds rest : List ℕ) → IsDigits 10 ds → is_digit (get_or (ds ++ rest) 0 0) 10 ≡ true
first_digit [] rest h = let lt : 0 < 0 = h.some in absurd (omega arith)
first_digit (x ∷ ds) rest h = h.each 0 x (omega arith)

alone : (ds : List ℕ) → IsDigits 10 ds → is_digit (get_or ds 0 0) 10 ≡ true
alone [] d = let lt : 0 < 0 = d.some in absurd (omega arith)
alone (x ∷ ds) d = d.each 0 x (omega arith)

pub natural_first : (u : List ℕ) (n : ℕ) → IsNatural u n → is_digit (get_or u 0 0) 10 ≡ true
natural_first u n h = elim h [
  | inl b ↦ subst (λ v. is_digit (get_or v 0 0) 10 ≡ true) (sym b.spelled ∙ refl) (alone b.digits b.are_digits)
  | inr o ↦ elim o [
    | inl x ↦ subst (λ v. is_digit (get_or v 0 0) 10 ≡ true) (sym x.spelled) refl
    | inr y ↦ subst (λ v. is_digit (get_or v 0 0) 10 ≡ true) (sym y.spelled) refl
  ]
]

-- by its first digit, a number is of the class of numbers with its sign too
signed_class : (w : List ℕ) → is_digit (get_or (unsigned w) 0 0) 10 ≡ true → class_of (get_or w 0 0) ≡ Numbers
signed_class w h = elim (cases_Bool (is_negative w)) [
  | inl minus ↦ ap class_of (eqb-true (get_or w 0 0) 45 minus) ∙ class_of_minus
  | inr plus ↦ class_of_digit (get_or w 0 0) (subst (λ (b : Bool). is_digit (get_or (cond b (drop 1 w) w) 0 0) 10 ≡ true) plus h)
]

pub quote_class : class_of 34 ≡ Quotes
unfolding class_of
quote_class = refl

pub spells_class : (k : TokenKind) (w : List ℕ) → Spells k w → class_of (get_or w 0 0) ≡ kind_class k
spells_class kind.Name w h = class_of_letter (get_or w 0 0) h.0.begins
spells_class (kind.Keyword keyword) w h = ap (λ v. class_of (get_or v 0 0)) h ∙ keyword_class keyword
spells_class (kind.Integer value) w h = signed_class w (natural_first (unsigned w) h.magnitude h.is_natural)
spells_class kind.Float w h = signed_class w (subst (λ v. is_digit (get_or v 0 0) 10 ≡ true) (sym h.spelled) (first_digit h.whole (h.fraction ++ h.exponent) h.are_digits))
spells_class kind.Quoted w h = ap (λ v. class_of (get_or v 0 0)) h.spelled ∙ quote_class
spells_class (kind.Mark m) w h = ap (λ v. class_of (get_or v 0 0)) h ∙ mark_class m

others_class : class_of 0 ≡ Others
unfolding class_of
others_class = refl

no_kind : (k : TokenKind) → Others ≡ kind_class k → ⊥
no_kind kind.Name h = cc
no_kind (kind.Keyword keyword) h = cc
no_kind (kind.Integer value) h = cc
no_kind kind.Float h = cc
no_kind kind.Quoted h = cc
no_kind (kind.Mark m) h = cc

-- a byte of no class begins no token, and no form is empty
pub other_class : (s : List ℕ) (n : ℕ) (k : TokenKind) → class_of (get_or s 0 0) ≡ Others → Spells k (take n s) → ⊥
other_class s zero k c h = no_kind k (sym others_class ∙ spells_class k [] h)
other_class [] (suc n) k c h = no_kind k (sym c ∙ spells_class k [] h)
other_class (b ∷ s) (suc n) k c h = no_kind k (sym c ∙ spells_class k (b ∷ take n s) h)

pub front_class : (s : List ℕ) (n : ℕ) (k : TokenKind) → Spells k (take n s) → class_of (get_or s 0 0) ≡ kind_class k
front_class s zero k h = absurd (no_kind k (sym others_class ∙ spells_class k [] h))
front_class [] (suc n) k h = spells_class k [] h
front_class (b ∷ s) (suc n) k h = spells_class k (b ∷ take n s) h

pub lacks_class : (s : List ℕ) → LacksDigits s → class_of (get_or s 0 0) ≡ Numbers
lacks_class s h = signed_class s (elim h [
  | inl x ↦ subst (λ v. is_digit (get_or v 0 0) 10 ≡ true) (sym x.spelled) refl
  | inr y ↦ subst (λ v. is_digit (get_or v 0 0) 10 ≡ true) (sym y.spelled) refl
])

-- no form is empty
pub front_some : (s : List ℕ) (n : ℕ) (k : TokenKind) → Spells k (take n s) → 0 < n
front_some s zero k h = absurd (no_kind k (sym others_class ∙ spells_class k [] h))
front_some s (suc n) k h = omega arith
