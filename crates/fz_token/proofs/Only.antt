-- The table says one thing only.
use Rattle.std.proofs.Common.{◌≡◌, ℕ, ◌+◌, ◌-◌, ◌<◌, ◌≤◌, true, false, eqb, List, [], ◌∷◌, length, take, drop, Option, Some, None, Result, Ok, Err, refl, sym, ◌∙◌, ap, subst, arith, inl, inr, ◌⊎◌}
use Rattle.std.specs.Prelude.{ℤ, nat_abs}
use Rattle.std.specs.Char.{is_digit}
use Rattle.std.specs.List.{AllPass}
use Rattle.std.specs.Str.Parse.{digits_value}
use Rattle.std.proofs.lemmas.Bool.{cases_Bool, eqb-true}
use Rattle.std.proofs.lemmas.List.{length-drop, take_all}
use Rattle.std.proofs.lemmas.List.Sums.{AllPass-from_list_all}
use Rattle.fz_token.specs.Forms.{Spells, Says, Stands, IsToken, IsTooLarge, IsInteger, IsFloat, IsNatural, IsBased, IsDigits, LacksDigits, NothingStands, KeepsLimit, unsigned, is_negative}
use Rattle.fz_token.specs.Next.{EndsGap, SaysAt, IsNext}
use Rattle.fz_token.specs.Number.{limit, signed, digits_len, float_tail_len}
use Rattle.fz_token.specs.Reading.{Reading}
use Rattle.fz_token.specs.Stream.{found}
use Rattle.fz_token.specs.Word.{spelling, keyword_of}
use Rattle.fz_token.specs.declared.Keyword.{Keyword}
use Rattle.fz_token.specs.declared.Mark.{Mark}
use Rattle.fz_token.specs.declared.Token.{Token}
use Rattle.fz_token.specs.declared.TokenKind.{TokenKind}
use Rattle.fz_token.specs.declared.TokenKind.TheVariants as kind
use Rattle.fz_token.specs.declared.TokenRefusal.{TokenRefusal}
use Rattle.fz_token.specs.declared.TokenRefusal.TheVariants.{BadByte, Number, OpenString}
use Rattle.fz_token.proofs.Classes.{Words, Numbers, Quotes, Marks, kind_class, spells_class, natural_first}
use Rattle.fz_token.proofs.FloatRuns.{tail_form}
use Rattle.fz_token.proofs.MarkForms.{IsTested, front_tested}
use Rattle.fz_token.proofs.NumberForms.{digit_run, float_front, natural_within, second_is, rest_is}
use Rattle.fz_token.proofs.WordForms.{keyword_found}

-- ---- one number

decimal_second : (b : ℕ) (ds digits : List ℕ) → 48 ∷ b ∷ ds ≡ digits → IsDigits 10 digits → is_digit b 10 ≡ true
decimal_second b ds digits e h =
    let all : AllPass (λ c. is_digit c 10) (48 ∷ b ∷ ds) = subst (AllPass (λ c. is_digit c 10)) (sym e) h.each in
    all 1 0 (omega arith)

no_hex_digit : is_digit 120 10 ≡ true → ⊥
no_hex_digit h = let no : is_digit 120 10 ≡ false = refl in cc

no_oct_digit : is_digit 111 10 ≡ true → ⊥
no_oct_digit h = let no : is_digit 111 10 ≡ false = refl in cc

same_value : (radix : ℕ) (m n : ℕ) (ds es : List ℕ) → m ≡ digits_value radix ds → n ≡ digits_value radix es → ds ≡ es → m ≡ n
same_value radix m n ds es p q e = p ∙ ap (digits_value radix) e ∙ sym q

decimal_only : (w : List ℕ) (m n : ℕ) → IsBased [] 10 w m → IsNatural w n → m ≡ n
decimal_only w m n a h = elim h [
  | inl b ↦ same_value 10 m n a.digits b.digits a.value b.value (sym a.spelled ∙ b.spelled)
  | inr o ↦ elim o [
    | inl x ↦ absurd (no_hex_digit (decimal_second 120 x.digits a.digits (sym x.spelled ∙ a.spelled) a.are_digits))
    | inr y ↦ absurd (no_oct_digit (decimal_second 111 y.digits a.digits (sym y.spelled ∙ a.spelled) a.are_digits))
  ]
]

natural_only : (w : List ℕ) (m n : ℕ) → IsNatural w m → IsNatural w n → m ≡ n
natural_only w m n g h = elim g [
  | inl a ↦ decimal_only w m n a h
  | inr o ↦ elim h [
    | inl b ↦ sym (decimal_only w n m b (inr o))
    | inr p ↦ elim o [
      | inl x ↦ elim p [
        | inl z ↦ same_value 16 m n x.digits z.digits x.value z.value (rest_is 120 120 x.digits z.digits (sym x.spelled ∙ z.spelled))
        | inr z ↦ absurd (omega (arith, second_is 120 111 x.digits z.digits (sym x.spelled ∙ z.spelled)))
      ]
      | inr y ↦ elim p [
        | inl z ↦ absurd (omega (arith, second_is 111 120 y.digits z.digits (sym y.spelled ∙ z.spelled)))
        | inr z ↦ same_value 8 m n y.digits z.digits y.value z.value (rest_is 111 111 y.digits z.digits (sym y.spelled ∙ z.spelled))
      ]
    ]
  ]
]

integer_only : (w : List ℕ) (v u : ℤ) → IsInteger w v → IsInteger w u → v ≡ u
integer_only w v u g h =
    g.is_signed ∙ ap (signed (is_negative w)) (natural_only (unsigned w) g.magnitude h.magnitude g.is_natural h.is_natural) ∙ sym h.is_signed

-- no bytes are an integer and a float
no_both : (w : List ℕ) (v : ℤ) → IsInteger w v → IsFloat w → ⊥
no_both w v g h =
    let u = unsigned w in
    let whole : take (length u) u ≡ u = take_all (length u) u (omega arith) in
    let found = float_front u w (length u) (omega arith) (sym whole) h in
    let natural : IsNatural (take (length u) u) g.magnitude = subst (λ l. IsNatural l g.magnitude) (sym whole) g.is_natural in
    let some : 0 < digits_len 10 u = digit_run u (length u) (natural_first (take (length u) u) g.magnitude natural) in
    let bound : length u ≤ digits_len 10 u = natural_within u (length u) g.magnitude some found.1 (omega arith) natural in
    let tail = tail_form (drop (digits_len 10 u) u) found.1 in
    let inside : float_tail_len (drop (digits_len 10 u) u) ≤ length (drop (digits_len 10 u) u) = tail.within in
    let left : length (drop (digits_len 10 u) u) ≡ length u - digits_len 10 u = length-drop (digits_len 10 u) u in
    let is_tail : 0 < float_tail_len (drop (digits_len 10 u) u) = found.1 in
    omega arith

-- ---- one kind

keyword_only : (w : List ℕ) (k l : Keyword) → w ≡ spelling k → w ≡ spelling l → k ≡ l
keyword_only w k l g h =
    let one : keyword_of w ≡ Some k = ap keyword_of g ∙ keyword_found k in
    let two : keyword_of w ≡ Some l = ap keyword_of h ∙ keyword_found l in
    cc

mark_only : (s : List ℕ) (n : ℕ) (k l : Mark) → IsTested s n k → IsTested s n l → k ≡ l
mark_only s n k l g h = elim g [
  | inl a ↦ elim h [ inl b ↦ (let p = a.1 in let q = b.1 in cc) | inr b ↦ absurd (omega (arith, a.0, b.0)) ]
  | inr a ↦ elim h [ inl b ↦ absurd (omega (arith, a.0, b.0)) | inr b ↦ (let p = a.1 in let q = b.1 in cc) ]
]

same_class : (k l : TokenKind) (w : List ℕ) → Spells k w → Spells l w → kind_class k ≡ kind_class l
same_class k l w g h = sym (spells_class k w g) ∙ spells_class l w h

word_number : Words ≡ Numbers → ⊥
word_number h = cc

word_quote : Words ≡ Quotes → ⊥
word_quote h = cc

word_mark : Words ≡ Marks → ⊥
word_mark h = cc

number_quote : Numbers ≡ Quotes → ⊥
number_quote h = cc

number_mark : Numbers ≡ Marks → ⊥
number_mark h = cc

quote_mark : Quotes ≡ Marks → ⊥
quote_mark h = cc

kind_only : (s : List ℕ) (n : ℕ) (k l : TokenKind) → n ≤ length s → Spells k (take n s) → Spells l (take n s) → k ≡ l
kind_only s n kind.Name kind.Name b g h = refl
kind_only s n kind.Name (kind.Keyword j) b g h = absurd (g.1 j h)
kind_only s n kind.Name (kind.Integer v) b g h = absurd (word_number (same_class kind.Name (kind.Integer v) (take n s) g h))
kind_only s n kind.Name kind.Float b g h = absurd (word_number (same_class kind.Name kind.Float (take n s) g h))
kind_only s n kind.Name kind.Quoted b g h = absurd (word_quote (same_class kind.Name kind.Quoted (take n s) g h))
kind_only s n kind.Name (kind.Mark m) b g h = absurd (word_mark (same_class kind.Name (kind.Mark m) (take n s) g h))
kind_only s n (kind.Keyword i) kind.Name b g h = absurd (h.1 i g)
kind_only s n (kind.Keyword i) (kind.Keyword j) b g h = ap (λ x. kind.Keyword x) (keyword_only (take n s) i j g h)
kind_only s n (kind.Keyword i) (kind.Integer v) b g h = absurd (word_number (same_class (kind.Keyword i) (kind.Integer v) (take n s) g h))
kind_only s n (kind.Keyword i) kind.Float b g h = absurd (word_number (same_class (kind.Keyword i) kind.Float (take n s) g h))
kind_only s n (kind.Keyword i) kind.Quoted b g h = absurd (word_quote (same_class (kind.Keyword i) kind.Quoted (take n s) g h))
kind_only s n (kind.Keyword i) (kind.Mark m) b g h = absurd (word_mark (same_class (kind.Keyword i) (kind.Mark m) (take n s) g h))
kind_only s n (kind.Integer u) kind.Name b g h = absurd (word_number (same_class kind.Name (kind.Integer u) (take n s) h g))
kind_only s n (kind.Integer u) (kind.Keyword j) b g h = absurd (word_number (same_class (kind.Keyword j) (kind.Integer u) (take n s) h g))
kind_only s n (kind.Integer u) (kind.Integer v) b g h = ap (λ x. kind.Integer x) (integer_only (take n s) u v g h)
kind_only s n (kind.Integer u) kind.Float b g h = absurd (no_both (take n s) u g h)
kind_only s n (kind.Integer u) kind.Quoted b g h = absurd (number_quote (same_class (kind.Integer u) kind.Quoted (take n s) g h))
kind_only s n (kind.Integer u) (kind.Mark m) b g h = absurd (number_mark (same_class (kind.Integer u) (kind.Mark m) (take n s) g h))
kind_only s n kind.Float kind.Name b g h = absurd (word_number (same_class kind.Name kind.Float (take n s) h g))
kind_only s n kind.Float (kind.Keyword j) b g h = absurd (word_number (same_class (kind.Keyword j) kind.Float (take n s) h g))
kind_only s n kind.Float (kind.Integer v) b g h = absurd (no_both (take n s) v h g)
kind_only s n kind.Float kind.Float b g h = refl
kind_only s n kind.Float kind.Quoted b g h = absurd (number_quote (same_class kind.Float kind.Quoted (take n s) g h))
kind_only s n kind.Float (kind.Mark m) b g h = absurd (number_mark (same_class kind.Float (kind.Mark m) (take n s) g h))
kind_only s n kind.Quoted kind.Name b g h = absurd (word_quote (same_class kind.Name kind.Quoted (take n s) h g))
kind_only s n kind.Quoted (kind.Keyword j) b g h = absurd (word_quote (same_class (kind.Keyword j) kind.Quoted (take n s) h g))
kind_only s n kind.Quoted (kind.Integer v) b g h = absurd (number_quote (same_class (kind.Integer v) kind.Quoted (take n s) h g))
kind_only s n kind.Quoted kind.Float b g h = absurd (number_quote (same_class kind.Float kind.Quoted (take n s) h g))
kind_only s n kind.Quoted kind.Quoted b g h = refl
kind_only s n kind.Quoted (kind.Mark m) b g h = absurd (quote_mark (same_class kind.Quoted (kind.Mark m) (take n s) g h))
kind_only s n (kind.Mark l) kind.Name b g h = absurd (word_mark (same_class kind.Name (kind.Mark l) (take n s) h g))
kind_only s n (kind.Mark l) (kind.Keyword j) b g h = absurd (word_mark (same_class (kind.Keyword j) (kind.Mark l) (take n s) h g))
kind_only s n (kind.Mark l) (kind.Integer v) b g h = absurd (number_mark (same_class (kind.Integer v) (kind.Mark l) (take n s) h g))
kind_only s n (kind.Mark l) kind.Float b g h = absurd (number_mark (same_class kind.Float (kind.Mark l) (take n s) h g))
kind_only s n (kind.Mark l) kind.Quoted b g h = absurd (quote_mark (same_class kind.Quoted (kind.Mark l) (take n s) h g))
kind_only s n (kind.Mark l) (kind.Mark m) b g h = ap (λ x. kind.Mark x) (mark_only s n l m (front_tested s n l b g) (front_tested s n m b h))

-- ---- one longest form

same_len : (s : List ℕ) (k l : TokenKind) (m n : ℕ) → Stands s k m → Stands s l n → m ≡ n
same_len s k l m n g h =
    let up : n ≤ m = g.longest n l h.within h.spelled in
    let down : m ≤ n = h.longest m k g.within g.spelled in
    omega arith

same_kind : (s : List ℕ) (k l : TokenKind) (m n : ℕ) → Stands s k m → Stands s l n → k ≡ l
same_kind s k l m n g h =
    kind_only s m k l g.within g.spelled (subst (λ j. Spells l (take j s)) (sym (same_len s k l m n g h)) h.spelled)

-- a base without digits still has its zero in front
zero_digits : IsDigits 10 (48 ∷ [])
zero_digits = record { some = omega arith; each = AllPass-from_list_all (λ b. is_digit b 10) (48 ∷ []) refl }

plain_zero : IsInteger (48 ∷ []) (signed false 0)
plain_zero = record { magnitude = 0; is_natural = inl (record { digits = 48 ∷ []; spelled = refl; are_digits = zero_digits; value = refl }); is_signed = refl }

minus_zero : IsInteger (45 ∷ 48 ∷ []) (signed true 0)
minus_zero = record { magnitude = 0; is_natural = inl (record { digits = 48 ∷ []; spelled = refl; are_digits = zero_digits; value = refl }); is_signed = refl }

lacks_plain : (second : ℕ) (rest : List ℕ) → NothingStands (48 ∷ second ∷ rest) → ⊥
lacks_plain second rest none = none 1 (kind.Integer (signed false 0)) (omega arith) plain_zero

lacks_minus : (second : ℕ) (rest : List ℕ) → NothingStands (45 ∷ 48 ∷ second ∷ rest) → ⊥
lacks_minus second rest none = none 2 (kind.Integer (signed true 0)) (omega arith) minus_zero

lacks_zero : (s : List ℕ) (second : ℕ) (rest : List ℕ) → unsigned s ≡ 48 ∷ second ∷ rest → NothingStands s → ⊥
lacks_zero [] second rest e none = cc
lacks_zero (b ∷ t) second rest e none = elim (cases_Bool (eqb b 45)) [
  | inl minus ↦
      (let tail : t ≡ 48 ∷ second ∷ rest = rw minus at e in
      let whole : b ∷ t ≡ 45 ∷ 48 ∷ second ∷ rest = ap (λ x. x ∷ t) (eqb-true b 45 minus) ∙ ap (λ l. 45 ∷ l) tail in
      lacks_minus second rest (subst NothingStands whole none))
  | inr plain ↦
      (let whole : b ∷ t ≡ 48 ∷ second ∷ rest = rw plain at e in
      lacks_plain second rest (subst NothingStands whole none))
]

has_no : (s : List ℕ) → LacksDigits s → NothingStands s → ⊥
has_no s lacks none = elim lacks [
  | inl x ↦ lacks_zero s 120 x.rest x.spelled none
  | inr y ↦ lacks_zero s 111 y.rest y.spelled none
]

-- ---- one answer

stands_none : (s : List ℕ) (k : TokenKind) (n : ℕ) → Stands s k n → NothingStands s → ⊥
stands_none s k n g none = none n k g.within g.spelled

too_large_kind : (v : ℤ) (k : TokenKind) → kind.Integer v ≡ k → KeepsLimit k → limit < nat_abs v → ⊥
too_large_kind v k e keeps beyond = let within : nat_abs v ≤ limit = subst KeepsLimit (sym e) keeps in omega arith

token_number : (at : ℕ) (s : List ℕ) (token : Token) → IsToken at s token → LacksDigits s ⊎ IsTooLarge s → ⊥
token_number at s token g h = elim h [
  | inl lacks ↦ g.has_digits lacks
  | inr large ↦ too_large_kind large.value token.kind (same_kind s (kind.Integer large.value) token.kind large.len g.len large.stands g.stands) g.keeps_limit large.beyond
]

none_number : (s : List ℕ) → NothingStands s → LacksDigits s ⊎ IsTooLarge s → ⊥
none_number s none h = elim h [
  | inl lacks ↦ has_no s lacks none
  | inr large ↦ stands_none s (kind.Integer large.value) large.len large.stands none
]

token_of : TokenKind → ℕ → ℕ → Token
token_of k start end = record { kind = k; start = start; end = end }

token_same : (t u : Token) → t.kind ≡ u.kind → t.start ≡ u.start → t.end ≡ u.end → t ≡ u
unfolding token_of
token_same t u k s e = ap (λ x. token_of x t.start t.end) k ∙ ap (λ x. token_of u.kind x t.end) s ∙ ap (λ x. token_of u.kind u.start x) e

token_only : (at : ℕ) (s : List ℕ) (t u : Token) → IsToken at s t → IsToken at s u → t ≡ u
token_only at s t u g h =
    let len : g.len ≡ h.len = same_len s t.kind u.kind g.len h.len g.stands h.stands in
    token_same t u (same_kind s t.kind u.kind g.len h.len g.stands h.stands) (g.starts ∙ sym h.starts)
    (g.ends ∙ ap (λ n. at + n) len ∙ sym h.ends)

pub says_only : (at : ℕ) (s : List ℕ) (a b : Result Token TokenRefusal) → Says at s a → Says at s b → a ≡ b
says_only at s (Ok t) (Ok u) g h = ap (λ x. Ok x) (token_only at s t u g h)
says_only at s (Ok t) (Err (BadByte q)) g h = absurd (stands_none s t.kind g.len g.stands h.2)
says_only at s (Ok t) (Err (Number q)) g h = absurd (token_number at s t g h.1)
says_only at s (Ok t) (Err (OpenString q)) g h = absurd (stands_none s t.kind g.len g.stands h.2)
says_only at s (Err (BadByte p)) (Ok u) g h = absurd (stands_none s u.kind h.len h.stands g.2)
says_only at s (Err (BadByte p)) (Err (BadByte q)) g h = ap (λ x. Err (BadByte x)) (g.0 ∙ sym h.0)
says_only at s (Err (BadByte p)) (Err (Number q)) g h = absurd (none_number s g.2 h.1)
says_only at s (Err (BadByte p)) (Err (OpenString q)) g h = absurd (g.1 h.1)
says_only at s (Err (Number p)) (Ok u) g h = absurd (token_number at s u h g.1)
says_only at s (Err (Number p)) (Err (BadByte q)) g h = absurd (none_number s h.2 g.1)
says_only at s (Err (Number p)) (Err (Number q)) g h = ap (λ x. Err (Number x)) (g.0 ∙ sym h.0)
says_only at s (Err (Number p)) (Err (OpenString q)) g h = absurd (none_number s h.2 g.1)
says_only at s (Err (OpenString p)) (Ok u) g h = absurd (stands_none s u.kind h.len h.stands g.2)
says_only at s (Err (OpenString p)) (Err (BadByte q)) g h = absurd (h.1 g.1)
says_only at s (Err (OpenString p)) (Err (Number q)) g h = absurd (none_number s g.2 h.1)
says_only at s (Err (OpenString p)) (Err (OpenString q)) g h = ap (λ x. Err (OpenString x)) (g.0 ∙ sym h.0)

-- ---- what comes next

at_end : (start : ℕ) (text : List ℕ) → start ≡ length text → start < length text → ⊥
at_end start text e h = omega arith

says_at_only : (start : ℕ) (text : List ℕ) (a b : Result (Option Token) TokenRefusal) → SaysAt start text a → SaysAt start text b → a ≡ b
says_at_only start text (Ok None) (Ok None) g h = refl
says_at_only start text (Ok None) (Ok (Some u)) g h = absurd (at_end start text g h.0)
says_at_only start text (Ok None) (Err q) g h = absurd (at_end start text g h.0)
says_at_only start text (Ok (Some t)) (Ok None) g h = absurd (at_end start text h g.0)
says_at_only start text (Ok (Some t)) (Ok (Some u)) g h = ap found (says_only start (drop start text) (Ok t) (Ok u) g.1 h.1)
says_at_only start text (Ok (Some t)) (Err q) g h = ap found (says_only start (drop start text) (Ok t) (Err q) g.1 h.1)
says_at_only start text (Err p) (Ok None) g h = absurd (at_end start text h g.0)
says_at_only start text (Err p) (Ok (Some u)) g h = ap found (says_only start (drop start text) (Err p) (Ok u) g.1 h.1)
says_at_only start text (Err p) (Err q) g h = ap found (says_only start (drop start text) (Err p) (Err q) g.1 h.1)

gap_reaches : (text : List ℕ) (at m n : ℕ) → EndsGap text at m → EndsGap text at n → n ≤ m
gap_reaches text at m n g h =
    let order : at ≤ n = h.order in
    let within : n ≤ length text = h.within in
    let reached : at + (n - at) ≤ m = g.longest (n - at) (omega arith) h.is_gap in
    omega arith

-- the table has one answer
pub next_only : (r : Reading) (a b : Result (Option Token) TokenRefusal) → IsNext r a → IsNext r b → a ≡ b
next_only r a b g h =
    let up : h.start ≤ g.start = gap_reaches r.text r.at g.start h.start g.ends_gap h.ends_gap in
    let down : g.start ≤ h.start = gap_reaches r.text r.at h.start g.start h.ends_gap g.ends_gap in
    let same : h.start ≡ g.start = omega arith in
    says_at_only g.start r.text a b g.says (subst (λ n. SaysAt n r.text b) same h.says)
