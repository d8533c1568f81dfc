-- Each mark is one word and no other.
use Rattle.std.proofs.Common.{◌≡◌, true, List, [], ◌∷◌, get_or, refl, sym, ap, ◌∙◌, eq-eqb}
use Rattle.std.proofs.lemmas.Bool.{eqb-true}
use Rattle.fz_token.specs.declared.Keyword.{Keyword}
use Rattle.fz_token.specs.declared.Keyword.TheVariants as key
use Rattle.dp_grammar.specs.Brackets.{Plain, Opens, Closes, IsBracketing}
use Rattle.dp_grammar.specs.Grammar.{IsLawful}
use Rattle.dp_grammar.specs.Leaf.{IsOnly}
use Rattle.dp_grammar.proofs.Leaves.{mark_lawful}
use Rattle.fz_model.specs.Marks.{key_code, point_code, is_key, is_stop, is_open, is_close, keyword, stop, opens, closes}
use Rattle.fz_model.specs.Words.{Bracket, Round, Square, Curly, Point, Comma, Semicolon, Colon, DoubleColon, Equals, DoubleDot, Word, Named, Key, Number, Float, Quoted, Stop, bracket_code, bracketing}

-- ---- no two have one code

abbrev all_keys : List Keyword
all_keys = key.Array ∷ key.Bool ∷ key.Constraint ∷ key.False ∷ key.Float ∷ key.Int ∷ key.Maximize ∷ key.Minimize ∷ key.Of ∷ key.Predicate ∷ key.Satisfy ∷ key.Set ∷ key.Solve ∷ key.True ∷ key.Var ∷ []

key_at-code : (k : Keyword) → get_or all_keys (key_code k) key.Array ≡ k
key_at-code key.Array = refl
key_at-code key.Bool = refl
key_at-code key.Constraint = refl
key_at-code key.False = refl
key_at-code key.Float = refl
key_at-code key.Int = refl
key_at-code key.Maximize = refl
key_at-code key.Minimize = refl
key_at-code key.Of = refl
key_at-code key.Predicate = refl
key_at-code key.Satisfy = refl
key_at-code key.Set = refl
key_at-code key.Solve = refl
key_at-code key.True = refl
key_at-code key.Var = refl

same_key : (j k : Keyword) → key_code j ≡ key_code k → k ≡ j
same_key j k e = sym (key_at-code k) ∙ ap (λ n. get_or all_keys n key.Array) (sym e) ∙ key_at-code j

abbrev all_points : List Point
all_points = Comma ∷ Semicolon ∷ Colon ∷ DoubleColon ∷ Equals ∷ DoubleDot ∷ []

point_at-code : (p : Point) → get_or all_points (point_code p) Comma ≡ p
point_at-code Comma = refl
point_at-code Semicolon = refl
point_at-code Colon = refl
point_at-code DoubleColon = refl
point_at-code Equals = refl
point_at-code DoubleDot = refl

same_point : (p q : Point) → point_code p ≡ point_code q → q ≡ p
same_point p q e = sym (point_at-code q) ∙ ap (λ n. get_or all_points n Comma) (sym e) ∙ point_at-code p

abbrev all_brackets : List Bracket
all_brackets = Round ∷ Square ∷ Curly ∷ []

bracket_at-code : (b : Bracket) → get_or all_brackets (bracket_code b) Round ≡ b
bracket_at-code Round = refl
bracket_at-code Square = refl
bracket_at-code Curly = refl

pub same_bracket : (a b : Bracket) → bracket_code a ≡ bracket_code b → b ≡ a
same_bracket a b e = sym (bracket_at-code b) ∙ ap (λ n. get_or all_brackets n Round) (sym e) ∙ bracket_at-code a

-- ---- one word

only_key : (k : Keyword) (w : Word) → is_key k w ≡ true → Plain (Key k) ≡ w
only_key k (Plain (Key j)) e = ap (λ i. Plain (Key i)) (same_key j k (eqb-true (key_code j) (key_code k) e))
only_key k (Plain (Named bytes)) e = absurd cc
only_key k (Plain (Number value dotted)) e = absurd cc
only_key k (Plain Float) e = absurd cc
only_key k (Plain Quoted) e = absurd cc
only_key k (Plain (Stop p)) e = absurd cc
only_key k (Opens b) e = absurd cc
only_key k (Closes b) e = absurd cc

only_stop : (p : Point) (w : Word) → is_stop p w ≡ true → Plain (Stop p) ≡ w
only_stop p (Plain (Stop q)) e = ap (λ r. Plain (Stop r)) (same_point q p (eqb-true (point_code q) (point_code p) e))
only_stop p (Plain (Named bytes)) e = absurd cc
only_stop p (Plain (Key k)) e = absurd cc
only_stop p (Plain (Number value dotted)) e = absurd cc
only_stop p (Plain Float) e = absurd cc
only_stop p (Plain Quoted) e = absurd cc
only_stop p (Opens b) e = absurd cc
only_stop p (Closes b) e = absurd cc

only_open : (b : Bracket) (w : Word) → is_open b w ≡ true → Opens b ≡ w
only_open b (Opens a) e = ap (λ i. Opens i) (same_bracket a b (eqb-true (bracket_code a) (bracket_code b) e))
only_open b (Plain p) e = absurd cc
only_open b (Closes a) e = absurd cc

only_close : (b : Bracket) (w : Word) → is_close b w ≡ true → Closes b ≡ w
only_close b (Closes a) e = ap (λ i. Closes i) (same_bracket a b (eqb-true (bracket_code a) (bracket_code b) e))
only_close b (Plain p) e = absurd cc
only_close b (Opens a) e = absurd cc

pub key_is_only : (k : Keyword) → IsOnly (is_key k) (Plain (Key k))
key_is_only k = record { itself = eq-eqb (key_code k) (key_code k) refl; no_other = only_key k }

pub stop_is_only : (p : Point) → IsOnly (is_stop p) (Plain (Stop p))
stop_is_only p = record { itself = eq-eqb (point_code p) (point_code p) refl; no_other = only_stop p }

pub open_is_only : (b : Bracket) → IsOnly (is_open b) (Opens b)
open_is_only b = record { itself = eq-eqb (bracket_code b) (bracket_code b) refl; no_other = only_open b }

pub close_is_only : (b : Bracket) → IsOnly (is_close b) (Closes b)
close_is_only b = record { itself = eq-eqb (bracket_code b) (bracket_code b) refl; no_other = only_close b }

-- ---- lawful

pub keyword_lawful : (k : Keyword) → IsLawful (keyword k)
keyword_lawful k = mark_lawful (is_key k) (Plain (Key k)) (key_is_only k)

pub stop_lawful : (p : Point) → IsLawful (stop p)
stop_lawful p = mark_lawful (is_stop p) (Plain (Stop p)) (stop_is_only p)

pub opens_lawful : (b : Bracket) → IsLawful (opens b)
opens_lawful b = mark_lawful (is_open b) (Opens b) (open_is_only b)

pub closes_lawful : (b : Bracket) → IsLawful (closes b)
closes_lawful b = mark_lawful (is_close b) (Closes b) (close_is_only b)

pub is_bracketing : IsBracketing bracketing
is_bracketing = record {
  class_is = λ c. refl;
  token_is = λ t. refl;
  same_itself = λ b. eq-eqb (bracket_code b) (bracket_code b) refl;
  same_is = λ a b e. sym (same_bracket a b (eqb-true (bracket_code a) (bracket_code b) e));
}
