-- Words are what tokens stand for.
use Rattle.std.proofs.Common.{◌≡◌, ◌≢◌, ℕ, ◌+◌, ◌-◌, ◌^◌, ◌≤◌, Bool, true, false, not, ◌||◌, ◌&&◌, List, [], ◌∷◌, map, take, drop, nat_lt, inl, inr, Result, Ok, Err, refl, sym, ap, subst, ◌∙◌, arith}
use Rattle.std.specs.Prelude.{bytes_eq, nat_abs, slice_index}
use Rattle.std.specs.List.{list_all, list_any}
use Rattle.std.proofs.lemmas.Bool.{cases_Bool}
use Rattle.std.proofs.lemmas.List.{drop-drop}
use Rattle.std.proofs.lemmas.List.Sums.{list_all-from_AllPass}
use Rattle.std.proofs.lemmas.Slice.Eq.{bytes_eq-Decides}
use Rattle.dp_base.specs.Lists.{Each}
use Rattle.dp_base.specs.Names.{is_first, is_later, is_name, is_word, keywords}
use Rattle.fz_token.specs.Forms.{IsToken, IsWord, KeepsLimit, Says, Spells}
use Rattle.fz_token.specs.Gap.{gap_end}
use Rattle.fz_token.specs.Stream.{Stream, led_by, start_after, stream, stream_from, stream_step}
use Rattle.fz_token.specs.Token.{token_at}
use Rattle.fz_token.specs.Word.{all_keywords, begins_word, is_word_byte, spelling}
use Rattle.fz_token.specs.declared.Keyword.{Keyword}
use Rattle.fz_token.specs.declared.Mark.{Mark}
use Rattle.fz_token.specs.declared.Mark.TheVariants as mark
use Rattle.fz_token.specs.declared.Token.{Token}
use Rattle.fz_token.specs.declared.TokenKind.{TokenKind}
use Rattle.fz_token.specs.declared.TokenKind.TheVariants as kind
use Rattle.fz_token.specs.declared.TokenRefusal.{TokenRefusal}
use Rattle.fz_token.proofs.TokenForms.{token_says}
use Rattle.fz_model.specs.Words.{IsSpelled, begins_dotted, kind_word, mark_word, words}

-- ---- names

first_is : (b : ℕ) → begins_word b ≡ true → is_first b ≡ true
first_is b h = grind arith

later_is : (b : ℕ) → is_word_byte b ≡ true → is_later b ≡ true
later_is b h = grind arith

all_later : (w : List ℕ) → list_all is_word_byte w ≡ true → list_all is_later w ≡ true
all_later [] h = refl
all_later (b ∷ w) h = grind (arith, later_is b, all_later w)

word_is : (w : List ℕ) → begins_word (slice_index w 0) ≡ true → list_all is_word_byte w ≡ true → is_word w ≡ true
word_is [] b h = absurd cc
word_is (x ∷ w) b h = grind (arith, first_is x, later_is x, all_later w)

unlike : (w : List ℕ) (keyword : List ℕ) → w ≢ keyword → bytes_eq w keyword ≡ false
unlike w keyword h = elim (cases_Bool (bytes_eq w keyword)) [
  | inl same ↦ absurd (h ((bytes_eq-Decides w keyword).0 same))
  | inr other ↦ other
]

none_spelled : (w : List ℕ) (ks : List Keyword) → ((keyword : Keyword) → w ≢ spelling keyword) → list_any (bytes_eq w) (map spelling ks) ≡ false
none_spelled w [] h = refl
none_spelled w (k ∷ ks) h = ap (λ (b : Bool). b || list_any (bytes_eq w) (map spelling ks)) (unlike w (spelling k) (h k)) ∙ none_spelled w ks h

no_keyword : (w : List ℕ) → ((keyword : Keyword) → w ≢ spelling keyword) → list_any (bytes_eq w) keywords ≡ false
no_keyword w h = none_spelled w all_keywords h

name_is : (w : List ℕ) → IsWord w → ((keyword : Keyword) → w ≢ spelling keyword) → is_name w ≡ true
name_is w is h =
    ap (λ (b : Bool). b && not (list_any (bytes_eq w) keywords)) (word_is w is.begins (list_all-from_AllPass is_word_byte w is.goes_on)) ∙ ap (λ (b : Bool). not b) (no_keyword w h)

-- ---- tokens

-- what is asked of a word of this kind with these bytes
abbrev IsKept : TokenKind → List ℕ → Type 0
IsKept kind.Name w = is_name w ≡ true
IsKept (kind.Integer value) w = nat_abs value ≤ 10 ^ 18
IsKept _ w = Unit {0}

kept_of : (k : TokenKind) (w : List ℕ) → Spells k w → KeepsLimit k → IsKept k w
kept_of kind.Name w s l = name_is w s.0 s.1
kept_of (kind.Keyword keyword) w s l = tt
kept_of (kind.Integer value) w s l = l
kept_of kind.Float w s l = tt
kept_of kind.Quoted w s l = tt
kept_of (kind.Mark m) w s l = tt

abbrev IsKeptIn : List ℕ → Token → Type 0
IsKeptIn text token = IsKept token.kind (take (token.end - token.start) (drop token.start text))

token_kept : (text s : List ℕ) (at : ℕ) (token : Token) → s ≡ drop at text → IsToken at s token → IsKeptIn text token
token_kept text s at token e is =
    let size : token.end - token.start ≡ is.len = omega (arith, is.starts, is.ends) in
    let bytes : take is.len s ≡ take (token.end - token.start) (drop token.start text) =
    ap (λ (n : ℕ). take n s) (sym size) ∙ ap (take (token.end - token.start)) (e ∙ ap (λ (n : ℕ). drop n text) (sym is.starts)) in
    subst (IsKept token.kind) bytes (kept_of token.kind (take is.len s) is.stands.spelled is.keeps_limit)

led_kept : (text s : List ℕ) (at : ℕ) (r : Result Token TokenRefusal) (after : ℕ → Stream) → s ≡ drop at text → Says at s r → ((place : ℕ) → Each (IsKeptIn text) (after place).tokens) → Each (IsKeptIn text) (led_by r after).tokens
led_kept text s at (Ok token) after e says h = (token_kept text s at token e says, h token.end)
led_kept text s at (Err refusal) after e says h = tt

step_kept : (text s : List ℕ) (passed : Bool) (at place : ℕ) (after : ℕ → Stream) → s ≡ drop at text → ((place : ℕ) → Each (IsKeptIn text) (after place).tokens) → Each (IsKeptIn text) (stream_step passed at s place after).tokens
step_kept text s true at place after e h = h place
step_kept text s false at place after e h =
    led_kept text s at (token_at at s) (λ end. after (gap_end end false (drop (end - at) s))) e (token_says at s) (λ end. h (gap_end end false (drop (end - at) s)))

rest_is : (text : List ℕ) (at b : ℕ) (rest : List ℕ) → b ∷ rest ≡ drop at text → rest ≡ drop (at + 1) text
rest_is text at b rest e = ap (drop 1) e ∙ drop-drop 1 at text

from_kept : (text s : List ℕ) (at place : ℕ) → s ≡ drop at text → Each (IsKeptIn text) (stream_from s at place).tokens
unfolding stream_from
from_kept text [] at place e = tt
from_kept text (b ∷ rest) at place e =
    step_kept text (b ∷ rest) (nat_lt at place) at place (λ next. stream_from rest (at + 1) next) e (λ next. from_kept text rest (at + 1) next (rest_is text at b rest e))

stream_kept : (text : List ℕ) → Each (IsKeptIn text) (stream text).tokens
stream_kept text = from_kept text text 0 (start_after text 0) refl

-- ---- words

mark_spelled : (m : Mark) → IsSpelled (mark_word m)
mark_spelled mark.OpenRound = tt
mark_spelled mark.CloseRound = tt
mark_spelled mark.OpenSquare = tt
mark_spelled mark.CloseSquare = tt
mark_spelled mark.OpenCurly = tt
mark_spelled mark.CloseCurly = tt
mark_spelled mark.Comma = tt
mark_spelled mark.Semicolon = tt
mark_spelled mark.Colon = tt
mark_spelled mark.DoubleColon = tt
mark_spelled mark.Equals = tt
mark_spelled mark.DoubleDot = tt

word_spelled : (w : List ℕ) (dotted : Bool) (k : TokenKind) → IsKept k w → IsSpelled (kind_word w dotted k)
word_spelled w dotted kind.Name h = h
word_spelled w dotted (kind.Keyword keyword) h = tt
word_spelled w dotted (kind.Integer value) h = h
word_spelled w dotted kind.Float h = tt
word_spelled w dotted kind.Quoted h = tt
word_spelled w dotted (kind.Mark m) h = mark_spelled m

each_spelled : (text : List ℕ) (tokens : List Token) → Each (IsKeptIn text) tokens → Each IsSpelled (words text tokens)
each_spelled text [] h = tt
each_spelled text (token ∷ tokens) h = (word_spelled (take (token.end - token.start) (drop token.start text)) (begins_dotted tokens) token.kind h.0, each_spelled text tokens h.1)

-- the words of a text are what its tokens stand for
pub words_spelled : (text : List ℕ) → Each IsSpelled (words text (stream text).tokens)
words_spelled text = each_spelled text (stream text).tokens (stream_kept text)
