-- Literals, ranges, and lists of things with commas between them, in front of a text.
use Rattle.std.proofs.Common.{◌≡◌, ℕ, ◌≤◌, true, false, List, [], ◌∷◌, ◌++◌, map, refl, sym, ◌∙◌, ap, subst, append_assoc}
use Rattle.std.specs.Prelude.{ℤ, nat_abs}
use Rattle.dp_base.specs.Lists.{Each}
use Rattle.dp_base.proofs.Lists.{Each-append_parts}
use Rattle.dp_grammar.specs.Brackets.{Plain}
use Rattle.dp_grammar.specs.Choice.{either}
use Rattle.dp_grammar.specs.Listed.{Listing, further, listed}
use Rattle.dp_grammar.specs.Many.{spell_behind}
use Rattle.fz_token.specs.Number.{limit}
use Rattle.fz_token.specs.declared.Keyword.TheVariants as key
use Rattle.fz_model.specs.Items.{basic_word}
use Rattle.fz_model.specs.Marks.{is_stop}
use Rattle.fz_model.specs.Words.{Comma, DoubleDot, IsSpelled, Number, Stop, Word}
use Rattle.fz_model.specs.declared.fault.Fault.{Fault}
use Rattle.fz_model.specs.declared.model.Basic.{Basic}
use Rattle.fz_model.specs.declared.model.Basic.TheVariants as basic
use Rattle.fz_model.specs.declared.model.Item.{Item}
use Rattle.fz_print.specs.Canonical.{basic_words}
use Rattle.fz_print.specs.Printed.{basic_text, further_text, integer_text, list_text, range_text}
use Rattle.fz_print.proofs.Lexemes.{lexes_comma, lexes_double_dot, lexes_key, lexes_name}
use Rattle.fz_print.proofs.Lexes.{Lexes, is_dotted}
use Rattle.fz_print.proofs.Numerals.{EndsNumber, lexes_integer}

-- the same text and the same words
pub lexes_as : (s t : List ℕ) (us ws : List Word) → s ≡ t → us ≡ ws → Lexes s us → Lexes t ws
lexes_as s t us ws e f h = subst (λ u. Lexes u ws) e (subst (λ w. Lexes s w) f h)

-- ---- literals

pub lexes_number : (v : ℤ) (s : List ℕ) (ws : List Word) → nat_abs v ≤ limit → EndsNumber s → is_dotted ws ≡ false → Lexes s ws → Lexes (integer_text v ++ s) (Plain (Number v false) ∷ ws)
lexes_number v s ws small ends plain h = subst (λ d. Lexes (integer_text v ++ s) (Plain (Number v d) ∷ ws)) plain (lexes_integer v s ws small ends h)

pub lexes_range : (a b : ℤ) (s : List ℕ) (ws : List Word) → nat_abs a ≤ limit → nat_abs b ≤ limit → EndsNumber s → is_dotted ws ≡ false → Lexes s ws
    → Lexes (range_text a b ++ s) (Plain (Number a true) ∷ Plain (Stop DoubleDot) ∷ Plain (Number b false) ∷ ws)
lexes_range a b s ws first last ends plain h =
    let e : integer_text a ++ (46 ∷ 46 ∷ (integer_text b ++ s)) ≡ range_text a b ++ s = simp append_assoc refl in
    subst (λ t. Lexes t (Plain (Number a true) ∷ Plain (Stop DoubleDot) ∷ Plain (Number b false) ∷ ws)) e
    (lexes_integer a (46 ∷ 46 ∷ (integer_text b ++ s)) (Plain (Stop DoubleDot) ∷ Plain (Number b false) ∷ ws) first (refl, refl)
    (lexes_double_dot (integer_text b ++ s) (Plain (Number b false) ∷ ws) (lexes_number b s ws last ends plain h)))

pub lexes_basic : (items : List Item) (b : Basic) (s : List ℕ) (ws : List Word) → IsSpelled (basic_word (basic_words items b)) → EndsNumber s → is_dotted ws ≡ false → Lexes s ws
    → Lexes (basic_text items b ++ s) (basic_word (basic_words items b) ∷ ws)
lexes_basic items (basic.Bool true) s ws spelled ends plain h = lexes_key key.True s ws ends.0 h
lexes_basic items (basic.Bool false) s ws spelled ends plain h = lexes_key key.False s ws ends.0 h
lexes_basic items (basic.Int v) s ws spelled ends plain h = lexes_number v s ws spelled ends plain h
lexes_basic items (basic.Item place) s ws spelled ends plain h = lexes_name _ s ws spelled ends.0 h

-- ---- lists

-- each item of a list, and the close, are seen in front of a text
pub record IsPrinted {A X : Type 0} (l : Listing Word Fault X) (value : A → X) (text : A → List ℕ) (close : ℕ) : Type 0 where
  pub separator : l.separator ≡ Plain (Stop Comma)
  pub item : (kept : List X) (x : A) (s : List ℕ) (ws : List Word) → Each IsSpelled ((l.item kept).spell (value x)) → EndsNumber s → is_dotted ws ≡ false → Lexes s ws
      → Lexes (text x ++ s) ((l.item kept).spell (value x) ++ ws)
  pub closes : (kept : List X) (s : List ℕ) (ws : List Word) → Lexes s ws → Lexes (close ∷ s) ((l.close kept).spell tt ++ ws)
  pub ends : (s : List ℕ) → EndsNumber (close ∷ s)
  pub undotted : (kept : List X) (ws : List Word) → is_dotted ((l.close kept).spell tt ++ ws) ≡ false

module _ {A X : Type 0} (l : Listing Word Fault X) (value : A → X) (text : A → List ℕ) (close : ℕ) (p : IsPrinted l value text close) where
  -- the words behind a first item
  abbrev more : X → List X → List A → List Word
  more first kept xs = spell_behind (λ before. either (further l first).goes_on ((further l first).item before) ((further l first).close before)) kept (map value xs) tt

  further_ends : (xs : List A) (s : List ℕ) → EndsNumber (further_text text xs ++ close ∷ s)
  further_ends [] s = p.ends s
  further_ends (x ∷ xs) s = (refl, refl)

  further_undotted : (first : X) (kept : List X) (xs : List A) (ws : List Word) → is_dotted (more first kept xs ++ ws) ≡ false
  further_undotted first kept [] ws = p.undotted (first ∷ kept) ws
  further_undotted first kept (x ∷ xs) ws = ap (λ w. is_stop DoubleDot w) p.separator

  further_lexes : (first : X) (kept : List X) (xs : List A) (s : List ℕ) (ws : List Word) → Each IsSpelled (more first kept xs) → Lexes s ws
      → Lexes (further_text text xs ++ close ∷ s) (more first kept xs ++ ws)
  further_lexes first kept [] s ws spelled h = p.closes (first ∷ kept) s ws h
  further_lexes first kept (x ∷ xs) s ws spelled h =
      let it = (l.item (first ∷ kept)).spell (value x) in
      let rest = more first (kept ++ value x ∷ []) xs in
      let parts = Each-append_parts IsSpelled it rest spelled.1 in
      let tail = further_text text xs ++ close ∷ s in
      lexes_as (44 ∷ (text x ++ tail)) (further_text text (x ∷ xs) ++ close ∷ s) (Plain (Stop Comma) ∷ (it ++ (rest ++ ws))) (more first kept (x ∷ xs) ++ ws)
      (ap (λ t. 44 ∷ t) (sym (append_assoc (text x) (further_text text xs) (close ∷ s))))
      (ap (λ w. w ∷ (it ++ (rest ++ ws))) (sym p.separator) ∙ ap (λ us. l.separator ∷ us) (sym (append_assoc it rest ws)))
      (lexes_comma (text x ++ tail) (it ++ (rest ++ ws))
      (p.item (first ∷ kept) x tail (rest ++ ws) parts.0 (further_ends xs s) (further_undotted first (kept ++ value x ∷ []) xs ws)
      (further_lexes first (kept ++ value x ∷ []) xs s ws parts.1 h)))

  pub listed_lexes : (xs : List A) (s : List ℕ) (ws : List Word) → Each IsSpelled ((listed l).spell (map value xs)) → Lexes s ws
      → Lexes (list_text text xs ++ close ∷ s) ((listed l).spell (map value xs) ++ ws)
  listed_lexes [] s ws spelled h = p.closes [] s ws h
  listed_lexes (x ∷ xs) s ws spelled h =
      let it = (l.item []).spell (value x) in
      let rest = more (value x) [] xs in
      let parts = Each-append_parts IsSpelled it rest spelled in
      let tail = further_text text xs ++ close ∷ s in
      lexes_as (text x ++ tail) (list_text text (x ∷ xs) ++ close ∷ s) (it ++ (rest ++ ws)) ((listed l).spell (map value (x ∷ xs)) ++ ws)
      (sym (append_assoc (text x) (further_text text xs) (close ∷ s))) (sym (append_assoc it rest ws))
      (p.item [] x tail (rest ++ ws) parts.0 (further_ends xs s) (further_undotted (value x) [] xs ws) (further_lexes (value x) [] xs s ws parts.1 h))
