-- Sets, types, elements and arguments in front of a text.
use Rattle.std.proofs.Common.{◌≡◌, ℕ, true, false, List, [], ◌∷◌, ◌++◌, map, Option, None, refl, sym, subst, append_assoc}
use Rattle.std.specs.Prelude.{ℤ}
use Rattle.dp_base.specs.Lists.{Each}
use Rattle.dp_grammar.specs.Brackets.{Plain, Opens, Closes, spell_inside}
use Rattle.dp_grammar.specs.Leaf.{tested_mark}
use Rattle.dp_grammar.specs.Listed.{Listing, listed}
use Rattle.fz_token.specs.declared.Keyword.TheVariants as key
use Rattle.fz_model.specs.Constraints.{argument, arg_word}
use Rattle.fz_model.specs.Context.{BasicText, Context}
use Rattle.fz_model.specs.Items.{IntText, array_literal, basic, basic_word}
use Rattle.fz_model.specs.Literals.{integer, numbers, set_literal, var_type}
use Rattle.fz_model.specs.Marks.{is_close, is_stop, closes}
use Rattle.fz_model.specs.Words.{Round, Square, Curly, Comma, DoubleDot, IsSpelled, Number, Stop, Word, bracketing}
use Rattle.fz_model.specs.declared.fault.Fault.{Fault}
use Rattle.fz_model.specs.declared.kinds.ArgKind.{ArgKind}
use Rattle.fz_model.specs.declared.model.Basic.{Basic}
use Rattle.fz_model.specs.declared.model.Basic.TheVariants as basics
use Rattle.fz_model.specs.declared.model.Expr.{Expr}
use Rattle.fz_model.specs.declared.model.Expr.TheVariants as expr
use Rattle.fz_model.specs.declared.model.Item.{Item}
use Rattle.fz_model.specs.declared.model.SetText.{SetText}
use Rattle.fz_model.specs.declared.model.SetText.TheVariants as set
use Rattle.fz_model.specs.declared.model.VarType.{VarType}
use Rattle.fz_model.specs.declared.model.VarType.TheVariants as type
use Rattle.fz_print.specs.Canonical.{arg_text_of, arg_words, basic_words, further_inside, number_words, ranges_inside, set_words, type_words}
use Rattle.fz_print.specs.Printed.{basic_text, elements_text, expr_text, further_text, integer_text, list_text, numbers_text, range_text, set_text, type_text}
use Rattle.fz_print.proofs.Lexemes.{lexes_close_curly, lexes_close_round, lexes_close_square, lexes_comma, lexes_key, lexes_open_curly, lexes_open_square}
use Rattle.fz_print.proofs.Lexes.{Lexes, is_dotted}
use Rattle.fz_print.proofs.Lists.{IsPrinted, lexes_basic, lexes_number, lexes_range, listed_lexes}
use Rattle.fz_print.proofs.Numerals.{EndsNumber}

-- ---- numbers and sets

abbrev numbers_listing : (List IntText → ℤ → Option Fault) → Listing Word Fault IntText
numbers_listing test = record {
  is_separator = is_stop Comma;
  separator = Plain (Stop Comma);
  is_close = is_close Curly;
  item = λ kept. integer (test kept);
  close = λ kept. closes Curly;
}

numbers_printed : (test : List IntText → ℤ → Option Fault) → IsPrinted (numbers_listing test) number_words integer_text 125
numbers_printed test = record {
  separator = refl;
  item = λ kept v s ws spelled ends plain h. lexes_number v s ws spelled.0 ends plain h;
  closes = λ kept s ws h. lexes_close_curly s ws h;
  ends = λ s. (refl, refl);
  undotted = λ kept ws. refl;
}

pub lexes_numbers : (test : List IntText → ℤ → Option Fault) (ns : List ℤ) (s : List ℕ) (ws : List Word) → Each IsSpelled ((numbers test).spell (map number_words ns)) → Lexes s ws
    → Lexes (numbers_text ns ++ s) ((numbers test).spell (map number_words ns) ++ ws)
lexes_numbers test ns s ws spelled h =
    let l = (listed (numbers_listing test)).spell (map number_words ns) in
    subst (λ t. Lexes (123 ∷ t) (Opens Curly ∷ (l ++ ws))) (sym (append_assoc (list_text integer_text ns) (125 ∷ []) s))
    (lexes_open_curly (list_text integer_text ns ++ 125 ∷ s) (l ++ ws) (listed_lexes (numbers_listing test) number_words integer_text 125 (numbers_printed test) ns s ws spelled.1 h))

pub lexes_set : (test : List IntText → ℤ → Option Fault) (bound : ℤ → Option Fault) (x : SetText) (s : List ℕ) (ws : List Word)
    → Each IsSpelled ((set_literal test bound).spell (set_words x)) → EndsNumber s → is_dotted ws ≡ false → Lexes s ws
    → Lexes (set_text x ++ s) ((set_literal test bound).spell (set_words x) ++ ws)
lexes_set test bound (set.List ns) s ws spelled ends plain h = lexes_numbers test ns s ws spelled h
lexes_set test bound (set.Range a b) s ws spelled ends plain h = lexes_range a b s ws spelled.0 spelled.1.1.0 ends plain h

pub lexes_type : (test : List IntText → ℤ → Option Fault) (bound : ℤ → Option Fault) (x : VarType) (s : List ℕ) (ws : List Word)
    → Each IsSpelled ((var_type test bound).spell (type_words x)) → EndsNumber s → is_dotted ws ≡ false → Lexes s ws
    → Lexes (type_text x ++ s) ((var_type test bound).spell (type_words x) ++ ws)
lexes_type test bound type.Bool s ws spelled ends plain h = lexes_key key.Bool s ws ends.0 h
lexes_type test bound type.Int s ws spelled ends plain h = lexes_key key.Int s ws ends.0 h
lexes_type test bound (type.Range a b) s ws spelled ends plain h = lexes_range a b s ws spelled.0 spelled.1.1.0 ends plain h
lexes_type test bound (type.List ns) s ws spelled ends plain h = lexes_numbers test ns s ws spelled h

-- ---- elements

abbrev elements_listing : (List BasicText → BasicText → Option Fault) → (List BasicText → Option Fault) → Listing Word Fault BasicText
elements_listing element close = record {
  is_separator = is_stop Comma;
  separator = Plain (Stop Comma);
  is_close = is_close Square;
  item = λ kept. basic (element kept);
  close = λ kept. tested_mark (is_close Square) (Closes Square) (close kept);
}

elements_printed : (items : List Item) (element : List BasicText → BasicText → Option Fault) (close : List BasicText → Option Fault)
    → IsPrinted (elements_listing element close) (basic_words items) (basic_text items) 93
elements_printed items element close = record {
  separator = refl;
  item = λ kept b s ws spelled ends plain h. lexes_basic items b s ws spelled.0 ends plain h;
  closes = λ kept s ws h. lexes_close_square s ws h;
  ends = λ s. (refl, refl);
  undotted = λ kept ws. refl;
}

pub lexes_elements : (items : List Item) (element : List BasicText → BasicText → Option Fault) (close : List BasicText → Option Fault) (es : List Basic) (s : List ℕ) (ws : List Word)
    → Each IsSpelled ((array_literal element close).spell (map (basic_words items) es)) → Lexes s ws
    → Lexes (elements_text items es ++ s) ((array_literal element close).spell (map (basic_words items) es) ++ ws)
lexes_elements items element close es s ws spelled h =
    let l = (listed (elements_listing element close)).spell (map (basic_words items) es) in
    subst (λ t. Lexes (91 ∷ t) (Opens Square ∷ (l ++ ws))) (sym (append_assoc (list_text (basic_text items) es) (93 ∷ []) s))
    (lexes_open_square (list_text (basic_text items) es ++ 93 ∷ s) (l ++ ws)
    (listed_lexes (elements_listing element close) (basic_words items) (basic_text items) 93 (elements_printed items element close) es s ws spelled.1 h))

-- ---- arguments

same_word : (items : List Item) (b : Basic) → basic_word (basic_words items b) ≡ arg_word (arg_text_of items b)
same_word items (basics.Bool true) = refl
same_word items (basics.Bool false) = refl
same_word items (basics.Int v) = refl
same_word items (basics.Item place) = refl

pub lexes_argument : (items : List Item) (context : Context) (wanted : Option ArgKind) (e : Expr) (s : List ℕ) (ws : List Word)
    → Each IsSpelled ((argument context wanted).spell (arg_words items e)) → EndsNumber s → is_dotted ws ≡ false → Lexes s ws
    → Lexes (expr_text items e ++ s) ((argument context wanted).spell (arg_words items e) ++ ws)
lexes_argument items context wanted (expr.Basic b) s ws spelled ends plain h =
    subst (λ w. Lexes (basic_text items b ++ s) (w ∷ ws)) (same_word items b)
    (lexes_basic items b s ws (subst IsSpelled (sym (same_word items b)) spelled.0) ends plain h)
lexes_argument items context wanted (expr.Set (set.List ns)) s ws spelled ends plain h = lexes_numbers (λ kept value. None) ns s ws spelled h
lexes_argument items context wanted (expr.Set (set.Range a b)) s ws spelled ends plain h = lexes_range a b s ws spelled.0 spelled.1.1.0 ends plain h
lexes_argument items context wanted (expr.Array es) s ws spelled ends plain h = lexes_elements items (λ kept text. None) (λ kept. None) es s ws spelled h

-- ---- the ranges of an array to be printed

ranges_end : (rs : List (ℤ × ℤ)) (s : List ℕ) → EndsNumber (further_text (λ r. range_text r.0 r.1) rs ++ 93 ∷ s)
ranges_end [] s = (refl, refl)
ranges_end (r ∷ rs) s = (refl, refl)

ranges_undotted : (rs : List (ℤ × ℤ)) (ws : List Word) → is_dotted (spell_inside bracketing (Square ∷ Round ∷ []) (further_inside rs) ++ ws) ≡ false
ranges_undotted [] ws = refl
ranges_undotted (r ∷ rs) ws = refl

further_ranges : (rs : List (ℤ × ℤ)) (s : List ℕ) (ws : List Word) → Each IsSpelled (spell_inside bracketing (Square ∷ Round ∷ []) (further_inside rs)) → Lexes s ws
    → Lexes (further_text (λ r. range_text r.0 r.1) rs ++ 93 ∷ 41 ∷ s) (spell_inside bracketing (Square ∷ Round ∷ []) (further_inside rs) ++ ws)
further_ranges [] s ws spelled h = lexes_close_square (41 ∷ s) (Closes Round ∷ ws) (lexes_close_round s ws h)
further_ranges (r ∷ rs) s ws spelled h =
    let tail = further_text (λ r. range_text r.0 r.1) rs ++ 93 ∷ 41 ∷ s in
    let rest = spell_inside bracketing (Square ∷ Round ∷ []) (further_inside rs) ++ ws in
    subst (λ t. Lexes (44 ∷ t) (Plain (Stop Comma) ∷ Plain (Number r.0 true) ∷ Plain (Stop DoubleDot) ∷ Plain (Number r.1 false) ∷ rest))
    (sym (append_assoc (range_text r.0 r.1) (further_text (λ r. range_text r.0 r.1) rs) (93 ∷ 41 ∷ s)))
    (lexes_comma (range_text r.0 r.1 ++ tail) (Plain (Number r.0 true) ∷ Plain (Stop DoubleDot) ∷ Plain (Number r.1 false) ∷ rest)
    (lexes_range r.0 r.1 tail rest spelled.1.0 spelled.1.1.1.0 (ranges_end rs (41 ∷ s)) (ranges_undotted rs ws) (further_ranges rs s ws spelled.1.1.1.1 h)))

pub lexes_ranges : (rs : List (ℤ × ℤ)) (s : List ℕ) (ws : List Word) → Each IsSpelled (spell_inside bracketing (Square ∷ Round ∷ []) (ranges_inside rs)) → Lexes s ws
    → Lexes (list_text (λ r. range_text r.0 r.1) rs ++ 93 ∷ 41 ∷ s) (spell_inside bracketing (Square ∷ Round ∷ []) (ranges_inside rs) ++ ws)
lexes_ranges [] s ws spelled h = lexes_close_square (41 ∷ s) (Closes Round ∷ ws) (lexes_close_round s ws h)
lexes_ranges (r ∷ rs) s ws spelled h =
    let tail = further_text (λ r. range_text r.0 r.1) rs ++ 93 ∷ 41 ∷ s in
    let rest = spell_inside bracketing (Square ∷ Round ∷ []) (further_inside rs) ++ ws in
    subst (λ t. Lexes t (Plain (Number r.0 true) ∷ Plain (Stop DoubleDot) ∷ Plain (Number r.1 false) ∷ rest))
    (sym (append_assoc (range_text r.0 r.1) (further_text (λ r. range_text r.0 r.1) rs) (93 ∷ 41 ∷ s)))
    (lexes_range r.0 r.1 tail rest spelled.0 spelled.1.1.0 (ranges_end rs (41 ∷ s)) (ranges_undotted rs ws) (further_ranges rs s ws spelled.1.1.1 h))
