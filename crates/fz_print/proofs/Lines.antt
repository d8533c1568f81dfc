-- Items, constraints and the goal in front of a text.
use Rattle.std.proofs.Common.{◌≡◌, ℕ, ◌≤◌, Bool, true, false, if◌then◌else◌, List, [], ◌∷◌, ◌++◌, map, length, Option, Some, None, codes, refl, sym, ap, subst, append_assoc, arith}
use Rattle.std.specs.Prelude.{ℤ, pos}
use Rattle.std.proofs.lemmas.Fmt.{decimal_digit}
use Rattle.dp_base.specs.Lists.{Each}
use Rattle.dp_base.specs.Names.{is_name}
use Rattle.dp_base.proofs.Lists.{Each-append_parts}
use Rattle.dp_grammar.specs.Brackets.{Plain, Opens, Closes, spell_inside}
use Rattle.fz_token.specs.Number.{limit}
use Rattle.fz_token.specs.declared.Keyword.TheVariants as key
use Rattle.fz_model.specs.Annotations.{annotated}
use Rattle.fz_model.specs.Arrays.{constant_element, elements_end, size_test, variable_element}
use Rattle.fz_model.specs.Context.{BasicText, Context, one_more, with_elements}
use Rattle.fz_model.specs.Items.{IntText, TypeWords, array_literal, domain_test, type_elements, variable_end}
use Rattle.fz_model.specs.Limits.{beyond_small, no_test}
use Rattle.fz_model.specs.Literals.{set_literal, var_type}
use Rattle.fz_model.specs.ModelText.{item as item_production}
use Rattle.fz_model.specs.Words.{Round, Square, Colon, DoubleColon, DoubleDot, Equals, IsSpelled, Key, Named, Number, Semicolon, Stop, Word, bracketing}
use Rattle.fz_model.specs.declared.fault.Fault.{Fault}
use Rattle.fz_model.specs.declared.model.Basic.{Basic}
use Rattle.fz_model.specs.declared.model.Item.{Item}
use Rattle.fz_model.specs.declared.model.Item.TheVariants as item
use Rattle.fz_model.specs.declared.model.SetText.{SetText}
use Rattle.fz_model.specs.declared.model.VarType.{VarType}
use Rattle.fz_print.specs.Canonical.{basic_words, definition_words, item_words, marked, ranges_inside, set_words, sized, type_words}
use Rattle.fz_print.specs.Printed.{basic_text, definition_text, elements_text, integer_text, item_text, line_end, list_text, mark_text, range_text, ranges_text, set_text, size_text, truth_text, type_text}
use Rattle.fz_print.proofs.Lexemes.{EndsWord, lexes_close_square, lexes_colon, lexes_double_colon, lexes_double_dot, lexes_equals, lexes_key, lexes_line, lexes_name, lexes_open_round, lexes_open_square, lexes_semicolon, lexes_space}
use Rattle.fz_print.proofs.Lexes.{Lexes}
use Rattle.fz_print.proofs.Lists.{lexes_as, lexes_basic, lexes_number}
use Rattle.fz_print.proofs.Numerals.{EndsNumber, lexes_integer}
use Rattle.fz_print.proofs.Parts.{lexes_elements, lexes_ranges, lexes_set, lexes_type}
use Rattle.fz_print.proofs.Pieces.{flat_nine, flat_seven, flat_three}

-- ---- what items share

pub lexes_end : (s : List ℕ) (ws : List Word) → Lexes s ws → Lexes (59 ∷ 10 ∷ s) (Plain (Stop Semicolon) ∷ ws)
lexes_end s ws h = lexes_semicolon (10 ∷ s) ws (lexes_line s ws h)

lexes_equal : (s : List ℕ) (ws : List Word) → Lexes s ws → Lexes (32 ∷ 61 ∷ 32 ∷ s) (Plain (Stop Equals) ∷ ws)
lexes_equal s ws h = lexes_space (61 ∷ 32 ∷ s) (Plain (Stop Equals) ∷ ws) (lexes_equals (32 ∷ s) ws (lexes_space s ws h))

lexes_named : (n s : List ℕ) (ws : List Word) → is_name n ≡ true → EndsWord s → Lexes s ws → Lexes (58 ∷ 32 ∷ (n ++ s)) (Plain (Stop Colon) ∷ Plain (Named n) ∷ ws)
lexes_named n s ws named ends h = lexes_colon (n ++ s) (Plain (Named n) ∷ ws) (lexes_name n s ws named ends h)

lexes_truth : (v : Bool) (s : List ℕ) (ws : List Word) → EndsWord s → Lexes s ws → Lexes (truth_text v ++ s) (Plain (Key (if v then key.True else key.False)) ∷ ws)
lexes_truth true s ws ends h = lexes_key key.True s ws ends h
lexes_truth false s ws ends h = lexes_key key.False s ws ends h

-- ---- parameters

int_lexes : (c : Context) (all : List Item) (n : List ℕ) (v : ℤ) (s : List ℕ) (ws : List Word) → Each IsSpelled ((item_production c).spell (item_words all (item.Int n v))) → Lexes s ws
    → Lexes ((item_text all (item.Int n v) ++ line_end) ++ s) ((item_production c).spell (item_words all (item.Int n v)) ++ ws)
int_lexes c all n v s ws spelled h =
    let right : codes "int" ++ (58 ∷ 32 ∷ (n ++ (32 ∷ 61 ∷ 32 ∷ (integer_text v ++ 59 ∷ 10 ∷ s)))) ≡ (item_text all (item.Int n v) ++ line_end) ++ s = simp append_assoc refl in
    subst (λ t. Lexes t ((item_production c).spell (item_words all (item.Int n v)) ++ ws)) right
    (lexes_key key.Int _ _ refl (lexes_named n _ _ spelled.1.1.0 refl (lexes_equal _ _
    (lexes_number v (59 ∷ 10 ∷ s) (Plain (Stop Semicolon) ∷ ws) spelled.1.1.1.1.0 (refl, refl) refl (lexes_end s ws h)))))

bool_lexes : (c : Context) (all : List Item) (n : List ℕ) (v : Bool) (s : List ℕ) (ws : List Word) → Each IsSpelled ((item_production c).spell (item_words all (item.Bool n v))) → Lexes s ws
    → Lexes ((item_text all (item.Bool n v) ++ line_end) ++ s) ((item_production c).spell (item_words all (item.Bool n v)) ++ ws)
bool_lexes c all n v s ws spelled h =
    let right : codes "bool" ++ (58 ∷ 32 ∷ (n ++ (32 ∷ 61 ∷ 32 ∷ (truth_text v ++ 59 ∷ 10 ∷ s)))) ≡ (item_text all (item.Bool n v) ++ line_end) ++ s = simp append_assoc refl in
    subst (λ t. Lexes t ((item_production c).spell (item_words all (item.Bool n v)) ++ ws)) right
    (lexes_key key.Bool _ _ refl (lexes_named n _ _ spelled.1.1.0 refl (lexes_equal _ _
    (lexes_truth v (59 ∷ 10 ∷ s) (Plain (Stop Semicolon) ∷ ws) refl (lexes_end s ws h)))))

-- ---- variables

-- a definition, where there is one, and the end
lexes_definition : (c : Context) (all : List Item) (t : TypeWords) (value : Option Basic) (s : List ℕ) (ws : List Word)
    → Each IsSpelled ((variable_end c t).spell (definition_words all value)) → Lexes s ws
    → Lexes (definition_text all value ++ 59 ∷ 10 ∷ s) ((variable_end c t).spell (definition_words all value) ++ ws)
lexes_definition c all t None s ws spelled h = lexes_end s ws h
lexes_definition c all t (Some b) s ws spelled h =
    lexes_equal (basic_text all b ++ 59 ∷ 10 ∷ s) _
    (lexes_basic all b (59 ∷ 10 ∷ s) (Plain (Stop Semicolon) ∷ ws) spelled.1.0 (refl, refl) refl (lexes_end s ws h))

definition_ends : (all : List Item) (value : Option Basic) (s : List ℕ) → EndsWord (definition_text all value ++ 59 ∷ 10 ∷ s)
definition_ends all None s = refl
definition_ends all (Some b) s = refl

-- the name of the mark
lexes_mark : (s : List ℕ) (ws : List Word) → EndsWord s → Lexes s ws → Lexes (codes "output_var" ++ s) (Plain (Named (codes "output_var")) ∷ ws)
lexes_mark s ws ends h = lexes_name (codes "output_var") s ws refl ends h

-- the mark of a variable, its definition and the end
lexes_marked : (c : Context) (all : List Item) (t : TypeWords) (output : Bool) (value : Option Basic) (s : List ℕ) (ws : List Word)
    → Each IsSpelled ((annotated (λ notes. variable_end c t)).spell (marked output (definition_words all value))) → Lexes s ws
    → Lexes (mark_text output ++ (definition_text all value ++ 59 ∷ 10 ∷ s)) ((annotated (λ notes. variable_end c t)).spell (marked output (definition_words all value)) ++ ws)
lexes_marked c all t false value s ws spelled h = lexes_definition c all t value s ws spelled h
lexes_marked c all t true value s ws spelled h =
    let tail = definition_text all value ++ 59 ∷ 10 ∷ s in
    let rest = (variable_end c t).spell (definition_words all value) ++ ws in
    lexes_space (58 ∷ 58 ∷ 32 ∷ (codes "output_var" ++ tail)) (Plain (Stop DoubleColon) ∷ Plain (Named (codes "output_var")) ∷ rest)
    (lexes_double_colon (32 ∷ (codes "output_var" ++ tail)) (Plain (Named (codes "output_var")) ∷ rest)
    (lexes_space (codes "output_var" ++ tail) (Plain (Named (codes "output_var")) ∷ rest)
    (lexes_mark tail rest (definition_ends all value s) (lexes_definition c all t value s ws spelled.1.1 h))))

marked_ends : (all : List Item) (output : Bool) (value : Option Basic) (s : List ℕ) → EndsWord (mark_text output ++ (definition_text all value ++ 59 ∷ 10 ∷ s))
marked_ends all true value s = refl
marked_ends all false value s = definition_ends all value s

var_lexes : (c : Context) (all : List Item) (n : List ℕ) (t : VarType) (output : Bool) (value : Option Basic) (var : ℕ) (s : List ℕ) (ws : List Word)
    → Each IsSpelled ((item_production c).spell (item_words all (item.Var n t output value var))) → Lexes s ws
    → Lexes ((item_text all (item.Var n t output value var) ++ line_end) ++ s) ((item_production c).spell (item_words all (item.Var n t output value var)) ++ ws)
var_lexes c all n t output value var s ws spelled h =
    let tw = type_words t in
    let typed = (var_type (domain_test c) beyond_small).spell tw in
    let notes = (annotated (λ notes. variable_end c tw)).spell (marked output (definition_words all value)) in
    let tail = mark_text output ++ (definition_text all value ++ 59 ∷ 10 ∷ s) in
    let parts = Each-append_parts IsSpelled typed (Plain (Stop Colon) ∷ Plain (Named n) ∷ notes) spelled.1 in
    lexes_as (codes "var" ++ (32 ∷ (type_text t ++ (58 ∷ 32 ∷ (n ++ tail))))) _ (Plain (Key key.Var) ∷ (typed ++ (Plain (Stop Colon) ∷ Plain (Named n) ∷ (notes ++ ws)))) _
    (simp append_assoc refl)
    (ap (λ us. Plain (Key key.Var) ∷ us) (sym (append_assoc typed (Plain (Stop Colon) ∷ Plain (Named n) ∷ notes) ws)))
    (lexes_key key.Var _ _ refl (lexes_space _ _
    (lexes_type (domain_test c) beyond_small t (58 ∷ 32 ∷ (n ++ tail)) (Plain (Stop Colon) ∷ Plain (Named n) ∷ (notes ++ ws)) parts.0 (refl, refl) refl
    (lexes_named n tail (notes ++ ws) parts.1.1.0 (marked_ends all output value s) (lexes_marked c all tw output value s ws parts.1.1.1 h)))))

-- ---- arrays

lexes_one : (s : List ℕ) (ws : List Word) → EndsNumber s → Lexes s (Plain (Stop DoubleDot) ∷ ws) → Lexes (49 ∷ s) (Plain (Number (pos 1) true) ∷ Plain (Stop DoubleDot) ∷ ws)
lexes_one s ws ends h =
    subst (λ t. Lexes (t ++ s) (Plain (Number (pos 1) true) ∷ Plain (Stop DoubleDot) ∷ ws)) (decimal_digit 1 (omega arith))
    (lexes_integer (pos 1) s (Plain (Stop DoubleDot) ∷ ws) (omega arith) ends h)

-- what stands in front of an array's type
lexes_size : (n : ℕ) (s : List ℕ) (ws : List Word) → n ≤ limit → Lexes s ws
    → Lexes (size_text n ++ s) (Plain (Key key.Array) ∷ Opens Square ∷ Plain (Number (pos 1) true) ∷ Plain (Stop DoubleDot) ∷ Plain (Number (pos n) false) ∷ Closes Square ∷ Plain (Key key.Of) ∷ ws)
lexes_size n s ws small h =
    let right : codes "array" ++ (32 ∷ 91 ∷ (49 ∷ (46 ∷ 46 ∷ (integer_text (pos n) ++ (93 ∷ 32 ∷ (codes "of" ++ (32 ∷ s))))))) ≡ size_text n ++ s = simp append_assoc refl in
    subst (λ t. Lexes t (Plain (Key key.Array) ∷ Opens Square ∷ Plain (Number (pos 1) true) ∷ Plain (Stop DoubleDot) ∷ Plain (Number (pos n) false) ∷ Closes Square ∷ Plain (Key key.Of) ∷ ws)) right
    (lexes_key key.Array _ _ refl (lexes_space _ _ (lexes_open_square _ _
    (lexes_one _ _ (refl, refl) (lexes_double_dot _ _
    (lexes_number (pos n) _ (Closes Square ∷ Plain (Key key.Of) ∷ ws) small (refl, refl) refl
    (lexes_close_square _ _ (lexes_space _ _ (lexes_key key.Of _ _ refl (lexes_space s ws h))))))))))

-- the elements, and the end
lexes_ended : (all : List Item) (element : List BasicText → BasicText → Option Fault) (close : List BasicText → Option Fault) (es : List Basic) (s : List ℕ) (ws : List Word)
    → Each IsSpelled ((array_literal element close).spell (map (basic_words all) es)) → Lexes s ws
    → Lexes (32 ∷ 61 ∷ 32 ∷ (elements_text all es ++ 59 ∷ 10 ∷ s)) (Plain (Stop Equals) ∷ (((array_literal element close).spell (map (basic_words all) es) ++ Plain (Stop Semicolon) ∷ []) ++ ws))
lexes_ended all element close es s ws spelled h =
    let l = (array_literal element close).spell (map (basic_words all) es) in
    lexes_equal (elements_text all es ++ 59 ∷ 10 ∷ s) ((l ++ Plain (Stop Semicolon) ∷ []) ++ ws)
    (subst (λ us. Lexes (elements_text all es ++ 59 ∷ 10 ∷ s) us) (sym (append_assoc l (Plain (Stop Semicolon) ∷ []) ws))
    (lexes_elements all element close es (59 ∷ 10 ∷ s) (Plain (Stop Semicolon) ∷ ws) spelled (lexes_end s ws h)))

-- an array of constants
consts_lexes : (c : Context) (all : List Item) (n : List ℕ) (bools : Bool) (es : List Basic) (s : List ℕ) (ws : List Word)
    → Each IsSpelled ((item_production c).spell (item_words all (item.Consts n bools es))) → Lexes s ws
    → Lexes ((item_text all (item.Consts n bools es) ++ line_end) ++ s) ((item_production c).spell (item_words all (item.Consts n bools es)) ++ ws)
consts_lexes c all n true es s ws spelled h =
    let named = spelled.1.1.1.1.1.1.1.1.1 in
    let l = (array_literal (constant_element c true) (size_test (pos (length es), false))).spell (map (basic_words all) es) in
    let parts = Each-append_parts IsSpelled l (Plain (Stop Semicolon) ∷ []) named.1.1 in
    let right : size_text (length es) ++ (codes "bool" ++ (58 ∷ 32 ∷ (n ++ (32 ∷ 61 ∷ 32 ∷ (elements_text all es ++ 59 ∷ 10 ∷ s))))) ≡ (item_text all (item.Consts n true es) ++ line_end) ++ s =
    sym (flat_seven (size_text (length es)) (codes "bool") (codes ": ") n (codes " = ") (elements_text all es) line_end s) in
    subst (λ t. Lexes t ((item_production c).spell (item_words all (item.Consts n true es)) ++ ws)) right
    (lexes_size (length es) _ _ spelled.1.1.1.1.0 (lexes_key key.Bool _ _ refl
    (lexes_named n _ _ named.0 refl (lexes_ended all (constant_element c true) (size_test (pos (length es), false)) es s ws parts.0 h))))
consts_lexes c all n false es s ws spelled h =
    let named = spelled.1.1.1.1.1.1.1.1.1 in
    let l = (array_literal (constant_element c false) (size_test (pos (length es), false))).spell (map (basic_words all) es) in
    let parts = Each-append_parts IsSpelled l (Plain (Stop Semicolon) ∷ []) named.1.1 in
    let right : size_text (length es) ++ (codes "int" ++ (58 ∷ 32 ∷ (n ++ (32 ∷ 61 ∷ 32 ∷ (elements_text all es ++ 59 ∷ 10 ∷ s))))) ≡ (item_text all (item.Consts n false es) ++ line_end) ++ s =
    sym (flat_seven (size_text (length es)) (codes "int") (codes ": ") n (codes " = ") (elements_text all es) line_end s) in
    subst (λ t. Lexes t ((item_production c).spell (item_words all (item.Consts n false es)) ++ ws)) right
    (lexes_size (length es) _ _ spelled.1.1.1.1.0 (lexes_key key.Int _ _ refl
    (lexes_named n _ _ named.0 refl (lexes_ended all (constant_element c false) (size_test (pos (length es), false)) es s ws parts.0 h))))

-- the mark of an array, its elements and the end
lexes_sized : (c : Context) (all : List Item) (size : IntText) (t : TypeWords) (output : Option (List (ℤ × ℤ))) (es : List Basic) (s : List ℕ) (ws : List Word)
    → Each IsSpelled ((annotated (elements_end c size t)).spell (sized output (map (basic_words all) es))) → Lexes s ws
    → Lexes (ranges_text output ++ (32 ∷ 61 ∷ 32 ∷ (elements_text all es ++ 59 ∷ 10 ∷ s))) ((annotated (elements_end c size t)).spell (sized output (map (basic_words all) es)) ++ ws)
lexes_sized c all size t None es s ws spelled h =
    let l = (array_literal (variable_element c t) (size_test size)).spell (map (basic_words all) es) in
    let parts = Each-append_parts IsSpelled l (Plain (Stop Semicolon) ∷ []) spelled.1 in
    lexes_ended all (variable_element c t) (size_test size) es s ws parts.0 h
lexes_sized c all size t (Some rs) es s ws spelled h =
    let inside = spell_inside bracketing (Square ∷ Round ∷ []) (ranges_inside rs) in
    let l = (array_literal (variable_element c t) (size_test size)).spell (map (basic_words all) es) in
    let rest = Plain (Stop Equals) ∷ (l ++ Plain (Stop Semicolon) ∷ []) in
    let parts = Each-append_parts IsSpelled inside rest spelled.1.1.1.1 in
    let more = Each-append_parts IsSpelled l (Plain (Stop Semicolon) ∷ []) parts.1.1 in
    let tail = 32 ∷ 61 ∷ 32 ∷ (elements_text all es ++ 59 ∷ 10 ∷ s) in
    let right : 32 ∷ 58 ∷ 58 ∷ 32 ∷ (codes "output_array" ++ (40 ∷ 91 ∷ (list_text (λ r. range_text r.0 r.1) rs ++ (93 ∷ 41 ∷ tail)))) ≡ ranges_text (Some rs) ++ tail =
    ap (λ t. codes " :: output_array([" ++ t) (sym (flat_three (list_text (λ r. range_text r.0 r.1) rs) (codes "]") (codes ")") tail)) in
    lexes_as _ _ (Plain (Stop DoubleColon) ∷ Plain (Named (codes "output_array")) ∷ Opens Round ∷ Opens Square ∷ (inside ++ (rest ++ ws))) _ right
    (ap (λ us. Plain (Stop DoubleColon) ∷ Plain (Named (codes "output_array")) ∷ Opens Round ∷ Opens Square ∷ us) (sym (append_assoc inside rest ws)))
    (lexes_space _ _ (lexes_double_colon _ _ (lexes_space _ _
    (lexes_name (codes "output_array") _ _ refl refl (lexes_open_round _ _ (lexes_open_square _ _
    (lexes_ranges rs tail (rest ++ ws) parts.0 (lexes_ended all (variable_element c t) (size_test size) es s ws more.0 h))))))))

sized_ends : (output : Option (List (ℤ × ℤ))) (s : List ℕ) → EndsWord (ranges_text output ++ (32 ∷ s))
sized_ends None s = refl
sized_ends (Some rs) s = refl

vars_lexes : (c : Context) (all : List Item) (n : List ℕ) (t : VarType) (output : Option (List (ℤ × ℤ))) (es : List Basic) (s : List ℕ) (ws : List Word)
    → Each IsSpelled ((item_production c).spell (item_words all (item.Vars n t output es))) → Lexes s ws
    → Lexes ((item_text all (item.Vars n t output es) ++ line_end) ++ s) ((item_production c).spell (item_words all (item.Vars n t output es)) ++ ws)
vars_lexes c all n t output es s ws spelled h =
    let tw = type_words t in
    let typed = (var_type (domain_test c) beyond_small).spell tw in
    let notes = (annotated (elements_end (with_elements c (type_elements tw)) (pos (length es), false) tw)).spell (sized output (map (basic_words all) es)) in
    let tail = ranges_text output ++ (32 ∷ 61 ∷ 32 ∷ (elements_text all es ++ 59 ∷ 10 ∷ s)) in
    let parts = Each-append_parts IsSpelled typed (Plain (Stop Colon) ∷ Plain (Named n) ∷ notes) spelled.1.1.1.1.1.1.1.1 in
    lexes_as (size_text (length es) ++ (codes "var" ++ (32 ∷ (type_text t ++ (58 ∷ 32 ∷ (n ++ tail)))))) _
    (Plain (Key key.Array) ∷ Opens Square ∷ Plain (Number (pos 1) true) ∷ Plain (Stop DoubleDot) ∷ Plain (Number (pos (length es)) false) ∷ Closes Square ∷ Plain (Key key.Of)
    ∷ Plain (Key key.Var) ∷ (typed ++ (Plain (Stop Colon) ∷ Plain (Named n) ∷ (notes ++ ws)))) _
    (sym (flat_nine (size_text (length es)) (codes "var ") (type_text t) (codes ": ") n (ranges_text output) (codes " = ") (elements_text all es) line_end s))
    (ap (λ us. Plain (Key key.Array) ∷ Opens Square ∷ Plain (Number (pos 1) true) ∷ Plain (Stop DoubleDot) ∷ Plain (Number (pos (length es)) false) ∷ Closes Square ∷ Plain (Key key.Of)
    ∷ Plain (Key key.Var) ∷ us) (sym (append_assoc typed (Plain (Stop Colon) ∷ Plain (Named n) ∷ notes) ws)))
    (lexes_size (length es) _ _ spelled.1.1.1.1.0 (lexes_key key.Var _ _ refl (lexes_space _ _
    (lexes_type (domain_test c) beyond_small t (58 ∷ 32 ∷ (n ++ tail)) (Plain (Stop Colon) ∷ Plain (Named n) ∷ (notes ++ ws)) parts.0 (refl, refl) refl
    (lexes_named n tail (notes ++ ws) parts.1.1.0 (sized_ends output _)
    (lexes_sized (with_elements c (type_elements tw)) all (pos (length es), false) tw output es s ws parts.1.1.1 h))))))

-- ---- sets, and any item

set_lexes : (c : Context) (all : List Item) (n : List ℕ) (x : SetText) (s : List ℕ) (ws : List Word) → Each IsSpelled ((item_production c).spell (item_words all (item.Set n x))) → Lexes s ws
    → Lexes ((item_text all (item.Set n x) ++ line_end) ++ s) ((item_production c).spell (item_words all (item.Set n x)) ++ ws)
set_lexes c all n x s ws spelled h =
    let l = (set_literal (λ kept value. one_more c (length kept)) no_test).spell (set_words x) in
    let parts = Each-append_parts IsSpelled l (Plain (Stop Semicolon) ∷ []) spelled.1.1.1.1.1.1 in
    let front : List Word → List Word = λ us. Plain (Key key.Set) ∷ Plain (Key key.Of) ∷ Plain (Key key.Int) ∷ Plain (Stop Colon) ∷ Plain (Named n) ∷ Plain (Stop Equals) ∷ us in
    lexes_as (codes "set" ++ (32 ∷ (codes "of" ++ (32 ∷ (codes "int" ++ (58 ∷ 32 ∷ (n ++ (32 ∷ 61 ∷ 32 ∷ (set_text x ++ 59 ∷ 10 ∷ s))))))))) _
    (Plain (Key key.Set) ∷ Plain (Key key.Of) ∷ Plain (Key key.Int) ∷ Plain (Stop Colon) ∷ Plain (Named n) ∷ Plain (Stop Equals) ∷ (l ++ Plain (Stop Semicolon) ∷ ws)) _
    (simp append_assoc refl) (ap front (sym (append_assoc l (Plain (Stop Semicolon) ∷ []) ws)))
    (lexes_key key.Set _ _ refl (lexes_space _ _ (lexes_key key.Of _ _ refl (lexes_space _ _ (lexes_key key.Int _ _ refl
    (lexes_named n _ _ spelled.1.1.1.1.0 refl (lexes_equal _ _
    (lexes_set (λ kept value. one_more c (length kept)) no_test x (59 ∷ 10 ∷ s) (Plain (Stop Semicolon) ∷ ws) parts.0 (refl, refl) refl (lexes_end s ws h)))))))))

-- an item and the end of its line
pub lexes_item : (c : Context) (all : List Item) (i : Item) (s : List ℕ) (ws : List Word) → Each IsSpelled ((item_production c).spell (item_words all i)) → Lexes s ws
    → Lexes ((item_text all i ++ line_end) ++ s) ((item_production c).spell (item_words all i) ++ ws)
lexes_item c all (item.Int n v) s ws spelled h = int_lexes c all n v s ws spelled h
lexes_item c all (item.Bool n v) s ws spelled h = bool_lexes c all n v s ws spelled h
lexes_item c all (item.Set n x) s ws spelled h = set_lexes c all n x s ws spelled h
lexes_item c all (item.Consts n bools es) s ws spelled h = consts_lexes c all n bools es s ws spelled h
lexes_item c all (item.Var n t output value var) s ws spelled h = var_lexes c all n t output value var s ws spelled h
lexes_item c all (item.Vars n t output es) s ws spelled h = vars_lexes c all n t output es s ws spelled h
