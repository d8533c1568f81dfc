-- Arrays of variables, as the code reads them.
use Rattle.std.specs.Prelude.{ℕ, ◌*◌, min, pos, ◌+ℤ◌, ◌-ℤ◌, ◌==◌, Bool, false, not, List, [], ◌∷◌, map, Option, Some, None, option_map}
use Rattle.fz_token.specs.declared.Keyword.TheVariants as key
use Rattle.dp_grammar.specs.Brackets.{Plain}
use Rattle.dp_grammar.specs.Chain.{followed, mapped, behind_mark, before_mark}
use Rattle.dp_grammar.specs.Grammar.{Reading}
use Rattle.dp_grammar.specs.Leaf.{tested_mark}
use Rattle.fz_model.specs.Arrays.{count_of, product, size_test, variable_element}
use Rattle.fz_model.specs.Context.{Context, BasicText, fresh}
use Rattle.fz_model.specs.Items as grammar
use Rattle.fz_model.specs.Items.{IntText, array_literal, domain_test}
use Rattle.fz_model.specs.Limits.{beyond_small, refuse_if}
use Rattle.fz_model.specs.Literals.{name, var_type}
use Rattle.fz_model.specs.Marks.{Production, is_stop, keyword, stop}
use Rattle.fz_model.specs.declared.fault.Fault.{Fault}
use Rattle.fz_model.specs.declared.fault.Fault.TheVariants.{Kind}
use Rattle.fz_model.specs.Words.{Colon, Equals, Semicolon, Stop, Word}
use Rattle.fz_items.specs.Notes.{notes, ranges_of}
use Rattle.fz_items.specs.Seen.{basic_text}
use Rattle.fz_items.specs.declared.text.VarsText.{VarsText}

-- how many integers a range has
abbrev pub width_of : IntText × IntText → ℕ
width_of p = count_of (p.1.0 -ℤ p.0.0 +ℤ pos 1)

-- the greatest number that the code counts to
abbrev pub most : ℕ
most = 340282366920938463463374607431768211455

-- so many times the integers of a range, or the greatest number
abbrev pub times : ℕ → IntText × IntText → ℕ
times n p = min (n * width_of p) most

-- one or more ranges, whose sizes multiply to the number of elements
abbrev pub elements_fit : ℕ → Option (List (IntText × IntText)) → Bool
elements_fit count None = false
elements_fit count (Some []) = false
elements_fit count (Some (p ∷ ranges)) = product (p ∷ ranges) == count

-- the first `output_array` counts
abbrev pub array_test : ℕ → Option (Option (List (IntText × IntText))) → Option Fault
array_test count None = None
array_test count (Some ranges) = refuse_if (not (elements_fit count ranges)) Kind

-- what was seen of the annotations
abbrev pub Shown : Type 0
Shown = Option (Option (List (IntText × IntText)))

-- '=' arraylit ';', where what was seen of the annotations is tested at the end
abbrev pub elements_shut : Context → IntText → grammar.TypeWords → Shown → Production (List BasicText)
elements_shut context size type shown =
    behind_mark (stop Equals) (before_mark (array_literal (variable_element context type) (size_test size))
    (tested_mark (is_stop Semicolon) (Plain (Stop Semicolon)) (array_test (count_of size.0) shown)))

-- the name, the ranges of the first `output_array`, and the elements
abbrev pub Shape : Type 0
Shape = List ℕ × (Shown × List BasicText)

-- ':' NAME annotations '=' arraylit ';'
abbrev pub array_behind : Context → IntText → grammar.TypeWords → List Word → Reading Word Fault Shape
array_behind context size type left =
    followed ((stop Colon).read left) (λ u left. followed ((name (fresh context)).read left) (λ bytes left.
    followed (notes left) (λ seen left. mapped (λ elements. let v : Shape = (bytes, (seen.array, elements)) in v) ((elements_shut context size type seen.array).read left))))

-- 'var' vtype
abbrev pub array_head_of : Context → List Word → Reading Word Fault grammar.TypeWords
array_head_of context left = followed ((keyword key.Var).read left) (λ u left. (var_type (domain_test context) beyond_small).read left)

-- ---- as the code keeps them

abbrev pub shape_of : VarsText → Shape
shape_of t = (t.name.now, (option_map ranges_of t.output, map basic_text t.elements.items))
