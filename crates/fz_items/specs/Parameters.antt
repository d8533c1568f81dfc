-- Items that declare constants, as the code reads them.
use Rattle.std.specs.Prelude.{ℕ, Bool, List, length}
use Rattle.fz_token.specs.declared.Keyword.TheVariants as key
use Rattle.dp_grammar.specs.Choice.{either}
use Rattle.dp_grammar.specs.Chain.{followed, mapped, before_mark}
use Rattle.dp_grammar.specs.Grammar.{Reading}
use Rattle.fz_model.specs.Arrays.{array_size, constant_element, is_bools, size_test}
use Rattle.fz_model.specs.Items.{IntText, SetWords, array_literal}
use Rattle.fz_model.specs.Limits.{no_test}
use Rattle.fz_model.specs.Context.{Context, BasicText, fresh, one_more}
use Rattle.fz_model.specs.Literals.{name, set_literal}
use Rattle.fz_model.specs.Marks.{Production, is_key, keyword, stop}
use Rattle.fz_model.specs.declared.fault.Fault.{Fault}
use Rattle.fz_model.specs.Words.{Colon, Equals, Semicolon, Word}
use Rattle.fz_items.specs.Notes.{notes}

-- ':' NAME annotations '='
abbrev pub name_read : Context → List Word → Reading Word Fault (List ℕ)
name_read context left =
    followed ((stop Colon).read left) (λ u left. followed ((name (fresh context)).read left) (λ bytes left.
    followed (notes left) (λ seen left. mapped (λ u. bytes) ((stop Equals).read left))))

-- ':' NAME annotations '=' g ';'
abbrev pub parameter_read : {C : Type 0} → Context → Production C → List Word → Reading Word Fault (List ℕ × C)
parameter_read {C} context g left =
    followed (name_read context left) (λ bytes left. mapped (λ c. let p : List ℕ × C = (bytes, c) in p) ((before_mark g (stop Semicolon)).read left))

-- 'set' 'of' 'int', and the parameter
abbrev pub set_read : Context → List Word → Reading Word Fault (List ℕ × SetWords)
set_read context left =
    followed ((keyword key.Set).read left) (λ u left. followed ((keyword key.Of).read left) (λ u left. followed ((keyword key.Int).read left) (λ u left.
    parameter_read context (set_literal (λ kept value. one_more context (length kept)) no_test) left)))

-- 'array' '[' '1' '..' INT ']' 'of'
abbrev pub array_head_read : List Word → Reading Word Fault (Bool × IntText)
array_head_read left =
    followed ((keyword key.Array).read left) (λ u left. followed (array_size.read left) (λ size left. mapped (λ u. size) ((keyword key.Of).read left)))

-- 'bool' or 'int', and the parameter
abbrev pub consts_read : Context → IntText → List Word → Reading Word Fault (Bool × (List ℕ × List BasicText))
consts_read context size left =
    followed ((either (is_key key.Bool) (keyword key.Bool) (keyword key.Int)).read left) (λ kind left.
    mapped (λ p. let q : Bool × (List ℕ × List BasicText) = (is_bools kind, p) in q) (parameter_read context (array_literal (constant_element context (is_bools kind)) (size_test size)) left))
