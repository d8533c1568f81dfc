-- Items, as the code reads them.
use Rattle.std.specs.Prelude.{List, [], ◌∷◌, if◌then◌else◌}
use Rattle.fz_token.specs.declared.Keyword.TheVariants as key
use Rattle.dp_grammar.specs.Chain.{followed, mapped}
use Rattle.dp_grammar.specs.Choice.{begins}
use Rattle.dp_grammar.specs.Grammar.{Reading}
use Rattle.fz_model.specs.Context.{with_elements}
use Rattle.fz_model.specs.Items.{IntText, truth, type_elements}
use Rattle.fz_model.specs.Limits.{no_test}
use Rattle.fz_model.specs.Literals.{integer, name}
use Rattle.fz_model.specs.Marks.{is_key, keyword, opens, stop}
use Rattle.fz_model.specs.declared.fault.Fault.{Fault}
use Rattle.fz_model.specs.Words.{Round, Semicolon, Word}
use Rattle.fz_items.specs.Arrays.{array_behind, array_head_of}
use Rattle.fz_items.specs.Notes.{closing_all}
use Rattle.fz_items.specs.Parameters.{array_head_read, consts_read, parameter_read, set_read}
use Rattle.fz_items.specs.States.{State, bool_effect, consts_effect, int_effect, set_effect, variable_effect, vars_effect, with_count}
use Rattle.fz_items.specs.Variables.{variable_read}

-- 'predicate' NAME '(' balanced ')' ';', of which nothing is kept
abbrev pub predicate_read : List Word → Reading Word Fault (Unit {0})
predicate_read left =
    followed ((keyword key.Predicate).read left) (λ u left. followed ((name no_test).read left) (λ bytes left.
    followed ((opens Round).read left) (λ u left. followed (closing_all (Round ∷ []) left) (λ u left. (stop Semicolon).read left))))

-- an array of variables, behind the numbers that its type lists
abbrev pub vars_told : State → IntText → List Word → Reading Word Fault State
vars_told s size left =
    followed (array_head_of s.context left) (λ type left.
    mapped (vars_effect (with_count s (type_elements type)) type) (array_behind (with_elements s.context (type_elements type)) size type left))

-- an array of variables or of constants
abbrev pub array_told : State → List Word → Reading Word Fault State
array_told s left =
    followed (array_head_read left) (λ size left.
    if begins (is_key key.Var) left then vars_told s size.1 left else mapped (consts_effect s) (consts_read s.context size.1 left))

-- an item, by its first word
abbrev pub item_told : State → List Word → Reading Word Fault State
item_told s left =
    if begins (is_key key.Predicate) left then mapped (λ u. s) (predicate_read left)
    else (if begins (is_key key.Int) left then mapped (int_effect s) (followed ((keyword key.Int).read left) (λ u left. parameter_read s.context (integer no_test) left))
    else (if begins (is_key key.Bool) left then mapped (bool_effect s) (followed ((keyword key.Bool).read left) (λ u left. parameter_read s.context truth left))
    else (if begins (is_key key.Set) left then mapped (set_effect s) (set_read s.context left)
    else (if begins (is_key key.Array) left then array_told s left
    else mapped (variable_effect s) (variable_read s.context left)))))
