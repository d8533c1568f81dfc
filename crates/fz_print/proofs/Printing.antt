-- The words of a printed model are those of its canonical spelling.
use Rattle.std.proofs.Common.{◌≡◌, ℕ, List, [], ◌∷◌, ◌++◌, map, length, None, codes, refl, sym, ◌∙◌, ap, subst, append_assoc}
use Rattle.std.specs.Prelude.{slice_get}
use Rattle.dp_base.specs.Lists.{Each}
use Rattle.dp_base.proofs.Lists.{Each-append_parts}
use Rattle.dp_grammar.specs.Brackets.{Plain, Opens, Closes}
use Rattle.dp_grammar.specs.Choice.{either}
use Rattle.dp_grammar.specs.Leaf.{tested_mark}
use Rattle.dp_grammar.specs.Listed.{Listing, listed}
use Rattle.dp_grammar.specs.Many.{spell_behind}
use Rattle.fz_token.specs.Stream.{stream}
use Rattle.fz_token.specs.declared.Keyword.TheVariants as key
use Rattle.fz_model.specs.Annotations.{Annotated}
use Rattle.fz_model.specs.Constraints.{ArgWords, ConstraintWords, argument, behind, behind_constraints, close_test, constraint_item, kind_named}
use Rattle.fz_model.specs.Context.{Context}
use Rattle.fz_model.specs.Marks.{is_close, is_key, is_stop}
use Rattle.fz_model.specs.ModelText.{GoalWords, ItemWords, Rest, begins_item, context_of, item as item_production, model, rest_of, solve_item}
use Rattle.fz_model.specs.Models.{Plan}
use Rattle.fz_model.specs.Table.{args_of}
use Rattle.fz_model.specs.Words.{Round, Comma, IsSpelled, Key, Named, Semicolon, Stop, Word, words}
use Rattle.fz_model.specs.declared.fault.Fault.{Fault}
use Rattle.fz_model.specs.declared.kinds.ConstraintKind.{ConstraintKind}
use Rattle.fz_model.specs.declared.model.Constraint.{Constraint}
use Rattle.fz_model.specs.declared.model.Expr.{Expr}
use Rattle.fz_model.specs.declared.model.Item.{Item}
use Rattle.fz_model.specs.declared.model.ModelGoal.{ModelGoal}
use Rattle.fz_model.specs.declared.model.ModelGoal.TheVariants as goal
use Rattle.fz_print.specs.Canonical.{arg_words, canonical, constraint_words, goal_words, item_words, plain}
use Rattle.fz_print.specs.Printed.{arguments_text, constraint_text, constraints_text, expr_text, goal_text, item_text, items_text, line_end, list_text, name_text, printed}
use Rattle.fz_print.proofs.Lexemes.{lexes_close_round, lexes_key, lexes_name, lexes_open_round, lexes_space}
use Rattle.fz_print.proofs.Lexes.{Lexes, lexes_nothing}
use Rattle.fz_print.proofs.Lines.{lexes_end, lexes_item}
use Rattle.fz_print.proofs.Lists.{IsPrinted, lexes_as, listed_lexes}
use Rattle.fz_print.proofs.Parts.{lexes_argument}
use Rattle.fz_print.proofs.Pieces.{flat_four}

-- ---- constraints

abbrev args_listing : Context → ConstraintKind → Listing Word Fault ArgWords
args_listing context kind = record {
  is_separator = is_stop Comma;
  separator = Plain (Stop Comma);
  is_close = is_close Round;
  item = λ kept. argument (behind context kept) (slice_get (args_of kind) (length kept));
  close = λ kept. tested_mark (is_close Round) (Closes Round) (close_test context kind kept);
}

args_printed : (all : List Item) (context : Context) (kind : ConstraintKind) → IsPrinted (args_listing context kind) (arg_words all) (expr_text all) 41
args_printed all context kind = record {
  separator = refl;
  item = λ kept e s ws spelled ends undotted h. lexes_argument all (behind context kept) (slice_get (args_of kind) (length kept)) e s ws spelled ends undotted h;
  closes = λ kept s ws h. lexes_close_round s ws h;
  ends = λ s. (refl, refl);
  undotted = λ kept ws. refl;
}

lexes_arguments : (all : List Item) (context : Context) (kind : ConstraintKind) (args : List Expr) (s : List ℕ) (ws : List Word)
    → Each IsSpelled ((listed (args_listing context kind)).spell (map (arg_words all) args)) → Lexes s ws
    → Lexes (arguments_text all args ++ s) (Opens Round ∷ ((listed (args_listing context kind)).spell (map (arg_words all) args) ++ ws))
lexes_arguments all context kind args s ws spelled h =
    let l = (listed (args_listing context kind)).spell (map (arg_words all) args) in
    subst (λ t. Lexes (40 ∷ t) (Opens Round ∷ (l ++ ws))) (sym (append_assoc (list_text (expr_text all) args) (41 ∷ []) s))
    (lexes_open_round (list_text (expr_text all) args ++ 41 ∷ s) (l ++ ws)
    (listed_lexes (args_listing context kind) (arg_words all) (expr_text all) 41 (args_printed all context kind) args s ws spelled h))

lexes_constraint : (c : Context) (kept : List ConstraintWords) (all : List Item) (q : Constraint) (s : List ℕ) (ws : List Word)
    → Each IsSpelled ((constraint_item c kept).spell (constraint_words all q)) → Lexes s ws
    → Lexes ((constraint_text all q ++ line_end) ++ s) ((constraint_item c kept).spell (constraint_words all q) ++ ws)
lexes_constraint c kept all q s ws spelled h =
    let context = behind_constraints c kept in
    let kind = kind_named q.name in
    let l = (listed (args_listing context kind)).spell (map (arg_words all) q.args) in
    let parts = Each-append_parts IsSpelled l (Plain (Stop Semicolon) ∷ []) spelled.1.1.1 in
    lexes_as (codes "constraint" ++ (32 ∷ (q.name ++ (arguments_text all q.args ++ 59 ∷ 10 ∷ s)))) _
    (Plain (Key key.Constraint) ∷ Plain (Named q.name) ∷ Opens Round ∷ (l ++ Plain (Stop Semicolon) ∷ ws)) _
    (sym (flat_four (codes "constraint ") q.name (arguments_text all q.args) line_end s))
    (ap (λ us. Plain (Key key.Constraint) ∷ Plain (Named q.name) ∷ Opens Round ∷ us) (sym (append_assoc l (Plain (Stop Semicolon) ∷ []) ws)))
    (lexes_key key.Constraint _ _ refl (lexes_space _ _ (lexes_name q.name _ _ spelled.1.0 refl
    (lexes_arguments all context kind q.args (59 ∷ 10 ∷ s) (Plain (Stop Semicolon) ∷ ws) parts.0 (lexes_end s ws h)))))

-- ---- the goal

lexes_goal : (c : Context) (all : List Item) (g : ModelGoal) → Each IsSpelled ((solve_item c).spell (plain (goal_words all g))) → Lexes (goal_text all g ++ line_end) ((solve_item c).spell (plain (goal_words all g)))
lexes_goal c all goal.Satisfy spelled = lexes_key key.Solve _ _ refl (lexes_space _ _ (lexes_key key.Satisfy _ _ refl (lexes_end [] [] lexes_nothing)))
lexes_goal c all (goal.Minimize place) spelled =
    subst (λ t. Lexes t ((solve_item c).spell (plain (goal_words all (goal.Minimize place))))) (sym (append_assoc (codes "solve minimize ") (name_text all place) line_end))
    (lexes_key key.Solve _ _ refl (lexes_space _ _ (lexes_key key.Minimize _ _ refl (lexes_space _ _ (lexes_name (name_text all place) _ _ spelled.1.1.0 refl (lexes_end [] [] lexes_nothing))))))
lexes_goal c all (goal.Maximize place) spelled =
    subst (λ t. Lexes t ((solve_item c).spell (plain (goal_words all (goal.Maximize place))))) (sym (append_assoc (codes "solve maximize ") (name_text all place) line_end))
    (lexes_key key.Solve _ _ refl (lexes_space _ _ (lexes_key key.Maximize _ _ refl (lexes_space _ _ (lexes_name (name_text all place) _ _ spelled.1.1.0 refl (lexes_end [] [] lexes_nothing))))))

-- ---- the whole

-- the words of constraints behind others, and of the goal
abbrev rest_words : Context → List ConstraintWords → List ConstraintWords → Annotated GoalWords → List Word
rest_words c kept qs g = spell_behind (λ before. either (is_key key.Constraint) (constraint_item c before) (solve_item c)) kept qs g

lexes_rest : (c : Context) (all : List Item) (g : ModelGoal) (kept : List ConstraintWords) (qs : List Constraint)
    → Each IsSpelled (rest_words c kept (map (constraint_words all) qs) (plain (goal_words all g)))
    → Lexes (constraints_text all qs ++ (goal_text all g ++ line_end)) (rest_words c kept (map (constraint_words all) qs) (plain (goal_words all g)))
lexes_rest c all g kept [] spelled = lexes_goal c all g spelled
lexes_rest c all g kept (q ∷ qs) spelled =
    let w = constraint_words all q in
    let rest = rest_words c (kept ++ w ∷ []) (map (constraint_words all) qs) (plain (goal_words all g)) in
    let parts = Each-append_parts IsSpelled ((constraint_item c kept).spell w) rest spelled in
    subst (λ t. Lexes t ((constraint_item c kept).spell w ++ rest)) (sym (append_assoc (constraint_text all q ++ line_end) (constraints_text all qs) (goal_text all g ++ line_end)))
    (lexes_constraint c kept all q (constraints_text all qs ++ (goal_text all g ++ line_end)) rest parts.0 (lexes_rest c all g (kept ++ w ∷ []) qs parts.1))

-- the words of items behind others, and of the rest
abbrev model_words_of : List ItemWords → List ItemWords → Rest → List Word
model_words_of kept is rest = spell_behind (λ before. either begins_item (item_production (context_of before)) (rest_of (context_of before))) kept is rest

lexes_items : (all : List Item) (qs : List Constraint) (g : ModelGoal) (kept : List ItemWords) (is : List Item)
    → Each IsSpelled (model_words_of kept (map (item_words all) is) (map (constraint_words all) qs, plain (goal_words all g)))
    → Lexes (items_text all is ++ (constraints_text all qs ++ (goal_text all g ++ line_end))) (model_words_of kept (map (item_words all) is) (map (constraint_words all) qs, plain (goal_words all g)))
lexes_items all qs g kept [] spelled = lexes_rest (context_of kept) all g [] qs spelled
lexes_items all qs g kept (i ∷ is) spelled =
    let w = item_words all i in
    let tail = constraints_text all qs ++ (goal_text all g ++ line_end) in
    let rest = model_words_of (kept ++ w ∷ []) (map (item_words all) is) (map (constraint_words all) qs, plain (goal_words all g)) in
    let parts = Each-append_parts IsSpelled ((item_production (context_of kept)).spell w) rest spelled in
    subst (λ t. Lexes t ((item_production (context_of kept)).spell w ++ rest)) (sym (append_assoc (item_text all i ++ line_end) (items_text all is) tail))
    (lexes_item (context_of kept) all i (items_text all is ++ tail) rest parts.0 (lexes_items all qs g (kept ++ w ∷ []) is parts.1))

lexes_model : (m : Plan) → Each IsSpelled (model.spell (canonical m)) → Lexes (printed m) (model.spell (canonical m))
lexes_model m spelled =
    let a = items_text m.items m.items in
    let b = constraints_text m.items m.constraints in
    let c = goal_text m.items m.goal in
    let e : a ++ (b ++ (c ++ line_end)) ≡ printed m = sym (append_assoc (a ++ b) c line_end ∙ append_assoc a b (c ++ line_end)) in
    subst (λ t. Lexes t (model.spell (canonical m))) e (lexes_items m.items m.constraints m.goal [] m.items spelled)

-- where the words of the canonical spelling are words of tokens, the printed text has these words, and nothing is refused
pub printed_words : (m : Plan) → Each IsSpelled (model.spell (canonical m))
    → ((stream (printed m)).refusal ≡ None) × (words (printed m) (stream (printed m)).tokens ≡ model.spell (canonical m))
printed_words m spelled = lexes_model m spelled []
