-- The canonical spelling of a model passes each test, stands for the model, and is read as such.
use Rattle.std.proofs.Common.{◌≡◌, List, [], map, None, Ok, refl, sym, ◌∙◌, ap, subst, append-nil}
use Rattle.std.specs.List.{flat_map}
use Rattle.dp_base.specs.Lists.{Each}
use Rattle.dp_grammar.specs.Grammar.{verdict}
use Rattle.dp_grammar.specs.Many.{Repeat}
use Rattle.dp_grammar.specs.Whole.{finished, whole}
use Rattle.fz_token.specs.Stream.{stream}
use Rattle.fz_model.specs.Annotations.{Annotated}
use Rattle.fz_model.specs.Constraints.{ConstraintWords, constraint_item}
use Rattle.fz_model.specs.Context.{Context}
use Rattle.fz_model.specs.Marks.{is_key}
use Rattle.fz_model.specs.ModelText.{GoalWords, ItemWords, ModelWords, Rest, begins_item, closing, context_of, item, model, model_words, named_refusal, nothing, rest_of, solve_item}
use Rattle.fz_model.specs.Models.{IsModel, Plan, constraint_of_words, goal_of, items_of, model_of}
use Rattle.fz_model.specs.Words.{IsSpelled, Word, words}
use Rattle.fz_model.specs.declared.fault.Fault.{Fault}
use Rattle.fz_model.specs.declared.model.Item.{Item}
use Rattle.fz_token.specs.declared.Keyword.TheVariants as key
use Rattle.fz_model.proofs.ModelLaws.{model_lawful}
use Rattle.fz_facts.proofs.Faults.{many_parts}
use Rattle.fz_print.specs.Canonical.{canonical, constraint_words, goal_words, item_words, plain}
use Rattle.fz_print.specs.Printed.{printed}
use Rattle.fz_print.proofs.AgainItems.{all_named, behind_again, context_again, free_again, items_again}
use Rattle.fz_print.proofs.CleanConstraints.{clean_constraint, constraint_again, constraint_none, goal_again, goal_none, map_again, same_constraints}
use Rattle.fz_print.proofs.CleanItems.{clean_item}
use Rattle.fz_print.proofs.Naming.{AreNamed}
use Rattle.fz_print.proofs.Printing.{printed_words}
use Rattle.fz_print.proofs.Unrefused.{EachBehind-each, EachBehind-map, many_none}

abbrev pub items_repeat : Repeat Word Fault ItemWords Rest
items_repeat = record { goes_on = begins_item; item = λ kept. item (context_of kept); close = λ kept. rest_of (context_of kept) }

abbrev constraints_repeat : Context → Repeat Word Fault ConstraintWords (Annotated GoalWords)
constraints_repeat c = record { goes_on = is_key key.Constraint; item = λ kept. constraint_item c kept; close = λ kept. solve_item c }

-- the canonical spelling of the words of a model
abbrev pub clean : ModelWords → ModelWords
clean w = (flat_map clean_item w.0, (map clean_constraint w.1.0, plain (closing w.1.1)))

-- the canonical words of the model are the canonical spelling of its words
pub canonical_is : (w : ModelWords) → model.fault w ≡ None → canonical (model_of w) ≡ clean w
canonical_is w e =
    let c = context_of w.0 in
    let items = items_of w.0 in
    let p = many_parts items_repeat w e in
    let q = many_parts (constraints_repeat (context_of w.0)) w.1 p.1 in
    let named : AreNamed (context_of w.0) (items_of w.0) = all_named nothing [] w.0 tt in
    let is : map (item_words (items_of w.0)) (items_of w.0) ≡ flat_map clean_item w.0 = items_again (items_of w.0) nothing [] [] w.0 refl tt p.0 refl in
    let cs : map (constraint_words items) (map (constraint_of_words items) w.1.0) ≡ map clean_constraint w.1.0 =
    map_again (constraint_words items) (constraint_of_words items) clean_constraint w.1.0
    (EachBehind-each (λ before x. (constraint_item (context_of w.0) before).fault x ≡ None) (λ x. constraint_words (items_of w.0) (constraint_of_words (items_of w.0) x) ≡ clean_constraint x)
    (λ before x h. constraint_again (context_of w.0) (items_of w.0) named before x h) [] w.1.0 q.0) in
    let g : goal_words items (goal_of items (closing w.1.1)) ≡ closing w.1.1 = goal_again (context_of w.0) (items_of w.0) named (closing w.1.1) (goal_none (context_of w.0) w.1.1 q.1) in
    ap (λ l. (l, (map (constraint_words items) (map (constraint_of_words items) w.1.0), plain (goal_words items (goal_of items (closing w.1.1)))))) is
    ∙ ap (λ l. (flat_map clean_item w.0, (l, plain (goal_words items (goal_of items (closing w.1.1)))))) cs
    ∙ ap (λ l. (flat_map clean_item w.0, (map clean_constraint w.1.0, plain l))) g

-- no test refuses it
clean_none : (w : ModelWords) → model.fault w ≡ None → model.fault (clean w) ≡ None
clean_none w e =
    let p = many_parts items_repeat w e in
    let q = many_parts (constraints_repeat (context_of w.0)) w.1 p.1 in
    let rest : (rest_of (context_of w.0)).fault (map clean_constraint w.1.0, plain (closing w.1.1)) ≡ None =
    many_none (constraints_repeat (context_of w.0)) (map clean_constraint w.1.0, plain (closing w.1.1))
    (EachBehind-map (λ before x. (constraint_item (context_of w.0) before).fault x ≡ None) (λ before x. (constraint_item (context_of w.0) before).fault x ≡ None) clean_constraint
    (λ kept x h. constraint_none (context_of w.0) kept x h) [] w.1.0 q.0)
    (goal_none (context_of w.0) w.1.1 q.1) in
    many_none items_repeat (clean w) (free_again nothing [] [] w.0 refl refl p.0)
    (subst (λ c. (rest_of c).fault (map clean_constraint w.1.0, plain (closing w.1.1)) ≡ None) (sym (context_again nothing w.0)) rest)

abbrev plan_of : List Item → List ConstraintWords → GoalWords → Plan
plan_of items qs g = record { items = items; constraints = map (constraint_of_words items) qs; goal = goal_of items g }

-- it stands for the same model
clean_means : (w : ModelWords) → model_of (clean w) ≡ model_of w
clean_means w =
    ap (λ items. plan_of items (map clean_constraint w.1.0) (closing w.1.1)) (behind_again [] w.0)
    ∙ ap (λ cs. record { items = items_of w.0; constraints = cs; goal = goal_of (items_of w.0) (closing w.1.1) }) (same_constraints (items_of w.0) w.1.0)

-- the canonical words of a model pass each test
pub canonical_passes : (m : Plan) → IsModel m → model.fault (canonical m) ≡ None
canonical_passes m is = subst (λ p. model.fault (canonical p) ≡ None) is.means (subst (λ v. model.fault v ≡ None) (sym (canonical_is is.words is.passes)) (clean_none is.words is.passes))

-- and stand for the model
pub canonical_means : (m : Plan) → IsModel m → model_of (canonical m) ≡ m
canonical_means m is = subst (λ p. model_of (canonical p) ≡ p) is.means (ap model_of (canonical_is is.words is.passes) ∙ clean_means is.words)

-- ---- reading

read_whole : (x : ModelWords) → model.fault x ≡ None → whole model (model.spell x) ≡ Ok x
read_whole x e =
    ap (λ t. finished (model.read t)) (sym (append-nil (model.spell x)))
    ∙ ap (λ r. finished r) (model_lawful.again x [])
    ∙ ap (λ f. finished (verdict f x [])) e

-- the canonical words are read as themselves
pub words_read : (m : Plan) → IsModel m → model_words (model.spell (canonical m)) ≡ Ok (canonical m)
words_read m is = ap (named_refusal (model.spell (canonical m))) (read_whole (canonical m) (canonical_passes m is))

-- the printed text is read as them, where its words are words of tokens
pub read_again : (m : Plan) → IsModel m → Each IsSpelled (model.spell (canonical m)) → model_words (words (printed m) (stream (printed m)).tokens) ≡ Ok (canonical m)
read_again m is spelled = ap model_words (printed_words m spelled).1 ∙ words_read m is
