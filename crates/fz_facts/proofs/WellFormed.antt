-- A model is well formed.
use Rattle.std.proofs.Common.{◌≡◌, ℕ, ◌+◌, ◌<◌, ◌≤◌, ◌⊎◌, inl, inr, true, false, None, List, [], ◌∷◌, length, sym, subst, arith}
use Rattle.std.proofs.lemmas.List.{length-map}
use Rattle.dp_base.specs.Lists.{Each}
use Rattle.dp_base.specs.Names.{is_name}
use Rattle.fz_token.specs.declared.Keyword.TheVariants as key
use Rattle.dp_grammar.specs.Brackets.{Plain}
use Rattle.dp_grammar.specs.Chain.{chain}
use Rattle.dp_grammar.specs.Choice.{either}
use Rattle.dp_grammar.specs.Many.{Repeat}
use Rattle.fz_model.specs.Annotations.{Annotated}
use Rattle.fz_model.specs.Constraints.{ConstraintWords, constraint_item}
use Rattle.fz_model.specs.Context.{Name, Context, goal_test, known, meant_by}
use Rattle.fz_model.specs.Literals.{name}
use Rattle.fz_model.specs.Marks.{Production, is_key, keyword, stop}
use Rattle.fz_model.specs.ModelText.{GoalWords, ItemWords, ModelWords, Rest, begins_item, closing, context_of, goal, item, model, rest_of, solve_item}
use Rattle.fz_model.specs.Models.{IsModel, Plan, constraint_of_words, count_variables, goal_of, items_of, model_of, place_of}
use Rattle.fz_model.specs.Words.{IsSpelled, Named, Semicolon, Word}
use Rattle.fz_model.specs.declared.fault.Fault.{Fault}
use Rattle.fz_model.specs.declared.meant.Meant.{Meant}
use Rattle.fz_model.specs.declared.meant.Meant.TheVariants.{IntVar, IntArray, BoolArray}
use Rattle.fz_model.specs.declared.model.Basic.{Basic}
use Rattle.fz_model.specs.declared.model.Basic.TheVariants as basic
use Rattle.fz_model.specs.declared.model.Item.{Item}
use Rattle.fz_model.specs.declared.model.Item.TheVariants as kind
use Rattle.fz_sat.specs.Args.{term_of}
use Rattle.fz_facts.specs.Declared.{names_of}
use Rattle.fz_facts.specs.Facts.{IsDeclared, IsFitted, IsGoal, IsPaired, IsVariable, IsWellFormed}
use Rattle.fz_facts.proofs.ConstraintFacts.{IsAllowed, constraint_facts}
use Rattle.fz_facts.proofs.Faults.{EachBehind, annotated_end, before_parts, chain_parts, many_parts, many_spelled, test_passes}
use Rattle.fz_facts.proofs.Finding.{stated}
use Rattle.fz_facts.proofs.ItemSteps.{items_right}
use Rattle.fz_facts.proofs.Pairs.{Pairs-each}
use Rattle.fz_facts.proofs.Passes.{is_known}
use Rattle.fz_facts.proofs.Places.{EachBehind-weaker, each_of, few_behind}
use Rattle.fz_facts.proofs.Shown.{IsFine, IsNamed, IsRight, Stated}

-- ---- names

named_step : (i : Item) (items : List Item) → IsNamed i → Each (λ e. is_name e.0 ≡ true) (names_of items) → Each (λ e. is_name e.0 ≡ true) (names_of (i ∷ items))
named_step (kind.Var name type output value var) items h each = (h, each)
named_step i items h each = each

all_named : (items : List Item) → Each IsNamed items → Each (λ e. is_name e.0 ≡ true) (names_of items)
all_named [] h = tt
all_named (i ∷ items) h = named_step i items h.0 (all_named items h.1)

-- ---- the goal

abbrev IsSought : List Item → Basic → Type 0
IsSought items b = IsVariable (count_variables items) (term_of items b)

sought : (items : List Item) (m : Meant) (b : Basic) → goal_test m ≡ None → Stated items m b → IsSought items b
sought items IntVar b e s = subst (IsVariable (count_variables items)) (sym s.1) s.2
sought items (IntArray true meant) b e s = absurd cc
sought items (IntArray false meant) b e s = absurd cc
sought items (BoolArray true meant) b e s = absurd cc
sought items (BoolArray false meant) b e s = absurd cc
sought items m b e s = absurd cc

goal_named : (c : Context) (items : List Item) → IsRight c items → (bytes : List ℕ) → known (meant_by c.entries bytes) goal_test ≡ None → IsSought items (basic.Item (place_of items bytes))
goal_named c items right bytes e =
    let k = is_known (meant_by c.entries bytes) goal_test e in
    sought items k.0 (basic.Item (place_of items bytes)) k.2 (stated c items right (Name bytes) k.0 k.1).1

abbrev named_goal : Context → Production (Unit {0} ⊎ ((Unit {0} ⊎ Unit {0}) × List ℕ))
named_goal c =
    either (is_key key.Satisfy) (keyword key.Satisfy)
    (chain (either (is_key key.Minimize) (keyword key.Minimize) (keyword key.Maximize)) (λ which. name (λ bytes. known (meant_by c.entries bytes) goal_test)))

named_sought : (c : Context) (items : List Item) → IsRight c items → (which : Unit {0} ⊎ Unit {0}) (bytes : List ℕ) → (named_goal c).fault (inr (which, bytes)) ≡ None
    → IsSought items (basic.Item (place_of items bytes))
named_sought c items right which bytes e =
    let test = λ (b : List ℕ). known (meant_by c.entries b) goal_test in
    let p = chain_parts (either (is_key key.Minimize) (keyword key.Minimize) (keyword key.Maximize)) (λ _. name test) (which, bytes) e in
    goal_named c items right bytes (test_passes (test bytes) (Plain (Named bytes) ∷ []) p.1)

goal_chosen : (c : Context) (items : List Item) → IsRight c items → (g : GoalWords) → (named_goal c).fault g ≡ None → IsGoal items (goal_of items g)
goal_chosen c items right (inl satisfy) e = tt
goal_chosen c items right (inr (inl minimize, bytes)) e = named_sought c items right (inl minimize) bytes e
goal_chosen c items right (inr (inr maximize, bytes)) e = named_sought c items right (inr maximize) bytes e

goal_facts : (c : Context) (items : List Item) → IsRight c items → (a : Annotated GoalWords) → (solve_item c).fault a ≡ None → IsGoal items (goal_of items (closing a))
goal_facts c items right a e =
    let p = annotated_end (λ notes. goal c) a e in
    goal_chosen c items right (closing a) (before_parts (named_goal c) (stop Semicolon) (closing a) p.1).0

-- ---- the whole

abbrev items_repeat : Repeat Word Fault ItemWords Rest
items_repeat = record { goes_on = begins_item; item = λ kept. item (context_of kept); close = λ kept. rest_of (context_of kept) }

abbrev constraints_repeat : Context → Repeat Word Fault ConstraintWords (Annotated GoalWords)
constraints_repeat c = record { goes_on = is_key key.Constraint; item = λ kept. constraint_item c kept; close = λ kept. solve_item c }

words_well_formed : (w : ModelWords) → Each IsSpelled (model.spell w) → model.fault w ≡ None → IsWellFormed (model_of w)
words_well_formed w h e =
    let c = context_of w.0 in
    let items = items_of w.0 in
    let p = many_parts items_repeat w e in
    let right : IsRight c items = items_right w.0 p.0 (many_spelled IsSpelled items_repeat w h) in
    let q = many_parts (constraints_repeat c) w.1 p.1 in
    let allowed : EachBehind (IsAllowed items) [] w.1.0 =
    EachBehind-weaker (λ before x. (constraint_item c before).fault x ≡ None) (IsAllowed items) (constraint_facts c items right) [] w.1.0 q.0 in
    let few : 0 + length w.1.0 ≤ 200000 =
    few_behind 200000 [] w.1.0 (omega arith) (EachBehind-weaker (IsAllowed items) (λ before x. length before < 200000) (λ before x k. k.fewer) [] w.1.0 allowed) in
    record {
      spelled = all_named items (Pairs-each (IsFine items) IsNamed (λ e i f. f.spelled) c.entries items right.fine);
      apart = right.apart;
      numbered = right.numbered;
      declared = Pairs-each (IsFine items) (IsDeclared items) (λ e i f. f.declared) c.entries items right.fine;
      fitted = each_of (IsAllowed items) (IsFitted items) (constraint_of_words items) (λ before x k. k.fitted) [] w.1.0 allowed;
      paired = each_of (IsAllowed items) (IsPaired items) (constraint_of_words items) (λ before x k. k.paired) [] w.1.0 allowed;
      goal = goal_facts c items right w.1.1 q.1;
      few_names = right.few;
      few_constraints = omega (arith, few, length-map w.1.0 (constraint_of_words items));
    }

-- what the tests of a model's text have let through holds of the model
pub well_formed : (m : Plan) → IsModel m → IsWellFormed m
well_formed m is = subst IsWellFormed is.means (words_well_formed is.words is.spelled is.passes)
