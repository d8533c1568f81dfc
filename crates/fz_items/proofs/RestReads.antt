-- The constraints so far, and what is read behind them.
use Rattle.std.proofs.Common.{◌≡◌, ℕ, ◌+◌, ◌<◌, true, false, List, [], ◌∷◌, ◌++◌, length, map, sym, ap, subst, ◌∙◌, arith}
use Rattle.std.specs.Prelude.{sum}
use Rattle.std.proofs.lemmas.List.{length-map, map-append}
use Rattle.std.proofs.lemmas.List.Sums.{sum_by-append}
use Rattle.fz_token.specs.declared.Keyword.TheVariants as key
use Rattle.dp_grammar.specs.Chain.{mapped}
use Rattle.dp_grammar.specs.Choice.{begins}
use Rattle.dp_grammar.specs.Grammar.{Cause, Reading, Takes, Stops}
use Rattle.dp_grammar.proofs.Loops.{with_front, no_front, behind_items, item_taken, item_refused, close_taken, close_refused, item_shortens}
use Rattle.fz_model.specs.Annotations.{Annotated}
use Rattle.fz_model.specs.Constraints.{ConstraintWords, behind, behind_constraints, constraint_item, elements_in}
use Rattle.fz_model.specs.Context.{Context}
use Rattle.fz_model.specs.Marks.{is_key}
use Rattle.fz_model.specs.ModelText.{GoalWords, rest_of, solve_item}
use Rattle.fz_model.specs.Words.{Word}
use Rattle.fz_model.specs.declared.fault.Fault.{Fault}
use Rattle.fz_model.specs.declared.model.Constraint.{Constraint}
use Rattle.fz_model.specs.declared.model.ModelGoal.{ModelGoal}
use Rattle.fz_items.specs.ConstraintItems.{constraint_behind, named_args, told, told_of}
use Rattle.fz_items.specs.Places.{constraint_in, names_in}
use Rattle.fz_items.specs.Rests.{closing_goal, rest_in}
use Rattle.fz_items.proofs.GoalLaws.{constraints_of, constraints_are}

-- ---- what a value was seen from

pub record IsFrom {X Y : Type 0} (view : X → Y) (reading : Reading Word Fault X) (y : Y) (rest : List Word) : Type 0 where
  pub value : X
  pub reads : reading ≡ Takes value rest
  pub seen : view value ≡ y

pub taken_from : {X Y : Type 0} (view : X → Y) (reading : Reading Word Fault X) (y : Y) (rest : List Word) → mapped view reading ≡ Takes y rest → IsFrom view reading y rest
taken_from {X} view (Takes x left) y rest e =
    let same : left ≡ rest = cc in
    record { value = x; reads = ap (λ (text : List Word). let r : Reading Word Fault X = Takes x text in r) same; seen = cc }
taken_from view (Stops cause left) y rest e = absurd cc

pub stops_from : {X Y : Type 0} (view : X → Y) (reading : Reading Word Fault X) (cause : Cause Fault) (rest : List Word) → mapped view reading ≡ Stops cause rest → reading ≡ Stops cause rest
stops_from view (Takes x left) cause rest e = absurd cc
stops_from view (Stops other left) cause rest e = cc

-- ---- the constraints so far

-- they stand before what is read behind them, and the code keeps them and counts their elements
pub record IsKept (context : Context) (text : List Word) (constraints : List Constraint) (names : Context) (left : List Word) : Type 0 where
  pub kept : List ConstraintWords
  pub so_far : with_front kept (behind_items (constraints_of context) kept left) ≡ (rest_of context).read text
  pub placed : constraints ≡ map (constraint_in (names_in context)) kept
  pub counted : names ≡ behind_constraints context kept

none_counted : (context : Context) → context ≡ behind_constraints context []
none_counted context = ap (λ (n : ℕ). record context { elements = n }) (omega arith)

pub none_kept : (context : Context) (text left : List Word) (constraints : List Constraint) → constraints ≡ [] → text ≡ left → IsKept context text constraints context left
none_kept context text left constraints e t = record {
  kept = [];
  so_far = subst (λ (w : List Word). with_front [] (behind_items (constraints_of context) [] w) ≡ (rest_of context).read text) t (no_front ((rest_of context).read text));
  placed = e;
  counted = none_counted context;
}

abbrev count_in : ConstraintWords → ℕ
count_in c = sum (map elements_in c.1.0)

one_sum : (n : ℕ) → sum (n ∷ []) ≡ n
one_sum n = omega arith

one_counted : (context : Context) (kept : List ConstraintWords) (c : ConstraintWords) → behind (behind_constraints context kept) c.1.0 ≡ behind_constraints context (kept ++ c ∷ [])
one_counted context kept c =
    let counted : sum (map count_in (kept ++ c ∷ [])) ≡ sum (map count_in kept) + count_in c =
    ap (λ (ns : List ℕ). sum ns) (map-append count_in kept (c ∷ []))
    ∙ sum_by-append (λ n. n) (map count_in kept) (count_in c ∷ [])
    ∙ ap (λ (n : ℕ). sum (map count_in kept) + n) (one_sum (count_in c)) in
    ap (λ (n : ℕ). record context { elements = n }) (omega (arith, counted))

-- the next constraint is read behind them
item_reads : (context : Context) (kept : List ConstraintWords) (constraints : List Constraint) (names : Context) (count : ℕ) (left : List Word) (r : Reading Word Fault ConstraintWords)
    → constraints ≡ map (constraint_in (names_in context)) kept → names ≡ behind_constraints context kept → count ≡ length constraints
    → (constraint_behind names count).read left ≡ r → (constraint_item context kept).read left ≡ r
item_reads context kept constraints names count left r p n k e =
    let size : count ≡ length kept = k ∙ ap length p ∙ length-map kept (constraint_in (names_in context)) in
    ap (λ (j : ℕ). (constraint_behind (behind_constraints context kept) j).read left) (sym size)
    ∙ ap (λ (c : Context). (constraint_behind c count).read left) (sym n) ∙ e

pub one_kept : (context : Context) (text : List Word) (constraints more : List Constraint) (names after : Context) (count : ℕ) (left rest : List Word) (c : Constraint)
    → more ≡ constraints ++ c ∷ [] → count ≡ length constraints → begins (is_key key.Constraint) left ≡ true
    → told_of names ((constraint_behind names count).read left) ≡ Takes (c, after) rest
    → IsKept context text constraints names left → IsKept context text more after rest
one_kept context text constraints more names after count left rest c m k b e h =
    let from = taken_from (λ w. told names (named_args w)) ((constraint_behind names count).read left) (c, after) rest e in
    let placed : constraint_in (names_in names) from.value ≡ c = ap (λ (p : Constraint × Context). p.0) from.seen in
    let counted : behind names from.value.1.0 ≡ after = ap (λ (p : Constraint × Context). p.1) from.seen in
    record {
      kept = h.kept ++ from.value ∷ [];
      so_far = item_taken (constraints_of context) (constraints_are context) h.kept left ((rest_of context).read text) from.value rest b
          (item_reads context h.kept constraints names count left (Takes from.value rest) h.placed h.counted k from.reads) h.so_far;
      placed = m ∙ ap (λ (x : Constraint). constraints ++ x ∷ []) (sym placed ∙ ap (λ (n : Context). constraint_in (names_in n) from.value) h.counted)
          ∙ ap (λ (xs : List Constraint). xs ++ constraint_in (names_in context) from.value ∷ []) h.placed
          ∙ sym (map-append (constraint_in (names_in context)) h.kept (from.value ∷ []));
      counted = sym counted ∙ ap (λ (n : Context). behind n from.value.1.0) h.counted ∙ one_counted context h.kept from.value;
    }

pub kept_shortens : (context : Context) (text : List Word) (constraints : List Constraint) (names after : Context) (count : ℕ) (left rest : List Word) (c : Constraint)
    → count ≡ length constraints → told_of names ((constraint_behind names count).read left) ≡ Takes (c, after) rest
    → IsKept context text constraints names left → length rest < length left
kept_shortens context text constraints names after count left rest c k e h =
    let from = taken_from (λ w. told names (named_args w)) ((constraint_behind names count).read left) (c, after) rest e in
    item_shortens (constraints_of context) (constraints_are context) h.kept left from.value rest
    (item_reads context h.kept constraints names count left (Takes from.value rest) h.placed h.counted k from.reads)

pub kept_refused : (context : Context) (text : List Word) (constraints : List Constraint) (names : Context) (count : ℕ) (left rest : List Word) (cause : Cause Fault)
    → count ≡ length constraints → begins (is_key key.Constraint) left ≡ true
    → told_of names ((constraint_behind names count).read left) ≡ Stops cause rest
    → IsKept context text constraints names left → mapped (rest_in (names_in context)) ((rest_of context).read text) ≡ Stops cause rest
kept_refused context text constraints names count left rest cause k b e h =
    ap (mapped (rest_in (names_in context)))
    (item_refused (constraints_of context) (constraints_are context) h.kept left ((rest_of context).read text) cause rest b
    (item_reads context h.kept constraints names count left (Stops cause rest) h.placed h.counted k
    (stops_from (λ w. told names (named_args w)) ((constraint_behind names count).read left) cause rest e)) h.so_far)

-- ---- the goal

-- the goal is read by the names that are declared
solve_reads : (context : Context) (kept : List ConstraintWords) (names : Context) (left : List Word) (r : Reading Word Fault (Annotated GoalWords))
    → names ≡ behind_constraints context kept → (solve_item names).read left ≡ r → (solve_item context).read left ≡ r
solve_reads context kept names left r n e = ap (λ (c : Context). (solve_item c).read left) (sym n) ∙ e

abbrev closing_at : List Word → List Constraint → ModelGoal → Reading Word Fault (List Constraint × ModelGoal)
closing_at rest constraints g = Takes (constraints, g) rest

closed_as : (left other : List Constraint) (g h : ModelGoal) (rest : List Word) → left ≡ other → g ≡ h → closing_at rest left g ≡ closing_at rest other h
closed_as left other g h rest e f =
    ap (λ (xs : List Constraint). closing_at rest xs g) e ∙ ap (closing_at rest other) f

pub kept_closed : (context : Context) (text : List Word) (constraints : List Constraint) (names : Context) (left rest : List Word) (g : ModelGoal)
    → begins (is_key key.Constraint) left ≡ false → mapped (closing_goal (names_in names)) ((solve_item names).read left) ≡ Takes g rest
    → IsKept context text constraints names left → mapped (rest_in (names_in context)) ((rest_of context).read text) ≡ Takes (constraints, g) rest
kept_closed context text constraints names left rest g b e h =
    let from = taken_from (closing_goal (names_in names)) ((solve_item names).read left) g rest e in
    let goal : closing_goal (names_in context) from.value ≡ g = ap (λ (c : Context). closing_goal (names_in c) from.value) (sym h.counted) ∙ from.seen in
    let total : (rest_of context).read text ≡ Takes (h.kept, from.value) rest =
    close_taken (constraints_of context) (constraints_are context) h.kept left ((rest_of context).read text) from.value rest b
    (solve_reads context h.kept names left (Takes from.value rest) h.counted from.reads) h.so_far in
    ap (mapped (rest_in (names_in context))) total
    ∙ closed_as (map (constraint_in (names_in context)) h.kept) constraints (closing_goal (names_in context) from.value) g rest (sym h.placed) goal

pub kept_unclosed : (context : Context) (text : List Word) (constraints : List Constraint) (names : Context) (left rest : List Word) (cause : Cause Fault)
    → begins (is_key key.Constraint) left ≡ false → mapped (closing_goal (names_in names)) ((solve_item names).read left) ≡ Stops cause rest
    → IsKept context text constraints names left → mapped (rest_in (names_in context)) ((rest_of context).read text) ≡ Stops cause rest
kept_unclosed context text constraints names left rest cause b e h =
    ap (mapped (rest_in (names_in context)))
    (close_refused (constraints_of context) (constraints_are context) h.kept left ((rest_of context).read text) cause rest b
    (solve_reads context h.kept names left (Stops cause rest) h.counted
    (stops_from (closing_goal (names_in names)) ((solve_item names).read left) cause rest e)) h.so_far)
