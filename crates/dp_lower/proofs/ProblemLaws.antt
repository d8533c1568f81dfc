-- The problem of a model keeps what every problem keeps.
use Rattle.std.proofs.Common.{◌≡◌, ℕ, zero, suc, ◌+◌, ◌<◌, ◌≤◌, Bool, true, false, Option, Some, None, List, [], ◌∷◌, length, map, refl, sym, ◌∙◌, ap, subst, inl, inr, arith}
use Rattle.std.specs.Prelude.{◌^◌, if◌then◌else◌, MatchOption, is_none, slice_get}
use Rattle.std.specs.List.{filter}
use Rattle.std.specs.Option.{option_map_or}
use Rattle.std.proofs.lemmas.List.{length-map}
use Rattle.dp_base.specs.Lists.{Among, Each}
use Rattle.dp_base.proofs.Lists.{Each-weaker}
use Rattle.dp_domain.specs.declared.term.Term.{Term}
use Rattle.dp_domain.specs.declared.term.Term.TheVariants.{Var, Const}
use Rattle.dp_parts.specs.Parts.{face_of}
use Rattle.dp_parts.specs.Problems.{IsGoalOf, IsProblem}
use Rattle.dp_parts.specs.declared.part.Part.{Part}
use Rattle.fz_model.specs.Models.{Plan, count_variables, is_own, named_variable}
use Rattle.fz_model.specs.Table.{args_of, constraint_of}
use Rattle.fz_model.specs.declared.kinds.ConstraintKind.{ConstraintKind}
use Rattle.fz_model.specs.declared.model.Basic.{Basic}
use Rattle.fz_model.specs.declared.model.Basic.TheVariants as basic
use Rattle.fz_model.specs.declared.model.Constraint.{Constraint}
use Rattle.fz_model.specs.declared.model.Item.{Item}
use Rattle.fz_model.specs.declared.model.Item.TheVariants as item
use Rattle.fz_model.specs.declared.model.ModelGoal.{ModelGoal}
use Rattle.fz_model.specs.declared.model.ModelGoal.TheVariants as goal
use Rattle.fz_model.specs.declared.model.VarType.{VarType}
use Rattle.fz_sat.specs.Args.{term_of}
use Rattle.fz_facts.specs.Facts.{AreFit, AreNumbered, IsFitted, IsGoal, IsVariable, IsWellFormed}
use Rattle.dp_lower.specs.Problem.{domains_of, goal_in, parts_of, problem_of, variable_in}
use Rattle.dp_lower.specs.Recipe.{args_in, recipe}
use Rattle.fz_facts.specs.Declared.{names_of, own_places}
use Rattle.dp_lower.proofs.CoverLaws.{AreFine, Each-map, IsCovered}
use Rattle.dp_lower.proofs.DomainLaws.{length-domains_of, own_count, var_below}
use Rattle.dp_lower.proofs.RecipeCover.{most_parts, recipe_fine}

-- ---- names

-- what holds of each variable's declaration holds of each name
each_name : (P : List ℕ × ℕ → Type 0) (rest : List Item) → ((name : List ℕ) (kind : VarType) (output : Bool) (value : Option Basic) (var : ℕ) → Among (item.Var name kind output value var) rest → P (name, var)) →
    Each P (names_of rest)
each_name P [] h = tt
each_name P (item.Var name kind output value var ∷ rest) h = (h name kind output value var (inl refl), each_name P rest (λ n k o v x here. h n k o v x (inr here)))
each_name P (item.Int name value ∷ rest) h = each_name P rest (λ n k o v x here. h n k o v x (inr here))
each_name P (item.Bool name value ∷ rest) h = each_name P rest (λ n k o v x here. h n k o v x (inr here))
each_name P (item.Set name set ∷ rest) h = each_name P rest (λ n k o v x here. h n k o v x (inr here))
each_name P (item.Consts name bools elements ∷ rest) h = each_name P rest (λ n k o v x here. h n k o v x (inr here))
each_name P (item.Vars name kind output elements ∷ rest) h = each_name P rest (λ n k o v x here. h n k o v x (inr here))

names_below : (items : List Item) → AreNumbered items 0 items → Each (λ e. e.1 < count_variables items) (names_of items)
names_below items h = each_name (λ e. e.1 < count_variables items) items (λ name kind output value var here. let k : var < 0 + own_count items items = var_below items 0 items name kind output value var h here in omega arith)

-- ---- own places

one_more : (b : Bool) (n : ℕ) (places : List ℕ) (i : Item) (kept : List Item) → length places ≡ length kept → length (if b then n ∷ places else places) ≡ length (if b then i ∷ kept else kept)
one_more true n places i kept e = ap suc e
one_more false n places i kept e = e

-- each variable of its own has one
length-own_places : (items : List Item) (n : ℕ) (rest : List Item) → length (own_places items n rest) ≡ own_count items rest
length-own_places items n [] = refl
length-own_places items n (item.Var name kind output value var ∷ rest) =
    one_more (is_none (named_variable items value)) n (own_places items (n + 1) rest) (item.Var name kind output value var) (filter (is_own items) rest) (length-own_places items (n + 1) rest)
length-own_places items n (item.Int name value ∷ rest) = length-own_places items n rest
length-own_places items n (item.Bool name value ∷ rest) = length-own_places items n rest
length-own_places items n (item.Set name set ∷ rest) = length-own_places items n rest
length-own_places items n (item.Consts name bools elements ∷ rest) = length-own_places items n rest
length-own_places items n (item.Vars name kind output elements ∷ rest) = length-own_places items n rest

-- at the place, counted on from n, is a name of the variable
pub record IsNamed (n : ℕ) (names : List (List ℕ × ℕ)) (x place : ℕ) : Type 0 where
  pub offset : ℕ
  pub counted : place ≡ n + offset
  pub name : List ℕ
  pub there : slice_get names offset ≡ Some (name, x)

-- one more name in front
later_named : (n : ℕ) (names : List (List ℕ × ℕ)) (x y place : ℕ) (e : List ℕ × ℕ) → x ≡ y → IsNamed (n + 1) names x place → IsNamed n (e ∷ names) y place
later_named n names x y place e same h = record {
  offset = suc h.offset;
  counted = let c = h.counted in omega arith;
  name = h.name;
  there = h.there ∙ ap (λ (z : ℕ). Some (h.name, z)) same;
}

first_named : (n : ℕ) (names : List (List ℕ × ℕ)) (x var place : ℕ) (name : List ℕ) → var ≡ x → Some n ≡ Some place → IsNamed n ((name, var) ∷ names) x place
first_named n names x var place name same e = record {
  offset = 0;
  counted = sym (some_is n place e) ∙ omega arith;
  name = name;
  there = ap (λ (z : ℕ). Some (name, z)) same;
}
  where
    some_is : (a b : ℕ) → Some a ≡ Some b → a ≡ b
    some_is a b e = cc

is_numbered : (o : Option ℕ) (k var : ℕ) → is_none o ≡ true → MatchOption o (var ≡ k) (λ y. (var ≡ y) × (y < k)) → var ≡ k
is_numbered None k var e h = h
is_numbered (Some y) k var e h = absurd (apart e)
  where
    apart : false ≡ true → ⊥
    apart e = cc

none_is_not : (place : ℕ) → None ≡ Some place → ⊥
none_is_not place e = cc

own_step : (items : List Item) (n k : ℕ) (name : List ℕ) (kind : VarType) (output : Bool) (value : Option Basic) (var : ℕ) (rest : List Item) (place : ℕ) (b : Bool) → is_none (named_variable items value) ≡ b → (x : ℕ) →
    AreNumbered items k (item.Var name kind output value var ∷ rest) → slice_get (own_places items n (item.Var name kind output value var ∷ rest)) x ≡ Some place →
    ((j y : ℕ) → AreNumbered items j rest → slice_get (own_places items (n + 1) rest) y ≡ Some place → IsNamed (n + 1) (names_of rest) (j + y) place) → IsNamed n ((name, var) ∷ names_of rest) (k + x) place
own_step items n k name kind output value var rest place true own zero h e later =
    let same : var ≡ k = is_numbered (named_variable items value) k var own h.0 in
    first_named n (names_of rest) (k + zero) var place name (same ∙ omega arith) (rw own at e)
own_step items n k name kind output value var rest place true own (suc x) h e later =
    later_named n (names_of rest) ((k + 1) + x) (k + suc x) place (name, var) (omega arith) (later (k + 1) x (let g = h.1 in rw own at g) (rw own at e))
own_step items n k name kind output value var rest place false own x h e later =
    later_named n (names_of rest) (k + x) (k + x) place (name, var) refl (later k x (let g = h.1 in rw own at g) (rw own at e))

-- behind n names and k variables: the own place of a variable is that of a name of it
own_named : (items : List Item) (n k : ℕ) (rest : List Item) (x place : ℕ) → AreNumbered items k rest → slice_get (own_places items n rest) x ≡ Some place → IsNamed n (names_of rest) (k + x) place
own_named items n k [] x place h e = absurd (none_is_not place e)
own_named items n k (item.Var name kind output value var ∷ rest) x place h e =
    own_step items n k name kind output value var rest place (is_none (named_variable items value)) refl x h e (λ j y g f. own_named items (n + 1) j rest y place g f)
own_named items n k (item.Int name value ∷ rest) x place h e = own_named items n k rest x place h.1 e
own_named items n k (item.Bool name value ∷ rest) x place h e = own_named items n k rest x place h.1 e
own_named items n k (item.Set name set ∷ rest) x place h e = own_named items n k rest x place h.1 e
own_named items n k (item.Consts name bools elements ∷ rest) x place h e = own_named items n k rest x place h.1 e
own_named items n k (item.Vars name kind output elements ∷ rest) x place h e = own_named items n k rest x place h.1 e

-- ---- counts

-- there are no more variables than names
few_own : (items : List Item) (rest : List Item) → own_count items rest ≤ length (names_of rest)
few_own items [] = omega arith
few_own items (item.Var name kind output value var ∷ rest) = by (is_none (named_variable items value)) refl (few_own items rest)
  where
    by : (b : Bool) → is_none (named_variable items value) ≡ b → own_count items rest ≤ length (names_of rest) → own_count items (item.Var name kind output value var ∷ rest) ≤ suc (length (names_of rest))
    by true e h = rw e (omega arith)
    by false e h = rw e (omega arith)
few_own items (item.Int name value ∷ rest) = few_own items rest
few_own items (item.Bool name value ∷ rest) = few_own items rest
few_own items (item.Set name set ∷ rest) = few_own items rest
few_own items (item.Consts name bools elements ∷ rest) = few_own items rest
few_own items (item.Vars name kind output elements ∷ rest) = few_own items rest

small_count : (n m : ℕ) → n ≤ m → m ≤ 5000000 → n < 2 ^ 32
small_count n m h g = omega arith

-- ---- constraints and the goal

parts_by : (items : List Item) (c : Constraint) (o : Option ConstraintKind) → MatchOption o ⊥ (λ kind. AreFit items c.args 0 (args_of kind)) →
    AreFine (count_variables items) most_parts (option_map_or (λ kind. recipe kind (args_in items c.args)) o [])
parts_by items c None fitted = absurd fitted
parts_by items c (Some kind) fitted = recipe_fine items c.args kind fitted

-- each constraint's parts are covered and few
parts_fine : (items : List Item) (cs : List Constraint) → Each (IsFitted items) cs → Each (AreFine (count_variables items) most_parts) (map (parts_of items) cs)
parts_fine items cs fitted = Each-map (IsFitted items) (AreFine (count_variables items) most_parts) (parts_of items) (λ c h. parts_by items c (constraint_of c.name) h) cs fitted

covers_by : (n m : ℕ) (parts : List (List Part)) → n ≡ m → Each (AreFine m most_parts) parts → Each (Each (λ q. Each (λ x. x < n) (face_of q).scope)) parts
covers_by n m parts e each =
    subst (λ (k : ℕ). Each (Each (λ q. Each (λ x. x < k) (face_of q).scope)) parts) (sym e)
    (Each-weaker (AreFine m most_parts) (Each (IsCovered m)) (λ ps h. h.covered) parts each)

few_by : (n : ℕ) (parts : List (List Part)) → Each (AreFine n most_parts) parts → Each (λ ps. length ps < 2 ^ 32) parts
few_by n parts each = Each-weaker (AreFine n most_parts) (λ ps. length ps < 2 ^ 32) (λ ps h. small_count (length ps) most_parts h.few (omega arith)) parts each

variable_below : (n : ℕ) (t : Term) → IsVariable n t → variable_in t < n
variable_below n (Var x) h = h
variable_below n (Const v) h = absurd h

goal_below : (items : List Item) (g : ModelGoal) → IsGoal items g → IsGoalOf (count_variables items) (goal_in items g)
goal_below items goal.Satisfy h = tt
goal_below items (goal.Minimize place) h = variable_below (count_variables items) (term_of items (basic.Item place)) h
goal_below items (goal.Maximize place) h = variable_below (count_variables items) (term_of items (basic.Item place)) h

-- ---- the whole

pub is_problem : (m : Plan) → IsWellFormed m → IsProblem (problem_of m)
is_problem m h =
    let count : length (domains_of m.items) ≡ count_variables m.items = length-domains_of m.items in
    let fine = parts_fine m.items m.constraints h.fitted in
    record {
      names = subst (λ (n : ℕ). Each (λ e. e.1 < n) (names_of m.items)) (sym count) (names_below m.items h.numbered);
      spelled = h.spelled;
      owned = length-own_places m.items 0 m.items ∙ sym count;
      own = λ x place e. let named = own_named m.items 0 0 m.items x place h.numbered e in
          (named.name, subst (λ (k : ℕ). slice_get (names_of m.items) k ≡ Some (named.name, x)) (let c = named.counted in omega arith) (named.there ∙ ap (λ (z : ℕ). Some (named.name, z)) (omega arith)));
      parts = covers_by (length (domains_of m.items)) (count_variables m.items) (map (parts_of m.items) m.constraints) count fine;
      goal = subst (λ (n : ℕ). IsGoalOf n (goal_in m.items m.goal)) (sym count) (goal_below m.items m.goal h.goal);
      few_names = small_count (length (names_of m.items)) 200000 h.few_names (omega arith);
      few_variables = small_count (length (domains_of m.items)) 200000 (let few = few_own m.items m.items in let more = h.few_names in omega arith) (omega arith);
      few_constraints = small_count (length (map (parts_of m.items) m.constraints)) 200000 (let few = h.few_constraints in let e = length-map m.constraints (parts_of m.items) in omega arith) (omega arith);
      few_parts = few_by (count_variables m.items) (map (parts_of m.items) m.constraints) fine;
    }
