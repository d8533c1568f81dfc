-- What holds of every model: what its text's tests have shown. Lowering rests on these facts alone.
use Rattle.std.specs.Prelude.{◌≡◌, ℕ, ◌+◌, ◌<◌, ◌≤◌, ◌^◌, true, false, ◌⊎◌, if◌then◌else◌, MatchOption, Option, Some, List, [], ◌∷◌, length, map, ℤ, pos, ◌≤ℤ◌}
use Rattle.std.specs.List.{list_any}
use Rattle.dp_base.specs.Lists.{Among, Each}
use Rattle.dp_base.specs.Names.{is_name}
use Rattle.dp_domain.specs.Sets.{IsSmall}
use Rattle.dp_domain.specs.declared.term.Term.{Term}
use Rattle.dp_domain.specs.declared.term.Term.TheVariants.{Var, Const}
use Rattle.fz_model.specs.Constraints.{pairs_arrays, wants_array}
use Rattle.fz_model.specs.Models.{Plan, count_variables, is_own, named_variable}
use Rattle.fz_model.specs.Table.{args_of, constraint_of}
use Rattle.fz_model.specs.declared.kinds.ArgKind.{ArgKind}
use Rattle.fz_model.specs.declared.kinds.ArgKind.TheVariants as arg
use Rattle.fz_model.specs.declared.model.Basic.{Basic}
use Rattle.fz_model.specs.declared.model.Basic.TheVariants as basic
use Rattle.fz_model.specs.declared.model.Constraint.{Constraint}
use Rattle.fz_model.specs.declared.model.Expr.{Expr}
use Rattle.fz_model.specs.declared.model.Item.{Item}
use Rattle.fz_model.specs.declared.model.Item.TheVariants as item
use Rattle.fz_model.specs.declared.model.ModelGoal.{ModelGoal}
use Rattle.fz_model.specs.declared.model.ModelGoal.TheVariants as goal
use Rattle.fz_model.specs.declared.model.VarType.{VarType}
use Rattle.fz_model.specs.declared.model.VarType.TheVariants as type
use Rattle.fz_sat.specs.Args.{arg_term, arg_terms, term_of}
use Rattle.fz_sat.specs.Satisfies.{is_of_type}
use Rattle.fz_facts.specs.Declared.{is_boolean, names_of}

-- ---- names and numbers

-- no name stands twice
abbrev pub AreApart : List (List ℕ) → Type 0
AreApart [] = Unit {0}
AreApart (name ∷ names) = (¬ (Among name names)) × AreApart names

-- behind n variables: a variable of its own has number n; an alias has the number of the variable that it names, one of the n
abbrev pub IsNumbered : List Item → ℕ → Item → Type 0
IsNumbered items n (item.Var name kind output value var) = MatchOption (named_variable items value) (var ≡ n) (λ y. (var ≡ y) × (y < n))
IsNumbered items n _ = Unit {0}

-- each of these items, of a model's items, is numbered so, behind n variables
abbrev pub AreNumbered : List Item → ℕ → List Item → Type 0
AreNumbered items n [] = Unit {0}
AreNumbered items n (i ∷ rest) = IsNumbered items n i × AreNumbered items (if is_own items i then n + 1 else n) rest

-- ---- types, definitions and elements

-- each number that the type lists is within ±10^9
abbrev pub IsSmallType : VarType → Type 0
IsSmallType type.Bool = Unit {0}
IsSmallType type.Int = Unit {0}
IsSmallType (type.Range first last) = IsSmall first × IsSmall last
IsSmallType (type.List numbers) = Each IsSmall numbers

-- the term is a number within ±10^9
abbrev pub IsSmallConst : Term → Type 0
IsSmallConst (Const v) = IsSmall v
IsSmallConst (Var x) = ⊥

-- the type gives bounds
abbrev pub IsBounding : VarType → Type 0
IsBounding type.Int = ⊥
IsBounding _ = Unit {0}

-- a variable of its own has a type with bounds, or a definition; its definition is a number within ±10^9
abbrev pub IsBounded : List Item → VarType → Option Basic → Type 0
IsBounded items kind value =
    MatchOption (named_variable items value) (MatchOption value (IsBounding kind) (λ b. IsSmallConst (term_of items b))) (λ y. Unit {0})

-- an element of an array of this type, behind n variables: a number of the type, or one of the variables
abbrev pub IsElement : ℕ → VarType → Term → Type 0
IsElement n kind (Const v) = is_of_type kind v ≡ true
IsElement n kind (Var x) = x < n

-- types, definitions and elements are such
abbrev pub IsDeclared : List Item → Item → Type 0
IsDeclared items (item.Var name kind output value var) = IsSmallType kind × IsBounded items kind value
IsDeclared items (item.Vars name kind output elements) = IsSmallType kind × Each (λ b. IsElement (count_variables items) kind (term_of items b)) elements
IsDeclared items _ = Unit {0}

-- ---- arguments

-- a number, or one of the variables that is not Boolean
abbrev pub IsIntTerm : List Item → Term → Type 0
IsIntTerm items (Const v) = Unit {0}
IsIntTerm items (Var x) = (x < count_variables items) × (is_boolean items x ≡ false)

-- 0 or 1, or one of the Boolean variables
abbrev pub IsBoolTerm : List Item → Term → Type 0
IsBoolTerm items (Const v) = (v ≡ pos 0) ⊎ (v ≡ pos 1)
IsBoolTerm items (Var x) = (x < count_variables items) × (is_boolean items x ≡ true)

-- a number
abbrev pub IsConst : Term → Type 0
IsConst (Const v) = Unit {0}
IsConst (Var x) = ⊥

-- a number from 0 to 10^9
abbrev pub IsAmount : ℤ → Type 0
IsAmount v = (pos 0 ≤ℤ v) × (v ≤ℤ pos (10 ^ 9))

-- the term is a number from 0 to 10^9
abbrev pub IsAmountConst : Term → Type 0
IsAmountConst (Const v) = IsAmount v
IsAmountConst (Var x) = ⊥

-- at most so many terms, each such
pub record AreFew (P : Term → Type 0) (terms : List Term) : Type 0 where
  pub few : length terms ≤ 2000000
  pub each : Each P terms

-- argument k is what is wanted
abbrev pub IsFit : List Item → List Expr → ℕ → ArgKind → Type 0
IsFit items args k arg.Int = IsIntTerm items (arg_term items args k)
IsFit items args k arg.Bool = IsBoolTerm items (arg_term items args k)
IsFit items args k arg.Ints = AreFew (IsIntTerm items) (arg_terms items args k)
IsFit items args k arg.Bools = AreFew (IsBoolTerm items) (arg_terms items args k)
IsFit items args k arg.Consts = AreFew IsConst (arg_terms items args k)
IsFit items args k arg.BoolConsts = AreFew IsConst (arg_terms items args k)
IsFit items args k arg.Coefficients = AreFew IsSmallConst (arg_terms items args k)
IsFit items args k arg.Set = Unit {0}
IsFit items args k arg.Const = IsConst (arg_term items args k)
IsFit items args k arg.Amounts = AreFew IsAmountConst (arg_terms items args k)
IsFit items args k arg.Amount = IsAmountConst (arg_term items args k)

-- the arguments from place k on are what is wanted
abbrev pub AreFit : List Item → List Expr → ℕ → List ArgKind → Type 0
AreFit items args k [] = Unit {0}
AreFit items args k (kind ∷ wanted) = IsFit items args k kind × AreFit items args (k + 1) wanted

-- all numbers are equal
abbrev pub AreEqual : List ℕ → Type 0
AreEqual [] = Unit {0}
AreEqual (n ∷ ns) = Each (λ m. m ≡ n) ns

-- the lengths of the arrays among the arguments from place k on
abbrev pub array_lengths : List Item → List Expr → ℕ → List ArgKind → List ℕ
array_lengths items args k [] = []
array_lengths items args k (kind ∷ wanted) =
    if wants_array (Some kind) then length (arg_terms items args k) ∷ array_lengths items args (k + 1) wanted else array_lengths items args (k + 1) wanted

-- where arrays are paired with coefficients or amounts, all have equal lengths
abbrev pub ArePaired : List Item → List Expr → List ArgKind → Type 0
ArePaired items args wanted = list_any pairs_arrays wanted ≡ true → AreEqual (array_lengths items args 0 wanted)

-- the constraint has a meaning, and its arguments are what its kind wants
abbrev pub IsFitted : List Item → Constraint → Type 0
IsFitted items c = MatchOption (constraint_of c.name) ⊥ (λ kind. AreFit items c.args 0 (args_of kind))

-- the constraint has a meaning, and its arrays have equal lengths where its kind pairs them
abbrev pub IsPaired : List Item → Constraint → Type 0
IsPaired items c = MatchOption (constraint_of c.name) ⊥ (λ kind. ArePaired items c.args (args_of kind))

-- ---- the whole

-- one of n variables
abbrev pub IsVariable : ℕ → Term → Type 0
IsVariable n (Var x) = x < n
IsVariable n (Const v) = ⊥

-- what is asked for is a variable
abbrev pub IsGoal : List Item → ModelGoal → Type 0
IsGoal items goal.Satisfy = Unit {0}
IsGoal items (goal.Minimize place) = IsVariable (count_variables items) (term_of items (basic.Item place))
IsGoal items (goal.Maximize place) = IsVariable (count_variables items) (term_of items (basic.Item place))

-- what holds of every model
pub record IsWellFormed (m : Plan) : Type 0 where
  pub spelled : Each (λ e. is_name e.0 ≡ true) (names_of m.items)
  pub apart : AreApart (map (λ e. e.0) (names_of m.items))
  pub numbered : AreNumbered m.items 0 m.items
  pub declared : Each (IsDeclared m.items) m.items
  pub fitted : Each (IsFitted m.items) m.constraints
  pub paired : Each (IsPaired m.items) m.constraints
  pub goal : IsGoal m.items m.goal
  pub few_names : length (names_of m.items) ≤ 200000
  pub few_constraints : length m.constraints ≤ 200000
