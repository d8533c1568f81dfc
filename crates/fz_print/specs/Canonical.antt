-- The words of a model's canonical spelling, as a value of the grammar.
use Rattle.std.specs.Prelude.{ℕ, Bool, true, false, ◌⊎◌, List, [], ◌∷◌, length, map, codes, Option, Some, None, ℤ, pos}
use Rattle.std.proofs.Common.{inl, inr}
use Rattle.dp_grammar.specs.Brackets.{Inside, Out, Token, Open, Close}
use Rattle.fz_model.specs.Annotations.{Annotated}
use Rattle.fz_model.specs.Constraints.{ArgText, ArgTruth, ArgWhole, ArgName, ArgWords, ConstraintWords}
use Rattle.fz_model.specs.Context.{BasicText, Truth, Whole, Name}
use Rattle.fz_model.specs.Items.{IntText, SetWords, TypeWords}
use Rattle.fz_model.specs.ModelText.{GoalWords, ItemWords, ModelWords}
use Rattle.fz_model.specs.Models.{Plan}
use Rattle.fz_model.specs.Words.{Bracket, Round, Square, Comma, DoubleDot, Number, PlainWord, Stop}
use Rattle.fz_model.specs.declared.model.Basic.{Basic}
use Rattle.fz_model.specs.declared.model.Basic.TheVariants as basic
use Rattle.fz_model.specs.declared.model.Constraint.{Constraint}
use Rattle.fz_model.specs.declared.model.Expr.{Expr}
use Rattle.fz_model.specs.declared.model.Expr.TheVariants as expr
use Rattle.fz_model.specs.declared.model.Item.{Item}
use Rattle.fz_model.specs.declared.model.Item.TheVariants as item
use Rattle.fz_model.specs.declared.model.ModelGoal.{ModelGoal}
use Rattle.fz_model.specs.declared.model.ModelGoal.TheVariants as goal
use Rattle.fz_model.specs.declared.model.SetText.{SetText}
use Rattle.fz_model.specs.declared.model.SetText.TheVariants as set
use Rattle.fz_model.specs.declared.model.VarType.{VarType}
use Rattle.fz_model.specs.declared.model.VarType.TheVariants as type
use Rattle.fz_print.specs.Printed.{name_text}

-- ---- literals, names and sets

-- a number that no `..` follows
abbrev pub number_words : ℤ → IntText
number_words value = (value, false)

abbrev pub range_words : ℤ → ℤ → IntText × IntText
range_words first last = ((first, true), (last, false))

abbrev pub set_words : SetText → SetWords
set_words (set.List numbers) = inl (map number_words numbers)
set_words (set.Range first last) = inr (range_words first last)

abbrev pub type_words : VarType → TypeWords
type_words type.Bool = inl tt
type_words type.Int = inr (inl tt)
type_words (type.Range first last) = inr (inr (inr (range_words first last)))
type_words (type.List numbers) = inr (inr (inl (map number_words numbers)))

abbrev pub basic_words : List Item → Basic → BasicText
basic_words items (basic.Bool value) = Truth value
basic_words items (basic.Int value) = Whole value false
basic_words items (basic.Item place) = Name (name_text items place)

-- ---- annotations

-- without annotations
abbrev pub plain : {C : Type 0} → C → Annotated C
plain close = inr close

-- a variable, to be printed or not
abbrev pub marked : {C : Type 0} → Bool → C → Annotated C
marked true close = inl ([], (record { name = codes "output_var"; args = None }, close))
marked false close = inr close

-- what stands inside the two brackets that are open
abbrev pub InSizes : Type 0
InSizes = Inside PlainWord Bracket (Square ∷ (Round ∷ []))

abbrev pub range_inside : ℤ × ℤ → InSizes → InSizes
range_inside r rest = Token (Number r.0 true) (Token (Stop DoubleDot) (Token (Number r.1 false) rest))

-- further ranges, a comma in front of each, and the two brackets
abbrev pub further_inside : List (ℤ × ℤ) → InSizes
further_inside [] = Close Square (Close Round Out)
further_inside (r ∷ ranges) = Token (Stop Comma) (range_inside r (further_inside ranges))

abbrev pub ranges_inside : List (ℤ × ℤ) → InSizes
ranges_inside [] = Close Square (Close Round Out)
ranges_inside (r ∷ ranges) = range_inside r (further_inside ranges)

-- an array, to be printed with these ranges or not
abbrev pub sized : {C : Type 0} → Option (List (ℤ × ℤ)) → C → Annotated C
sized None close = inr close
sized (Some ranges) close = inl ([], (record { name = codes "output_array"; args = Some (Open Square (ranges_inside ranges)) }, close))

-- ---- items

abbrev pub definition_words : List Item → Option Basic → BasicText ⊎ Unit {0}
definition_words items None = inr tt
definition_words items (Some value) = inl (basic_words items value)

-- '1' '..' and the number of elements
abbrev pub size_words : ℕ → Bool × IntText
size_words count = (true, (pos count, false))

abbrev pub kind_words : Bool → Unit {0} ⊎ Unit {0}
kind_words true = inl tt
kind_words false = inr tt

abbrev pub item_words : List Item → Item → ItemWords
item_words items (item.Int name value) = inr (inl (name, plain (value, false)))
item_words items (item.Bool name value) = inr (inr (inl (name, plain value)))
item_words items (item.Set name set) = inr (inr (inr (inl (name, plain (set_words set)))))
item_words items (item.Consts name bools elements) =
    inr (inr (inr (inr (inl (size_words (length elements), inr (kind_words bools, (name, plain (map (basic_words items) elements))))))))
item_words items (item.Var name kind output value var) =
    inr (inr (inr (inr (inr (type_words kind, (name, marked output (definition_words items value)))))))
item_words items (item.Vars name kind output elements) =
    inr (inr (inr (inr (inl (size_words (length elements), inl (type_words kind, (name, sized output (map (basic_words items) elements))))))))

-- ---- constraints and the goal

abbrev pub arg_text_of : List Item → Basic → ArgText
arg_text_of items (basic.Bool value) = ArgTruth value
arg_text_of items (basic.Int value) = ArgWhole value
arg_text_of items (basic.Item place) = ArgName (name_text items place)

abbrev pub arg_words : List Item → Expr → ArgWords
arg_words items (expr.Basic value) = inr (inr (inr (arg_text_of items value)))
arg_words items (expr.Set (set.List numbers)) = inl (map number_words numbers)
arg_words items (expr.Set (set.Range first last)) = inr (inr (inl (first, (last, false))))
arg_words items (expr.Array elements) = inr (inl (map (basic_words items) elements))

abbrev pub constraint_words : List Item → Constraint → ConstraintWords
constraint_words items c = (c.name, (map (arg_words items) c.args, plain tt))

abbrev pub goal_words : List Item → ModelGoal → GoalWords
goal_words items goal.Satisfy = inl tt
goal_words items (goal.Minimize place) = inr (inl tt, name_text items place)
goal_words items (goal.Maximize place) = inr (inr tt, name_text items place)

-- ---- the whole

-- the words of the canonical spelling
abbrev pub canonical : Plan → ModelWords
canonical m = (map (item_words m.items) m.items, (map (constraint_words m.items) m.constraints, plain (goal_words m.items m.goal)))
