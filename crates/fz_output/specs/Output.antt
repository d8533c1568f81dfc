-- The text of a solution, in MiniZinc's format of solutions: a line for each variable and each array that is marked.
use Rattle.std.specs.Prelude.{ℕ, Bool, true, false, List, [], ◌∷◌, ◌++◌, length, codes, Option, Some, None, ℤ}
use Rattle.std.specs.Fmt.{decimal, signed_decimal}
use Rattle.std.specs.List.{flat_map}
use Rattle.fz_model.specs.Models.{Plan}
use Rattle.fz_model.specs.declared.model.Basic.{Basic}
use Rattle.fz_model.specs.declared.model.Item.{Item}
use Rattle.fz_model.specs.declared.model.Item.TheVariants as item
use Rattle.fz_model.specs.declared.model.VarType.{VarType}
use Rattle.fz_model.specs.declared.model.VarType.TheVariants as type
use Rattle.fz_sat.specs.Meaning.{is_on}
use Rattle.fz_sat.specs.Satisfies.{value_of}

-- ---- values

abbrev pub truth_text : Bool → List ℕ
truth_text true = codes "true"
truth_text false = codes "false"

-- a number as a value of the type: a word for a Boolean, else decimal digits, behind a minus for a number below 0
abbrev pub value_text : VarType → ℤ → List ℕ
value_text type.Bool v = truth_text (is_on v)
value_text _ v = signed_decimal v

-- ---- arrays

-- a range, from its first number to its second, in front of what follows it
abbrev pub range_text : ℤ × ℤ → List ℕ
range_text r = signed_decimal r.0 ++ codes ".." ++ signed_decimal r.1 ++ codes ", "

-- the value of an element of an array of this type
abbrev pub element_text : VarType → List Item → (ℕ → ℤ) → Basic → List ℕ
element_text kind items s element = value_text kind (value_of items s element)

-- the values of these elements, a comma and a blank between any two
abbrev pub elements_text : VarType → List Item → (ℕ → ℤ) → List Basic → List ℕ
elements_text kind items s [] = []
elements_text kind items s (e ∷ elements) = element_text kind items s e ++ flat_map (λ b. codes ", " ++ element_text kind items s b) elements

-- an array: its number of ranges, the ranges, and the values of its elements in square brackets
abbrev pub array_text : VarType → List (ℤ × ℤ) → List Item → (ℕ → ℤ) → List Basic → List ℕ
array_text kind ranges items s elements =
    codes "array" ++ decimal (length ranges) ++ codes "d(" ++ flat_map range_text ranges ++ codes "[" ++ elements_text kind items s elements ++ codes "])"

-- ---- lines

-- a name and the text of its value, with `;` and LF
abbrev pub line : List ℕ → List ℕ → List ℕ
line name value = name ++ codes " = " ++ value ++ 59 ∷ 10 ∷ []

-- a variable or an alias; nothing where it is not marked
abbrev pub variable_line : Bool → List ℕ → VarType → ℤ → List ℕ
variable_line true name kind v = line name (value_text kind v)
variable_line false name kind v = []

-- an array with the ranges that it is marked with; nothing where it is not marked
abbrev pub array_line : Option (List (ℤ × ℤ)) → List ℕ → VarType → List Item → (ℕ → ℤ) → List Basic → List ℕ
array_line (Some ranges) name kind items s elements = line name (array_text kind ranges items s elements)
array_line None name kind items s elements = []

-- what is printed of an item of these items; an alias has its own name and type, and the number of its variable
abbrev pub item_line : List Item → (ℕ → ℤ) → Item → List ℕ
item_line items s (item.Var name kind output value var) = variable_line output name kind (s var)
item_line items s (item.Vars name kind output elements) = array_line output name kind items s elements
item_line items s _ = []

-- the lines of a model's items at an assignment, in order of declaration
abbrev pub solution_lines : Plan → (ℕ → ℤ) → List ℕ
solution_lines m s = flat_map (item_line m.items s) m.items
