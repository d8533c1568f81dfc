-- Sides by the relation of a sum to a number, and rows by the relation of two Booleans.
use Rattle.std.specs.Prelude.{ℕ, Bool, true, false, Option, Some, None, List, [], ◌∷◌, map, ℤ}
use Rattle.dp_base.specs.Lists.{Among}
use Rattle.dp_domain.specs.declared.term.Term.{Term}
use Rattle.dp_domain.specs.declared.term.Term.TheVariants.{Var, Const}
use Rattle.dp_lower.specs.Recipe.{other_rows, same_rows}
use Rattle.dp_lower.specs.Sides.{Side, is_above, is_at_most, is_equal, is_other}
use Rattle.dp_lower.specs.Sums.{Sum}
use Rattle.dp_lower.specs.declared.booleans.Pair.{Pair}
use Rattle.dp_lower.specs.declared.booleans.Pair.TheVariants.{Same, Differ, Le, Gt, Lt, Ge}
use Rattle.dp_lower.specs.declared.literal.Literal.{Literal}
use Rattle.dp_lower.specs.declared.literal.Literal.TheVariants.{Holds, Fails}
use Rattle.dp_lower.specs.declared.sides.Relation.{Relation}
use Rattle.dp_lower.specs.declared.sides.Relation.TheVariants.{AtMost, Above, Equal, Other}

-- the relation that holds exactly where this one fails
abbrev pub opposed : Relation → Relation
opposed AtMost = Above
opposed Above = AtMost
opposed Equal = Other
opposed Other = Equal

-- the side that says the relation of the sum to k
abbrev pub side_of : Relation → Sum → ℤ → Side
side_of AtMost q k = is_at_most q k
side_of Above q k = is_above q k
side_of Equal q k = is_equal q k
side_of Other q k = is_other q k

-- the term is a constant, or none of these variables
abbrev pub IsApartFrom : Term → List ℕ → Type 0
IsApartFrom (Var x) xs = ¬ (Among x xs)
IsApartFrom (Const v) xs = Unit {0}

-- ---- Booleans

-- the relation of two Booleans that holds exactly where this one fails
abbrev pub opposed_pair : Pair → Pair
opposed_pair Same = Differ
opposed_pair Differ = Same
opposed_pair Le = Gt
opposed_pair Gt = Le
opposed_pair Lt = Ge
opposed_pair Ge = Lt

-- the rows of the relation
abbrev pub pair_rows : Pair → Term → Term → List (List Literal)
pair_rows Same a b = same_rows a b
pair_rows Differ a b = other_rows a b
pair_rows Le a b = (Holds a ∷ Fails b ∷ []) ∷ []
pair_rows Gt a b = (Fails a ∷ []) ∷ (Holds b ∷ []) ∷ []
pair_rows Lt a b = (Holds a ∷ []) ∷ (Fails b ∷ []) ∷ []
pair_rows Ge a b = (Fails a ∷ Holds b ∷ []) ∷ []

-- the row, behind a literal if there is one
abbrev pub under_row : Option Literal → List Literal → List Literal
under_row None row = row
under_row (Some l) row = l ∷ row

-- the rows, each behind a literal if there is one
abbrev pub under_rows : Option Literal → List (List Literal) → List (List Literal)
under_rows None rows = rows
under_rows (Some l) rows = map (λ row. l ∷ row) rows

-- the literal that the term holds, or that it fails
abbrev pub literal_of : Bool → Term → Literal
literal_of true t = Holds t
literal_of false t = Fails t
