-- Sides: parts under a condition, and how constraints are built of them.
use Rattle.std.specs.Prelude.{ℕ, Bool, false, not, if◌then◌else◌, Option, Some, None, List, [], ◌∷◌, ◌++◌, filter, ℤ, pos, neg_ℤ, ◌-ℤ◌}
use Rattle.std.specs.List.{filter_map, flat_map, list_any}
use Rattle.dp_domain.specs.Atoms.{Atomic}
use Rattle.dp_domain.specs.declared.atom.Op.TheVariants.{Ge, Le}
use Rattle.dp_domain.specs.declared.term.Term.{Term}
use Rattle.dp_domain.specs.declared.term.Term.TheVariants.{Var, Const}
use Rattle.dp_parts.specs.declared.part.Part.{Part}
use Rattle.dp_parts.specs.declared.part.Part.TheVariants.{Nogood, Within}
use Rattle.dp_rule_clause.specs.Nogoods.{each_once}
use Rattle.fz_model.specs.declared.model.SetText.{SetText}
use Rattle.fz_sat.specs.Args.{is_in_set}
use Rattle.fz_sat.specs.Meaning.{is_on}
use Rattle.dp_lower.specs.Small.{small_numbers}
use Rattle.dp_lower.specs.Sums.{Sum, at_most, opposite, other_than}
use Rattle.dp_lower.specs.declared.literal.Literal.{Literal}
use Rattle.dp_lower.specs.declared.literal.Literal.TheVariants.{Holds, Fails}

-- parts that wait for a condition, if there is one
abbrev pub Side : Type 0
Side = Option Atomic → List Part

-- ---- conditions

-- the Boolean variable holds
abbrev pub on : ℕ → Atomic
on x = record { var = x; op = Ge; value = pos 1 }

-- the Boolean variable fails
abbrev pub off : ℕ → Atomic
off x = record { var = x; op = Le; value = pos 0 }

-- the parts without a condition
abbrev pub always : Side → List Part
always side = side None

-- the one side where r holds, the other where it fails; where r is a constant, its side without condition
abbrev pub reified : Term → Side → Side → List Part
reified (Var r) side other = side (Some (on r)) ++ other (Some (off r))
reified (Const v) side other = if is_on v then always side else always other

-- ---- sums

-- the sum is at most k
abbrev pub is_at_most : Sum → ℤ → Side
is_at_most q k condition = at_most q k condition ∷ []

-- the sum is above k
abbrev pub is_above : Sum → ℤ → Side
is_above q k condition = at_most (opposite q) (neg_ℤ k -ℤ pos 1) condition ∷ []

-- the sum is k
abbrev pub is_equal : Sum → ℤ → Side
is_equal q k condition = at_most q k condition ∷ at_most (opposite q) (neg_ℤ k) condition ∷ []

-- the sum differs from k
abbrev pub is_other : Sum → ℤ → Side
is_other q k condition = other_than q k condition ∷ []

-- ---- sets

-- the variable is one of the numbers within ±10^9 that pass the test
abbrev pub passes : ℕ → (ℤ → Bool) → Side
passes x test condition = Within (record { condition = condition; var = x; set = filter test small_numbers }) ∷ []

-- the variable is in the set
abbrev pub is_member : ℕ → SetText → Side
is_member x set = passes x (is_in_set set)

-- the variable is not in the set, and within ±10^9
abbrev pub is_no_member : ℕ → SetText → Side
is_no_member x set = passes x (λ v. not (is_in_set set v))

-- ---- nogoods

-- whether the literal of a constant fails
abbrev pub is_refuted : Literal → Bool
is_refuted (Holds (Const v)) = not (is_on v)
is_refuted (Fails (Const v)) = is_on v
is_refuted _ = false

-- the atom of a literal of a variable
abbrev pub atom_of : Literal → Option Atomic
atom_of (Holds (Var x)) = Some (on x)
atom_of (Fails (Var x)) = Some (off x)
atom_of _ = None

-- not all of the literals: the atoms of variables, each once; no part where a constant's literal fails
abbrev pub nogood : List Literal → List Part
nogood literals = if list_any is_refuted literals then [] else Nogood (each_once (filter_map atom_of literals)) ∷ []

-- a nogood of each of these lists
abbrev pub nogoods : List (List Literal) → List Part
nogoods rows = flat_map nogood rows
