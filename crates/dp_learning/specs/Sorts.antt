-- How many nogoods can be learned: atoms by the initial values that they keep.
use Rattle.std.specs.Prelude.{ℕ, List, [], ◌∷◌, length, map, filter, not, ◌&&◌, Bool, true, false, ℤ}
use Rattle.std.specs.List.{flat_map, sum_by}
use Rattle.std.specs.Ordering.{int_eq}
use Rattle.dp_domain.specs.Atoms.{Atomic, meets}
use Rattle.dp_domain.specs.States.{Domains, values}
use Rattle.dp_domain.specs.Turns.{at_least, at_most, other_than}
use Rattle.dp_domain.specs.declared.atom.Op.TheVariants.{Eq}

-- the initial values of its variable that the atom keeps; with the variable they are its sort
abbrev pub kept_by : Domains → Atomic → List ℤ
kept_by initial a = filter (meets a) (values initial a.var)

-- [x == v]
abbrev pub equal_to : ℕ → ℤ → Atomic
equal_to x v = record { var = x; op = Eq; value = v }

-- whether the lists are one
abbrev pub same_values : List ℤ → List ℤ → Bool
same_values [] [] = true
same_values (v ∷ vs) (w ∷ ws) = int_eq v w && same_values vs ws
same_values vs ws = false

-- the lists, each once
abbrev pub different : List (List ℤ) → List (List ℤ)
different [] = []
different (vs ∷ lists) = vs ∷ filter (λ ws. not (same_values vs ws)) (different lists)

-- what the atoms at one of the variable's values keep of its values
abbrev pub kept_at : List ℤ → ℤ → List (List ℤ)
kept_at initial v = map (λ a. filter (meets a) initial) (at_least 0 v ∷ at_most 0 v ∷ equal_to 0 v ∷ other_than 0 v ∷ [])

-- the different lists that one atom can keep of the values: none of them, all, and those by one of the values
abbrev pub kept_lists : List ℤ → List (List ℤ)
kept_lists initial = different ([] ∷ initial ∷ flat_map (kept_at initial) initial)

-- the number of sorts of atoms: the sum, over the variables, of the number of such lists
abbrev pub sort_count : Domains → ℕ
sort_count initial = sum_by (λ vs. length (kept_lists vs)) initial
