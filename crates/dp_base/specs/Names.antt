-- The form of names, after the identifiers of FlatZinc (MiniZinc handbook, "FlatZinc grammar").
use Rattle.std.specs.Prelude.{ℕ, Bool, false, not, ◌&&◌, ◌||◌, ◌==◌, List, [], ◌∷◌, codes, nat_le, Option}
use Rattle.std.specs.List.{list_all, list_any}
use Rattle.std.specs.Map.{lookup}
use Rattle.std.specs.Str.{bytes_eq}

-- whether the byte is an ASCII letter or `_`
abbrev pub is_first : ℕ → Bool
is_first b = (nat_le 65 b && nat_le b 90) || ((nat_le 97 b && nat_le b 122) || (b == 95))

-- whether the byte is a letter, a digit or `_`
abbrev pub is_later : ℕ → Bool
is_later b = is_first b || (nat_le 48 b && nat_le b 57)

-- the words that are no names
abbrev pub keywords : List (List ℕ)
keywords =
    codes "array" ∷ codes "bool" ∷ codes "constraint" ∷ codes "false" ∷ codes "float" ∷ codes "int" ∷ codes "maximize" ∷ codes "minimize"
    ∷ codes "of" ∷ codes "predicate" ∷ codes "satisfy" ∷ codes "set" ∷ codes "solve" ∷ codes "true" ∷ codes "var" ∷ []

-- whether it begins with a letter or `_`, goes on with letters, digits and `_`
abbrev pub is_word : List ℕ → Bool
is_word [] = false
is_word (b ∷ bs) = is_first b && list_all is_later bs

-- whether it is a word and no keyword
abbrev pub is_name : List ℕ → Bool
is_name bytes = is_word bytes && not (list_any (bytes_eq bytes) keywords)

-- the variable of the name
abbrev pub named : List (List ℕ × ℕ) → List ℕ → Option ℕ
named names name = lookup (bytes_eq name) names
