-- All-different constraints: terms that differ at all positions.
use Rattle.std.specs.Prelude.{◌≡◌, ℕ, Bool, true, false, ◌&&◌, ◌||◌, ◌⊎◌, ◌==◌, List, [], ◌∷◌, length, map, filter, ℤ, pos, ◌+ℤ◌, ◌-ℤ◌, ◌≤ℤ◌, ◌<ℤ◌, int_le}
use Rattle.std.specs.List.{list_any, list_all}
use Rattle.dp_base.specs.Lists.{Among}
use Rattle.dp_domain.specs.Faces.{Face}
use Rattle.dp_domain.specs.States.{Domains, is_dead}
use Rattle.dp_domain.specs.Terms.{term_at, term_scope, term_values}
use Rattle.dp_domain.specs.declared.term.Term.{Term}
use Rattle.dp_rule_alldiff.specs.Spans.{has_crowd, spans_of}

-- the numbers at all positions differ
abbrev pub AreDistinct : List ℤ → Type 0
AreDistinct [] = Unit {0}
AreDistinct (v ∷ vs) = (¬ (Among v vs)) × AreDistinct vs

-- the terms at all positions differ
abbrev pub MeetsAllDifferent : List Term → (ℕ → ℤ) → Type 0
MeetsAllDifferent terms s = AreDistinct (map (term_at s) terms)

-- whether v is one of the numbers from a to b
abbrev pub is_between : ℤ → ℤ → ℤ → Bool
is_between a b v = int_le a v && int_le v b

-- whether the whole set, which has a number, lies from a to b
abbrev pub lies_between : ℤ → ℤ → List ℤ → Bool
lies_between a b [] = false
lies_between a b (v ∷ vs) = list_all (is_between a b) (v ∷ vs)

-- how many positions have their whole set from a to b
abbrev pub positions_between : Domains → List Term → ℤ → ℤ → ℕ
positions_between d terms a b = length (filter (λ t. lies_between a b (term_values d t)) terms)

-- n exceeds how many numbers there are from a to b, of which there is one
pub record Exceeds (a b : ℤ) (n : ℕ) : Type 0 where
  pub some : a ≤ℤ b
  pub more : ((b -ℤ a) +ℤ pos 1) <ℤ pos n

-- a variable has no value, or some interval contains the whole set of more positions than it has numbers
abbrev pub ClashesAllDifferent : List Term → Domains → Type 0
ClashesAllDifferent terms d = (is_dead d ≡ true) ⊎ ((a : ℤ) × (b : ℤ) × Exceeds a b (positions_between d terms a b))

-- the test of it, by the least and the greatest value of each position
abbrev pub test_all_different : List Term → Domains → Bool
test_all_different terms d = is_dead d || has_crowd (spans_of d terms)

-- its variables and its test; it may take out every value of them
abbrev pub face_all_different : List Term → Face
face_all_different terms = record { scope = term_scope terms; test = test_all_different terms; point = λ x v. list_any (λ y. x == y) (term_scope terms) }
