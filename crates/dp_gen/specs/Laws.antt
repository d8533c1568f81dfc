-- What is true of the family: how large it is, that no model of it has a solution, and why its nogoods follow.
use Rattle.std.specs.Prelude.{◌≡◌, ℕ, ◌+◌, ◌-◌, ◌*◌, Bool, true, false, not, ◌||◌, List, codes, count_by, nat_eq}
use Rattle.std.specs.List.{list_all, list_any, starts_with}
use Rattle.dp_gen.specs.Family.{Clause, clauses, links, model_lines, r, scaffold_lines}

-- how many lines begin so
abbrev pub count_of : List ℕ → List (List ℕ) → ℕ
count_of front lines = count_by (λ line. starts_with nat_eq line front) lines

-- the sizes of the texts with n blocks
pub record HasSizes (n : ℕ) : Type 0 where
  pub variables : count_of (codes "var ") (model_lines n) ≡ 2 * n + 2
  pub constraints : count_of (codes "constraint ") (model_lines n) ≡ 2 * n + 2
  pub nogoods : count_of (codes "n ") (scaffold_lines n) ≡ n + 1

abbrev pub Sizes : Type 0
Sizes = (n : ℕ) → HasSizes n

-- whether values meet a clause
abbrev pub meets : (List ℕ → Bool) → Clause → Bool
meets value c = list_any value c.0 || list_any (λ name. not (value name)) c.1

-- whatever the values, some clause of the model is not met
abbrev pub NoSolution : Type 0
NoSolution = (n : ℕ) (value : List ℕ → Bool) → list_all (meets value) (clauses n) ≡ false

-- where the clauses of block k are met, r goes on from the block before
abbrev pub GoesOn : Type 0
GoesOn = (k : ℕ) (value : List ℕ → Bool) → list_all (meets value) (links k) ≡ true → value (r (k - 1)) ≡ true → value (r k) ≡ true
