-- What follows from linear forms for their variables.
use Rattle.std.specs.Prelude.{◌≡◌, ℕ, ◌<◌, ◌≤◌, true, false, not, length, Option, None, option_map, filter, unwrap_or, List, [], ◌∷◌, ℤ, pos, ◌+ℤ◌, ◌-ℤ◌, ◌*ℤ◌, int_le}
use Rattle.dp_domain.specs.Atoms.{Atomic, meets, negated}
use Rattle.dp_domain.specs.declared.found.Found.{Found}
use Rattle.dp_domain.specs.declared.found.Found.TheVariants.{Atom}
use Rattle.dp_domain.specs.Sets.{greatest, least}
use Rattle.dp_domain.specs.States.{Domains, values}
use Rattle.dp_domain.specs.Turns.{or_else}
use Rattle.dp_domain.specs.Supports.{bound_by, hole_by}
use Rattle.dp_rule_linear.specs.Differs.{is_same, is_single}
use Rattle.dp_rule_linear.specs.Forms.{least_product, term_at}

-- the values that exceed the least of them by at most so much
abbrev pub near_least : ℤ → List ℤ → List ℤ
near_least room xs = filter (λ v. int_le v (unwrap_or (least xs) (pos 0) +ℤ room)) xs

-- the values that the greatest of them exceeds by at most so much
abbrev pub near_greatest : ℤ → List ℤ → List ℤ
near_greatest room xs = filter (λ v. int_le (unwrap_or (greatest xs) (pos 0) -ℤ room) v) xs

-- the values of the term's variable at which the term exceeds its least value by at most so much
abbrev pub fitting : ℤ → Domains → ℤ × ℕ → List ℤ
fitting slack d t = filter (λ v. int_le (t.0 *ℤ v) (slack +ℤ least_product d t)) (values d t.1)

-- the bound that such values give, on the first term's variable that they give one on
abbrev pub first_bound : ℤ → Domains → List (ℤ × ℕ) → Option Atomic
first_bound slack d [] = None
first_bound slack d (t ∷ ts) = or_else (bound_by (values d t.1) (fitting slack d t) t.1) (first_bound slack d ts)

-- the values of the condition's variable that fail it
abbrev pub failing_values : Domains → Atomic → List ℤ
failing_values d c = filter (meets (negated c)) (values d c.var)

-- the turn of a part that does not clash and gives this, if anything
abbrev pub found_of : Option Atomic → Option Found
found_of o = option_map Atom o

-- the values at which the term is not this number
abbrev pub unequal : ℤ → Domains → ℤ × ℕ → List ℤ
unequal number d t = filter (λ v. not (is_same (t.0 *ℤ v) number)) (values d t.1)

-- the bound that supported values give, else the hole
abbrev pub atom_by : List ℤ → List ℤ → ℕ → Option Atomic
atom_by values good x = or_else (bound_by values good x) (hole_by values good x)

-- the first term from a place on whose variable has not one value stands at this place
pub record IsFirstOpen (d : Domains) (ts : List (ℤ × ℕ)) (start place : ℕ) : Type 0 where
  pub after : start ≤ place
  pub within : place < length ts
  pub before : (j : ℕ) → start ≤ j → j < place → is_single (values d (term_at ts j).1) ≡ true
  pub more : is_single (values d (term_at ts place).1) ≡ false

-- each variable of the terms from a place on has one value
abbrev pub AreSingleFrom : Domains → List (ℤ × ℕ) → ℕ → Type 0
AreSingleFrom d ts start = (j : ℕ) → start ≤ j → j < length ts → is_single (values d (term_at ts j).1) ≡ true
