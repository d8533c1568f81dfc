-- The supported values of a variable, and what a part gives on it by them.
use Rattle.std.specs.Prelude.{◌≡◌, ℕ, ◌↔◌, Bool, true, not, Option, None, option_map, filter, if◌then◌else◌, List, slice_set, ℤ}
use Rattle.dp_base.specs.Lists.{Among}
use Rattle.dp_domain.specs.Atoms.{Atomic}
use Rattle.dp_domain.specs.Sets.{IsDomain, least, greatest, is_among}
use Rattle.dp_domain.specs.States.{Domains, values}
use Rattle.dp_domain.specs.Faces.{Face}
use Rattle.dp_domain.specs.Turns.{at_least, at_most, other_than, or_else}
use Rattle.dp_domain.specs.Explanations.{is_less}

-- just these of the variable's values are supported: where it keeps some of its values, the part clashes exactly where no supported one is left
pub record IsSupport (f : Face) (d : Domains) (x : ℕ) (good : List ℤ) : Type 0 where
  pub domain : IsDomain good
  pub within : (v : ℤ) → Among v good → Among v (values d x)
  pub clash : (p : ℤ → Bool) (v : ℤ) → Among v (values d x) → p v ≡ true →
      (f.test (slice_set d x (filter p (values d x))) ≡ true) ↔ ((w : ℤ) → Among w (values d x) → p w ≡ true → ¬ (Among w good))

-- the least supported value as a lower bound, where it is above the least value
abbrev pub lower_by : List ℤ → List ℤ → ℕ → Option Atomic
lower_by values good x = if is_less (least values) (least good) then option_map (at_least x) (least good) else None

-- the greatest supported value as an upper bound, where it is below the greatest value
abbrev pub upper_by : List ℤ → List ℤ → ℕ → Option Atomic
upper_by values good x = if is_less (greatest good) (greatest values) then option_map (at_most x) (greatest good) else None

-- the bound that the supported values give: a lower one, else an upper one
abbrev pub bound_by : List ℤ → List ℤ → ℕ → Option Atomic
bound_by values good x = or_else (lower_by values good x) (upper_by values good x)

-- the least value that is not supported, taken out
abbrev pub hole_by : List ℤ → List ℤ → ℕ → Option Atomic
hole_by values good x = option_map (other_than x) (least (filter (λ v. not (is_among v good)) values))
