-- Sums of products, and numbers wider than 128 bits.
use Rattle.std.specs.Prelude.{◌≡◌, ℕ, ◌-◌, ◌^◌, ◌⊎◌, List, map, ℤ, pos, neg_ℤ, ◌+ℤ◌, ◌-ℤ◌, ◌*ℤ◌, ◌≤ℤ◌, ◌<ℤ◌}
use Rattle.std.specs.List.{zip}
use Rattle.fz_model.specs.declared.model.Basic.{Basic}
use Rattle.fz_model.specs.declared.model.Item.{Item}
use Rattle.fz_sat.specs.Globals.{total}
use Rattle.fz_sat.specs.Satisfies.{value_of}
use Rattle.fz_sat.specs.declared.wide.Wide.{Wide}

-- the number lies within plus and minus the bound
abbrev pub IsBounded : ℕ → ℤ → Type 0
IsBounded bound v = (neg_ℤ (pos bound) ≤ℤ v) × (v ≤ℤ pos bound)

-- the number that is kept as so many turns of 2^126 and a rest
abbrev pub number_of : Wide → ℤ
number_of w = (w.turns *ℤ pos (2 ^ 126)) +ℤ w.rest

-- the rest is smaller in size than one turn
abbrev pub IsReduced : Wide → Type 0
IsReduced w = IsBounded (2 ^ 126 - 1) w.rest

-- the turns are at most one more or one less
abbrev pub IsNear : ℤ → ℤ → Type 0
IsNear before now = ((before -ℤ pos 1) ≤ℤ now) × (now ≤ℤ (before +ℤ pos 1))

-- to each number of 64 bits, x lies as y does
abbrev pub LiesAs : ℤ → ℤ → Type 0
LiesAs x y = (x ≡ y) ⊎ (((pos (2 ^ 63) <ℤ x) × (pos (2 ^ 63) <ℤ y)) ⊎ ((x <ℤ neg_ℤ (pos (2 ^ 63))) × (y <ℤ neg_ℤ (pos (2 ^ 63)))))

-- the product of the values of two elements
abbrev pub product_of : List Item → (ℕ → ℤ) → Basic × Basic → ℤ
product_of items s p = value_of items s p.0 *ℤ value_of items s p.1

-- the sum of the products of the values of the elements, pair by pair
abbrev pub sum_of_products : List Item → (ℕ → ℤ) → List Basic → List Basic → ℤ
sum_of_products items s first second = total (map (product_of items s) (zip first second))
