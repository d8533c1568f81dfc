-- Atomic constraints: what they say of a number, and their negations.
use Rattle.std.specs.Prelude.{ℕ, ◌^◌, Bool, not, ◌&&◌, ℤ, pos, neg_ℤ, ◌+ℤ◌, ◌-ℤ◌, ◌≤ℤ◌, int_le}
use Rattle.dp_domain.specs.declared.atom.Op.{Op}
use Rattle.dp_domain.specs.declared.atom.Op.TheVariants.{Ge, Le, Eq, Ne}

-- an atomic constraint: a variable, a comparison and a number
pub record Atomic : Type 0 where
  pub var : ℕ
  pub op : Op
  pub value : ℤ

-- the number x stands in this relation to v
abbrev pub compares : Op → ℤ → ℤ → Bool
compares Ge x v = int_le v x
compares Le x v = int_le x v
compares Eq x v = int_le x v && int_le v x
compares Ne x v = not (int_le x v && int_le v x)

-- the number, as the value of the atom's variable, meets the atom
abbrev pub meets : Atomic → ℤ → Bool
meets a x = compares a.op x a.value

-- the comparison of the negation
abbrev pub opposite : Op → Op
opposite Ge = Le
opposite Le = Ge
opposite Eq = Ne
opposite Ne = Eq

-- the number of the negation: `x >= v` fails where `x <= v - 1` holds
abbrev pub beyond : Op → ℤ → ℤ
beyond Ge v = v -ℤ pos 1
beyond Le v = v +ℤ pos 1
beyond Eq v = v
beyond Ne v = v

-- the atom that holds exactly where this one fails
abbrev pub negated : Atomic → Atomic
negated a = record { var = a.var; op = opposite a.op; value = beyond a.op a.value }

-- the largest number that an atom names
abbrev pub largest : ℤ
largest = pos (10 ^ 18)

-- the numbers that an atom may name, so that its negation may name its own
abbrev pub IsNameable : Op → ℤ → Type 0
IsNameable Ge v = ((neg_ℤ largest +ℤ pos 1) ≤ℤ v) × (v ≤ℤ largest)
IsNameable Le v = (neg_ℤ largest ≤ℤ v) × (v ≤ℤ (largest -ℤ pos 1))
IsNameable Eq v = (neg_ℤ largest ≤ℤ v) × (v ≤ℤ largest)
IsNameable Ne v = (neg_ℤ largest ≤ℤ v) × (v ≤ℤ largest)
