-- A working state with the state that it goes back to.
use Rattle.std.specs.Prelude.{ℕ, ◌-◌, ◌==◌, Bool, false, Option, Some, None, List, [], ◌∷◌, length, slice_get, slice_set}
use Rattle.dp_domain.specs.States.{Domains}
use Rattle.dp_domain.specs.declared.scratch.Replaced.{Replaced}

-- the state that it began as, and the present one
pub record Working : Type 0 where
  pub base : Domains
  pub present : Domains

-- the state in which the variable has the set that was replaced
abbrev pub put_back : Replaced → Domains → Domains
put_back r d = slice_set d r.var r.set

-- the state before all the sets were replaced, which are listed in order
abbrev pub put_back_all : List Replaced → Domains → Domains
put_back_all [] d = d
put_back_all (r ∷ rs) d = put_back r (put_back_all rs d)

-- whether there is a set, and it is of the variable
abbrev pub is_of : ℕ → Option Replaced → Bool
is_of x None = false
is_of x (Some r) = r.var == x

-- whether the last of the sets is of the variable
abbrev pub ends_with : ℕ → List Replaced → Bool
ends_with x rs = is_of x (slice_get rs (length rs - 1))
