-- The same as a test: whether an assignment satisfies a model.
use Rattle.std.specs.Prelude.{ℕ, Bool, false, List, ℤ}
use Rattle.std.specs.Option.{option_map_or}
use Rattle.fz_model.specs.Table.{constraint_of}
use Rattle.fz_model.specs.declared.model.Constraint.{Constraint}
use Rattle.fz_model.specs.declared.model.Item.{Item}
use Rattle.fz_sat.specs.Meaning.{given, holds}

-- whether the assignment meets the constraint
abbrev pub is_met : List Item → (ℕ → ℤ) → Constraint → Bool
is_met items s c = option_map_or (λ kind. holds kind (given items c.args s)) (constraint_of c.name) false
