-- The counts beside the names.
use Rattle.std.specs.Prelude.{◌+◌}
use Rattle.fz_model.specs.Context.{Context}

-- with one variable more
abbrev pub with_variable : Context → Context
with_variable context = record context { variables = context.variables + 1 }
