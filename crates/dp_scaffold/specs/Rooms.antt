-- Room for one more nogood, with its line and its number.
use Rattle.std.specs.Prelude.{◌<◌, vec_len, vec_capacity}
use Rattle.dp_scaffold.specs.declared.facts.Facts.{Facts}

-- no memory is wanted for one more
pub record HasRoom (f : Facts) : Type 0 where
  pub nogoods : vec_len f.nogoods < vec_capacity f.nogoods
  pub lines : vec_len f.lines < vec_capacity f.lines
  pub ids : vec_len f.ids < vec_capacity f.ids
