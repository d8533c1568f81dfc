use Rattle.dp_lower.proofs.NameLaws.{fresh_var}
use Rattle.dp_lower.proofs.names.add_item.Goals as goal

pub add_name-requires : goal.add_name-requires
add_name-requires c = rw c.in_ok-name-in-Var.ensures (fresh_var c.args.names.now.entries c.args.item.now _ _ _ _ _ c.in-Var.is c.requires.fresh)
