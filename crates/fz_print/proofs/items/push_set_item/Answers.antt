use Rattle.std.specs.Prelude.{codes}
use Rattle.fz_print.specs.Printed.{set_text}
use Rattle.fz_print.proofs.Pieces.{behind_three}
use Rattle.fz_print.proofs.items.push_set_item.Goals as goal

pub returns : goal.returns
returns c =
    behind_three c.args.text.now.items (codes "set of int: ") c.args.name.now (codes " = ") (set_text c.args.set.now) _ _
    c.in_ok-push_parameter.ensures c.in_ok-push_set.ensures
