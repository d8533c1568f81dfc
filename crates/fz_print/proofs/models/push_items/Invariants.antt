use Rattle.std.proofs.Common.{◌≡◌, ◌++◌, drop}
use Rattle.fz_print.specs.Printed.{items_text}
use Rattle.fz_print.proofs.models.push_items.Given as goal

abbrev pub invariant-loop-item : goal.invariant-loop-item
invariant-loop-item l =
    l.text.items ++ items_text l.items (drop l.item-index l.items)
    ≡ l.fn.text.items ++ items_text l.items l.items
