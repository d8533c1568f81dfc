use Rattle.std.proofs.Common.{◌≡◌, length}
use Rattle.fz_items.specs.Wholes.{HasItems}
use Rattle.fz_items.proofs.items.items.Given as goal

abbrev pub invariant-items : goal.invariant-items
invariant-items l = HasItems l.fn.source.left l.declared.context l.declared.items l.source.left × (l.source.text ≡ l.fn.source.text)

abbrev pub decreases-items : goal.decreases-items
decreases-items l = length l.source.left
