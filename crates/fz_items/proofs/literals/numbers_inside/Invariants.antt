use Rattle.std.proofs.Common.{◌≡◌, ◌+◌, ◌≤◌, length, map}
use Rattle.dp_grammar.specs.Listed.{listed}
use Rattle.fz_items.specs.Literals.{number_listing}
use Rattle.fz_model.specs.Limits.{max_elements}
use Rattle.fz_items.specs.Seen.{number_of}
use Rattle.fz_items.proofs.Lists.{IsListed}
use Rattle.fz_items.proofs.literals.numbers_inside.Given as goal

abbrev pub invariant-items : goal.invariant-items
invariant-items l =
    let listing = number_listing l.names l.bound in
    IsListed listing ((listed listing).read l.fn.source.left) (map number_of l.numbers.items) l.source.left
    × (l.source.text ≡ l.fn.source.text)
    × (l.names.elements + length l.numbers.items ≤ max_elements)

abbrev pub decreases-items : goal.decreases-items
decreases-items l = length l.source.left
