use Rattle.std.proofs.Common.{◌≡◌, ◌+◌, ◌≤◌, length, map}
use Rattle.dp_grammar.specs.Listed.{listed}
use Rattle.fz_items.specs.Wants.{element_listing}
use Rattle.fz_model.specs.Limits.{max_elements}
use Rattle.fz_items.specs.Seen.{basic_text}
use Rattle.fz_items.proofs.Lists.{IsListed}
use Rattle.fz_items.proofs.elements.elements_inside.Given as goal

abbrev pub invariant-items : goal.invariant-items
invariant-items l =
    let listing = element_listing l.names l.want l.size in
    IsListed listing ((listed listing).read l.fn.source.left) (map basic_text l.elements.items) l.source.left
    × (l.source.text ≡ l.fn.source.text)
    × (l.names.elements + length l.elements.items ≤ max_elements)

abbrev pub decreases-items : goal.decreases-items
decreases-items l = length l.source.left
