use Rattle.std.proofs.Common.{◌≡◌, [], ◌∷◌, length, map}
use Rattle.dp_grammar.specs.Listed.{listed}
use Rattle.fz_model.specs.Words.{Round, Square}
use Rattle.fz_items.specs.Literals.{range_of}
use Rattle.fz_items.specs.Notes.{closing_all, range_listing}
use Rattle.fz_items.proofs.Lists.{IsListed}
use Rattle.fz_items.proofs.ranges.ranges_inside.Given as goal

abbrev pub invariant-items : goal.invariant-items
invariant-items l =
    IsListed range_listing ((listed range_listing).read l.fn.source.left) (map range_of l.ranges.items) l.source.left
    × (l.source.text ≡ l.fn.source.text)
    × (closing_all (Square ∷ Round ∷ []) l.fn.source.left ≡ closing_all (Square ∷ Round ∷ []) l.source.left)

abbrev pub decreases-items : goal.decreases-items
decreases-items l = length l.source.left
