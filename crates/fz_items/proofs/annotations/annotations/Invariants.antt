use Rattle.std.proofs.Common.{◌≡◌, ℕ, ◌<◌, length}
use Rattle.fz_items.specs.Notes.{notes, notes_from, notes_of}
use Rattle.fz_items.proofs.annotations.annotations.Given as goal

abbrev pub invariant-notes : goal.invariant-notes
invariant-notes l =
    ((most : ℕ) × ((length l.source.left < most) × (notes_from most (notes_of l.notes) l.source.left ≡ notes l.fn.source.left)))
    × (l.source.text ≡ l.fn.source.text)

abbrev pub decreases-notes : goal.decreases-notes
decreases-notes l = length l.source.left
