use Rattle.std.proofs.Common.{◌≡◌, Some, length}
use Rattle.fz_items.specs.Notes.{closing_all, opened}
use Rattle.fz_items.proofs.brackets.pass_over.Given as goal

abbrev pub invariant-words : goal.invariant-words
invariant-words l = (closing_all (opened l.top l.below.items) l.source.left ≡ closing_all (opened (Some l.fn.top) l.fn.below.items) l.fn.source.left) × (l.source.text ≡ l.fn.source.text)

abbrev pub decreases-words : goal.decreases-words
decreases-words l = length l.source.left
