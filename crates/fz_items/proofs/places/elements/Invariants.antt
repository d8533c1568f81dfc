use Rattle.std.proofs.Common.{◌≡◌, map, take}
use Rattle.fz_items.specs.Places.{basic_in, names_in}
use Rattle.fz_items.specs.Seen.{basic_text}
use Rattle.fz_items.proofs.places.elements.Given as goal

abbrev pub invariant-loop-word : goal.invariant-loop-word
invariant-loop-word l = l.elements.items ≡ map (basic_in (names_in l.names)) (map basic_text (take l.word-index l.words))
