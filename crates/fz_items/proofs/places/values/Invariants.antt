use Rattle.std.proofs.Common.{◌≡◌, map, take}
use Rattle.fz_items.specs.Seen.{number_of}
use Rattle.fz_items.proofs.places.values.Given as goal

abbrev pub invariant-loop-number : goal.invariant-loop-number
invariant-loop-number l = l.values.items ≡ map (λ p. p.0) (map number_of (take l.number-index l.numbers))
