use Rattle.std.proofs.Common.{◌≡◌, take}
use Rattle.std.specs.List.{flat_map}
use Rattle.dp_justify.specs.Pieces.{place_of}
use Rattle.dp_justify.proofs.justification.places.Given as goal

abbrev pub invariant-loop-step : goal.invariant-loop-step
invariant-loop-step l = l.places.items ≡ flat_map (λ k. place_of k.source) (take l.step-index l.steps)
