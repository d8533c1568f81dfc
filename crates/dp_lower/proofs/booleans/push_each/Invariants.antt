-- What was added so far, with what is left, is the whole.
use Rattle.std.proofs.Common.{◌≡◌, ◌++◌, [], ◌∷◌, drop, map}
use Rattle.dp_lower.specs.Codes.{literal_of}
use Rattle.dp_lower.specs.Sides.{nogoods}
use Rattle.dp_lower.proofs.booleans.push_each.Given as goal

abbrev pub invariant-loop-term : goal.invariant-loop-term
invariant-loop-term l =
    l.parts.items ++ nogoods (map (λ t. l.first ∷ literal_of l.holds t ∷ []) (drop l.term-index l.terms))
    ≡ l.initial.parts.items ++ nogoods (map (λ t. l.first ∷ literal_of l.holds t ∷ []) l.terms)
