-- What was read so far, with what is left, is the whole.
use Rattle.std.proofs.Common.{◌≡◌, ◌++◌, drop}
use Rattle.fz_sat.specs.Args.{terms_of}
use Rattle.dp_lower.proofs.terms.terms_of.Given as goal

abbrev pub invariant-loop-element : goal.invariant-loop-element
invariant-loop-element l = l.terms.items ++ terms_of l.items (drop l.element-index l.elements) ≡ terms_of l.items l.elements
