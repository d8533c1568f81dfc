-- What was cut so far is by the elements so far.
use Rattle.std.proofs.Common.{take}
use Rattle.dp_lower.specs.Cuts.{IsCutBy, typed_in}
use Rattle.dp_lower.proofs.domains.cut_elements.Given as goal

abbrev pub invariant-loop-element : goal.invariant-loop-element
invariant-loop-element l = IsCutBy (typed_in l.items (take l.element-index l.elements) l.kind) l.initial.sets.items l.sets.items
