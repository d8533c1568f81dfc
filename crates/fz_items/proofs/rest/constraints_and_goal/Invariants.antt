use Rattle.std.proofs.Common.{◌≡◌, ◌≤◌, length}
use Rattle.fz_model.specs.Limits.{max_elements}
use Rattle.fz_items.proofs.RestReads.{IsKept}
use Rattle.fz_items.proofs.rest.constraints_and_goal.Given as goal

abbrev pub invariant-constraints : goal.invariant-constraints
invariant-constraints l = record {
  kept : IsKept l.fn.names l.fn.source.left l.constraints.items l.names l.source.left;
  text : l.source.text ≡ l.fn.source.text;
  room : l.names.elements ≤ max_elements;
}

abbrev pub decreases-constraints : goal.decreases-constraints
decreases-constraints l = length l.source.left
