-- What is still to be put back leads to the same state.
use Rattle.std.proofs.Common.{◌≡◌, ◌<◌, length}
use Rattle.dp_base.specs.Lists.{Each}
use Rattle.dp_domain.specs.Scratches.{put_back_all}
use Rattle.dp_domain.proofs.scratch.undo.Given as goal

abbrev pub invariant-loop-last : goal.invariant-loop-last
invariant-loop-last l = record {
  variables : Each (λ r. r.var < length l.present) l.replaced.items;
  same : put_back_all l.replaced.items l.present ≡ put_back_all l.fn.replaced.items l.fn.present;
}

abbrev pub decreases-loop-last : goal.decreases-loop-last
decreases-loop-last l = length l.replaced.items
