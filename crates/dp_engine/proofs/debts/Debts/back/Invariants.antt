use Rattle.std.proofs.Common.{◌≡◌, length}
use Rattle.std.specs.Prelude.{reverse}
use Rattle.dp_engine.specs.Debts.{gone}
use Rattle.dp_engine.proofs.debts.Debts.back.Given as goal

-- going back from here leads to the same point
abbrev pub invariant-loop-place : goal.invariant-loop-place
invariant-loop-place l = gone l.self-inside.lasting (reverse l.self-inside.notes.items) l.self-inside.woken ≡ gone l.fn.self.lasting l.fn.self.notes l.fn.self.now

abbrev pub decreases-loop-place : goal.decreases-loop-place
decreases-loop-place l = length l.self-inside.notes.items
