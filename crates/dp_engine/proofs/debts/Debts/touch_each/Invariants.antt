use Rattle.std.proofs.Common.{◌≡◌, length, take}
use Rattle.dp_engine.specs.Debts.{touched_each}
use Rattle.dp_engine.proofs.debts.Debts.touch_each.Given as goal

-- the first of the places are touched
abbrev pub invariant-loop-place : goal.invariant-loop-place
invariant-loop-place l = record {
  touched : l.self ≡ touched_each l.fn.self (take l.place-index l.places);
  count : length l.self.now ≡ length l.fn.self.now;
}
