use Rattle.std.proofs.Common.{◌≡◌, ℕ, ◌||◌, length, take, ℤ}
use Rattle.dp_justify.specs.Pairs.{excluded, pairs_of}
use Rattle.dp_justify.proofs.gone.enter.Given as goal

abbrev pub invariant-loop-atom : goal.invariant-loop-atom
invariant-loop-atom l = record {
  count : length l.gone.items ≡ length l.initial.gone.items;
  pairs : (x : ℕ) → (v : ℤ) → pairs_of l.gone.items x v ≡ (pairs_of l.initial.gone.items x v || excluded l.fn.initial (take l.atom-index l.premises) x v);
}
