use Rattle.std.proofs.Common.{◌≡◌, length, drop}
use Rattle.dp_domain.specs.States.{cut_all}
use Rattle.dp_checker.specs.Kept.{AreBelow}
use Rattle.dp_checker.proofs.start.cut_by.Given as goal

abbrev pub invariant-loop-atom : goal.invariant-loop-atom
invariant-loop-atom l = record {
  base : l.scratch.base ≡ l.fn.scratch.base;
  below : AreBelow (length l.scratch.present) (drop l.atom-index l.atoms);
  cut : cut_all l.scratch.present (drop l.atom-index l.atoms) ≡ cut_all l.fn.scratch.present l.atoms;
}
