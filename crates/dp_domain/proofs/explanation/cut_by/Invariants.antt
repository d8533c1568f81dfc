use Rattle.std.proofs.Common.{◌≡◌, drop, length}
use Rattle.dp_domain.specs.States.{cut_all}
use Rattle.dp_domain.proofs.explanation.cut_by.Given as goal

-- the cuts that are left lead to where all lead
abbrev pub invariant-loop-atom : goal.invariant-loop-atom
invariant-loop-atom l = record {
  base : l.work.base ≡ l.initial.work.base;
  cuts : cut_all l.work.present (drop l.atom-index l.atoms) ≡ cut_all l.initial.work.present l.atoms;
  count : length l.work.present ≡ length l.initial.work.present;
}
