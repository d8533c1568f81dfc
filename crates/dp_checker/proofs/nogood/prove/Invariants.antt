use Rattle.std.proofs.Common.{◌≡◌, length, drop}
use Rattle.dp_base.specs.Lists.{Each}
use Rattle.dp_checker.specs.Kept.{AreBelow}
use Rattle.dp_checker.specs.Known.{denials}
use Rattle.dp_parts.specs.Rules.{proves}
use Rattle.dp_checker.proofs.nogood.prove.Given as goal

abbrev pub invariant-loop-hint : goal.invariant-loop-hint
invariant-loop-hint l = record {
  base : l.scratch.base ≡ l.fn.scratch.base;
  below : Each (λ step. AreBelow (length l.scratch.present) step.1) l.steps;
  proved : proves l.scratch.present (denials l.steps (drop l.hint-index l.hints)) ≡ proves l.fn.scratch.present (denials l.steps l.hints);
}
