use Rattle.std.proofs.Common.{Option, List, length, subst}
use Rattle.std.specs.Prelude.{IfSome}
use Rattle.dp_domain.specs.Atoms.{Atomic}
use Rattle.dp_checker.specs.Kept.{AreBelow}
use Rattle.dp_checker.specs.SoundnessLaws.{found_each}
use Rattle.dp_checker.proofs.nogood.take_step.Goals as goal

pub take_hint-requires : goal.take_hint-requires
take_hint-requires c =
    subst (λ (o : Option (List Atomic)). IfSome o (AreBelow (length c.args.scratch.now.present))) c.in-Some.ensures (found_each (AreBelow (length c.args.scratch.now.present)) c.args.hint c.args.steps.now c.requires)
