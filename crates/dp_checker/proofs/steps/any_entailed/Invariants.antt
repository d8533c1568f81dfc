use Rattle.std.proofs.Common.{◌≡◌, length}
use Rattle.std.specs.List.{list_any}
use Rattle.dp_domain.specs.States.{entails_all}
use Rattle.dp_checker.specs.Stored.{steps_of}
use Rattle.dp_checker.proofs.StoredLaws.{AreRunsBelow, entails_one}
use Rattle.dp_checker.proofs.steps.any_entailed.Given as goal

abbrev pub invariant-loop-run : goal.invariant-loop-run
invariant-loop-run l =
    AreRunsBelow (length l.state) l.atoms l.run-iterator × (entails_one l.state l.atoms l.run-iterator ≡ list_any (λ step. entails_all l.state step.1) (steps_of l.atoms l.runs.entries))
