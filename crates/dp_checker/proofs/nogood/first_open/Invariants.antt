use Rattle.std.proofs.Common.{◌≡◌, drop}
use Rattle.dp_domain.specs.States.{entails_all}
use Rattle.dp_checker.proofs.nogood.first_open.Given as goal

abbrev pub invariant-loop-atom : goal.invariant-loop-atom
invariant-loop-atom l =
    entails_all l.state (drop l.atom-index l.denial) ≡ entails_all l.state l.denial
