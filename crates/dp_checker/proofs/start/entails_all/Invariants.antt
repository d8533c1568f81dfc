use Rattle.std.proofs.Common.{◌≡◌, drop}
use Rattle.dp_domain.specs.States.{entails_all}
use Rattle.dp_checker.proofs.start.entails_all.Given as goal

abbrev pub invariant-loop-atom : goal.invariant-loop-atom
invariant-loop-atom l =
    entails_all l.state (drop l.atom-index l.atoms) ≡ entails_all l.state l.atoms
