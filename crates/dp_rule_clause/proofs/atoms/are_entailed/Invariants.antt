-- Each atom is entailed if those that are left are.
use Rattle.std.proofs.Common.{◌≡◌, drop}
use Rattle.dp_domain.specs.States.{entails_all}
use Rattle.dp_rule_clause.proofs.atoms.are_entailed.Given as goal

abbrev pub invariant-loop-atom : goal.invariant-loop-atom
invariant-loop-atom l = entails_all l.state l.atoms ≡ entails_all l.state (drop l.atom-index l.atoms)
