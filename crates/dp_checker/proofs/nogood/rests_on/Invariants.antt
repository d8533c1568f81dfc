use Rattle.std.proofs.Common.{◌≡◌, ◌||◌, eqb, drop}
use Rattle.std.specs.List.{list_all}
use Rattle.dp_domain.specs.States.{entails}
use Rattle.dp_checker.proofs.nogood.rests_on.Given as goal

abbrev pub invariant-loop-atom : goal.invariant-loop-atom
invariant-loop-atom l =
    list_all (λ a. eqb a.var l.var || entails l.state a) (drop l.atom-index l.denial) ≡ list_all (λ a. eqb a.var l.var || entails l.state a) l.denial
