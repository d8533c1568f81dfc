-- What the variables that are left give is what all give.
use Rattle.std.proofs.Common.{◌≡◌, drop}
use Rattle.dp_rule_alldiff.specs.Tight.{tight_given}
use Rattle.dp_rule_alldiff.proofs.turn.given.Given as goal

abbrev pub invariant-loop-var : goal.invariant-loop-var
invariant-loop-var l = tight_given l.tight.from.items l.tight.to.items l.state (drop l.var-index l.scope) ≡ tight_given l.tight.from.items l.tight.to.items l.state l.scope
