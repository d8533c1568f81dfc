-- Where the number is no value, all values are supported.
use Rattle.std.proofs.Common.{refl, sym, ◌∙◌}
use Rattle.dp_domain.specs.States.{values}
use Rattle.dp_rule_linear.proofs.UnequalSteps.{always_made, nothing_taken}
use Rattle.dp_rule_linear.proofs.unequal.other_atom.Goals as goal
use Rattle.dp_rule_linear.proofs.unequal.other_atom.Goals.{in_default-via-in-Some+else-not-entails, in_default-via-in_default}

pub returns-in_default : goal.returns-in_default
returns-in_default c = elim c.in_default.branch [
  | in_default-via-in-Some+else-not-entails w ↦
      nothing_taken (values c.args.state.now c.args.var) c.set-set.result.now c.args.var c.args.value _ w.in-Some.atom c.set-set.ensures c.requires.small refl w.in-Some.ensures.atom (sym w.entails.ensures ∙ w.if-not-entails.false)
  | in_default-via-in_default w ↦ always_made c.new.result c.args.value _ _ c.requires.small refl c.new.ensures.nameable w.in_default.is
]
