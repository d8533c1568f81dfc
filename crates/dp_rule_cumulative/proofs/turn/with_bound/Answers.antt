-- A constant start gives nothing.
use Rattle.std.proofs.Common.{sym, subst}
use Rattle.dp_rule_cumulative.specs.Profiles.{TakesBound}
use Rattle.dp_rule_cumulative.proofs.turn.with_bound.Goals as goal

pub returns-in-Var : goal.returns-in-Var
returns-in-Var c = subst (λ s. TakesBound c.args.capacity c.args.profile.now c.args.state.now c.args.task.now s c.args.first c.with_bound_on.result) (sym c.in-Var.is) c.with_bound_on.ensures
