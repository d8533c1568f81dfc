-- A variable has no value left exactly where such variables are counted.
use Rattle.std.proofs.Common.{sym, ◌∙◌, ap, nat_lt}
use Rattle.dp_domain.specs.States.{is_dead}
use Rattle.dp_domain.proofs.StateLaws.{dead-counted}
use Rattle.dp_domain.proofs.state.State.dead.Goals as goal

pub returns : goal.returns
returns c = ap (λ n. nat_lt 0 n) c.self.invariant.1 ∙ (sym (dead-counted c.self.inside.sets.items) ∙ ap is_dead c.self.view_is)
