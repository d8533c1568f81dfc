-- A cut is within the state.
use Rattle.std.proofs.Common.{sym, subst}
use Rattle.dp_domain.specs.States.{Domains, IsWithin}
use Rattle.dp_domain.proofs.StateLaws.{IsWithin-cut}
use Rattle.dp_trials.proofs.states.cut.Goals as goal

pub returns : goal.returns
returns c = subst (λ (e : Domains). IsWithin e c.args.state.now) (sym c.in_ok-exclude.ensures.kept) (IsWithin-cut c.args.state.now c.args.atom)
