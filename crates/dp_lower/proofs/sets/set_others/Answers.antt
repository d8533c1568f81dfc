-- What is not among the members of a set is not in it.
use Rattle.std.proofs.Common.{◌≡◌, filter}
use Rattle.std.specs.Prelude.{not}
use Rattle.dp_base.specs.Lists.{Among}
use Rattle.dp_domain.specs.Sets.{Collects, IsDomain, IsSmall}
use Rattle.fz_sat.specs.Args.{arg_set, is_in_set}
use Rattle.dp_lower.specs.Small.{small_numbers}
use Rattle.dp_lower.proofs.SetsLaws.{ok_both, others_are}
use Rattle.dp_lower.proofs.sets.set_others.Goals as goal

pub returns : goal.returns
returns c =
    ok_both c.others.result IsDomain (λ g. Collects g (λ v. IsSmall v × (¬ (Among v c.in_ok-members.members)))) (λ g. g ≡ filter (λ v. not (is_in_set (arg_set c.args.items.now c.args.args.now 1) v)) small_numbers)
    c.others.ensures.domain c.others.ensures.numbers
    (λ g domain numbers. others_are (is_in_set (arg_set c.args.items.now c.args.args.now 1)) c.in_ok-members.members g c.in_ok-members.ensures.members domain numbers)
