-- What is no set has no numbers.
use Rattle.std.proofs.Common.{◌≡◌, [], filter, refl, subst, sym}
use Rattle.dp_domain.specs.Sets.{Collects, IsDomain, LiesInOne}
use Rattle.fz_model.specs.declared.model.SetText.{SetText}
use Rattle.fz_model.specs.declared.model.SetText.TheVariants as set
use Rattle.fz_sat.specs.Args.{arg_set, is_in_set}
use Rattle.dp_lower.specs.Small.{small_numbers}
use Rattle.dp_lower.proofs.SetsLaws.{members_are, ok_both}
use Rattle.dp_lower.proofs.sets.set_members.Goals as goal

pub returns-in-None-clause-members : goal.returns-in-None-clause-members
returns-in-None-clause-members c =
    ok_both c.of.result IsDomain (λ d. Collects d (LiesInOne [])) (λ d. d ≡ filter (is_in_set (arg_set c.args.items.now c.args.args.now 1)) small_numbers) c.of.ensures.domain c.of.ensures.numbers
    (λ d domain numbers. subst (λ (s : SetText). d ≡ filter (is_in_set s) small_numbers) (sym c.in-None.ensures) (members_are (set.List []) [] d refl domain numbers))
