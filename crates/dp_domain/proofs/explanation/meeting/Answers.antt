-- The set without those that fail one of the atoms.
use Rattle.std.proofs.Common.{◌≡◌, not, ◌∙◌, ap}
use Rattle.std.specs.List.{filter}
use Rattle.std.proofs.lemmas.Result.{IfOk-weaker}
use Rattle.dp_domain.specs.Sets.{is_among}
use Rattle.dp_domain.specs.States.{fails_one}
use Rattle.dp_domain.proofs.WorkingLaws.{without-passing}
use Rattle.dp_domain.proofs.explanation.meeting.Goals as goal

pub returns : goal.returns
returns c =
    IfOk-weaker c.without.result (λ left. left ≡ filter (λ v. not (is_among v c.refute.new.self)) c.args.set.now) (λ left. left ≡ filter (λ v. not (fails_one c.args.var c.args.atoms.now v)) c.args.set.now)
    (λ left e. e ∙ without-passing (fails_one c.args.var c.args.atoms.now) c.args.set.now c.refute.new.self (c.in_ok-refute.ensures.kept ∙ ap (filter (fails_one c.args.var c.args.atoms.now)) c.in_ok-refuted.ensures))
    c.without.ensures.numbers
