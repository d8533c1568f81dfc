-- One list of atoms after another.
use Rattle.std.proofs.Common.{◌≡◌, ◌++◌}
use Rattle.std.specs.List.{filter}
use Rattle.std.proofs.lemmas.Result.{IfOk-weaker}
use Rattle.dp_domain.specs.Explanations.{failing}
use Rattle.dp_domain.specs.States.{cut_all, values}
use Rattle.dp_domain.proofs.WorkingLaws.{meets_all, set_by_three}
use Rattle.dp_domain.proofs.explanation.set_by.Goals as goal

pub returns : goal.returns
returns c =
    IfOk-weaker c.missing.result (λ left. left ≡ filter (meets_all c.args.var (failing c.args.target.now)) c.in_ok-by_rest.by_rest) (λ set. set ≡ values (cut_all c.args.initial.now ((c.args.kept.now ++ c.args.rest.now) ++ failing c.args.target.now)) c.args.var)
    (λ left e. set_by_three c.args.initial.now c.args.var c.args.kept.now c.args.rest.now (failing c.args.target.now) c.set.result.now c.in_ok-by_kept.by_kept c.in_ok-by_rest.by_rest left c.requires c.set.ensures c.in_ok-by_kept.ensures c.in_ok-by_rest.ensures e)
    c.missing.ensures
