use Rattle.std.proofs.Common.{length, ◌∙◌, ap, sym}
use Rattle.std.proofs.lemmas.Result.{on_ok_weaker}
use Rattle.dp_domain.specs.Explanations.{failing}
use Rattle.dp_domain.specs.States.{Domains, cut_all}
use Rattle.dp_domain.proofs.ExplanationSteps.{cut_all-append, length_cut, of_same}
use Rattle.dp_domain.proofs.explanation.cut_anew.Goals as goal

pub cut_target-requires : goal.cut_target-requires
cut_target-requires c =
    of_same c.args.work.now.base c.cut_by.new.work.present (failing c.args.target.now)
    (length_cut _ _ c.args.atoms.now c.in_ok-cut_by.ensures.state ∙ ap (λ (d : Domains). length d) c.reset.ensures.present) c.requires.target

pub returns-clause-state : goal.returns-clause-state
returns-clause-state c =
    on_ok_weaker c.cut_target.result
    (λ e. e ∙ ap (λ (d : Domains). cut_all d (failing c.args.target.now)) (c.in_ok-cut_by.ensures.state ∙ ap (λ (d : Domains). cut_all d c.args.atoms.now) c.reset.ensures.present)
    ∙ sym (cut_all-append c.args.work.now.base c.args.atoms.now (failing c.args.target.now)))
    c.cut_target.ensures.state
