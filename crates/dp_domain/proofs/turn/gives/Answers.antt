use Rattle.std.proofs.Common.{◌∙◌, sym}
use Rattle.dp_domain.proofs.WorkingLaws.{put-back}
use Rattle.dp_domain.proofs.turn.gives.Goals as goal

pub returns-clause-same : goal.returns-clause-same
returns-clause-same g c =
    put-back c.args.work.now c.replace-old.new.self c.replace.new.self c.var-2.result c.var-3.result _ c.replace-old.result (c.var-3.ensures ∙ sym c.var-2.ensures) c.replace-old.ensures.state c.replace-old.ensures.set c.replace.ensures.state
    ∙ c.requires.same
