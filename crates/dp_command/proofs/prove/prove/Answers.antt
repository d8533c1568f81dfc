-- The reply for a model that is proved, and for one that is refused.
use Rattle.std.proofs.Common.{refl, subst}
use Rattle.dp_command.specs.Found.{IsFound}
use Rattle.dp_command.specs.Words.{Prove}
use Rattle.dp_command.specs.declared.finding.Found.{Found}
use Rattle.dp_command.proofs.Checks.{refused_of}
use Rattle.dp_command.proofs.prove.prove.Goals as goal

pub returns-in-Refusal-clause-due : goal.returns-in-Refusal-clause-due
returns-in-Refusal-clause-due g c =
    refused_of (g.D.Desk.sight c.args.desk.now).names (Prove c.args.model.now c.args.workers c.args.conflicts) c.args.model.now c.in-Refusal.refusal refl
    (subst (λ (w : Found). IsFound (g.D.Desk.sight c.args.desk.now).names c.args.model.now w) c.in-Refusal.is c.in_ok-model.ensures.read)
