-- What is written of a scaffold is accepted, and what it concludes is right.
use Rattle.std.proofs.Common.{◌≡◌, List, ℕ, sym, subst}
use Rattle.dp_judge.specs.Logs.{judged_log}
use Rattle.dp_judge.specs.declared.answer.LogAnswer.TheVariants.{Accepted}
use Rattle.dp_parts.specs.Problems.{posed}
use Rattle.dp_replay.specs.Accepting.{AreShort}
use Rattle.dp_writer.specs.Steps.{lines}
use Rattle.dp_process.specs.Processed.{log_of}
use Rattle.dp_process.proofs.AcceptLaws.{log_accepted, text_accepted}
use Rattle.dp_process.proofs.RightLaws.{accepted_right}
use Rattle.dp_process.proofs.processing.process.Goals as goal

pub returns-clause-accepted : goal.returns-clause-accepted
returns-clause-accepted g c =
    log_accepted c.args.problem.now c.args.scaffold.now c.name_count-names.ensures.problem c.name_count-names.ensures.names c.nogoods-nogoods.ensures.scaffold c.requires.scaffold
    c.in_ok-done.ensures.follows

pub returns-clause-right : goal.returns-clause-right
returns-clause-right g c =
    accepted_right c.args.problem.now c.name_count-names.ensures.problem (lines (log_of c.args.problem.now c.args.scaffold.now)) c.args.scaffold.now.claim (returns-clause-accepted g c)

pub returns-clause-checked : goal.returns-clause-checked
returns-clause-checked g c =
    subst (λ (text : List ℕ). AreShort (lines (log_of c.args.problem.now c.args.scaffold.now)) text → judged_log (posed c.args.problem.now) text ≡ Accepted c.args.scaffold.now.claim)
    (sym c.in_ok-done.ensures.text)
    (text_accepted c.args.problem.now c.args.scaffold.now c.name_count-names.ensures.problem c.name_count-names.ensures.names c.nogoods-nogoods.ensures.scaffold c.requires.scaffold
    c.in_ok-done.ensures.follows c.in_ok-done.ensures.allowed)
