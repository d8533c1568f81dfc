-- The log of a scaffold is accepted, or a limit is told.
use Rattle.std.proofs.Common.{ℕ, List, ap, ◌∙◌}
use Rattle.dp_judge.specs.Logs.{judged_log}
use Rattle.dp_parts.specs.Problems.{posed}
use Rattle.fz_prove.specs.Proofs.{log_end}
use Rattle.fz_prove.proofs.EndLemmas.{limited_of}
use Rattle.fz_prove.proofs.checking.check_scaffold.Goals as goal

pub returns-in-Ok-clause-limited : goal.returns-in-Ok-clause-limited
returns-in-Ok-clause-limited g c =
    limited_of c.args.problem.now c.args.scaffold.now c.args.text c.in-Ok.processed.text c.in_ok-proof-in-Ok.proof c.in-Ok.ensures.text
    (c.in_ok-proof-in-Ok.ensures ∙ ap (λ (log : List ℕ). log_end c.args.text (judged_log (posed c.args.problem.now) log)) c.bytes.ensures)
    c.in-Ok.ensures.allowed c.in-Ok.ensures.accepted c.in-Ok.ensures.checked
