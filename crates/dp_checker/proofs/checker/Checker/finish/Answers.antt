use Rattle.std.proofs.Common.{Result, sym, subst}
use Rattle.std.specs.Prelude.{IfOk}
use Rattle.dp_domain.specs.declared.verdict.Verdict.{Verdict}
use Rattle.dp_checker.specs.Answers.{Checking}
use Rattle.dp_checker.specs.Kept.{IsRight}
use Rattle.dp_checker.specs.declared.refusal.StepRefusal.{StepRefusal}
use Rattle.dp_checker.proofs.Right.{right_conclusion}
use Rattle.dp_checker.proofs.checker.Checker.finish.Goals as goal

pub returns-clause-sound : goal.returns-clause-sound
returns-clause-sound c =
    subst (λ (k : Checking). IfOk c.verdict_of.result (IsRight k.problem)) c.self.view_is
    (subst (λ (r : Result Verdict StepRefusal). IfOk r (IsRight c.self.inside.problem.now)) (sym c.verdict_of.ensures)
    (right_conclusion c.self.inside.problem.now c.args.lines c.self.inside.facts.conclusion c.self.invariant.kept.backed.conclusion))
