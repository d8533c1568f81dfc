-- A line passes, or a test refuses it.
use Rattle.std.specs.Prelude.{◌≡◌, ℕ, ◌∷◌, ◌++◌, [], List, Err, Some}
use Rattle.std.proofs.Common.{sym, ◌∙◌, ap, subst}
use Rattle.dp_lines.specs.Driving.{limits}
use Rattle.dp_lines.specs.Lines.{Lines, lines}
use Rattle.dp_lines.specs.Runs.{with_all}
use Rattle.dp_lines.specs.declared.line.Line.{Line}
use Rattle.dp_scaffold.specs.declared.fault.GatherFault.TheVariants.{Refused as Refusing}
use Rattle.dp_scaffold.specs.Pieces.{Going, HasGathered, IsDue}
use Rattle.dp_scaffold.specs.declared.answer.ScaffoldAnswer.TheVariants.{Refused}
use Rattle.dp_scaffold.proofs.Taking.{refused, taken}
use Rattle.dp_scaffold.proofs.pieces.ScaffoldReadingLineTaker.take.Goals as goal

pub returns-in-Ok-clause-going : goal.returns-in-Ok-clause-going
returns-in-Ok-clause-going c = λ none.
    subst (λ (b : Going). (given : List (ℕ × Line)) → HasGathered b given → HasGathered c.take.new.self (given ++ (c.args.number, c.args.line) ∷ [])) c.self.view_is
    (λ given h. taken c.self.inside.gatherer c.take.new.self given c.args.number c.args.line c.take.ensures.problem c.in-Ok.ensures.judged c.in-Ok.ensures.told h)

pub returns-in-Err-Refused-clause-refused : goal.returns-in-Err-Refused-clause-refused
returns-in-Err-Refused-clause-refused c = (
  tt,
  subst (λ (b : Going). (given : List (ℕ × Line)) (rest : Lines) (text : List ℕ) → HasGathered b given → lines limits text ≡ with_all (given ++ (c.args.number, c.args.line) ∷ []) rest →
      IsDue b text (Refused c.in-Err-Refused.refusal (Some c.in_ok-text-in-Err-Refused.text))) c.self.view_is
      (λ given rest text h is. refused c.self.inside.gatherer c.take.new.self c.take.result c.in-Err-Refused.refusal given c.args.number c.args.line rest text c.in_ok-text-in-Err-Refused.text
      c.in_ok-text-in-Err-Refused.ensures (c.in-Err-Refused.is ∙ ap Err (c.in-Err-Refused.field-0-is ∙ ap Refusing (sym c.in-Err-Refused.refusal-is))) c.take.ensures.judged c.take.ensures.told h is),
)
