use Rattle.std.proofs.Common.{◌∙◌, sym, ap}
use Rattle.dp_lines.specs.declared.step.Step.{Step}
use Rattle.dp_lines.proofs.StepLaws.{line_step}
use Rattle.dp_lines.proofs.reader.Reader.advance.Goals as goal

pub returns-in-Line-clause-allowed : goal.returns-in-Line-clause-allowed
returns-in-Line-clause-allowed c = line_step c.args.self.now c.in-Line.line (ap (λ (step : Step). step.first) (sym c.in_ok-first.ensures.step) ∙ c.in-Line.is)
