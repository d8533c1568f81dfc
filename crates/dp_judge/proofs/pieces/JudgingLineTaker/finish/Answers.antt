-- The answer behind the last line.
use Rattle.std.specs.Prelude.{◌≡◌, ℕ, None, List, length}
use Rattle.std.proofs.Common.{subst}
use Rattle.dp_lines.specs.Driving.{limits}
use Rattle.dp_lines.specs.Lines.{lines}
use Rattle.dp_lines.specs.RawLines.{raw_lines}
use Rattle.dp_lines.specs.declared.line.Line.{Line}
use Rattle.dp_judge.specs.Pieces.{Going, HasJudged, IsDue}
use Rattle.dp_judge.proofs.Taking.{finished}
use Rattle.dp_judge.proofs.pieces.JudgingLineTaker.finish.Goals as goal

pub returns : goal.returns
returns c =
    subst (λ (b : Going). (given : List (ℕ × Line)) (text : List ℕ) → HasJudged b given → lines limits text ≡ record { given = given; refusal = None } → length (raw_lines text) ≡ c.args.count →
    IsDue b text c.concluded.result) c.self.view_is
    (λ given text h is counted. finished c.self.inside.checker c.concluded.result given text c.args.count c.concluded.ensures.answer c.concluded.ensures.right h is counted)
