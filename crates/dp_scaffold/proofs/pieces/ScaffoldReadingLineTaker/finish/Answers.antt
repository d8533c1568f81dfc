-- The answer behind the last line.
use Rattle.std.specs.Prelude.{◌≡◌, ℕ, None, List, length}
use Rattle.std.proofs.Common.{subst}
use Rattle.dp_lines.specs.Driving.{limits}
use Rattle.dp_lines.specs.Lines.{lines}
use Rattle.dp_lines.specs.RawLines.{raw_lines}
use Rattle.dp_lines.specs.declared.line.Line.{Line}
use Rattle.dp_scaffold.specs.Pieces.{Going, HasGathered, IsDue}
use Rattle.dp_scaffold.proofs.Taking.{finished}
use Rattle.dp_scaffold.proofs.pieces.ScaffoldReadingLineTaker.finish.Goals as goal

pub returns : goal.returns
returns c =
    subst (λ (b : Going). (given : List (ℕ × Line)) (text : List ℕ) → HasGathered b given → lines limits text ≡ record { given = given; refusal = None } → length (raw_lines text) ≡ c.args.count →
    IsDue b text c.claimed.result) c.self.view_is
    (λ given text h is counted. finished c.self.inside.gatherer c.claimed.result given text c.args.count c.claimed.ensures.answer c.claimed.ensures.scaffold h is counted)
