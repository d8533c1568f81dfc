-- The answer behind the last line.
use Rattle.std.specs.Prelude.{◌≡◌, ℕ, None, List, length}
use Rattle.std.proofs.Common.{subst}
use Rattle.dp_lines.specs.Driving.{limits}
use Rattle.dp_lines.specs.Lines.{lines}
use Rattle.dp_lines.specs.RawLines.{raw_lines}
use Rattle.dp_lines.specs.declared.line.Line.{Line}
use Rattle.dp_show.specs.Pieces.{Going, HasShown, IsDue}
use Rattle.dp_show.proofs.Taking.{finished}
use Rattle.dp_show.proofs.pieces.ShowingLineTaker.finish.Goals as goal

pub returns : goal.returns
returns c =
    subst (λ (b : Going). (given : List (ℕ × Line)) (text : List ℕ) → HasShown b given → lines limits text ≡ record { given = given; refusal = None } → length (raw_lines text) ≡ c.args._count →
    IsDue b text c.shown.result) c.self.view_is
    (λ given text h is counted. finished (record { text = c.self.inside.text.items; atoms = c.self.inside.atoms.entries }) c.shown.result given text c.shown.ensures h is)
