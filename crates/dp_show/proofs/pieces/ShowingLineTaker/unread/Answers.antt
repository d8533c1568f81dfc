-- A line that cannot be read.
use Rattle.std.specs.Prelude.{◌≡◌, ℕ, Some, List}
use Rattle.std.proofs.Common.{subst}
use Rattle.dp_lines.specs.Driving.{limits}
use Rattle.dp_lines.specs.Lines.{lines}
use Rattle.dp_lines.specs.declared.line.Line.{Line}
use Rattle.dp_show.specs.Pieces.{Going, HasShown, IsDue}
use Rattle.dp_show.proofs.Taking.{unread_due}
use Rattle.dp_show.proofs.pieces.ShowingLineTaker.unread.Goals as goal

pub returns-clause-answered : goal.returns-clause-answered
returns-clause-answered c =
    subst (λ (b : Going). (given : List (ℕ × Line)) (text : List ℕ) → HasShown b given → lines limits text ≡ record { given = given; refusal = Some c.args.refusal } →
    IsDue b text c.refused.result) c.self.view_is
    (λ given text h is. unread_due (record { text = c.self.inside.text.items; atoms = c.self.inside.atoms.entries }) c.refused.result c.args.refusal given text c.refused.ensures h is)
