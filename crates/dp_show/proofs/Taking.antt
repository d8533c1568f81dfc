-- What ends a log that is shown.
use Rattle.std.specs.Prelude.{◌≡◌, ℕ, Some, None, List, []}
use Rattle.std.proofs.Common.{sym, ◌∙◌, ap}
use Rattle.std.proofs.lemmas.List.{append-nil}
use Rattle.dp_lines.specs.Driving.{limits}
use Rattle.dp_lines.specs.Lines.{Lines, lines}
use Rattle.dp_lines.specs.declared.line.Line.{Line}
use Rattle.dp_lines.specs.declared.refusal.LineRefusal.{LineRefusal}
use Rattle.dp_show.specs.Logs.{shown_lines}
use Rattle.dp_show.specs.Pieces.{Going, HasShown, IsDue, all_shown}
use Rattle.dp_show.specs.declared.shown.Refusal.TheVariants.{Unread}
use Rattle.dp_show.specs.declared.shown.Shown.{Shown}

-- what is shown of these lines
abbrev shown_of : Lines → Shown
shown_of ls = shown_lines [] ls.given ls.refusal

-- it cannot be read
pub unread_due : (j : Going) (answer : Shown) (unread : LineRefusal) (given : List (ℕ × Line)) (text : List ℕ) → answer ≡ record { steps = j.text; refusal = Some (Unread unread) } → HasShown j given →
    lines limits text ≡ record { given = given; refusal = Some unread } → IsDue j text answer
unread_due j answer unread given text a h is =
    a ∙ ap (λ (t : List ℕ). record { steps = t; refusal = Some (Unread unread) }) (sym (append-nil j.text)) ∙ sym (ap shown_of is ∙ all_shown j given (Some unread) h)

-- behind the last line
pub finished : (j : Going) (answer : Shown) (given : List (ℕ × Line)) (text : List ℕ) → answer ≡ record { steps = j.text; refusal = None } → HasShown j given →
    lines limits text ≡ record { given = given; refusal = None } → IsDue j text answer
finished j answer given text a h is =
    a ∙ ap (λ (t : List ℕ). record { steps = t; refusal = None }) (sym (append-nil j.text)) ∙ sym (ap shown_of is ∙ all_shown j given None h)
