-- What is shown of a log: its steps, up to its end or its first refused line.
use Rattle.std.specs.Prelude.{◌≡◌, ℕ, Option, Some, None, List, [], ◌∷◌, ◌++◌}
use Rattle.std.specs.Option.{option_map}
pub use Rattle.dp_lines.specs.Driving.{limits}
use Rattle.dp_lines.specs.Lines.{lines}
use Rattle.dp_lines.specs.SoFar.{lines_so_far}
use Rattle.dp_lines.specs.Spelling.{line_text}
use Rattle.dp_lines.specs.declared.line.Line.{Line}
use Rattle.dp_lines.specs.declared.refusal.LineRefusal.{LineRefusal}
use Rattle.dp_checker.specs.declared.refusal.Why.{Why}
use Rattle.dp_show.specs.Named.{Atoms}
use Rattle.dp_show.specs.Showing.{after, refusal, shown_line}
use Rattle.dp_show.specs.declared.shown.Refusal.{Refusal}
use Rattle.dp_show.specs.declared.shown.Refusal.TheVariants.{Unread, Refused}
use Rattle.dp_show.specs.declared.shown.Shown.{Shown}

-- the text leads what is shown
abbrev pub led_by : List ℕ → Shown → Shown
led_by text shown = record { steps = text ++ shown.steps; refusal = shown.refusal }

-- nothing more is shown
abbrev pub no_more : Option Refusal → Shown
no_more refusal = record { steps = []; refusal = refusal }

-- the refusal of a line by a test
abbrev pub refused : ℕ → Line → Why → Refusal
refused number line why = Refused (record { line = number; why = why }) (line_text line)

-- a refused line ends what is shown; another one leads it
abbrev pub shown_unless : Option Why → ℕ → Line → List ℕ → Shown → Shown
shown_unless None number line text later = led_by text later
shown_unless (Some why) number line text later = no_more (Some (refused number line why))

-- what is shown of these lines, where these atoms are defined, and a line that could not be read may follow
abbrev pub shown_lines : Atoms → List (ℕ × Line) → Option LineRefusal → Shown
shown_lines atoms [] unread = no_more (option_map Unread unread)
shown_lines atoms (line ∷ lines) unread =
    shown_unless (refusal atoms line.1) line.0 line.1 (shown_line atoms line.1) (shown_lines (after atoms line.1) lines unread)

-- what is shown of a log's bytes
abbrev pub shown_log : List ℕ → Shown
shown_log text = let ls = lines limits text in shown_lines [] ls.given ls.refusal

-- no line of the log whose end has come is refused
abbrev pub has_no_refusal : List ℕ → Type 0
has_no_refusal front = let ls = lines_so_far limits front in (shown_lines [] ls.given ls.refusal).refusal ≡ None
