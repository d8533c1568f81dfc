-- The lines of a log.
use Rattle.std.specs.Prelude.{ℕ, ◌+◌, nat_lt, if◌then◌else◌, Option, Some, None, Ok, Err, List, [], ◌∷◌, length}
use Rattle.dp_lines.specs.Fields.{Reading, line_of}
use Rattle.dp_lines.specs.RawLines.{Raw, content, raw_lines, size}
use Rattle.dp_lines.specs.Words.{Word, end_of, words}
use Rattle.dp_lines.specs.declared.line.Line.{Line}
use Rattle.dp_lines.specs.declared.refusal.Flaw.{Flaw}
use Rattle.dp_lines.specs.declared.refusal.Flaw.TheVariants.{Form as FormFlaw, Number as NumberFlaw, NotBuilt as NotBuiltFlaw}
use Rattle.dp_lines.specs.declared.refusal.Limits.{Limits}
use Rattle.dp_lines.specs.declared.refusal.LineRefusal.{LineRefusal}
use Rattle.dp_lines.specs.declared.refusal.LineRefusal.TheVariants.{Form, Number, TooLong, LogTooLong, NotBuilt}
use Rattle.dp_lines.specs.declared.judge.Judged.{Judged}
use Rattle.dp_lines.specs.declared.judge.Judged.TheVariants.{Blank, Given, Refused}

-- the refusal of line `number` for a flaw in it
abbrev pub refusal_of : ℕ → Flaw → LineRefusal
refusal_of number (FormFlaw byte) = Form number byte
refusal_of number (NumberFlaw byte) = Number number byte
refusal_of number NotBuiltFlaw = NotBuilt number

abbrev pub judged_by : ℕ → Reading Line → Judged
judged_by number (Ok p) = Given p.0
judged_by number (Err flaw) = Refused (refusal_of number flaw)

-- a line with no words is blank
abbrev pub judged_words : ℕ → ℕ → List Word → Judged
judged_words number end [] = Blank
judged_words number end (w ∷ ws) = judged_by number (line_of end (w ∷ ws))

-- line `number`, by its bytes without its end
abbrev pub judged_content : ℕ → List ℕ → Judged
judged_content number line = judged_words number (end_of line) (words line)

-- Line `number`, before which `passed` bytes stand. It must not hold the byte behind `limits.total`, and must not have
-- more than `limits.line` bytes before its LF; then its words decide.
abbrev pub judged : Limits → ℕ → ℕ → Raw → Judged
judged limits number passed raw =
    if nat_lt limits.total (passed + size raw) then Refused (LogTooLong number)
    else (if nat_lt limits.line (length raw.bytes) then Refused (TooLong number)
    else judged_content number (content raw.bytes))

-- lines with their numbers, and the refusal that ends them, if not the text's end does
pub record Lines : Type 0 where
  pub given : List (ℕ × Line)
  pub refusal : Option LineRefusal

abbrev pub no_lines : Lines
no_lines = record { given = []; refusal = None }

abbrev pub refused : LineRefusal → Lines
refused refusal = record { given = []; refusal = Some refusal }

abbrev pub with_line : ℕ → Line → Lines → Lines
with_line number line lines = record { given = (number, line) ∷ lines.given; refusal = lines.refusal }

-- a blank line is passed over, a line leads those behind it, and a refusal ends them
abbrev pub led_by : ℕ → Judged → Lines → Lines
led_by number Blank after = after
led_by number (Given line) after = with_line number line after
led_by number (Refused refusal) after = refused refusal

-- the lines of these raw lines, before which `count` lines with `passed` bytes stand
abbrev pub lines_behind : Limits → ℕ → ℕ → List Raw → Lines
lines_behind limits count passed [] = no_lines
lines_behind limits count passed (raw ∷ raws) =
    led_by (count + 1) (judged limits (count + 1) passed raw) (lines_behind limits (count + 1) (passed + size raw) raws)

-- the lines of a text that are not blank, up to its end or the first refusal
abbrev pub lines : Limits → List ℕ → Lines
lines limits text = lines_behind limits 0 0 (raw_lines text)
