-- A reader of lines that is fed a text in pieces: what it keeps, and the lines that this stands for.
use Rattle.std.specs.Prelude.{◌≡◌, ℕ, ◌+◌, ◌-◌, ◌<◌, ◌≤◌, Bool, true, false, ◌||◌, if◌then◌else◌, Option, Some, None, Result, Ok, Err, List, [], ◌∷◌, ◌++◌, length, take, drop, replicate}
use Rattle.dp_lines.specs.Kept.{has_no_feed}
use Rattle.dp_lines.specs.Lines.{Lines, judged, lines_behind, refused}
use Rattle.dp_lines.specs.RawLines.{Raw, raw_lines, size}
use Rattle.dp_lines.specs.declared.line.Line.{Line}
use Rattle.dp_lines.specs.declared.refusal.Limits.{Limits}
use Rattle.dp_lines.specs.declared.refusal.LineRefusal.{LineRefusal}
use Rattle.dp_lines.specs.declared.step.First.{First}
use Rattle.dp_lines.specs.declared.step.First.TheVariants.{Line as LineFirst, Refusal, Nothing}
use Rattle.dp_lines.specs.declared.step.Step.{Step}
use Rattle.dp_lines.specs.declared.judge.Judged.{Judged}
use Rattle.dp_lines.specs.declared.judge.Judged.TheVariants.{Blank, Given, Refused as RefusedLine}
use Rattle.dp_lines.specs.declared.refusal.LineFault.{LineFault}
use Rattle.dp_lines.specs.declared.refusal.LineFault.TheVariants.{Refused}

-- How many lines and bytes were passed, the bytes that are held of those that no line has taken, how many were counted
-- behind the first of them and are not held, whether the text has ended, and the refusal that was answered.
pub record State : Type 0 where
  pub limits : Limits
  pub count : ℕ
  pub passed : ℕ
  pub held : List ℕ
  pub beyond : ℕ
  pub ended : Bool
  pub refusal : Option LineRefusal

-- nothing was fed
abbrev pub fresh : Limits → State
fresh limits = record { limits = limits; count = 0; passed = 0; held = []; beyond = 0; ended = false; refusal = None }

-- the piece stands behind what is held
abbrev pub fed : State → List ℕ → State
fed s piece = record s { held = s.held ++ piece }

-- how many bytes were fed
abbrev pub total : State → ℕ
total s = s.passed + length s.held + s.beyond

-- no more bytes come
abbrev pub closed : State → State
closed s = record s { ended = true }

-- ---- what a reader stands for

-- What these bytes stand for, where others were counted behind as many as a line may have. Those are written as blanks: a
-- line with them is refused by its length alone.
abbrev pub stands_for : ℕ → ℕ → List ℕ → List ℕ
stands_for limit beyond held = take limit held ++ (replicate beyond 32 ++ drop limit held)

-- the text that no line has taken yet
abbrev pub standing : State → List ℕ
standing s = stands_for s.limits.line s.beyond s.held

-- these bytes begin with as many as a line may have, and its line feed is none of them
pub record IsFull (limit : ℕ) (held : List ℕ) : Type 0 where
  pub full : limit ≤ length held
  pub unfed : has_no_feed (take limit held) ≡ true

-- bytes were counted only where an unfinished line has too many
abbrev pub IsStanding : State → Type 0
IsStanding s = 0 < s.beyond → IsFull s.limits.line s.held

-- ---- the lines that are left

abbrev pub left_unless : Option LineRefusal → Lines → Lines
left_unless None lines = lines
left_unless (Some refusal) lines = refused refusal

-- the lines of the text that are not given yet, if no more bytes come
abbrev pub left : State → Lines
left s = left_unless s.refusal (lines_behind s.limits s.count s.passed (raw_lines (standing s)))

-- ---- one call: what comes first, how many lines are passed with it, and how many of the bytes that no line has taken

abbrev pub nothing_at : ℕ → ℕ → Step
nothing_at count used = record { first = Nothing; count = count; used = used }

-- the step that this line decides, where it is no blank one
abbrev pub decided : Judged → ℕ → ℕ → ℕ → Step → Step
decided Blank count used more next = next
decided (Given line) count used more next = record { first = LineFirst line; count = count + 1; used = used + more }
decided (RefusedLine refusal) count used more next = record { first = Refusal refusal; count = count; used = used }

-- The first of these raw lines that is not blank, where `count` lines were passed and `used` of the bytes behind `passed`.
-- A line without its LF is whole only where the text has ended.
abbrev pub step_from : Limits → Bool → ℕ → ℕ → ℕ → List Raw → Step
step_from limits ended passed count used [] = nothing_at count used
step_from limits ended passed count used (raw ∷ raws) =
    if raw.fed || ended
    then decided (judged limits (count + 1) (passed + used) raw) count used (size raw) (step_from limits ended passed (count + 1) (used + size raw) raws)
    else nothing_at count used

-- a refusal comes again
abbrev pub step_unless : Option LineRefusal → ℕ → Step → Step
step_unless None count step = step
step_unless (Some refusal) count step = record { first = Refusal refusal; count = count; used = 0 }

abbrev pub step_of : State → Step
step_of s = step_unless s.refusal s.count (step_from s.limits s.ended s.passed s.count 0 (raw_lines (standing s)))

abbrev pub refusal_in : First → Option LineRefusal
refusal_in (LineFirst line) = None
refusal_in (Refusal refusal) = Some refusal
refusal_in Nothing = None

-- what is held of an unfinished line: at most as many bytes as a line may have
abbrev pub held_back : ℕ → List ℕ → List ℕ
held_back limit text = take limit text

-- how many bytes are counted behind them
abbrev pub counted : ℕ → List ℕ → ℕ
counted limit text = length text - limit

-- what is held where this text is left; where no line is whole, it is held back
abbrev pub held_behind : First → ℕ → List ℕ → List ℕ → List ℕ
held_behind (LineFirst line) limit held text = held
held_behind (Refusal refusal) limit held text = held
held_behind Nothing limit held text = held_back limit text

-- how many are counted then
abbrev pub beyond_behind : First → ℕ → ℕ → List ℕ → ℕ
beyond_behind (LineFirst line) limit beyond text = beyond
beyond_behind (Refusal refusal) limit beyond text = beyond
beyond_behind Nothing limit beyond text = counted limit text

-- the step's lines are passed, an unfinished line is held back, and a refusal stays
abbrev pub after_step : State → Step → State
after_step s step = record s {
  count = step.count;
  passed = s.passed + step.used;
  held = held_behind step.first s.limits.line (drop step.used s.held) (drop step.used (standing s));
  beyond = beyond_behind step.first s.limits.line s.beyond (drop step.used (standing s));
  refusal = refusal_in step.first;
}

abbrev pub after : State → State
after s = after_step s (step_of s)

-- what a call answers: the line with its number, nothing, or the refusal
abbrev pub answer_by : First → ℕ → Result (Option (ℕ × Line)) LineFault
answer_by (LineFirst line) count = Ok (Some (count, line))
answer_by (Refusal refusal) count = Err (Refused refusal)
answer_by Nothing count = Ok None

abbrev pub answer_of : State → Result (Option (ℕ × Line)) LineFault
answer_of s = answer_by (step_of s).first (step_of s).count
