-- Logs of whole lines in their canonical spelling, and what reading one back means.
use Rattle.std.specs.Prelude.{◌≡◌, ℕ, ◌+◌, ◌≤◌, None, List, ◌++◌, length, map}
use Rattle.std.specs.List.{enumerate_from, flat_map}
use Rattle.dp_base.specs.Lists.{Each}
use Rattle.dp_lines.specs.Allowed.{IsAllowed}
use Rattle.dp_lines.specs.Lines.{Lines}
use Rattle.dp_lines.specs.Readers.{State}
use Rattle.dp_lines.specs.Runs.{Call, Ask}
use Rattle.dp_lines.specs.Spelling.{fields_text, line_text}
use Rattle.dp_lines.specs.declared.line.Line.{Line}
use Rattle.dp_lines.specs.declared.refusal.Limits.{Limits}

-- the spellings of the lines, joined
abbrev pub log_text : List Line → List ℕ
log_text log = flat_map line_text log

-- a line with allowed fields that is spelled in no more bytes before its LF than a line may have
abbrev pub Holds : Limits → Line → Type 0
Holds limits line = IsAllowed line × (length (fields_text line) ≤ limits.line)

-- these lines with their numbers from 1, and no refusal
abbrev pub all_of : List Line → Lines
all_of log = record { given = enumerate_from 1 log; refusal = None }

-- The reader holds the spelling of the line, then these bytes, and has counted no others. Its limits hold the line, and it
-- has refused nothing.
pub record IsNext (s : State) (line : Line) (rest : List ℕ) : Type 0 where
  pub begins : s.held ≡ line_text line ++ rest
  pub uncounted : s.beyond ≡ 0
  pub unrefused : s.refusal ≡ None
  pub fits : Holds s.limits line
  pub within : s.passed + length (line_text line) ≤ s.limits.total

-- the reader when it has given that line
abbrev pub behind_line : State → Line → List ℕ → State
behind_line s line rest = record s { count = s.count + 1; passed = s.passed + length (line_text line); held = rest }

-- The same of all lines of a log.
pub record AreNext (s : State) (log : List Line) (rest : List ℕ) : Type 0 where
  pub begins : s.held ≡ log_text log ++ rest
  pub uncounted : s.beyond ≡ 0
  pub unrefused : s.refusal ≡ None
  pub fits : Each (Holds s.limits) log
  pub within : s.passed + length (log_text log) ≤ s.limits.total

-- the reader when it has given them
abbrev pub behind_log : State → List Line → List ℕ → State
behind_log s log rest = record s { count = s.count + length log; passed = s.passed + length (log_text log); held = rest }

-- a call of `line` for each of them
abbrev pub asked_for : List Line → List Call
asked_for log = map (λ line. Ask) log
