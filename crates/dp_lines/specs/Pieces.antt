-- A reader of a text that comes in pieces, and the lines that it has given so far.
use Rattle.std.specs.Prelude.{◌≡◌, ℕ, false, List, length}
use Rattle.dp_lines.specs.Readers.{State, fresh, total}
use Rattle.dp_lines.specs.Runs.{Call, IsInOrder, fed_by, run}
use Rattle.dp_lines.specs.SoFar.{HasNoEnd}
use Rattle.dp_lines.specs.declared.line.Line.{Line}
use Rattle.dp_lines.specs.declared.refusal.Limits.{Limits}

-- Some calls fed a fresh reader these bytes: it has given these lines, and stands so.
pub record HasRead (limits : Limits) (text : List ℕ) (given : List (ℕ × Line)) (s : State) : Type 0 where
  pub calls : List Call
  pub order : IsInOrder false calls
  pub unended : s.ended ≡ false → HasNoEnd calls
  pub fed : fed_by calls ≡ text
  pub gave : (run calls (fresh limits)).given ≡ given
  pub stands : (run calls (fresh limits)).state ≡ s
  pub size : total s ≡ length text
