-- What a reader's answer says of the lines that are left of the text, whatever comes later.
use Rattle.std.specs.Prelude.{◌≡◌, ℕ, true, false, Option, Some, None, Result, Ok, Err, List, []}
use Rattle.dp_lines.specs.Kept.{begins_whole}
use Rattle.dp_lines.specs.Lines.{Lines, refused, with_line}
use Rattle.dp_lines.specs.RawLines.{raw_lines}
use Rattle.dp_lines.specs.Readers.{State, fed, left, standing}
use Rattle.dp_lines.specs.declared.line.Line.{Line}
use Rattle.dp_lines.specs.declared.refusal.LineFault.{LineFault}
use Rattle.dp_lines.specs.declared.refusal.LineFault.TheVariants.{Refused, Memory}

-- these bytes may come next: none after the end
abbrev pub CanCome : State → List ℕ → Type 0
CanCome s more = s.ended ≡ true → more ≡ []

-- whatever comes, the lines that were left are those that are left now, changed so
abbrev pub Leaves : State → (Lines → Lines) → State → Type 0
Leaves s change now = (more : List ℕ) → CanCome s more → left (fed s more) ≡ change (left (fed now more))

-- no whole line is left
abbrev pub HasNoWhole : State → Type 0
HasNoWhole s = begins_whole s.ended (raw_lines (standing s)) ≡ false

-- A line led what was left; or it is all left, without a whole line; or it ends here with the refusal.
abbrev pub Told : Result (Option (ℕ × Line)) LineFault → State → State → Type 0
Told (Ok (Some numbered)) s now = Leaves s (with_line numbered.0 numbered.1) now
Told (Ok None) s now = Leaves s (λ lines. lines) now × HasNoWhole now
Told (Err (Refused refusal)) s now = Leaves s (λ lines. refused refusal) now
Told (Err Memory) s now = now ≡ s
