-- The reply for a log that is shown.
use Rattle.std.specs.Prelude.{◌≡◌, ℕ, ◌+◌, ◌<◌, ◌≤◌, ◌^◌, Option, Some, None, List, [], ◌∷◌, length}
use Rattle.std.proofs.Common.{refl, subst, arith}
use Rattle.dp_checker.specs.declared.refusal.Why.{Why}
use Rattle.dp_desk.specs.Channel.{Channel, IsAtEnd}
use Rattle.dp_lines.proofs.SizeLaws.{read_small}
use Rattle.dp_lines.specs.Lines.{lines}
use Rattle.dp_lines.specs.declared.line.Line.{Line}
use Rattle.dp_lines.specs.declared.refusal.LineRefusal.{LineRefusal}
use Rattle.dp_show.specs.Logs.{limits, shown_lines, shown_log, shown_unless}
use Rattle.dp_show.specs.Named.{Atoms}
use Rattle.dp_show.specs.Showing.{after, refusal, shown_line}
use Rattle.dp_show.specs.declared.shown.Refusal.{Refusal}
use Rattle.dp_show.specs.declared.shown.Shown.{Shown}
use Rattle.dp_command.specs.Texts.{shown_status}

-- what follows a line that is not refused is all shown where all is
later_shown : (why : Option Why) (number : ℕ) (line : Line) (text : List ℕ) (later : Shown) → (shown_unless why number line text later).refusal ≡ None → later.refusal ≡ None
later_shown None number line text later e = e
later_shown (Some why) number line text later e = absurd cc

-- where all is shown, each line was read
all_read : (atoms : Atoms) (given : List (ℕ × Line)) (unread : Option LineRefusal) → (shown_lines atoms given unread).refusal ≡ None → unread ≡ None
all_read atoms [] None e = refl
all_read atoms [] (Some unread) e = absurd cc
all_read atoms (line ∷ given) unread e =
    all_read (after atoms line.1) given unread
    (later_shown (refusal atoms line.1) line.0 line.1 (shown_line atoms line.1) (shown_lines (after atoms line.1) given unread) e)

-- a log that is shown to its end is within its limit
shown_small : (text : List ℕ) → (shown_log text).refusal ≡ None → length text ≤ 2 ^ 40
shown_small text e = read_small text (all_read [] (lines limits text).given (lines limits text).refusal e)

all_shown : (refusal : Option Refusal) → shown_status refusal ≡ 0 → refusal ≡ None
all_shown None e = refl
all_shown (Some refusal) e = absurd cc

-- so all of it was read
pub shown_ended : (shown : Shown) (text : List ℕ) (now : Channel) → shown ≡ shown_log text → (length text < 2 ^ 40 + 1 → IsAtEnd now) → shown_status shown.refusal ≡ 0 → IsAtEnd now
shown_ended shown text now e end status =
    let small = shown_small text (subst (λ (s : Shown). s.refusal ≡ None) e (all_shown shown.refusal status)) in
    end (omega (arith, small))
