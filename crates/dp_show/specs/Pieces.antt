-- A log that is shown while it comes in pieces.
use Rattle.std.specs.Prelude.{◌≡◌, ℕ, ◌++◌, IsSome, Option, Some, None, List, []}
use Rattle.std.proofs.Common.{sym, ◌∙◌, ap}
use Rattle.std.proofs.lemmas.List.{append-nil}
use Rattle.dp_checker.specs.declared.refusal.Why.{Why}
use Rattle.dp_lines.specs.Driving.{Coming, HasCome, limits}
use Rattle.dp_lines.specs.Lines.{Lines}
use Rattle.dp_lines.specs.SoFar.{lines_so_far}
use Rattle.dp_lines.specs.declared.line.Line.{Line}
use Rattle.dp_lines.specs.declared.refusal.LineRefusal.{LineRefusal}
use Rattle.dp_show.specs.Logs.{has_no_refusal, led_by, refused, shown_lines, shown_log}
use Rattle.dp_show.specs.Named.{Atoms}
use Rattle.dp_show.specs.Showing.{after, refusal, shown_line}
use Rattle.dp_show.specs.declared.shown.Refusal.{Refusal}
use Rattle.dp_show.specs.declared.shown.Shown.{Shown}

-- what was shown of the lines so far, and the atoms that they define
pub record Going : Type 0 where
  pub text : List ℕ
  pub atoms : Atoms

-- Of these lines this was shown, and none of them is refused: it leads what is shown of any lines behind them.
abbrev pub HasShown : Going → List (ℕ × Line) → Type 0
HasShown j given = (rest : List (ℕ × Line)) (unread : Option LineRefusal) → shown_lines [] (given ++ rest) unread ≡ led_by j.text (shown_lines j.atoms rest unread)

-- these bytes have come, more may follow, and no line whose end has come is refused
abbrev pub IsBehind : Coming Going → List ℕ → Type 0
IsBehind j front = HasCome (HasShown j.taker) front j.reader

-- this is what is shown of the log
abbrev pub IsDue : Going → List ℕ → Shown → Type 0
IsDue j text answer = answer ≡ shown_log text

-- none of the log's lines whose end has come is refused
abbrev pub IsUnrefused : Going → List ℕ → Type 0
IsUnrefused j front = has_no_refusal front

-- it ends with a refused line
abbrev pub Refuses : Shown → Type 0
Refuses shown = IsSome shown.refusal

-- The line is shown and its atom is defined; or a test refuses it, and nothing changes.
abbrev pub IsTaken : Option Refusal → Atoms → List ℕ → ℕ × Line → Atoms → List ℕ → Type 0
IsTaken None atoms text line now_atoms now_text = (refusal atoms line.1 ≡ None) × (now_atoms ≡ after atoms line.1) × (now_text ≡ text ++ shown_line atoms line.1)
IsTaken (Some r) atoms text line now_atoms now_text = (why : Why) × (refusal atoms line.1 ≡ Some why) × (r ≡ refused line.0 line.1 why) × (now_text ≡ text)

-- what is shown of lines where no more come
pub all_shown : (j : Going) (given : List (ℕ × Line)) (unread : Option LineRefusal) → HasShown j given → shown_lines [] given unread ≡ led_by j.text (shown_lines j.atoms [] unread)
all_shown j given unread h = ap (λ (es : List (ℕ × Line)). shown_lines [] es unread) (sym (append-nil given)) ∙ h [] unread

-- where its lines so far were all shown so, none is refused
pub quiet : (j : Going) (given : List (ℕ × Line)) (front : List ℕ) → HasShown j given → lines_so_far limits front ≡ record { given = given; refusal = None } → IsUnrefused j front
quiet j given front h e =
    ap (λ (ls : Lines). (shown_lines [] ls.given ls.refusal).refusal) e ∙ ap (λ (q : Shown). q.refusal) (all_shown j given None h)
