-- A log that is judged while it comes in pieces.
use Rattle.std.specs.Prelude.{◌≡◌, ℕ, None, Ok, IsOk, List}
use Rattle.std.proofs.Common.{refl, sym, subst}
use Rattle.dp_lines.specs.Driving.{Coming, HasCome, limits}
use Rattle.dp_lines.specs.Lines.{Lines}
use Rattle.dp_lines.specs.SoFar.{lines_so_far}
use Rattle.dp_lines.specs.declared.line.Line.{Line}
use Rattle.dp_parts.specs.Problems.{IsProblem, posed}
use Rattle.dp_checker.specs.Answers.{Checking}
use Rattle.dp_checker.specs.Judged.{judge_all}
use Rattle.dp_checker.specs.Known.{nothing}
use Rattle.dp_judge.specs.Logs.{IsGoalAnswer, IsRightAnswer, IsSmallAnswer, has_no_refusal, judged_log}
use Rattle.dp_judge.specs.declared.answer.LogAnswer.{LogAnswer}
use Rattle.dp_judge.specs.declared.answer.LogAnswer.TheVariants.{Accepted, Unread, Refused}

-- a problem, and what the lines so far have made known
abbrev pub Going : Type 0
Going = Checking

-- these lines were judged, and none of them is refused
pub record HasJudged (j : Going) (given : List (ℕ × Line)) : Type 0 where
  pub problem : IsProblem j.problem
  pub judged : j.progress ≡ judge_all (posed j.problem) (Ok nothing) given
  pub going : IsOk j.progress

-- these bytes have come, more may follow, and each line whose end has come passes
abbrev pub IsBehind : Coming Going → List ℕ → Type 0
IsBehind j front = HasCome (HasJudged j.taker) front j.reader

-- the answer for this log, and what is promised of it
pub record IsDue (j : Going) (text : List ℕ) (answer : LogAnswer) : Type 0 where
  pub answered : answer ≡ judged_log (posed j.problem) text
  pub right : IsRightAnswer j.problem answer
  pub goal : IsGoalAnswer j.problem answer
  pub small : IsSmallAnswer text answer

-- none of the log's lines whose end has come is refused
abbrev pub IsUnrefused : Going → List ℕ → Type 0
IsUnrefused j front = has_no_refusal (posed j.problem) front

-- a line of the log is refused, or it ends without a conclusion
abbrev pub Refuses : LogAnswer → Type 0
Refuses (Accepted verdict) = ⊥
Refuses (Unread refusal) = Unit {0}
Refuses (Refused refusal text) = Unit {0}

-- where its lines so far were all judged so, none is refused
pub quiet : (j : Going) (given : List (ℕ × Line)) (front : List ℕ) → HasJudged j given → lines_so_far limits front ≡ record { given = given; refusal = None } → IsUnrefused j front
quiet j given front h e =
    subst (λ (l : Lines). (l.refusal ≡ None) × IsOk (judge_all (posed j.problem) (Ok nothing) l.given)) (sym e) (refl, subst IsOk h.judged h.going)
