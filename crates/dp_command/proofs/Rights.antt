-- What a log concludes that a check accepts is right of the problem.
use Rattle.std.specs.Prelude.{◌≡◌, ℕ, Option, Some, None, Result, Ok, Err, List, [], ◌∷◌, length, map}
use Rattle.std.proofs.Common.{refl, sym, subst}
use Rattle.dp_domain.specs.declared.verdict.Verdict.{Verdict}
use Rattle.dp_checker.specs.Judged.{after, first_refusal, judge_all, outcome, verdict_of}
use Rattle.dp_checker.specs.Kept.{IsRight}
use Rattle.dp_checker.specs.Known.{Known, nothing}
use Rattle.dp_checker.specs.declared.refusal.StepRefusal.{StepRefusal}
use Rattle.dp_checker.specs.declared.refusal.Why.{Why}
use Rattle.dp_judge.specs.Logs.{IsGoalAnswer, IsOfGoal, answer_after, conclude, ended, judged_log, limits}
use Rattle.dp_judge.specs.declared.answer.LogAnswer.{LogAnswer}
use Rattle.dp_judge.specs.declared.answer.LogAnswer.TheVariants.{Accepted}
use Rattle.dp_judge.proofs.AcceptLaws.{accepted_goal}
use Rattle.dp_lines.specs.Lines.{Lines, lines}
use Rattle.dp_lines.specs.RawLines.{raw_lines}
use Rattle.dp_lines.specs.declared.line.Line.{Line}
use Rattle.dp_lines.specs.declared.refusal.LineRefusal.{LineRefusal}
use Rattle.dp_parts.specs.Posed.{Posed}
use Rattle.dp_parts.specs.Problems.{Csp, IsProblem, posed}
use Rattle.dp_process.proofs.RightLaws.{accepted_right}
use Rattle.dp_replay.specs.Accepting.{IsAccepted}

-- ---- numbers of lines

-- a refusal stands
refused : (p : Posed) (r : StepRefusal) (known : Known) (ls : List (ℕ × Line)) → judge_all p (Err r) ls ≡ Ok known → ⊥
refused p r known [] e = cc
refused p r known (l ∷ ls) e = refused p r known ls e

-- the outcome of a line is as good under another number
step : (p : Posed) (k later : Known) (o : Option Why) (n m : ℕ) (ls ms : List (ℕ × Line)) → (judge_all p (Ok k) ls ≡ Ok later → judge_all p (Ok k) ms ≡ Ok later)
    → judge_all p (outcome n k o) ls ≡ Ok later → judge_all p (outcome m k o) ms ≡ Ok later
step p k later None n m ls ms more e = more e
step p k later (Some why) n m ls ms more e = absurd (refused p (record { line = n; why = why }) later ls e)

first_line : (x y : Line) (xs ys : List Line) → x ∷ xs ≡ y ∷ ys → x ≡ y
first_line x y xs ys e = cc

other_lines : (x y : Line) (xs ys : List Line) → x ∷ xs ≡ y ∷ ys → xs ≡ ys
other_lines x y xs ys e = cc

-- lines that no test refuses are not refused under other numbers
renumbered : (p : Posed) (ls ms : List (ℕ × Line)) (known later : Known) → map (λ (l : ℕ × Line). l.1) ms ≡ map (λ (l : ℕ × Line). l.1) ls
    → judge_all p (Ok known) ls ≡ Ok later → judge_all p (Ok known) ms ≡ Ok later
renumbered p [] [] known later e h = h
renumbered p [] (m ∷ ms) known later e h = absurd cc
renumbered p (l ∷ ls) [] known later e h = absurd cc
renumbered p (l ∷ ls) (m ∷ ms) known later e h =
    subst (λ (line : Line). judge_all p (outcome m.0 (after p known line) (first_refusal p known line)) ms ≡ Ok later) (sym (first_line m.1 l.1 _ _ e))
    (step p (after p known l.1) later (first_refusal p known l.1) l.0 m.0 ls ms (renumbered p ls ms (after p known l.1) later (other_lines m.1 l.1 _ _ e)) h)

-- ---- a log

concluded : (refusal : Option LineRefusal) (count : ℕ) (claim : Option Verdict) (v : Verdict) → ended refusal (conclude (verdict_of count claim)) ≡ Accepted v → claim ≡ Some v
concluded None count None v e = absurd cc
concluded None count (Some w) v e = cc
concluded (Some refusal) count claim v e = absurd cc

known_by : (r : Result Known StepRefusal) (ls : Lines) (count : ℕ) (v : Verdict) → answer_after r ls count ≡ Accepted v → (known : Known) × (r ≡ Ok known) × (known.conclusion ≡ Some v)
known_by (Err refusal) ls count v e = absurd cc
known_by (Ok known) ls count v e = (known, refl, concluded ls.refusal count known.conclusion v e)

-- no test refuses a line of a log that is accepted
accepted_lines : (p : Posed) (text : List ℕ) (v : Verdict) → judged_log p text ≡ Accepted v → IsAccepted p (map (λ (l : ℕ × Line). l.1) (lines limits text).given) v
accepted_lines p text v e =
    let k = known_by (judge_all p (Ok nothing) (lines limits text).given) (lines limits text) (length (raw_lines text)) v e in
    λ given same. (k.0, renumbered p (lines limits text).given given nothing k.0 same k.1, k.2)

-- what it concludes is right
pub log_right : (p : Csp) → IsProblem p → (text : List ℕ) (v : Verdict) → judged_log (posed p) text ≡ Accepted v → IsRight p v
log_right p problem text v e = accepted_right p problem (map (λ (l : ℕ × Line). l.1) (lines limits text).given) v (accepted_lines (posed p) text v e)

-- and is of the goal
pub log_goal : (p : Csp) → IsProblem p → (text : List ℕ) (v : Verdict) → judged_log (posed p) text ≡ Accepted v → IsOfGoal p v
log_goal p problem text v e = subst (λ (a : LogAnswer). IsGoalAnswer p a) e (accepted_goal p text problem)
