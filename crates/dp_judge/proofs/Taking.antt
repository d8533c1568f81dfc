-- What each line brings to a log that is judged.
use Rattle.std.specs.Prelude.{◌≡◌, ℕ, Option, Some, None, Result, Ok, Err, IsOk, List, [], ◌∷◌, ◌++◌, length}
use Rattle.std.proofs.Common.{refl, sym, ◌∙◌, ap, subst}
use Rattle.std.proofs.lemmas.Bool.{false≢true}
use Rattle.dp_lines.specs.Driving.{limits, text_of_line}
use Rattle.dp_lines.specs.Lines.{Lines, lines}
use Rattle.dp_lines.specs.RawLines.{raw_lines}
use Rattle.dp_lines.specs.Runs.{with_all}
use Rattle.dp_lines.specs.Spelling.{line_text}
use Rattle.dp_lines.specs.declared.line.Line.{Line}
use Rattle.dp_lines.specs.declared.refusal.LineRefusal.{LineRefusal}
use Rattle.dp_lines.proofs.NumberLaws.{line_told}
use Rattle.dp_lines.proofs.OneByOne.{IsOneByOne, one_more, refused_at}
use Rattle.dp_parts.specs.Posed.{Posed}
use Rattle.dp_parts.specs.Problems.{Csp, IsProblem, posed}
use Rattle.dp_checker.specs.Answers.{Tells, UnlessMemory}
use Rattle.dp_checker.specs.Judged.{judge, judge_all, outcome, verdict}
use Rattle.dp_checker.specs.Known.{Known, nothing}
use Rattle.dp_checker.specs.declared.fault.CheckFault.{CheckFault}
use Rattle.dp_checker.specs.declared.fault.CheckFault.TheVariants as faults
use Rattle.dp_checker.specs.declared.refusal.StepRefusal.{StepRefusal}
use Rattle.dp_checker.specs.declared.refusal.Why.{Why}
use Rattle.dp_judge.specs.Logs.{IsGoalAnswer, IsRightAnswer, IsSmallAnswer, answer_after, conclude, judged_log}
use Rattle.dp_judge.specs.Pieces.{Going, HasJudged, IsDue}
use Rattle.dp_judge.specs.declared.answer.LogAnswer.{LogAnswer}
use Rattle.dp_judge.specs.declared.answer.LogAnswer.TheVariants.{Unread, Refused}
use Rattle.dp_judge.proofs.AcceptLaws.{accepted_goal, accepted_small}

one_by_one : (p : Posed) → IsOneByOne (judge p) (judge_all p)
one_by_one p = record { none = λ r. refl; more = λ r e es. refl; stays = λ x e. refl }

abbrev line_in : Result Known StepRefusal → ℕ
line_in (Ok known) = 0
line_in (Err refusal) = refusal.line

refused_number : (n : ℕ) (why : Option Why) (k : Known) (refusal : StepRefusal) → outcome n k why ≡ Err refusal → refusal.line ≡ n
refused_number n None k refusal e = absurd cc
refused_number n (Some why) k refusal e = sym (ap line_in e)

number_of : (p : Posed) (known : Result Known StepRefusal) (n : ℕ) (line : Line) (refusal : StepRefusal) → IsOk known → judge p known (n, line) ≡ Err refusal →
    refusal.line ≡ n
number_of p (Ok known) n line refusal ok e = refused_number n _ _ refusal e
number_of p (Err other) n line refusal ok e = absurd (false≢true ok)

-- the answer for these lines of a text
answer_of_lines : (p : Posed) (text : List ℕ) (ls : Lines) → lines limits text ≡ ls →
    judged_log p text ≡ answer_after (judge_all p (Ok nothing) ls.given) ls (length (raw_lines text))
answer_of_lines p text ls e = ap (λ (l : Lines). answer_after (judge_all p (Ok nothing) l.given) l (length (raw_lines text))) e

-- the answer for a log is due where its verdict is right
due_where : (j : Going) (text : List ℕ) (answer : LogAnswer) → IsProblem j.problem → answer ≡ judged_log (posed j.problem) text → IsRightAnswer j.problem answer → IsDue j text answer
due_where j text answer problem e right = record {
  answered = e;
  right = right;
  goal = subst (λ (a : LogAnswer). IsGoalAnswer j.problem a) (sym e) (accepted_goal j.problem text problem);
  small = subst (λ (a : LogAnswer). IsSmallAnswer text a) (sym e) (accepted_small (posed j.problem) text);
}

-- a line passes
pub taken : (j now : Going) (given : List (ℕ × Line)) (n : ℕ) (line : Line) → now.problem ≡ j.problem → now.progress ≡ judge (posed j.problem) j.progress (n, line) → IsOk now.progress →
    HasJudged j given → HasJudged now (given ++ (n, line) ∷ [])
taken j now given n line same judged ok h =
    let p : Posed = posed j.problem in
    record {
      problem = subst IsProblem (sym same) h.problem;
      judged = subst (λ (q : Csp). now.progress ≡ judge_all (posed q) (Ok nothing) (given ++ (n, line) ∷ [])) (sym same)
          (one_more (judge p) (judge_all p) (one_by_one p) (Ok nothing) j.progress now.progress given (n, line) h.judged judged);
      going = ok;
    }

refusal_told : {T : Type 0} (r : Result T CheckFault) (refusal : StepRefusal) (now said : Result Known StepRefusal) → r ≡ Err (faults.Refused refusal) → UnlessMemory r (now ≡ said) → Tells r now → said ≡ Err refusal
refusal_told r refusal now said e judged told =
    sym (subst (λ q. UnlessMemory q (now ≡ said)) e judged) ∙ subst (λ q. Tells q now) e told

-- a test refuses it
pub refused : {T : Type 0} (j now : Going) (r : Result T CheckFault) (refusal : StepRefusal) (given : List (ℕ × Line)) (n : ℕ) (line : Line) (rest : Lines) (text told : List ℕ) → told ≡ line_text line →
    r ≡ Err (faults.Refused refusal) →
    UnlessMemory r (now.progress ≡ judge (posed j.problem) j.progress (n, line)) → Tells r now.progress → HasJudged j given → lines limits text ≡ with_all (given ++ (n, line) ∷ []) rest → IsDue j text (Refused refusal (Some told))
refused j now r refusal given n line rest text told spelled answer judged tells h is =
    let e : judge (posed j.problem) j.progress (n, line) ≡ Err refusal = refusal_told r refusal now.progress _ answer judged tells in
    let p : Posed = posed j.problem in
    let ls : Lines = with_all (given ++ (n, line) ∷ []) rest in
    subst (λ (t : List ℕ). IsDue j text (Refused refusal (Some t))) (sym spelled) (due_where j text (Refused refusal (Some (line_text line))) h.problem
    (sym (answer_of_lines p text ls is
    ∙ ap (λ (r : Result Known StepRefusal). answer_after r ls (length (raw_lines text)))
    (refused_at (judge p) (judge_all p) (one_by_one p) (Ok nothing) j.progress refusal given rest.given (n, line) h.judged e)
    ∙ ap (λ (t : Option (List ℕ)). Refused refusal t)
    (ap (text_of_line ls.given) (number_of p j.progress n line refusal h.going e) ∙ line_told limits text given n line rest is))) tt)

unread_after : (known : Result Known StepRefusal) (given : List (ℕ × Line)) (refusal : LineRefusal) (count : ℕ) → IsOk known →
    answer_after known (record { given = given; refusal = Some refusal }) count ≡ Unread refusal
unread_after (Ok known) given refusal count ok = refl
unread_after (Err other) given refusal count ok = absurd (false≢true ok)

-- it cannot be read
pub unread : (j : Going) (refusal : LineRefusal) (given : List (ℕ × Line)) (text : List ℕ) → HasJudged j given → lines limits text ≡ record { given = given; refusal = Some refusal } →
    IsDue j text (Unread refusal)
unread j refusal given text h is =
    let ls : Lines = record { given = given; refusal = Some refusal } in
    due_where j text (Unread refusal) h.problem
    (sym (answer_of_lines (posed j.problem) text ls is ∙ ap (λ (k : Result Known StepRefusal). answer_after k ls (length (raw_lines text))) (sym h.judged)
    ∙ unread_after j.progress given refusal (length (raw_lines text)) h.going)) tt

concluded_after : (known : Result Known StepRefusal) (given : List (ℕ × Line)) (count : ℕ) → IsOk known →
    answer_after known (record { given = given; refusal = None }) count ≡ conclude (verdict known count)
concluded_after (Ok known) given count ok = refl
concluded_after (Err refusal) given count ok = absurd (false≢true ok)

-- behind the last line
pub finished : (j : Going) (answer : LogAnswer) (given : List (ℕ × Line)) (text : List ℕ) (count : ℕ) → answer ≡ conclude (verdict j.progress count) → IsRightAnswer j.problem answer →
    HasJudged j given → lines limits text ≡ record { given = given; refusal = None } → length (raw_lines text) ≡ count → IsDue j text answer
finished j answer given text count a right h is counted =
    let ls : Lines = record { given = given; refusal = None } in
    due_where j text answer h.problem
    (a ∙ ap (λ n. conclude (verdict j.progress n)) (sym counted)
    ∙ sym (answer_of_lines (posed j.problem) text ls is ∙ ap (λ (k : Result Known StepRefusal). answer_after k ls (length (raw_lines text))) (sym h.judged)
    ∙ concluded_after j.progress given (length (raw_lines text)) h.going)) right

-- what is due of this problem
pub due_of : (j : Going) (p : Csp) (text : List ℕ) (a : LogAnswer) → j.problem ≡ p → IsDue j text a → (a ≡ judged_log (posed p) text) × IsRightAnswer p a × IsGoalAnswer p a × IsSmallAnswer text a
due_of j p text a e d = (
  d.answered ∙ ap (λ (q : Csp). judged_log (posed q) text) e,
  subst (λ (q : Csp). IsRightAnswer q a) e d.right,
  subst (λ (q : Csp). IsGoalAnswer q a) e d.goal,
  d.small,
)
