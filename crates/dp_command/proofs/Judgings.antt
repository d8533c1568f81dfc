-- What is answered for a log, a scaffold and a log that is shown, where each is judged while it is read.
use Rattle.std.specs.Prelude.{◌≡◌, ◌⊎◌, ℕ, ◌+◌, ◌<◌, ◌≤◌, ◌^◌, Option, Some, None, IsSome, List, length}
use Rattle.std.proofs.Common.{◌∙◌, ap, subst, inl, inr, arith}
use Rattle.std.proofs.lemmas.Bool.{false≢true}
use Rattle.dp_desk.specs.Channel.{Channel, Files, IsAtEnd}
use Rattle.dp_judge.specs.Logs.{IsGoalAnswer, IsRightAnswer, IsSmallAnswer, judged_log}
use Rattle.dp_judge.specs.Logs as log
use Rattle.dp_judge.specs.Pieces as judging
use Rattle.dp_judge.specs.declared.answer.LogAnswer.{LogAnswer}
use Rattle.dp_judge.specs.declared.answer.LogAnswer.TheVariants as answer
use Rattle.dp_parts.specs.Problems.{Csp, posed}
use Rattle.dp_scaffold.specs.Pieces as gathering
use Rattle.dp_scaffold.specs.Texts.{IsScaffoldAnswer, scaffold_text}
use Rattle.dp_scaffold.specs.Texts as scaffold
use Rattle.dp_scaffold.specs.declared.answer.ScaffoldAnswer.{ScaffoldAnswer}
use Rattle.dp_show.specs.Pieces as showing
use Rattle.dp_show.specs.declared.shown.Refusal.{Refusal}
use Rattle.dp_show.specs.declared.shown.Shown.{Shown}
use Rattle.dp_command.proofs.Processes.{done_of, outcome_ended}
use Rattle.dp_command.proofs.Shows.{shown_ended}
use Rattle.dp_command.specs.Outcomes.{IsOutcome}
use Rattle.dp_command.specs.Pieces.{IsAnswered, IsPatient}
use Rattle.dp_command.specs.Replies.{IsJudged, IsProcessed, RepliesTo, most_of_log, reply_of}
use Rattle.dp_command.specs.Texts.{outcome_status, shown_status, status_of}
use Rattle.dp_command.specs.Words.{Show}
use Rattle.dp_command.specs.declared.outcome.Outcome.{Outcome}
use Rattle.dp_command.specs.declared.outcome.Outcome.TheVariants as outcome
use Rattle.dp_command.specs.declared.reply.Reply.{Reply}
use Rattle.dp_command.specs.declared.reply.Reply.TheVariants.{Shown as ShownLog}

-- ---- a log

-- the reply is that for what was read of the log
pub judged_of : (names : Option Files) (name : List ℕ) (p : Csp) (j : judging.Going) (now : Channel) (a : LogAnswer) (reply : Reply) → j.problem ≡ p →
    IsAnswered (judging.IsDue j) judging.Refuses most_of_log names name now a → reply ≡ reply_of p a → IsJudged names name p reply
judged_of names name p j now a reply same h e =
    let due = subst (λ (q : Csp). a ≡ judged_log (posed q) h.text) same h.answered.answered in
    record {
      lines = h.text;
      read = h.read;
      replied = e ∙ ap (λ (b : LogAnswer). reply_of p b) due;
      right = subst (λ (b : LogAnswer). IsRightAnswer p b) due (subst (λ (q : Csp). IsRightAnswer q a) same h.answered.right);
      goal = subst (λ (b : LogAnswer). IsGoalAnswer p b) due (subst (λ (q : Csp). IsGoalAnswer q a) same h.answered.goal);
    }

small_end : (n : ℕ) (now : Channel) → n ≤ 2 ^ 40 → (n < 2 ^ 40 + 1 → IsAtEnd now) → IsAtEnd now
small_end n now h end = end (omega (arith, h))

accepted_end : (n : ℕ) (now : Channel) → n ≤ 2 ^ 40 → (⊥ ⊎ (n < 2 ^ 40 + 1 → IsAtEnd now)) → IsAtEnd now
accepted_end n now h (inl refused) = absurd refused
accepted_end n now h (inr end) = small_end n now h end

ended_by : (p : Csp) (text : List ℕ) (now : Channel) (a : LogAnswer) → IsSmallAnswer text a → (judging.Refuses a ⊎ (length text < most_of_log → IsAtEnd now)) → status_of (reply_of p a) ≡ 0 → IsAtEnd now
ended_by p text now (answer.Accepted v) small end e = accepted_end (length text) now small end
ended_by p text now (answer.Unread r) small end e = absurd cc
ended_by p text now (answer.Refused r t) small end e = absurd cc

-- where it accepts, all of the log was read
pub judged_ended : (names : Option Files) (name : List ℕ) (p : Csp) (j : judging.Going) (now : Channel) (a : LogAnswer) (reply : Reply) →
    IsAnswered (judging.IsDue j) judging.Refuses most_of_log names name now a → reply ≡ reply_of p a → status_of reply ≡ 0 → IsAtEnd now
judged_ended names name p j now a reply h e status = ended_by p h.text now a h.answered.small h.ended (subst (λ (r : Reply). status_of r ≡ 0) e status)

-- what is accepted is of the goal of the problem
pub goal_of : (names : Option Files) (name : List ℕ) (p : Csp) (j : judging.Going) (now : Channel) (a : LogAnswer) → j.problem ≡ p →
    IsAnswered (judging.IsDue j) judging.Refuses most_of_log names name now a → IsGoalAnswer p a
goal_of names name p j now a same h = subst (λ (q : Csp). IsGoalAnswer q a) same h.answered.goal

-- no line that was read whole is refused
pub judged_patient : (names : Option Files) (name : List ℕ) (p : Csp) (j : judging.Going) (was now : Channel) → j.problem ≡ p →
    IsPatient (judging.IsUnrefused j) names name was now → IsPatient (log.has_no_refusal (posed p)) names name was now
judged_patient names name p j was now same h = subst (λ (q : Csp). IsPatient (log.has_no_refusal (posed q)) names name was now) same h

-- ---- a scaffold

-- the outcome is that of what was read of the scaffold
pub processed_of : (names : Option Files) (name out : List ℕ) (p : Csp) (j : gathering.Going) (now : Channel) (a : ScaffoldAnswer) (o : Outcome) → j.problem ≡ p →
    IsAnswered (gathering.IsDue j) gathering.Refuses most_of_log names name now a → IsOutcome p out a o → IsProcessed names name out p o
processed_of names name out p j now a o same h k = record {
  lines = h.text;
  read = h.read;
  outcome = subst (λ (b : ScaffoldAnswer). IsOutcome p out b o) (subst (λ (q : Csp). a ≡ scaffold_text (posed q) h.text) same h.answered.answered) k;
}

-- what is given is of the problem
pub scaffold_of : (names : Option Files) (name : List ℕ) (p : Csp) (j : gathering.Going) (now : Channel) (a : ScaffoldAnswer) → j.problem ≡ p →
    IsAnswered (gathering.IsDue j) gathering.Refuses most_of_log names name now a → IsScaffoldAnswer p a
scaffold_of names name p j now a same h = subst (λ (q : Csp). IsScaffoldAnswer q a) same h.answered.scaffold

-- no line that was read whole is refused
pub gathered_patient : (names : Option Files) (name : List ℕ) (p : Csp) (j : gathering.Going) (was now : Channel) → j.problem ≡ p →
    IsPatient (gathering.IsUnrefused j) names name was now → IsPatient (scaffold.has_no_refusal (posed p)) names name was now
gathered_patient names name p j was now same h = subst (λ (q : Csp). IsPatient (scaffold.has_no_refusal (posed q)) names name was now) same h

given_end : (p : Csp) (out : List ℕ) (a : ScaffoldAnswer) (o : Outcome) → IsOutcome p out a o → outcome_status o ≡ 0 → gathering.Refuses a → ⊥
given_end p out a (outcome.Done done) k e refuses = subst gathering.Refuses (done_of p out a done k).1 refuses
given_end p out a (outcome.Unread r) k e refuses = absurd cc
given_end p out a (outcome.Refused r t) k e refuses = absurd cc
given_end p out a (outcome.NotFollowing f) k e refuses = absurd cc

end_of : {X Y : Type 0} → X ⊎ Y → (X → ⊥) → Y
end_of (inl x) f = absurd (f x)
end_of (inr y) f = y

-- where it is processed, all of it was read
pub processed_ended : (names : Option Files) (name out : List ℕ) (p : Csp) (j : gathering.Going) (now : Channel) (a : ScaffoldAnswer) (o : Outcome) → j.problem ≡ p →
    IsAnswered (gathering.IsDue j) gathering.Refuses most_of_log names name now a → IsOutcome p out a o → outcome_status o ≡ 0 → IsAtEnd now
processed_ended names name out p j now a o same h k e =
    outcome_ended p out h.text now o (subst (λ (b : ScaffoldAnswer). IsOutcome p out b o) (subst (λ (q : Csp). a ≡ scaffold_text (posed q) h.text) same h.answered.answered) k)
    (end_of h.ended (given_end p out a o k e)) e

-- ---- a log that is shown

-- what is shown is that of what was read of the log
pub shown_of : (names : Option Files) (name : List ℕ) (j : showing.Going) (now : Channel) (shown : Shown) →
    IsAnswered (showing.IsDue j) showing.Refuses most_of_log names name now shown → RepliesTo names (Show name) (ShownLog shown)
shown_of names name j now shown h = λ words asked. record { log = name; lines = h.text; asked = asked; read = h.read; replied = h.answered }

none_refused : (refusal : Option Refusal) → shown_status refusal ≡ 0 → IsSome refusal → ⊥
none_refused None e h = false≢true h
none_refused (Some refusal) e h = absurd cc

-- where all is shown, all was read
pub shown_at_end : (names : Option Files) (name : List ℕ) (j : showing.Going) (now : Channel) (shown : Shown) →
    IsAnswered (showing.IsDue j) showing.Refuses most_of_log names name now shown → shown_status shown.refusal ≡ 0 → IsAtEnd now
shown_at_end names name j now shown h e = shown_ended shown h.text now h.answered (end_of h.ended (none_refused shown.refusal e)) e
