-- What becomes of a scaffold, and what is written of it.
use Rattle.std.specs.Prelude.{◌≡◌, ℕ, ◌≤◌, ◌<◌, ◌+◌, ◌^◌, Option, Some, None, Result, Ok, Err, List, length}
use Rattle.std.proofs.Common.{refl, subst, arith}
use Rattle.dp_desk.specs.Channel.{Channel, Files, IsAtEnd}
use Rattle.dp_lines.proofs.SizeLaws.{read_small}
use Rattle.dp_judge.specs.Logs.{judged_log, limits}
use Rattle.dp_judge.specs.declared.answer.LogAnswer.TheVariants.{Accepted as AcceptedLog}
use Rattle.dp_lines.specs.Lines.{Lines, lines}
use Rattle.dp_lines.specs.RawLines.{raw_lines}
use Rattle.dp_lines.specs.declared.refusal.LineRefusal.{LineRefusal}
use Rattle.dp_lower.specs.Problem.{problem_of}
use Rattle.dp_parts.specs.Posed.{Posed}
use Rattle.dp_parts.specs.Problems.{Csp, posed}
use Rattle.dp_process.specs.Processed.{log_of}
use Rattle.dp_replay.specs.Accepting.{AreShort}
use Rattle.dp_scaffold.specs.Gathering.{Gathered, gather_all, nothing, scaffold_of}
use Rattle.dp_scaffold.specs.Scaffolds.{Learned}
use Rattle.dp_scaffold.specs.Texts.{answer_after, ended, give, scaffold_text}
use Rattle.dp_scaffold.specs.declared.answer.ScaffoldAnswer.{ScaffoldAnswer}
use Rattle.dp_scaffold.specs.declared.answer.ScaffoldAnswer.TheVariants as answer
use Rattle.dp_scaffold.specs.declared.refusal.ScaffoldRefusal.{ScaffoldRefusal}
use Rattle.dp_writer.specs.Steps as steps
use Rattle.fz_model.specs.Models.{Plan}
use Rattle.dp_command.proofs.Checks.{given_of}
use Rattle.dp_command.proofs.Requests.{check_processes_not, gen_processes_not, process_proves_not, show_processes_not}
use Rattle.fz_solve.specs.Solved.{Holds}
use Rattle.dp_command.specs.Due.{IsFiled}
use Rattle.dp_command.specs.Found.{IsFound}
use Rattle.dp_command.specs.Outcomes.{IsDone, IsOutcome}
use Rattle.dp_command.specs.Proved.{FilesProof}
use Rattle.dp_command.specs.Replies.{IsProcessed, ProcessesScaffold, Replies, RepliesTo}
use Rattle.dp_command.specs.Texts.{first_of, outcome_file, outcome_status, status_of}
use Rattle.dp_command.specs.Words.{Process, IsProcess}
use Rattle.dp_command.specs.declared.finding.Found.{Found}
use Rattle.dp_command.specs.declared.finding.Found.TheVariants.{Problem}
use Rattle.dp_command.specs.declared.outcome.Done.{Done}
use Rattle.dp_command.specs.declared.outcome.Outcome.{Outcome}
use Rattle.dp_command.specs.declared.outcome.Outcome.TheVariants as outcome
use Rattle.dp_command.specs.declared.reply.Reply.{Reply}
use Rattle.dp_command.specs.declared.reply.Reply.TheVariants.{NoCommand, ModelRefused, Accepted, Unread, Refused, Shown as ShownLog, Processed, Proved, Generated}

-- ---- a scaffold that is given was read whole

by_refusal : (refusal : Option LineRefusal) (a : ScaffoldAnswer) (s : Learned) → ended refusal a ≡ answer.Given s → refusal ≡ None
by_refusal None a s e = refl
by_refusal (Some refusal) a s e = absurd cc

by_progress : (progress : Result Gathered ScaffoldRefusal) (ls : Lines) (count : ℕ) (s : Learned) → answer_after progress ls count ≡ answer.Given s → ls.refusal ≡ None
by_progress (Err refusal) ls count s e = absurd cc
by_progress (Ok g) ls count s e = by_refusal ls.refusal (give (scaffold_of (Ok g) count)) s e

-- a text that says a scaffold is within its limit
given_small : (p : Posed) (text : List ℕ) (s : Learned) → scaffold_text p text ≡ answer.Given s → length text ≤ 2 ^ 40
given_small p text s e = read_small text (by_progress (gather_all p (Ok nothing) (lines limits text).given) (lines limits text) (length (raw_lines text)) s e)

-- ---- the outcome

-- where it is processed, a scaffold was given
pub done_of : (p : Csp) (out : List ℕ) (a : ScaffoldAnswer) (done : Done) → IsOutcome p out a (outcome.Done done) → (s : Learned) × (a ≡ answer.Given s) × IsDone p out s done
done_of p out (answer.Given s) done h = (s, refl, h)
done_of p out (answer.Unread refusal) done h = absurd cc
done_of p out (answer.Refused refusal text) done h = absurd cc

ended_by : (p : Csp) (out : List ℕ) (lines : List ℕ) (now : Channel) (o : Outcome) → IsOutcome p out (scaffold_text (posed p) lines) o → (length lines < 2 ^ 40 + 1 → IsAtEnd now) →
    outcome_status o ≡ 0 → IsAtEnd now
ended_by p out lines now (outcome.Done done) h end e =
    let d = done_of p out (scaffold_text (posed p) lines) done h in
    let small = given_small (posed p) lines d.0 d.1 in
    end (omega (arith, small))
ended_by p out lines now (outcome.Unread refusal) h end e = absurd cc
ended_by p out lines now (outcome.Refused refusal text) h end e = absurd cc
ended_by p out lines now (outcome.NotFollowing failing) h end e = absurd cc

-- so all of it was read
pub outcome_ended : (p : Csp) (out : List ℕ) (lines : List ℕ) (now : Channel) (o : Outcome) → IsOutcome p out (scaffold_text (posed p) lines) o → (length lines < 2 ^ 40 + 1 → IsAtEnd now) →
    outcome_status o ≡ 0 → IsAtEnd now
outcome_ended p out lines now o h end e = ended_by p out lines now o h end e

-- ---- the reply

due_of : (names : Option Files) (model scaffold out : List ℕ) (workers : ℕ) (m : Plan) (p : Csp) (o : Outcome) → IsFound names model (Problem m p) → IsProcessed names scaffold out p o →
    RepliesTo names (Process model scaffold out workers) (Processed o)
due_of names model scaffold out workers m p o f h = λ words asked.
    record {
      model = model;
      scaffold = scaffold;
      out = out;
      workers = workers;
      asked = asked;
      m = m;
      given = given_of names model m p f;
      processed = subst (λ (q : Csp). IsProcessed names scaffold out q o) f.found.problem.posed h;
    }

-- the reply for the scaffold belongs to the words
pub outcome_at : (names later : Option Files) (model scaffold out : List ℕ) (workers : ℕ) (m : Plan) (p : Csp) (o : Outcome) (what : Found) → later ≡ names → what ≡ Problem m p → IsFound names model what →
    IsProcessed later scaffold out p o → RepliesTo names (Process model scaffold out workers) (Processed o)
outcome_at names later model scaffold out workers m p o what same is f h =
    due_of names model scaffold out workers m p o (subst (λ (w : Found). IsFound names model w) is f) (subst (λ (n : Option Files). IsProcessed n scaffold out p o) same h)

-- ---- what was written

proof_by : (names : Option Files) (words : List (List ℕ)) (o : Outcome) (was now : Channel) → ProcessesScaffold names words o → outcome_status o ≡ 0 → IsFiled (outcome_file o) was now → FilesProof names words now
proof_by names words (outcome.Done done) was now due e filed =
    let d = done_of (problem_of due.m) due.out (scaffold_text (posed (problem_of due.m)) due.processed.lines) done due.processed.outcome in
    record {
      model = due.model;
      scaffold = due.scaffold;
      out = due.out;
      workers = due.workers;
      asked = due.asked;
      m = due.m;
      given = due.given;
      lines = due.processed.lines;
      read = due.processed.read;
      learned = d.0;
      says = d.1;
      follows = d.2.follows;
      written = subst (λ (t : List ℕ). Holds now t) d.2.text filed;
      accepted = d.2.accepted;
      checked = subst (λ (t : List ℕ). AreShort (steps.lines (log_of (problem_of due.m) d.0)) t → judged_log (posed (problem_of due.m)) t ≡ AcceptedLog d.0.claim) d.2.text d.2.checked;
      right = d.2.right;
    }
proof_by names words (outcome.Unread refusal) was now due e filed = absurd cc
proof_by names words (outcome.Refused refusal text) was now due e filed = absurd cc
proof_by names words (outcome.NotFollowing failing) was now due e filed = absurd cc

-- at status 0 the processed log of a scaffold stands in the file
pub proof_of : (names : Option Files) (words : List (List ℕ)) (reply : Reply) (was now : Channel) → Replies names words reply → IsProcess words → status_of reply ≡ 0 → IsFiled (first_of reply) was now →
    FilesProof names words now
proof_of names words NoCommand was now due process e filed = absurd cc
proof_of names words (ModelRefused refusal) was now due process e filed = absurd cc
proof_of names words (Accepted claim) was now due process e filed = absurd (check_processes_not words (due.model, due.log, due.asked) process)
proof_of names words (Unread refusal) was now due process e filed = absurd cc
proof_of names words (Refused refusal told) was now due process e filed = absurd cc
proof_of names words (ShownLog shown) was now due process e filed = absurd (show_processes_not words (due.log, due.asked) process)
proof_of names words (Processed o) was now due process e filed = proof_by names words o was now due e filed
proof_of names words (Proved proving) was now due process e filed = absurd (process_proves_not words process (due.model, due.workers, due.most, due.asked))
proof_of names words (Generated family) was now due process e filed = absurd (gen_processes_not words (due.n, due.model, due.scaffold, due.asked) process)
