-- What was said of a reply, and what a search left.
use Rattle.std.specs.Prelude.{ℕ}
use Rattle.std.proofs.Common.{◌∙◌, inl, inr, refl, subst, sym}
use Rattle.dp_desk.specs.Causes.{Rose}
use Rattle.dp_command.proofs.Patience.{said_patient}
use Rattle.dp_command.proofs.Says.{ended_said, front_fault, front_said, handed_small, left_said, left_told, not_five, not_seven, refused_said, rest_said, rose_said, said_known, said_of, searched_files, second_unfiled, second_words, unfiled, unfiled_words, unsolved}
use Rattle.dp_command.proofs.Solves.{front_search, left_search, search_ends, search_not_five, searched_words, seen_search, solved_search, unopened}
use Rattle.dp_command.proofs.Tasks.{fault_is, fault_rose, reply_due, reply_good, reply_unread, search_due, search_good}
use Rattle.dp_command.specs.Due.{ReadsToEnd}
use Rattle.dp_command.specs.Texts.{files_of}
use Rattle.dp_command.proofs.program.perform.Goals as goal

-- ---- a reply

pub returns-in-Ok-text-clause-answered : goal.returns-in-Ok-text-clause-answered
returns-in-Ok-text-clause-answered g c =
    λ replied.
    said_of (g.D.Desk.sight c.args.desk.now).names _ c.in-Say.reply (g.D.Desk.sight c.args.desk.now) (g.D.Desk.sight c.task_of.new.desk) (g.D.Desk.sight c.hand_over.new.desk) c.hand_over.result c.as_slice.result.now (g.D.Desk.faults_out c.task_of.new.desk) (g.D.Desk.faults_out c.hand_over.new.desk)
    c.task_of.ensures.rest (reply_due (g.D.Desk.sight c.args.desk.now).names _ c.in-Ok.task c.in-Say.reply c.in-Say.is c.in-Ok.ensures.due) (c.as_slice.ensures.value ∙ c.in-Ok-text.ensures) c.hand_over.ensures.said replied.0

pub returns-in-Ok-text-clause-solved : goal.returns-in-Ok-text-clause-solved
returns-in-Ok-text-clause-solved g c =
    λ h. absurd (unsolved (g.D.Desk.sight c.args.desk.now).names _ c.in-Say.reply (g.D.Desk.sight c.task_of.new.desk) (g.D.Desk.sight c.hand_over.new.desk) c.hand_over.result c.as_slice.result.now (g.D.Desk.faults_out c.task_of.new.desk) (g.D.Desk.faults_out c.hand_over.new.desk)
    (reply_due (g.D.Desk.sight c.args.desk.now).names _ c.in-Ok.task c.in-Say.reply c.in-Say.is c.in-Ok.ensures.due) c.hand_over.ensures.said h)

pub returns-in-Ok-text-clause-ended : goal.returns-in-Ok-text-clause-ended
returns-in-Ok-text-clause-ended g c =
    ended_said _ c.in-Say.reply (g.D.Desk.sight c.task_of.new.desk) (g.D.Desk.sight c.hand_over.new.desk) c.hand_over.result _ c.as_slice.result.now
    (g.D.Desk.faults_out c.task_of.new.desk) (g.D.Desk.faults_out c.hand_over.new.desk) c.hand_over.ensures.rest (reply_good (ReadsToEnd _ (g.D.Desk.sight c.task_of.new.desk)) c.in-Ok.task c.in-Say.reply c.in-Say.is c.in-Ok.ensures.ended) c.hand_over.ensures.said

pub returns-in-Ok-text-clause-unfiled_words : goal.returns-in-Ok-text-clause-unfiled_words
returns-in-Ok-text-clause-unfiled_words g c =
    λ process solve gen.
    unfiled_words (g.D.Desk.sight c.args.desk.now).names _ c.in-Say.reply c.as_slice.result.now c.hand_over.result (g.D.Desk.sight c.args.desk.now) (g.D.Desk.sight c.task_of.new.desk) (g.D.Desk.sight c.hand_over.new.desk)
    (g.D.Desk.faults_out c.task_of.new.desk) (g.D.Desk.faults_out c.hand_over.new.desk) c.task_of.ensures.rest (reply_due (g.D.Desk.sight c.args.desk.now).names _ c.in-Ok.task c.in-Say.reply c.in-Say.is c.in-Ok.ensures.due) c.hand_over.ensures.said process gen

pub returns-in-Ok-text-clause-second_words : goal.returns-in-Ok-text-clause-second_words
returns-in-Ok-text-clause-second_words g c =
    second_words (g.D.Desk.sight c.args.desk.now).names _ c.in-Say.reply c.as_slice.result.now c.hand_over.result (g.D.Desk.sight c.args.desk.now) (g.D.Desk.sight c.task_of.new.desk) (g.D.Desk.sight c.hand_over.new.desk)
    (g.D.Desk.faults_out c.task_of.new.desk) (g.D.Desk.faults_out c.hand_over.new.desk) c.task_of.ensures.rest (reply_due (g.D.Desk.sight c.args.desk.now).names _ c.in-Ok.task c.in-Say.reply c.in-Say.is c.in-Ok.ensures.due) c.hand_over.ensures.said

pub returns-in-Ok-text-clause-second_unfiled : goal.returns-in-Ok-text-clause-second_unfiled
returns-in-Ok-text-clause-second_unfiled g c =
    second_unfiled c.in-Say.reply c.as_slice.result.now c.hand_over.result (g.D.Desk.sight c.args.desk.now) (g.D.Desk.sight c.task_of.new.desk) (g.D.Desk.sight c.hand_over.new.desk)
    (g.D.Desk.faults_out c.task_of.new.desk) (g.D.Desk.faults_out c.hand_over.new.desk) c.task_of.ensures.rest c.hand_over.ensures.said

pub returns-in-Ok-text-clause-unfiled : goal.returns-in-Ok-text-clause-unfiled
returns-in-Ok-text-clause-unfiled g c =
    λ done fault other.
    unfiled c.in-Say.reply c.as_slice.result.now c.hand_over.result (g.D.Desk.sight c.args.desk.now) (g.D.Desk.sight c.task_of.new.desk) (g.D.Desk.sight c.hand_over.new.desk)
    (g.D.Desk.faults_out c.task_of.new.desk) (g.D.Desk.faults_out c.hand_over.new.desk) c.task_of.ensures.rest c.hand_over.ensures.said done fault

pub returns-in-Ok-text-clause-read_fault : goal.returns-in-Ok-text-clause-read_fault
returns-in-Ok-text-clause-read_fault g c =
    λ e. absurd (not_five c.hand_over.result (handed_small c.in-Say.reply c.as_slice.result.now (files_of c.in-Say.reply) (g.D.Desk.sight c.task_of.new.desk) (g.D.Desk.sight c.hand_over.new.desk) c.hand_over.result (g.D.Desk.faults_out c.task_of.new.desk) (g.D.Desk.faults_out c.hand_over.new.desk) c.hand_over.ensures.said) e)

pub returns-in-Ok-text-clause-patient : goal.returns-in-Ok-text-clause-patient
returns-in-Ok-text-clause-patient g c =
    λ e. absurd (not_five c.hand_over.result (handed_small c.in-Say.reply c.as_slice.result.now (files_of c.in-Say.reply) (g.D.Desk.sight c.task_of.new.desk) (g.D.Desk.sight c.hand_over.new.desk) c.hand_over.result (g.D.Desk.faults_out c.task_of.new.desk) (g.D.Desk.faults_out c.hand_over.new.desk) c.hand_over.ensures.said) e)

pub returns-in-Ok-text-clause-front : goal.returns-in-Ok-text-clause-front
returns-in-Ok-text-clause-front g c =
    λ e. inl (front_said (g.D.Desk.sight c.args.desk.now).names _ (Rose (g.D.Desk.faults_in c.args.desk.now) (g.D.Desk.faults_in c.hand_over.new.desk)) c.in-Say.reply
    (g.D.Desk.sight c.args.desk.now) (g.D.Desk.sight c.task_of.new.desk) (g.D.Desk.sight c.hand_over.new.desk) c.hand_over.result c.as_slice.result.now
    (g.D.Desk.faults_out c.task_of.new.desk) (g.D.Desk.faults_out c.hand_over.new.desk) c.task_of.ensures.rest (reply_due (g.D.Desk.sight c.args.desk.now).names _ c.in-Ok.task c.in-Say.reply c.in-Say.is c.in-Ok.ensures.due) (c.as_slice.ensures.value ∙ c.in-Ok-text.ensures) c.hand_over.ensures.said e)

pub returns-in-Ok-text-clause-left : goal.returns-in-Ok-text-clause-left
returns-in-Ok-text-clause-left g c =
    λ e solve. absurd (not_seven c.hand_over.result (handed_small c.in-Say.reply c.as_slice.result.now (files_of c.in-Say.reply) (g.D.Desk.sight c.task_of.new.desk) (g.D.Desk.sight c.hand_over.new.desk) c.hand_over.result (g.D.Desk.faults_out c.task_of.new.desk) (g.D.Desk.faults_out c.hand_over.new.desk) c.hand_over.ensures.said) e)

pub returns-in-Ok-text-clause-rest : goal.returns-in-Ok-text-clause-rest
returns-in-Ok-text-clause-rest g c =
    rest_said (g.D.Desk.sight c.args.desk.now) (g.D.Desk.sight c.task_of.new.desk) (g.D.Desk.sight c.hand_over.new.desk) c.task_of.ensures.rest c.hand_over.ensures.rest

pub returns-in-Ok-text-clause-unread_log : goal.returns-in-Ok-text-clause-unread_log
returns-in-Ok-text-clause-unread_log g c =
    refused_said c.in-Say.reply (g.D.Desk.sight c.args.desk.now) (g.D.Desk.sight c.task_of.new.desk) (g.D.Desk.sight c.hand_over.new.desk) c.hand_over.result _ c.as_slice.result.now (g.D.Desk.faults_out c.task_of.new.desk) (g.D.Desk.faults_out c.hand_over.new.desk)
    c.hand_over.ensures.rest (reply_unread (g.D.Desk.sight c.args.desk.now) (g.D.Desk.sight c.task_of.new.desk) c.in-Ok.task c.in-Say.reply c.in-Say.is c.in-Ok.ensures.unread) c.hand_over.ensures.said

pub returns-in-Ok-text-clause-write_fault : goal.returns-in-Ok-text-clause-write_fault
returns-in-Ok-text-clause-write_fault g c =
    rose_said c.in-Say.reply (g.D.Desk.sight c.task_of.new.desk) (g.D.Desk.sight c.hand_over.new.desk) c.hand_over.result _ c.as_slice.result.now (g.D.Desk.faults_out c.args.desk.now) (g.D.Desk.faults_out c.task_of.new.desk) (g.D.Desk.faults_out c.hand_over.new.desk) c.task_of.ensures.other c.hand_over.ensures.said

pub returns-in-Ok-text-clause-nothing : goal.returns-in-Ok-text-clause-nothing
returns-in-Ok-text-clause-nothing g c =
    λ e. absurd (not_seven c.hand_over.result (handed_small c.in-Say.reply c.as_slice.result.now (files_of c.in-Say.reply) (g.D.Desk.sight c.task_of.new.desk) (g.D.Desk.sight c.hand_over.new.desk) c.hand_over.result (g.D.Desk.faults_out c.task_of.new.desk) (g.D.Desk.faults_out c.hand_over.new.desk) c.hand_over.ensures.said) e)

pub returns-in-Ok-text-clause-known : goal.returns-in-Ok-text-clause-known
returns-in-Ok-text-clause-known g c =
    said_known c.hand_over.result (handed_small c.in-Say.reply c.as_slice.result.now (files_of c.in-Say.reply) (g.D.Desk.sight c.task_of.new.desk) (g.D.Desk.sight c.hand_over.new.desk) c.hand_over.result (g.D.Desk.faults_out c.task_of.new.desk) (g.D.Desk.faults_out c.hand_over.new.desk) c.hand_over.ensures.said)

pub returns-in-Ok-text-clause-unasked : goal.returns-in-Ok-text-clause-unasked
returns-in-Ok-text-clause-unasked g c =
    left_said _ (g.D.Desk.sight c.args.desk.now) (g.D.Desk.sight c.task_of.new.desk) (g.D.Desk.sight c.hand_over.new.desk) c.hand_over.ensures.rest c.task_of.ensures.unasked

-- ---- a search

pub returns-in-Ok-clause-unasked : goal.returns-in-Ok-clause-unasked
returns-in-Ok-clause-unasked g c =
    left_said _ (g.D.Desk.sight c.args.desk.now) (g.D.Desk.sight c.task_of.new.desk) (g.D.Desk.sight c.search.new.desk)
    (searched_files (g.D.Desk.sight c.task_of.new.desk) (g.D.Desk.sight c.search.new.desk) c.search.ensures.rest) c.task_of.ensures.unasked

pub returns-in-Ok-clause-solved : goal.returns-in-Ok-clause-solved
returns-in-Ok-clause-solved g c =
    solved_search (g.D.Desk.sight c.args.desk.now).names _ c.in-Solve.found (g.D.Desk.sight c.args.desk.now) (g.D.Desk.sight c.task_of.new.desk) (g.D.Desk.sight c.search.new.desk) c.search.result (g.D.Desk.faults_out c.task_of.new.desk) (g.D.Desk.faults_out c.search.new.desk) c.task_of.ensures.rest c.search.ensures.rest
    (search_due (g.D.Desk.sight c.args.desk.now).names _ c.in-Ok.task c.in-Solve.found c.in-Solve.is c.in-Ok.ensures.due) (search_good (ReadsToEnd _ (g.D.Desk.sight c.task_of.new.desk)) c.in-Ok.task c.in-Solve.found c.in-Solve.is c.in-Ok.ensures.ended) c.search.ensures.searched

pub returns-in-Ok-clause-unfiled : goal.returns-in-Ok-clause-unfiled
returns-in-Ok-clause-unfiled g c =
    λ done fault other. absurd (unopened _ c.search.result (search_ends c.in-Solve.found c.search.result (g.D.Desk.sight c.task_of.new.desk) (g.D.Desk.sight c.search.new.desk) (g.D.Desk.faults_out c.task_of.new.desk) (g.D.Desk.faults_out c.search.new.desk) c.search.ensures.searched) (searched_words (g.D.Desk.sight c.args.desk.now).names _ c.in-Solve.found (search_due (g.D.Desk.sight c.args.desk.now).names _ c.in-Ok.task c.in-Solve.found c.in-Solve.is c.in-Ok.ensures.due)) done fault other)

pub returns-in-Ok-clause-front : goal.returns-in-Ok-clause-front
returns-in-Ok-clause-front g c =
    λ e. inr (front_search (g.D.Desk.sight c.args.desk.now).names _ c.in-Solve.found (g.D.Desk.sight c.args.desk.now) (g.D.Desk.sight c.task_of.new.desk) (g.D.Desk.sight c.search.new.desk) c.search.result (g.D.Desk.faults_out c.task_of.new.desk) (g.D.Desk.faults_out c.search.new.desk) c.task_of.ensures.rest (search_due (g.D.Desk.sight c.args.desk.now).names _ c.in-Ok.task c.in-Solve.found c.in-Solve.is c.in-Ok.ensures.due) c.search.ensures.searched e)

pub returns-in-Ok-clause-left : goal.returns-in-Ok-clause-left
returns-in-Ok-clause-left g c =
    λ e solve. inr (left_search (g.D.Desk.sight c.args.desk.now).names _ c.in-Solve.found (g.D.Desk.sight c.args.desk.now) (g.D.Desk.sight c.task_of.new.desk) (g.D.Desk.sight c.search.new.desk) c.search.result (g.D.Desk.faults_out c.task_of.new.desk) (g.D.Desk.faults_out c.search.new.desk) c.task_of.ensures.rest (search_due (g.D.Desk.sight c.args.desk.now).names _ c.in-Ok.task c.in-Solve.found c.in-Solve.is c.in-Ok.ensures.due) c.search.ensures.searched e)

pub returns-in-Ok-clause-out_seen : goal.returns-in-Ok-clause-out_seen
returns-in-Ok-clause-out_seen g c =
    λ more. seen_search c.in-Solve.found (g.D.Desk.sight c.task_of.new.desk) (g.D.Desk.sight c.search.new.desk) _ c.search.result (g.D.Desk.faults_out c.args.desk.now) (g.D.Desk.faults_out c.task_of.new.desk) (g.D.Desk.faults_out c.search.new.desk) c.task_of.ensures.other
    (searched_words (g.D.Desk.sight c.args.desk.now).names _ c.in-Solve.found (search_due (g.D.Desk.sight c.args.desk.now).names _ c.in-Ok.task c.in-Solve.found c.in-Solve.is c.in-Ok.ensures.due)) c.search.ensures.searched more

pub returns-in-Ok-clause-read_fault : goal.returns-in-Ok-clause-read_fault
returns-in-Ok-clause-read_fault g c =
    λ e. absurd (search_not_five c.search.result (search_ends c.in-Solve.found c.search.result (g.D.Desk.sight c.task_of.new.desk) (g.D.Desk.sight c.search.new.desk) (g.D.Desk.faults_out c.task_of.new.desk) (g.D.Desk.faults_out c.search.new.desk) c.search.ensures.searched) e)

pub returns-in-Ok-clause-patient : goal.returns-in-Ok-clause-patient
returns-in-Ok-clause-patient g c =
    λ e. absurd (search_not_five c.search.result (search_ends c.in-Solve.found c.search.result (g.D.Desk.sight c.task_of.new.desk) (g.D.Desk.sight c.search.new.desk) (g.D.Desk.faults_out c.task_of.new.desk) (g.D.Desk.faults_out c.search.new.desk) c.search.ensures.searched) e)

-- ---- a read fault

pub returns-in-Err-ReadFault-clause-unasked : goal.returns-in-Err-ReadFault-clause-unasked
returns-in-Err-ReadFault-clause-unasked g c =
    left_told _ (g.D.Desk.sight c.args.desk.now) (g.D.Desk.sight c.task_of.new.desk) (g.D.Desk.sight c.say.new.desk) c.say.ensures.rest c.task_of.ensures.unasked

pub returns-in-Err-ReadFault-clause-patient : goal.returns-in-Err-ReadFault-clause-patient
returns-in-Err-ReadFault-clause-patient g c = λ e.
    said_patient (g.D.Desk.sight c.args.desk.now).names _ (g.D.Desk.sight c.args.desk.now) (g.D.Desk.sight c.task_of.new.desk) (g.D.Desk.sight c.say.new.desk) c.say.ensures.rest (c.in-Err-ReadFault.ensures.patient (fault_is c.in-Err-ReadFault.field-0 c.in-Err-ReadFault.field-0-is))

pub returns-in-Err-ReadFault-clause-front : goal.returns-in-Err-ReadFault-clause-front
returns-in-Err-ReadFault-clause-front g c = λ e.
    inl (front_fault (g.D.Desk.sight c.args.desk.now).names _ (Rose (g.D.Desk.faults_in c.args.desk.now) (g.D.Desk.faults_in c.say.new.desk))
    (g.D.Desk.sight c.args.desk.now) (g.D.Desk.sight c.task_of.new.desk) (g.D.Desk.sight c.say.new.desk) c.say.result _ (g.D.Desk.faults_out c.task_of.new.desk) (g.D.Desk.faults_out c.say.new.desk)
    c.task_of.ensures.rest c.say.ensures.rest
    (subst (λ (n : ℕ). Rose (g.D.Desk.faults_in c.args.desk.now) n) (sym c.say.ensures.other) (fault_rose _ _ c.in-Err-ReadFault.field-0 c.in-Err-ReadFault.ensures.cause c.in-Err-ReadFault.field-0-is)) refl c.say.ensures.said e)
