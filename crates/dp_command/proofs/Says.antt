-- What a reply leaves of a desk where it is handed over.
use Rattle.std.specs.Prelude.{◌≡◌, ◌≢◌, ℕ, ◌≤◌, IfSome, Option, Some, None, List, [], ◌⊎◌}
use Rattle.std.proofs.Common.{refl, sym, ◌∙◌, ap, subst, inl, inr, arith, lit≤}
use Rattle.dp_desk.specs.Channel.{Channel, Shut, Hidden, Shown, Files, Grows, GrowsByPart, IsOpen, Starts}
use Rattle.dp_desk.specs.Causes.{Rose}
use Rattle.dp_desk.specs.Sight.{Sight, with_output}
use Rattle.dp_desk.specs.declared.desk.Out.TheVariants as Out
use Rattle.dp_desk.proofs.Channels.{grows_by_none}
use Rattle.dp_show.specs.declared.shown.Refusal.{Refusal as ShowRefusal}
use Rattle.dp_command.proofs.Processes.{proof_of}
use Rattle.dp_command.proofs.Requests.{check_processes_not, check_proves_not, check_shows_not, check_solves_not, gen_checks_not, gen_solves_not, process_solves_not, show_solves_not, solve_proves_not}
use Rattle.dp_command.specs.Due.{AreAtEnd, AreCut, AreFiled, ChangesFiles, ChangesInputs, ChangesOutputs, IsCut, IsFiled, Leaves, LeavesUnasked, LeavesUnread, ReadsToEnd, Said, SaidPart, Writes, WritesPart}
use Rattle.dp_command.specs.Proved.{FilesProof, SaysTruth}
use Rattle.dp_command.specs.Replies.{Replies}
use Rattle.dp_command.specs.Solving.{IsSolved}
use Rattle.dp_command.specs.Texts.{Filed, files_of, first_of, outcome_file, outcome_status, proving_status, read_fault, second_of, shown_status, status_of, text_of}
use Rattle.dp_command.specs.Words.{Request, Check, Show, Process, Solve, Prove, Gen, IsCheck, IsGen, IsProcess, IsSolve}
use Rattle.dp_command.specs.declared.outcome.Outcome.{Outcome}
use Rattle.dp_command.specs.declared.outcome.Outcome.TheVariants as outcome
use Rattle.dp_command.specs.declared.proving.Proving.{Proving}
use Rattle.dp_command.specs.declared.proving.Proving.TheVariants as proving
use Rattle.dp_command.specs.declared.reply.Reply.{Reply}
use Rattle.dp_command.specs.declared.reply.Reply.TheVariants.{NoCommand, ModelRefused, Accepted, Unread, Refused, Shown as ShownLog, Processed, Proved, Generated}

-- ---- a file

-- what starts is open
pub starts_open : (c : Channel) → Starts c → IsOpen c
starts_open Shut s = s
starts_open Hidden s = tt
starts_open (Shown bytes) s = tt

-- nothing is a front of every text
pub no_part : (c : Channel) (text : List ℕ) → IsOpen c → GrowsByPart c c text
no_part c text opened = record { front = []; rest = text; whole = refl; grows = grows_by_none c opened }

-- where no file is written an output is as it was
same_filed : (file : Option (List ℕ)) (was now : Channel) → file ≡ None → IsFiled file was now → now ≡ was
same_filed None was now e h = h
same_filed (Some text) was now e h = absurd cc

same_cut : (file : Option (List ℕ)) (was now : Channel) → file ≡ None → IsCut file was now → ⊥
same_cut None was now e h = h
same_cut (Some text) was now e h = cc

-- an output that was written, or one of whose text a front was
first_by : (files : Filed) (was now : Sight) (X : Type 0) → files.0 ≡ None → AreFiled files was now ⊎ (AreCut files was now × X) → now.first ≡ was.first
first_by files was now X e (inl h) = same_filed files.0 was.first now.first e h.0
first_by files was now X e (inr (inl h, x)) = absurd (same_cut files.0 was.first now.first e h.0)
first_by files was now X e (inr (inr h, x)) = same_filed files.0 was.first now.first e h.0

second_by : (files : Filed) (was now : Sight) (X : Type 0) → files.1 ≡ None → AreFiled files was now ⊎ (AreCut files was now × X) → now.second ≡ was.second
second_by files was now X e (inl h) = same_filed files.1 was.second now.second e h.1
second_by files was now X e (inr (inl h, x)) = h.1
second_by files was now X e (inr (inr h, x)) = absurd (same_cut files.1 was.second now.second e h.1)

-- ---- what was handed over

-- the files and the text were written whole and the status is this, or fronts of them and the status is 6
abbrev pub WasHanded : ℕ → ℕ → Filed → List ℕ → Sight → Sight → ℕ → ℕ → Type 0
WasHanded r status files text was now before later =
    ((r ≡ status) × Writes files text was now × (later ≡ before)) ⊎ ((r ≡ 6) × WritesPart files text was now × Rose before later)

-- so it was for the answer alone
abbrev pub WasSaid : ℕ → ℕ → List ℕ → Channel → Channel → ℕ → ℕ → Type 0
WasSaid r status text was now before later =
    ((r ≡ status) × Grows was now text × (later ≡ before)) ⊎ ((r ≡ 6) × GrowsByPart was now text × Rose before later)

-- behind whole files
pub handed_behind : (r status : ℕ) (files : Filed) (text : List ℕ) (was middle now : Sight) (before later : ℕ) (between : ℕ) →
    middle ≡ with_output Out.Second middle.second (with_output Out.First middle.first was) → now ≡ with_output Out.Answer now.answer middle → between ≡ before →
    AreFiled files was middle → WasSaid r status text middle.answer now.answer between later → WasHanded r status files text was now before later
handed_behind r status files text was middle now before later between one two same filed (inl h) =
    inl (
      h.0,
      record {
        filed = subst (λ (s : Sight). AreFiled files was s) (sym two) filed;
        told = subst (λ (c : Channel). Grows c now.answer text) (ap (λ (t : Sight). t.answer) one) h.1;
      },
      h.2 ∙ same,
    )
handed_behind r status files text was middle now before later between one two same filed (inr h) =
    inr (
      h.0,
      record {
        part = subst (λ (c : Channel). GrowsByPart c now.answer text) (ap (λ (t : Sight). t.answer) one) h.1;
        filed = inl (subst (λ (s : Sight). AreFiled files was s) (sym two) filed);
      },
      subst (λ (n : ℕ). Rose n later) same h.2,
    )

-- and where a file was cut
pub handed_cut : (status : ℕ) (files : Filed) (text : List ℕ) (was now : Sight) (before later : ℕ) →
    now ≡ with_output Out.Second now.second (with_output Out.First now.first was) → IsOpen was.answer → AreCut files was now → Rose before later → WasHanded 6 status files text was now before later
handed_cut status files text was now before later same opened cut rose =
    let answer = ap (λ (t : Sight). t.answer) same in
    inr (refl, record { part = subst (λ (c : Channel). GrowsByPart was.answer c text) (sym answer) (no_part was.answer text opened); filed = inr (cut, answer) }, rose)

-- ---- behind reading

moved : (files : Filed) (text : List ℕ) (was middle now : Sight) → ChangesInputs was middle → Writes files text middle now → Writes files text was now
moved files text was middle now same w = record {
  filed = subst (λ (s : Sight). AreFiled files s now) same w.filed;
  told = subst (λ (c : Channel). Grows c now.answer text) (ap (λ (t : Sight). t.answer) same) w.told;
}

moved_part : (files : Filed) (text : List ℕ) (was middle now : Sight) → ChangesInputs was middle → WritesPart files text middle now → WritesPart files text was now
moved_part files text was middle now same w = record {
  part = subst (λ (c : Channel). GrowsByPart c now.answer text) (ap (λ (t : Sight). t.answer) same) w.part;
  filed = subst (λ (s : Sight). AreFiled files s now ⊎ (AreCut files s now × (now.answer ≡ s.answer))) same w.filed;
}

-- ---- the reply

not_six : (n : ℕ) → n ≤ 4 → n ≡ 6 → ⊥
not_six n e f = omega (arith, e, f)

beyond : (n m : ℕ) → n ≤ 4 → n ≡ m → 5 ≤ m → ⊥
beyond n m e f g = omega (arith, e, f, g)

-- the status of a reply is at most 4
status_small : (reply : Reply) → status_of reply ≤ 4
status_small NoCommand = lit≤ tt
status_small (ModelRefused refusal) = lit≤ tt
status_small (Accepted claim) = lit≤ tt
status_small (Unread refusal) = lit≤ tt
status_small (Refused refusal told) = lit≤ tt
status_small (Generated family) = lit≤ tt
status_small (ShownLog shown) = shown_small shown.refusal
  where
    shown_small : (refusal : Option ShowRefusal) → shown_status refusal ≤ 4
    shown_small None = lit≤ tt
    shown_small (Some refusal) = lit≤ tt
status_small (Processed o) = outcome_small o
  where
    outcome_small : (o : Outcome) → outcome_status o ≤ 4
    outcome_small (outcome.Done done) = lit≤ tt
    outcome_small (outcome.Unread refusal) = lit≤ tt
    outcome_small (outcome.Refused refusal text) = lit≤ tt
    outcome_small (outcome.NotFollowing failing) = lit≤ tt
status_small (Proved p) = proving_small p
  where
    proving_small : (p : Proving) → proving_status p ≤ 4
    proving_small (proving.Solved text) = lit≤ tt
    proving_small (proving.Unknown text) = lit≤ tt
    proving_small (proving.Accepted text claim) = lit≤ tt
    proving_small (proving.Unread refusal) = lit≤ tt
    proving_small (proving.ScaffoldRefused refusal text) = lit≤ tt
    proving_small (proving.NotFollowing number id) = lit≤ tt
    proving_small (proving.LogRefused refusal text) = lit≤ tt

-- what is handed over ends with no other status but 6
pub handed_small : (reply : Reply) (text : List ℕ) (files : Filed) (was now : Sight) (r before later : ℕ) → WasHanded r (status_of reply) files text was now before later → (r ≤ 4) ⊎ (r ≡ 6)
handed_small reply text files was now r before later (inl h) = inl (subst (λ (n : ℕ). n ≤ 4) (sym h.0) (status_small reply))
handed_small reply text files was now r before later (inr h) = inr h.0

pub not_seven : (r : ℕ) → (r ≤ 4) ⊎ (r ≡ 6) → r ≡ 7 → ⊥
not_seven r (inl e) f = omega (arith, e, f)
not_seven r (inr e) f = omega (arith, e, f)

six_not_solved : (r : ℕ) → r ≡ 6 → (r ≡ 0) ⊎ (r ≡ 4) → ⊥
six_not_solved r e (inl f) = omega (arith, e, f)
six_not_solved r e (inr f) = omega (arith, e, f)

pub zero_small : (n : ℕ) → n ≡ 0 → n ≤ 4
zero_small n e = omega (arith, e)

-- at a status up to 4 the reply's file and text were written
pub said_of : (names : Option Files) (words : List (List ℕ)) (reply : Reply) (was middle now : Sight) (r : ℕ) (text : List ℕ) (before later : ℕ) →
    ChangesInputs was middle → Replies names words reply → text ≡ text_of reply →
    WasHanded r (status_of reply) (files_of reply) text middle now before later → r ≤ 4 → Said names words r was now
said_of names words reply was middle now r text before later same due tx (inl h) small =
    record { reply = reply; due = due; stands = h.0; written = moved (files_of reply) (text_of reply) was middle now same (subst (λ (t : List ℕ). Writes (files_of reply) t middle now) tx h.1) }
said_of names words reply was middle now r text before later same due tx (inr h) small = absurd (not_six r small h.0)

truth_by : (names : Option Files) (words : List (List ℕ)) (reply : Reply) (was now : Channel) → Replies names words reply → IsCheck words → status_of reply ≡ 0 →
    Grows was now (text_of reply) → SaysTruth names words was now
truth_by names words (Accepted claim) was now due check e text =
    record { claim = claim; proved = record { model = due.model; log = due.log; asked = due.asked; m = due.m; given = due.given; holds = due.holds }; text = text }
truth_by names words NoCommand was now due check e text = absurd cc
truth_by names words (ModelRefused refusal) was now due check e text = absurd cc
truth_by names words (Unread refusal) was now due check e text = absurd cc
truth_by names words (Refused refusal told) was now due check e text = absurd cc
truth_by names words (ShownLog shown) was now due check e text = absurd (check_shows_not words check (due.log, due.asked))
truth_by names words (Processed o) was now due check e text = absurd (check_processes_not words check (due.model, due.scaffold, due.out, due.workers, due.asked))
truth_by names words (Proved p) was now due check e text = absurd (check_proves_not words check (due.model, due.workers, due.most, due.asked))
truth_by names words (Generated family) was now due check e text = absurd (gen_checks_not words (due.n, due.model, due.scaffold, due.asked) check)

-- at status 0 of a check the claim that was written is true
pub truth_said : (names : Option Files) (words : List (List ℕ)) (r : ℕ) (was now : Sight) → Said names words r was now → IsCheck words → r ≡ 0 → SaysTruth names words was.answer now.answer
truth_said names words r was now said check e = truth_by names words said.reply was.answer now.answer said.due check (sym said.stands ∙ e) said.written.told

unsolved_by : (names : Option Files) (words : List (List ℕ)) (reply : Reply) → Replies names words reply → IsSolve words → (status_of reply ≡ 0) ⊎ (status_of reply ≡ 4) → ⊥
unsolved_by names words NoCommand due solve (inl e) = absurd cc
unsolved_by names words NoCommand due solve (inr e) = absurd cc
unsolved_by names words (ModelRefused refusal) due solve (inl e) = absurd cc
unsolved_by names words (ModelRefused refusal) due solve (inr e) = absurd cc
unsolved_by names words (Accepted claim) due solve e = check_solves_not words (due.model, due.log, due.asked) solve
unsolved_by names words (Unread refusal) due solve e = check_solves_not words (due.model, due.log, due.asked) solve
unsolved_by names words (Refused refusal told) due solve e = check_solves_not words (due.model, due.log, due.asked) solve
unsolved_by names words (ShownLog shown) due solve e = show_solves_not words (due.log, due.asked) solve
unsolved_by names words (Processed o) due solve e = process_solves_not words (due.model, due.scaffold, due.out, due.workers, due.asked) solve
unsolved_by names words (Proved p) due solve e = solve_proves_not words solve (due.model, due.workers, due.most, due.asked)
unsolved_by names words (Generated family) due solve e = gen_solves_not words (due.n, due.model, due.scaffold, due.asked) solve

-- no reply is said of a model that was solved
pub unsolved : (names : Option Files) (words : List (List ℕ)) (reply : Reply) (was now : Sight) (r : ℕ) (text : List ℕ) (before later : ℕ) →
    Replies names words reply → WasHanded r (status_of reply) (files_of reply) text was now before later → IsSolved words r → ⊥
unsolved names words reply was now r text before later due (inl h) (solve, e) = unsolved_by names words reply due solve (subst (λ (n : ℕ). (n ≡ 0) ⊎ (n ≡ 4)) h.0 e)
unsolved names words reply was now r text before later due (inr h) (solve, e) = six_not_solved r h.0 e

-- the log that a refused model leaves unread is as it was
refused_by : (reply : Reply) (was now : Sight) → status_of reply ≡ 3 → LeavesUnread reply was now → now.log ≡ was.log
refused_by NoCommand was now e h = absurd cc
refused_by (ModelRefused refusal) was now e h = h
refused_by (Accepted claim) was now e h = absurd cc
refused_by (Unread refusal) was now e h = absurd cc
refused_by (Refused refusal told) was now e h = absurd cc
refused_by (Generated family) was now e h = absurd cc
refused_by (ShownLog shown) was now e h = absurd (not_shown shown.refusal e)
  where
    not_shown : (refusal : Option ShowRefusal) → shown_status refusal ≡ 3 → ⊥
    not_shown None e = cc
    not_shown (Some refusal) e = cc
refused_by (Processed o) was now e h = absurd (not_processed o e)
  where
    not_processed : (o : Outcome) → outcome_status o ≡ 3 → ⊥
    not_processed (outcome.Done done) e = cc
    not_processed (outcome.Unread refusal) e = cc
    not_processed (outcome.Refused refusal text) e = cc
    not_processed (outcome.NotFollowing failing) e = cc
refused_by (Proved p) was now e h = absurd (not_proved p e)
  where
    not_proved : (p : Proving) → proving_status p ≡ 3 → ⊥
    not_proved (proving.Solved text) e = cc
    not_proved (proving.Unknown text) e = cc
    not_proved (proving.Accepted text claim) e = cc
    not_proved (proving.Unread refusal) e = cc
    not_proved (proving.ScaffoldRefused refusal text) e = cc
    not_proved (proving.NotFollowing number id) e = cc
    not_proved (proving.LogRefused refusal text) e = cc

six_not_three : (r : ℕ) → r ≡ 6 → r ≡ 3 → ⊥
six_not_three r e f = omega (arith, e, f)

pub refused_said : (reply : Reply) (was middle now : Sight) (r : ℕ) (files : Filed) (text : List ℕ) (before later : ℕ) →
    ChangesFiles middle now → LeavesUnread reply was middle → WasHanded r (status_of reply) files text middle now before later → r ≡ 3 →
    now.log ≡ was.log
refused_said reply was middle now r files text before later rest unread (inl h) e = ap (λ (t : Sight). t.log) rest ∙ refused_by reply was middle (sym h.0 ∙ e) unread
refused_said reply was middle now r files text before later rest unread (inr h) e = absurd (six_not_three r h.0 e)

-- a failed write is counted
pub rose_said : (reply : Reply) (middle now : Sight) (r : ℕ) (files : Filed) (text : List ℕ) (before between later : ℕ) →
    between ≡ before → WasHanded r (status_of reply) files text middle now between later → r ≡ 6 → Rose before later
rose_said reply middle now r files text before between later same (inl h) e = absurd (beyond (status_of reply) 6 (status_small reply) (sym h.0 ∙ e) (lit≤ tt))
rose_said reply middle now r files text before between later same (inr h) e = subst (λ (n : ℕ). Rose n later) same h.2

pub not_five : (r : ℕ) → (r ≤ 4) ⊎ (r ≡ 6) → r ≡ 5 → ⊥
not_five r (inl e) f = omega (arith, e, f)
not_five r (inr e) f = omega (arith, e, f)

pub said_known : (r : ℕ) → (r ≤ 4) ⊎ (r ≡ 6) → r ≤ 7
said_known r (inl e) = omega (arith, e)
said_known r (inr e) = omega (arith, e)

-- and the processed log stands in the file
pub filed_said : (names : Option Files) (words : List (List ℕ)) (was now : Sight) (r : ℕ) → Said names words r was now → IsProcess words → r ≡ 0 → FilesProof names words now.first
filed_said names words was now r said process e = proof_of names words said.reply was.first now.first said.due process (sym said.stands ∙ e) said.written.filed.0

-- ---- the inputs

still_at_end : (request : Request) (middle : Sight) (answer first second : Channel) → AreAtEnd request middle → AreAtEnd request (record middle { answer = answer; first = first; second = second })
still_at_end (Check model log) middle answer first second h = h
still_at_end (Show log) middle answer first second h = h
still_at_end (Process model scaffold out workers) middle answer first second h = h
still_at_end (Solve model out most) middle answer first second h = h
still_at_end (Prove model workers most) middle answer first second h = h
still_at_end (Gen n model scaffold) middle answer first second h = h

-- what was read to its end before the outputs is so behind them
pub still_read : (words : List (List ℕ)) (middle now : Sight) → ChangesFiles middle now → ReadsToEnd words middle → ReadsToEnd words now
still_read words middle now same read =
    record { request = read.request; asked = read.asked; ended = subst (AreAtEnd read.request) (sym same) (still_at_end read.request middle now.answer now.first now.second read.ended) }

-- at status 0 the inputs were read to their ends before
pub ended_said : (words : List (List ℕ)) (reply : Reply) (middle now : Sight) (r : ℕ) (files : Filed) (text : List ℕ) (before later : ℕ) →
    ChangesFiles middle now → (status_of reply ≡ 0 → ReadsToEnd words middle) →
    WasHanded r (status_of reply) files text middle now before later → r ≡ 0 → ReadsToEnd words now
ended_said words reply middle now r files text before later same ended (inl h) e = still_read words middle now same (ended (sym h.0 ∙ e))
ended_said words reply middle now r files text before later same ended (inr h) e = absurd (not_six r (zero_small r e) h.0)

-- what is left unread before the outputs is so behind them
pub left_said : (words : List (List ℕ)) (was middle now : Sight) → ChangesFiles middle now → Leaves words was middle → Leaves words was now
left_said words was middle now same l = record {
  command = l.command;
  asked = l.asked;
  left = left_by l.command was middle now (ap (λ (t : Sight). t.model) same) (ap (λ (t : Sight). t.log) same) l.left;
  none = λ e. let both = l.none e in (ap (λ (t : Sight). t.model) same ∙ both.0, ap (λ (t : Sight). t.log) same ∙ both.1);
}
  where
    left_by : (command : Option Request) (was middle now : Sight) → now.model ≡ middle.model → now.log ≡ middle.log → IfSome command (λ request. LeavesUnasked request was middle) →
        IfSome command (λ request. LeavesUnasked request was now)
    left_by None was middle now e f h = h
    left_by (Some (Check model log)) was middle now e f h = h
    left_by (Some (Show log)) was middle now e f h = e ∙ h
    left_by (Some (Process model scaffold out workers)) was middle now e f h = h
    left_by (Some (Solve model out most)) was middle now e f h = f ∙ h
    left_by (Some (Prove model workers most)) was middle now e f h = f ∙ h
    left_by (Some (Gen n model scaffold)) was middle now e f h = (e ∙ h.0, f ∙ h.1)

-- where the answer alone changed, or the answer and the first file, the files alone did
pub told_files : (middle now : Sight) → now ≡ with_output Out.Answer now.answer middle → ChangesFiles middle now
told_files middle now same =
    same ∙ ap (λ (f : Channel). with_output Out.Answer now.answer (with_output Out.First f middle)) (sym (ap (λ (t : Sight). t.first) same))
    ∙ ap (λ (c : Channel). with_output Out.Answer now.answer (with_output Out.Second c (with_output Out.First now.first middle))) (sym (ap (λ (t : Sight). t.second) same))

pub searched_files : (middle now : Sight) → now ≡ with_output Out.Answer now.answer (with_output Out.First now.first middle) → ChangesFiles middle now
searched_files middle now same =
    same ∙ ap (λ (c : Channel). with_output Out.Answer now.answer (with_output Out.Second c (with_output Out.First now.first middle))) (sym (ap (λ (t : Sight). t.second) same))

-- so it is behind the answer alone
pub left_told : (words : List (List ℕ)) (was middle now : Sight) → now ≡ with_output Out.Answer now.answer middle → Leaves words was middle → Leaves words was now
left_told words was middle now same l = left_said words was middle now (told_files middle now same) l

-- ---- a failed write

no_fault : (reply : Reply) → status_of reply ≡ 6 → ⊥
no_fault reply e = beyond (status_of reply) 6 (status_small reply) e (lit≤ tt)

-- at status 6 fronts of the reply's file and text stand there
pub front_said : (names : Option Files) (words : List (List ℕ)) (F : Type 0) (reply : Reply) (was middle now : Sight) (r : ℕ) (text : List ℕ) (before later : ℕ) →
    ChangesInputs was middle → Replies names words reply → text ≡ text_of reply →
    WasHanded r (status_of reply) (files_of reply) text middle now before later → r ≡ 6 → SaidPart names words F was now
front_said names words F reply was middle now r text before later same due tx (inl h) e = absurd (no_fault reply (sym h.0 ∙ e))
front_said names words F reply was middle now r text before later same due tx (inr h) e =
    record { files = files_of reply; text = text; due = inl (reply, due, refl, tx); written = moved_part (files_of reply) text was middle now same h.1 }

-- so does a front of the text of a read fault
pub front_fault : (names : Option Files) (words : List (List ℕ)) (F : Type 0) (was middle now : Sight) (r : ℕ) (text : List ℕ) (before later : ℕ) →
    ChangesInputs was middle → now ≡ with_output Out.Answer now.answer middle → F → text ≡ read_fault → WasSaid r 5 text middle.answer now.answer before later → r ≡ 6 →
    SaidPart names words F was now
front_fault names words F was middle now r text before later same rest fault tx (inl h) e = absurd (five_is_not_six r h.0 e)
  where
    five_is_not_six : (n : ℕ) → n ≡ 5 → n ≡ 6 → ⊥
    five_is_not_six n e f = omega (arith, e, f)
front_fault names words F was middle now r text before later same rest fault tx (inr h) e =
    record {
      files = (None, None);
      text = text;
      due = inr (fault, refl, tx);
      written = record {
        part = subst (λ (c : Channel). GrowsByPart c now.answer text) (ap (λ (t : Sight). t.answer) same) h.1;
        filed = inl (ap (λ (t : Sight). t.first) rest ∙ ap (λ (t : Sight). t.first) same, ap (λ (t : Sight). t.second) rest ∙ ap (λ (t : Sight). t.second) same);
      };
    }

-- ---- no file

-- what was written of the files, and perhaps of the answer
written_of : (files : Filed) (text : List ℕ) (r status : ℕ) (was now : Sight) (before later : ℕ) → WasHanded r status files text was now before later
    → AreFiled files was now ⊎ (AreCut files was now × (now.answer ≡ was.answer))
written_of files text r status was now before later (inl h) = inl h.1.filed
written_of files text r status was now before later (inr h) = h.1.filed

kept_first : (files : Filed) (text : List ℕ) (r status : ℕ) (was middle now : Sight) (before later : ℕ) → ChangesInputs was middle → files.0 ≡ None →
    WasHanded r status files text middle now before later → now.first ≡ was.first
kept_first files text r status was middle now before later same none h =
    first_by files middle now (now.answer ≡ middle.answer) none (written_of files text r status middle now before later h) ∙ ap (λ (t : Sight). t.first) same

kept_second : (files : Filed) (text : List ℕ) (r status : ℕ) (was middle now : Sight) (before later : ℕ) → ChangesInputs was middle → files.1 ≡ None →
    WasHanded r status files text middle now before later → now.second ≡ was.second
kept_second files text r status was middle now before later same none h =
    second_by files middle now (now.answer ≡ middle.answer) none (written_of files text r status middle now before later h) ∙ ap (λ (t : Sight). t.second) same

no_first : (names : Option Files) (words : List (List ℕ)) (reply : Reply) → Replies names words reply → (IsProcess words → ⊥) → (IsGen words → ⊥) → first_of reply ≡ None
no_first names words NoCommand due process gen = refl
no_first names words (ModelRefused refusal) due process gen = refl
no_first names words (Accepted claim) due process gen = refl
no_first names words (Unread refusal) due process gen = refl
no_first names words (Refused refusal told) due process gen = refl
no_first names words (ShownLog shown) due process gen = refl
no_first names words (Processed o) due process gen = absurd (process (due.model, due.scaffold, due.out, due.workers, due.asked))
no_first names words (Proved p) due process gen = refl
no_first names words (Generated family) due process gen = absurd (gen (due.n, due.model, due.scaffold, due.asked))

no_second : (names : Option Files) (words : List (List ℕ)) (reply : Reply) → Replies names words reply → (IsGen words → ⊥) → second_of reply ≡ None
no_second names words NoCommand due gen = refl
no_second names words (ModelRefused refusal) due gen = refl
no_second names words (Accepted claim) due gen = refl
no_second names words (Unread refusal) due gen = refl
no_second names words (Refused refusal told) due gen = refl
no_second names words (ShownLog shown) due gen = refl
no_second names words (Processed o) due gen = refl
no_second names words (Proved p) due gen = refl
no_second names words (Generated family) due gen = absurd (gen (due.n, due.model, due.scaffold, due.asked))

-- other words leave the files as they were
pub unfiled_words : (names : Option Files) (words : List (List ℕ)) (reply : Reply) (text : List ℕ) (r : ℕ) (was middle now : Sight) (before later : ℕ) →
    ChangesInputs was middle → Replies names words reply → WasHanded r (status_of reply) (files_of reply) text middle now before later → (IsProcess words → ⊥) → (IsGen words → ⊥) →
    now.first ≡ was.first
unfiled_words names words reply text r was middle now before later same due h process gen =
    kept_first (files_of reply) text r (status_of reply) was middle now before later same (no_first names words reply due process gen) h

pub second_words : (names : Option Files) (words : List (List ℕ)) (reply : Reply) (text : List ℕ) (r : ℕ) (was middle now : Sight) (before later : ℕ) →
    ChangesInputs was middle → Replies names words reply → WasHanded r (status_of reply) (files_of reply) text middle now before later → (IsGen words → ⊥) → now.second ≡ was.second
second_words names words reply text r was middle now before later same due h gen =
    kept_second (files_of reply) text r (status_of reply) was middle now before later same (no_second names words reply due gen) h

not_done : (reply : Reply) → (status_of reply ≡ 0 → ⊥) → (first_of reply ≡ None) × (second_of reply ≡ None)
not_done NoCommand h = (refl, refl)
not_done (ModelRefused refusal) h = (refl, refl)
not_done (Accepted claim) h = (refl, refl)
not_done (Unread refusal) h = (refl, refl)
not_done (Refused refusal told) h = (refl, refl)
not_done (ShownLog shown) h = (refl, refl)
not_done (Proved p) h = (refl, refl)
not_done (Generated family) h = absurd (h refl)
not_done (Processed o) h = (not_processed o h, refl)
  where
    not_processed : (o : Outcome) → (outcome_status o ≡ 0 → ⊥) → outcome_file o ≡ None
    not_processed (outcome.Done done) h = absurd (h refl)
    not_processed (outcome.Unread refusal) h = refl
    not_processed (outcome.Refused refusal text) h = refl
    not_processed (outcome.NotFollowing failing) h = refl

-- so does another status
pub unfiled : (reply : Reply) (text : List ℕ) (r : ℕ) (was middle now : Sight) (before later : ℕ) →
    ChangesInputs was middle → WasHanded r (status_of reply) (files_of reply) text middle now before later → r ≢ 0 → r ≢ 6 → now.first ≡ was.first
unfiled reply text r was middle now before later same (inl h) done fault =
    kept_first (files_of reply) text r (status_of reply) was middle now before later same (not_done reply (λ e. done (h.0 ∙ e))).0 (inl h)
unfiled reply text r was middle now before later same (inr h) done fault = absurd (fault h.0)

pub second_unfiled : (reply : Reply) (text : List ℕ) (r : ℕ) (was middle now : Sight) (before later : ℕ) →
    ChangesInputs was middle → WasHanded r (status_of reply) (files_of reply) text middle now before later → r ≢ 0 → r ≢ 6 → now.second ≡ was.second
second_unfiled reply text r was middle now before later same (inl h) done fault =
    kept_second (files_of reply) text r (status_of reply) was middle now before later same (not_done reply (λ e. done (h.0 ∙ e))).1 (inl h)
second_unfiled reply text r was middle now before later same (inr h) done fault = absurd (fault h.0)

-- all else is as it was
pub rest_said : (was middle now : Sight) → ChangesInputs was middle → ChangesFiles middle now → ChangesOutputs was now
rest_said was middle now same rest = ap (λ (n : Option Files). record now { names = n }) (ap (λ (t : Sight). t.names) rest ∙ ap (λ (t : Sight). t.names) same)
