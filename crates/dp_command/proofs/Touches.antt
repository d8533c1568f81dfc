-- What a run touches, by its command and its status.
use Rattle.std.specs.Prelude.{◌≡◌, ◌≢◌, ℕ, ◌≤◌, IfSome, Option, Some, None, List}
use Rattle.std.proofs.Common.{refl, sym, ◌∙◌, arith}
use Rattle.dp_desk.specs.Channel.{Files, IsAtEnd}
use Rattle.dp_desk.specs.Sight.{Sight}
use Rattle.dp_show.specs.declared.shown.Refusal.{Refusal as ShowRefusal}
use Rattle.dp_command.proofs.Requests.{check_processes_not, check_proves_not, check_shows_not, check_solves_not, gen_checks_not, gen_processes_not, gen_proves_not, gen_shows_not, gen_solves_not, process_proves_not, process_solves_not, show_processes_not, show_proves_not, show_solves_not, solve_proves_not}
use Rattle.dp_command.specs.Due.{AreAtEnd, ChangesOutputs, Leaves, LeavesUnasked, ReadsToEnd, Said}
use Rattle.dp_command.specs.Promises.{Touches, Uses}
use Rattle.dp_command.specs.Replies.{Replies}
use Rattle.dp_command.specs.Solving.{IsReplied}
use Rattle.dp_command.specs.Texts.{outcome_status, proving_status, shown_status, status_of}
use Rattle.dp_command.specs.Words.{Request, Check, Show, Process, Solve, Prove, Gen, AreNoCommand, IsAsked, IsCheck, IsGen, IsProcess, IsProve, IsShow, IsSolve, Spells}
use Rattle.dp_command.specs.declared.outcome.Outcome.{Outcome}
use Rattle.dp_command.specs.declared.outcome.Outcome.TheVariants as outcome
use Rattle.dp_command.specs.declared.proving.Proving.{Proving}
use Rattle.dp_command.specs.declared.proving.Proving.TheVariants as proving
use Rattle.dp_command.specs.declared.reply.Reply.{Reply}
use Rattle.dp_command.specs.declared.reply.Reply.TheVariants.{NoCommand, ModelRefused, Accepted, Unread, Refused, Shown as ShownLog, Processed, Proved, Generated}

-- ---- words that are no command

none_processes : (words : List (List ℕ)) → AreNoCommand words → IsProcess words → ⊥
none_processes words none (model, scaffold, out, workers, process) = none (Process model scaffold out workers) process

none_solves : (words : List (List ℕ)) → AreNoCommand words → IsSolve words → ⊥
none_solves words none (model, out, most, solve) = none (Solve model out most) solve

none_gens : (words : List (List ℕ)) → AreNoCommand words → IsGen words → ⊥
none_gens words none (n, model, scaffold, gen) = none (Gen n model scaffold) gen

-- ---- the status of a reply

-- the status of other commands is that of a reply, up to 4
pub replied_by : (words : List (List ℕ)) (r : ℕ) → r ≤ 4 → (IsSolve words → ⊥) → IsReplied words r
replied_by words r small other = (small, λ solve. absurd (other solve))

two_replied : (words : List (List ℕ)) (r : ℕ) → r ≡ 2 → IsReplied words r
two_replied words r e = (omega (arith, e), λ solve. (λ f. two_zero r e f, λ f. two_four r e f))
  where
    two_zero : (n : ℕ) → n ≡ 2 → n ≡ 0 → ⊥
    two_zero n e f = omega (arith, e, f)

    two_four : (n : ℕ) → n ≡ 2 → n ≡ 4 → ⊥
    two_four n e f = omega (arith, e, f)

no_command_by : (names : Option Files) (words : List (List ℕ)) (reply : Reply) → Replies names words reply → status_of reply ≡ 2 → AreNoCommand words
no_command_by names words NoCommand due e = due
no_command_by names words (ModelRefused refusal) due e = absurd cc
no_command_by names words (Accepted claim) due e = absurd cc
no_command_by names words (Unread refusal) due e = absurd cc
no_command_by names words (Refused refusal told) due e = absurd cc
no_command_by names words (Generated family) due e = absurd cc
no_command_by names words (ShownLog shown) due e = absurd (not_shown shown.refusal e)
  where
    not_shown : (refusal : Option ShowRefusal) → shown_status refusal ≡ 2 → ⊥
    not_shown None e = cc
    not_shown (Some refusal) e = cc
no_command_by names words (Processed o) due e = absurd (not_processed o e)
  where
    not_processed : (o : Outcome) → outcome_status o ≡ 2 → ⊥
    not_processed (outcome.Done done) e = cc
    not_processed (outcome.Unread refusal) e = cc
    not_processed (outcome.Refused refusal text) e = cc
    not_processed (outcome.NotFollowing failing) e = cc
no_command_by names words (Proved p) due e = absurd (not_proved p e)
  where
    not_proved : (p : Proving) → proving_status p ≡ 2 → ⊥
    not_proved (proving.Solved text) e = cc
    not_proved (proving.Unknown text) e = cc
    not_proved (proving.Accepted text claim) e = cc
    not_proved (proving.Unread refusal) e = cc
    not_proved (proving.ScaffoldRefused refusal text) e = cc
    not_proved (proving.NotFollowing number id) e = cc
    not_proved (proving.LogRefused refusal text) e = cc

none_of : (words : List (List ℕ)) (command : Option Request) → IsAsked command words → AreNoCommand words → command ≡ None
none_of words None asked none = refl
none_of words (Some request) asked none = absurd (none request asked)

some_of : (words : List (List ℕ)) (command : Option Request) (request : Request) → IsAsked command words → Spells request words → command ≢ None
some_of words None request asked spelled = λ e. asked request spelled
some_of words (Some other) request asked spelled = λ e. cc

-- ---- the inputs that are not asked for

-- what a command leaves as it was
pub leaves_of : (request : Request) (words : List (List ℕ)) (was now : Sight) → Spells request words → LeavesUnasked request was now → Leaves words was now
leaves_of request words was now asked left = record { command = Some request; asked = asked; left = left; none = λ e. absurd cc }

-- words that are no command leave all
pub leaves_none : (words : List (List ℕ)) (was : Sight) → AreNoCommand words → Leaves words was was
leaves_none words was none = record { command = None; asked = none; left = tt; none = λ e. (refl, refl) }

-- ---- the table

-- a model that was asked for was read to its end
model_ended : (words : List (List ℕ)) (now : Sight) → ReadsToEnd words now → (IsShow words → ⊥) → (IsGen words → ⊥) → IsAtEnd now.model
model_ended words now read show gen = by_request read.request words now read.asked read.ended show gen
  where
    by_request : (request : Request) (words : List (List ℕ)) (now : Sight) → Spells request words → AreAtEnd request now → (IsShow words → ⊥) → (IsGen words → ⊥) → IsAtEnd now.model
    by_request (Check model log) words now e h show gen = h.0
    by_request (Show log) words now e h show gen = absurd (show (log, e))
    by_request (Process model scaffold out workers) words now e h show gen = h.0
    by_request (Solve model out most) words now e h show gen = h
    by_request (Prove model workers most) words now e h show gen = h
    by_request (Gen n model scaffold) words now e h show gen = absurd (gen (n, model, scaffold, e))

-- so was a log or a scaffold
log_ended : (words : List (List ℕ)) (now : Sight) → ReadsToEnd words now → (IsSolve words → ⊥) → (IsProve words → ⊥) → (IsGen words → ⊥) → IsAtEnd now.log
log_ended words now read solve prove gen = by_request read.request words now read.asked read.ended solve prove gen
  where
    by_request : (request : Request) (words : List (List ℕ)) (now : Sight) → Spells request words → AreAtEnd request now → (IsSolve words → ⊥) → (IsProve words → ⊥) → (IsGen words → ⊥) → IsAtEnd now.log
    by_request (Check model log) words now e h solve prove gen = h.1
    by_request (Show log) words now e h solve prove gen = h
    by_request (Process model scaffold out workers) words now e h solve prove gen = h.1
    by_request (Solve model out most) words now e h solve prove gen = absurd (solve (model, out, most, e))
    by_request (Prove model workers most) words now e h solve prove gen = absurd (prove (model, workers, most, e))
    by_request (Gen n model scaffold) words now e h solve prove gen = absurd (gen (n, model, scaffold, e))

module _ (words : List (List ℕ)) (r : ℕ) (was now : Sight) (ended : r ≡ 0 → ReadsToEnd words now) (unread : r ≡ 3 → now.log ≡ was.log)
    (other : (IsProcess words → ⊥) → (IsSolve words → ⊥) → (IsGen words → ⊥) → now.first ≡ was.first) (unfiled : r ≢ 0 → r ≢ 6 → (IsSolve words → (r ≢ 4) × (r ≢ 7)) → now.first ≡ was.first)
    (second : (IsGen words → ⊥) → now.second ≡ was.second) (second_unfiled : r ≢ 0 → r ≢ 6 → now.second ≡ was.second) where
  uses_of : (command : Option Request) → IsAsked command words → IfSome command (λ request. LeavesUnasked request was now) →
      (command ≡ None → (now.model ≡ was.model) × (now.log ≡ was.log)) → Uses command r was now
  uses_of None asked left none = (
    (none refl).0,
    (none refl).1,
    other (none_processes words asked) (none_solves words asked) (none_gens words asked),
    second (none_gens words asked),
  )
  uses_of (Some (Check model log)) asked left none =
      let check : IsCheck words = (model, log, asked) in
      let no_gen : (IsGen words → ⊥) = λ gen. gen_checks_not words gen check in (
        λ e. model_ended words now (ended e) (check_shows_not words check) no_gen,
        (λ e. log_ended words now (ended e) (check_solves_not words check) (check_proves_not words check) no_gen, unread),
        other (check_processes_not words check) (check_solves_not words check) no_gen,
        second no_gen,
      )
  uses_of (Some (Show log)) asked left none =
      let show : IsShow words = (log, asked) in
      let no_gen : (IsGen words → ⊥) = λ gen. gen_shows_not words gen show in (
        left,
        (λ e. log_ended words now (ended e) (show_solves_not words show) (show_proves_not words show) no_gen, unread),
        other (show_processes_not words show) (show_solves_not words show) no_gen,
        second no_gen,
      )
  uses_of (Some (Process model scaffold out workers)) asked left none =
      let process : IsProcess words = (model, scaffold, out, workers, asked) in
      let no_gen : (IsGen words → ⊥) = λ gen. gen_processes_not words gen process in (
        λ e. model_ended words now (ended e) (λ show. show_processes_not words show process) no_gen,
        (λ e. log_ended words now (ended e) (process_solves_not words process) (process_proves_not words process) no_gen, unread),
        λ done fault. unfiled done fault (λ solve. absurd (process_solves_not words process solve)),
        second no_gen,
      )
  uses_of (Some (Solve model out most)) asked left none =
      let solve : IsSolve words = (model, out, most, asked) in
      let no_gen : (IsGen words → ⊥) = λ gen. gen_solves_not words gen solve in (
        λ e. model_ended words now (ended e) (λ show. show_solves_not words show solve) no_gen,
        left,
        λ done unknown fault memory. unfiled done fault (λ s. (unknown, memory)),
        second no_gen,
      )
  uses_of (Some (Prove model workers most)) asked left none =
      let prove : IsProve words = (model, workers, most, asked) in
      let no_gen : (IsGen words → ⊥) = λ gen. gen_proves_not words gen prove in (
        λ e. model_ended words now (ended e) (λ show. show_proves_not words show prove) no_gen,
        left,
        other (λ process. process_proves_not words process prove) (λ solve. solve_proves_not words solve prove) no_gen,
        second no_gen,
      )
  uses_of (Some (Gen n model scaffold)) asked left none =
      let gen : IsGen words = (n, model, scaffold, asked) in (
        left.0,
        left.1,
        λ done fault. unfiled done fault (λ solve. absurd (gen_solves_not words gen solve)),
        second_unfiled,
      )

  -- the inputs and the files are used as the table says
  pub touches_of : (names : Option Files) → (IsReplied words r → Said names words r was now) → Leaves words was now → ChangesOutputs was now → Touches words r was now
  touches_of names answered l rest = record {
    command = l.command;
    asked = l.asked;
    uses = uses_of l.command l.asked l.left l.none;
    refused = λ e. let said = answered (two_replied words r e) in none_of words l.command l.asked (no_command_by names words said.reply said.due (sym said.stands ∙ e));
    good = λ e. some_of words l.command (ended e).request l.asked (ended e).asked;
    rest = rest;
  }
