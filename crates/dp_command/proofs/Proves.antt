-- What a model is told that is proved.
use Rattle.std.specs.Prelude.{◌≡◌, ◌⊎◌, ◌++◌, ℕ, ◌≤◌, Option, Some, None, List}
use Rattle.std.proofs.Common.{refl, sym, ◌∙◌, ap, subst, inl, inr, arith}
use Rattle.dp_desk.specs.Channel.{Channel, Files, Grows}
use Rattle.dp_desk.specs.Sight.{Sight}
use Rattle.dp_domain.specs.Atoms.{Atomic}
use Rattle.dp_domain.specs.declared.verdict.Verdict.{Verdict}
use Rattle.dp_judge.specs.Logs.{judged_log}
use Rattle.dp_judge.specs.declared.answer.LogAnswer.{LogAnswer}
use Rattle.dp_judge.specs.declared.answer.LogAnswer.TheVariants as judged
use Rattle.dp_learning.specs.Scaffolds.{scaffold_of}
use Rattle.dp_lower.specs.Problem.{problem_of}
use Rattle.dp_parts.specs.Problems.{Csp, IsProblem, posed}
use Rattle.dp_process.specs.Met.{EachMetFollows}
use Rattle.dp_process.specs.Processed.{log_of}
use Rattle.dp_scaffold.specs.Scaffolds.{Learned}
use Rattle.dp_scaffold.specs.Texts.{scaffold_text}
use Rattle.dp_scaffold.specs.declared.answer.ScaffoldAnswer.{ScaffoldAnswer}
use Rattle.dp_scaffold.specs.declared.answer.ScaffoldAnswer.TheVariants as gathered
use Rattle.dp_solver.specs.declared.outcome.Outcome.{Outcome}
use Rattle.dp_solver.specs.declared.outcome.Outcome.TheVariants.{Solution, Unsat, Optimal, Unknown as UnknownOutcome}
use Rattle.dp_writer.specs.Steps.{text_of as log_text}
use Rattle.fz_model.specs.Models.{Plan}
use Rattle.fz_prove.specs.Limits.{IsPastLimit}
use Rattle.fz_prove.specs.Proofs.{IsAgreed, IsEnd, IsEnding, IsProven, IsWithin, Proves, log_end, told_alone}
use Rattle.fz_prove.specs.declared.proof.Proof.{Proof}
use Rattle.fz_prove.specs.declared.proof.Proof.TheVariants.{Solved, Unknown, Accepted, ScaffoldUnread, ScaffoldRefused, NotFollowing, LogUnread, LogRefused}
use Rattle.fz_solve.specs.Printed.{outcome_status, outcome_text}
use Rattle.fz_solve.specs.Solved.{Finds}
use Rattle.dp_command.proofs.Checks.{given_of}
use Rattle.dp_command.proofs.Decides.{decided_by}
use Rattle.dp_command.proofs.Requests.{check_proves_not, gen_proves_not, process_proves_not, show_proves_not}
use Rattle.dp_command.proofs.Rights.{log_goal, log_right}
use Rattle.dp_command.specs.Due.{Said}
use Rattle.dp_command.specs.Found.{IsFound, IsProblemOf}
use Rattle.dp_command.specs.Named.{claim_of}
use Rattle.dp_command.specs.Proven.{IsChecked, IsTold, PassesLimit, SaysProof}
use Rattle.dp_command.specs.Proving.{IsAimed, IsProving, IsTrueProving, proving_of}
use Rattle.dp_command.specs.Replies.{IsGiven, Replies, RepliesTo}
use Rattle.dp_command.specs.Texts.{accepted_line, proving_status, proving_text, status_of, text_of}
use Rattle.dp_command.specs.Words.{Prove, IsProve, Spells}
use Rattle.dp_command.specs.declared.finding.Found.{Found}
use Rattle.dp_command.specs.declared.finding.Found.TheVariants.{Problem}
use Rattle.dp_command.specs.declared.proving.Proving.{Proving}
use Rattle.dp_command.specs.declared.reply.Reply.{Reply}
use Rattle.dp_command.specs.declared.reply.Reply.TheVariants.{NoCommand, ModelRefused, Accepted as AcceptedReply, Unread, Refused, Shown as ShownLog, Processed, Proved, Generated}

-- ---- what was checked

-- a scaffold was read, each nogood that its claim rests on follows, and a check accepts its log with this verdict
record Checked (p : Csp) (text told : List ℕ) (v : Verdict) (answer : ScaffoldAnswer) : Type 0 where
  learned : Learned
  says : answer ≡ gathered.Given learned
  follows : EachMetFollows (posed p) learned.nogoods
  accepted : judged_log (posed p) (log_text (log_of p learned)) ≡ judged.Accepted v
  spelled : told ≡ text

by_log : (text told : List ℕ) (v : Verdict) (a : LogAnswer) → Accepted told v ≡ log_end text a → (a ≡ judged.Accepted v) × (told ≡ text)
by_log text told v (judged.Accepted w) e = (cc, cc)
by_log text told v (judged.Unread refusal) e = absurd cc
by_log text told v (judged.Refused refusal line) e = absurd cc

checked_by : (p : Csp) (text told : List ℕ) (v : Verdict) (a : ScaffoldAnswer) → IsEnd p text a (Accepted told v) → Checked p text told v a
checked_by p text told v (gathered.Given s) h =
    let k = by_log text told v (judged_log (posed p) (log_text (log_of p s))) h.1 in
    record { learned = s; says = refl; follows = h.0; accepted = k.0; spelled = k.1 }
checked_by p text told v (gathered.Unread refusal) h = absurd cc
checked_by p text told v (gathered.Refused refusal line) h = absurd cc

not_accepted : (m : Plan) (o : Outcome) (told : List ℕ) (v : Verdict) → Accepted told v ≡ told_alone m o → ⊥
not_accepted m (Solution numbers) told v e = cc
not_accepted m Unsat told v e = cc
not_accepted m (Optimal numbers bound) told v e = cc
not_accepted m (UnknownOutcome best) told v e = cc

-- the log of a proof that accepts
log_by : (m : Plan) (p : Csp) (outcome : Outcome) (nogoods : List (List Atomic)) (claim : Option Verdict) (told : List ℕ) (v : Verdict) →
    IsEnding m p outcome nogoods claim (Accepted told v) → (log : List ℕ) × (judged_log (posed p) log ≡ judged.Accepted v)
log_by m p outcome nogoods None told v h = absurd (not_accepted m outcome told v h)
log_by m p outcome nogoods (Some claim) told v h =
    let k = checked_by p (outcome_text m outcome) told v (scaffold_text (posed p) (scaffold_of p nogoods (Some claim))) h in
    (log_text (log_of p k.learned), k.accepted)

-- ---- what is accepted

aimed_by : (m : Plan) (p : Csp) (outcome : Outcome) (nogoods : List (List Atomic)) (claim : Option Verdict) (end : Proof) → IsProblem p → IsEnding m p outcome nogoods claim end → IsAimed p end
aimed_by m p outcome nogoods claim (Solved text) problem h = tt
aimed_by m p outcome nogoods claim (Unknown text) problem h = tt
aimed_by m p outcome nogoods claim (Accepted text v) problem h = let l = log_by m p outcome nogoods claim text v h in log_goal p problem l.0 v l.1
aimed_by m p outcome nogoods claim (ScaffoldUnread refusal) problem h = tt
aimed_by m p outcome nogoods claim (ScaffoldRefused refusal line) problem h = tt
aimed_by m p outcome nogoods claim (NotFollowing place line id) problem h = tt
aimed_by m p outcome nogoods claim (LogUnread refusal) problem h = tt
aimed_by m p outcome nogoods claim (LogRefused refusal line) problem h = tt

-- what is accepted is of the goal
pub aimed_of : (m : Plan) (p : Csp) (most : ℕ) (end : Proof) → IsProblem p → Proves m p most end → IsAimed p end
aimed_of m p most end problem h = aimed_by m p h.outcome h.found.nogoods h.found.claim end problem h.ending

true_by : (m : Plan) (p : Csp) (outcome : Outcome) (nogoods : List (List Atomic)) (claim : Option Verdict) (end : Proof) → IsProblem p → IsProblemOf m p → IsEnding m p outcome nogoods claim end →
    IsTrueProving m (proving_of p end)
true_by m p outcome nogoods claim (Solved text) problem is h = tt
true_by m p outcome nogoods claim (Unknown text) problem is h = tt
true_by m p outcome nogoods claim (Accepted text v) problem is h =
    let l = log_by m p outcome nogoods claim text v h in is.true_of v (log_right p problem l.0 v l.1) (log_goal p problem l.0 v l.1)
true_by m p outcome nogoods claim (ScaffoldUnread refusal) problem is h = tt
true_by m p outcome nogoods claim (ScaffoldRefused refusal line) problem is h = tt
true_by m p outcome nogoods claim (NotFollowing place line id) problem is h = tt
true_by m p outcome nogoods claim (LogUnread refusal) problem is h = tt
true_by m p outcome nogoods claim (LogRefused refusal line) problem is h = tt

-- a model that is proved ends so, and what is accepted is true of it
pub proving_is : (m : Plan) (p : Csp) (most : ℕ) (end : Proof) (told : Proving) → IsProblem p → IsProblemOf m p → Proves m p most end → told ≡ proving_of p end → IsProving m p most told
proving_is m p most end told problem is h e =
    record {
      end = end;
      proves = h;
      told = e;
      holds = subst (λ (t : Proving). IsTrueProving m t) (sym e) (true_by m p h.outcome h.found.nogoods h.found.claim end problem is h.ending);
      decided = decided_by p most h.outcome problem h.found;
    }

-- the reply for a model that is proved belongs to the words
pub proving_at : (names : Option Files) (model : List ℕ) (workers most : ℕ) (m : Plan) (p : Csp) (told : Proving) (what : Found) → what ≡ Problem m p → IsFound names model what → IsProving m p most told →
    RepliesTo names (Prove model workers most) (Proved told)
proving_at names model workers most m p told what is f h =
    let found : IsFound names model (Problem m p) = subst (λ (w : Found). IsFound names model w) is f in
    λ words asked.
    record {
      model = model;
      workers = workers;
      most = most;
      asked = asked;
      m = m;
      given = given_of names model m p found;
      proves = subst (λ (q : Csp). IsProving m q most told) found.found.problem.posed h;
    }

-- ---- what is told

-- the end of an outcome that claims nothing is told by its text and its status
alone : (m : Plan) (p : Csp) (o : Outcome) →
    (proving_text (proving_of p (told_alone m o)) ≡ outcome_text m o) × (proving_status (proving_of p (told_alone m o)) ≡ outcome_status o)
alone m p (Solution numbers) = (refl, refl)
alone m p Unsat = (refl, refl)
alone m p (Optimal numbers bound) = (refl, refl)
alone m p (UnknownOutcome best) = (refl, refl)

-- 1, 2 and 3 are no statuses of what is told
one : (n : ℕ) → n ≡ 1 → (n ≡ 0) ⊎ (n ≡ 4) → ⊥
one n e (inl f) = omega (arith, e, f)
one n e (inr f) = omega (arith, e, f)

-- a limit that is told has status 1
past_one : (p : Csp) (end : Proof) → IsPastLimit end → proving_status (proving_of p end) ≡ 1
past_one p (Solved text) h = absurd h
past_one p (Unknown text) h = absurd h
past_one p (Accepted text v) h = absurd h
past_one p (ScaffoldUnread refusal) h = refl
past_one p (ScaffoldRefused refusal line) h = refl
past_one p (NotFollowing place line id) h = absurd h
past_one p (LogUnread refusal) h = refl
past_one p (LogRefused refusal line) h = absurd h

-- a claim that is accepted is told as one that is checked
checked_told : (m : Plan) (p : Csp) (o : Outcome) (nogoods : List (List Atomic)) (claim : Verdict) (end : Proof) → IsEnding m p o nogoods (Some claim) end → IsTrueProving m (proving_of p end) →
    end ≡ Accepted (outcome_text m o) claim → IsWithin p nogoods claim → IsChecked m p o nogoods claim (proving_text (proving_of p end)) (proving_status (proving_of p end))
checked_told m p o nogoods claim end h holds e within =
    let text = outcome_text m o in
    let answer = scaffold_text (posed p) (scaffold_of p nogoods (Some claim)) in
    let k = checked_by p text text claim answer (subst (λ (q : Proof). IsEnd p text answer q) e h) in
    record {
      within = within;
      learned = k.learned;
      says = k.says;
      follows = k.follows;
      accepted = k.accepted;
      holds = subst (λ (q : Proof). IsTrueProving m (proving_of p q)) e holds;
      spelled = ap (λ (q : Proof). proving_text (proving_of p q)) e;
      stands = ap (λ (q : Proof). proving_status (proving_of p q)) e;
    }

told_by : (m : Plan) (p : Csp) (o : Outcome) (nogoods : List (List Atomic)) (claim : Option Verdict) (end : Proof) → IsEnding m p o nogoods claim end → IsAgreed m p o nogoods claim end →
    IsTrueProving m (proving_of p end) → (proving_status (proving_of p end) ≡ 0) ⊎ (proving_status (proving_of p end) ≡ 4) →
    IsTold m p o nogoods claim (proving_text (proving_of p end)) (proving_status (proving_of p end))
told_by m p o nogoods None end h agreed holds good =
    subst (λ (e : Proof). IsTold m p o nogoods None (proving_text (proving_of p e)) (proving_status (proving_of p e))) (sym h) (alone m p o)
told_by m p o nogoods (Some claim) end h (inl a) holds good = checked_told m p o nogoods claim end h holds a.0 a.1
told_by m p o nogoods (Some claim) end h (inr past) holds good = absurd (one (proving_status (proving_of p end)) (past_one p end past) good)

-- an outcome is told with its status
told_of : (m : Plan) (p : Csp) (most : ℕ) (told : Proving) (h : IsProving m p most told) → (proving_status told ≡ 0) ⊎ (proving_status told ≡ 4) →
    IsTold m p h.proves.outcome h.proves.found.nogoods h.proves.found.claim (proving_text told) (proving_status told)
told_of m p most told h good =
    subst (λ (t : Proving). IsTold m p h.proves.outcome h.proves.found.nogoods h.proves.found.claim (proving_text t) (proving_status t)) (sym h.told)
    (told_by m p h.proves.outcome h.proves.found.nogoods h.proves.found.claim h.end h.proves.ending h.proves.agreed (subst (λ (t : Proving). IsTrueProving m t) h.told h.holds)
    (subst (λ (t : Proving). (proving_status t ≡ 0) ⊎ (proving_status t ≡ 4)) h.told good))

-- ---- the reply

two : (n : ℕ) → n ≡ 2 → (n ≡ 0) ⊎ (n ≡ 4) → ⊥
two n e (inl f) = omega (arith, e, f)
two n e (inr f) = omega (arith, e, f)

three : (n : ℕ) → n ≡ 3 → (n ≡ 0) ⊎ (n ≡ 4) → ⊥
three n e (inl f) = omega (arith, e, f)
three n e (inr f) = omega (arith, e, f)

says_by : (names : Option Files) (words : List (List ℕ)) (reply : Reply) (was now : Channel) → Replies names words reply → IsProve words → (status_of reply ≡ 0) ⊎ (status_of reply ≡ 4) →
    Grows was now (text_of reply) → SaysProof names words (status_of reply) was now
says_by names words NoCommand was now due prove good text = absurd (two 2 refl good)
says_by names words (ModelRefused refusal) was now due prove good text = absurd (three 3 refl good)
says_by names words (AcceptedReply claim) was now due prove good text = absurd (check_proves_not words (due.model, due.log, due.asked) prove)
says_by names words (Unread refusal) was now due prove good text = absurd (check_proves_not words (due.model, due.log, due.asked) prove)
says_by names words (Refused refusal told) was now due prove good text = absurd (check_proves_not words (due.model, due.log, due.asked) prove)
says_by names words (ShownLog shown) was now due prove good text = absurd (show_proves_not words (due.log, due.asked) prove)
says_by names words (Processed o) was now due prove good text = absurd (process_proves_not words (due.model, due.scaffold, due.out, due.workers, due.asked) prove)
says_by names words (Generated family) was now due prove good text = absurd (gen_proves_not words (due.n, due.model, due.scaffold, due.asked) prove)
says_by names words (Proved told) was now due prove good text = record {
  model = due.model;
  workers = due.workers;
  most = due.most;
  asked = due.asked;
  m = due.m;
  given = due.given;
  outcome = due.proves.proves.outcome;
  found = due.proves.proves.found;
  truth = due.proves.proves.truth;
  decided = due.proves.decided;
  text = proving_text told;
  told = told_of due.m (problem_of due.m) due.most told due.proves good;
  written = text;
}

-- at status 0 or 4 of a proof what was written is told of an outcome
pub says_said : (names : Option Files) (words : List (List ℕ)) (r : ℕ) (was now : Sight) → Said names words r was now → IsProve words → (r ≡ 0) ⊎ (r ≡ 4) →
    SaysProof names words r was.answer now.answer
says_said names words r was now said prove good =
    subst (λ (n : ℕ). SaysProof names words n was.answer now.answer) (sym said.stands)
    (says_by names words said.reply was.answer now.answer said.due prove (subst (λ (n : ℕ). (n ≡ 0) ⊎ (n ≡ 4)) said.stands good) said.written.told)

pub good_small : (r : ℕ) → (r ≡ 0) ⊎ (r ≡ 4) → r ≤ 4
good_small r (inl e) = omega (arith, e)
good_small r (inr e) = omega (arith, e)

-- ---- a limit

not_one : (m : Plan) (p : Csp) (o : Outcome) (end : Proof) → end ≡ told_alone m o → proving_status (proving_of p end) ≡ 1 → ⊥
not_one m p o end e h = by_outcome o (sym (alone m p o).1 ∙ subst (λ (q : Proof). proving_status (proving_of p q) ≡ 1) e h)
  where
    by_outcome : (o : Outcome) → outcome_status o ≡ 1 → ⊥
    by_outcome (Solution numbers) e = cc
    by_outcome Unsat e = cc
    by_outcome (Optimal numbers bound) e = cc
    by_outcome (UnknownOutcome best) e = cc

-- what is accepted has status 0
accepted_zero : (p : Csp) (text : List ℕ) (v : Verdict) (end : Proof) → proving_status (proving_of p end) ≡ 1 → end ≡ Accepted text v → ⊥
accepted_zero p text v end h e = zero_one 0 refl (subst (λ (q : Proof). proving_status (proving_of p q) ≡ 1) e h)
  where
    zero_one : (n : ℕ) → n ≡ 0 → n ≡ 1 → ⊥
    zero_one n e f = omega (arith, e, f)

limit_by : (names : Option Files) (words : List (List ℕ)) (model : List ℕ) (workers most : ℕ) (m : Plan) (o : Outcome) (found : Finds (problem_of m) most o) (claim : Option Verdict) (end : Proof)
    (was now : Channel) → Spells (Prove model workers most) words → IsGiven names model m → found.claim ≡ claim → IsEnding m (problem_of m) o found.nogoods claim end →
    IsProven m (problem_of m) o found.nogoods claim end → IsAgreed m (problem_of m) o found.nogoods claim end → proving_status (proving_of (problem_of m) end) ≡ 1 →
    Grows was now (proving_text (proving_of (problem_of m) end)) → PassesLimit names words was now
limit_by names words model workers most m o found None end was now asked given is ending proven agreed e text = absurd (not_one m (problem_of m) o end ending e)
limit_by names words model workers most m o found (Some claim) end was now asked given is ending proven (inl a) e text = absurd (accepted_zero (problem_of m) (outcome_text m o) claim end e a.0)
limit_by names words model workers most m o found (Some claim) end was now asked given is ending proven (inr past) e text = record {
  model = model;
  workers = workers;
  most = most;
  asked = asked;
  m = m;
  given = given;
  outcome = o;
  found = found;
  claim = claim;
  claims = is;
  passes = λ within. accepted_zero (problem_of m) (outcome_text m o) claim end e (proven within.scaffold within.log);
  end = end;
  limit = past;
  written = text;
}

passes_limit : (names : Option Files) (words : List (List ℕ)) (reply : Reply) (was now : Channel) → Replies names words reply → IsProve words → status_of reply ≡ 1 → Grows was now (text_of reply) →
    PassesLimit names words was now
passes_limit names words NoCommand was now due prove e text = absurd cc
passes_limit names words (ModelRefused refusal) was now due prove e text = absurd cc
passes_limit names words (AcceptedReply claim) was now due prove e text = absurd cc
passes_limit names words (Unread refusal) was now due prove e text = absurd (check_proves_not words (due.model, due.log, due.asked) prove)
passes_limit names words (Refused refusal told) was now due prove e text = absurd (check_proves_not words (due.model, due.log, due.asked) prove)
passes_limit names words (ShownLog shown) was now due prove e text = absurd (show_proves_not words (due.log, due.asked) prove)
passes_limit names words (Processed o) was now due prove e text = absurd (process_proves_not words (due.model, due.scaffold, due.out, due.workers, due.asked) prove)
passes_limit names words (Generated family) was now due prove e text = absurd cc
passes_limit names words (Proved told) was now due prove e text =
    let h = due.proves.proves in
    limit_by names words due.model due.workers due.most due.m h.outcome h.found h.found.claim due.proves.end was now due.asked due.given refl h.ending h.proven h.agreed
    (subst (λ (t : Proving). proving_status t ≡ 1) due.proves.told e) (subst (λ (t : Proving). Grows was now (proving_text t)) due.proves.told text)

-- a proof is refused only where a limit is passed, and that is told
pub limit_said : (names : Option Files) (words : List (List ℕ)) (r : ℕ) (was now : Sight) → Said names words r was now → IsProve words → r ≡ 1 → PassesLimit names words was.answer now.answer
limit_said names words r was now said prove e = passes_limit names words said.reply was.answer now.answer said.due prove (sym said.stands ∙ e) said.written.told

pub one_small : (r : ℕ) → r ≡ 1 → r ≤ 4
one_small r e = omega (arith, e)
