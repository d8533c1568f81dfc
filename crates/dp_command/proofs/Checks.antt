-- The reply for a model that was read and a log that was judged.
use Rattle.std.specs.Prelude.{◌≡◌, ℕ, ◌≤◌, ◌<◌, length, nat_le, Bool, true, false, if◌then◌else◌, Option, Some, Result, Ok, Err, IfOk, List}
use Rattle.std.proofs.Common.{refl, sym, ap, subst, arith}
use Rattle.std.proofs.lemmas.Bool.Decides.{nat_tests}
use Rattle.dp_desk.specs.Channel.{Channel, Files, IsAtEnd}
use Rattle.dp_desk.specs.Sight.{Sight, with_input}
use Rattle.dp_desk.specs.declared.desk.In.TheVariants as In
use Rattle.dp_show.specs.declared.shown.Shown.{Shown}
use Rattle.dp_judge.specs.Logs.{IsGoalAnswer, IsRightAnswer}
use Rattle.dp_judge.specs.declared.answer.LogAnswer.{LogAnswer}
use Rattle.dp_judge.specs.declared.answer.LogAnswer.TheVariants as answer
use Rattle.dp_parts.specs.Problems.{Csp}
use Rattle.fz_items.specs.Answers.{max_bytes, place_of, refused_late, within_limit}
use Rattle.fz_items.specs.declared.refusal.ModelRefusal.{ModelRefusal}
use Rattle.fz_items.specs.declared.refusal.ModelRefusal.TheVariants.{Limit}
use Rattle.fz_model.specs.Models.{Plan}
use Rattle.dp_command.specs.Due.{LeavesUnread}
use Rattle.dp_command.specs.Found.{IsFound, IsFoundIn, IsProblemFound, IsProblemOf}
use Rattle.dp_command.specs.Replies.{IsGiven, IsJudged, IsTrueReply, JudgesLog, Replies, RepliesTo, model_of, reply_of}
use Rattle.dp_command.specs.Words.{Request, Check}
use Rattle.dp_command.specs.declared.finding.Found.{Found}
use Rattle.dp_command.specs.declared.finding.Found.TheVariants.{Problem, Refusal}
use Rattle.dp_command.specs.declared.generate.Family.{Family}
use Rattle.dp_command.specs.declared.outcome.Outcome.{Outcome}
use Rattle.dp_command.specs.declared.proving.Proving.{Proving}
use Rattle.dp_command.specs.declared.reply.Reply.{Reply}
use Rattle.dp_command.specs.declared.reply.Reply.TheVariants.{NoCommand, ModelRefused, Accepted, Unread, Refused, Shown as ShownLog, Processed, Proved, Generated}

-- ---- the model's text

by_place : (refusal : ModelRefusal) (m : Plan) (b : Bool) → (if b then Err refusal else Err (Limit max_bytes)) ≡ Ok m → ⊥
by_place refusal m true e = absurd cc
by_place refusal m false e = absurd cc

late : (answer : Result Plan ModelRefusal) (m : Plan) → refused_late answer ≡ Ok m → ⊥
late (Ok n) m e = absurd cc
late (Err refusal) m e = by_place refusal m (nat_le (place_of refusal) max_bytes) e

by_limit : (size : ℕ) (b : Bool) (answer : Result Plan ModelRefusal) (m : Plan) → nat_le size max_bytes ≡ b → (if b then answer else refused_late answer) ≡ Ok m → size ≤ max_bytes
by_limit size true answer m k e = grind (arith, nat_tests, k)
by_limit size false answer m k e = absurd (late answer m e)

-- a text that spells a model is within its limit
pub model_small : (size : ℕ) (answer : Result Plan ModelRefusal) (m : Plan) → within_limit size answer ≡ Ok m → size ≤ max_bytes
model_small size answer m e = by_limit size (nat_le size max_bytes) answer m refl e

-- so where a problem is found all of the text was read
pub found_ended : (what : Found) (text : List ℕ) (now : Channel) → IsFoundIn text what → (length text < 67108865 → IsAtEnd now) → IsProblemFound what → IsAtEnd now
found_ended (Problem m p) text now h end k = end (below (length text) (model_small (length text) _ m h.spelled))
  where
    below : (n : ℕ) → n ≤ max_bytes → n < 67108865
    below n e = omega (arith, e)
found_ended (Refusal refusal) text now h end k = absurd k

-- ---- the reply

no_command : (p : Csp) (a : LogAnswer) → NoCommand ≡ reply_of p a → ⊥
no_command p (answer.Accepted v) e = absurd cc
no_command p (answer.Unread r) e = absurd cc
no_command p (answer.Refused r t) e = absurd cc

no_refusal : (p : Csp) (a : LogAnswer) (refusal : ModelRefusal) → ModelRefused refusal ≡ reply_of p a → ⊥
no_refusal p (answer.Accepted v) refusal e = absurd cc
no_refusal p (answer.Unread r) refusal e = absurd cc
no_refusal p (answer.Refused r t) refusal e = absurd cc

no_shown : (p : Csp) (a : LogAnswer) (shown : Shown) → ShownLog shown ≡ reply_of p a → ⊥
no_shown p (answer.Accepted v) shown e = absurd cc
no_shown p (answer.Unread r) shown e = absurd cc
no_shown p (answer.Refused r t) shown e = absurd cc

no_outcome : (p : Csp) (a : LogAnswer) (o : Outcome) → Processed o ≡ reply_of p a → ⊥
no_outcome p (answer.Accepted v) o e = absurd cc
no_outcome p (answer.Unread r) o e = absurd cc
no_outcome p (answer.Refused r t) o e = absurd cc

no_proving : (p : Csp) (a : LogAnswer) (proving : Proving) → Proved proving ≡ reply_of p a → ⊥
no_proving p (answer.Accepted v) proving e = absurd cc
no_proving p (answer.Unread r) proving e = absurd cc
no_proving p (answer.Refused r t) proving e = absurd cc

no_family : (p : Csp) (a : LogAnswer) (family : Family) → Generated family ≡ reply_of p a → ⊥
no_family p (answer.Accepted v) family e = absurd cc
no_family p (answer.Unread r) family e = absurd cc
no_family p (answer.Refused r t) family e = absurd cc

due_by : (names : Option Files) (words : List (List ℕ)) (p : Csp) (a : LogAnswer) (reply : Reply) → reply ≡ reply_of p a → JudgesLog names words reply → Replies names words reply
due_by names words p a NoCommand e j = absurd (no_command p a e)
due_by names words p a (ModelRefused refusal) e j = absurd (no_refusal p a refusal e)
due_by names words p a (Accepted claim) e j = j
due_by names words p a (Unread refusal) e j = j
due_by names words p a (Refused refusal text) e j = j
due_by names words p a (ShownLog shown) e j = absurd (no_shown p a shown e)
due_by names words p a (Processed o) e j = absurd (no_outcome p a o e)
due_by names words p a (Proved proving) e j = absurd (no_proving p a proving e)
due_by names words p a (Generated family) e j = absurd (no_family p a family e)

-- a model was read that poses this problem
pub given_of : (names : Option Files) (model : List ℕ) (m : Plan) (p : Csp) → IsFound names model (Problem m p) → IsGiven names model m
given_of names model m p f = record { text = f.text; read = f.read; spelled = f.found.spelled }

true_by : (m : Plan) (p : Csp) (a : LogAnswer) (reply : Reply) → IsProblemOf m p → reply ≡ reply_of p a → IsRightAnswer p a → IsGoalAnswer p a → IsTrueReply m reply
true_by m p (answer.Accepted v) reply problem e right goal = subst (λ (r : Reply). IsTrueReply m r) (sym e) (problem.true_of v right goal)
true_by m p (answer.Unread r) reply problem e right goal = subst (λ (q : Reply). IsTrueReply m q) (sym e) tt
true_by m p (answer.Refused r t) reply problem e right goal = subst (λ (q : Reply). IsTrueReply m q) (sym e) tt

-- the reply for the log belongs to the words
due_of : (names : Option Files) (model log : List ℕ) (m : Plan) (p : Csp) (reply : Reply) → IsFound names model (Problem m p) → IsJudged names log p reply →
    RepliesTo names (Check model log) reply
due_of names model log m p reply f j = λ words asked.
    due_by names words p _ reply j.replied (record {
      model = model;
      log = log;
      asked = asked;
      m = m;
      given = given_of names model m p f;
      judged = subst (λ (q : Csp). IsJudged names log q reply) f.found.problem.posed j;
      holds = true_by m p _ reply f.found.problem j.replied j.right j.goal;
    })

-- so does that for a refused model
pub refused_of : (names : Option Files) (request : Request) (model : List ℕ) (refusal : ModelRefusal) → model_of request ≡ Some model → IsFound names model (Refusal refusal) →
    RepliesTo names request (ModelRefused refusal)
refused_of names request model refusal e f = λ words asked.
    record { request = request; asked = asked; model = model; named = e; text = f.text; read = f.read; refused = f.found }

-- an answer's fact follows from another
pub if_ok : {A E : Type 0} {P Q : A → Type 0} (r : Result A E) → ((x : A) → P x → Q x) → IfOk r P → IfOk r Q
if_ok (Ok x) f h = f x h
if_ok (Err e) f h = h

-- ---- what is left unread

unread_by : (p : Csp) (a : LogAnswer) (reply : Reply) (was now : Sight) → reply ≡ reply_of p a → LeavesUnread reply was now
unread_by p (answer.Accepted v) reply was now e = subst (λ (r : Reply). LeavesUnread r was now) (sym e) tt
unread_by p (answer.Unread r) reply was now e = subst (λ (q : Reply). LeavesUnread q was now) (sym e) tt
unread_by p (answer.Refused r t) reply was now e = subst (λ (q : Reply). LeavesUnread q was now) (sym e) tt

-- a reply for a log needs both inputs
pub unread_of : (names : Option Files) (log : List ℕ) (p : Csp) (reply : Reply) (was now : Sight) → IsJudged names log p reply → LeavesUnread reply was now
unread_of names log p reply was now j = unread_by p _ reply was now j.replied

-- ---- the same names, before and after the model was read

pub due_at : (names later : Option Files) (model log : List ℕ) (m : Plan) (p : Csp) (reply : Reply) (what : Found) → later ≡ names → what ≡ Problem m p → IsFound names model what →
    IsJudged later log p reply → RepliesTo names (Check model log) reply
due_at names later model log m p reply what same is f j =
    due_of names model log m p reply (subst (λ (w : Found). IsFound names model w) is f) (subst (λ (n : Option Files). IsJudged n log p reply) same j)

-- both inputs are at their ends
pub ended_at : (m : Plan) (p : Csp) (what : Found) (middle now : Sight) → what ≡ Problem m p → now ≡ with_input In.Log now.log middle → (IsProblemFound what → IsAtEnd middle.model) →
    IsAtEnd now.log → IsAtEnd now.model × IsAtEnd now.log
ended_at m p what middle now is same model log =
    (subst IsAtEnd (sym (ap (λ (t : Sight). t.model) same)) (model (subst (λ (w : Found). IsProblemFound w) (sym is) tt)), log)
