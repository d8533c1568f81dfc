-- Which lines were read before a read fault.
use Rattle.std.specs.Prelude.{◌≡◌, ℕ, Option, Some, None, Result, Ok, Err, IsErrOf, List, [], take}
use Rattle.std.specs.Result.{IsErrAnd}
use Rattle.std.proofs.Common.{refl, sym, ◌∙◌, ap, subst, inr}
use Rattle.dp_desk.specs.Channel.{Channel, Files}
use Rattle.dp_desk.specs.Sight.{Sight, with_output}
use Rattle.dp_desk.specs.declared.desk.Out.TheVariants as Out
use Rattle.dp_judge.specs.Logs as log
use Rattle.dp_lower.specs.Problem.{problem_of}
use Rattle.dp_parts.specs.Posed.{Posed}
use Rattle.dp_parts.specs.Problems.{Csp, posed}
use Rattle.dp_scaffold.specs.Texts as scaffold
use Rattle.fz_items.specs.Answers.{model_text}
use Rattle.fz_items.specs.declared.refusal.ModelRefusal.{ModelRefusal}
use Rattle.fz_model.specs.Models.{Plan}
use Rattle.dp_command.specs.Found.{IsFound}
use Rattle.dp_command.specs.Inputs.{IsFront}
use Rattle.dp_command.specs.Patience.{HasPatience, WasPatient}
use Rattle.dp_command.specs.Pieces.{IsPatient}
use Rattle.dp_command.specs.Replies.{IsGiven, most_of_model}
use Rattle.dp_command.specs.Words.{Check, Process}
use Rattle.dp_command.specs.declared.finding.Found.{Found}
use Rattle.dp_command.specs.declared.finding.Found.TheVariants.{Problem}
use Rattle.dp_command.specs.declared.trouble.Trouble.{Trouble}
use Rattle.dp_command.specs.declared.trouble.Trouble.TheVariants.{ReadFault}

-- ---- one text spells one model

same_held : (held : Option (List ℕ)) (xs ys : List ℕ) → held ≡ Some xs → held ≡ Some ys → xs ≡ ys
same_held held xs ys e f = cc

same_front : (bound : ℕ) (held : Option (List ℕ)) (xs ys : List ℕ) → IsFront bound held xs → IsFront bound held ys → xs ≡ ys
same_front bound held xs ys f g =
    f.front ∙ ap (λ (w : List ℕ). take bound w) (same_held held f.whole g.whole f.holds g.holds) ∙ sym g.front

same_ok : (r : Result Plan ModelRefusal) (m k : Plan) → r ≡ Ok m → r ≡ Ok k → m ≡ k
same_ok r m k e f = cc

same_plan : (files : Files) (model : List ℕ) (m k : Plan) → IsGiven (Some files) model m → IsGiven (Some files) model k → m ≡ k
same_plan files model m k g h =
    same_ok (model_text h.text) m k
    (ap (λ (t : List ℕ). model_text t) (sym (same_front most_of_model (files model) g.text h.text g.read h.read)) ∙ g.spelled) h.spelled

-- ---- a model that was read, and a log or scaffold of it

patience : (passes : Posed → List ℕ → Type 0) → ((p : Posed) → passes p []) → (names : Option Files) (model name : List ℕ) (m : Plan) (p : Csp) (was now : Channel) →
    IsFound names model (Problem m p) → IsPatient (passes (posed p)) names name was now →
    (k : Plan) → IsGiven names model k → IsPatient (passes (posed (problem_of k))) names name was now
patience passes nothing None model name m p was now found j k given = inr ([], tt, nothing (posed (problem_of k)))
patience passes nothing (Some files) model name m p was now found j k given =
    subst (λ (q : Plan). IsPatient (passes (posed (problem_of q))) (Some files) name was now)
    (same_plan files model m k (record { text = found.text; read = found.read; spelled = found.found.spelled }) given)
    (subst (λ (q : Csp). IsPatient (passes (posed q)) (Some files) name was now) found.found.problem.posed j)

-- the same where the names and the log are those of before
patience_at : (passes : Posed → List ℕ → Type 0) → ((p : Posed) → passes p []) → (names later : Option Files) (model name : List ℕ) (m : Plan) (p : Csp) (what : Found) (was middle now : Channel) →
    later ≡ names → middle ≡ was → what ≡ Problem m p → IsFound names model what → IsPatient (passes (posed p)) later name middle now →
    (k : Plan) → IsGiven names model k → IsPatient (passes (posed (problem_of k))) names name was now
patience_at passes nothing names later model name m p what was middle now same left is found j =
    patience passes nothing names model name m p was now (subst (λ (w : Found). IsFound names model w) is found)
    (subst (λ (n : Option Files). IsPatient (passes (posed p)) n name was now) same (subst (λ (c : Channel). IsPatient (passes (posed p)) later name c now) left j))

no_line : (p : Posed) → log.has_no_refusal p []
no_line p = (refl, refl)

no_scaffold_line : (p : Posed) → scaffold.has_no_refusal p []
no_scaffold_line p = (refl, refl)

pub check_patient : (names later : Option Files) (model name : List ℕ) (m : Plan) (p : Csp) (what : Found) (was middle now : Channel) →
    later ≡ names → middle ≡ was → what ≡ Problem m p → IsFound names model what → IsPatient (log.has_no_refusal (posed p)) later name middle now →
    HasPatience names (Check model name) was now
check_patient names later model name m p what was middle now same left is found j =
    patience_at log.has_no_refusal no_line names later model name m p what was middle now same left is found j

pub process_patient : (names later : Option Files) (model name out : List ℕ) (workers : ℕ) (m : Plan) (p : Csp) (what : Found) (was middle now : Channel) →
    later ≡ names → middle ≡ was → what ≡ Problem m p → IsFound names model what → IsPatient (scaffold.has_no_refusal (posed p)) later name middle now →
    HasPatience names (Process model name out workers) was now
process_patient names later model name out workers m p what was middle now same left is found j =
    patience_at scaffold.has_no_refusal no_scaffold_line names later model name m p what was middle now same left is found j

-- ---- a fault that is handed on

-- a read fault that is handed on came of the call
pub handed_on : {A B : Type 0} (inner : Result A Trouble) (outer : Result B Trouble) (t : Trouble) → inner ≡ Err t → IsErrAnd outer (λ (x : Trouble). x ≡ t) → IsErrOf outer ReadFault →
    IsErrOf inner ReadFault
handed_on {A = A} {B = B} inner outer t was same e =
    was ∙ ap (λ (x : Trouble). let r : Result A Trouble = Err x in r) (sym (subst (λ (r : Result B Trouble). IsErrAnd r (λ (x : Trouble). x ≡ t)) e same))

-- ---- what is said of a read fault leaves the log

pub said_patient : (names : Option Files) (words : List (List ℕ)) (was middle now : Sight) → now ≡ with_output Out.Answer now.answer middle → WasPatient names words was.log middle.log →
    WasPatient names words was.log now.log
said_patient names words was middle now rest w = subst (λ (c : Channel). WasPatient names words was.log c) (sym (ap (λ (s : Sight). s.log) rest)) w
