-- What becomes of the scaffold of an outcome.
use Rattle.std.proofs.Common.{◌≡◌, ℕ, ◌<◌, ◌⊎◌, true, List, length, Option, Some, None, ℤ, ◌↔◌, sym, ◌∙◌, ap, subst, inl, inr, arith}
use Rattle.dp_base.specs.Lists.{Each}
use Rattle.dp_checker.specs.Judged.{is_bound}
use Rattle.dp_desk.specs.Channel.{Channel, Shown, Starts}
use Rattle.dp_domain.specs.Atoms.{Atomic}
use Rattle.dp_domain.specs.Turns.{at_least, at_most}
use Rattle.dp_domain.specs.declared.verdict.Verdict.{Verdict}
use Rattle.dp_domain.specs.declared.verdict.Verdict.TheVariants as claimed
use Rattle.dp_judge.specs.Logs.{IsOfGoal}
use Rattle.dp_learning.specs.Learning.{AreLearned, Concludes, denial_of}
use Rattle.dp_learning.specs.Scaffolds.{scaffold_of, steps_of}
use Rattle.dp_learning.specs.Solutions.{assigned, best_claim}
use Rattle.dp_learning.proofs.LearnedLaws.{learned-variables}
use Rattle.dp_lines.specs.Allowed.{IsAllowed}
use Rattle.dp_lower.specs.Problem.{problem_of}
use Rattle.dp_parts.specs.Problems.{Csp, IsGoalOf, IsProblem, IsSolution, LeadBack, posed}
use Rattle.dp_parts.specs.declared.goal.Goal.{Goal}
use Rattle.dp_parts.specs.declared.goal.Goal.TheVariants.{Satisfy, Minimize, Maximize}
use Rattle.dp_process.specs.Met.{EachMetFollows}
use Rattle.dp_process.specs.Processed.{log_of}
use Rattle.dp_replay.specs.Accepting.{AreShort}
use Rattle.fz_prove.specs.Rereading.{IsInLimits, IsReadAs}
use Rattle.fz_prove.proofs.RereadLemmas.{rereads}
use Rattle.dp_rule_clause.specs.Nogoods.{IsOnce}
use Rattle.dp_scaffold.specs.Scaffolds.{Learned}
use Rattle.dp_scaffold.specs.Texts.{scaffold_text}
use Rattle.dp_scaffold.specs.declared.answer.ScaffoldAnswer.{ScaffoldAnswer}
use Rattle.dp_scaffold.specs.declared.answer.ScaffoldAnswer.TheVariants.{Given, Unread, Refused}
use Rattle.dp_solver.specs.Outcomes.{IsOutcome, Solves}
use Rattle.dp_solver.specs.declared.outcome.Outcome.{Outcome}
use Rattle.dp_solver.specs.declared.outcome.Outcome.TheVariants.{Solution, Unsat, Optimal, Unknown}
use Rattle.dp_writer.specs.Steps.{lines, text_of}
use Rattle.fz_model.specs.Models.{IsModel, Plan}
use Rattle.fz_prove.specs.Checks.{IsChecked, IsLimited, IsPassed, IsSearched, IsTold}
use Rattle.fz_prove.specs.Limits.{IsPastLimit, IsTooMuch}
use Rattle.fz_prove.specs.Proofs.{IsAgreed, IsEnd, IsEnding, IsProven, IsWithin, Proves}
use Rattle.fz_prove.specs.declared.proof.Proof.{Proof}
use Rattle.fz_prove.specs.declared.proof.Proof.TheVariants.{Accepted}
use Rattle.fz_prove.proofs.EndLemmas.{scaffold_ends}
use Rattle.fz_prove.proofs.Followed.{each_follows}
use Rattle.fz_sat.specs.Satisfies.{Satisfies}
use Rattle.fz_solve.specs.Printed.{outcome_text}
use Rattle.fz_solve.specs.Solved.{Finds, Holds}
use Rattle.fz_solve.proofs.Files.{holds_of}
use Rattle.fz_solve.proofs.Truths.{truth_of}

-- ---- a claim is on the goal

same_bound : (a b : Atomic) → ◌≡◌ {A = Verdict} (claimed.Bound a) (claimed.Bound b) → a ≡ b
same_bound a b e = cc

-- the bound at the best numbers is on the goal's variable and side
bound_of_goal : (goal : Goal) (count : ℕ) (numbers : List ℤ) (bound : Atomic) → IsGoalOf count goal → best_claim goal numbers ≡ claimed.Bound bound
    → (is_bound goal bound ≡ true) × (bound.var < count)
bound_of_goal Satisfy count numbers bound h e = absurd cc
bound_of_goal (Minimize x) count numbers bound h e =
    subst (λ (a : Atomic). (is_bound (Minimize x) a ≡ true) × (a.var < count)) (same_bound (at_least x (assigned numbers x)) bound e) (grind arith, h)
bound_of_goal (Maximize x) count numbers bound h e =
    subst (λ (a : Atomic). (is_bound (Maximize x) a ≡ true) × (a.var < count)) (same_bound (at_most x (assigned numbers x)) bound e) (grind arith, h)

-- ---- a limit that is told

same_given : (s t : Learned) → ◌≡◌ {A = ScaffoldAnswer} (Given s) (Given t) → s ≡ t
same_given s t e = cc

-- a scaffold that is refused for a limit ends so
told_much : (p : Csp) (text : List ℕ) (proof : Proof) (answer : ScaffoldAnswer) → IsTooMuch answer → IsEnd p text answer proof → IsPastLimit proof
told_much p text proof (Given s) much e = absurd much
told_much p text proof (Unread refusal) much e = subst IsPastLimit (sym e) much
told_much p text proof (Refused refusal line) much e = subst IsPastLimit (sym e) much

-- ---- a claim

module _ (p : Csp) (problem : IsProblem p) (back : LeadBack p.names) (nogoods : List (List Atomic)) (claim : Verdict) (learned : AreLearned (posed p) nogoods) (once : Each IsOnce nogoods)
    (allowed : Each IsAllowed (lines (steps_of p nogoods (Some claim)))) (aimed : IsOfGoal p claim) (concludes : Concludes (posed p) nogoods claim) where
  -- within the limits it is accepted
  pub claim_accepted : (text : List ℕ) (proof : Proof) → IsPassed p text (scaffold_text (posed p) (scaffold_of p nogoods (Some claim))) proof → IsInLimits p nogoods claim
      → ((s : Learned) → scaffold_text (posed p) (scaffold_of p nogoods (Some claim)) ≡ Given s → AreShort (lines (log_of p s)) (text_of (log_of p s))) → proof ≡ Accepted text claim
  claim_accepted text proof passed in_limits short =
      let r : IsReadAs p nogoods claim (scaffold_of p nogoods (Some claim)) =
      rereads p nogoods claim problem back (learned-variables (posed p) nogoods learned) once aimed allowed in_limits in
      let follow : EachMetFollows (posed p) r.scaffold.nogoods =
      subst (EachMetFollows (posed p)) (sym r.those) (each_follows (posed p) nogoods (denial_of claim) learned concludes) in
      subst (λ (a : ScaffoldAnswer). IsPassed p text a proof) r.given passed follow (short r.scaffold r.given) ∙ ap (Accepted text) r.claims

  -- and it is accepted there alone: else a limit is told
  pub claim_agreed : (text : List ℕ) (proof : Proof) → IsEnd p text (scaffold_text (posed p) (scaffold_of p nogoods (Some claim))) proof
      → IsLimited p text (scaffold_text (posed p) (scaffold_of p nogoods (Some claim))) proof → ((proof ≡ Accepted text claim) × IsWithin p nogoods claim) ⊎ IsPastLimit proof
  claim_agreed text proof ending limited =
      elim (scaffold_ends p nogoods claim problem back (learned-variables (posed p) nogoods learned) once aimed allowed) [
        | inl r ↦
            let follow : EachMetFollows (posed p) r.0.scaffold.nogoods =
            subst (EachMetFollows (posed p)) (sym r.0.those) (each_follows (posed p) nogoods (denial_of claim) learned concludes) in
            elim (subst (λ (a : ScaffoldAnswer). IsLimited p text a proof) r.0.given limited follow) [
              | inl a ↦ inl (
                a.0 ∙ ap (Accepted text) r.0.claims,
                record {
                  scaffold = r.1;
                  log = λ s e. subst (λ (t : Learned). AreShort (lines (log_of p t)) (text_of (log_of p t))) (same_given r.0.scaffold s (sym r.0.given ∙ e)) a.1;
                },
              )
              | inr b ↦ inr b
            ]
        | inr much ↦ inr (told_much p text proof (scaffold_text (posed p) (scaffold_of p nogoods (Some claim))) much ending)
      ]

-- ---- an outcome

module _ (m : Plan) (p : Csp) (most : ℕ) (nogoods : List (List Atomic)) (claim : Option Verdict) (bytes : List ℕ) (proof : Proof) (written : bytes ≡ scaffold_of p nogoods claim) where
  -- the bytes are those of the scaffold of what is claimed
  bytes_of : (verdict : Verdict) → claim ≡ Some verdict → bytes ≡ scaffold_of p nogoods (Some verdict)
  bytes_of verdict e = written ∙ ap (scaffold_of p nogoods) e

  -- where nothing is claimed the outcome is told alone
  ending_alone : (outcome : Outcome) → claim ≡ None → IsEnding m p outcome nogoods None proof → IsEnding m p outcome nogoods claim proof
  ending_alone outcome e h = subst (λ (c : Option Verdict). IsEnding m p outcome nogoods c proof) (sym e) h

  ending_claim : (outcome : Outcome) (verdict : Verdict) → claim ≡ Some verdict → IsChecked p (outcome_text m outcome) bytes proof → IsEnding m p outcome nogoods claim proof
  ending_claim outcome verdict e h =
      subst (λ (c : Option Verdict). IsEnding m p outcome nogoods c proof) (sym e)
      (subst (λ (b : List ℕ). IsEnd p (outcome_text m outcome) (scaffold_text (posed p) b) proof) (bytes_of verdict e) h.ending)

  -- what is told of an outcome is its end
  pub ending_of : (outcome : Outcome) → IsOutcome p most nogoods claim outcome → IsTold m p bytes outcome proof → IsEnding m p outcome nogoods claim proof
  ending_of (Solution numbers) o h = ending_alone (Solution numbers) o.claim h
  ending_of Unsat o h = ending_claim Unsat claimed.Unsat o.claim h
  ending_of (Optimal numbers bound) o h = ending_claim (Optimal numbers bound) (claimed.Bound bound) o.claim h
  ending_of (Unknown best) o h = ending_alone (Unknown best) o.claim h

  module _ (problem : IsProblem p) (back : LeadBack p.names) (learned : AreLearned (posed p) nogoods) (once : Each IsOnce nogoods) (allowed : Each IsAllowed (lines (steps_of p nogoods claim))) where
    proven_claim : (outcome : Outcome) (verdict : Verdict) → claim ≡ Some verdict → IsOfGoal p verdict → Concludes (posed p) nogoods verdict → IsChecked p (outcome_text m outcome) bytes proof
        → IsProven m p outcome nogoods claim proof
    proven_claim outcome verdict e aimed concludes h =
        subst (λ (c : Option Verdict). IsProven m p outcome nogoods c proof) (sym e)
        (claim_accepted p problem back nogoods verdict learned once (subst (λ (c : Option Verdict). Each IsAllowed (lines (steps_of p nogoods c))) e allowed) aimed concludes
        (outcome_text m outcome) proof (subst (λ (b : List ℕ). IsPassed p (outcome_text m outcome) (scaffold_text (posed p) b) proof) (bytes_of verdict e) h.passed))

    proven_none : (outcome : Outcome) → claim ≡ None → IsProven m p outcome nogoods claim proof
    proven_none outcome e = subst (λ (c : Option Verdict). IsProven m p outcome nogoods c proof) (sym e) tt

    -- within the limits the claim of an outcome is accepted
    pub proven_of : (outcome : Outcome) → IsOutcome p most nogoods claim outcome → IsTold m p bytes outcome proof → IsProven m p outcome nogoods claim proof
    proven_of (Solution numbers) o h = proven_none (Solution numbers) o.claim
    proven_of Unsat o h = proven_claim Unsat claimed.Unsat o.claim tt o.follows h
    proven_of (Optimal numbers bound) o h =
        proven_claim (Optimal numbers bound) (claimed.Bound bound) o.claim (bound_of_goal p.goal (length p.initial) numbers bound problem.goal o.bound) o.follows h
    proven_of (Unknown best) o h = proven_none (Unknown best) o.claim

    agreed_claim : (outcome : Outcome) (verdict : Verdict) → claim ≡ Some verdict → IsOfGoal p verdict → Concludes (posed p) nogoods verdict → IsChecked p (outcome_text m outcome) bytes proof
        → IsAgreed m p outcome nogoods claim proof
    agreed_claim outcome verdict e aimed concludes h =
        subst (λ (c : Option Verdict). IsAgreed m p outcome nogoods c proof) (sym e)
        (claim_agreed p problem back nogoods verdict learned once (subst (λ (c : Option Verdict). Each IsAllowed (lines (steps_of p nogoods c))) e allowed) aimed concludes
        (outcome_text m outcome) proof (subst (λ (b : List ℕ). IsEnd p (outcome_text m outcome) (scaffold_text (posed p) b) proof) (bytes_of verdict e) h.ending)
        (subst (λ (b : List ℕ). IsLimited p (outcome_text m outcome) (scaffold_text (posed p) b) proof) (bytes_of verdict e) h.limited))

    agreed_none : (outcome : Outcome) → claim ≡ None → IsAgreed m p outcome nogoods claim proof
    agreed_none outcome e = subst (λ (c : Option Verdict). IsAgreed m p outcome nogoods c proof) (sym e) tt

    -- the claim of an outcome is accepted, or a limit is told
    pub agreed_of : (outcome : Outcome) → IsOutcome p most nogoods claim outcome → IsTold m p bytes outcome proof → IsAgreed m p outcome nogoods claim proof
    agreed_of (Solution numbers) o h = agreed_none (Solution numbers) o.claim
    agreed_of Unsat o h = agreed_claim Unsat claimed.Unsat o.claim tt o.follows h
    agreed_of (Optimal numbers bound) o h =
        agreed_claim (Optimal numbers bound) (claimed.Bound bound) o.claim (bound_of_goal p.goal (length p.initial) numbers bound problem.goal o.bound) o.follows h
    agreed_of (Unknown best) o h = agreed_none (Unknown best) o.claim

-- ---- the search

-- what a solver wrote to an output that was opened is what a search found
pub searched_of : (p : Csp) (most : ℕ) (started now : Channel) (outcome : Outcome) → Starts started → Solves p most started now outcome → IsSearched p most now outcome
searched_of p most started now outcome s h = record {
  found = record { nogoods = h.nogoods; claim = h.claim; learned = h.learned; few = h.few; outcome_is = h.outcome };
  once = h.once;
  allowed = h.allowed;
  written = holds_of started now (scaffold_of p h.nogoods h.claim) s h.written;
}

-- ---- the model

-- what is told of a search of a model's problem proves the model
pub proves_of : (m : Plan) (p : Csp) (most : ℕ) (now : Channel) (bytes : List ℕ) (outcome : Outcome) (proof : Proof) → IsModel m → IsProblem p → LeadBack p.names → p ≡ problem_of m
    → ((s : ℕ → ℤ) → Satisfies m s ↔ IsSolution s p) → IsSearched p most now outcome → now ≡ Shown bytes → IsTold m p bytes outcome proof → Proves m p most proof
proves_of m p most now bytes outcome proof model problem back is same found shown h =
    let f : Finds p most outcome = found.found in
    let written : bytes ≡ scaffold_of p f.nogoods f.claim = subst (λ (c : Channel). Holds c (scaffold_of p f.nogoods f.claim)) shown found.written in
    record {
      outcome = outcome;
      found = f;
      truth = truth_of m p most f.nogoods f.claim outcome model problem is same f.learned f.outcome_is;
      ending = ending_of m p most f.nogoods f.claim bytes proof written outcome f.outcome_is h;
      proven = proven_of m p most f.nogoods f.claim bytes proof written problem back f.learned found.once found.allowed outcome f.outcome_is h;
      agreed = agreed_of m p most f.nogoods f.claim bytes proof written problem back f.learned found.once found.allowed outcome f.outcome_is h;
    }
