-- What accepted lines conclude is right of the problem.
use Rattle.std.proofs.Common.{◌≡◌, ℕ, Option, Some, None, List, [], ◌∷◌, map, refl, subst, ap}
use Rattle.std.specs.Prelude.{Result, Ok, Err, IfSome}
use Rattle.dp_domain.specs.declared.verdict.Verdict.{Verdict}
use Rattle.dp_lines.specs.declared.line.Line.{Line}
use Rattle.dp_parts.specs.Posed.{Posed}
use Rattle.dp_parts.specs.Problems.{Csp, IsProblem, posed}
use Rattle.dp_checker.specs.Judged.{after, first_refusal, judge_all, outcome}
use Rattle.dp_checker.specs.Kept.{IsKept, IsRight}
use Rattle.dp_checker.specs.Known.{Known, nothing}
use Rattle.dp_checker.specs.Soundness.{HoldsOf}
use Rattle.dp_checker.specs.declared.refusal.StepRefusal.{StepRefusal}
use Rattle.dp_checker.specs.declared.refusal.Why.{Why}
use Rattle.dp_checker.proofs.Below.{kept_after}
use Rattle.dp_checker.proofs.Right.{right_conclusion}
use Rattle.dp_replay.specs.Accepting.{IsAccepted}

refused_or_not : (r : StepRefusal) (known : Known) → ◌≡◌ {A = Result Known StepRefusal} (Err r) (Ok known) → ⊥
refused_or_not r known e = cc

same_known : (k known : Known) → ◌≡◌ {A = Result Known StepRefusal} (Ok k) (Ok known) → k ≡ known
same_known k known e = cc

-- a refusal stands
refusal_stays : (p : Posed) (r : StepRefusal) (known : Known) (ls : List (ℕ × Line)) → judge_all p (Err r) ls ≡ Ok known → ⊥
refusal_stays p r known [] e = refused_or_not r known e
refusal_stays p r known (l ∷ ls) e = refusal_stays p r known ls e

-- what is kept of lines that no test refuses, where the first has this outcome
kept_behind : (p : Csp) → IsProblem p → (known later : Known) → IsKept p known → (l : ℕ × Line) (ls : List (ℕ × Line)) (o : Option Why) → first_refusal (posed p) known l.1 ≡ o
    → judge_all (posed p) (outcome l.0 (after (posed p) known l.1) o) ls ≡ Ok later
    → ((next : Known) → IsKept p next → judge_all (posed p) (Ok next) ls ≡ Ok later → IsKept p later) → IsKept p later
kept_behind p problem known later kept l ls None o e more = more (after (posed p) known l.1) (kept_after p problem known kept l.1 o) e
kept_behind p problem known later kept l ls (Some why) o e more = absurd (refusal_stays (posed p) (record { line = l.0; why = why }) later ls e)

kept_all : (p : Csp) → IsProblem p → (ls : List (ℕ × Line)) (known later : Known) → IsKept p known → judge_all (posed p) (Ok known) ls ≡ Ok later → IsKept p later
kept_all p problem [] known later kept e = subst (IsKept p) (same_known known later e) kept
kept_all p problem (l ∷ ls) known later kept e =
    kept_behind p problem known later kept l ls (first_refusal (posed p) known l.1) refl e (λ next here rest. kept_all p problem ls next later here rest)

nothing_kept : (p : Csp) → IsKept p nothing
nothing_kept p = record { atoms = tt; steps = tt; backed = record { steps = tt; conclusion = tt } }

lines_numbered : (ls : List Line) → map (λ (l : ℕ × Line). l.1) (map (λ (l : Line). (0, l)) ls) ≡ ls
lines_numbered [] = refl
lines_numbered (l ∷ ls) = ap (λ (more : List Line). l ∷ more) (lines_numbered ls)

pub accepted_right : (p : Csp) → IsProblem p → (ls : List Line) (claim : Verdict) → IsAccepted (posed p) ls claim → IsRight p claim
accepted_right p problem ls claim accepted =
    let known = accepted (map (λ (l : Line). (0, l)) ls) (lines_numbered ls) in
    let kept = kept_all p problem (map (λ (l : Line). (0, l)) ls) nothing known.0 (nothing_kept p) known.1 in
    right_conclusion p 0 (Some claim) (subst (λ (o : Option Verdict). IfSome o (HoldsOf (posed p))) known.2 kept.backed.conclusion)
