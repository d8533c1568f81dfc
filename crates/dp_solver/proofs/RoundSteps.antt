-- What the steps of a round leave.
use Rattle.std.proofs.Common.{◌≡◌, ℕ, zero, suc, ◌+◌, ◌^◌, ◌<◌, ◌≤◌, List, [], ◌∷◌, ◌++◌, length, map, get_or, Option, Some, None, Result, Ok, Err, ℤ, pos, refl, sym, ◌∙◌, ap, subst, arith, length-append}
use Rattle.std.specs.Prelude.{IfOk, IfSome, IsSome}
use Rattle.std.specs.Option.{option_map}
use Rattle.std.proofs.lemmas.List.{length-map}
use Rattle.std.proofs.Math.Seq.{get_or-append_seam}
use Rattle.dp_base.specs.Lists.{Each}
use Rattle.dp_base.proofs.Lists.{Each-append}
use Rattle.dp_desk.specs.Channel.{Channel, Grows, GrowsByPart, IsOpen as IsOpened}
use Rattle.dp_desk.proofs.Channels.{grows_by_all, grows_by_none}
use Rattle.dp_domain.specs.Atoms.{Atomic}
use Rattle.dp_domain.specs.States.{AreOf, Domains, cut_all, values}
use Rattle.dp_domain.specs.declared.verdict.Verdict.{Verdict}
use Rattle.dp_domain.proofs.StateLaws.{length-cut_all}
use Rattle.dp_engine.specs.Engines.{KeepsParts, KeepsStates, Propagation, Starts}
use Rattle.dp_learning.specs.Learning.{AreLearned, Concludes, denial_of, end_after}
use Rattle.dp_learning.specs.Scaffolds.{scaffold_of, steps_of}
use Rattle.dp_learning.specs.Solutions.{IsSolutionOf, assigned, cut_problem, open_claim}
use Rattle.dp_learning.specs.Sorts.{sort_count}
use Rattle.dp_learning.proofs.CountingLaws.{fewer-learned}
use Rattle.dp_learning.proofs.LearnedLaws.{learned-more, learned-none}
use Rattle.dp_learning.proofs.SolutionLaws.{cut-problem-kept, rest-solution}
use Rattle.dp_engine.specs.declared.turn.Turn.TheVariants.{Quiet}
use Rattle.dp_lines.specs.Allowed.{IsAllowed}
use Rattle.dp_parts.specs.ProblemLaws.{soundly_posed}
use Rattle.dp_parts.specs.Problems.{Csp, IsGoalOf, IsProblem, posed}
use Rattle.dp_parts.specs.declared.goal.Goal.{Goal}
use Rattle.dp_parts.specs.declared.goal.Goal.TheVariants.{Satisfy}
use Rattle.dp_rule_clause.specs.Nogoods.{IsOnce}
use Rattle.dp_solver.specs.Descents.{IsLearnable, IsReached, lowest}
use Rattle.dp_solver.specs.Marks.{IsOn}
use Rattle.dp_solver.specs.Outcomes.{IsDecided, IsOutcome, Solves, SolvesInPart}
use Rattle.dp_solver.specs.Rounds.{IsBest, IsFresh, IsRound, IsSearching, IsSolutionAt, IsWritten, claim_of, decided, open_values, undecided, work}
use Rattle.dp_solver.specs.declared.outcome.Outcome.{Outcome}
use Rattle.dp_solver.specs.declared.outcome.Outcome.TheVariants.{Solution, Unsat, Optimal, Unknown}
use Rattle.dp_solver.specs.declared.outcome.SolveFault.{SolveFault}
use Rattle.dp_solver.specs.declared.round.Round.{Round}
use Rattle.dp_solver.specs.declared.round.Round.TheVariants.{Ended, Open}
use Rattle.dp_solver.specs.declared.task.Best.{Best}
use Rattle.dp_solver.specs.declared.task.Search.{Search}
use Rattle.dp_solver.proofs.GoalSteps.{better-less, bound-on, goal-value, has-goal}
use Rattle.dp_solver.proofs.MarkSteps.{on-added}
use Rattle.dp_writer.specs.Steps.{lines}
use Rattle.dp_writer.specs.Written.{IsClaimOf, IsOf, Written}

-- ---- the search as it stands

few-nogoods : (p : Csp) (most : ℕ) (was now : Channel) (s : Search) → IsSearching p most was now s → length s.engine.nogoods ≤ most
few-nogoods p most was now s h = subst (λ (n : ℕ). n ≤ most) (sym h.count) h.few

-- where it stops no claim was written
pub stopped : (p : Csp) (most : ℕ) (was now : Channel) (s : Search) → IsSearching p most was now s → SolvesInPart p most was now
stopped p most was now s h = record {
  nogoods = s.engine.nogoods;
  claim = None;
  learned = h.learned;
  few = few-nogoods p most was now s h;
  follows = tt;
  written = grows_by_all was now (scaffold_of p s.engine.nogoods None) h.written.grows;
}

-- the engine may have moved
pub searching-moved : (p : Csp) (most : ℕ) (was now : Channel) (s : Search) (e : Propagation) → IsSearching p most was now s → IsOn p s.root e → e.nogoods ≡ s.engine.nogoods
    → IsSearching p most was now (record { engine = e; root = s.root; writer = s.writer; learned = s.learned })
searching-moved p most was now s e h on same = record {
  on = on;
  learned = subst (AreLearned (posed p)) (sym same) h.learned;
  once = subst (Each IsOnce) (sym same) h.once;
  count = ap (λ (ns : List (List Atomic)). length ns) same ∙ h.count;
  few = h.few;
  written = subst (λ (ns : List (List Atomic)). IsWritten p ns was now s.writer) (sym same) h.written;
}

-- ---- claims

outcome-decided : (p : Csp) (most : ℕ) (nogoods : List (List Atomic)) (best : Option Best) → IfSome best (IsBest p) → Concludes (posed p) nogoods (claim_of best) → IsOutcome p most nogoods (Some (claim_of best)) (decided best)
outcome-decided p most nogoods None is follows = record { claim = refl; follows = follows }
outcome-decided p most nogoods (Some best) is follows = record { solution = is.solution; bound = is.at; claim = refl; follows = follows }

-- the claim is on the variables of the problem as it was given
pub claim-on : (q : Csp) (atoms : List Atomic) (goal : Goal) (best : Option Best) (claim : Verdict) → IsProblem (cut_problem q atoms goal) → IfSome best (IsBest (cut_problem q atoms goal)) → claim ≡ claim_of best → IsClaimOf q claim
claim-on q atoms goal None claim kept is e = subst (IsClaimOf q) (sym e) tt
claim-on q atoms goal (Some best) claim kept is e =
    subst (IsClaimOf q) (sym e) (subst (λ (n : ℕ). best.bound.var < n) (length-cut_all q.initial atoms) (bound-on (cut_problem q atoms goal) best kept is))

-- what was still to be shown was claimed
pub concluded : (p : Csp) (most : ℕ) (was old now : Channel) (s : Search) (best : Option Best) (outcome : Outcome) (claim : Verdict) → IsSearching p most was old s → IfSome best (IsBest p) → Concludes (posed p) s.engine.nogoods (claim_of best)
    → outcome ≡ decided best → claim ≡ claim_of best → ((w : Channel) (nogoods : List (List Atomic)) → IsWritten p nogoods w old s.writer → Grows w now (scaffold_of p nogoods (Some claim)) × Each IsAllowed (lines (steps_of p nogoods (Some claim)))) → Solves p most was now outcome
concluded p most was old now s best outcome claim h is follows e c writes = subst (Solves p most was now) (sym e) (record {
  nogoods = s.engine.nogoods;
  claim = Some (claim_of best);
  learned = h.learned;
  once = h.once;
  few = few-nogoods p most was old s h;
  allowed = subst (λ (v : Verdict). Each IsAllowed (lines (steps_of p s.engine.nogoods (Some v)))) c (writes was s.engine.nogoods h.written).1;
  written = subst (λ (v : Verdict). Grows was now (scaffold_of p s.engine.nogoods (Some v))) c (writes was s.engine.nogoods h.written).0;
  outcome = outcome-decided p most s.engine.nogoods best is follows;
})

-- or a part of the claim was written
pub concluded-part : (p : Csp) (most : ℕ) (was old now : Channel) (s : Search) (best : Option Best) (claim : Verdict) → IsSearching p most was old s → Concludes (posed p) s.engine.nogoods (claim_of best) → claim ≡ claim_of best
    → ((w : Channel) (nogoods : List (List Atomic)) → IsWritten p nogoods w old s.writer → GrowsByPart w now (scaffold_of p nogoods (Some claim))) → SolvesInPart p most was now
concluded-part p most was old now s best claim h follows c writes = record {
  nogoods = s.engine.nogoods;
  claim = Some claim;
  learned = h.learned;
  few = few-nogoods p most was old s h;
  follows = subst (Concludes (posed p) s.engine.nogoods) (sym c) follows;
  written = writes was s.engine.nogoods h.written;
}

-- ---- no nogood more

open_rests : (p : Csp) (nogoods : List (List Atomic)) (best : Option Best) → IfSome best (IsBest p) → end_after (posed p) nogoods (denial_of (claim_of best)) ≡ Quiet
    → end_after (posed p) nogoods (denial_of (open_claim p.goal (option_map (λ b. b.numbers) best))) ≡ Quiet
open_rests p nogoods None is rests = rests
open_rests p nogoods (Some best) is rests = subst (λ (v : Verdict). end_after (posed p) nogoods (denial_of v) ≡ Quiet) (sym is.at) rests

open_solution : (p : Csp) (best : Option Best) → IfSome best (IsBest p) → IfSome (option_map (λ b. b.numbers) best) (IsSolutionOf p)
open_solution p None is = tt
open_solution p (Some best) is = is.solution

open_none : (p : Csp) (best : Option Best) → IfSome best (IsBest p) → p.goal ≡ Satisfy → option_map (λ (b : Best). b.numbers) best ≡ None
open_none p None is e = refl
open_none p (Some best) is e = absurd (has-goal p best is e)

-- the most were learned, and what is to be shown does not follow
pub left-open : (p : Csp) (most : ℕ) (was now : Channel) (s : Search) (best : Option Best) (outcome : Outcome) → IsSearching p most was now s → IfSome best (IsBest p) → (s.learned < most → ⊥)
    → end_after (posed p) s.engine.nogoods (denial_of (claim_of best)) ≡ Quiet → outcome ≡ undecided best → Solves p most was now outcome
left-open p most was now s best outcome h is full rests e = subst (Solves p most was now) (sym e) (record {
  nogoods = s.engine.nogoods;
  claim = None;
  learned = h.learned;
  once = h.once;
  few = few-nogoods p most was now s h;
  allowed = h.written.stands.lines;
  written = h.written.grows;
  outcome = record {
    solution = open_solution p best is;
    none = open_none p best is;
    claim = refl;
    count = let few : s.learned ≤ most = h.few in h.count ∙ (omega (arith, few, full));
    rests = open_rests p s.engine.nogoods best is rests;
  };
})

-- ---- a nogood more

-- the nogood is on the variables of the problem as it was given
pub nogood-on : (q : Csp) (atoms : List Atomic) (goal : Goal) (nogood written : List Atomic) → AreOf (cut_all q.initial atoms) nogood → written ≡ nogood → Each (IsOf q) written
nogood-on q atoms goal nogood written on same =
    subst (Each (IsOf q)) (sym same) (subst (λ (n : ℕ). Each (λ (a : Atomic). a.var < n) nogood) (length-cut_all q.initial atoms) on)

more-count : (nogoods : List (List Atomic)) (atoms : List Atomic) → length (nogoods ++ atoms ∷ []) ≡ length nogoods + 1
more-count nogoods atoms = rw length-append refl

-- a part of it was written
pub added-part : (p : Csp) (most : ℕ) (was old now : Channel) (s : Search) (atoms written : List Atomic) → IsSearching p most was old s → s.learned < most → IsLearnable p s.engine.nogoods atoms → written ≡ atoms
    → ((w : Channel) (nogoods : List (List Atomic)) → IsWritten p nogoods w old s.writer → GrowsByPart w now (scaffold_of p (nogoods ++ written ∷ []) None)) → SolvesInPart p most was now
added-part p most was old now s atoms written h room found same writes = record {
  nogoods = s.engine.nogoods ++ atoms ∷ [];
  claim = None;
  learned = learned-more (posed p) s.engine.nogoods atoms h.learned found.learned;
  few = let many : length (s.engine.nogoods ++ atoms ∷ []) ≡ length s.engine.nogoods + 1 = more-count s.engine.nogoods atoms in let count : length s.engine.nogoods ≡ s.learned = h.count in omega (arith, many, count, room);
  follows = tt;
  written = subst (λ (ms : List Atomic). GrowsByPart was now (scaffold_of p (s.engine.nogoods ++ ms ∷ []) None)) same (writes was s.engine.nogoods h.written);
}

-- it was written, and not added to the engine
pub added-unkept : (p : Csp) (most : ℕ) (was old now : Channel) (s : Search) (atoms written : List Atomic) (left : Written) → IsSearching p most was old s → s.learned < most → IsLearnable p s.engine.nogoods atoms → written ≡ atoms
    → ((w : Channel) (nogoods : List (List Atomic)) → IsWritten p nogoods w old s.writer → IsWritten p (nogoods ++ written ∷ []) w now left) → SolvesInPart p most was now
added-unkept p most was old now s atoms written left h room found same writes =
    added-part p most was old now s atoms written h room found same (λ w nogoods before. grows_by_all w now (scaffold_of p (nogoods ++ written ∷ []) None) (writes w nogoods before).grows)

-- it was written and added
pub added : (p : Csp) (most : ℕ) (was old now : Channel) (s : Search) (e : Propagation) (left : Written) (learned : ℕ) (atoms written : List Atomic) → IsSearching p most was old s → s.learned < most → IsLearnable p s.engine.nogoods atoms → written ≡ atoms
    → ((w : Channel) (nogoods : List (List Atomic)) → IsWritten p nogoods w old s.writer → IsWritten p (nogoods ++ written ∷ []) w now left)
    → e.problem ≡ s.engine.problem → e.nogoods ≡ s.engine.nogoods ++ written ∷ [] → KeepsStates s.engine e → learned ≡ s.learned + 1
    → IsSearching p most was now (record { engine = e; root = s.root; writer = left; learned = learned })
added p most was old now s e left learned atoms written h room found same writes problem nogoods states one =
    let is : e.nogoods ≡ s.engine.nogoods ++ atoms ∷ [] = nogoods ∙ ap (λ (ms : List Atomic). s.engine.nogoods ++ ms ∷ []) same in
    let many : length (s.engine.nogoods ++ atoms ∷ []) ≡ length s.engine.nogoods + 1 = more-count s.engine.nogoods atoms in
    record {
      on = on-added p s.root s.engine e atoms h.on problem is found.learned.variables states;
      learned = subst (AreLearned (posed p)) (sym is) (learned-more (posed p) s.engine.nogoods atoms h.learned found.learned);
      once = subst (Each IsOnce) (sym is) (Each-append IsOnce s.engine.nogoods (atoms ∷ []) h.once (found.once, tt));
      count = ap (λ (ns : List (List Atomic)). length ns) is ∙ many ∙ ap (λ (n : ℕ). n + 1) h.count ∙ sym one;
      few = omega (arith, one, room);
      written = subst (λ (ns : List (List Atomic)). IsWritten p ns was now left) (sym nogoods) (writes was s.engine.nogoods h.written);
    }

-- with one more there is less to do
pub work-added : (p : Csp) (most : ℕ) (before now : Search) (best : Option Best) → before.learned < most → now.learned ≡ before.learned + 1 → work p most now best < work p most before best
work-added p most before now best room one = omega (arith, room, one)

-- ---- solutions

assigned-lowest : (d : Domains) (x : ℕ) → get_or (map lowest d) x (pos 0) ≡ lowest (get_or d x [])
assigned-lowest [] x = refl
assigned-lowest (vs ∷ d) zero = refl
assigned-lowest (vs ∷ d) (suc x) = assigned-lowest d x

fixed-at : (p : Csp) (nogoods : List (List Atomic)) (under : List Atomic) (d : Domains) → IsReached p nogoods under d → (x : ℕ) → x < length p.initial → values d x ≡ assigned (map lowest d) x ∷ []
fixed-at p nogoods under d r x on =
    r.fixed x (subst (λ (n : ℕ). x < n) (sym r.within.count) on) ∙ ap (λ (v : ℤ). v ∷ []) (sym (assigned-lowest d x))

reached-solution : (p : Csp) (nogoods : List (List Atomic)) (under : List Atomic) (d : Domains) → IsProblem p → Each (AreOf p.initial) nogoods → IsReached p nogoods under d → IsSolutionOf p (map lowest d)
reached-solution p nogoods under d kept on r =
    rest-solution p nogoods d (map lowest d) kept on r.rests r.within (length-map d lowest ∙ r.within.count) (fixed-at p nogoods under d r)

no_some : (P : Type 0) → IsSome {T = Best} None → P
no_some P e = cc

-- the round ends with a solution, or goes on with a better one
pub solution-round : (p : Csp) (most : ℕ) (was now : Channel) (before s : Search) (old : Option Best) (d : Domains) (round : Round) → IsSearching p most was now s → s.learned ≡ before.learned → IfSome old (IsBest p)
    → IsReached p s.engine.nogoods (denial_of (claim_of old)) d → IsSolutionAt p d round → IsRound p most was now (work p most before old) s round
solution-round p most was now before s old d (Ended outcome) h same is r at = subst (Solves p most was now) (sym at.0) (record {
  nogoods = s.engine.nogoods;
  claim = None;
  learned = h.learned;
  once = h.once;
  few = few-nogoods p most was now s h;
  allowed = h.written.stands.lines;
  written = h.written.grows;
  outcome = record {
    goal = at.1;
    solution = reached-solution p s.engine.nogoods (denial_of (claim_of old)) d h.on.engine.problem h.on.engine.nogoods r;
    claim = refl;
  };
})
solution-round p most was now before s old d (Open None) h same is r at = no_some _ at.1
solution-round p most was now before s old d (Open (Some best)) h same is r at =
    let numbers : best.numbers ≡ map lowest d = at.0.0 in
    let fixed : (x : ℕ) → x < length p.initial → values d x ≡ assigned best.numbers x ∷ [] =
    subst (λ (ns : List ℤ). (x : ℕ) → x < length p.initial → values d x ≡ assigned ns x ∷ []) (sym numbers) (fixed-at p s.engine.nogoods (denial_of (claim_of old)) d r) in
    let less : open_values p (Some best) < open_values p old =
    better-less p old best d is at.0.1 r.within r.entailed (goal-value p best.numbers best.bound at.0.1 h.on.engine.problem.goal d fixed) in (
      h,
      record {
        solution = subst (IsSolutionOf p) (sym numbers) (reached-solution p s.engine.nogoods (denial_of (claim_of old)) d h.on.engine.problem h.on.engine.nogoods r);
        at = at.0.1;
      },
      omega (arith, same, less),
    )

-- ---- the beginning

-- an engine after the cut of the initial domains
pub fresh-on : (q : Csp) (atoms : List Atomic) (goal : Goal) (first e : Propagation) (mark : ℕ) → IsProblem q → IsGoalOf (length q.initial) goal → Starts q [] first → KeepsParts first e → e.present ≡ cut_all first.present atoms → mark ≡ length e.past
    → IsOn (cut_problem q atoms goal) mark e
fresh-on q atoms goal first e mark kept on starts keeps present marked =
    let same : e.problem ≡ q = keeps.problem ∙ starts.problem in
    record {
      engine = record {
        problem = cut-problem-kept q atoms goal kept on;
        parts = ap (λ (r : Csp). r.parts) same;
        variables = ap (λ (r : Csp). length r.initial) same ∙ sym (length-cut_all q.initial atoms);
        nogoods = subst (Each (AreOf (cut_all q.initial atoms))) (sym (keeps.nogoods ∙ starts.nogoods)) tt;
      };
      marked = subst (λ (n : ℕ). n ≤ length e.past) (sym marked) (omega arith);
      root = ap (λ (n : ℕ). get_or (e.past ++ e.present ∷ []) n []) marked ∙ get_or-append_seam e.past e.present [] [] ∙ present ∙ ap (λ (d : Domains). cut_all d atoms) starts.present;
    }

-- nothing is written yet
pub fresh-searching : (p : Csp) (most : ℕ) (was : Channel) (s : Search) → IsFresh p s → IsOpened was → IsSearching p most was was s
fresh-searching p most was s h opened = record {
  on = h.on;
  learned = subst (AreLearned (posed p)) (sym h.none) (learned-none (posed p));
  once = subst (Each IsOnce) (sym h.none) tt;
  count = ap (λ (ns : List (List Atomic)). length ns) h.none ∙ sym h.count;
  few = subst (λ (n : ℕ). n ≤ most) (sym h.count) (omega arith);
  written = subst (λ (ns : List (List Atomic)). IsWritten p ns was was s.writer) (sym h.none) (record { grows = grows_by_none was opened; stands = h.empty });
}

-- so where it stops at once
pub stopped-fresh : (p : Csp) (most : ℕ) (was : Channel) → IsOpened was → SolvesInPart p most was was
stopped-fresh p most was opened = record {
  nogoods = [];
  claim = None;
  learned = learned-none (posed p);
  few = omega arith;
  follows = tt;
  written = grows_by_all was was [] (grows_by_none was opened);
}

-- ---- the end

-- with room for each set of sorts it is decided
decided-outcome : (p : Csp) (most : ℕ) (was now : Channel) (outcome : Outcome) → IsProblem p → 2 ^ sort_count p.initial ≤ most → Solves p most was now outcome → IsDecided outcome
decided-outcome p most was now (Solution numbers) kept enough s = tt
decided-outcome p most was now Unsat kept enough s = tt
decided-outcome p most was now (Optimal numbers bound) kept enough s = tt
decided-outcome p most was now (Unknown best) kept enough s =
    let few : length s.nogoods < 2 ^ sort_count p.initial = fewer-learned (posed p) s.nogoods (soundly_posed p kept) s.learned in
    let all : length s.nogoods ≡ most = s.outcome.count in
    absurd (omega (arith, few, all, enough))

pub decided-enough : (p : Csp) (most : ℕ) (was now : Channel) (r : Result Outcome SolveFault) → IsProblem p → 2 ^ sort_count p.initial ≤ most → IfOk r (Solves p most was now) → IfOk r IsDecided
decided-enough p most was now (Ok outcome) kept enough s = decided-outcome p most was now outcome kept enough s
decided-enough p most was now (Err fault) kept enough s = tt
