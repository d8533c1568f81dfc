-- A better solution leaves fewer values to be searched.
use Rattle.std.proofs.Common.{◌≡◌, ℕ, ◌<◌, true, false, not, List, [], ◌∷◌, length, Option, Some, None, ℤ, pos, ◌+ℤ◌, ◌-ℤ◌, ◌≤ℤ◌, refl, sym, ◌∙◌, ap, subst, inl, arith}
use Rattle.std.specs.Option.{IfSome}
use Rattle.std.proofs.lemmas.Bool.{and_parts}
use Rattle.std.proofs.lemmas.Int.{ints}
use Rattle.dp_base.specs.Lists.{Among}
use Rattle.dp_domain.specs.Atoms.{Atomic, meets, negated}
use Rattle.dp_domain.specs.States.{AreOf, Domains, IsWithin, cut, entails, entails_all, total, values}
use Rattle.dp_domain.specs.Turns.{at_least, at_most}
use Rattle.dp_domain.specs.declared.verdict.Verdict.{Verdict}
use Rattle.dp_domain.specs.declared.verdict.Verdict.TheVariants.{Unsat, Bound}
use Rattle.dp_domain.proofs.AtomLaws.{le-from_test, meets-negated, test-from_le}
use Rattle.dp_domain.proofs.StateLaws.{Among-cut_meets, Among-cut_all, cut-entailed, cut_comm, entails-at, entails-from, entails-not, total-cut}
use Rattle.dp_learning.specs.Learning.{denial_of}
use Rattle.dp_learning.specs.Solutions.{assigned, best_claim}
use Rattle.dp_parts.specs.Problems.{Csp, IsGoalOf, IsProblem}
use Rattle.dp_parts.specs.declared.goal.Goal.{Goal}
use Rattle.dp_parts.specs.declared.goal.Goal.TheVariants.{Satisfy, Minimize, Maximize}
use Rattle.dp_rule_clause.specs.Nogoods.{IsOnce}
use Rattle.dp_solver.specs.Rounds.{IsBest, claim_of, open_values}
use Rattle.dp_solver.specs.declared.task.Best.{Best}

-- ---- cuts by two atoms on one variable, of which the first says more

-- the first leaves less than the second where a value meets the second alone
pub total-narrow : (d : Domains) (a b : Atomic) (v : ℤ) → a.var ≡ b.var → ((u : ℤ) → meets a u ≡ true → meets b u ≡ true) → Among v (values d a.var) → meets a v ≡ false → meets b v ≡ true → total (cut d a) < total (cut d b)
total-narrow d a b v same more among fails holds =
    let all : entails (cut d a) b ≡ true = entails-from (cut d a) b (λ u h. more u (Among-cut_meets d a u (subst (λ (x : ℕ). Among u (values (cut d a) x)) (sym same) h))) in
    let is : cut (cut d b) a ≡ cut d a = cut_comm d b a ∙ cut-entailed (cut d a) b all in
    let among' : Among v (values (cut d b) a.var) = Among-cut_all d b a.var v among (λ e. holds) in
    subst (λ (e : Domains). total e < total (cut d b)) is (total-cut (cut d b) a (entails-not (cut d b) a v among' fails))

-- ---- bounds

-- an atom that bounds the goal's variable at the value, on the goal's side
abbrev IsBound : Goal → ℤ → Atomic → Type 0
IsBound Satisfy v b = ⊥
IsBound (Minimize x) v b = at_least x v ≡ b
IsBound (Maximize x) v b = at_most x v ≡ b

-- the goal's variable; 0 where there is none
abbrev pub goal_var : Goal → ℕ
goal_var Satisfy = 0
goal_var (Minimize x) = x
goal_var (Maximize x) = x

bound_same : (a b : Atomic) → ◌≡◌ {A = Verdict} (Bound a) (Bound b) → a ≡ b
bound_same a b e = cc

claims_no_bound : (b : Atomic) → ◌≡◌ {A = Verdict} Unsat (Bound b) → ⊥
claims_no_bound b e = cc

is_bound : (goal : Goal) (numbers : List ℤ) (b : Atomic) → best_claim goal numbers ≡ Bound b → IsBound goal (assigned numbers (goal_var goal)) b
is_bound Satisfy numbers b e = claims_no_bound b e
is_bound (Minimize x) numbers b e = bound_same (at_least x (assigned numbers x)) b e
is_bound (Maximize x) numbers b e = bound_same (at_most x (assigned numbers x)) b e

-- with a bound there is a goal
pub has-goal : (p : Csp) (best : Best) → IsBest p best → p.goal ≡ Satisfy → ⊥
has-goal p best is e = claims_no_bound best.bound (sym (ap (λ (g : Goal). best_claim g best.numbers) e) ∙ is.at)

bound_var : (goal : Goal) (v : ℤ) (b : Atomic) → IsBound goal v b → b.var ≡ goal_var goal
bound_var Satisfy v b h = absurd h
bound_var (Minimize x) v b h = sym (ap (λ (a : Atomic). a.var) h)
bound_var (Maximize x) v b h = sym (ap (λ (a : Atomic). a.var) h)

goal_on : (goal : Goal) (n : ℕ) (v : ℤ) (b : Atomic) → IsBound goal v b → IsGoalOf n goal → b.var < n
goal_on Satisfy n v b h on = absurd h
goal_on (Minimize x) n v b h on = subst (λ (a : Atomic). a.var < n) h on
goal_on (Maximize x) n v b h on = subst (λ (a : Atomic). a.var < n) h on

-- the bound is on one of the variables
pub bound-on : (p : Csp) (best : Best) → IsProblem p → IsBest p best → best.bound.var < length p.initial
bound-on p best kept is = goal_on p.goal (length p.initial) (assigned best.numbers (goal_var p.goal)) best.bound (is_bound p.goal best.numbers best.bound is.at) kept.goal

-- so are the atoms that deny what is still to be shown
pub denial-on : (p : Csp) (best : Option Best) → IsProblem p → IfSome best (IsBest p) → AreOf p.initial (denial_of (claim_of best))
denial-on p None kept is = tt
denial-on p (Some best) kept is = (bound-on p best kept is, tt)

-- the value at the bound fails its negation
bound_fails : (goal : Goal) (v : ℤ) (b : Atomic) → IsBound goal v b → meets (negated b) v ≡ false
bound_fails Satisfy v b h = absurd h
bound_fails (Minimize x) v b h = meets-negated b v ∙ ap not (subst (λ (a : Atomic). meets a v ≡ true) h (test-from_le v v (omega (arith, ints))))
bound_fails (Maximize x) v b h = meets-negated b v ∙ ap not (subst (λ (a : Atomic). meets a v ≡ true) h (test-from_le v v (omega (arith, ints))))

-- where a value is better than the bound before, the negation at it says more
says_more : (goal : Goal) (v w : ℤ) (b c : Atomic) → IsBound goal v b → IsBound goal w c → meets (negated c) v ≡ true → (u : ℤ) → meets (negated b) u ≡ true → meets (negated c) u ≡ true
says_more Satisfy v w b c h k better u met = absurd h
says_more (Minimize x) v w b c h k better u met =
    let far : v ≤ℤ (w -ℤ pos 1) = le-from_test v (w -ℤ pos 1) (subst (λ (a : Atomic). meets (negated a) v ≡ true) (sym k) better) in
    let near : u ≤ℤ (v -ℤ pos 1) = le-from_test u (v -ℤ pos 1) (subst (λ (a : Atomic). meets (negated a) u ≡ true) (sym h) met) in
    subst (λ (a : Atomic). meets (negated a) u ≡ true) k (test-from_le u (w -ℤ pos 1) (omega (arith, ints, far, near)))
says_more (Maximize x) v w b c h k better u met =
    let far : (w +ℤ pos 1) ≤ℤ v = le-from_test (w +ℤ pos 1) v (subst (λ (a : Atomic). meets (negated a) v ≡ true) (sym k) better) in
    let near : (v +ℤ pos 1) ≤ℤ u = le-from_test (v +ℤ pos 1) u (subst (λ (a : Atomic). meets (negated a) u ≡ true) (sym h) met) in
    subst (λ (a : Atomic). meets (negated a) u ≡ true) k (test-from_le (w +ℤ pos 1) u (omega (arith, ints, far, near)))

-- ---- fewer values

-- a solution that meets the denial of what was still to be shown leaves fewer values
pub better-less : (p : Csp) (old : Option Best) (best : Best) (d : Domains) → IfSome old (IsBest p) → best_claim p.goal best.numbers ≡ Bound best.bound → IsWithin d p.initial → entails_all d (denial_of (claim_of old)) ≡ true
    → Among (assigned best.numbers (goal_var p.goal)) (values d (goal_var p.goal)) → open_values p (Some best) < open_values p old
better-less p None best d was at within entailed among =
    let b = is_bound p.goal best.numbers best.bound at in
    let v : ℤ = assigned best.numbers (goal_var p.goal) in
    let there : Among v (values p.initial best.bound.var) = subst (λ (x : ℕ). Among v (values p.initial x)) (sym (bound_var p.goal v best.bound b)) (within.each (goal_var p.goal) v among) in
    total-cut p.initial (negated best.bound) (entails-not p.initial (negated best.bound) v there (bound_fails p.goal v best.bound b))
better-less p (Some old) best d was at within entailed among =
    let b = is_bound p.goal best.numbers best.bound at in
    let c = is_bound p.goal old.numbers old.bound was.at in
    let v : ℤ = assigned best.numbers (goal_var p.goal) in
    let w : ℤ = assigned old.numbers (goal_var p.goal) in
    let var : best.bound.var ≡ goal_var p.goal = bound_var p.goal v best.bound b in
    let var' : old.bound.var ≡ goal_var p.goal = bound_var p.goal w old.bound c in
    let there : Among v (values p.initial best.bound.var) = subst (λ (x : ℕ). Among v (values p.initial x)) (sym var) (within.each (goal_var p.goal) v among) in
    let better : meets (negated old.bound) v ≡ true =
    entails-at d (negated old.bound) v (and_parts (entails d (negated old.bound)) true entailed).0 (subst (λ (x : ℕ). Among v (values d x)) (sym var') among) in
    total-narrow p.initial (negated best.bound) (negated old.bound) v (var ∙ sym var') (says_more p.goal v w best.bound old.bound b c better) there (bound_fails p.goal v best.bound b) better

-- the goal's variable has the value that the numbers give it
pub goal-value : (p : Csp) (numbers : List ℤ) (b : Atomic) → best_claim p.goal numbers ≡ Bound b → IsGoalOf (length p.initial) p.goal → (d : Domains) → ((x : ℕ) → x < length p.initial → values d x ≡ assigned numbers x ∷ [])
    → Among (assigned numbers (goal_var p.goal)) (values d (goal_var p.goal))
goal-value p numbers b at on d fixed =
    let is = is_bound p.goal numbers b at in
    let below = subst (λ (x : ℕ). x < length p.initial) (bound_var p.goal (assigned numbers (goal_var p.goal)) b is) (goal_on p.goal (length p.initial) (assigned numbers (goal_var p.goal)) b is on) in
    subst (λ (vs : List ℤ). Among (assigned numbers (goal_var p.goal)) vs) (sym (fixed (goal_var p.goal) below)) (inl refl)

-- the atoms that deny what is still to be shown stand once
pub denial-once : (best : Option Best) → IsOnce (denial_of (claim_of best))
denial-once None = tt
denial-once (Some best) = (λ h. h, tt)
