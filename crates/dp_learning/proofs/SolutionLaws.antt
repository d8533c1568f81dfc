-- Where propagation rests at one value for each variable, these values are a solution; and problems with cut domains.
use Rattle.std.proofs.Common.{◌≡◌, ℕ, ◌+◌, ◌^◌, ◌<◌, false, List, [], ◌∷◌, length, map, None, ℤ, refl, sym, ◌∙◌, subst, inl}
use Rattle.dp_base.specs.Lists.{Among, Each}
use Rattle.dp_base.proofs.Lists.{Each-among, Each-append_parts}
use Rattle.dp_domain.specs.Atoms.{Atomic}
use Rattle.dp_domain.specs.States.{AreOf, Domains, IsWithin, cut_all, is_dead, values}
use Rattle.dp_domain.specs.Turns.{IsTurn}
use Rattle.dp_domain.proofs.StateLaws.{length-cut_all}
use Rattle.dp_engine.specs.Placed.{Placed, of_constraint, of_constraints, of_nogoods, turn_order}
use Rattle.dp_engine.proofs.PlacedLaws.{problem-sound}
use Rattle.dp_parts.specs.Parts.{MeetsPart, face_of}
use Rattle.dp_parts.specs.Problems.{Csp, IsGoalOf, IsProblem, IsSolution, labelled, posed}
use Rattle.dp_parts.specs.declared.goal.Goal.{Goal}
use Rattle.dp_parts.specs.declared.part.Part.{Part}
use Rattle.dp_learning.specs.Learning.{IsAtRest}
use Rattle.dp_learning.specs.Solutions.{IsSolutionOf, assigned, cut_problem}
use Rattle.dp_learning.proofs.MeetLaws.{calm-meets}
use Rattle.dp_learning.proofs.RestLaws.{at-rest-alive, at-rest-quiet}

-- each of so many variables has one value left, the assignment's
abbrev AreFixed : ℕ → (ℕ → ℤ) → Domains → Type 0
AreFixed n s d = (x : ℕ) → x < n → values d x ≡ s x ∷ []

-- none of the parts has a turn at the state
abbrev AreQuiet : Domains → List Placed → Type 0
AreQuiet d parts = Each (λ (q : Placed). IsTurn q.face d None) parts

-- the part speaks of variables below the number
abbrev IsPartOf : ℕ → Part → Type 0
IsPartOf n q = Each (λ x. x < n) (face_of q).scope

constraint_met : (n k i : ℕ) (qs : List Part) (d : Domains) (s : ℕ → ℤ) → is_dead d ≡ false → AreFixed n s d → Each (IsPartOf n) qs → AreQuiet d (of_constraint k i (map labelled qs)) → Each (λ q. MeetsPart q s) qs
constraint_met n k i [] d s alive fixed on quiet = tt
constraint_met n k i (q ∷ qs) d s alive fixed on quiet =
    (calm-meets q d s alive (λ x h. fixed x (Each-among (λ y. y < n) (face_of q).scope on.0 x h)) quiet.0.0, constraint_met n k (i + 1) qs d s alive fixed on.1 quiet.1)

constraints_met : (n k : ℕ) (cs : List (List Part)) (d : Domains) (s : ℕ → ℤ) → is_dead d ≡ false → AreFixed n s d → Each (Each (IsPartOf n)) cs → AreQuiet d (of_constraints k (map (map labelled) cs)) → Each (Each (λ q. MeetsPart q s)) cs
constraints_met n k [] d s alive fixed on quiet = tt
constraints_met n k (c ∷ cs) d s alive fixed on quiet =
    let r = Each-append_parts (λ (q : Placed). IsTurn q.face d None) (of_constraint k 0 (map labelled c)) (of_constraints (k + 1) (map (map labelled) cs)) quiet in
    (constraint_met n k 0 c d s alive fixed on.0 r.0, constraints_met n (k + 1) cs d s alive fixed on.1 r.1)

-- a state at rest that leaves each variable one value is a solution
pub rest-solves : (p : Csp) (ns : List (List Atomic)) (d : Domains) (s : ℕ → ℤ) → IsProblem p → Each (AreOf p.initial) ns → IsAtRest (turn_order (posed p) ns) d → IsWithin d p.initial → ((x : ℕ) → x < length p.initial → values d x ≡ s x ∷ []) → IsSolution s p
rest-solves p ns d s kept on rest w fixed =
    let quiet = at-rest-quiet (length p.initial) (turn_order (posed p) ns) d (problem-sound p ns kept on) rest in
    record {
      within = λ x h. w.each x (s x) (subst (λ vs. Among (s x) vs) (sym (fixed x h)) (inl refl));
      meets = constraints_met (length p.initial) 0 p.parts d s (at-rest-alive (turn_order (posed p) ns) d rest) fixed kept.parts
          (Each-append_parts (λ (q : Placed). IsTurn q.face d None) (of_constraints 0 (posed p).constraints) (of_nogoods 0 ns) quiet).0;
    }

-- the same of a list of numbers
pub rest-solution : (p : Csp) (ns : List (List Atomic)) (d : Domains) (numbers : List ℤ) → IsProblem p → Each (AreOf p.initial) ns → IsAtRest (turn_order (posed p) ns) d → IsWithin d p.initial → length numbers ≡ length p.initial
    → ((x : ℕ) → x < length p.initial → values d x ≡ assigned numbers x ∷ []) → IsSolutionOf p numbers
rest-solution p ns d numbers kept on rest w l fixed = record { count = l; solves = rest-solves p ns d (assigned numbers) kept on rest w fixed }

-- a problem whose domains are cut, with a goal on its variables, is a problem
pub cut-problem-kept : (p : Csp) (atoms : List Atomic) (goal : Goal) → IsProblem p → IsGoalOf (length p.initial) goal → IsProblem (cut_problem p atoms goal)
cut-problem-kept p atoms goal kept on =
    let same : length p.initial ≡ length (cut_all p.initial atoms) = sym (length-cut_all p.initial atoms) in
    record {
      names = subst (λ n. Each (λ (e : List ℕ × ℕ). e.1 < n) p.names) same kept.names;
      spelled = kept.spelled;
      owned = kept.owned ∙ same;
      own = kept.own;
      parts = subst (λ n. Each (Each (IsPartOf n)) p.parts) same kept.parts;
      goal = subst (λ n. IsGoalOf n goal) same on;
      few_names = kept.few_names;
      few_variables = subst (λ n. n < 2 ^ 32) same kept.few_variables;
      few_constraints = kept.few_constraints;
      few_parts = kept.few_parts;
    }
