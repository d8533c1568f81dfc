-- What is said speaks of the problem's variables alone, has a line and a number for each nogood, and not too many: line by line.
use Rattle.std.proofs.Common.{◌≡◌, ℕ, ◌+◌, ◌<◌, ◌≤◌, Bool, true, false, not, ◌&&◌, ◌==◌, Option, Some, None, List, [], ◌∷◌, ◌++◌, length, ℤ, refl, sym, ◌∙◌, ap, subst, arith, length-append, if◌then◌else◌}
use Rattle.std.specs.Prelude.{IfSome}
use Rattle.std.specs.List.{list_all}
use Rattle.std.specs.Map.{lookup}
use Rattle.std.specs.Option.{option_map}
use Rattle.std.specs.Str.{bytes_eq}
use Rattle.std.proofs.lemmas.Bool.{and_parts, false≢true}
use Rattle.std.proofs.lemmas.Bool.Decides.{nat_tests}
use Rattle.dp_base.specs.Lists.{Each}
use Rattle.dp_base.specs.Names.{named}
use Rattle.dp_base.proofs.Lists.{Each-append, Each-filter}
use Rattle.dp_checker.specs.Judged.{has_goal, is_at_least, is_at_most, is_bound}
use Rattle.dp_checker.specs.Known.{cons_some, first_undefined, literal_atom, literal_atoms}
use Rattle.dp_checker.specs.SoundnessLaws.{second_passes}
use Rattle.dp_checker.proofs.Below.{literals_below}
use Rattle.dp_domain.specs.Atoms.{Atomic}
use Rattle.dp_domain.specs.States.{AreOf}
use Rattle.dp_domain.specs.declared.atom.Op.{Op}
use Rattle.dp_domain.specs.declared.verdict.Verdict.{Verdict}
use Rattle.dp_domain.specs.declared.verdict.Verdict.TheVariants.{Unsat as NoSolution, Bound as NoBetter}
use Rattle.dp_checker.specs.Goals.{IsOfGoal}
use Rattle.dp_lines.specs.declared.line.Claim.{Claim}
use Rattle.dp_lines.specs.declared.line.Claim.TheVariants.{Unsat, Bound}
use Rattle.dp_lines.specs.declared.line.Line.{Line}
use Rattle.dp_lines.specs.declared.line.Line.TheVariants.{Atom, Inference, Nogood, Delete, Conclude}
use Rattle.dp_parts.specs.declared.goal.Goal.{Goal}
use Rattle.dp_parts.specs.declared.goal.Goal.TheVariants.{Satisfy, Minimize, Maximize}
use Rattle.dp_parts.specs.Problems.{Csp, IsGoalOf, IsProblem, posed}
use Rattle.dp_rule_clause.specs.Nogoods.{each_once, same_atom}
use Rattle.dp_scaffold.specs.Gathering.{Gathered, after, claim_refusal, concluded, first_refusal, line_refusal, most_literals, most_nogoods, unless, with_atom, with_claim}
use Rattle.dp_scaffold.specs.Kept.{IsClaimed, IsKept}
use Rattle.dp_scaffold.specs.Scaffolds.{nogood_of}
use Rattle.dp_scaffold.specs.declared.refusal.GatherWhy.TheVariants.{NoGoal, UnknownAtom, WrongBound}
use Rattle.dp_scaffold.proofs.Passing.{by_kind, holds_where_passed, nogood_room, unclaimed}

-- ---- nogoods

-- what holds of each atom holds of each that is kept once
each_once-each : (P : Atomic → Type 0) (atoms : List Atomic) → Each P atoms → Each P (each_once atoms)
each_once-each P [] e = tt
each_once-each P (a ∷ atoms) e = (e.0, Each-filter P (λ b. not (same_atom a b)) (each_once atoms) (each_once-each P atoms e.1))

-- a conclusion's nogood is on the problem's variables
nogood_below : (p : Csp) (v : Verdict) → IsOfGoal p v → AreOf p.initial (nogood_of v)
nogood_below p NoSolution h = tt
nogood_below p (NoBetter a) h = (h.1, tt)

one_more : {A : Type 0} (xs : List A) (x : A) → length (xs ++ x ∷ []) ≡ length xs + 1
one_more xs x = length-append xs (x ∷ [])

more_than : {A B : Type 0} (xs : List A) (ys : List B) (x : A) (y : B) → length xs ≡ length ys → length (xs ++ x ∷ []) ≡ length (ys ++ y ∷ [])
more_than xs ys x y e = one_more xs x ∙ ap (λ (n : ℕ). n + 1) e ∙ sym (one_more ys y)

-- ---- the goal

in_range : (n : ℕ) (goal : Goal) (a : Atomic) → IsGoalOf n goal → is_bound goal a ≡ true → a.var < n
in_range n Satisfy a h e = absurd (false≢true e)
in_range n (Minimize x) a h e = same_below (a.var == x) (is_at_least a.op) e refl
  where
    same_below : (b c : Bool) → (b && c) ≡ true → (a.var == x) ≡ b → a.var < n
    same_below true c e f = let k : a.var ≡ x = grind (arith, nat_tests, f) in omega (arith, k, h)
    same_below false c e f = absurd (false≢true e)
in_range n (Maximize x) a h e = same_below (a.var == x) (is_at_most a.op) e refl
  where
    same_below : (b c : Bool) → (b && c) ≡ true → (a.var == x) ≡ b → a.var < n
    same_below true c e f = let k : a.var ≡ x = grind (arith, nat_tests, f) in omega (arith, k, h)
    same_below false c e f = absurd (false≢true e)

bound_of_goal : (p : Csp) (o : Option Atomic) → IsProblem p → list_all (is_bound p.goal) (cons_some o []) ≡ true → IfSome (option_map NoBetter o) (IsOfGoal p)
bound_of_goal p None whole e = tt
bound_of_goal p (Some a) whole e =
    let aimed : is_bound p.goal a ≡ true = (and_parts (is_bound p.goal a) true e).0 in
    (aimed, in_range (length p.initial) p.goal a whole.goal aimed)

-- what a claim that passes concludes is of the goal
of_goal : (p : Csp) (g : Gathered) (claim : Claim) → IsProblem p → claim_refusal (posed p) g claim ≡ None → IfSome (concluded g claim) (IsOfGoal p)
of_goal p g Unsat whole e = tt
of_goal p g (Bound literal) whole e =
    bound_of_goal p (literal_atom g.atoms literal) whole
    (holds_where_passed (list_all (is_bound p.goal) (literal_atoms g.atoms (literal ∷ []))) WrongBound
    (second_passes (unless (has_goal p.goal) NoGoal) _ (second_passes (option_map UnknownAtom (first_undefined g.atoms (literal ∷ []))) _ e)))

-- ---- lines

where_some : {A : Type 0} (P : A → Type 0) (b : Bool) (x : A) (o : Option A) → P x → IfSome o P → IfSome (if b then Some x else o) P
where_some P true x o h e = h
where_some P false x o h e = e

found_where : {K A : Type 0} (P : A → Type 0) (test : K → Bool) (entries : List (K × A)) → Each (λ entry. P entry.1) entries → IfSome (lookup test entries) P
found_where P test [] e = tt
found_where P test (entry ∷ entries) e = where_some P (test entry.0) entry.1 (lookup test entries) e.0 (found_where P test entries e.1)

kept_atom : (p : Csp) (g : Gathered) (id : ℕ) (op : Op) (value : ℤ) (o : Option ℕ) → IsKept p g → IfSome o (λ x. x < length p.initial) → IsKept p (with_atom g id op value o)
kept_atom p g id op value None kept h = kept
kept_atom p g id op value (Some x) kept h = record {
  problem = kept.problem;
  atoms = Each-append (λ (entry : ℕ × Atomic). entry.1.var < length p.initial) g.atoms ((id, record { var = x; op = op; value = value }) ∷ []) kept.atoms (h, tt);
  nogoods = kept.nogoods;
  lines = kept.lines;
  ids = kept.ids;
  literals = kept.literals;
  claim = kept.claim;
}

room_more : (p : Csp) (nogoods : List (List Atomic)) (nogood : List Atomic) (claim : Option Verdict) → claim ≡ None → length nogoods + 1 ≤ most_nogoods → IsClaimed p (nogoods ++ nogood ∷ []) claim
room_more p nogoods nogood claim none few =
    subst (λ (o : Option Verdict). IsClaimed p (nogoods ++ nogood ∷ []) o) (sym none) (let k = one_more nogoods nogood in omega (arith, k, few))

kept_nogood : (p : Csp) (g : Gathered) (number id : ℕ) (atoms : List ℤ) (hints : List ℕ) → IsKept p g → g.claim ≡ None → line_refusal (posed p) g (Nogood id atoms hints) ≡ None
    → IsKept p (after (posed p) g number (Nogood id atoms hints))
kept_nogood p g number id atoms hints kept none e =
    let room : (length g.nogoods + 1 ≤ most_nogoods) × (g.literals + length atoms ≤ most_literals) = nogood_room (posed p) g id atoms hints e in
    let nogood : List Atomic = each_once (literal_atoms g.atoms atoms) in
    record {
      problem = kept.problem;
      atoms = kept.atoms;
      nogoods = Each-append (AreOf p.initial) g.nogoods (nogood ∷ []) kept.nogoods
          (each_once-each (λ a. a.var < length p.initial) (literal_atoms g.atoms atoms) (literals_below (length p.initial) g.atoms kept.atoms atoms), tt);
      lines = more_than g.lines g.nogoods number nogood kept.lines;
      ids = more_than g.ids g.nogoods id nogood kept.ids;
      literals = room.1;
      claim = room_more p g.nogoods nogood g.claim none room.0;
    }

kept_claim : (p : Csp) (g : Gathered) (number : ℕ) (o : Option Verdict) → IsKept p g → g.claim ≡ None → IfSome o (IsOfGoal p) → IsKept p (with_claim g number o)
kept_claim p g number None kept none h = kept
kept_claim p g number (Some verdict) kept none h = record {
  problem = kept.problem;
  atoms = kept.atoms;
  nogoods = Each-append (AreOf p.initial) g.nogoods (nogood_of verdict ∷ []) kept.nogoods (nogood_below p verdict h, tt);
  lines = more_than g.lines g.nogoods number (nogood_of verdict) kept.lines;
  ids = more_than g.ids g.nogoods 0 (nogood_of verdict) kept.ids;
  literals = kept.literals;
  claim = (h, (g.nogoods, refl, subst (λ (o : Option Verdict). IsClaimed p g.nogoods o) none kept.claim));
}

kept_line : (p : Csp) (g : Gathered) (number : ℕ) (line : Line) → IsKept p g → g.claim ≡ None → line_refusal (posed p) g line ≡ None → IsKept p (after (posed p) g number line)
kept_line p g number (Atom id name op value) kept none e =
    kept_atom p g id op value (named p.names name) kept (found_where (λ x. x < length p.initial) (bytes_eq name) p.names kept.problem.names)
kept_line p g number (Inference id premises consequent constraint label) kept none e = record {
  problem = kept.problem;
  atoms = kept.atoms;
  nogoods = kept.nogoods;
  lines = kept.lines;
  ids = kept.ids;
  literals = kept.literals;
  claim = kept.claim;
}
kept_line p g number (Nogood id atoms hints) kept none e = kept_nogood p g number id atoms hints kept none e
kept_line p g number (Delete id) kept none e = kept
kept_line p g number (Conclude claim) kept none e = kept_claim p g number (concluded g claim) kept none (of_goal p g claim kept.problem e)

-- a line that no test refuses keeps what is kept
pub kept_after : (p : Csp) (g : Gathered) (number : ℕ) (line : Line) → IsKept p g → first_refusal (posed p) g line ≡ None → IsKept p (after (posed p) g number line)
kept_after p g number line kept e = kept_line p g number line kept (unclaimed (posed p) g line e) (by_kind (posed p) g line e)
