-- What an accepted log says of its bytes and of the goal.
use Rattle.std.specs.Prelude.{◌≡◌, ℕ, ◌<◌, ◌≤◌, ◌^◌, Bool, true, false, ◌&&◌, ◌==◌, Option, Some, None, Result, Ok, Err, IfOk, IfSome, List, [], ◌∷◌, length, ℤ}
use Rattle.std.specs.List.{list_all}
use Rattle.std.specs.Option.{option_map}
use Rattle.std.proofs.Common.{refl, arith}
use Rattle.std.proofs.lemmas.Bool.{false≢true}
use Rattle.std.proofs.lemmas.Bool.Decides.{nat_tests}
use Rattle.dp_domain.specs.Atoms.{Atomic}
use Rattle.dp_domain.specs.declared.atom.Op.{Op}
use Rattle.dp_domain.specs.declared.verdict.Verdict.{Verdict}
use Rattle.dp_domain.specs.declared.verdict.Verdict.TheVariants.{Unsat, Bound}
use Rattle.dp_lines.specs.Driving.{limits}
use Rattle.dp_lines.specs.Lines.{Lines, lines}
use Rattle.dp_lines.specs.RawLines.{raw_lines}
use Rattle.dp_lines.specs.declared.line.Claim.{Claim}
use Rattle.dp_lines.specs.declared.line.Claim.TheVariants as claim
use Rattle.dp_lines.specs.declared.line.Line.{Line}
use Rattle.dp_lines.specs.declared.line.Line.TheVariants.{Atom, Inference, Nogood, Delete, Conclude}
use Rattle.dp_lines.specs.declared.refusal.LineRefusal.{LineRefusal}
use Rattle.dp_lines.proofs.SizeLaws.{read_small}
use Rattle.dp_parts.specs.declared.goal.Goal.{Goal}
use Rattle.dp_parts.specs.declared.goal.Goal.TheVariants.{Satisfy, Minimize, Maximize}
use Rattle.dp_parts.specs.Posed.{Posed}
use Rattle.dp_parts.specs.Problems.{Csp, IsGoalOf, IsProblem, posed}
use Rattle.dp_checker.specs.Judged.{after, concluded, conclusion_refusal, first_refusal, is_at_least, is_at_most, is_bound, judge, judge_all, line_refusal, or_else, outcome, unless, verdict_of, with_atom}
use Rattle.dp_checker.specs.Known.{Known, cons_some, literal_atom, literal_atoms, nothing}
use Rattle.dp_checker.specs.declared.refusal.StepRefusal.{StepRefusal}
use Rattle.dp_checker.specs.declared.refusal.Why.{Why}
use Rattle.dp_judge.specs.Logs.{IsGoalAnswer, IsOfGoal, IsSmallAnswer, answer_after, conclude, ended, judged_log}

ended_small : (text : List ℕ) (refusal : Option LineRefusal) (r : Result Verdict StepRefusal) → (refusal ≡ None → length text ≤ 2 ^ 40) → IsSmallAnswer text (ended refusal (conclude r))
ended_small text None (Ok verdict) h = h refl
ended_small text None (Err refusal) h = tt
ended_small text (Some refusal) r h = tt

after_small : (text : List ℕ) (r : Result Known StepRefusal) (ls : Lines) (count : ℕ) → (ls.refusal ≡ None → length text ≤ 2 ^ 40) → IsSmallAnswer text (answer_after r ls count)
after_small text (Ok known) ls count h = ended_small text ls.refusal (verdict_of count known.conclusion) h
after_small text (Err refusal) ls count h = tt

-- an accepted log has no byte too many
pub accepted_small : (p : Posed) (text : List ℕ) → IsSmallAnswer text (judged_log p text)
accepted_small p text = after_small text (judge_all p (Ok nothing) (lines limits text).given) (lines limits text) (length (raw_lines text)) (read_small text)

-- ---- the goal

-- a conclusion is of the goal
abbrev OnGoal : Goal → Verdict → Type 0
OnGoal goal Unsat = Unit {0}
OnGoal goal (Bound a) = is_bound goal a ≡ true

abbrev Aims : Posed → Known → Type 0
Aims p known = IfSome known.conclusion (OnGoal p.goal)

second : (a b : Option Why) → or_else a b ≡ None → b ≡ None
second None b e = e
second (Some why) b e = absurd cc

passed : (b : Bool) (why : Why) → unless b why ≡ None → b ≡ true
passed true why e = refl
passed false why e = absurd cc

first_of : (goal : Goal) (o : Option Atomic) → list_all (is_bound goal) (cons_some o []) ≡ true → IfSome (option_map Bound o) (OnGoal goal)
first_of goal None e = tt
first_of goal (Some a) e = both (is_bound goal a) e
  where
    both : (b : Bool) → (b && true) ≡ true → b ≡ true
    both true e = refl
    both false e = absurd (false≢true e)

aims_claim : (p : Posed) (known : Known) (c : Claim) → conclusion_refusal p known c ≡ None → IfSome (concluded known c) (OnGoal p.goal)
aims_claim p known claim.Unsat e = tt
aims_claim p known (claim.Bound literal) e =
    first_of p.goal (literal_atom known.atoms literal)
    (passed (list_all (is_bound p.goal) (literal_atoms known.atoms (literal ∷ []))) _
    (first_none _ _ (second _ _ (second _ _ e))))
  where
    first_none : (a b : Option Why) → or_else a b ≡ None → a ≡ None
    first_none None b e = refl
    first_none (Some why) b e = absurd cc

with_atom_same : (p : Posed) (known : Known) (id : ℕ) (op : Op) (value : ℤ) (x : Option ℕ) → Aims p known → Aims p (with_atom known id op value x)
with_atom_same p known id op value None h = h
with_atom_same p known id op value (Some x) h = h

aims_line : (p : Posed) (known : Known) (line : Line) → line_refusal p known line ≡ None → Aims p known → Aims p (after p known line)
aims_line p known (Atom id name op value) e h = with_atom_same p known id op value _ h
aims_line p known (Inference id premises consequent constraint label) e h = h
aims_line p known (Nogood id atoms hints) e h = h
aims_line p known (Delete id) e h = h
aims_line p known (Conclude c) e h = aims_claim p known c e

aims_outcome : (p : Posed) (known : Known) (line : ℕ × Line) (why : Option Why) → first_refusal p known line.1 ≡ why → Aims p known → IfOk (outcome line.0 (after p known line.1) why) (Aims p)
aims_outcome p known line None e h = aims_line p known line.1 (second _ _ e) h
aims_outcome p known line (Some why) e h = tt

aims_from : (p : Posed) (r : Result Known StepRefusal) (es : List (ℕ × Line)) → IfOk r (Aims p) → IfOk (judge_all p r es) (Aims p)
aims_from p r [] h = h
aims_from p (Ok known) (e ∷ es) h = aims_from p (judge p (Ok known) e) es (aims_outcome p known e (first_refusal p known e.1) refl h)
aims_from p (Err refusal) (e ∷ es) h = aims_from p (Err refusal) es tt

in_range : (n : ℕ) (goal : Goal) (a : Atomic) → IsGoalOf n goal → is_bound goal a ≡ true → a.var < n
in_range n Satisfy a h e = absurd (false≢true e)
in_range n (Minimize x) a h e = same_below (a.var == x) (is_at_least a.op) e refl
  where
    same_below : (b c : Bool) → (b && c) ≡ true → (a.var == x) ≡ b → a.var < n
    same_below true c e f = let k : a.var ≡ x = grind (arith, nat_tests, f) in omega (arith, k, h)
    same_below false c e f = absurd (false≢true e)
in_range n (Maximize x) a h e = same_below (a.var == x) (is_at_most a.op) e refl
  where
    same_below : (b c : Bool) → (b && c) ≡ true → (a.var == x) ≡ b → a.var < n
    same_below true c e f = let k : a.var ≡ x = grind (arith, nat_tests, f) in omega (arith, k, h)
    same_below false c e f = absurd (false≢true e)

of_goal : (p : Csp) (v : Verdict) → IsProblem p → OnGoal p.goal v → IsOfGoal p v
of_goal p Unsat problem h = tt
of_goal p (Bound a) problem h = (h, in_range (length p.initial) p.goal a problem.goal h)

ended_goal : (p : Csp) (refusal : Option LineRefusal) (count : ℕ) (v : Option Verdict) → IsProblem p → IfSome v (OnGoal p.goal) → IsGoalAnswer p (ended refusal (conclude (verdict_of count v)))
ended_goal p None count None problem h = tt
ended_goal p None count (Some v) problem h = of_goal p v problem h
ended_goal p (Some refusal) count v problem h = tt

after_goal : (p : Csp) (r : Result Known StepRefusal) (ls : Lines) (count : ℕ) → IsProblem p → IfOk r (Aims (posed p)) → IsGoalAnswer p (answer_after r ls count)
after_goal p (Ok known) ls count problem h = ended_goal p ls.refusal count known.conclusion problem h
after_goal p (Err refusal) ls count problem h = tt

-- what an accepted log concludes is of the goal
pub accepted_goal : (p : Csp) (text : List ℕ) → IsProblem p → IsGoalAnswer p (judged_log (posed p) text)
accepted_goal p text problem =
    after_goal p (judge_all (posed p) (Ok nothing) (lines limits text).given) (lines limits text) (length (raw_lines text)) problem
    (aims_from (posed p) (Ok nothing) (lines limits text).given tt)
