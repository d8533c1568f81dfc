-- The conclusion of an accepted log is right.
use Rattle.std.specs.Prelude.{Option, Some, None, IfOk, IfSome, ℕ}
use Rattle.dp_domain.specs.declared.verdict.Verdict.{Verdict}
use Rattle.dp_domain.specs.declared.verdict.Verdict.TheVariants.{Unsat, Bound}
use Rattle.dp_parts.specs.Problems.{Csp, posed}
use Rattle.dp_parts.specs.ProblemLaws.{solution_solves}
use Rattle.dp_checker.specs.Judged.{verdict_of}
use Rattle.dp_checker.specs.Kept.{IsRight}
use Rattle.dp_checker.specs.Soundness.{HoldsOf}

-- a conclusion that holds of the problem as it is posed is right
pub right_conclusion : (p : Csp) (lines : ℕ) (o : Option Verdict) → IfSome o (HoldsOf (posed p)) → IfOk (verdict_of lines o) (IsRight p)
right_conclusion p lines None h = tt
right_conclusion p lines (Some Unsat) h = λ s solution. h s (solution_solves p s solution)
right_conclusion p lines (Some (Bound a)) h = λ s solution. h s (solution_solves p s solution)
