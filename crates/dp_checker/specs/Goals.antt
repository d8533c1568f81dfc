-- What a conclusion has to do with the goal.
use Rattle.std.specs.Prelude.{◌≡◌, ◌<◌, true, length}
use Rattle.dp_domain.specs.declared.verdict.Verdict.{Verdict}
use Rattle.dp_domain.specs.declared.verdict.Verdict.TheVariants.{Unsat, Bound}
use Rattle.dp_parts.specs.Problems.{Csp}
use Rattle.dp_checker.specs.Judged.{is_bound}

-- a bound that is concluded is on the goal's variable, on the goal's side
abbrev pub IsOfGoal : Csp → Verdict → Type 0
IsOfGoal p Unsat = Unit {0}
IsOfGoal p (Bound a) = (is_bound p.goal a ≡ true) × (a.var < length p.initial)
