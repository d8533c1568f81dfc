use Rattle.std.proofs.Common.{sym, subst, ◌∙◌}
use Rattle.dp_checker.specs.Answers.{known_of}
use Rattle.dp_checker.specs.Kept.{IsKept}
use Rattle.dp_checker.specs.Known.{Known}
use Rattle.dp_checker.proofs.Below.{kept_after}
use Rattle.dp_checker.proofs.checker.Checker.take.Goals as goal

pub invariant_of-self : goal.invariant_of-self
invariant_of-self c = record {
  problem = c.self.invariant.problem;
  kept = subst (λ (k : Known). IsKept c.self.inside.problem.now k) (sym c.in-Ok.ensures.known)
      (kept_after c.self.inside.problem.now c.self.invariant.problem (known_of c.self.inside.facts) c.self.invariant.kept c.args.line.now c.in-Ok.ensures.accepted);
  base = c.in-Ok.ensures.base ∙ c.self.invariant.base;
}
