-- A line that no test refuses keeps what is kept.
use Rattle.std.proofs.Common.{◌≡◌, None, arith, rules, sym, subst}
use Rattle.std.proofs.lemmas.Grind.{common_steps}
use Rattle.dp_parts.specs.Problems.{posed}
use Rattle.dp_scaffold.specs.Answers.{gathered_of}
use Rattle.dp_scaffold.specs.Gathering.{Gathered, first_refusal}
use Rattle.dp_scaffold.specs.Kept.{IsKept}
use Rattle.dp_scaffold.proofs.Keeping.{kept_after}
use Rattle.dp_scaffold.proofs.gatherer.Gatherer.take.Goals as goal

pub invariant_of-self-2 : goal.invariant_of-self-2
invariant_of-self-2 c =
    let passes : first_refusal (posed c.self.inside.problem.now) (gathered_of c.self.inside.facts) c.args.line.now ≡ None = first_of (search rules, grind (arith, common_steps)) in
    subst (λ (g : Gathered). IsKept c.self.inside.problem.now g) (sym c.in_ok-add_line.ensures.added)
    (kept_after c.self.inside.problem.now (gathered_of c.self.inside.facts) c.args.number c.args.line.now c.self.invariant passes)
