-- The ends of the demand.
use Rattle.std.proofs.Common.{◌∙◌, ap, pos, ◌+ℤ◌, FitsSigned, rules, arith}
use Rattle.std.proofs.lemmas.Int.{ints, to_z-of_z}
use mir.Syntax.{w128}
use Rattle.dp_rule_cumulative.specs.Profiles.{first_start, last_start}
use Rattle.dp_rule_cumulative.proofs.BoundSteps.{late_made}
use Rattle.dp_rule_cumulative.proofs.bound.late_demand.Goals as goal

pub returns-clause-demand : goal.returns-clause-demand
returns-clause-demand c =
    let k = c.args.task.now in
    let first : FitsSigned w128 c.first_start.result = search rules in
    let last : FitsSigned w128 c.last_start-start.result = search rules in
    let end : FitsSigned w128 c.end_after.result = search rules in
    let most : FitsSigned w128 c.max.result = search rules in
    let time = c.end_after-2.ensures.time in
    let start = to_z-of_z w128 _ last ∙ c.last_start-start.ensures.start in
    late_made (first_start c.args.set.now) (last_start c.args.set.now) c.args.capacity k c.max.result _ _ c.end_after-2.result _ _
    c.max.ensures.value
    (to_z-of_z w128 _ end ∙ c.end_after.ensures.end ∙ ap (λ v. v +ℤ pos k.duration) (to_z-of_z w128 _ first ∙ c.first_start.ensures.start))
    start
    (c.end_after-2.ensures.end ∙ ap (λ v. v +ℤ pos k.duration) start)
    (to_z-of_z w128 _ most)
    (omega (arith, ints, time.0, time.1))
