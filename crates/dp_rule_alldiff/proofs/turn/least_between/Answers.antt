-- The least value from the first number on, where it is no more than the last.
use Rattle.std.proofs.lemmas.Int.{to_z-of_z}
use mir.Syntax.{w64}
use Rattle.dp_rule_alldiff.proofs.FirstSteps.{between_found}
use Rattle.dp_rule_alldiff.proofs.turn.least_between.Goals as goal

pub returns : goal.returns
returns c =
    between_found c.args.set.now c.args.first c.args.last _ _ c.least_from.result c.no_more.result (to_z-of_z w64 c.args.first c.ranges.first) (to_z-of_z w64 c.args.last c.ranges.last)
    c.no_more.ensures c.least_from.ensures
