use Rattle.std.proofs.Common.{length, map, take, subst}
use Rattle.dp_parts.specs.Problems.{posed}
use Rattle.dp_engine.specs.Indexes.{Indexed}
use Rattle.dp_engine.specs.Placed.{turn_order}
use Rattle.dp_engine.specs.Woken.{IsIndex}
use Rattle.dp_engine.proofs.ReachLaws.{index-climbs}
use Rattle.dp_engine.proofs.SeenLaws.{first-index, listed-same}
use Rattle.dp_engine.proofs.index.Index.before.Goals as goal

pub new-requires : goal.new-requires
new-requires c = λ x. index-climbs (length c.self.inside.problem.now.initial) (turn_order (posed c.self.inside.problem.now) c.self.inside.nogoods.now) c.self.inside.occurrences c.self.invariant.index x

pub returns-clause-index : goal.returns-clause-index
returns-clause-index c =
    subst (λ (i : Indexed). IsIndex (length i.problem.initial) (turn_order (posed i.problem) (take c.args.place i.nogoods)) c.new.result) c.self.view_is
    (first-index (record { problem = c.self.inside.problem.now; nogoods = c.self.inside.nogoods.now }) (map (λ e. (e.id, e.part.now)) c.self.inside.model.items) c.self.inside.occurrences c.new.result c.args.place c.len-bound.result c.new-roster.result
    c.self.invariant (listed-same (λ e. (e.id, e.part.now)) c.as_slice.result.now c.self.inside.model.items c.first.result.now (take c.args.place c.self.inside.nogoods.now) c.new-roster.result c.new-roster.ensures c.as_slice.ensures.value c.first.ensures)
    c.len-bound.ensures c.new.ensures)
