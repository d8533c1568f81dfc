use Rattle.dp_engine.proofs.RosterLaws.{roster-step}
use Rattle.dp_engine.proofs.roster.entries.Goals as goal

pub loop-constraint-preserved : goal.loop-constraint-preserved
loop-constraint-preserved c = roster-step c.args.problem.now.parts c.loop-constraint.constraint c.parts_of-parts.result.now _ _ _ c.loop-constraint.invariant c.parts_of-parts.ensures.parts c.in_ok-push_parts.ensures
