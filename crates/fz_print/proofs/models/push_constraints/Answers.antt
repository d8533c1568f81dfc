use Rattle.std.proofs.Common.{◌++◌}
use Rattle.fz_print.specs.Printed.{constraint_text, constraints_text, line_end}
use Rattle.fz_print.proofs.Pieces.{further}
use Rattle.fz_print.proofs.models.push_constraints.Goals as goal

pub loop-constraint-preserved : goal.loop-constraint-preserved
loop-constraint-preserved c =
    further (λ q. constraint_text c.args.items.now q ++ line_end) c.args.constraints.now c.loop-constraint.constraint-index c.constraint-item.result
    (c.args.text.now.items ++ constraints_text c.args.items.now c.args.constraints.now) c.loop-constraint.text.items _
    c.loop-constraint-test.true c.constraint-item.is c.in_ok-push_constraint_line.ensures c.loop-constraint.invariant
