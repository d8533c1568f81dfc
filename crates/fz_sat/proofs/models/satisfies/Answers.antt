-- The test of the declarations and constraints is that of the model.
use Rattle.std.proofs.Common.{◌&&◌, sym, ap}
use Rattle.fz_sat.proofs.SatisfiesLaws.{not_satisfied, satisfies_read}
use Rattle.fz_sat.proofs.models.satisfies.Goals as goal

pub returns-then-keeps_all : goal.returns-then-keeps_all
returns-then-keeps_all c =
    satisfies_read c.args.model.now c.args.values.now c.items-items.result.now c.values-values.result.now c.constraints.result.now c.keeps_all.result c.meets_all.result c.meets_all.result
    c.items-items.ensures.items c.values-values.ensures c.constraints.ensures.constraints c.keeps_all.ensures c.meets_all.ensures (sym (ap (λ b. b && c.meets_all.result) c.if-keeps_all.true))

pub returns-else-keeps_all : goal.returns-else-keeps_all
returns-else-keeps_all c =
    not_satisfied c.args.model.now c.args.values.now c.items-items.result.now c.values-values.result.now c.keeps_all.result c.items-items.ensures.items c.values-values.ensures c.keeps_all.ensures c.if-keeps_all.false
