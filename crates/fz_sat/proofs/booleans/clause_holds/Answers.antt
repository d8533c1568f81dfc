-- Where none of the first holds, the clause holds where some of the second fails.
use Rattle.std.proofs.Common.{not, ◌∙◌, ap, sym}
use Rattle.fz_sat.specs.Meaning.{given, is_on}
use Rattle.fz_sat.specs.Satisfies.{valuation}
use Rattle.fz_sat.proofs.Rows.{any_not, or_second}
use Rattle.fz_sat.proofs.booleans.clause_holds.Goals as goal

pub returns-else-some_holds : goal.returns-else-some_holds
returns-else-some_holds c =
    or_second _ _ _ _ c.some_holds.ensures c.if-some_holds.false (ap not c.all_hold.ensures ∙ sym (any_not is_on ((given c.args.row.now.items.now c.args.row.now.args.now (valuation c.args.row.now.values.now)).numbers 1)))
