-- The values of the terms are those of the elements.
use Rattle.std.proofs.Common.{map, sym, ◌∙◌, ap}
use Rattle.fz_sat.specs.Args.{arg_elements}
use Rattle.fz_sat.specs.Globals.{are_distinct}
use Rattle.fz_sat.specs.Satisfies.{valuation, value_of}
use Rattle.fz_sat.proofs.Rows.{values-map}
use Rattle.fz_sat.proofs.global.all_differ.Goals as goal

pub returns : goal.returns
returns c =
    let row = c.args.row.now in
    let s = valuation row.values.now in
    let elements = arg_elements row.items.now row.args.now 0 in
    c.values_differ.ensures ∙ ap (λ bs. are_distinct (map (value_of row.items.now s) bs)) c.elements.ensures ∙ sym (ap are_distinct (values-map row.items.now s elements))
