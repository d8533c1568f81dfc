-- A test of each value is one of each element.
use Rattle.std.proofs.Common.{◌∙◌, ap, sym}
use Rattle.std.specs.List.{list_all}
use Rattle.fz_sat.specs.Args.{arg_elements}
use Rattle.fz_sat.specs.Meaning.{is_on}
use Rattle.fz_sat.specs.Satisfies.{valuation, value_of}
use Rattle.fz_sat.proofs.Rows.{all_values}
use Rattle.fz_sat.proofs.booleans.all_hold.Goals as goal

pub returns : goal.returns
returns c =
    let row = c.args.row.now in
    let s = valuation row.values.now in
    c.all_on.ensures ∙ ap (list_all (λ b. is_on (value_of row.items.now s b))) c.elements.ensures ∙ sym (all_values row.items.now s is_on (arg_elements row.items.now row.args.now c.args.place))
