-- A test of some value is one of some element.
use Rattle.std.proofs.Common.{◌∙◌, ap, sym}
use Rattle.std.specs.List.{list_any}
use Rattle.fz_sat.specs.Args.{arg_elements}
use Rattle.fz_sat.specs.Meaning.{is_on}
use Rattle.fz_sat.specs.Satisfies.{valuation, value_of}
use Rattle.fz_sat.proofs.Rows.{any_values}
use Rattle.fz_sat.proofs.booleans.some_holds.Goals as goal

pub returns : goal.returns
returns c =
    let row = c.args.row.now in
    let s = valuation row.values.now in
    c.some_on.ensures ∙ ap (list_any (λ b. is_on (value_of row.items.now s b))) c.elements.ensures ∙ sym (any_values row.items.now s is_on (arg_elements row.items.now row.args.now c.args.place))
