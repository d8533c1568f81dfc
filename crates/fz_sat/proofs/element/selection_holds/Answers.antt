-- The entry of the values is the value of the entry.
use Rattle.std.proofs.Common.{◌∙◌, sym, arith}
use Rattle.std.proofs.lemmas.Int.{ints}
use Rattle.fz_sat.specs.Args.{arg_elements}
use Rattle.fz_sat.specs.Meaning.{given}
use Rattle.fz_sat.specs.Satisfies.{valuation}
use Rattle.fz_sat.proofs.Rows.{not_selected, selected}
use Rattle.fz_sat.proofs.element.selection_holds.Goals as goal

pub returns-in-Some : goal.returns-in-Some
returns-in-Some c =
    let row = c.args.row.now in
    let s = valuation row.values.now in
    let g = given row.items.now row.args.now s in
    c.equals.ensures ∙ selected row.items.now s c.elements.result.now (arg_elements row.items.now row.args.now 1) (g.number 0) _ (g.number 2) c.in-Some.entry c.elements.ensures (omega (arith, ints, c.number.ensures, c.number.type_inv)) (sym c.in-Some.is ∙ c.entry_at.ensures)

pub returns-in-None : goal.returns-in-None
returns-in-None c =
    let row = c.args.row.now in
    let s = valuation row.values.now in
    let g = given row.items.now row.args.now s in
    not_selected row.items.now s c.elements.result.now (arg_elements row.items.now row.args.now 1) (g.number 0) _ (g.number 2) c.elements.ensures (omega (arith, ints, c.number.ensures, c.number.type_inv)) (sym c.in-None.is ∙ c.entry_at.ensures)
