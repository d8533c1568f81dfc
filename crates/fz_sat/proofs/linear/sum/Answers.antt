-- The sum of the values is that of the elements.
use Rattle.std.proofs.Common.{◌∙◌, ap, sym, rules}
use Rattle.std.proofs.lemmas.Int.{to_z-of_z}
use mir.Syntax.{w128}
use Rattle.fz_sat.specs.Args.{arg_elements}
use Rattle.fz_sat.specs.Satisfies.{valuation}
use Rattle.fz_sat.specs.Sums.{sum_of_products}
use Rattle.fz_sat.proofs.Sums.{weighted_sum-elements}
use Rattle.fz_sat.proofs.Wides.{lies_same}
use Rattle.fz_sat.proofs.linear.sum.Goals as goal

pub returns : goal.returns
returns c =
    let row = c.args.row.now in
    let s = valuation row.values.now in
    let first = arg_elements row.items.now row.args.now 0 in
    let second = arg_elements row.items.now row.args.now 1 in
    let whole = c.sum_of_products.ensures.sum ∙ ap (λ bs. sum_of_products row.items.now s bs c.elements-2.result.now) c.elements.ensures ∙ ap (sum_of_products row.items.now s first) c.elements-2.ensures ∙ sym (weighted_sum-elements row.items.now s first second) in
    lies_same c.clamped.result _ _ _ (sym (to_z-of_z w128 c.clamped.result (search rules))) whole c.clamped.ensures
