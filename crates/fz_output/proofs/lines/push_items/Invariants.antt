use Rattle.std.proofs.Common.{◌≡◌, ◌++◌, drop}
use Rattle.std.specs.List.{flat_map}
use Rattle.fz_sat.specs.Satisfies.{valuation}
use Rattle.fz_output.specs.Output.{item_line}
use Rattle.fz_output.proofs.lines.push_items.Given as goal

abbrev pub invariant-loop-item : goal.invariant-loop-item
invariant-loop-item l =
    l.text.items ++ flat_map (item_line l.solution.items.now (valuation l.solution.values.now)) (drop l.item-index l.items)
    ≡ l.fn.text.items ++ flat_map (item_line l.solution.items.now (valuation l.solution.values.now)) l.items
