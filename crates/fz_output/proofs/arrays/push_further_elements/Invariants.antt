use Rattle.std.proofs.Common.{◌≡◌, ◌++◌, drop, codes}
use Rattle.std.specs.List.{flat_map}
use Rattle.fz_sat.specs.Satisfies.{valuation}
use Rattle.fz_output.specs.Output.{element_text}
use Rattle.fz_output.proofs.arrays.push_further_elements.Given as goal

abbrev pub invariant-loop-element : goal.invariant-loop-element
invariant-loop-element l =
    l.text.items ++ flat_map (λ b. codes ", " ++ element_text l.kind l.solution.items.now (valuation l.solution.values.now) b) (drop l.element-index l.elements)
    ≡ l.fn.text.items ++ flat_map (λ b. codes ", " ++ element_text l.kind l.solution.items.now (valuation l.solution.values.now) b) l.elements
