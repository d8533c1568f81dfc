use Rattle.std.proofs.Common.{◌≡◌, ◌++◌, drop}
use Rattle.std.specs.List.{flat_map}
use Rattle.fz_output.specs.Output.{range_text}
use Rattle.fz_output.proofs.arrays.push_ranges.Given as goal

abbrev pub invariant-loop-range : goal.invariant-loop-range
invariant-loop-range l =
    l.text.items ++ flat_map range_text (drop l.range-index l.ranges)
    ≡ l.fn.text.items ++ flat_map range_text l.ranges
