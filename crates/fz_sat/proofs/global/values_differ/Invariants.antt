-- All differ where those that are left do.
use Rattle.std.proofs.Common.{◌≡◌, drop, map}
use Rattle.fz_sat.specs.Globals.{are_distinct}
use Rattle.fz_sat.specs.Satisfies.{valuation, value_of}
use Rattle.fz_sat.proofs.global.values_differ.Given as goal

abbrev pub invariant-loop-place : goal.invariant-loop-place
invariant-loop-place l = are_distinct (map (value_of l.items (valuation l.values)) (drop l.place l.elements)) ≡ are_distinct (map (value_of l.items (valuation l.values)) l.elements)
