-- The sum so far, with what is left, is the whole.
use Rattle.fz_sat.specs.Satisfies.{valuation}
use Rattle.fz_sat.proofs.Sums.{IsSumSoFar}
use Rattle.fz_sat.proofs.linear.sum_of_products.Given as goal

abbrev pub invariant-loop-place : goal.invariant-loop-place
invariant-loop-place l = IsSumSoFar l.row.items.now (valuation l.row.values.now) l.first l.second l.place l.sum
