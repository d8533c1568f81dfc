-- The opposite of a sum is as large as the sum.
use Rattle.std.proofs.Common.{ℕ, ℤ, ◌^◌, subst, sym}
use Rattle.dp_base.specs.Lists.{Each}
use Rattle.dp_rule_linear.specs.Forms.{IsBounded}
use Rattle.dp_lower.specs.Merged.{IsMerged}
use Rattle.dp_lower.specs.Sums.{Sum}
use Rattle.dp_lower.specs.contracts.sum.LinearSum.{the_view}
use Rattle.dp_lower.proofs.MergeLaws.{merged_words, negated_read}
use Rattle.dp_lower.proofs.sum.LinearSum.negated.Goals as goal

pub negated-requires : goal.negated-requires
negated-requires c = subst (λ (q : Sum). Each (λ (t : ℤ × ℕ). IsBounded (10 ^ 16) t.0) q.terms) (sym c.self.view_is) (merged_words c.args.self.now c.requires)

pub returns-clause-merged : goal.returns-clause-merged
returns-clause-merged c = negated_read (the_view c.self.inside) c.in_ok-terms.terms.items (subst (IsMerged 2000000) (sym c.self.view_is) c.requires) c.in_ok-terms.ensures
