use Rattle.std.proofs.Common.{ap, ◌==◌, ◌∙◌, rules}
use Rattle.fz_items.proofs.Sizes.{fits_is}
use Rattle.fz_items.proofs.arrays.fits.Goals as goal

pub returns-then-not-is_empty : goal.returns-then-not-is_empty
returns-then-not-is_empty c = ap (λ n. n == c.args.count) c.size.ensures ∙ fits_is c.args.count c.args.ranges.now (search rules) (search rules)
