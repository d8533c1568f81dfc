-- Intervals that are apart are maximal as they stand.
use Rattle.std.proofs.Common.{subst, sym}
use Rattle.dp_base.specs.Lists.{Each}
use Rattle.dp_domain.specs.Sets.{AreApart, HasSmallEnds}
use Rattle.dp_domain.proofs.intervals.merged.Goals as goal

pub are_apart-requires : goal.are_apart-requires
are_apart-requires c = subst (Each HasSmallEnds) (sym c.as_slice.ensures) c.requires

pub returns-then-are_apart-clause-maximal : goal.returns-then-are_apart-clause-maximal
returns-then-are_apart-clause-maximal c = record { apart = subst AreApart c.as_slice.ensures (c.are_apart.ensures c.if-are_apart.true); small = c.requires }

pub returns-then-are_apart-clause-same : goal.returns-then-are_apart-clause-same
returns-then-are_apart-clause-same c = record { only = λ v r. r; all = λ v r. r }
