use Rattle.std.proofs.Common.{◌<◌}
use Rattle.dp_base.specs.Lists.{Each}
use Rattle.dp_search_tests.proofs.writer_tests.atoms_of.Given as goal

abbrev pub invariant-loop-used : goal.invariant-loop-used
invariant-loop-used l = Each (λ a. a.var < 4) l.atoms.items
