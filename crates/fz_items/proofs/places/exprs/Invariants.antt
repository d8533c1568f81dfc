use Rattle.std.proofs.Common.{◌≡◌, map, take}
use Rattle.fz_items.specs.Arguments.{arg_words}
use Rattle.fz_items.specs.Places.{expr_in, names_in}
use Rattle.fz_items.proofs.places.exprs.Given as goal

abbrev pub invariant-loop-arg : goal.invariant-loop-arg
invariant-loop-arg l = l.exprs.items ≡ map (expr_in (names_in l.names)) (map arg_words (take l.arg-index l.args))
