use Rattle.std.proofs.Common.{◌≡◌, ◌+◌, ◌-◌, ◌++◌, map}
use Rattle.std.specs.List.{range_with_len}
use Rattle.dp_gen.specs.Family.{declares, text_of, variables}
use Rattle.dp_gen.proofs.TextLemmas.{declared}
use Rattle.dp_gen.proofs.model.push_declarations.Given as goal

abbrev pub invariant-loop-k : goal.invariant-loop-k
invariant-loop-k l =
    l.text.items ++ declared (range_with_len l.k (l.n + 1 - l.k)) ≡ l.fn.text.items ++ text_of (map declares (variables l.n))
