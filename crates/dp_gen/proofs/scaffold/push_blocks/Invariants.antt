use Rattle.std.proofs.Common.{◌≡◌, ◌+◌, ◌-◌, ◌++◌}
use Rattle.std.specs.List.{flat_map, range_with_len}
use Rattle.dp_gen.specs.Family.{blocks, steps, text_of}
use Rattle.dp_gen.proofs.TextLemmas.{stepped}
use Rattle.dp_gen.proofs.scaffold.push_blocks.Given as goal

abbrev pub invariant-loop-k : goal.invariant-loop-k
invariant-loop-k l =
    l.text.items ++ stepped (range_with_len l.k (l.n + 1 - l.k)) ≡ l.fn.text.items ++ text_of (flat_map steps (blocks l.n))
