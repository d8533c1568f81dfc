use Rattle.std.proofs.Common.{◌≡◌, ◌+◌, ◌-◌, ◌++◌, map}
use Rattle.std.specs.List.{range_with_len}
use Rattle.dp_gen.specs.Family.{clauses, constrains, text_of}
use Rattle.dp_gen.proofs.TextLemmas.{constrained}
use Rattle.dp_gen.proofs.model.push_clauses.Given as goal

abbrev pub invariant-loop-k : goal.invariant-loop-k
invariant-loop-k l =
    l.text.items ++ constrained l.n (range_with_len l.k (l.n + 1 - l.k)) ≡ l.fn.text.items ++ text_of (map constrains (clauses l.n))
