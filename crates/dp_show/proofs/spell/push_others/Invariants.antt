use Rattle.std.proofs.Common.{◌≡◌, ◌++◌, drop}
use Rattle.std.specs.Prelude.{codes}
use Rattle.std.specs.List.{flat_map}
use Rattle.dp_show.specs.Named.{literal_text}
use Rattle.dp_show.proofs.spell.push_others.Given as goal

abbrev pub invariant-loop-literal : goal.invariant-loop-literal
invariant-loop-literal l =
    l.text.items ++ flat_map (λ m. codes " & " ++ literal_text l.atoms.entries m) (drop l.literal-index l.literals)
    ≡ l.fn.text.items ++ flat_map (λ m. codes " & " ++ literal_text l.atoms.entries m) l.literals
