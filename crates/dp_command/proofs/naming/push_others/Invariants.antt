use Rattle.std.proofs.Common.{◌≡◌, ◌++◌, drop}
use Rattle.std.specs.Prelude.{codes}
use Rattle.std.specs.List.{flat_map}
use Rattle.dp_domain.specs.States.{AreOf}
use Rattle.dp_command.specs.Named.{named_atom}
use Rattle.dp_command.proofs.naming.push_others.Given as goal

abbrev pub invariant-loop-atom : goal.invariant-loop-atom
invariant-loop-atom l = record {
  text :
      l.text.items ++ flat_map (λ b. codes " & " ++ named_atom l.problem b) (drop l.atom-index l.atoms)
      ≡ l.fn.text.items ++ flat_map (λ b. codes " & " ++ named_atom l.problem b) l.atoms;
  known : AreOf l.problem.initial (drop l.atom-index l.atoms);
}
