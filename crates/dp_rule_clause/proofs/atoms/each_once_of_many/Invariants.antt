-- The atoms so far, each once, are in the set, and no others.
use Rattle.std.proofs.Common.{◌≡◌, take}
use Rattle.std.specs.BTreeSet.{contains}
use Rattle.dp_domain.specs.Atoms.{Atomic}
use Rattle.dp_domain.specs.contracts.atom.AtomOrd.TheImpl as order
use Rattle.dp_rule_clause.specs.Nogoods.{each_once, has_atom}
use Rattle.dp_rule_clause.proofs.atoms.each_once_of_many.Given as goal

abbrev pub invariant-loop-atom : goal.invariant-loop-atom
invariant-loop-atom l =
    (l.kept.items ≡ each_once (take l.atom-index l.atoms)) × ((a : Atomic) → contains order.ghosts.cmp l.seen a ≡ has_atom (take l.atom-index l.atoms) a)
