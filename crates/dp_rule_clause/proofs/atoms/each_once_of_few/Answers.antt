-- An atom is kept where it is none of those kept, and there is room for it.
use Rattle.std.proofs.Common.{◌≡◌, Bool, false, true, take, ap, arith, ◌∙◌}
use Rattle.dp_rule_clause.specs.Nogoods.{has_atom}
use Rattle.dp_rule_clause.proofs.AtomSteps.{found_in_kept, kept_new, kept_there, length-kept}
use Rattle.dp_rule_clause.proofs.atoms.each_once_of_few.Goals as goal
use Rattle.dp_rule_clause.proofs.atoms.each_once_of_few.Goals.{then-not-has_atom, else-not-has_atom}

pub push_reserved-requires : goal.push_reserved-requires
push_reserved-requires c = (
  omega arith,
  let k = length-kept c.args.atoms.now c.loop-atom.atom-index 4 c.loop-atom.kept.items c.loop-atom-test.true c.requires c.loop-atom.invariant.0 in
      omega (arith, k, c.loop-atom.invariant.1),
)

pub loop-atom-preserved : goal.loop-atom-preserved
loop-atom-preserved c =
    let found : (t : Bool) → c.has_atom.result ≡ t → has_atom (take c.loop-atom.atom-index c.args.atoms.now) c.atom-item.result ≡ t = λ t. found_in_kept (take c.loop-atom.atom-index c.args.atoms.now) c.loop-atom.kept.items c.atom-item.result c.has_atom.result t c.loop-atom.invariant.0 (c.has_atom.ensures ∙ ap (λ atoms. has_atom atoms c.atom-item.result) c.as_slice.ensures) in
    elim c.if-not-has_atom.branch [
      | then-not-has_atom w ↦ rw w.kept-is (
        w.push_reserved.ensures.items ∙ kept_new c.args.atoms.now c.loop-atom.atom-index c.atom-item.result c.loop-atom.kept.items c.loop-atom-test.true c.atom-item.is c.loop-atom.invariant.0 (found false w.if-not-has_atom.true),
        w.push_reserved.ensures.capacity ∙ c.loop-atom.invariant.1,
      )
      | else-not-has_atom w ↦ rw w.kept-is (
        kept_there c.args.atoms.now c.loop-atom.atom-index c.atom-item.result c.loop-atom.kept.items c.loop-atom-test.true c.atom-item.is c.loop-atom.invariant.0 (found true w.if-not-has_atom.false),
        c.loop-atom.invariant.1,
      )
    ]
