-- An atom is kept where the set has not had it.
use Rattle.std.proofs.Common.{◌≡◌, Bool, true, false, not, take, ◌∙◌}
use Rattle.dp_rule_clause.specs.Nogoods.{has_atom}
use Rattle.dp_rule_clause.proofs.AtomSteps.{had_by, kept_new, kept_there, seen_next}
use Rattle.dp_rule_clause.proofs.OrderSteps.{order_ties}
use Rattle.dp_rule_clause.proofs.atoms.each_once_of_many.Goals as goal
use Rattle.dp_rule_clause.proofs.atoms.each_once_of_many.Goals.{then-branch+in_ok-push, else-branch}

pub loop-atom-preserved : goal.loop-atom-preserved
loop-atom-preserved c =
    let i = c.loop-atom.atom-index in
    let a = c.atom-item.result in
    let had : (t : Bool) → c.in_ok-insert.field-0 ≡ t → has_atom (take c.loop-atom.atom-index c.args.atoms.now) c.atom-item.result ≡ not t =
    λ t. had_by c.in_ok-insert.field-0 _ (has_atom (take c.loop-atom.atom-index c.args.atoms.now) c.atom-item.result) t c.in_ok-insert.ensures.added (c.loop-atom.invariant.1 c.atom-item.result)
    in (
      elim c.if-branch.branch [
        | then-branch+in_ok-push w ↦ rw w.kept-is (w.in_ok-push.ensures.ok ∙ kept_new c.args.atoms.now i a c.loop-atom.kept.items c.loop-atom-test.true c.atom-item.is c.loop-atom.invariant.0 (had true w.if-branch.true))
        | else-branch w ↦ rw w.kept-is (kept_there c.args.atoms.now i a c.loop-atom.kept.items c.loop-atom-test.true c.atom-item.is c.loop-atom.invariant.0 (had false w.if-branch.false))
      ],
      seen_next c.args.atoms.now i a _ _ _ c.loop-atom-test.true c.atom-item.is (order_ties c.atom-item.result) c.in_ok-insert.ensures.updates.0 c.loop-atom.invariant.1,
    )
