-- The reasons in the order of the variables.
use Rattle.std.proofs.Common.{false, true, ap, sym, ◌∙◌}
use Rattle.std.proofs.lemmas.Option.{same_Some}
use Rattle.dp_domain.specs.Atoms.{Atomic}
use Rattle.dp_rule_clause.specs.Restrictions.{Restriction}
use Rattle.dp_rule_clause.proofs.RestrictionSteps.{before_by, reasons_after, reasons_alone, reasons_before}
use Rattle.dp_rule_clause.proofs.reasons.restriction_reasons.Goals as goal
use Rattle.dp_rule_clause.proofs.reasons.restriction_reasons.Goals.{in-None+in_ok-push_within-in-None, in-Some+in_ok-push_against-in-Some+in_ok-push_within-in-Some, in-Some-2+in_ok-push_within-in-Some-2+in_ok-push_against-in-Some-2}

pub returns-clause-reasons : goal.returns-clause-reasons
returns-clause-reasons c =
    let q : Restriction = record { condition = c.args.cond.now; var = c.args.var; set = c.args.set.now } in
    elim c.match-cond.branch [
      | in-None+in_ok-push_within-in-None w ↦ rw w.why-is (reasons_alone q c.args.target.now c.args.initial.now c.args.now.now _ _ w.in-None.is c.new-why.ensures.items w.in_ok-push_within-in-None.ensures.reasons)
      | in-Some+in_ok-push_against-in-Some+in_ok-push_within-in-Some w ↦
          rw w.why-is (reasons_after q w.in-Some.atom c.args.target.now c.args.initial.now c.args.now.now _ _ _ c.requires.apart w.in-Some.is (before_by w.in-Some.atom.var c.args.var _ _ true w.var.ensures w.lt.ensures w.if-lt.true) c.new-why.ensures.items w.in_ok-push_against-in-Some.ensures.reasons w.in_ok-push_within-in-Some.ensures.reasons)
      | in-Some-2+in_ok-push_within-in-Some-2+in_ok-push_against-in-Some-2 w ↦
          rw w.why-is (reasons_before q w.in-Some-2.atom c.args.target.now c.args.initial.now c.args.now.now _ _ _ c.requires.apart w.in-Some-2.is (before_by w.in-Some-2.atom.var c.args.var _ _ false (w.var.ensures ∙ ap (λ (a : Atomic). a.var) (same_Some w.in-Some.atom w.in-Some-2.atom (sym w.in-Some.is ∙ w.in-Some-2.is))) w.lt.ensures w.if-lt.false) c.new-why.ensures.items w.in_ok-push_within-in-Some-2.ensures.reasons w.in_ok-push_against-in-Some-2.ensures.reasons)
    ]
