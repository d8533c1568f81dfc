-- Spans in order tell what the spans tell, and their tight intervals give what the part gives.
use Rattle.std.proofs.Common.{Some, None, subst, sym, ◌∙◌}
use Rattle.dp_domain.specs.Faces.{Covers}
use Rattle.dp_domain.proofs.TermLaws.{terms_covered}
use Rattle.dp_rule_alldiff.proofs.GivenLaws.{clash_found, ordered_spans, turn_found}
use Rattle.dp_rule_alldiff.proofs.turn.found.Goals as goal

pub spans-requires : goal.spans-requires
spans-requires c = terms_covered c.args.state.now c.args.terms.now (subst (λ scope. Covers scope c.args.state.now) c.requires.scope c.requires.covers)

pub finds_crowd-requires-clause-spans : goal.finds_crowd-requires-clause-spans
finds_crowd-requires-clause-spans c = ordered_spans c.args.terms.now c.args.state.now _ _ _ c.in_ok-spans.ensures c.in_order-spans.ensures.same c.deref.ensures.value

pub tight_intervals-requires-clause-spans : goal.tight_intervals-requires-clause-spans
tight_intervals-requires-clause-spans c = ordered_spans c.args.terms.now c.args.state.now _ _ _ c.in_ok-spans.ensures c.in_order-spans.ensures.same c.deref-2.ensures.value

pub returns-then-finds_crowd : goal.returns-then-finds_crowd
returns-then-finds_crowd c = clash_found c.args.terms.now c.args.state.now _ _ _ c.in_ok-spans.ensures c.in_order-spans.ensures.same c.deref.ensures.value (sym c.finds_crowd.ensures ∙ c.if-finds_crowd.true)

pub returns-in-Some : goal.returns-in-Some
returns-in-Some c =
    turn_found c.args.terms.now c.args.state.now _ _ _ _ _ _ c.args.scope.now (Some c.in-Some.atom) c.requires.scope c.requires.once c.requires.covers c.requires.alive c.in_ok-spans.ensures c.in_order-spans.ensures.same
    c.deref.ensures.value c.deref-2.ensures.value (sym c.finds_crowd.ensures ∙ c.if-finds_crowd.false) c.in_ok-tight.ensures.from c.in_ok-tight.ensures.to c.in-Some.ensures

pub returns : goal.returns
returns c =
    turn_found c.args.terms.now c.args.state.now _ _ _ _ _ _ c.args.scope.now None c.requires.scope c.requires.once c.requires.covers c.requires.alive c.in_ok-spans.ensures c.in_order-spans.ensures.same
    c.deref.ensures.value c.deref-2.ensures.value (sym c.finds_crowd.ensures ∙ c.if-finds_crowd.false) c.in_ok-tight.ensures.from c.in_ok-tight.ensures.to c.in-None.ensures
