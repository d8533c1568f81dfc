-- A crowd is found in any order.
use Rattle.std.proofs.Common.{◌∙◌, ap, sym, subst}
use Rattle.dp_base.specs.Lists.{Each}
use Rattle.dp_rule_alldiff.specs.Spans.{IsSpan, has_crowd}
use Rattle.dp_rule_alldiff.proofs.SpanSteps.{has_crowd_same, spans_same}
use Rattle.dp_rule_alldiff.proofs.spans.has_crowd.Goals as goal

pub finds_crowd-requires-clause-spans : goal.finds_crowd-requires-clause-spans
finds_crowd-requires-clause-spans c =
    subst (λ ss. Each IsSpan ss) (sym c.deref.ensures.value) (spans_same c.args.spans.items c.in_order-ordered.result.items c.in_order-ordered.ensures.same c.requires)

pub returns : goal.returns
returns c = c.finds_crowd.ensures ∙ ap has_crowd c.deref.ensures.value ∙ has_crowd_same c.args.spans.items c.in_order-ordered.result.items c.in_order-ordered.ensures.same c.requires
