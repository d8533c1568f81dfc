-- One position more.
use Rattle.std.proofs.Common.{◌++◌, [], ◌∷◌, ap, sym, ◌∙◌}
use Rattle.dp_rule_alldiff.specs.Spans.{spans_of}
use Rattle.dp_rule_alldiff.proofs.SpanSteps.{spans_more}
use Rattle.dp_rule_alldiff.proofs.spans.spans.Goals as goal

pub loop-term-preserved : goal.loop-term-preserved
loop-term-preserved c =
    c.in_ok-push_span.ensures
    ∙ ap (λ ss. ss ++ spans_of c.args.state.now (c.term-item.result ∷ [])) c.loop-term.invariant
    ∙ sym (spans_more c.args.state.now c.args.terms.now c.loop-term.term-index c.term-item.result c.loop-term-test.true c.term-item.is)
