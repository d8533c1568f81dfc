-- The terms of a covered scope are of the state, and their spans are spans.
use Rattle.std.proofs.Common.{length, sym, subst, ◌∙◌}
use Rattle.dp_base.specs.Lists.{Each}
use Rattle.dp_domain.specs.Terms.{AreTermsOf}
use Rattle.dp_domain.proofs.TermLaws.{terms_covered}
use Rattle.dp_rule_alldiff.specs.SpanLaws.{spans_ordered}
use Rattle.dp_rule_alldiff.specs.Spans.{IsSpan}
use Rattle.dp_rule_alldiff.proofs.all_diff.AllDiffTest.clash.Goals as goal

pub spans-requires : goal.spans-requires
spans-requires c = subst (λ terms. AreTermsOf (length c.args.state.now) terms) (sym (c.deref.ensures.value ∙ c.self.view_is)) (terms_covered c.args.state.now c.args.self.now c.requires)

pub has_crowd-requires : goal.has_crowd-requires
has_crowd-requires c = subst (λ ss. Each IsSpan ss) (sym c.in_ok-spans.ensures) (spans_ordered c.args.state.now c.deref.result.now)
