-- The scope is that of the starts of the tasks.
use Rattle.std.proofs.Common.{◌∙◌, ap, arith, length, sym}
use Rattle.dp_domain.specs.Terms.{term_scope}
use Rattle.dp_rule_cumulative.specs.Schedules.{starts}
use Rattle.dp_rule_cumulative.proofs.MadeSteps.{starts_made}
use Rattle.dp_rule_cumulative.proofs.cumulative.Cumulative.new.Goals as goal

pub invariant_of-result : goal.invariant_of-result
invariant_of-result c =
    let even = c.in_ok-check.ensures.proper.even in
    let ss = ap length (c.deref.ensures.value ∙ sym c.deref-4.ensures.value) in
    let ds = ap length (c.deref-2.ensures.value ∙ sym c.deref-5.ensures.value) in
    let us = ap length (c.deref-3.ensures.value ∙ sym c.deref-6.ensures.value) in
    c.in_ok-scope.ensures
    ∙ ap term_scope (c.deref-7.ensures.value ∙ sym c.deref-4.ensures.value ∙ sym (ap starts c.in_ok-tasks.ensures
    ∙ starts_made c.deref-4.result.now c.deref-5.result.now c.deref-6.result.now (omega (arith, even.durations, ss, ds)) (omega (arith, even.uses, ss, us))))
