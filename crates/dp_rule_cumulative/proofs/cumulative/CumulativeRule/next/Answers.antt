-- The starts of the tasks are of a state that covers their scope, and each variable is one start where there are as many as in the scope.
use Rattle.std.proofs.Common.{length, sym, ◌∙◌, ap, subst}
use Rattle.dp_domain.proofs.TermLaws.{terms_covered}
use Rattle.dp_domain.specs.Faces.{Covers}
use Rattle.dp_domain.specs.Terms.{AreTermsOf, term_variables}
use Rattle.dp_rule_cumulative.specs.Profiles.{AreDistinct}
use Rattle.dp_rule_cumulative.specs.Schedules.{Schedule, scope_of, starts}
use Rattle.dp_rule_cumulative.proofs.FirstLaws.{distinct-from_length}
use Rattle.dp_rule_cumulative.proofs.cumulative.CumulativeRule.next.Goals as goal

pub turn-requires-clause-starts : goal.turn-requires-clause-starts
turn-requires-clause-starts g c =
    let q : Schedule = record { tasks = c.self.inside.tasks.items; capacity = c.self.inside.capacity } in
    subst (λ ks. AreTermsOf (length c.args.state.now) (starts ks)) (sym c.as_slice-2.ensures.value)
    (terms_covered c.args.state.now (starts q.tasks) (subst (λ (q : Schedule). Covers (scope_of q) c.args.state.now) (sym c.self.view_is) c.requires.covers))

pub turn-requires-clause-distinct : goal.turn-requires-clause-distinct
turn-requires-clause-distinct g c =
    let q : Schedule = record { tasks = c.self.inside.tasks.items; capacity = c.self.inside.capacity } in
    subst (λ ks. AreDistinct (term_variables (starts ks))) (sym c.as_slice-2.ensures.value)
    (distinct-from_length (term_variables (starts q.tasks))
    (ap (λ (q : Schedule). length (scope_of q)) c.self.view_is ∙ sym c.scope_len.ensures ∙ sym c.if-variable_count-scope_len.false ∙ c.variable_count.ensures ∙ ap (λ ks. length (term_variables (starts ks))) c.as_slice.ensures.value))
