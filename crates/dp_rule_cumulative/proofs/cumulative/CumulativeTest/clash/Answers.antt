-- The starts of the tasks are of a state that covers their scope, and their parts show the overload.
use Rattle.std.proofs.Common.{◌≡◌, Bool, true, false, length, sym, ◌∙◌, ap, subst}
use Rattle.std.specs.Prelude.{◌||◌}
use Rattle.dp_domain.proofs.TermLaws.{terms_covered}
use Rattle.dp_domain.specs.Faces.{Covers}
use Rattle.dp_domain.specs.States.{is_dead}
use Rattle.dp_domain.specs.Terms.{AreTermsOf}
use Rattle.dp_rule_cumulative.specs.Profiles.{is_exceeded, parts_of}
use Rattle.dp_rule_cumulative.specs.Schedules.{Schedule, scope_of, starts}
use Rattle.dp_rule_cumulative.specs.TimeTable.{has_overload, test_cumulative}
use Rattle.dp_rule_cumulative.proofs.ProfileLaws.{exceeded-is}
use Rattle.dp_rule_cumulative.proofs.cumulative.CumulativeTest.clash.Goals as goal
use Rattle.dp_rule_cumulative.proofs.cumulative.CumulativeTest.clash.Goals.{then-dead, else-dead}

pub parts_of-requires : goal.parts_of-requires
parts_of-requires c =
    let q : Schedule = record { tasks = c.self.inside.tasks.items; capacity = c.self.inside.capacity } in
    subst (λ ks. AreTermsOf (length c.args.state.now) (starts ks)) (sym c.as_slice.ensures.value)
    (terms_covered c.args.state.now (starts q.tasks) (subst (λ (q : Schedule). Covers (scope_of q) c.args.state.now) (sym c.self.view_is) c.requires))

first_true : (a b : Bool) → a ≡ true → a ≡ (a || b)
first_true a b e = e ∙ sym (ap (λ c. c || b) e)

second : (a b : Bool) → a ≡ false → b ≡ (a || b)
second a b e = ap (λ c. c || b) (sym e)

pub returns : goal.returns
returns c =
    let q : Schedule = record { tasks = c.self.inside.tasks.items; capacity = c.self.inside.capacity } in
    let d = c.args.state.now in
    subst (λ (q : Schedule). c.if-dead.result ≡ test_cumulative q d) c.self.view_is (elim c.if-dead.branch [
      | then-dead w ↦ w.result-is ∙ c.dead.ensures ∙ first_true (is_dead d) (has_overload q.capacity q.tasks d) (sym c.dead.ensures ∙ w.if-dead.true)
      | else-dead w ↦ w.result-is ∙ w.is_exceeded.ensures
          ∙ ap (is_exceeded q.capacity) (w.as_slice-else-dead.ensures.value ∙ c.in_ok-parts.ensures ∙ ap (parts_of d) c.as_slice.ensures.value)
          ∙ exceeded-is q.capacity d q.tasks ∙ second (is_dead d) (has_overload q.capacity q.tasks d) (sym c.dead.ensures ∙ w.if-dead.false)
    ])
