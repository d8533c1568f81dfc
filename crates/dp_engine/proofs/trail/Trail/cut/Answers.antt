use Rattle.std.proofs.Common.{◌≡◌, ℕ, List, [], ◌∷◌, ◌++◌, refl, ◌∙◌, ap, subst}
use Rattle.dp_domain.specs.States.{values}
use Rattle.dp_engine.specs.declared.change.Change.{Change}
use Rattle.dp_engine.specs.Engines.{Begins, HaveCount}
use Rattle.dp_engine.specs.Trails.{Course, all_of, past_of}
use Rattle.dp_engine.proofs.StateSteps.{begins-next, counted-next}
use Rattle.dp_engine.proofs.TrailLaws.{past-cut}
use Rattle.dp_engine.proofs.trail.Trail.cut.Goals as goal

pub returns-clause-states : goal.returns-clause-states
returns-clause-states c =
    let past = past-cut c.self.inside.changes.items c.push_reserved.new.items.items (record { var = c.var-var.result; set = c.in_ok-set.set }) c.self.inside.present c.exclude.new.self c.args.atom
    (c.push_reserved.ensures ∙ ap (λ (cs : List Change). cs ++ record { var = c.var-var.result; set = c.in_ok-set.set } ∷ []) c.reserve.ensures.items)
    c.var-var.ensures (c.in_ok-set.ensures ∙ c.set.ensures ∙ ap (λ x. values c.self.inside.present x) c.var-var.ensures) c.in_ok-exclude.ensures.kept in
    subst (λ (t : Course). Begins (all_of t) (past_of c.push_reserved.new.items.items c.exclude.new.self ++ c.exclude.new.self ∷ [])) c.self.view_is
    (begins-next (past_of c.self.inside.changes.items c.self.inside.present) (past_of c.push_reserved.new.items.items c.exclude.new.self) c.self.inside.present c.exclude.new.self past)

pub returns-clause-counts : goal.returns-clause-counts
returns-clause-counts c =
    let past = past-cut c.self.inside.changes.items c.push_reserved.new.items.items (record { var = c.var-var.result; set = c.in_ok-set.set }) c.self.inside.present c.exclude.new.self c.args.atom
    (c.push_reserved.ensures ∙ ap (λ (cs : List Change). cs ++ record { var = c.var-var.result; set = c.in_ok-set.set } ∷ []) c.reserve.ensures.items)
    c.var-var.ensures (c.in_ok-set.ensures ∙ c.set.ensures ∙ ap (λ x. values c.self.inside.present x) c.var-var.ensures) c.in_ok-exclude.ensures.kept in
    subst (λ (t : Course). (n : ℕ) → HaveCount n (all_of t) → HaveCount n (past_of c.push_reserved.new.items.items c.exclude.new.self ++ c.exclude.new.self ∷ [])) c.self.view_is
    (counted-next (past_of c.self.inside.changes.items c.self.inside.present) (past_of c.push_reserved.new.items.items c.exclude.new.self) c.self.inside.present c.exclude.new.self (c.args.atom ∷ []) past c.in_ok-exclude.ensures.kept)

pub returns-clause-past : goal.returns-clause-past
returns-clause-past c =
    let past = past-cut c.self.inside.changes.items c.push_reserved.new.items.items (record { var = c.var-var.result; set = c.in_ok-set.set }) c.self.inside.present c.exclude.new.self c.args.atom
    (c.push_reserved.ensures ∙ ap (λ (cs : List Change). cs ++ record { var = c.var-var.result; set = c.in_ok-set.set } ∷ []) c.reserve.ensures.items)
    c.var-var.ensures (c.in_ok-set.ensures ∙ c.set.ensures ∙ ap (λ x. values c.self.inside.present x) c.var-var.ensures) c.in_ok-exclude.ensures.kept in
    past ∙ ap (λ (t : Course). t.past ++ t.present ∷ []) c.self.view_is
