use Rattle.std.proofs.Common.{◌≡◌, ◌<◌, [], ◌∷◌, ◌++◌, length, ◌∙◌, ap, subst, arith}
use Rattle.std.proofs.lemmas.List.{length-set}
use Rattle.dp_domain.specs.States.{Domains}
use Rattle.dp_engine.specs.Trails.{Course, past_of}
use Rattle.dp_engine.proofs.TrailLaws.{changes-front, past-back}
use Rattle.dp_engine.proofs.trail.Trail.back.Goals as goal

pub returns-clause-past : goal.returns-clause-past
returns-clause-past c =
    subst (λ (t : Course). t.past ≡ past_of c.pop.new.self.items c.put_back.new.state ++ c.put_back.new.state ∷ []) c.self.view_is
    (past-back c.pop.new.self.items c.self.inside.changes.items c.in-Some.change c.self.inside.present c.put_back.new.state c.in-Some.ensures.items c.put_back.ensures.state)

pub returns-clause-var : goal.returns-clause-var
returns-clause-var c =
    let below : c.in-Some.change.var < length c.self.inside.present =
    (changes-front c.pop.new.self.items c.self.inside.changes.items c.in-Some.change (length c.self.inside.present) c.in-Some.ensures.items c.self.invariant).1 in
    let count : length c.put_back.new.state ≡ length c.self.inside.present =
    ap (λ (d : Domains). length d) c.put_back.ensures.state ∙ length-set c.self.inside.present c.in-Some.change.var c.in-Some.change.set in
    let same = c.put_back.ensures.var in
    omega arith
