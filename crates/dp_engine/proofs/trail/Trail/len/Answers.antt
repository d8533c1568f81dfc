use Rattle.std.proofs.Common.{◌≡◌, length, subst, arith}
use Rattle.dp_engine.specs.Trails.{Course}
use Rattle.dp_engine.proofs.TrailLaws.{length-past}
use Rattle.dp_engine.proofs.trail.Trail.len.Goals as goal

pub returns : goal.returns
returns c =
    let count = length-past c.self.inside.changes.items c.self.inside.present in
    subst (λ (t : Course). c.len.result ≡ length t.past) c.self.view_is (omega arith)
