use Rattle.std.proofs.Common.{◌≡◌, ◌+◌, ◌++◌, length, map, subst, arith, length-append}
use Rattle.dp_engine.specs.Rosters.{Listed, all_placed}
use Rattle.dp_engine.proofs.RosterLaws.{length-placed}
use Rattle.dp_engine.proofs.roster.Roster.len.Goals as goal

pub returns : goal.returns
returns c =
    let count = length-placed c.self.inside.model.now (λ e. (e.id, e.part.now)) (c.self.inside.given.now ++ c.self.inside.added.items) in
    let both = length-append c.self.inside.given.now c.self.inside.added.items in
    subst (λ (l : Listed). length c.self.inside.model.now + (length c.self.inside.given.now + c.len.result) ≡ length (all_placed l)) c.self.view_is (omega arith)
