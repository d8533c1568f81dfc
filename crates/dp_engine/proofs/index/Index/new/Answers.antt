use Rattle.std.proofs.Common.{List, length, map, sym, ◌∙◌, ap, subst}
use Rattle.dp_domain.specs.States.{Domains}
use Rattle.dp_parts.specs.Problems.{posed}
use Rattle.dp_engine.specs.Placed.{AreSound, Placed, turn_order}
use Rattle.dp_engine.specs.Rosters.{placed_at}
use Rattle.dp_engine.proofs.PlacedLaws.{problem-sound}
use Rattle.dp_engine.proofs.SeenLaws.{entries-parts}
use Rattle.dp_engine.proofs.index.Index.new.Goals as goal

pub all_occurrences-requires-clause-sound : goal.all_occurrences-requires-clause-sound
all_occurrences-requires-clause-sound c =
    let parts = entries-parts c.args.problem.now (map (λ e. (e.id, e.part.now)) c.as_slice.result.now) c.args.nogoods.now (ap (λ es. map placed_at (map (λ e. (e.id, e.part.now)) es)) c.as_slice.ensures.value ∙ c.in_ok-model.ensures) in
    let count = c.len-variables.ensures.count ∙ ap (λ (d : Domains). length d) c.initial.ensures.state in
    subst (λ (qs : List Placed). AreSound c.len-variables.result qs) (sym parts)
    (subst (λ n. AreSound n (turn_order (posed c.args.problem.now) c.args.nogoods.now)) (sym count)
    (problem-sound c.args.problem.now c.args.nogoods.now c.initial.ensures.problem c.requires.nogoods))
