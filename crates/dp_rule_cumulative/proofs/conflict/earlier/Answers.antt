-- An edge without room adds its first time.
use Rattle.std.proofs.Common.{◌∙◌, sym, ap, FitsSigned, rules}
use Rattle.std.specs.Int.{int_min}
use Rattle.std.specs.Option.{option_map_or}
use Rattle.std.proofs.lemmas.Int.{to_z-of_z}
use mir.Syntax.{w128}
use Rattle.dp_rule_cumulative.specs.Profiles.{lacks_room}
use Rattle.dp_rule_cumulative.proofs.ConflictSteps.{earlier_found}
use Rattle.dp_rule_cumulative.proofs.conflict.earlier.Goals as goal

pub returns-then-lacks_room : goal.returns-then-lacks_room
returns-then-lacks_room c = λ times g.
    let start : FitsSigned w128 c.args.edge.now.start = search rules in
    let found : FitsSigned w128 c.lesser.result = search rules in
    earlier_found c.args.demand.now c.args.edge.now times c.args.found _
    (sym (c.lacks_room.ensures ∙ ap (λ t. lacks_room c.args.demand.now t c.args.edge.now.at_start) (to_z-of_z w128 _ start)) ∙ c.if-lacks_room.true)
    (to_z-of_z w128 _ found ∙ c.lesser.ensures ∙ ap (λ t. option_map_or (λ s. int_min s t) c.args.found t) (to_z-of_z w128 _ start))
    g
