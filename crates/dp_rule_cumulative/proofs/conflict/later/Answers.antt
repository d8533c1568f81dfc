-- An edge without room adds its last time.
use Rattle.std.proofs.Common.{◌∙◌, sym, ap, FitsSigned, rules}
use Rattle.std.specs.Int.{int_max}
use Rattle.std.specs.Option.{option_map_or}
use Rattle.std.proofs.lemmas.Int.{to_z-of_z}
use mir.Syntax.{w128}
use Rattle.dp_rule_cumulative.specs.Profiles.{lacks_room}
use Rattle.dp_rule_cumulative.proofs.ConflictSteps.{later_found}
use Rattle.dp_rule_cumulative.proofs.conflict.later.Goals as goal

pub returns-then-lacks_room : goal.returns-then-lacks_room
returns-then-lacks_room c = λ times g.
    let last : FitsSigned w128 c.args.edge.now.last = search rules in
    let found : FitsSigned w128 c.greater.result = search rules in
    later_found c.args.demand.now c.args.edge.now times c.args.found _
    (sym (c.lacks_room.ensures ∙ ap (λ t. lacks_room c.args.demand.now t c.args.edge.now.at_last) (to_z-of_z w128 _ last)) ∙ c.if-lacks_room.true)
    (to_z-of_z w128 _ found ∙ c.greater.ensures ∙ ap (λ t. option_map_or (λ s. int_max s t) c.args.found t) (to_z-of_z w128 _ last))
    g
