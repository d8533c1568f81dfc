-- The last time of the demand, or of a part.
use Rattle.std.proofs.Common.{◌≡◌, false, ◌∙◌, sym, ap, subst, FitsSigned, rules}
use Rattle.std.proofs.lemmas.Int.{to_z-of_z}
use mir.Syntax.{w128}
use Rattle.dp_domain.specs.Sets.{greatest}
use Rattle.dp_rule_cumulative.specs.Profiles.{IsLast, conflicts, ends_in, lacks_room, used_at}
use Rattle.dp_rule_cumulative.proofs.ConflictLaws.{last-of_ends}
use Rattle.dp_rule_cumulative.proofs.conflict.last_conflict.Goals as goal

pub returns : goal.returns
returns c =
    let w = c.args.demand.now in
    let ps = c.args.profile.now in
    let last : FitsSigned w128 w.last = search rules in
    let calm : conflicts w ps w.last ≡ false =
    sym (c.lacks_room.ensures
    ∙ ap (λ t. lacks_room w t c.used_at.result) (to_z-of_z w128 _ last)
    ∙ ap (λ n. lacks_room w w.last n) (c.used_at.ensures ∙ ap (λ t. used_at t c.parts.result.now) (to_z-of_z w128 _ last) ∙ ap (used_at w.last) c.parts.ensures))
    ∙ c.if-lacks_room.false in
    subst (IsLast (conflicts w ps)) (sym (c.last_end.ensures ∙ ap (λ es. greatest (ends_in w es)) c.edges.ensures)) (last-of_ends w ps calm)
