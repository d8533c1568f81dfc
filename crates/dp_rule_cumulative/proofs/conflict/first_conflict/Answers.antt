-- The first time of the demand, or of a part.
use Rattle.std.proofs.Common.{◌≡◌, false, ◌∙◌, sym, ap, subst, FitsSigned, rules}
use Rattle.std.proofs.lemmas.Int.{to_z-of_z}
use mir.Syntax.{w128}
use Rattle.dp_domain.specs.Sets.{least}
use Rattle.dp_rule_cumulative.specs.Profiles.{IsEarliest, conflicts, lacks_room, starts_in, used_at}
use Rattle.dp_rule_cumulative.proofs.ConflictLaws.{earliest-of_starts}
use Rattle.dp_rule_cumulative.proofs.conflict.first_conflict.Goals as goal

pub returns : goal.returns
returns c =
    let w = c.args.demand.now in
    let ps = c.args.profile.now in
    let from : FitsSigned w128 w.from = search rules in
    let calm : conflicts w ps w.from ≡ false =
    sym (c.lacks_room.ensures
    ∙ ap (λ t. lacks_room w t c.used_at.result) (to_z-of_z w128 _ from)
    ∙ ap (λ n. lacks_room w w.from n) (c.used_at.ensures ∙ ap (λ t. used_at t c.parts.result.now) (to_z-of_z w128 _ from) ∙ ap (used_at w.from) c.parts.ensures))
    ∙ c.if-lacks_room.false in
    subst (IsEarliest (conflicts w ps)) (sym (c.first_start.ensures ∙ ap (λ es. least (starts_in w es)) c.edges.ensures)) (earliest-of_starts w ps calm)
