-- The parts tell whether it clashes, and the first bound is what it gives.
use Rattle.std.proofs.Common.{option_map, sym, ◌∙◌, ap}
use Rattle.dp_domain.specs.declared.found.Found.TheVariants.{Atom}
use Rattle.dp_rule_cumulative.specs.Profiles.{is_exceeded}
use Rattle.dp_rule_cumulative.specs.Schedules.{schedule}
use Rattle.dp_rule_cumulative.proofs.TurnSteps.{clash_turn, given_turn, test_is}
use Rattle.dp_rule_cumulative.proofs.turn.turn.Goals as goal

pub returns-then-is_exceeded : goal.returns-then-is_exceeded
returns-then-is_exceeded c =
    let q = schedule c.args.tasks.now c.args.capacity in
    clash_turn q c.args.state.now
    (sym (c.is_exceeded.ensures ∙ ap (is_exceeded c.args.capacity) (c.as_slice.ensures.value ∙ c.in_ok-parts.ensures) ∙ test_is q c.args.state.now c.requires.alive) ∙ c.if-is_exceeded.true)

pub first_bound-requires-clause-calm : goal.first_bound-requires-clause-calm
first_bound-requires-clause-calm c =
    let q = schedule c.args.tasks.now c.args.capacity in
    sym (c.is_exceeded.ensures ∙ ap (is_exceeded c.args.capacity) (c.as_slice.ensures.value ∙ c.in_ok-parts.ensures) ∙ test_is q c.args.state.now c.requires.alive) ∙ c.if-is_exceeded.false

pub returns-in-Some : goal.returns-in-Some
returns-in-Some c =
    let q = schedule c.args.tasks.now c.args.capacity in
    ap (λ o. option_map Atom o) (sym c.in-Some.is)
    ∙ given_turn q c.args.state.now c.first_bound.result
    (sym (c.is_exceeded.ensures ∙ ap (is_exceeded c.args.capacity) (c.as_slice.ensures.value ∙ c.in_ok-parts.ensures) ∙ test_is q c.args.state.now c.requires.alive) ∙ c.if-is_exceeded.false)
    c.first_bound.ensures

pub returns : goal.returns
returns c =
    let q = schedule c.args.tasks.now c.args.capacity in
    ap (λ o. option_map Atom o) (sym c.in-None.is)
    ∙ given_turn q c.args.state.now c.first_bound.result
    (sym (c.is_exceeded.ensures ∙ ap (is_exceeded c.args.capacity) (c.as_slice.ensures.value ∙ c.in_ok-parts.ensures) ∙ test_is q c.args.state.now c.requires.alive) ∙ c.if-is_exceeded.false)
    c.first_bound.ensures
