-- What the engine was asked for, and what the laws say of its run.
use Rattle.std.proofs.Common.{◌≡◌, ℕ, List, map, take, refl, sym, subst}
use Rattle.dp_domain.specs.Atoms.{Atomic}
use Rattle.dp_parts.specs.Problems.{Csp}
use Rattle.dp_engine.specs.Engines.{Propagation, Starts, states}
use Rattle.dp_justify.specs.Taking.{seen_among}
use Rattle.dp_justify.proofs.JustifyLaws.{clash-justification, clash-replay, clash-steps, clash-variables, empty-replay, quiet-end, started, turns-asked}
use Rattle.dp_justify.proofs.justification.justify_next.Goals as goal

started_before : (p : Csp) (nogoods : List (List Atomic)) (place : ℕ) (before : List (List Atomic)) (e : Propagation) → before ≡ take place nogoods → Starts p (take place nogoods) e → Starts p before e
started_before p nogoods place before e h s = subst (λ (ns : List (List Atomic)). Starts p ns e) (sym h) s

pub kept_turns-requires-clause-turns : goal.kept_turns-requires-clause-turns
kept_turns-requires-clause-turns c =
    let h = started c.args.problem.now c.args.nogoods.now c.args.place c.before-earlier.result.now c.args.engine.now c.assume.new.self c.atoms.result.now c.index-nogoods-place.result
    c.requires.problem c.requires.nogoods c.requires.place c.before-earlier.ensures (started_before c.args.problem.now c.args.nogoods.now c.args.place c.before-earlier.result.now c.args.engine.now c.before-earlier.ensures c.requires.starts) c.in_ok-assume.ensures.parts c.in_ok-assume.ensures.present c.atoms.ensures c.index-nogoods-place.is in
    turns-asked c.args.problem.now c.args.nogoods.now c.args.place c.before-earlier.result.now c.assume.new.self h (map (seen_among (states c.run_turns.new.engine)) c.in_ok-turns.turns.items) c.in_ok-turns.ensures.turns

pub returns-in_ok-piece-in-Clash-clause-justification : goal.returns-in_ok-piece-in-Clash-clause-justification
returns-in_ok-piece-in-Clash-clause-justification c =
    let h = started c.args.problem.now c.args.nogoods.now c.args.place c.before-earlier.result.now c.args.engine.now c.assume.new.self c.atoms.result.now c.index-nogoods-place.result
    c.requires.problem c.requires.nogoods c.requires.place c.before-earlier.ensures (started_before c.args.problem.now c.args.nogoods.now c.args.place c.before-earlier.result.now c.args.engine.now c.before-earlier.ensures c.requires.starts) c.in_ok-assume.ensures.parts c.in_ok-assume.ensures.present c.atoms.ensures c.index-nogoods-place.is in
    clash-justification c.args.problem.now c.args.nogoods.now c.args.place c.before-earlier.result.now c.assume.new.self h (map (seen_among (states c.run_turns.new.engine)) c.in_ok-turns.turns.items) c.in_ok-steps-in-Clash.steps.items c.in_ok-piece-in-Clash.field-0
    (record { turns_are = c.in_ok-turns.ensures.turns; steps_are = c.in_ok-steps-in-Clash.ensures.kept; piece_is = c.in_ok-piece-in-Clash.ensures }) c.in_ok-turns.end c.in-Clash.field-0 c.in_ok-turns.ensures.end c.in-Clash.is

pub returns-in_ok-piece-in-Clash-clause-steps : goal.returns-in_ok-piece-in-Clash-clause-steps
returns-in_ok-piece-in-Clash-clause-steps c =
    let h = started c.args.problem.now c.args.nogoods.now c.args.place c.before-earlier.result.now c.args.engine.now c.assume.new.self c.atoms.result.now c.index-nogoods-place.result
    c.requires.problem c.requires.nogoods c.requires.place c.before-earlier.ensures (started_before c.args.problem.now c.args.nogoods.now c.args.place c.before-earlier.result.now c.args.engine.now c.before-earlier.ensures c.requires.starts) c.in_ok-assume.ensures.parts c.in_ok-assume.ensures.present c.atoms.ensures c.index-nogoods-place.is in
    clash-steps c.args.problem.now c.args.nogoods.now c.args.place c.before-earlier.result.now c.assume.new.self h (map (seen_among (states c.run_turns.new.engine)) c.in_ok-turns.turns.items) c.in_ok-steps-in-Clash.steps.items c.in_ok-piece-in-Clash.field-0
    (record { turns_are = c.in_ok-turns.ensures.turns; steps_are = c.in_ok-steps-in-Clash.ensures.kept; piece_is = c.in_ok-piece-in-Clash.ensures })

pub returns-in_ok-piece-in-Clash-clause-variables : goal.returns-in_ok-piece-in-Clash-clause-variables
returns-in_ok-piece-in-Clash-clause-variables c =
    let h = started c.args.problem.now c.args.nogoods.now c.args.place c.before-earlier.result.now c.args.engine.now c.assume.new.self c.atoms.result.now c.index-nogoods-place.result
    c.requires.problem c.requires.nogoods c.requires.place c.before-earlier.ensures (started_before c.args.problem.now c.args.nogoods.now c.args.place c.before-earlier.result.now c.args.engine.now c.before-earlier.ensures c.requires.starts) c.in_ok-assume.ensures.parts c.in_ok-assume.ensures.present c.atoms.ensures c.index-nogoods-place.is in
    clash-variables c.args.problem.now c.args.nogoods.now c.args.place c.before-earlier.result.now c.assume.new.self h (map (seen_among (states c.run_turns.new.engine)) c.in_ok-turns.turns.items) c.in_ok-steps-in-Clash.steps.items c.in_ok-piece-in-Clash.field-0
    (record { turns_are = c.in_ok-turns.ensures.turns; steps_are = c.in_ok-steps-in-Clash.ensures.kept; piece_is = c.in_ok-piece-in-Clash.ensures })

pub returns-in_ok-piece-in-Clash-clause-replay : goal.returns-in_ok-piece-in-Clash-clause-replay
returns-in_ok-piece-in-Clash-clause-replay c =
    let h = started c.args.problem.now c.args.nogoods.now c.args.place c.before-earlier.result.now c.args.engine.now c.assume.new.self c.atoms.result.now c.index-nogoods-place.result
    c.requires.problem c.requires.nogoods c.requires.place c.before-earlier.ensures (started_before c.args.problem.now c.args.nogoods.now c.args.place c.before-earlier.result.now c.args.engine.now c.before-earlier.ensures c.requires.starts) c.in_ok-assume.ensures.parts c.in_ok-assume.ensures.present c.atoms.ensures c.index-nogoods-place.is in
    clash-replay c.args.problem.now c.args.nogoods.now c.args.place c.before-earlier.result.now c.assume.new.self h (map (seen_among (states c.run_turns.new.engine)) c.in_ok-turns.turns.items) c.in_ok-steps-in-Clash.steps.items c.in_ok-piece-in-Clash.field-0
    (record { turns_are = c.in_ok-turns.ensures.turns; steps_are = c.in_ok-steps-in-Clash.ensures.kept; piece_is = c.in_ok-piece-in-Clash.ensures }) c.in_ok-turns.end c.in-Clash.field-0 c.in_ok-turns.ensures.end c.in-Clash.is

pub returns-in_ok-piece-in-Empty-clause-replay : goal.returns-in_ok-piece-in-Empty-clause-replay
returns-in_ok-piece-in-Empty-clause-replay c =
    let h = started c.args.problem.now c.args.nogoods.now c.args.place c.before-earlier.result.now c.args.engine.now c.assume.new.self c.atoms.result.now c.index-nogoods-place.result
    c.requires.problem c.requires.nogoods c.requires.place c.before-earlier.ensures (started_before c.args.problem.now c.args.nogoods.now c.args.place c.before-earlier.result.now c.args.engine.now c.before-earlier.ensures c.requires.starts) c.in_ok-assume.ensures.parts c.in_ok-assume.ensures.present c.atoms.ensures c.index-nogoods-place.is in
    empty-replay c.args.problem.now c.args.nogoods.now c.args.place c.before-earlier.result.now c.assume.new.self h c.in_ok-turns.end c.new.result.items c.in_ok-piece-in-Empty.field-0 c.in_ok-turns.ensures.end c.in-Empty.is c.new.ensures.items c.in_ok-piece-in-Empty.ensures

pub returns-in-Atom-clause-quiet : goal.returns-in-Atom-clause-quiet
returns-in-Atom-clause-quiet c =
    let h = started c.args.problem.now c.args.nogoods.now c.args.place c.before-earlier.result.now c.args.engine.now c.assume.new.self c.atoms.result.now c.index-nogoods-place.result
    c.requires.problem c.requires.nogoods c.requires.place c.before-earlier.ensures (started_before c.args.problem.now c.args.nogoods.now c.args.place c.before-earlier.result.now c.args.engine.now c.before-earlier.ensures c.requires.starts) c.in_ok-assume.ensures.parts c.in_ok-assume.ensures.present c.atoms.ensures c.index-nogoods-place.is in
    (λ none. quiet-end c.args.problem.now c.args.nogoods.now c.args.place c.before-earlier.result.now c.assume.new.self h c.in_ok-turns.end c.in_ok-turns.ensures.end c.in-Atom.is, λ same. refl)
