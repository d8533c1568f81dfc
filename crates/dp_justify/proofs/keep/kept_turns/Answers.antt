-- One turn further back.
use Rattle.std.proofs.Common.{List, [], ◌∷◌, ◌++◌, ◌≡◌, map, rules, sym, ◌∙◌, ap, subst}
use Rattle.std.proofs.lemmas.List.{map-append, nil_from_length}
use Rattle.dp_base.specs.Lists.{Each}
use Rattle.dp_domain.specs.Atoms.{Atomic}
use Rattle.dp_domain.specs.States.{Domains}
use Rattle.dp_engine.specs.Engines.{Propagation, states}
use Rattle.dp_engine.proofs.StateSteps.{Each-front}
use Rattle.dp_parts.specs.Posed.{Posed}
use Rattle.dp_parts.specs.Problems.{posed}
use Rattle.dp_justify.specs.Keeping.{Explained}
use Rattle.dp_justify.specs.Taking.{IsRunTurn, SeenTurn, explained_of, seen_among, seen_at}
use Rattle.dp_justify.specs.declared.turns.RunTurn.{RunTurn}
use Rattle.dp_justify.proofs.KeepLaws.{IsBack, back-all, back-more}
use Rattle.dp_justify.proofs.TrailSteps.{keeps-more, mark-there, seen-back, trail-back}
use Rattle.dp_justify.proofs.keep.kept_turns.Goals as goal

-- the turns before the last are turns of the run, and so is the last, at the state at its mark
turns_back : (p : Posed) (nogoods : List (List Atomic)) (e f : Propagation) (turns front : List RunTurn) (t : RunTurn) (d : Domains) → d ≡ f.present
    → map (seen_among (states e)) turns ≡ map (seen_among (states f)) front ++ seen_at f.present t ∷ [] → Each (IsRunTurn p nogoods) (map (seen_among (states e)) turns)
    → Each (IsRunTurn p nogoods) (map (seen_among (states f)) front) × IsRunTurn p nogoods (seen_at d t)
turns_back p nogoods e f turns front t d h k all =
    let r = Each-front (IsRunTurn p nogoods) (map (seen_among (states f)) front) (seen_at f.present t) (subst (Each (IsRunTurn p nogoods)) k all) in
    (r.0, subst (λ (b : Domains). IsRunTurn p nogoods (seen_at b t)) (sym h) r.1)

explained_back : (p : Posed) (nogoods : List (List Atomic)) (e f : Propagation) (turns front : List RunTurn) (t : RunTurn) (d : Domains) → d ≡ f.present
    → map (seen_among (states e)) turns ≡ map (seen_among (states f)) front ++ seen_at f.present t ∷ []
    → map (explained_of p nogoods) (map (seen_among (states e)) turns) ≡ map (explained_of p nogoods) (map (seen_among (states f)) front) ++ explained_of p nogoods (seen_at d t) ∷ []
explained_back p nogoods e f turns front t d h k =
    ap (map (explained_of p nogoods)) k ∙ map-append (explained_of p nogoods) (map (seen_among (states f)) front) (seen_at f.present t ∷ [])
    ∙ ap (λ (b : Domains). map (explained_of p nogoods) (map (seen_among (states f)) front) ++ explained_of p nogoods (seen_at b t) ∷ []) (sym h)

pub undo-requires : goal.undo-requires
undo-requires c = mark-there c.loop-turn.engine c.loop-turn.turns.items c.pop.new.self.items c.in-Some.turn c.in-Some.ensures.items c.loop-turn.invariant.trail

pub keep-requires-clause-turn : goal.keep-requires-clause-turn
keep-requires-clause-turn c =
    (turns_back (posed c.args.problem.now) c.args.nogoods.now c.loop-turn.engine c.undo.new.self c.loop-turn.turns.items c.pop.new.self.items c.in-Some.turn c.state.result.now c.state.ensures.state
    (seen-back c.loop-turn.engine c.loop-turn.turns.items c.pop.new.self.items c.in-Some.turn c.in-Some.ensures.items c.loop-turn.invariant.trail c.undo.new.self c.undo.ensures.states) c.loop-turn.invariant.turns).1

pub loop-turn-preserved : goal.loop-turn-preserved
loop-turn-preserved c =
    let back = seen-back c.loop-turn.engine c.loop-turn.turns.items c.pop.new.self.items c.in-Some.turn c.in-Some.ensures.items c.loop-turn.invariant.trail c.undo.new.self c.undo.ensures.states in
    record {
      parts = keeps-more c.args.engine.now c.loop-turn.engine c.undo.new.self c.loop-turn.invariant.parts c.undo.ensures.parts;
      count = c.in_ok-step.ensures.count ∙ c.loop-turn.invariant.count;
      base = c.keep.ensures.base;
      trail = trail-back c.loop-turn.engine c.loop-turn.turns.items c.pop.new.self.items c.in-Some.turn c.in-Some.ensures.items c.loop-turn.invariant.trail c.undo.new.self c.undo.ensures.states;
      turns = (turns_back (posed c.args.problem.now) c.args.nogoods.now c.loop-turn.engine c.undo.new.self c.loop-turn.turns.items c.pop.new.self.items c.in-Some.turn c.state.result.now c.state.ensures.state
          back c.loop-turn.invariant.turns).0;
      back = back-more c.args.problem.now.initial (map (explained_of (posed c.args.problem.now) c.args.nogoods.now) (map (seen_among (states c.args.engine.now)) c.args.turns.items))
          (map (explained_of (posed c.args.problem.now) c.args.nogoods.now) (map (seen_among (states c.loop-turn.engine)) c.loop-turn.turns.items))
          (map (explained_of (posed c.args.problem.now) c.args.nogoods.now) (map (seen_among (states c.undo.new.self)) c.pop.new.self.items))
          (explained_of (posed c.args.problem.now) c.args.nogoods.now (seen_at c.state.result.now c.in-Some.turn)) c.loop-turn.gone.items c.keep.new.gone.items c.loop-turn.steps.items c.push_some.new.steps.items
          c.in_ok-step.step c.loop-turn.invariant.back
          (explained_back (posed c.args.problem.now) c.args.nogoods.now c.loop-turn.engine c.undo.new.self c.loop-turn.turns.items c.pop.new.self.items c.in-Some.turn c.state.result.now c.state.ensures.state back)
          c.in_ok-step.ensures.pairs c.in_ok-step.ensures.kept c.in_ok-push_some.ensures;
    }

pub returns-clause-kept : goal.returns-clause-kept
returns-clause-kept c =
    let base : Domains = c.args.problem.now.initial in
    let explain : SeenTurn → Explained = explained_of (posed c.args.problem.now) c.args.nogoods.now in
    let all : List Explained = map explain (map (seen_among (states c.args.engine.now)) c.args.turns.items) in
    let empty : c.loop-turn.turns.items ≡ [] = nil_from_length _ (search rules) in
    let back : IsBack base all [] c.loop-turn.gone.items c.loop-turn.steps.items =
    subst (λ (ts : List RunTurn). IsBack base all (map explain (map (seen_among (states c.loop-turn.engine)) ts)) c.loop-turn.gone.items c.loop-turn.steps.items) empty c.loop-turn.invariant.back in
    back-all base all c.loop-turn.gone.items c.loop-turn.steps.items _ back (search rules)
