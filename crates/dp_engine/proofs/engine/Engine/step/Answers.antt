use Rattle.std.proofs.Common.{◌≡◌, ℕ, ◌+◌, ◌<◌, ◌≤◌, Bool, List, [], ◌∷◌, length, sym, ◌∙◌, ap, subst}
use Rattle.std.specs.Prelude.{reverse}
use Rattle.std.specs.Result.{MatchResult}
use Rattle.dp_domain.specs.States.{Domains, is_dead}
use Rattle.dp_parts.specs.Problems.{posed}
use Rattle.dp_engine.specs.declared.turn.Turn.TheVariants.{Quiet}
use Rattle.dp_engine.specs.Engines.{Propagation, parts_of}
use Rattle.dp_engine.specs.Placed.{AreSound, Placed, turn_order}
use Rattle.dp_engine.specs.Rosters.{all_placed}
use Rattle.dp_engine.specs.Trails.{Course, all_of}
use Rattle.dp_engine.specs.Turns.{IsTurnAt, applied}
use Rattle.dp_engine.specs.Debts.{AreKept, History, IsKept}
use Rattle.dp_engine.specs.Rests.{Rest}
use Rattle.dp_engine.specs.Woken.{ArePlaces, IsCounted, IsIndex, owed_of}
use Rattle.dp_engine.proofs.EngineSteps.{turn-meant, turn-of_problem}
use Rattle.dp_engine.proofs.PlacedLaws.{problem-sound}
use Rattle.dp_engine.proofs.StateSteps.{begins-then, counted-last}
use Rattle.dp_engine.proofs.StepLaws.{applied-alive, counted-err, counted-quiet, counted-step, found-facts, places-below, quiet-facts, woken_after-length}
use Rattle.dp_engine.proofs.TrackedLaws.{tracked-moved}
use Rattle.dp_engine.proofs.TurnLaws.{turn-atoms}
use Rattle.dp_engine.proofs.engine.Engine.step.Goals as goal

pub first_turn-requires : goal.first_turn-requires
first_turn-requires g c =
    let sound : AreSound (length c.self.inside.problem.now.initial) (turn_order (posed c.self.inside.problem.now) c.self.inside.roster.nogoods) = problem-sound c.self.inside.problem.now c.self.inside.roster.nogoods c.self.invariant.engine.problem c.self.invariant.engine.nogoods in
    let count : length c.self.inside.trail.present ≡ length c.self.inside.problem.now.initial = counted-last c.self.inside.trail.past c.self.inside.trail.present (length c.self.inside.problem.now.initial) c.self.invariant.engine.states in
    record {
      count = c.self.invariant.count ∙ ap (λ (qs : List Placed). length qs) (sym c.self.invariant.parts);
      sound = subst (λ (d : Domains). AreSound (length d) (all_placed c.self.inside.roster)) (sym c.present-state.ensures)
          (subst (λ (qs : List Placed). AreSound (length c.self.inside.trail.present) qs) (sym c.self.invariant.parts) (subst (λ n. AreSound n (turn_order (posed c.self.inside.problem.now) c.self.inside.roster.nogoods)) (sym count) sound));
      alive = ap is_dead c.present-state.ensures ∙ sym c.self.invariant.known ∙ c.if-self.false;
      rest = subst (λ (d : Domains). Rest (all_placed c.self.inside.roster) c.self.inside.debts.now d) (sym c.present-state.ensures)
          (subst (λ (qs : List Placed). Rest qs c.self.inside.debts.now c.self.inside.trail.present) (sym c.self.invariant.parts) c.self.invariant.kept.rest);
    }

pub apply-requires : goal.apply-requires
apply-requires g c =
    let found = found-facts (all_placed c.self.inside.roster) (turn_order (posed c.self.inside.problem.now) c.self.inside.roster.nogoods) c.present-state.result.now c.self.inside.trail.present c.first_turn.new.debts.now (c.args.steps.now + owed_of c.self.inside.debts.now) (c.first_turn.new.steps + owed_of c.first_turn.new.debts.now)
    c.in_ok-found.found c.in-Some.field-0-0 c.in-Some.turn c.self.invariant.parts c.present-state.ensures c.in-Some.is c.in_ok-found.ensures.searched in
    let count : length c.self.inside.trail.present ≡ length c.self.inside.problem.now.initial = counted-last c.self.inside.trail.past c.self.inside.trail.present (length c.self.inside.problem.now.initial) c.self.invariant.engine.states in
    let bits : length c.first_turn.new.debts.now ≡ length (turn_order (posed c.self.inside.problem.now) c.self.inside.roster.nogoods) = c.first_turn.ensures.count ∙ c.self.invariant.count in
    record {
      atoms = turn-of_problem c.self.inside.problem.now c.self.inside.roster.nogoods c.self.inside.trail.present c.in-Some.turn c.self.invariant.engine.problem c.self.invariant.engine.nogoods count found.1.first;
      lists = c.self.invariant.index.count ∙ sym count;
      places = subst (λ n. ArePlaces n c.self.inside.occurrences) (sym bits) (places-below (length c.self.inside.problem.now.initial) (turn_order (posed c.self.inside.problem.now) c.self.inside.roster.nogoods) c.self.inside.occurrences c.self.invariant.index);
    }

pub invariant_of-self : goal.invariant_of-self
invariant_of-self g c =
    let rest : Rest (turn_order (posed c.self.inside.problem.now) c.self.inside.roster.nogoods) c.first_turn.new.debts.now c.self.inside.trail.present = subst (λ (qs : List Placed). Rest qs c.first_turn.new.debts.now c.self.inside.trail.present) c.self.invariant.parts
    (subst (λ (d : Domains). Rest (all_placed c.self.inside.roster) c.first_turn.new.debts.now d) c.present-state.ensures c.first_turn.ensures.rest) in
    let kept : IsKept (turn_order (posed c.self.inside.problem.now) c.self.inside.roster.nogoods) c.first_turn.new.debts (record { past = c.self.inside.trail.past; present = c.self.inside.trail.present }) = record {
      rest = rest;
      earlier = subst (λ (qs : List Placed). AreKept qs c.first_turn.new.debts.lasting c.first_turn.new.debts.notes [] c.first_turn.new.debts.now c.self.inside.trail.present (reverse c.self.inside.trail.past)) c.self.invariant.parts
          (subst (λ (d : Domains). AreKept (all_placed c.self.inside.roster) c.first_turn.new.debts.lasting c.first_turn.new.debts.notes [] c.first_turn.new.debts.now d (reverse c.self.inside.trail.past)) c.present-state.ensures
          (c.first_turn.ensures.earlier (reverse c.self.inside.trail.past)
          (subst (λ (d : Domains). AreKept (all_placed c.self.inside.roster) c.self.inside.debts.lasting c.self.inside.debts.notes [] c.self.inside.debts.now d (reverse c.self.inside.trail.past)) (sym c.present-state.ensures)
          (subst (λ (qs : List Placed). AreKept qs c.self.inside.debts.lasting c.self.inside.debts.notes [] c.self.inside.debts.now c.self.inside.trail.present (reverse c.self.inside.trail.past)) (sym c.self.invariant.parts) c.self.invariant.kept.earlier))));
    } in
    tracked-moved c.self.inside.problem.now c.self.inside.roster c.self.inside.occurrences c.self.inside.trail.past c.self.inside.trail.past c.self.inside.trail.present c.self.inside.trail.present c.self.inside.debts c.first_turn.new.debts c.self.inside.dead c.self.inside.dead
    c.self.invariant c.self.invariant.engine.states c.first_turn.ensures.count c.first_turn.ensures.lasting kept c.self.invariant.start c.self.invariant.known

pub returns-in_err-found-clause-counted : goal.returns-in_err-found-clause-counted
returns-in_err-found-clause-counted g c =
    subst (λ (e : Propagation). (x : ℕ) × (c.first_turn.new.steps ≡ c.args.steps.now + x) × MatchResult c.from_residual.result (IsCounted (parts_of e) e.owed x (owed_of c.first_turn.new.debts.now)) (λ m. x + owed_of c.first_turn.new.debts.now ≤ e.owed + 1)) c.self.view_is
    (counted-err _ c.from_residual.result (turn_order (posed c.self.inside.problem.now) c.self.inside.roster.nogoods) (owed_of c.self.inside.debts.now) c.args.steps.now c.first_turn.new.steps (owed_of c.first_turn.new.debts.now) c.from_residual.ensures.1 c.first_turn.ensures.more c.in_err-found.ensures.counted)

pub invariant_of-self-in_err-apply-in-Some : goal.invariant_of-self-in_err-apply-in-Some
invariant_of-self-in_err-apply-in-Some g c =
    let rest : Rest (turn_order (posed c.self.inside.problem.now) c.self.inside.roster.nogoods) c.first_turn.new.debts.now c.self.inside.trail.present = subst (λ (qs : List Placed). Rest qs c.first_turn.new.debts.now c.self.inside.trail.present) c.self.invariant.parts
    (subst (λ (d : Domains). Rest (all_placed c.self.inside.roster) c.first_turn.new.debts.now d) c.present-state.ensures c.first_turn.ensures.rest) in
    let kept : IsKept (turn_order (posed c.self.inside.problem.now) c.self.inside.roster.nogoods) c.first_turn.new.debts (record { past = c.self.inside.trail.past; present = c.self.inside.trail.present }) = record {
      rest = rest;
      earlier = subst (λ (qs : List Placed). AreKept qs c.first_turn.new.debts.lasting c.first_turn.new.debts.notes [] c.first_turn.new.debts.now c.self.inside.trail.present (reverse c.self.inside.trail.past)) c.self.invariant.parts
          (subst (λ (d : Domains). AreKept (all_placed c.self.inside.roster) c.first_turn.new.debts.lasting c.first_turn.new.debts.notes [] c.first_turn.new.debts.now d (reverse c.self.inside.trail.past)) c.present-state.ensures
          (c.first_turn.ensures.earlier (reverse c.self.inside.trail.past)
          (subst (λ (d : Domains). AreKept (all_placed c.self.inside.roster) c.self.inside.debts.lasting c.self.inside.debts.notes [] c.self.inside.debts.now d (reverse c.self.inside.trail.past)) (sym c.present-state.ensures)
          (subst (λ (qs : List Placed). AreKept qs c.self.inside.debts.lasting c.self.inside.debts.notes [] c.self.inside.debts.now c.self.inside.trail.present (reverse c.self.inside.trail.past)) (sym c.self.invariant.parts) c.self.invariant.kept.earlier))));
    } in
    tracked-moved c.self.inside.problem.now c.self.inside.roster c.self.inside.occurrences c.self.inside.trail.past c.apply.new.trail.past c.self.inside.trail.present c.apply.new.trail.present c.self.inside.debts c.apply.new.debts c.self.inside.dead c.self.inside.dead
    c.self.invariant
    (c.apply.ensures.counts (length c.self.inside.problem.now.initial) c.self.invariant.engine.states)
    (ap (λ (h : History). length h.now) c.in_err-apply-in-Some.ensures.debts_stay ∙ c.first_turn.ensures.count)
    (c.apply.ensures.lasting ∙ c.first_turn.ensures.lasting)
    (subst (λ (h : History). IsKept (turn_order (posed c.self.inside.problem.now) c.self.inside.roster.nogoods) h (record { past = c.apply.new.trail.past; present = c.apply.new.trail.present })) (sym c.in_err-apply-in-Some.ensures.debts_stay)
    (subst (λ (t : Course). IsKept (turn_order (posed c.self.inside.problem.now) c.self.inside.roster.nogoods) c.first_turn.new.debts t) (sym c.in_err-apply-in-Some.ensures.trail_stays) kept))
    (begins-then (c.self.inside.problem.now.initial ∷ []) (all_of c.self.inside.trail) (all_of c.apply.new.trail) c.self.invariant.start c.apply.ensures.states)
    (c.self.invariant.known ∙ ap (λ (t : Course). is_dead t.present) (sym c.in_err-apply-in-Some.ensures.trail_stays))

pub returns-in_err-apply-in-Some-clause-counted : goal.returns-in_err-apply-in-Some-clause-counted
returns-in_err-apply-in-Some-clause-counted g c =
    let found = found-facts (all_placed c.self.inside.roster) (turn_order (posed c.self.inside.problem.now) c.self.inside.roster.nogoods) c.present-state.result.now c.self.inside.trail.present c.first_turn.new.debts.now (c.args.steps.now + owed_of c.self.inside.debts.now) (c.first_turn.new.steps + owed_of c.first_turn.new.debts.now)
    c.in_ok-found.found c.in-Some.field-0-0 c.in-Some.turn c.self.invariant.parts c.present-state.ensures c.in-Some.is c.in_ok-found.ensures.searched in
    subst (λ (e : Propagation). (x : ℕ) × (c.first_turn.new.steps ≡ c.args.steps.now + x) × MatchResult c.from_residual-in_err-apply-in-Some.result (IsCounted (parts_of e) e.owed x (owed_of c.apply.new.debts.now)) (λ m. x + owed_of c.apply.new.debts.now ≤ e.owed + 1)) c.self.view_is
    (counted-err _ c.from_residual-in_err-apply-in-Some.result (turn_order (posed c.self.inside.problem.now) c.self.inside.roster.nogoods) (owed_of c.self.inside.debts.now) c.args.steps.now c.first_turn.new.steps (owed_of c.apply.new.debts.now) c.from_residual-in_err-apply-in-Some.ensures.1 c.first_turn.ensures.more
    (subst (λ (h : History). c.first_turn.new.steps + owed_of h.now ≤ (c.args.steps.now + owed_of c.self.inside.debts.now) + 1) (sym c.in_err-apply-in-Some.ensures.debts_stay) found.0))

pub invariant_of-self-in-Some : goal.invariant_of-self-in-Some
invariant_of-self-in-Some g c =
    let found = found-facts (all_placed c.self.inside.roster) (turn_order (posed c.self.inside.problem.now) c.self.inside.roster.nogoods) c.present-state.result.now c.self.inside.trail.present c.first_turn.new.debts.now (c.args.steps.now + owed_of c.self.inside.debts.now) (c.first_turn.new.steps + owed_of c.first_turn.new.debts.now)
    c.in_ok-found.found c.in-Some.field-0-0 c.in-Some.turn c.self.invariant.parts c.present-state.ensures c.in-Some.is c.in_ok-found.ensures.searched in
    let sound : AreSound (length c.self.inside.problem.now.initial) (turn_order (posed c.self.inside.problem.now) c.self.inside.roster.nogoods) = problem-sound c.self.inside.problem.now c.self.inside.roster.nogoods c.self.invariant.engine.problem c.self.invariant.engine.nogoods in
    let rest : Rest (turn_order (posed c.self.inside.problem.now) c.self.inside.roster.nogoods) c.first_turn.new.debts.now c.self.inside.trail.present = subst (λ (qs : List Placed). Rest qs c.first_turn.new.debts.now c.self.inside.trail.present) c.self.invariant.parts
    (subst (λ (d : Domains). Rest (all_placed c.self.inside.roster) c.first_turn.new.debts.now d) c.present-state.ensures c.first_turn.ensures.rest) in
    let kept : IsKept (turn_order (posed c.self.inside.problem.now) c.self.inside.roster.nogoods) c.first_turn.new.debts (record { past = c.self.inside.trail.past; present = c.self.inside.trail.present }) = record {
      rest = rest;
      earlier = subst (λ (qs : List Placed). AreKept qs c.first_turn.new.debts.lasting c.first_turn.new.debts.notes [] c.first_turn.new.debts.now c.self.inside.trail.present (reverse c.self.inside.trail.past)) c.self.invariant.parts
          (subst (λ (d : Domains). AreKept (all_placed c.self.inside.roster) c.first_turn.new.debts.lasting c.first_turn.new.debts.notes [] c.first_turn.new.debts.now d (reverse c.self.inside.trail.past)) c.present-state.ensures
          (c.first_turn.ensures.earlier (reverse c.self.inside.trail.past)
          (subst (λ (d : Domains). AreKept (all_placed c.self.inside.roster) c.self.inside.debts.lasting c.self.inside.debts.notes [] c.self.inside.debts.now d (reverse c.self.inside.trail.past)) (sym c.present-state.ensures)
          (subst (λ (qs : List Placed). AreKept qs c.self.inside.debts.lasting c.self.inside.debts.notes [] c.self.inside.debts.now c.self.inside.trail.present (reverse c.self.inside.trail.past)) (sym c.self.invariant.parts) c.self.invariant.kept.earlier))));
    } in
    let count : length c.self.inside.trail.present ≡ length c.self.inside.problem.now.initial = counted-last c.self.inside.trail.past c.self.inside.trail.present (length c.self.inside.problem.now.initial) c.self.invariant.engine.states in
    tracked-moved c.self.inside.problem.now c.self.inside.roster c.self.inside.occurrences c.self.inside.trail.past c.apply.new.trail.past c.self.inside.trail.present c.apply.new.trail.present c.self.inside.debts c.apply.new.debts c.self.inside.dead c.self.inside.dead
    c.self.invariant
    (c.apply.ensures.counts (length c.self.inside.problem.now.initial) c.self.invariant.engine.states)
    (ap (λ (vs : List Bool). length vs) c.in_ok-apply-in-Some.ensures.woken ∙ woken_after-length c.first_turn.new.debts.now c.self.inside.occurrences c.in-Some.turn ∙ c.first_turn.ensures.count)
    (c.apply.ensures.lasting ∙ c.first_turn.ensures.lasting)
    (c.in_ok-apply-in-Some.ensures.kept (turn_order (posed c.self.inside.problem.now) c.self.inside.roster.nogoods) (subst (λ n. IsIndex n (turn_order (posed c.self.inside.problem.now) c.self.inside.roster.nogoods) c.self.inside.occurrences) (sym count) c.self.invariant.index) kept)
    (begins-then (c.self.inside.problem.now.initial ∷ []) (all_of c.self.inside.trail) (all_of c.apply.new.trail) c.self.invariant.start c.apply.ensures.states)
    (c.if-self.false ∙ sym (ap is_dead c.in_ok-apply-in-Some.ensures.present ∙ applied-alive (length c.self.inside.problem.now.initial) (turn_order (posed c.self.inside.problem.now) c.self.inside.roster.nogoods) c.self.inside.trail.present c.in-Some.turn sound (sym c.self.invariant.known ∙ c.if-self.false) found.1.first))

pub returns-in-None-clause-meaning : goal.returns-in-None-clause-meaning
returns-in-None-clause-meaning g c =
    let quiet = quiet-facts (all_placed c.self.inside.roster) (turn_order (posed c.self.inside.problem.now) c.self.inside.roster.nogoods) c.present-state.result.now c.self.inside.trail.present c.first_turn.new.debts.now (c.args.steps.now + owed_of c.self.inside.debts.now) (c.first_turn.new.steps + owed_of c.first_turn.new.debts.now)
    c.in_ok-found.found c.self.invariant.parts c.present-state.ensures c.in-None.is c.in_ok-found.ensures.searched in
    subst (λ (e : Propagation). IsTurnAt (parts_of e) e.present Quiet) c.self.view_is
    (turn-meant c.self.inside.problem.now c.self.inside.roster.nogoods c.self.inside.trail.present Quiet c.self.invariant.engine.problem c.self.invariant.engine.nogoods quiet.1)

pub returns-in-None-clause-counted : goal.returns-in-None-clause-counted
returns-in-None-clause-counted g c =
    let quiet = quiet-facts (all_placed c.self.inside.roster) (turn_order (posed c.self.inside.problem.now) c.self.inside.roster.nogoods) c.present-state.result.now c.self.inside.trail.present c.first_turn.new.debts.now (c.args.steps.now + owed_of c.self.inside.debts.now) (c.first_turn.new.steps + owed_of c.first_turn.new.debts.now)
    c.in_ok-found.found c.self.invariant.parts c.present-state.ensures c.in-None.is c.in_ok-found.ensures.searched in
    subst (λ (e : Propagation). (x : ℕ) × (c.first_turn.new.steps ≡ c.args.steps.now + x) × (x + owed_of c.first_turn.new.debts.now ≤ e.owed)) c.self.view_is
    (counted-quiet (owed_of c.self.inside.debts.now) c.args.steps.now c.first_turn.new.steps (owed_of c.first_turn.new.debts.now) c.first_turn.ensures.more quiet.0)

pub returns-in_ok-apply-in-Some-clause-meaning : goal.returns-in_ok-apply-in-Some-clause-meaning
returns-in_ok-apply-in-Some-clause-meaning g c =
    let found = found-facts (all_placed c.self.inside.roster) (turn_order (posed c.self.inside.problem.now) c.self.inside.roster.nogoods) c.present-state.result.now c.self.inside.trail.present c.first_turn.new.debts.now (c.args.steps.now + owed_of c.self.inside.debts.now) (c.first_turn.new.steps + owed_of c.first_turn.new.debts.now)
    c.in_ok-found.found c.in-Some.field-0-0 c.in-Some.turn c.self.invariant.parts c.present-state.ensures c.in-Some.is c.in_ok-found.ensures.searched in
    subst (λ (e : Propagation). IsTurnAt (parts_of e) e.present c.in-Some.turn) c.self.view_is
    (turn-meant c.self.inside.problem.now c.self.inside.roster.nogoods c.self.inside.trail.present c.in-Some.turn c.self.invariant.engine.problem c.self.invariant.engine.nogoods found.1.first)

pub returns-in_ok-apply-in-Some-clause-counted : goal.returns-in_ok-apply-in-Some-clause-counted
returns-in_ok-apply-in-Some-clause-counted g c =
    let found = found-facts (all_placed c.self.inside.roster) (turn_order (posed c.self.inside.problem.now) c.self.inside.roster.nogoods) c.present-state.result.now c.self.inside.trail.present c.first_turn.new.debts.now (c.args.steps.now + owed_of c.self.inside.debts.now) (c.first_turn.new.steps + owed_of c.first_turn.new.debts.now)
    c.in_ok-found.found c.in-Some.field-0-0 c.in-Some.turn c.self.invariant.parts c.present-state.ensures c.in-Some.is c.in_ok-found.ensures.searched in
    let sound : AreSound (length c.self.inside.problem.now.initial) (turn_order (posed c.self.inside.problem.now) c.self.inside.roster.nogoods) = problem-sound c.self.inside.problem.now c.self.inside.roster.nogoods c.self.invariant.engine.problem c.self.invariant.engine.nogoods in
    subst (λ (e : Propagation). (x : ℕ) × (c.first_turn.new.steps ≡ c.args.steps.now + x) × IsCounted (parts_of e) e.owed x (owed_of c.apply.new.debts.now) c.in-Some.turn) c.self.view_is
    (counted-step (length c.self.inside.problem.now.initial) (turn_order (posed c.self.inside.problem.now) c.self.inside.roster.nogoods) c.self.inside.occurrences c.first_turn.new.debts.now c.apply.new.debts.now c.self.inside.trail.present c.in-Some.field-0-0 c.in-Some.turn (owed_of c.self.inside.debts.now)
    c.args.steps.now c.first_turn.new.steps sound (sym c.self.invariant.known ∙ c.if-self.false) c.self.invariant.index (turn-atoms (length c.self.inside.problem.now.initial) (turn_order (posed c.self.inside.problem.now) c.self.inside.roster.nogoods) c.self.inside.trail.present c.in-Some.turn sound found.1.first) found.1 c.first_turn.ensures.more found.0
    c.in_ok-apply-in-Some.ensures.woken)
