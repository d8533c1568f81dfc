use Rattle.std.proofs.Common.{◌≡◌, ◌+◌, ◌<◌, ◌≤◌, false, [], List, length, slice_get, Some, None, refl, sym, ◌∙◌, ap, subst, arith}
use Rattle.std.proofs.lemmas.List.{length-set}
use Rattle.dp_engine.specs.Debts.{AreKept, History, rested}
use Rattle.dp_engine.specs.Placed.{IsSound, Placed}
use Rattle.dp_engine.specs.Rests.{Rest}
use Rattle.dp_engine.specs.Rosters.{all_placed}
use Rattle.dp_engine.specs.Turns.{turn_at}
use Rattle.dp_domain.specs.Turns.{turn_of}
use Rattle.dp_engine.specs.Woken.{IsFound, owed_of}
use Rattle.dp_engine.proofs.DebtLaws.{kept-rested}
use Rattle.dp_engine.proofs.SearchSteps.{Each-at}
use Rattle.dp_engine.proofs.StepLaws.{all-quiet, is-found, no-turn, part-there}
use Rattle.dp_engine.proofs.WokenLaws.{alike-turn, owed-rest, rest-one}
use Rattle.dp_engine.proofs.search.first_turn.Goals as goal

pub returns-in-Some-turn-clause-searched : goal.returns-in-Some-turn-clause-searched
returns-in-Some-turn-clause-searched g c =
    let count : length c.loop-place.debts.now ≡ length (all_placed c.args.roster.now) = c.loop-place.invariant.count ∙ c.requires.count in
    let first = c.in-Some.ensures.first in
    let w = part-there (all_placed c.args.roster.now) c.in-Some.place (subst (λ n. c.in-Some.place < n) count first.there) in
    let sum = c.loop-place.invariant.sum in
    let ticked = c.turn.ensures.ticked in
    let bound : c.turn.new.steps + owed_of c.loop-place.debts.now ≤ (c.args.steps.now + owed_of c.args.debts.now.now) + 1 = omega arith in
    subst (λ (h : History). (c.turn.new.steps + owed_of h.now ≤ (c.args.steps.now + owed_of c.args.debts.now.now) + 1) × IsFound (all_placed c.args.roster.now) c.args.state.now h.now c.in-Some.place c.in-Some-turn.turn) (sym c.first.ensures.same) (
      bound,
      is-found (all_placed c.args.roster.now) c.loop-place.debts.now c.args.state.now c.in-Some.place w.0 c.in-Some-turn.turn count c.requires.alive c.loop-place.invariant.rest first w.1
          (sym c.in-Some-turn.is ∙ c.in_ok-turn.ensures.turn w.0 w.1),
    )

pub loop-place-smaller : goal.loop-place-smaller
loop-place-smaller g c =
    let now : c.rest.new.self ≡ rested c.loop-place.debts c.in-Some.place = c.in_ok-rest-in-None.ensures.rested ∙ ap (λ (h : History). rested h c.in-Some.place) c.first.ensures.same in
    let less : owed_of c.rest.new.self.now + 1 ≡ owed_of c.loop-place.debts.now = ap (λ (h : History). owed_of h.now + 1) now ∙ owed-rest c.loop-place.debts.now c.in-Some.place c.in-Some.ensures.first.woken_there in
    let smaller : owed_of c.rest.new.self.now < owed_of c.loop-place.debts.now = omega arith in
    smaller

pub loop-place-preserved : goal.loop-place-preserved
loop-place-preserved g c =
    let now : c.rest.new.self ≡ rested c.loop-place.debts c.in-Some.place = c.in_ok-rest-in-None.ensures.rested ∙ ap (λ (h : History). rested h c.in-Some.place) c.first.ensures.same in
    let less : owed_of c.rest.new.self.now + 1 ≡ owed_of c.loop-place.debts.now = ap (λ (h : History). owed_of h.now + 1) now ∙ owed-rest c.loop-place.debts.now c.in-Some.place c.in-Some.ensures.first.woken_there in
    let sum = c.loop-place.invariant.sum in
    let more = c.loop-place.invariant.more in
    let ticked = c.turn.ensures.ticked in
    let none : (q : Placed) → slice_get (all_placed c.args.roster.now) c.in-Some.place ≡ Some q → turn_of q.face c.args.state.now ≡ None =
    λ q h. no-turn q.id (turn_of q.face c.args.state.now) (sym c.in-None.is ∙ c.in_ok-turn.ensures.turn q h) in
    record {
      count = ap (λ (h : History). length h.now) now ∙ length-set c.loop-place.debts.now c.in-Some.place false ∙ c.loop-place.invariant.count;
      lasting = ap (λ (h : History). h.lasting) now ∙ c.loop-place.invariant.lasting;
      rest = subst (λ (h : History). Rest (all_placed c.args.roster.now) h.now c.args.state.now) (sym now)
          (rest-one (length c.args.state.now) (all_placed c.args.roster.now) c.loop-place.debts.now c.args.state.now c.in-Some.place c.requires.sound refl c.requires.alive c.loop-place.invariant.rest none);
      earlier = λ past k. subst (λ (h : History). AreKept (all_placed c.args.roster.now) h.lasting h.notes [] h.now c.args.state.now past) (sym now)
          (kept-rested (all_placed c.args.roster.now) c.loop-place.debts c.in-Some.place c.args.state.now past c.in-Some.ensures.first.there c.in-Some.ensures.first.woken_there
          (λ q h f m alive g. alike-turn (length c.args.state.now) q c.args.state.now f (Each-at (IsSound (length c.args.state.now)) (all_placed c.args.roster.now) c.in-Some.place q c.requires.sound h) refl m c.requires.alive alive g ∙ none q h)
          (c.loop-place.invariant.earlier past k));
      more = omega arith;
      sum = omega arith;
    }

pub returns-clause-searched : goal.returns-clause-searched
returns-clause-searched g c =
    let count : length c.loop-place.debts.now ≡ length (all_placed c.args.roster.now) = c.loop-place.invariant.count ∙ c.requires.count in
    let sum = c.loop-place.invariant.sum in
    let same : owed_of c.first.new.self.now ≡ owed_of c.loop-place.debts.now = ap (λ (h : History). owed_of h.now) c.first.ensures.same in
    (omega arith, all-quiet (all_placed c.args.roster.now) c.loop-place.debts.now c.args.state.now count c.requires.alive c.loop-place.invariant.rest c.in_default.ensures.first)
