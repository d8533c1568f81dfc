use Rattle.std.proofs.Common.{◌≡◌, ◌+◌, ◌-◌, ◌<◌, List, ◌++◌, length, map, Some, slice_get, OnOk, sym, ◌∙◌, ap, subst, arith, length-append}
use Rattle.dp_domain.specs.Atoms.{Atomic}
use Rattle.dp_rule_clause.specs.Nogoods.{face_nogood}
use Rattle.dp_engine.specs.declared.part_id.PartId.TheVariants.{Nogood}
use Rattle.dp_engine.specs.Placed.{IsSound, Placed}
use Rattle.dp_engine.specs.Rosters.{Listed, all_placed, placed_at}
use Rattle.dp_engine.specs.Woken.{entered}
use Rattle.dp_engine.proofs.RosterLaws.{length-placed, model-at, nogood-at, one-part, turn-at_place}
use Rattle.dp_engine.proofs.SearchSteps.{Each-at}
use Rattle.dp_engine.proofs.roster.Roster.turn.Goals as goal

pub next-requires-clause-covers : goal.next-requires-clause-covers
next-requires-clause-covers g c =
    let at : slice_get (all_placed c.args.self.now) c.args.place ≡ Some (placed_at (c.entry_at-entry.result.id, c.entry_at-entry.result.part.now)) =
    subst (λ (l : Listed). slice_get (all_placed l) c.args.place ≡ Some (placed_at (c.entry_at-entry.result.id, c.entry_at-entry.result.part.now))) c.self.view_is
    (model-at c.self.inside.model.now (λ e. (e.id, e.part.now)) (c.self.inside.given.now ++ c.self.inside.added.items) c.args.place c.entry_at-entry.result
    c.entry_at-entry.ensures) in
    (Each-at (IsSound (length c.args.state.now)) (all_placed c.args.self.now) c.args.place (placed_at (c.entry_at-entry.result.id, c.entry_at-entry.result.part.now)) c.requires.sound at).covered

pub nogood_at-nogood-requires : goal.nogood_at-nogood-requires
nogood_at-nogood-requires g c =
    let there : c.args.place < length (all_placed (record { model = map (λ e. (e.id, e.part.now)) c.self.inside.model.now; nogoods = c.self.inside.given.now ++ c.self.inside.added.items })) =
    subst (λ (l : Listed). c.args.place < length (all_placed l)) (sym c.self.view_is) c.requires.there in
    let count = length-placed c.self.inside.model.now (λ e. (e.id, e.part.now)) (c.self.inside.given.now ++ c.self.inside.added.items) in
    let same = ap (λ (ns : List (List Atomic)). length (c.self.inside.given.now ++ ns)) c.as_slice.ensures.value in
    omega arith

pub next-requires-else-place-self-clause-covers : goal.next-requires-else-place-self-clause-covers
next-requires-else-place-self-clause-covers g c =
    let place : c.args.place ≡ length c.self.inside.model.now + (c.args.place - length c.self.inside.model.now) = omega arith in
    let at : slice_get (all_placed c.args.self.now) c.args.place ≡ Some (record { id = Nogood (c.args.place - length c.self.inside.model.now); face = face_nogood c.nogood_at-nogood.result.now }) =
    subst (λ (l : Listed). slice_get (all_placed l) c.args.place ≡ Some (record { id = Nogood (c.args.place - length c.self.inside.model.now); face = face_nogood c.nogood_at-nogood.result.now })) c.self.view_is
    (nogood-at c.self.inside.model.now (λ e. (e.id, e.part.now)) (c.self.inside.given.now ++ c.self.inside.added.items) c.args.place (c.args.place - length c.self.inside.model.now) c.nogood_at-nogood.result.now place
    (subst (λ (ns : List (List Atomic)). slice_get (c.self.inside.given.now ++ ns) (c.args.place - length c.self.inside.model.now) ≡ Some c.nogood_at-nogood.result.now) c.as_slice.ensures.value c.nogood_at-nogood.ensures)) in
    (Each-at (IsSound (length c.args.state.now)) (all_placed c.args.self.now) c.args.place (record { id = Nogood (c.args.place - length c.self.inside.model.now); face = face_nogood c.nogood_at-nogood.result.now }) c.requires.sound at).covered

pub overflow_cast-at : goal.overflow_cast-at
overflow_cast-at g c =
    let there : c.args.place < length (all_placed (record { model = map (λ e. (e.id, e.part.now)) c.self.inside.model.now; nogoods = c.self.inside.given.now ++ c.self.inside.added.items })) =
    subst (λ (l : Listed). c.args.place < length (all_placed l)) (sym c.self.view_is) c.requires.there in
    let count = length-placed c.self.inside.model.now (λ e. (e.id, e.part.now)) (c.self.inside.given.now ++ c.self.inside.added.items) in
    omega (arith, c.self.invariant)

pub returns-in_ok-found-clause-turn : goal.returns-in_ok-found-clause-turn
returns-in_ok-found-clause-turn g c =
    let at : slice_get (all_placed c.args.self.now) c.args.place ≡ Some (placed_at (c.entry_at-entry.result.id, c.entry_at-entry.result.part.now)) =
    subst (λ (l : Listed). slice_get (all_placed l) c.args.place ≡ Some (placed_at (c.entry_at-entry.result.id, c.entry_at-entry.result.part.now))) c.self.view_is
    (model-at c.self.inside.model.now (λ e. (e.id, e.part.now)) (c.self.inside.given.now ++ c.self.inside.added.items) c.args.place c.entry_at-entry.result
    c.entry_at-entry.ensures) in
    λ q h. turn-at_place (all_placed c.args.self.now) c.args.place (placed_at (c.entry_at-entry.result.id, c.entry_at-entry.result.part.now)) q c.args.state.now c.told_if.result c.in_ok-found.found at h
    c.told_if.ensures c.in_ok-found.ensures.turn

pub returns-in_ok-found-2-clause-turn : goal.returns-in_ok-found-2-clause-turn
returns-in_ok-found-2-clause-turn g c =
    let place : c.args.place ≡ length c.self.inside.model.now + (c.args.place - length c.self.inside.model.now) = omega arith in
    let at : slice_get (all_placed c.args.self.now) c.args.place ≡ Some (record { id = Nogood (c.args.place - length c.self.inside.model.now); face = face_nogood c.nogood_at-nogood.result.now }) =
    subst (λ (l : Listed). slice_get (all_placed l) c.args.place ≡ Some (record { id = Nogood (c.args.place - length c.self.inside.model.now); face = face_nogood c.nogood_at-nogood.result.now })) c.self.view_is
    (nogood-at c.self.inside.model.now (λ e. (e.id, e.part.now)) (c.self.inside.given.now ++ c.self.inside.added.items) c.args.place (c.args.place - length c.self.inside.model.now) c.nogood_at-nogood.result.now place
    (subst (λ (ns : List (List Atomic)). slice_get (c.self.inside.given.now ++ ns) (c.args.place - length c.self.inside.model.now) ≡ Some c.nogood_at-nogood.result.now) c.as_slice.ensures.value c.nogood_at-nogood.ensures)) in
    λ q h. turn-at_place (all_placed c.args.self.now) c.args.place (record { id = Nogood (c.args.place - length c.self.inside.model.now); face = face_nogood c.nogood_at-nogood.result.now }) q c.args.state.now
    c.told_if-else-place-self.result c.in_ok-found-2.found at h c.told_if-else-place-self.ensures c.in_ok-found-2.ensures.turn
