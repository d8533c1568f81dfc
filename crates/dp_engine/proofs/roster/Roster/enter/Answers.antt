use Rattle.std.proofs.Common.{◌≡◌, ◌+◌, ◌-◌, ◌<◌, List, ◌++◌, length, map, Some, slice_get, OnOk, sym, ◌∙◌, ap, subst, arith, length-append}
use Rattle.dp_domain.specs.Atoms.{Atomic}
use Rattle.dp_rule_clause.specs.Nogoods.{face_nogood}
use Rattle.dp_engine.specs.declared.part_id.PartId.TheVariants.{Nogood}
use Rattle.dp_engine.specs.Placed.{IsSound, Placed}
use Rattle.dp_engine.specs.Rosters.{Listed, all_placed, placed_at}
use Rattle.dp_engine.specs.Woken.{entered}
use Rattle.dp_engine.proofs.RosterLaws.{length-placed, model-at, nogood-at, one-part, turn-at_place}
use Rattle.dp_engine.proofs.SearchSteps.{Each-at}
use Rattle.dp_engine.proofs.roster.Roster.enter.Goals as goal

pub enter-requires : goal.enter-requires
enter-requires c =
    let at : slice_get (all_placed c.args.self.now) c.args.place ≡ Some (placed_at (c.entry_at-entry.result.id, c.entry_at-entry.result.part.now)) =
    subst (λ (l : Listed). slice_get (all_placed l) c.args.place ≡ Some (placed_at (c.entry_at-entry.result.id, c.entry_at-entry.result.part.now))) c.self.view_is
    (model-at c.self.inside.model.now (λ e. (e.id, e.part.now)) (c.self.inside.given.now ++ c.self.inside.added.items) c.args.place c.entry_at-entry.result
    c.entry_at-entry.ensures) in
    (Each-at (IsSound (length c.args.occurrences.now)) (all_placed c.args.self.now) c.args.place (placed_at (c.entry_at-entry.result.id, c.entry_at-entry.result.part.now)) c.requires.sound at).covered

pub nogood_at-nogood-requires : goal.nogood_at-nogood-requires
nogood_at-nogood-requires c =
    let there : c.args.place < length (all_placed (record { model = map (λ e. (e.id, e.part.now)) c.self.inside.model.now; nogoods = c.self.inside.given.now ++ c.self.inside.added.items })) =
    subst (λ (l : Listed). c.args.place < length (all_placed l)) (sym c.self.view_is) c.requires.there in
    let count = length-placed c.self.inside.model.now (λ e. (e.id, e.part.now)) (c.self.inside.given.now ++ c.self.inside.added.items) in
    let same = ap (λ (ns : List (List Atomic)). length (c.self.inside.given.now ++ ns)) c.as_slice.ensures.value in
    omega arith

pub enter-requires-else-place-self : goal.enter-requires-else-place-self
enter-requires-else-place-self c =
    let place : c.args.place ≡ length c.self.inside.model.now + (c.args.place - length c.self.inside.model.now) = omega arith in
    let at : slice_get (all_placed c.args.self.now) c.args.place ≡ Some (record { id = Nogood (c.args.place - length c.self.inside.model.now); face = face_nogood c.nogood_at-nogood.result.now }) =
    subst (λ (l : Listed). slice_get (all_placed l) c.args.place ≡ Some (record { id = Nogood (c.args.place - length c.self.inside.model.now); face = face_nogood c.nogood_at-nogood.result.now })) c.self.view_is
    (nogood-at c.self.inside.model.now (λ e. (e.id, e.part.now)) (c.self.inside.given.now ++ c.self.inside.added.items) c.args.place (c.args.place - length c.self.inside.model.now) c.nogood_at-nogood.result.now place
    (subst (λ (ns : List (List Atomic)). slice_get (c.self.inside.given.now ++ ns) (c.args.place - length c.self.inside.model.now) ≡ Some c.nogood_at-nogood.result.now) c.as_slice.ensures.value c.nogood_at-nogood.ensures)) in
    (Each-at (IsSound (length c.args.occurrences.now)) (all_placed c.args.self.now) c.args.place (record { id = Nogood (c.args.place - length c.self.inside.model.now); face = face_nogood c.nogood_at-nogood.result.now }) c.requires.sound at).covered

pub returns-then-place-self : goal.returns-then-place-self
returns-then-place-self c =
    let at : slice_get (all_placed c.args.self.now) c.args.place ≡ Some (placed_at (c.entry_at-entry.result.id, c.entry_at-entry.result.part.now)) =
    subst (λ (l : Listed). slice_get (all_placed l) c.args.place ≡ Some (placed_at (c.entry_at-entry.result.id, c.entry_at-entry.result.part.now))) c.self.view_is
    (model-at c.self.inside.model.now (λ e. (e.id, e.part.now)) (c.self.inside.given.now ++ c.self.inside.added.items) c.args.place c.entry_at-entry.result
    c.entry_at-entry.ensures) in
    record {
      entered = λ q h. subst (λ (r : Placed). OnOk c.enter.result (c.enter.new.self ≡ entered c.args.occurrences.now c.args.place r.face.scope))
          (one-part (all_placed c.args.self.now) c.args.place (placed_at (c.entry_at-entry.result.id, c.entry_at-entry.result.part.now)) q at h) c.enter.ensures.entered;
    }

pub returns-else-place-self : goal.returns-else-place-self
returns-else-place-self c =
    let place : c.args.place ≡ length c.self.inside.model.now + (c.args.place - length c.self.inside.model.now) = omega arith in
    let at : slice_get (all_placed c.args.self.now) c.args.place ≡ Some (record { id = Nogood (c.args.place - length c.self.inside.model.now); face = face_nogood c.nogood_at-nogood.result.now }) =
    subst (λ (l : Listed). slice_get (all_placed l) c.args.place ≡ Some (record { id = Nogood (c.args.place - length c.self.inside.model.now); face = face_nogood c.nogood_at-nogood.result.now })) c.self.view_is
    (nogood-at c.self.inside.model.now (λ e. (e.id, e.part.now)) (c.self.inside.given.now ++ c.self.inside.added.items) c.args.place (c.args.place - length c.self.inside.model.now) c.nogood_at-nogood.result.now place
    (subst (λ (ns : List (List Atomic)). slice_get (c.self.inside.given.now ++ ns) (c.args.place - length c.self.inside.model.now) ≡ Some c.nogood_at-nogood.result.now) c.as_slice.ensures.value c.nogood_at-nogood.ensures)) in
    record {
      entered = λ q h. subst (λ (r : Placed). OnOk c.enter-else-place-self.result (c.enter-else-place-self.new.self ≡ entered c.args.occurrences.now c.args.place r.face.scope))
          (one-part (all_placed c.args.self.now) c.args.place (record { id = Nogood (c.args.place - length c.self.inside.model.now); face = face_nogood c.nogood_at-nogood.result.now }) q at h) c.enter-else-place-self.ensures.entered;
    }
