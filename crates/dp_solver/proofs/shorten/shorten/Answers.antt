-- What still fails without an atom is a shorter nogood.
use Rattle.std.proofs.Common.{◌≡◌, ◌+◌, ◌<◌, List, length, sym, ◌∙◌, ap, subst, arith}
use Rattle.std.specs.List.{remove}
use Rattle.std.proofs.lemmas.List.Edits.{length-remove}
use Rattle.dp_domain.specs.Atoms.{Atomic}
use Rattle.dp_domain.specs.States.{cut_all}
use Rattle.dp_engine.specs.Engines.{parts_of}
use Rattle.dp_engine.specs.Runs.{fails}
use Rattle.dp_solver.specs.Descents.{IsLearnable}
use Rattle.dp_solver.specs.Marks.{asked, state_at}
use Rattle.dp_solver.proofs.DescentSteps.{on-engine, propagated, removed-on, shorter-learnable}
use Rattle.dp_solver.proofs.MarkSteps.{on-kept}
use Rattle.dp_solver.proofs.shorten.shorten.Goals as goal

pub propagate-requires-clause-atoms : goal.propagate-requires-clause-atoms
propagate-requires-clause-atoms c =
    on-engine (asked c.args.task.now) c.args.root c.loop-place.engine (remove c.loop-place.atoms.items c.loop-place.place) c.as_slice-in-loop-place.result.now c.loop-place.invariant.engine
    (c.as_slice-in-loop-place.ensures.value ∙ c.in_ok-shorter.ensures ∙ ap (λ (xs : List Atomic). remove xs c.loop-place.place) c.as_slice.ensures.value)
    (removed-on (asked c.args.task.now) c.loop-place.engine.nogoods c.loop-place.atoms.items c.loop-place.place c.loop-place.invariant.atoms)

pub loop-place-smaller-then-branch : goal.loop-place-smaller-then-branch
loop-place-smaller-then-branch c =
    let is = c.in_ok-shorter.ensures ∙ ap (λ (xs : List Atomic). remove xs c.loop-place.place) c.as_slice.ensures.value in
    let below : c.loop-place.place < length c.loop-place.atoms.items = omega (arith, c.loop-place-test.true, c.len.ensures) in
    let count : length c.in_ok-shorter.shorter.items + 1 ≡ length c.loop-place.atoms.items = ap (λ (xs : List Atomic). length xs + 1) is ∙ length-remove c.loop-place.atoms.items c.loop-place.place below in
    omega (arith, count, below)

pub loop-place-preserved-then-branch : goal.loop-place-preserved-then-branch
loop-place-preserved-then-branch c =
    let is = c.in_ok-shorter.ensures ∙ ap (λ (xs : List Atomic). remove xs c.loop-place.place) c.as_slice.ensures.value in
    let few : c.loop-place.place + 1 < length c.loop-place.atoms.items = omega (arith, c.loop-place-test.true, c.len.ensures) in
    let below : c.loop-place.place < length c.loop-place.atoms.items = omega (arith, few) in
    let count : length c.in_ok-shorter.shorter.items + 1 ≡ length c.loop-place.atoms.items = ap (λ (xs : List Atomic). length xs + 1) is ∙ length-remove c.loop-place.atoms.items c.loop-place.place below in
    let given = c.as_slice-in-loop-place.ensures.value ∙ is in record {
      engine = on-kept (asked c.args.task.now) c.args.root c.loop-place.engine c.propagate.new.engine c.loop-place.invariant.engine c.propagate.ensures.parts c.propagate.ensures.states;
      nogoods = c.propagate.ensures.parts.nogoods ∙ c.loop-place.invariant.nogoods;
      atoms = subst (λ (ns : List (List Atomic)). IsLearnable (asked c.args.task.now) ns c.in_ok-shorter.shorter.items) (sym c.propagate.ensures.parts.nogoods)
          (subst (IsLearnable (asked c.args.task.now) c.loop-place.engine.nogoods) (sym is)
          (shorter-learnable (asked c.args.task.now) c.loop-place.engine c.loop-place.atoms.items c.loop-place.place c.loop-place.invariant.engine.engine c.loop-place.invariant.atoms few
          (propagated (asked c.args.task.now) c.args.root c.loop-place.engine (remove c.loop-place.atoms.items c.loop-place.place) _ _ c.loop-place.invariant.engine
          (subst (λ (xs : List Atomic). c.in_ok-propagate.field-0 ≡ fails (parts_of c.loop-place.engine) (cut_all (state_at c.args.root c.loop-place.engine) xs)) given c.in_ok-propagate.ensures.failed) c.if-branch.true)));
      place = omega (arith, few, count);
    }
