-- One place further down.
use Rattle.std.proofs.Common.{◌≡◌, ◌-◌, ◌&&◌, ◌||◌, false, get_or, length, nat_eq, rules, arith, refl, sym, ◌∙◌, ap, subst}
use Rattle.std.specs.List.{list_any}
use Rattle.dp_engine.specs.Indexes.{Indexed, IsOver}
use Rattle.dp_engine.proofs.SeenLaws.{all-over}
use Rattle.dp_justify.specs.Pieces.{justification}
use Rattle.dp_parts.specs.Problems.{posed}
use Rattle.dp_process.specs.Marks.{AreJustified, AreMarked, outcome_of, pieces_down}
use Rattle.dp_process.specs.Met.{uses_at}
use Rattle.dp_process.proofs.MarkLaws.{down-fails, down-next}
use Rattle.dp_process.proofs.met.justify_down.Goals as goal

pub loop-above-init : goal.loop-above-init
loop-above-init c = record {
  over = subst (λ (i : Indexed). IsOver i c.in_ok-engine.engine) c.in_ok-index.ensures (all-over c.in_ok-index.index c.in_ok-engine.engine c.in_ok-engine.ensures);
  down = search rules;
}

pub justify_place-requires-clause-over : goal.justify_place-requires-clause-over
justify_place-requires-clause-over c = subst (λ (i : Indexed). IsOver i c.loop-above.engine) (sym c.in_ok-index.ensures) c.loop-above.invariant.over

pub justify_place-requires-clause-marks : goal.justify_place-requires-clause-marks
justify_place-requires-clause-marks c = c.loop-above.invariant.down.count ∙ ap (λ (i : Indexed). length i.nogoods) (sym c.in_ok-index.ensures)

pub returns-in-Fails : goal.returns-in-Fails
returns-in-Fails c =
    let place = length c.args.nogoods.now - 1 - c.loop-above.above in
    down-fails c.args.problem.now c.args.nogoods.now c.loop-above.above place c.loop-above.marks.items c.loop-above.pieces.items c.in_ok-piece.field-0
    (record { problem = c.initial-initial.ensures.problem; variables = c.requires.nogoods; some = c.requires.some })
    c.loop-above.invariant.down c.loop-above-test.true refl
    (c.in_ok-piece.ensures.outcome ∙ ap (λ (i : Indexed). outcome_of (get_or c.loop-above.marks.items place false) (justification (posed i.problem) i.nogoods place)) c.in_ok-index.ensures)
    c.in-Fails.is

pub loop-above-preserved : goal.loop-above-preserved
loop-above-preserved c =
    let place = length c.args.nogoods.now - 1 - c.loop-above.above in
    record {
      over = subst (λ (i : Indexed). IsOver i c.justify_place.new.engine) c.in_ok-index.ensures c.in_ok-piece.ensures.over;
      down = down-next c.args.problem.now c.args.nogoods.now c.loop-above.above place c.loop-above.marks.items c.justify_place.new.marks.items
          c.loop-above.pieces.items c.push.new.self.items c.in_ok-piece.field-0 c.in-Passes.piece
          (record { problem = c.initial-initial.ensures.problem; variables = c.requires.nogoods; some = c.requires.some })
          c.loop-above.invariant.down c.loop-above-test.true refl
          (c.in_ok-piece.ensures.outcome ∙ ap (λ (i : Indexed). outcome_of (get_or c.loop-above.marks.items place false) (justification (posed i.problem) i.nogoods place)) c.in_ok-index.ensures)
          c.in-Passes.is c.in_ok-piece.ensures.count
          (subst (λ (x : Indexed). AreMarked c.justify_place.new.marks.items (λ i. get_or c.loop-above.marks.items i false || (get_or c.loop-above.marks.items place false && list_any (nat_eq i) (uses_at (posed x.problem) x.nogoods place))))
          c.in_ok-index.ensures c.in_ok-piece.ensures.marks)
          c.in_ok-push-in-Passes.ensures.items;
    }

pub returns : goal.returns
returns c =
    let done : c.loop-above.above ≡ length c.args.nogoods.now = omega (arith, c.loop-above-test.false, c.loop-above.auto.above-end) in
    let none : length c.args.nogoods.now - c.loop-above.above ≡ 0 = omega arith in (
      subst (AreJustified (posed c.args.problem.now) c.args.nogoods.now) none c.loop-above.invariant.down.justified,
      c.loop-above.invariant.down.found ∙ ap (pieces_down (posed c.args.problem.now) c.args.nogoods.now) done,
    )
