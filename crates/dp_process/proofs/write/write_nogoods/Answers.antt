-- One nogood more.
use Rattle.std.proofs.Common.{◌≡◌, ℕ, ◌+◌, ◌<◌, ◌≤◌, Bool, true, false, cond, List, length, refl, sym, ◌∙◌, ap, subst, arith}
use Rattle.std.specs.Prelude.{IfSome}
use Rattle.std.specs.Int.{from_bool}
use Rattle.dp_base.specs.Lists.{Each}
use Rattle.dp_parts.specs.Problems.{posed}
use Rattle.dp_process.specs.Processed.{met_below}
use Rattle.dp_process.specs.Writing.{AddsAll, IsWritable, numbered, steps_from}
use Rattle.dp_process.proofs.LogLaws.{below-next, below-writable, met-few, piece-next, some-left}
use Rattle.dp_process.proofs.write.write_nogoods.Goals as goal

from_is : (b : Bool) → from_bool b ≡ cond b 1 0
from_is true = refl
from_is false = refl

from_few : (b : Bool) → from_bool b ≤ 1
from_few true = omega arith
from_few false = omega arith

pub take_last-piece-requires : goal.take_last-piece-requires
take_last-piece-requires c = some-left (posed c.args.problem.now) c.args.nogoods.now c.loop-place.place c.loop-place.pieces.items c.loop-place-test.true c.loop-place.invariant.left

pub overflow_add-counts : goal.overflow_add-counts
overflow_add-counts c =
    let few : met_below c.args.problem.now c.args.nogoods.now c.loop-place.place ≤ c.loop-place.place = met-few c.args.problem.now c.args.nogoods.now c.loop-place.place in
    let one : from_bool c.is_some.result ≤ 1 = from_few c.is_some.result in
    omega (arith, c.from.ensures, c.loop-place.invariant.found)

pub write_piece-requires-clause-piece : goal.write_piece-requires-clause-piece
write_piece-requires-clause-piece c =
    let some : 0 < length c.args.nogoods.now = omega arith in
    let next = piece-next (posed c.args.problem.now) c.args.nogoods.now c.loop-place.place c.loop-place.pieces.items c.take_last-piece.new.pieces.items c.take_last-piece.result
    c.loop-place-test.true c.loop-place.invariant.left c.take_last-piece.ensures in
    subst (λ (numbers : List ℕ). IfSome c.take_last-piece.result (λ q. Each (IsWritable c.args.problem.now numbers c.loop-place.counts.steps) q.steps)) (sym c.as_slice.ensures.value)
    (below-writable c.args.problem.now c.args.nogoods.now c.loop-place.place c.loop-place.writer c.loop-place.numbers.items c.loop-place.counts.nogoods c.loop-place.counts.steps c.loop-place.pieces.items c.take_last-piece.result
    (record { problem = c.requires.problem; variables = c.requires.nogoods; some = some }) c.loop-place.invariant c.loop-place-test.true next.0)

pub loop-place-preserved : goal.loop-place-preserved
loop-place-preserved c =
    let some : 0 < length c.args.nogoods.now = omega arith in
    let next = piece-next (posed c.args.problem.now) c.args.nogoods.now c.loop-place.place c.loop-place.pieces.items c.take_last-piece.new.pieces.items c.take_last-piece.result
    c.loop-place-test.true c.loop-place.invariant.left c.take_last-piece.ensures in
    below-next c.args.problem.now c.args.nogoods.now c.loop-place.place c.loop-place.writer c.write_piece.new.writer c.loop-place.numbers.items c.push.new.self.items
    c.loop-place.counts.nogoods (c.loop-place.counts.nogoods + c.from.result) c.loop-place.counts.steps c.in_ok-steps.steps c.loop-place.pieces.items c.take_last-piece.new.pieces.items c.take_last-piece.result c.index-nogoods-place.result
    (record { problem = c.requires.problem; variables = c.requires.nogoods; some = some }) c.requires.justified c.loop-place.invariant c.loop-place-test.true next.0 next.1 c.index-nogoods-place.is
    (subst (λ (numbers : List ℕ). AddsAll c.loop-place.writer (steps_from c.args.problem.now (numbered numbers) c.loop-place.counts.steps c.index-nogoods-place.result c.take_last-piece.result) c.write_piece.new.writer)
    c.as_slice.ensures.value c.in_ok-steps.ensures.written)
    c.in_ok-steps.ensures.count c.in_ok-steps.ensures.steps c.in_ok-push.ensures.items
    (ap (λ (n : ℕ). c.loop-place.counts.nogoods + n) (c.from.ensures ∙ from_is c.is_some.result ∙ ap (λ (b : Bool). cond b 1 0) c.is_some.ensures))
