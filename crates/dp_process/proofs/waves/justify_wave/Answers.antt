-- One answer more is taken in.
use Rattle.std.proofs.Common.{◌<◌, length, arith, ◌∙◌, ap}
use Rattle.std.specs.Prelude.{map}
use Rattle.dp_justify.specs.Pieces.{justification}
use Rattle.dp_parts.specs.Problems.{posed}
use Rattle.dp_process.proofs.MarkLaws.{AreGiven}
use Rattle.dp_process.proofs.TakeLaws.{some-found, taking-answer, taking-marked, taking-next, taking-start, wave-within}
use Rattle.dp_process.proofs.WaveLaws.{answer-within, marked-within}
use Rattle.dp_process.proofs.WaveSteps.{zip-mapped}
use Rattle.dp_process.proofs.waves.justify_wave.Goals as goal

pub loop-place-init : goal.loop-place-init
loop-place-init g c =
    let justify = justification (posed c.args.index.now.problem) c.args.index.now.nogoods in
    taking-start (posed c.args.index.now.problem) c.args.index.now.nogoods c.args.found.now c.args.places.items c.in_ok-answers.answers.items c.requires.found c.requires.wave
    (zip-mapped justify c.args.places.items c.in_ok-answers.answers.items (c.in_ok-answers.ensures.answers ∙ ap (map justify) c.as_slice.ensures.value))

pub settle-requires-clause-place : goal.settle-requires-clause-place
settle-requires-clause-place g c =
    let marked = taking-marked c.args.index.now.problem c.args.index.now.nogoods c.args.found.now c.loop-place.found c.args.places.items c.loop-place.places.items c.pop.new.self.items
    c.loop-place.answers.items c.take_last-answer.new.pieces.items c.in-Some.place c.take_last-answer.result
    (record { problem = c.problem-problem.ensures.index.problem; variables = c.problem-problem.ensures.index.nogoods; some = some-found (posed c.args.index.now.problem) c.args.index.now.nogoods c.args.found.now c.requires.found })
    c.loop-place.invariant c.in-Some.ensures.items c.take_last-answer.ensures in
    let within : c.in-Some.place < length c.loop-place.found.marks.items = marked-within c.loop-place.found c.in-Some.place marked in
    omega (arith, c.loop-place.invariant.found.marks, c.loop-place.invariant.found.pieces)

pub settle-requires-clause-uses : goal.settle-requires-clause-uses
settle-requires-clause-uses g c =
    let given : AreGiven c.args.index.now.problem c.args.index.now.nogoods =
    record { problem = c.problem-problem.ensures.index.problem; variables = c.problem-problem.ensures.index.nogoods; some = some-found (posed c.args.index.now.problem) c.args.index.now.nogoods c.args.found.now c.requires.found } in
    answer-within c.args.index.now.problem c.args.index.now.nogoods c.loop-place.found c.in-Some.place c.take_last-answer.result given c.loop-place.invariant.found
    (taking-marked c.args.index.now.problem c.args.index.now.nogoods c.args.found.now c.loop-place.found c.args.places.items c.loop-place.places.items c.pop.new.self.items
    c.loop-place.answers.items c.take_last-answer.new.pieces.items c.in-Some.place c.take_last-answer.result given c.loop-place.invariant c.in-Some.ensures.items c.take_last-answer.ensures)
    (taking-answer c.args.index.now.problem c.args.index.now.nogoods c.args.found.now c.loop-place.found c.args.places.items c.loop-place.places.items c.pop.new.self.items
    c.loop-place.answers.items c.take_last-answer.new.pieces.items c.in-Some.place c.take_last-answer.result given c.loop-place.invariant c.in-Some.ensures.items c.take_last-answer.ensures)

pub loop-place-preserved : goal.loop-place-preserved
loop-place-preserved g c =
    taking-next c.args.index.now.problem c.args.index.now.nogoods c.args.found.now c.loop-place.found c.args.places.items c.loop-place.places.items c.pop.new.self.items
    c.loop-place.answers.items c.take_last-answer.new.pieces.items c.in-Some.place c.take_last-answer.result
    (record { problem = c.problem-problem.ensures.index.problem; variables = c.problem-problem.ensures.index.nogoods; some = some-found (posed c.args.index.now.problem) c.args.index.now.nogoods c.args.found.now c.requires.found })
    c.loop-place.invariant c.in-Some.ensures.items c.take_last-answer.ensures c.settle.new.found c.settle.ensures

pub answers_of-requires-clause-places : goal.answers_of-requires-clause-places
answers_of-requires-clause-places g c κs within = wave-within c.args.found.now (length c.args.index.now.nogoods) c.as_slice.result.now (c.as_slice.ensures.value ∙ c.requires.wave)
