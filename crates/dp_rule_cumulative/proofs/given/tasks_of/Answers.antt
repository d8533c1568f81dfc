-- Each place adds its task, and in the end each task is there.
use Rattle.std.proofs.Common.{◌∙◌, ap, get_or, pos, rules}
use Rattle.std.specs.Prelude.{FitsSigned, unsigned_abs}
use Rattle.std.proofs.lemmas.Int.{to_z-of_z}
use mir.Syntax.{w64}
use Rattle.dp_rule_cumulative.proofs.MadeSteps.{made_all, made_push}
use Rattle.dp_rule_cumulative.proofs.given.tasks_of.Goals as goal

pub loop-place-preserved : goal.loop-place-preserved
loop-place-preserved c =
    let duration : FitsSigned w64 (get_or c.args.durations.now c.loop-place.place (pos 0)) = search rules in
    let usage : FitsSigned w64 (get_or c.args.uses.now c.loop-place.place (pos 0)) = search rules in
    made_push c.args.starts.now c.args.durations.now c.args.uses.now c.loop-place.place c.loop-place.tasks.items _ c.index-starts-place.result _ _
    c.requires.durations c.requires.uses c.loop-place-test.true c.index-starts-place.is c.loop-place.invariant
    (c.unsigned_abs.ensures.value ∙ ap unsigned_abs (to_z-of_z w64 _ duration))
    (c.unsigned_abs-in-loop-place.ensures.value ∙ ap unsigned_abs (to_z-of_z w64 _ usage))
    c.in_ok-push.ensures.items

pub returns : goal.returns
returns c = made_all c.args.starts.now c.args.durations.now c.args.uses.now c.loop-place.place _ c.requires.durations c.requires.uses c.loop-place-test.false c.loop-place.invariant
