-- One kept turn more.
use Rattle.std.proofs.Common.{◌≡◌, List, length, take, ap, ◌∙◌, subst, arith}
use Rattle.std.proofs.Math.Seq.{take-length}
use Rattle.dp_justify.specs.declared.kept.Kept.{Kept}
use Rattle.dp_process.specs.Processed.{inferences}
use Rattle.dp_process.specs.Writing.{AddsAll}
use Rattle.dp_process.proofs.WritingLaws.{turns-next}
use Rattle.dp_process.proofs.write.write_turns.Goals as goal

pub loop-turn-preserved : goal.loop-turn-preserved
loop-turn-preserved c =
    turns-next c.args.problem.now c.args.numbers.now c.args.writer.now c.loop-turn.writer c.write_turn.new.writer c.args.turns.now c.loop-turn.hints.items c.push.new.self.items c.loop-turn.turn-index c.turn-item.result c.in_ok-hint.hint
    c.loop-turn.invariant c.requires c.loop-turn-test.true c.turn-item.is c.in_ok-hint.ensures.written c.in_ok-hint.ensures.hint c.in_ok-hint.ensures.count c.in_ok-push.ensures.items

pub returns-clause-written : goal.returns-clause-written
returns-clause-written c =
    let all : c.loop-turn.turn-index ≡ length c.args.turns.now = omega arith in
    let whole : take c.loop-turn.turn-index c.args.turns.now ≡ c.args.turns.now = ap (λ n. take n c.args.turns.now) all ∙ take-length c.args.turns.now in
    subst (λ (turns : List Kept). AddsAll c.args.writer.now (inferences c.args.problem.now turns) c.loop-turn.writer) whole c.loop-turn.invariant.written
