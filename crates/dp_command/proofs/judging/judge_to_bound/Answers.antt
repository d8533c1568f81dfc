-- What is judged of an input, piece by piece.
use Rattle.std.proofs.Common.{◌++◌, ◌≤◌, length, take, drop, ◌∙◌, refl, sym, subst}
use Rattle.dp_desk.specs.Sight.{input}
use Rattle.dp_command.proofs.Taken.{changes-both, count-less, few-left, some-room, refused-judges, some-of, takes-both}
use Rattle.dp_command.proofs.judging.judge_to_bound.Goals as goal

pub returns-in-Some-clause-answer : goal.returns-in-Some-clause-answer
returns-in-Some-clause-answer g c =
    let read = c.loop-left.invariant.read in
    let refused = some-of _ c.in_ok-count.answer c.in-Some.answer c.in-Some.is c.in_ok-count.ensures.refused in
    refused-judges (g.J.LineJudge.due c.loop-left.judge) (g.J.LineJudge.due c.args.judge) g.J.LineJudge.refuses c.args.bound c.loop-left.left
    (input c.args.which (g.D.Desk.sight c.args.desk.now)) (input c.args.which (g.D.Desk.sight c.loop-left.desk)) (input c.args.which (g.D.Desk.sight c.judge_next.new.desk)) read.0 _ c.in-Some.answer
    read.1 c.in_ok-count.ensures.took read.3 (subst (λ n. n ≤ c.loop-left.left) (sym c.in_ok-count.ensures.count) (few-left c.in_ok-count.count c.min-most.result (length c.loop-left.piece) c.loop-left.left c.loop-left.piece c.in_ok-count.ensures.bound c.min-most.ensures)) c.loop-left.invariant.due refused.0 (λ more. refused.1 read.0 more read.2)

pub loop-left-preserved : goal.loop-left-preserved
loop-left-preserved g c =
    let read = c.loop-left.invariant.read in
    let piece = take c.in_ok-count.count c.judge_next.new.piece in
    record {
      read = (
        read.0 ++ piece,
        takes-both _ _ _ read.0 piece read.1 c.in_ok-count.ensures.took,
        c.in_ok-count.ensures.going c.in_default.is read.0 read.2,
        count-less read.0 piece c.in_ok-count.count c.loop-left.left c.args.bound read.3 c.in_ok-count.ensures.count (few-left c.in_ok-count.count c.min-most.result (length c.loop-left.piece) c.loop-left.left c.loop-left.piece c.in_ok-count.ensures.bound c.min-most.ensures),
      );
      due = λ text a h. c.loop-left.invariant.due text a (c.judge_next.ensures.same_due text a h);
      passed = λ front h. c.loop-left.invariant.passed front (c.judge_next.ensures.same_unrefused front h);
      room = some-room c.judge_next.new.piece (drop c.min-most.result c.loop-left.piece) c.loop-left.piece c.min-most.result (length c.loop-left.piece) c.loop-left.left c.loop-left.invariant.room c.min-most.ensures c.judge_next.ensures.len refl;
      others = changes-both c.args.which (g.D.Desk.sight c.args.desk.now) (g.D.Desk.sight c.loop-left.desk) (g.D.Desk.sight c.judge_next.new.desk) c.loop-left.invariant.others c.judge_next.ensures.rest;
      faults_in = c.in_ok-count.ensures.cause.kept ∙ c.loop-left.invariant.faults_in;
      faults_out = c.judge_next.ensures.other ∙ c.loop-left.invariant.faults_out;
    }
