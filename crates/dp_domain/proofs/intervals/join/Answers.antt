-- The interval joins the last, or follows.
use Rattle.std.proofs.Common.{rules, FitsSigned, w64, arith}
use Rattle.std.proofs.lemmas.Int.{clamps, ints}
use Rattle.dp_domain.proofs.UnionSteps.{join_after, join_first, join_last, none_left}
use Rattle.dp_domain.proofs.intervals.join.Goals as goal

pub returns-in_ok-push-in-Some : goal.returns-in_ok-push-in-Some
returns-in_ok-push-in-Some c =
    let start : FitsSigned w64 c.in-Some.start = search rules in
    let end : FitsSigned w64 c.in-Some.end = search rules in
    let test = c.if-first-end.true in
    let greater = c.max.ensures.value in
    join_last _ _ _ _ c.args.interval _ _ _ _ c.requires.begun c.requires.small c.pop.ensures.items c.in-Some.is (omega (arith, ints)) (omega (arith, ints)) (omega (arith, ints, clamps)) c.in_ok-push-in-Some.ensures.ok

pub returns-in_ok-push-in-Some-2-2 : goal.returns-in_ok-push-in-Some-2-2
returns-in_ok-push-in-Some-2-2 c =
    let end : FitsSigned w64 c.in-Some.end = search rules in
    let some = c.if-first-last.false in
    let test = c.if-first-end.false in
    join_after _ _ _ _ _ c.args.interval _ _ c.requires.begun c.requires.small (omega (arith, ints)) c.pop.ensures.items c.in-Some.is (omega (arith, ints)) c.in_ok-push-in-Some-2.ensures.ok c.in_ok-push-in-Some-2-2.ensures.ok

pub returns-in_ok-push-in-None : goal.returns-in_ok-push-in-None
returns-in_ok-push-in-None c =
    let some = c.if-first-last.false in
    join_first _ _ _ _ c.args.interval c.requires.small (omega (arith, ints)) c.pop.ensures.items c.in-None.is (none_left c.args.merged.now.items c.pop.new.self.items c.pop.result c.in-None.is c.pop.ensures.variant.1 c.pop.ensures.items) c.in_ok-push-in-None.ensures.ok
