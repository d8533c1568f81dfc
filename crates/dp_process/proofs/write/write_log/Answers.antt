-- The steps that are written are those of the log.
use Rattle.std.proofs.Common.{sym, ◌∙◌}
use Rattle.dp_process.proofs.LogLaws.{log-kept, log-stands}
use Rattle.dp_process.proofs.write.write_log.Goals as goal

pub overflow_sub-result : goal.overflow_sub-result
overflow_sub-result c = (log-kept c.args.problem.now c.args.scaffold.now c.nogoods.result.now c.in_ok-counts.counts.nogoods c.nogoods.ensures.scaffold c.nogoods.ensures.nogoods c.in_ok-counts.ensures.nogoods).0

pub returns-clause-text : goal.returns-clause-text
returns-clause-text c =
    let stands = log-stands c.args.problem.now c.args.scaffold.now c.nogoods.result.now c.claim.result c.write_nogoods.new.writer c.conclude.new.self
    c.nogoods.ensures.nogoods c.claim.ensures c.in_ok-counts.ensures.written c.in_ok-conclude.ensures.written in
    c.drain.ensures.bytes ∙ stands.text

pub returns-clause-allowed : goal.returns-clause-allowed
returns-clause-allowed c =
    (log-stands c.args.problem.now c.args.scaffold.now c.nogoods.result.now c.claim.result c.write_nogoods.new.writer c.conclude.new.self
    c.nogoods.ensures.nogoods c.claim.ensures c.in_ok-counts.ensures.written c.in_ok-conclude.ensures.written).lines

pub returns-clause-kept : goal.returns-clause-kept
returns-clause-kept c = (log-kept c.args.problem.now c.args.scaffold.now c.nogoods.result.now c.in_ok-counts.counts.nogoods c.nogoods.ensures.scaffold c.nogoods.ensures.nogoods c.in_ok-counts.ensures.nogoods).1

pub returns-clause-steps : goal.returns-clause-steps
returns-clause-steps c =
    let stands = log-stands c.args.problem.now c.args.scaffold.now c.nogoods.result.now c.claim.result c.write_nogoods.new.writer c.conclude.new.self
    c.nogoods.ensures.nogoods c.claim.ensures c.in_ok-counts.ensures.written c.in_ok-conclude.ensures.written in
    sym c.in_ok-counts.ensures.steps ∙ sym c.in_ok-conclude.ensures.counted ∙ stands.count
