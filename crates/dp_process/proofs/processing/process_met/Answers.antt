-- Each nogood that is met has a justification, and so follows.
use Rattle.std.proofs.Common.{List, subst}
use Rattle.dp_domain.specs.Atoms.{Atomic}
use Rattle.dp_parts.specs.Problems.{posed}
use Rattle.dp_process.specs.Marks.{AreJustified, IsJustified}
use Rattle.dp_process.proofs.LogLaws.{some-nogood}
use Rattle.dp_process.proofs.MarkLaws.{all-follow}
use Rattle.dp_process.proofs.processing.process_met.Goals as goal

pub returns-in_ok-write_log-in-All-clause-follows : goal.returns-in_ok-write_log-in-All-clause-follows
returns-in_ok-write_log-in-All-clause-follows g c =
    all-follow c.args.problem.now c.args.scaffold.now.nogoods
    (record { problem = c.initial-initial.ensures.problem; variables = c.requires.scaffold.nogoods; some = some-nogood c.args.scaffold.now c.nogoods.ensures.scaffold })
    (subst (λ (nogoods : List (List Atomic)). AreJustified (posed c.args.problem.now) nogoods 0) c.nogoods.ensures.nogoods
    (subst (IsJustified (posed c.args.problem.now) c.nogoods.result.now) c.in-All.is c.in_ok-pieces.ensures).0)
