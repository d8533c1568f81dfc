use Rattle.std.proofs.Common.{◌≤◌, length, arith}
use Rattle.std.specs.List.{prefix_len}
use Rattle.dp_lines.specs.Kept.{is_no_feed}
use Rattle.dp_lines.proofs.RawLaws.{begins_empty, begins_unfed, first_fed, first_unfed, prefix_whole}
use Rattle.dp_lines.proofs.step.first_line.Goals as goal
use Rattle.dp_lines.proofs.step.first_line.Goals.{else-ended-via-then-ended+else-len-gt0, else-ended-via-else-ended}

pub returns-then-len-held-clause-first : goal.returns-then-len-held-clause-first
returns-then-len-held-clause-first c =
    rw c.split_at.ensures.front (first_fed c.args.ended c.args.held.now c.first_len-len.result c.first_len-len.ensures.value c.if-len-held.true)

pub returns-then-len-gt0-clause-first : goal.returns-then-len-gt0-clause-first
returns-then-len-gt0-clause-first c =
    let le : length c.args.held.now ≤ prefix_len is_no_feed c.args.held.now = omega arith in
    rw c.if-ended.true (first_unfed c.args.held.now le (omega arith))

pub returns-clause-none : goal.returns-clause-none
returns-clause-none c =
    elim c.else-ended.branch [
      | else-ended-via-then-ended+else-len-gt0 w ↦ begins_empty c.args.ended c.args.held.now (omega arith)
      | else-ended-via-else-ended w ↦ rw w.if-ended.false (begins_unfed c.args.held.now (omega arith))
    ]

pub returns-clause-no_feed : goal.returns-clause-no_feed
returns-clause-no_feed c = prefix_whole c.args.held.now (omega arith)
