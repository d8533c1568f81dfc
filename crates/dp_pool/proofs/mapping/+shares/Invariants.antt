use Rattle.std.proofs.Common.{◌+◌, ◌*◌}
use Rattle.dp_pool.proofs.mapping.+shares.Given as goal

abbrev pub decreases-share_out : goal.decreases-share_out
decreases-share_out g l = 2 * l.workers

abbrev pub decreases-theirs : goal.decreases-theirs
decreases-theirs g l = 2 * l.low + 1

abbrev pub decreases-ours : goal.decreases-ours
decreases-ours g l = 2 * l.high + 1
