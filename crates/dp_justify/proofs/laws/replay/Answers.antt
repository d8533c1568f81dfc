-- The law of replay.
use Rattle.dp_justify.proofs.ReplayLaws.{replays}
use Rattle.dp_justify.proofs.laws.replay.Goals as goal

pub returns : goal.returns
returns c = replays
