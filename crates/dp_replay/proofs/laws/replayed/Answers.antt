use Rattle.dp_replay.proofs.ReplayLemmas.{replays}
use Rattle.dp_replay.proofs.TextLemmas.{replays_text}
use Rattle.dp_replay.proofs.laws.replayed.Goals as goal

pub returns-clause-lines : goal.returns-clause-lines
returns-clause-lines c = replays

pub returns-clause-text : goal.returns-clause-text
returns-clause-text c = replays_text
