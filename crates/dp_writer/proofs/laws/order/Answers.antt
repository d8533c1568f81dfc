use Rattle.dp_writer.proofs.LogLemmas.{in_order}
use Rattle.dp_writer.proofs.laws.order.Goals as goal

pub returns : goal.returns
returns c = in_order
