use Rattle.dp_writer.proofs.NameLemmas.{table_each}
use Rattle.dp_writer.proofs.laws.names.Goals as goal

pub returns : goal.returns
returns c = table_each
