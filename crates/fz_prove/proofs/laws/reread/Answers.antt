use Rattle.fz_prove.proofs.RereadLemmas.{rereads}
use Rattle.fz_prove.proofs.laws.reread.Goals as goal

pub returns : goal.returns
returns c = rereads
