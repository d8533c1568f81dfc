use Rattle.dp_gen.proofs.SizeLaws.{sizes}
use Rattle.dp_gen.proofs.laws.sizes.Goals as goal

pub returns : goal.returns
returns c = sizes
