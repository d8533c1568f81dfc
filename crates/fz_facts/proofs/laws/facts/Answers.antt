use Rattle.fz_facts.proofs.WellFormed.{well_formed}
use Rattle.fz_facts.proofs.laws.facts.Goals as goal

pub returns : goal.returns
returns c = record { well_formed = λ m is. well_formed m is }
