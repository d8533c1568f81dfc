-- What is put back leaves as many variables.
use Rattle.std.proofs.Common.{◌≡◌, length, subst, sym}
use Rattle.dp_domain.specs.Scratches.{Working}
use Rattle.dp_domain.proofs.ScratchLaws.{length-put_back_all}
use Rattle.dp_domain.proofs.scratch.Scratch.state.Goals as goal

pub returns-clause-count : goal.returns-clause-count
returns-clause-count c = subst (λ (w : Working). length w.present ≡ length w.base) c.self.view_is (sym (length-put_back_all c.self.inside.replaced.items c.self.inside.present))
