-- Sameness of atoms is an equivalence.
use Rattle.std.specs.Cmp.{IsEquivalence, on_equiv, and_equiv}
use Rattle.std.proofs.lemmas.Cmp.{nat_eq_equiv, int_eq_equiv}
use Rattle.dp_domain.specs.Atoms.{Atomic}
use Rattle.dp_writer.specs.Atoms.{rank, same}

pub same_equiv : IsEquivalence same
same_equiv =
    and_equiv (on_equiv (λ (a : Atomic). a.var) nat_eq_equiv)
    (and_equiv (on_equiv (λ (a : Atomic). rank a.op) nat_eq_equiv) (on_equiv (λ (a : Atomic). a.value) int_eq_equiv))
