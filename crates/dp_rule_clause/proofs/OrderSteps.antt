-- The order of atoms tells apart those that are not one.
use Rattle.std.proofs.Common.{◌≡◌, ℕ, Bool, true, false, ◌&&◌, ◌==◌, ℤ, int_le, refl, sym, ◌∙◌, ap}
use Rattle.std.specs.Ordering.{int_eq, is_eq}
use Rattle.std.specs.Cmp.{signed_Decides}
use Rattle.std.proofs.lemmas.Bool.{false≢true, false_from_ne_true}
use Rattle.dp_domain.specs.Atoms.{Atomic}
use Rattle.dp_domain.specs.contracts.atom.AtomOrd.TheImpl as order
use Rattle.dp_domain.specs.contracts.atom.AtomOrd.TheImpl.Laws.{matches_eq-law}
use Rattle.dp_domain.specs.contracts.atom.AtomPartialEq.TheImpl as equal
use Rattle.dp_domain.specs.declared.atom.Op.{Op}
use Rattle.dp_domain.specs.declared.atom.Op.TheVariants.{Ge, Le, Eq, Ne}
use Rattle.dp_domain.proofs.AtomLaws.{same-from_tests, tests-from_same}
use Rattle.dp_rule_clause.specs.Nogoods.{same_atom}

int_tests : (v w : ℤ) → int_eq v w ≡ (int_le v w && int_le w v)
int_tests v w = both_by (int_eq v w) (int_le v w && int_le w v) (λ e. tests-from_same v w ((signed_Decides v w).0 e)) (λ e. (signed_Decides v w).1 (same-from_tests v w e))
  where
    both_by : (a b : Bool) → (a ≡ true → b ≡ true) → (b ≡ true → a ≡ true) → a ≡ b
    both_by true b f g = sym (f refl)
    both_by false b f g = sym (false_from_ne_true b (λ e. false≢true (g e)))

equal_by : (x y : ℕ) (o p : Op) (v w : ℤ) → equal.ghosts.eq (record { var = x; op = o; value = v }) (record { var = y; op = p; value = w }) ≡ same_atom (record { var = x; op = o; value = v }) (record { var = y; op = p; value = w })
equal_by x y Ge Ge v w = ap (λ t. (x == y) && t) (int_tests v w)
equal_by x y Le Le v w = ap (λ t. (x == y) && t) (int_tests v w)
equal_by x y Eq Eq v w = ap (λ t. (x == y) && t) (int_tests v w)
equal_by x y Ne Ne v w = ap (λ t. (x == y) && t) (int_tests v w)
equal_by x y o p v w = refl

-- two atoms tie exactly where they are one
pub order_ties : (a b : Atomic) → is_eq (order.ghosts.cmp a b) ≡ same_atom a b
order_ties a b = sym (matches_eq-law a b) ∙ equal_by a.var b.var a.op b.op a.value b.value
