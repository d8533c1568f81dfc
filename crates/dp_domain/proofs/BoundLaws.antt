-- Laws of the bounds of a variable: its least and its greatest value.
use Rattle.std.proofs.Common.{◌≡◌, ℕ, ◌<◌, true, false, List, [], ◌∷◌, length, ℤ, ◌≤ℤ◌, Some, refl, sym, ap, arith}
use Rattle.std.proofs.lemmas.Int.{ints}
use Rattle.std.proofs.lemmas.Bool.{false≢true}
use Rattle.dp_base.specs.Lists.{Among}
use Rattle.dp_base.proofs.Lists.{Among-get_or, list_any-none}
use Rattle.dp_domain.specs.declared.atom.Op.TheVariants.{Ge, Le}
use Rattle.dp_domain.specs.Sets.{least, greatest, least_from, greatest_from}
use Rattle.dp_domain.specs.States.{Domains, values, is_nil, is_dead, entails, LiesIn, IsWithin}
use Rattle.dp_domain.specs.Faces.{Fixes}
use Rattle.dp_domain.proofs.AtomLaws.{le-from_test, test-from_le}
use Rattle.dp_domain.proofs.SetLaws.{least-bound, least-among, greatest-bound, greatest-among}
use Rattle.dp_domain.proofs.StateLaws.{entails-at, entails-from}

some_least : (xs : List ℤ) → is_nil xs ≡ false → (m : ℤ) × (least xs ≡ Some m)
some_least [] e = absurd (false≢true (sym e))
some_least (x ∷ xs) e = (least_from x xs, refl)

some_greatest : (xs : List ℤ) → is_nil xs ≡ false → (m : ℤ) × (greatest xs ≡ Some m)
some_greatest [] e = absurd (false≢true (sym e))
some_greatest (x ∷ xs) e = (greatest_from x xs, refl)

-- in a state that is not dead each variable has a least value
pub alive-least : (d : Domains) (x : ℕ) → is_dead d ≡ false → x < length d → (m : ℤ) × (least (values d x) ≡ Some m)
alive-least d x e h = some_least (values d x) (list_any-none is_nil d (values d x) e (Among-get_or d x [] h))

-- in a state that is not dead each variable has a greatest value
pub alive-greatest : (d : Domains) (x : ℕ) → is_dead d ≡ false → x < length d → (m : ℤ) × (greatest (values d x) ≡ Some m)
alive-greatest d x e h = some_greatest (values d x) (list_any-none is_nil d (values d x) e (Among-get_or d x [] h))

-- in a smaller state the least value is no less
pub least-within : (d e : Domains) (x : ℕ) (m n : ℤ) → IsWithin e d → least (values d x) ≡ Some m → least (values e x) ≡ Some n → m ≤ℤ n
least-within d e x m n p f g = least-bound (values d x) m f n (p.each x n (least-among (values e x) n g))

-- in a smaller state the greatest value is no greater
pub greatest-within : (d e : Domains) (x : ℕ) (m n : ℤ) → IsWithin e d → greatest (values d x) ≡ Some m → greatest (values e x) ≡ Some n → n ≤ℤ m
greatest-within d e x m n p f g = greatest-bound (values d x) m f n (p.each x n (greatest-among (values e x) n g))

-- an assignment within a state gives no variable less than its least value
pub LiesIn-least : (d : Domains) (s : ℕ → ℤ) (x : ℕ) (m : ℤ) → LiesIn s d → x < length d → least (values d x) ≡ Some m → m ≤ℤ s x
LiesIn-least d s x m l h e = least-bound (values d x) m e (s x) (l x h)

-- an assignment within a state gives no variable more than its greatest value
pub LiesIn-greatest : (d : Domains) (s : ℕ → ℤ) (x : ℕ) (m : ℤ) → LiesIn s d → x < length d → greatest (values d x) ≡ Some m → s x ≤ℤ m
LiesIn-greatest d s x m l h e = greatest-bound (values d x) m e (s x) (l x h)

-- a fixed variable's least value is the assignment's
pub Fixes-least : (scope : List ℕ) (d : Domains) (s : ℕ → ℤ) (x : ℕ) → Fixes scope s d → Among x scope → least (values d x) ≡ Some (s x)
Fixes-least scope d s x f h = ap least (f x h)

-- a fixed variable's greatest value is the assignment's
pub Fixes-greatest : (scope : List ℕ) (d : Domains) (s : ℕ → ℤ) (x : ℕ) → Fixes scope s d → Among x scope → greatest (values d x) ≡ Some (s x)
Fixes-greatest scope d s x f h = ap greatest (f x h)

-- a variable whose least value is at least v entails `>= v`
pub entails-ge : (d : Domains) (x : ℕ) (m v : ℤ) → least (values d x) ≡ Some m → v ≤ℤ m → entails d (record { var = x; op = Ge; value = v }) ≡ true
entails-ge d x m v e h = entails-from d (record { var = x; op = Ge; value = v }) (λ n k. test-from_le v n (let b = least-bound (values d x) m e n k in omega (arith, ints)))

-- a variable whose greatest value is at most v entails `<= v`
pub entails-le : (d : Domains) (x : ℕ) (m v : ℤ) → greatest (values d x) ≡ Some m → m ≤ℤ v → entails d (record { var = x; op = Le; value = v }) ≡ true
entails-le d x m v e h = entails-from d (record { var = x; op = Le; value = v }) (λ n k. test-from_le n v (let b = greatest-bound (values d x) m e n k in omega (arith, ints)))

-- a variable that entails `>= v` has no least value below v
pub least-from_entails : (d : Domains) (x : ℕ) (m v : ℤ) → least (values d x) ≡ Some m → entails d (record { var = x; op = Ge; value = v }) ≡ true → v ≤ℤ m
least-from_entails d x m v e t = le-from_test v m (entails-at d (record { var = x; op = Ge; value = v }) m t (least-among (values d x) m e))

-- a variable that entails `<= v` has no greatest value above v
pub greatest-from_entails : (d : Domains) (x : ℕ) (m v : ℤ) → greatest (values d x) ≡ Some m → entails d (record { var = x; op = Le; value = v }) ≡ true → m ≤ℤ v
greatest-from_entails d x m v e t = le-from_test m v (entails-at d (record { var = x; op = Le; value = v }) m t (greatest-among (values d x) m e))
