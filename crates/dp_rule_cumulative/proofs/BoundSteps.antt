-- Steps of the bounds: numbers that fit, and atoms that are made.
use Rattle.std.proofs.Common.{◌≡◌, ℕ, true, ◌↔◌, Option, Some, None, option_map, IsSome, IfSome, List, [], ◌∷◌, ℤ, pos, ◌+ℤ◌, ◌-ℤ◌, ◌≤ℤ◌, int_le, sym, ◌∙◌, ap, subst, arith}
use Rattle.std.specs.Int.{int_max}
use Rattle.std.specs.List.{filter}
use Rattle.std.proofs.lemmas.Int.{ints}
use Rattle.std.proofs.lemmas.Bool.{false≢true}
use Rattle.dp_base.proofs.Lists.{Among-filter_only}
use Rattle.dp_domain.specs.Atoms.{Atomic, IsNameable}
use Rattle.dp_domain.specs.declared.atom.Op.{Op}
use Rattle.dp_domain.specs.declared.atom.Op.TheVariants.{Ge, Le}
use Rattle.dp_domain.specs.Sets.{IsDomain, IsSmall, greatest, greatest_from, least, least_from}
use Rattle.dp_domain.specs.Turns.{at_least, at_most}
use Rattle.dp_domain.proofs.IntervalSteps.{from_max, from_min}
use Rattle.dp_domain.proofs.SetLaws.{IsSmall-among, greatest-among, greatest_from-among, least-among, least_from-among}
use Rattle.dp_rule_cumulative.specs.Profiles.{IsEarliest, IsLast, bound_after, bound_before, conflicts, early_demand, first_start, last_start, late_demand, used_at}
use Rattle.dp_rule_cumulative.specs.declared.demand.Demand.{Demand}
use Rattle.dp_rule_cumulative.specs.declared.profile.Part.{Part}
use Rattle.dp_rule_cumulative.specs.declared.task.Task.{Task}
use Rattle.dp_rule_cumulative.proofs.ConflictLaws.{lacks_parts}

-- ---- numbers that fit

small_zero : IsSmall (pos 0)
small_zero = (omega (arith, ints), omega (arith, ints))

first_small : (xs : List ℤ) → IsDomain xs → IsSmall (first_start xs)
first_small [] d = small_zero
first_small (x ∷ xs) d = IsSmall-among (x ∷ xs) d (least_from x xs) (least_from-among x xs)

last_small : (xs : List ℤ) → IsDomain xs → IsSmall (last_start xs)
last_small [] d = small_zero
last_small (x ∷ xs) d = IsSmall-among (x ∷ xs) d (greatest_from x xs) (greatest_from-among x xs)

upto_min : (m t : ℤ) → t ≤ℤ (m -ℤ pos 1) → (t +ℤ pos 1) ≤ℤ m
upto_min m t h = omega (arith, ints)

between : (a b t : ℤ) → IsSmall a → IsSmall b → a ≤ℤ t → (t +ℤ pos 1) ≤ℤ b → IsSmall (t +ℤ pos 1)
between a b t h k f l = let low = h.0 in let high = k.1 in (omega (arith, ints), omega (arith, ints))

-- an early time at which the task does not fit is followed by a number that can be a value
pub early_small : (xs : List ℤ) (capacity : ℕ) (k : Task) (ps : List Part) (t : ℤ) → IsDomain xs → conflicts (early_demand (first_start xs) (last_start xs) capacity k) ps t ≡ true → IsSmall (t +ℤ pos 1)
early_small xs capacity k ps t d e =
    let l = lacks_parts (early_demand (first_start xs) (last_start xs) capacity k) t (used_at t ps) e in
    let s = from_min (first_start xs +ℤ pos k.duration) (last_start xs) (t +ℤ pos 1) (upto_min _ t l.last) in
    between (first_start xs) (last_start xs) t (first_small xs d) (last_small xs d) l.first s.1

within : (a b n t : ℤ) → IsSmall a → IsSmall b → (a +ℤ n) ≤ℤ t → t ≤ℤ ((b +ℤ n) -ℤ pos 1) → IsSmall (t -ℤ n)
within a b n t h k f l = let low = h.0 in let high = k.1 in (omega (arith, ints), omega (arith, ints))

-- a late time at which the task does not fit comes its duration after a number that can be a value
pub late_small : (xs : List ℤ) (capacity : ℕ) (k : Task) (ps : List Part) (t : ℤ) → IsDomain xs → conflicts (late_demand (first_start xs) (last_start xs) capacity k) ps t ≡ true → IsSmall (t -ℤ pos k.duration)
late_small xs capacity k ps t d e =
    let l = lacks_parts (late_demand (first_start xs) (last_start xs) capacity k) t (used_at t ps) e in
    let s = from_max (first_start xs +ℤ pos k.duration) (last_start xs) t l.first in
    within (first_start xs) (last_start xs) (pos k.duration) t (first_small xs d) (last_small xs d) s.0 l.last

-- ---- conflicts that are found

-- the last early time as the code finds it, which is followed by a number that can be a value
pub record IsEarlyFound (xs : List ℤ) (capacity : ℕ) (k : Task) (ps : List Part) (t : ℤ) : Type 0 where
  pub last : IsLast (conflicts (early_demand (first_start xs) (last_start xs) capacity k) ps) (Some t)
  pub small : IsSmall (t +ℤ pos 1)

pub early_found : (xs : List ℤ) (capacity : ℕ) (k : Task) (ps : List Part) (w : Demand) (o : Option ℤ) (t : ℤ) → IsDomain xs → w ≡ early_demand (first_start xs) (last_start xs) capacity k → IsLast (conflicts w ps) o → o ≡ Some t → IsEarlyFound xs capacity k ps t
early_found xs capacity k ps w o t d e h f =
    let v = early_demand (first_start xs) (last_start xs) capacity k in
    let last : IsLast (conflicts v ps) (Some t) = subst (IsLast (conflicts v ps)) f (subst (λ (u : Demand). IsLast (conflicts u ps) o) e h) in
    record { last = last; small = early_small xs capacity k ps t d last.0 }

-- the first late time, which comes the duration after a number that can be a value
pub record IsLateFound (xs : List ℤ) (capacity : ℕ) (k : Task) (ps : List Part) (t : ℤ) : Type 0 where
  pub first : IsEarliest (conflicts (late_demand (first_start xs) (last_start xs) capacity k) ps) (Some t)
  pub small : IsSmall (t -ℤ pos k.duration)

pub late_found : (xs : List ℤ) (capacity : ℕ) (k : Task) (ps : List Part) (w : Demand) (o : Option ℤ) (t : ℤ) → IsDomain xs → w ≡ late_demand (first_start xs) (last_start xs) capacity k → IsEarliest (conflicts w ps) o → o ≡ Some t → IsLateFound xs capacity k ps t
late_found xs capacity k ps w o t d e h f =
    let v = late_demand (first_start xs) (last_start xs) capacity k in
    let first : IsEarliest (conflicts v ps) (Some t) = subst (IsEarliest (conflicts v ps)) f (subst (λ (u : Demand). IsEarliest (conflicts u ps) o) e h) in
    record { first = first; small = late_small xs capacity k ps t d first.0 }

-- ---- atoms that are made

made : (x : ℕ) (op : Op) (n m : ℤ) (o : Option Atomic) → IsNameable op n → (IsSome o ↔ IsNameable op n) → IfSome o (λ a. a ≡ record { var = x; op = op; value = n }) → n ≡ m → o ≡ Some (record { var = x; op = op; value = m })
made x op n m None h s a e = absurd (false≢true (s.1 h))
made x op n m (Some b) h s a e = ap Some a ∙ ap (λ (v : ℤ). let c : Option Atomic = Some (record { var = x; op = op; value = v }) in c) e

small_from : (n m : ℤ) → n ≡ m → IsSmall m → IsNameable Ge n
small_from n m e s = let low = s.0 in let high = s.1 in (omega (arith, ints), omega (arith, ints))

small_to : (n m : ℤ) → n ≡ m → IsSmall m → IsNameable Le n
small_to n m e s = let low = s.0 in let high = s.1 in (omega (arith, ints), omega (arith, ints))

-- a number that a set has from a value on is one that the set has
pub least_small : (xs : List ℤ) (value m : ℤ) → IsDomain xs → least (filter (int_le value) xs) ≡ Some m → IsSmall m
least_small xs value m d e = IsSmall-among xs d m (Among-filter_only (int_le value) xs m (least-among (filter (int_le value) xs) m e)).0

pub greatest_small : (xs : List ℤ) (value m : ℤ) → IsDomain xs → greatest (filter (λ v. int_le v value) xs) ≡ Some m → IsSmall m
greatest_small xs value m d e = IsSmall-among xs d m (Among-filter_only (λ v. int_le v value) xs m (greatest-among (filter (λ v. int_le v value) xs) m e)).0

-- the atom at the least number from a value on
pub least_made : (x : ℕ) (xs : List ℤ) (value n m : ℤ) (o : Option Atomic) → least (filter (int_le value) xs) ≡ Some m → IsSmall m → n ≡ m → (IsSome o ↔ IsNameable Ge n) → IfSome o (λ a. a ≡ record { var = x; op = Ge; value = n }) → o ≡ option_map (at_least x) (least (filter (int_le value) xs))
least_made x xs value n m o e small f s a = made x Ge n m o (small_from n m f small) s a f ∙ sym (ap (option_map (at_least x)) e)

-- the atom at the greatest number up to a value
pub greatest_made : (x : ℕ) (xs : List ℤ) (value n m : ℤ) (o : Option Atomic) → greatest (filter (λ v. int_le v value) xs) ≡ Some m → IsSmall m → n ≡ m → (IsSome o ↔ IsNameable Le n) → IfSome o (λ a. a ≡ record { var = x; op = Le; value = n }) → o ≡ option_map (at_most x) (greatest (filter (λ v. int_le v value) xs))
greatest_made x xs value n m o e small f s a = made x Le n m o (small_to n m f small) s a f ∙ sym (ap (option_map (at_most x)) e)

-- the bounds at the numbers beside the times
pub after_is : (x : ℕ) (xs : List ℤ) (t v : ℤ) (o : Option Atomic) → o ≡ option_map (at_least x) (least (filter (int_le v) xs)) → v ≡ (t +ℤ pos 1) → o ≡ bound_after x xs (Some t)
after_is x xs t v o e f = e ∙ ap (λ (u : ℤ). option_map (at_least x) (least (filter (int_le u) xs))) f

pub before_is : (x : ℕ) (xs : List ℤ) (n : ℕ) (t v : ℤ) (o : Option Atomic) → o ≡ option_map (at_most x) (greatest (filter (λ u. int_le u v) xs)) → v ≡ (t -ℤ pos n) → o ≡ bound_before x xs n (Some t)
before_is x xs n t v o e f = e ∙ ap (λ (u : ℤ). option_map (at_most x) (greatest (filter (λ w. int_le w u) xs))) f

-- ---- demands that are made

-- a demand whose ends are such is the late one
pub late_made : (first last : ℤ) (capacity : ℕ) (k : Task) (m e s g f l : ℤ) → m ≡ int_max e s → e ≡ (first +ℤ pos k.duration) → s ≡ last → g ≡ (last +ℤ pos k.duration) → f ≡ m → l ≡ (g -ℤ pos 1) → (let w : Demand = record { from = f; last = l; usage = k.usage; capacity = capacity } in w) ≡ late_demand first last capacity k
late_made first last capacity k m e s g f l h i j n o p =
    ap (λ (v : ℤ). let w : Demand = record { from = v; last = l; usage = k.usage; capacity = capacity } in w) (o ∙ h ∙ ap (λ v. int_max v s) i ∙ ap (λ v. int_max (first +ℤ pos k.duration) v) j)
    ∙ ap (λ (v : ℤ). let w : Demand = record { from = int_max (first +ℤ pos k.duration) last; last = v; usage = k.usage; capacity = capacity } in w) (p ∙ ap (λ v. v -ℤ pos 1) n)
