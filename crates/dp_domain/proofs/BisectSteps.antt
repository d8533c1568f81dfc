-- Steps of the bisection for a bound: the test is monotone, so one number decides for all on one side.
use Rattle.std.proofs.Common.{◌≡◌, ℕ, zero, suc, ◌+◌, ◌-◌, ◌<◌, ◌≤◌, true, false, Bool, ◌⊎◌, List, [], ◌∷◌, length, ℤ, pos, int_le, ◌+ℤ◌, ◌-ℤ◌, ◌≤ℤ◌, ◌<ℤ◌, Option, Some, None, option_map, is_some, refl, sym, ◌∙◌, ap, subst, inl, inr, arith}
use Rattle.std.specs.Prelude.{◌/◌}
use mir.Syntax.{w64}
use mir.Val.{of_z, to_z}
use Rattle.std.specs.List.{filter}
use Rattle.std.proofs.lemmas.Int.{ints}
use Rattle.std.proofs.lemmas.Bool.{both_ways, cases_Bool, false_from_ne_true, false≢true}
use Rattle.dp_base.specs.Lists.{Among}
use Rattle.dp_base.proofs.Lists.{Among-filter_all, Among-filter_only}
use Rattle.dp_domain.specs.Atoms.{Atomic, negated}
use Rattle.dp_domain.specs.Sets.{AreBounds, IsSmall, greatest, least}
use Rattle.dp_domain.specs.States.{Domains, cut, entails, values}
use Rattle.dp_domain.specs.Faces.{Face, Covers, IsLawful}
use Rattle.dp_domain.specs.Turns.{at_least, at_most, gives, new_lower, new_upper}
use Rattle.dp_domain.proofs.AtomLaws.{le-from_test, lt-from_test, test-from_le, test-from_lt}
use Rattle.dp_domain.proofs.ScopeLaws.{Covers-cut}
use Rattle.dp_domain.proofs.SetLaws.{IsSmall-among, greatest-among, greatest-bound, greatest-is, least-among, least-bound, least-is}
use Rattle.dp_domain.proofs.StateLaws.{Among-cut_meets, IsWithin-cut, IsWithin-into_cut, entails-from, entails-not, is_nil-none, nil-from_test}
use Rattle.dp_domain.proofs.TurnLaws.{gives-from, gives-parts, lower-lands, upper-lands}

-- ---- one value decides

-- an atom whose failing leaves no more follows too, where a value fails it
gives_more : (f : Face) (d : Domains) (a b : Atomic) → IsLawful f → Covers f.scope d → a.var ≡ b.var → (u : ℤ) → Among u (values d b.var) → entails d b ≡ false → entails (cut d (negated b)) (negated a) ≡ true → gives f d a ≡ true → gives f d b ≡ true
gives_more f d a b w c e u h n t g =
    gives-from f d b n
    (w.monotone (cut d (negated a)) (cut d (negated b)) (Covers-cut f.scope d (negated a) c) (IsWithin-into_cut d (cut d (negated b)) (negated a) (IsWithin-cut d (negated b)) t) (gives-parts f d a g).1)

lower_down : (f : Face) (d : Domains) (x : ℕ) (u v w : ℤ) → IsLawful f → Covers f.scope d → Among u (values d x) → u <ℤ v → v ≤ℤ w → gives f d (at_least x w) ≡ true → gives f d (at_least x v) ≡ true
lower_down f d x u v w l c h k m g =
    gives_more f d (at_least x w) (at_least x v) l c refl u h (entails-not d (at_least x v) u h (test-from_lt v u k))
    (entails-from (cut d (negated (at_least x v))) (negated (at_least x w)) (λ n i. let j = le-from_test n (v -ℤ pos 1) (Among-cut_meets d (negated (at_least x v)) n i) in test-from_le n (w -ℤ pos 1) (omega (arith, ints))))
    g

upper_up : (f : Face) (d : Domains) (x : ℕ) (u v w : ℤ) → IsLawful f → Covers f.scope d → Among u (values d x) → v <ℤ u → w ≤ℤ v → gives f d (at_most x w) ≡ true → gives f d (at_most x v) ≡ true
upper_up f d x u v w l c h k m g =
    gives_more f d (at_most x w) (at_most x v) l c refl u h (entails-not d (at_most x v) u h (test-from_lt u v k))
    (entails-from (cut d (negated (at_most x v))) (negated (at_most x w)) (λ n i. let j = le-from_test (v +ℤ pos 1) n (Among-cut_meets d (negated (at_most x v)) n i) in test-from_le (w +ℤ pos 1) n (omega (arith, ints))))
    g

-- ---- the two numbers between which the bound is

-- a number below which no value passes, where one passes
under : (p : ℤ → Bool) (v h : ℤ) → p v ≡ true → (h ≤ℤ v → p v ≡ false) → v <ℤ h
under p v h t n = elim (cases_Bool (int_le h v)) [ inl e ↦ absurd (both_ways (p v) (n (le-from_test h v e)) t) | inr e ↦ lt-from_test h v e ]

-- a number above which no value passes, where one passes
over : (p : ℤ → Bool) (v h : ℤ) → p v ≡ true → (v ≤ℤ h → p v ≡ false) → h <ℤ v
over p v h t n = elim (cases_Bool (int_le v h)) [ inl e ↦ absurd (both_ways (p v) (n (le-from_test v h e)) t) | inr e ↦ lt-from_test v h e ]

no_values : (xs : List ℤ) → least xs ≡ None → xs ≡ []
no_values [] e = refl
no_values (x ∷ xs) e = absurd (false≢true (sym (ap is_some e)))

-- the least value and the greatest are values, and are small
first_among : (xs : List ℤ) (first last : ℤ) → AreBounds xs first last → Among first xs
first_among xs first last b = least-among xs first b.least

last_among : (xs : List ℤ) (first last : ℤ) → AreBounds xs first last → Among last xs
last_among xs first last b = greatest-among xs last b.greatest

pub bounds-small : (xs : List ℤ) (first last : ℤ) → AreBounds xs first last → IsSmall first × IsSmall last
bounds-small xs first last b = (IsSmall-among xs b.domain first (first_among xs first last b), IsSmall-among xs b.domain last (last_among xs first last b))

pub bounds-order : (xs : List ℤ) (first last : ℤ) → AreBounds xs first last → first ≤ℤ last
bounds-order xs first last b = least-bound xs first b.least last (last_among xs first last b)

-- a small number as the code passes it
pub passed_small : (v : ℤ) → IsSmall v → to_z w64 (of_z w64 v) ≡ v
passed_small v s = omega (arith, ints, s.0, s.1)

pub small_passed : (v : ℤ) → IsSmall v → IsSmall (to_z w64 (of_z w64 v))
small_passed v s = subst IsSmall (sym (passed_small v s)) s

pub bounds_passed : (xs : List ℤ) (first last : ℤ) → AreBounds xs first last → AreBounds xs (to_z w64 (of_z w64 first)) (to_z w64 (of_z w64 last))
bounds_passed xs first last b =
    let s = bounds-small xs first last b in
    record { domain = b.domain; least = b.least ∙ ap Some (sym (passed_small first s.0)); greatest = b.greatest ∙ ap Some (sym (passed_small last s.1)) }

-- no value from the higher number on is a new lower bound that follows, and the lower number is one, or is the least value
pub record IsLowerBracket (f : Face) (d : Domains) (x : ℕ) (first last : ℤ) (low high : ℕ) : Type 0 where
  pub order : low < high
  pub within : (first +ℤ pos high) ≤ℤ (last +ℤ pos 1)
  pub given : (low ≡ 0) ⊎ (gives f d (at_least x (first +ℤ pos low)) ≡ true)
  pub none : (v : ℤ) → (first +ℤ pos high) ≤ℤ v → Among v (values d x) → gives f d (at_least x v) ≡ false

pub lower_begun : (f : Face) (d : Domains) (x : ℕ) (first last : ℤ) (n low high : ℕ) → AreBounds (values d x) first last → (first +ℤ pos n) ≡ last → low ≡ 0 → high ≡ n + 1 → IsLowerBracket f d x first last low high
lower_begun f d x first last n low high b e l h = record {
  order = omega arith;
  within = omega (arith, ints, e, h);
  given = inl l;
  none = λ v k m. let o = greatest-bound (values d x) last b.greatest v m in absurd (omega (arith, ints, e, h, k, o));
}

-- a number between the two, as far as the code computes it, is small
pub lower_small : (f : Face) (d : Domains) (x : ℕ) (first last : ℤ) (low high middle : ℕ) → AreBounds (values d x) first last → IsLowerBracket f d x first last low high → middle < high → IsSmall (first +ℤ pos middle)
lower_small f d x first last low high middle b k h =
    let s = bounds-small (values d x) first last b in
    let w = k.within in
    (omega (arith, ints, s.0.0), omega (arith, ints, s.1.1, w, h))

pub lower_more : (f : Face) (d : Domains) (x : ℕ) (first last : ℤ) (low high middle : ℕ) (v : ℤ) (a : Atomic) → IsLowerBracket f d x first last low high → middle < high → a ≡ at_least x v → v ≡ (first +ℤ pos middle) → gives f d a ≡ true → IsLowerBracket f d x first last middle high
lower_more f d x first last low high middle v a b k e g t =
    record { order = k; within = b.within; given = inr (subst (λ c. gives f d c ≡ true) (e ∙ ap (at_least x) g) t); none = b.none }

pub lower_less : (f : Face) (d : Domains) (x : ℕ) (first last : ℤ) (low high middle : ℕ) (v : ℤ) (a : Atomic) → IsLawful f → Covers f.scope d → AreBounds (values d x) first last → IsLowerBracket f d x first last low high → low < middle → middle < high → a ≡ at_least x v → v ≡ (first +ℤ pos middle) → gives f d a ≡ false → IsLowerBracket f d x first last low middle
lower_less f d x first last low high middle v a l c q b h k e g t =
    let n : gives f d (at_least x (first +ℤ pos middle)) ≡ false = subst (λ c. gives f d c ≡ false) (e ∙ ap (at_least x) g) t in
    let w = b.within in
    record {
      order = h;
      within = omega (arith, ints, w, k);
      given = b.given;
      none = λ u i m. false_from_ne_true (gives f d (at_least x u)) (λ y. both_ways (gives f d (at_least x (first +ℤ pos middle))) n
          (lower_down f d x first (first +ℤ pos middle) u l c (first_among (values d x) first last q) (omega (arith, ints, h)) i y));
    }

-- no value up to the lower number is a new upper bound that follows, and the higher number is one, or is the greatest value
pub record IsUpperBracket (f : Face) (d : Domains) (x : ℕ) (first last : ℤ) (low high : ℕ) : Type 0 where
  pub order : low < high
  pub within : first ≤ℤ ((last -ℤ pos high) +ℤ pos 1)
  pub given : (low ≡ 0) ⊎ (gives f d (at_most x (last -ℤ pos low)) ≡ true)
  pub none : (v : ℤ) → v ≤ℤ (last -ℤ pos high) → Among v (values d x) → gives f d (at_most x v) ≡ false

pub upper_begun : (f : Face) (d : Domains) (x : ℕ) (first last : ℤ) (n low high : ℕ) → AreBounds (values d x) first last → (first +ℤ pos n) ≡ last → low ≡ 0 → high ≡ n + 1 → IsUpperBracket f d x first last low high
upper_begun f d x first last n low high b e l h = record {
  order = omega arith;
  within = omega (arith, ints, e, h);
  given = inl l;
  none = λ v k m. let o = least-bound (values d x) first b.least v m in absurd (omega (arith, ints, e, h, k, o));
}

pub upper_small : (f : Face) (d : Domains) (x : ℕ) (first last : ℤ) (low high middle : ℕ) → AreBounds (values d x) first last → IsUpperBracket f d x first last low high → middle < high → IsSmall (last -ℤ pos middle)
upper_small f d x first last low high middle b k h =
    let s = bounds-small (values d x) first last b in
    let w = k.within in
    (omega (arith, ints, s.0.0, w, h), omega (arith, ints, s.1.1))

pub upper_less : (f : Face) (d : Domains) (x : ℕ) (first last : ℤ) (low high middle : ℕ) (v : ℤ) (a : Atomic) → IsUpperBracket f d x first last low high → middle < high → a ≡ at_most x v → v ≡ (last -ℤ pos middle) → gives f d a ≡ true → IsUpperBracket f d x first last middle high
upper_less f d x first last low high middle v a b k e g t =
    record { order = k; within = b.within; given = inr (subst (λ c. gives f d c ≡ true) (e ∙ ap (at_most x) g) t); none = b.none }

pub upper_more : (f : Face) (d : Domains) (x : ℕ) (first last : ℤ) (low high middle : ℕ) (v : ℤ) (a : Atomic) → IsLawful f → Covers f.scope d → AreBounds (values d x) first last → IsUpperBracket f d x first last low high → low < middle → middle < high → a ≡ at_most x v → v ≡ (last -ℤ pos middle) → gives f d a ≡ false → IsUpperBracket f d x first last low middle
upper_more f d x first last low high middle v a l c q b h k e g t =
    let n : gives f d (at_most x (last -ℤ pos middle)) ≡ false = subst (λ c. gives f d c ≡ false) (e ∙ ap (at_most x) g) t in
    let w = b.within in
    record {
      order = h;
      within = omega (arith, ints, w, k);
      given = b.given;
      none = λ u i m. false_from_ne_true (gives f d (at_most x u)) (λ y. both_ways (gives f d (at_most x (last -ℤ pos middle))) n
          (upper_up f d x last (last -ℤ pos middle) u l c (last_among (values d x) first last q) (omega (arith, ints, h)) i y));
    }

-- ---- the place in the middle

pub middle_between : (low high : ℕ) → low + 1 < high → (low < low + (high - low) / 2) × (low + (high - low) / 2 < high)
middle_between low high h = (omega arith, omega arith)

-- ---- what the bisections return

-- a bound that is given is given at a value: no value lies between the two numbers
lower_here : (f : Face) (d : Domains) (x : ℕ) (first last : ℤ) (low high : ℕ) → f.test d ≡ false → IsLowerBracket f d x first last low high → high ≤ low + 1 → gives f d (at_least x (first +ℤ pos low)) ≡ true → Among (first +ℤ pos low) (values d x)
lower_here f d x first last low high q b h g =
    let r = lower-lands f d x (first +ℤ pos low) q g in
    let l = under (λ v. gives f d (at_least x v)) r.0 (first +ℤ pos high) r.3 (λ k. b.none r.0 k r.1) in
    let k = r.2 in
    let o = b.order in
    let e : r.0 ≡ (first +ℤ pos low) = omega (arith, ints, l, k, h, o) in
    subst (λ v. Among v (values d x)) e r.1

lower_is : (f : Face) (d : Domains) (x : ℕ) (first last : ℤ) (low high : ℕ) → f.test d ≡ false → IsLowerBracket f d x first last low high → high ≤ low + 1 → gives f d (at_least x (first +ℤ pos low)) ≡ true → Some (at_least x (first +ℤ pos low)) ≡ new_lower f d x
lower_is f d x first last low high q b h g =
    sym (ap (option_map (at_least x)) (greatest-is (filter (λ v. gives f d (at_least x v)) (values d x)) (first +ℤ pos low)
    (Among-filter_all (λ v. gives f d (at_least x v)) (values d x) (first +ℤ pos low) (lower_here f d x first last low high q b h g) g)
    (λ v m.
    let r = Among-filter_only (λ v. gives f d (at_least x v)) (values d x) v m in
    let l = under (λ v. gives f d (at_least x v)) v (first +ℤ pos high) r.1 (λ k. b.none v k r.0) in
    omega (arith, ints, l, h))))

pub lower_at : (f : Face) (d : Domains) (x : ℕ) (first last : ℤ) (low high : ℕ) (v : ℤ) (a : Atomic) → f.test d ≡ false → IsLowerBracket f d x first last low high → high ≤ low + 1 → 0 < low → a ≡ at_least x v → v ≡ (first +ℤ pos low) → Some a ≡ new_lower f d x
lower_at f d x first last low high v a q b h n e g = by b.given
  where
    by : ((low ≡ 0) ⊎ (gives f d (at_least x (first +ℤ pos low)) ≡ true)) → Some a ≡ new_lower f d x
    by (inl z) = absurd (omega arith)
    by (inr t) = ap Some (e ∙ ap (at_least x) g) ∙ lower_is f d x first last low high q b h t

-- the least value is no new lower bound
first_lower : (f : Face) (d : Domains) (x : ℕ) (first last : ℤ) → AreBounds (values d x) first last → gives f d (at_least x first) ≡ false
first_lower f d x first last b = false_from_ne_true (gives f d (at_least x first)) (λ t.
    both_ways (entails d (at_least x first)) (gives-parts f d (at_least x first) t).0
    (entails-from d (at_least x first) (λ v h. test-from_le first v (least-bound (values d x) first b.least v h))))

pub lower_not : (f : Face) (d : Domains) (x : ℕ) (first last : ℤ) (low high : ℕ) → AreBounds (values d x) first last → IsLowerBracket f d x first last low high → high ≤ low + 1 → low ≡ 0 → None ≡ new_lower f d x
lower_not f d x first last low high q b h z =
    let p : ℤ → Bool = λ v. gives f d (at_least x v) in
    sym (ap (λ ys. option_map (at_least x) (greatest ys)) (nil-from_test (filter p (values d x)) (is_nil-none (filter p (values d x)) (λ v m.
    let r = Among-filter_only p (values d x) v m in
    let l = under p v (first +ℤ pos high) r.1 (λ k. b.none v k r.0) in
    let k = least-bound (values d x) first q.least v r.0 in
    let e : v ≡ first = omega (arith, ints, l, k, h, z) in
    both_ways (p first) (first_lower f d x first last q) (subst (λ u. p u ≡ true) e r.1)))))

upper_here : (f : Face) (d : Domains) (x : ℕ) (first last : ℤ) (low high : ℕ) → f.test d ≡ false → IsUpperBracket f d x first last low high → high ≤ low + 1 → gives f d (at_most x (last -ℤ pos low)) ≡ true → Among (last -ℤ pos low) (values d x)
upper_here f d x first last low high q b h g =
    let r = upper-lands f d x (last -ℤ pos low) q g in
    let l = over (λ v. gives f d (at_most x v)) r.0 (last -ℤ pos high) r.3 (λ k. b.none r.0 k r.1) in
    let k = r.2 in
    let o = b.order in
    let e : r.0 ≡ (last -ℤ pos low) = omega (arith, ints, l, k, h, o) in
    subst (λ v. Among v (values d x)) e r.1

upper_is : (f : Face) (d : Domains) (x : ℕ) (first last : ℤ) (low high : ℕ) → f.test d ≡ false → IsUpperBracket f d x first last low high → high ≤ low + 1 → gives f d (at_most x (last -ℤ pos low)) ≡ true → Some (at_most x (last -ℤ pos low)) ≡ new_upper f d x
upper_is f d x first last low high q b h g =
    sym (ap (option_map (at_most x)) (least-is (filter (λ v. gives f d (at_most x v)) (values d x)) (last -ℤ pos low)
    (Among-filter_all (λ v. gives f d (at_most x v)) (values d x) (last -ℤ pos low) (upper_here f d x first last low high q b h g) g)
    (λ v m.
    let r = Among-filter_only (λ v. gives f d (at_most x v)) (values d x) v m in
    let l = over (λ v. gives f d (at_most x v)) v (last -ℤ pos high) r.1 (λ k. b.none v k r.0) in
    omega (arith, ints, l, h))))

pub upper_at : (f : Face) (d : Domains) (x : ℕ) (first last : ℤ) (low high : ℕ) (v : ℤ) (a : Atomic) → f.test d ≡ false → IsUpperBracket f d x first last low high → high ≤ low + 1 → 0 < low → a ≡ at_most x v → v ≡ (last -ℤ pos low) → Some a ≡ new_upper f d x
upper_at f d x first last low high v a q b h n e g = by b.given
  where
    by : ((low ≡ 0) ⊎ (gives f d (at_most x (last -ℤ pos low)) ≡ true)) → Some a ≡ new_upper f d x
    by (inl z) = absurd (omega arith)
    by (inr t) = ap Some (e ∙ ap (at_most x) g) ∙ upper_is f d x first last low high q b h t

-- the greatest value is no new upper bound
last_upper : (f : Face) (d : Domains) (x : ℕ) (first last : ℤ) → AreBounds (values d x) first last → gives f d (at_most x last) ≡ false
last_upper f d x first last b = false_from_ne_true (gives f d (at_most x last)) (λ t.
    both_ways (entails d (at_most x last)) (gives-parts f d (at_most x last) t).0
    (entails-from d (at_most x last) (λ v h. test-from_le v last (greatest-bound (values d x) last b.greatest v h))))

pub upper_not : (f : Face) (d : Domains) (x : ℕ) (first last : ℤ) (low high : ℕ) → AreBounds (values d x) first last → IsUpperBracket f d x first last low high → high ≤ low + 1 → low ≡ 0 → None ≡ new_upper f d x
upper_not f d x first last low high q b h z =
    let p : ℤ → Bool = λ v. gives f d (at_most x v) in
    sym (ap (λ ys. option_map (at_most x) (least ys)) (nil-from_test (filter p (values d x)) (is_nil-none (filter p (values d x)) (λ v m.
    let r = Among-filter_only p (values d x) v m in
    let l = over p v (last -ℤ pos high) r.1 (λ k. b.none v k r.0) in
    let k = greatest-bound (values d x) last q.greatest v r.0 in
    let e : v ≡ last = omega (arith, ints, l, k, h, z) in
    both_ways (p last) (last_upper f d x first last q) (subst (λ u. p u ≡ true) e r.1)))))

-- of a variable without values no bound is given
pub no_lower : (f : Face) (d : Domains) (x : ℕ) → least (values d x) ≡ None → None ≡ new_lower f d x
no_lower f d x e = sym (ap (λ xs. option_map (at_least x) (greatest (filter (λ v. gives f d (at_least x v)) xs))) (no_values (values d x) e))

pub no_upper : (f : Face) (d : Domains) (x : ℕ) → least (values d x) ≡ None → None ≡ new_upper f d x
no_upper f d x e = sym (ap (λ xs. option_map (at_most x) (least (filter (λ v. gives f d (at_most x v)) xs))) (no_values (values d x) e))
