-- The turn of a part in words of all integers: bounds land on values, and no better candidate is passed over.
use Rattle.std.proofs.Common.{◌≡◌, ℕ, ◌<◌, ◌≤◌, Bool, true, false, not, cond, ◌&&◌, List, [], ◌∷◌, ℤ, pos, ◌+ℤ◌, ◌-ℤ◌, ◌≤ℤ◌, int_le, Option, Some, None, option_map, set, refl, sym, ◌∙◌, ap, subst, inl, inr, arith}
use Rattle.std.specs.List.{filter}
use Rattle.std.proofs.lemmas.Int.{ints}
use Rattle.std.proofs.lemmas.Bool.{false≢true, both_ways, cases_Bool, and_parts, and_from, not-true, not-false, not_from_false, false_from_ne_true}
use Rattle.dp_base.specs.Lists.{Among, Each, Climbs}
use Rattle.dp_base.proofs.Lists.{Each-among, Among-filter_only, Among-filter_all}
use Rattle.dp_domain.specs.Atoms.{Atomic, meets, negated}
use Rattle.dp_domain.specs.declared.atom.Op.{Op}
use Rattle.dp_domain.specs.declared.atom.Op.TheVariants.{Ge, Le, Eq, Ne}
use Rattle.dp_domain.specs.declared.found.Found.{Found}
use Rattle.dp_domain.specs.declared.found.Found.TheVariants.{Clash, Atom}
use Rattle.dp_domain.specs.Sets.{least, greatest, least_from, greatest_from}
use Rattle.dp_domain.specs.States.{Domains, cut, entails, is_dead, values}
use Rattle.dp_domain.specs.Faces.{Face}
use Rattle.dp_domain.specs.Turns.{at_least, at_most, other_than, gives, or_else, given_on, given, turn_of, is_permitted, IsCandidate, Precedes, IsFirst, IsTurn}
use Rattle.dp_domain.proofs.AtomLaws.{le-from_test, lt-from_test, test-from_le, test-from_lt, same-from_tests}
use Rattle.dp_domain.proofs.SetLaws.{least_from-bound, least_from-among, greatest_from-bound, greatest_from-among}
use Rattle.dp_domain.proofs.StateLaws.{entails-fails, entails-from, entails-not, entails-from_dead_cut, cut-entailed}

-- ---- the greatest value that passes, and the least

-- the greatest value that passes, and none exactly where none passes
abbrev pub Tops : (ℤ → Bool) → List ℤ → Option ℤ → Type 0
Tops p xs None = (v : ℤ) → Among v xs → p v ≡ false
Tops p xs (Some m) = Among m xs × (p m ≡ true) × ((v : ℤ) → Among v xs → p v ≡ true → v ≤ℤ m)

-- the least value that passes, and none exactly where none passes
abbrev pub Bottoms : (ℤ → Bool) → List ℤ → Option ℤ → Type 0
Bottoms p xs None = (v : ℤ) → Among v xs → p v ≡ false
Bottoms p xs (Some m) = Among m xs × (p m ≡ true) × ((v : ℤ) → Among v xs → p v ≡ true → m ≤ℤ v)

nothing_passes : (p : ℤ → Bool) (xs : List ℤ) → filter p xs ≡ [] → (v : ℤ) → Among v xs → p v ≡ false
nothing_passes p xs e v h = false_from_ne_true (p v) (λ t. subst (λ ys. Among v ys) e (Among-filter_all p xs v h t))

tops_from : (p : ℤ → Bool) (xs ys : List ℤ) → filter p xs ≡ ys → Tops p xs (greatest ys)
tops_from p xs [] e = nothing_passes p xs e
tops_from p xs (y ∷ ys) e =
    let r = Among-filter_only p xs (greatest_from y ys) (subst (λ zs. Among (greatest_from y ys) zs) (sym e) (greatest_from-among y ys)) in
    (r.0, r.1, λ v h t. greatest_from-bound y ys v (subst (λ zs. Among v zs) e (Among-filter_all p xs v h t)))

bottoms_from : (p : ℤ → Bool) (xs ys : List ℤ) → filter p xs ≡ ys → Bottoms p xs (least ys)
bottoms_from p xs [] e = nothing_passes p xs e
bottoms_from p xs (y ∷ ys) e =
    let r = Among-filter_only p xs (least_from y ys) (subst (λ zs. Among (least_from y ys) zs) (sym e) (least_from-among y ys)) in
    (r.0, r.1, λ v h t. least_from-bound y ys v (subst (λ zs. Among v zs) e (Among-filter_all p xs v h t)))

-- the greatest of what a filter keeps
pub greatest-tops : (p : ℤ → Bool) (xs : List ℤ) → Tops p xs (greatest (filter p xs))
greatest-tops p xs = tops_from p xs (filter p xs) refl

-- the least of what a filter keeps
pub least-bottoms : (p : ℤ → Bool) (xs : List ℤ) → Bottoms p xs (least (filter p xs))
least-bottoms p xs = bottoms_from p xs (filter p xs) refl

filter_same_step : (p q : ℤ → Bool) (x : ℤ) (xs : List ℤ) → p x ≡ q x → filter p xs ≡ filter q xs → cond (p x) (x ∷ filter p xs) (filter p xs) ≡ cond (q x) (x ∷ filter q xs) (filter q xs)
filter_same_step p q x xs e f = ap (λ b. cond b (x ∷ filter p xs) (filter p xs)) e ∙ ap (λ ys. cond (q x) (x ∷ ys) ys) f

-- two tests that agree on the values keep the same
pub filter-same : (p q : ℤ → Bool) (xs : List ℤ) → ((v : ℤ) → Among v xs → p v ≡ q v) → filter p xs ≡ filter q xs
filter-same p q [] h = refl
filter-same p q (x ∷ xs) h = filter_same_step p q x xs (h x (inl refl)) (filter-same p q xs (λ v k. h v (inr k)))

-- ---- bounds land on values

-- whether the number is at least c, at most c
abbrev from : ℤ → ℤ → Bool
from c v = int_le c v

abbrev upto : ℤ → ℤ → Bool
upto c v = int_le v c

-- the two parts of what a part gives
pub gives-parts : (f : Face) (d : Domains) (a : Atomic) → gives f d a ≡ true → (entails d a ≡ false) × (f.test (cut d (negated a)) ≡ true)
gives-parts f d a g = let r = and_parts (not (entails d a)) (f.test (cut d (negated a))) g in (not-true (entails d a) r.0, r.1)

-- an atom that is not entailed and follows is given
pub gives-from : (f : Face) (d : Domains) (a : Atomic) → entails d a ≡ false → f.test (cut d (negated a)) ≡ true → gives f d a ≡ true
gives-from f d a e t = and_from (not (entails d a)) (f.test (cut d (negated a))) (not_from_false (entails d a) e) t

-- what cuts by the negation take away decides whether an atom follows
gives_same : (f : Face) (d : Domains) (a b : Atomic) → a.var ≡ b.var → ((v : ℤ) → Among v (values d a.var) → meets (negated a) v ≡ meets (negated b) v) → f.test (cut d (negated a)) ≡ f.test (cut d (negated b))
gives_same f d a b e h =
    ap (λ ys. f.test (set d a.var ys)) (filter-same (meets (negated a)) (meets (negated b)) (values d a.var) h)
    ∙ ap (λ y. f.test (set d y (filter (meets (negated b)) (values d y)))) e

-- where the negation changes nothing, an atom follows from a part that clashes alone
idle : (f : Face) (d : Domains) (a : Atomic) → f.test d ≡ false → entails d (negated a) ≡ true → f.test (cut d (negated a)) ≡ true → ⊥
idle f d a n e t = both_ways (f.test d) n (ap f.test (sym (cut-entailed d (negated a) e)) ∙ t)

lower_same : (xs : List ℤ) (c w v : ℤ) → c ≤ℤ w → ((u : ℤ) → Among u xs → int_le c u ≡ true → w ≤ℤ u) → Among v xs → int_le v (c -ℤ pos 1) ≡ int_le v (w -ℤ pos 1)
lower_same xs c w v h b m = elim (cases_Bool (int_le c v)) [
  | inl e ↦ let k = b v m e in let l = le-from_test c v e in test-from_lt v (c -ℤ pos 1) (omega (arith, ints)) ∙ sym (test-from_lt v (w -ℤ pos 1) (omega (arith, ints)))
  | inr e ↦ let l = lt-from_test c v e in test-from_le v (c -ℤ pos 1) (omega (arith, ints)) ∙ sym (test-from_le v (w -ℤ pos 1) (omega (arith, ints)))
]

upper_same : (xs : List ℤ) (c w v : ℤ) → w ≤ℤ c → ((u : ℤ) → Among u xs → int_le u c ≡ true → u ≤ℤ w) → Among v xs → int_le (c +ℤ pos 1) v ≡ int_le (w +ℤ pos 1) v
upper_same xs c w v h b m = elim (cases_Bool (int_le v c)) [
  | inl e ↦ let k = b v m e in let l = le-from_test v c e in test-from_lt (c +ℤ pos 1) v (omega (arith, ints)) ∙ sym (test-from_lt (w +ℤ pos 1) v (omega (arith, ints)))
  | inr e ↦ let l = lt-from_test v c e in test-from_le (c +ℤ pos 1) v (omega (arith, ints)) ∙ sym (test-from_le (w +ℤ pos 1) v (omega (arith, ints)))
]

-- a value of the variable with this bound, which is given too
abbrev pub Lands : Face → Domains → ℕ → (ℤ → Atomic) → (ℤ → Type 0) → Type 0
Lands f d x atom P = (w : ℤ) × Among w (values d x) × P w × (gives f d (atom w) ≡ true)

lower_at : (f : Face) (d : Domains) (x : ℕ) (c : ℤ) (o : Option ℤ) → f.test d ≡ false → gives f d (at_least x c) ≡ true → Bottoms (from c) (values d x) o → Lands f d x (at_least x) (λ w. c ≤ℤ w)
lower_at f d x c None n g b =
    let r = gives-parts f d (at_least x c) g in
    absurd (idle f d (at_least x c) n (entails-from d (negated (at_least x c)) (λ v h. let l = lt-from_test c v (b v h) in test-from_le v (c -ℤ pos 1) (omega (arith, ints)))) r.1)
lower_at f d x c (Some w) n g b =
    let r = gives-parts f d (at_least x c) g in
    let k = le-from_test c w b.1 in
    let s = gives_same f d (at_least x c) (at_least x w) refl (λ v m. lower_same (values d x) c w v k b.2 m) in
    let u = entails-fails d (at_least x c) r.0 in
    let l = lt-from_test c u.0 u.2 in
    (w, b.0, k, gives-from f d (at_least x w) (entails-not d (at_least x w) u.0 u.1 (test-from_lt w u.0 (omega (arith, ints)))) (sym s ∙ r.1))

upper_at : (f : Face) (d : Domains) (x : ℕ) (c : ℤ) (o : Option ℤ) → f.test d ≡ false → gives f d (at_most x c) ≡ true → Tops (upto c) (values d x) o → Lands f d x (at_most x) (λ w. w ≤ℤ c)
upper_at f d x c None n g b =
    let r = gives-parts f d (at_most x c) g in
    absurd (idle f d (at_most x c) n (entails-from d (negated (at_most x c)) (λ v h. let l = lt-from_test v c (b v h) in test-from_le (c +ℤ pos 1) v (omega (arith, ints)))) r.1)
upper_at f d x c (Some w) n g b =
    let r = gives-parts f d (at_most x c) g in
    let k = le-from_test w c b.1 in
    let s = gives_same f d (at_most x c) (at_most x w) refl (λ v m. upper_same (values d x) c w v k b.2 m) in
    let u = entails-fails d (at_most x c) r.0 in
    let l = lt-from_test u.0 c u.2 in
    (w, b.0, k, gives-from f d (at_most x w) (entails-not d (at_most x w) u.0 u.1 (test-from_lt u.0 w (omega (arith, ints)))) (sym s ∙ r.1))

-- a lower bound that is new and follows: so does one at a value, and it is no less
pub lower-lands : (f : Face) (d : Domains) (x : ℕ) (c : ℤ) → f.test d ≡ false → gives f d (at_least x c) ≡ true → Lands f d x (at_least x) (λ w. c ≤ℤ w)
lower-lands f d x c n g = lower_at f d x c (least (filter (from c) (values d x))) n g (least-bottoms (from c) (values d x))

-- an upper bound that is new and follows: so does one at a value, and it is no greater
pub upper-lands : (f : Face) (d : Domains) (x : ℕ) (c : ℤ) → f.test d ≡ false → gives f d (at_most x c) ≡ true → Lands f d x (at_most x) (λ w. w ≤ℤ c)
upper-lands f d x c n g = upper_at f d x c (greatest (filter (upto c) (values d x))) n g (greatest-tops (upto c) (values d x))

-- a number that is newly taken out is a value
pub hole-lands : (f : Face) (d : Domains) (x : ℕ) (c : ℤ) → gives f d (other_than x c) ≡ true → Among c (values d x)
hole-lands f d x c g =
    let u = entails-fails d (other_than x c) (gives-parts f d (other_than x c) g).0 in
    subst (λ v. Among v (values d x)) (same-from_tests u.0 c (not-false (int_le u.0 c && int_le c u.0) u.2)) u.1

-- ---- one variable

-- the best candidate on the variable, and none exactly where there is none
abbrev IsBestOn : Face → Domains → ℕ → Option Atomic → Type 0
IsBestOn f d x None = (b : Atomic) → IsCandidate f d b → b.var ≡ x → ⊥
IsBestOn f d x (Some a) = (a.var ≡ x) × (is_permitted a.op (f.point a.var a.value) ≡ true) × (gives f d a ≡ true) × Among a.value (values d a.var) × ((b : Atomic) → IsCandidate f d b → b.var ≡ x → Precedes a.op a.value b.op b.value)

-- the candidate's comparison and number on the variable
on_var : (f : Face) (d : Domains) (x : ℕ) (b : Atomic) → b.var ≡ x → IsCandidate f d b → (is_permitted b.op (f.point x b.value) ≡ true) × (gives f d (record { var = x; op = b.op; value = b.value }) ≡ true)
on_var f d x b e k = (
  subst (λ y. is_permitted b.op (f.point y b.value) ≡ true) e k.permitted,
  subst (λ (y : ℕ). gives f d (record { var = y; op = b.op; value = b.value }) ≡ true) e k.given,
)

abbrev lowers : Face → Domains → ℕ → ℤ → Bool
lowers f d x v = gives f d (at_least x v)

abbrev uppers : Face → Domains → ℕ → ℤ → Bool
uppers f d x v = gives f d (at_most x v)

abbrev holes : Face → Domains → ℕ → ℤ → Bool
holes f d x v = f.point x v && gives f d (other_than x v)

after_lower : (f : Face) (d : Domains) (x : ℕ) (v : ℤ) → f.test d ≡ false → Tops (lowers f d x) (values d x) (Some v) → (o : Op) (w : ℤ) → gives f d (record { var = x; op = o; value = w }) ≡ true → Precedes Ge v o w
after_lower f d x v n t Ge w g = let r = lower-lands f d x w n g in let k = t.2 r.0 r.1 r.3 in let l = r.2 in omega (arith, ints)
after_lower f d x v n t Le w g = tt
after_lower f d x v n t Eq w g = tt
after_lower f d x v n t Ne w g = tt

no_lower : (f : Face) (d : Domains) (x : ℕ) (w : ℤ) → f.test d ≡ false → Tops (lowers f d x) (values d x) None → gives f d (at_least x w) ≡ true → ⊥
no_lower f d x w n t g = let r = lower-lands f d x w n g in both_ways (lowers f d x r.0) (t r.0 r.1) r.3

no_upper : (f : Face) (d : Domains) (x : ℕ) (w : ℤ) → f.test d ≡ false → Bottoms (uppers f d x) (values d x) None → gives f d (at_most x w) ≡ true → ⊥
no_upper f d x w n t g = let r = upper-lands f d x w n g in both_ways (uppers f d x r.0) (t r.0 r.1) r.3

after_upper : (f : Face) (d : Domains) (x : ℕ) (v : ℤ) → f.test d ≡ false → Tops (lowers f d x) (values d x) None → Bottoms (uppers f d x) (values d x) (Some v) → (o : Op) (w : ℤ) → gives f d (record { var = x; op = o; value = w }) ≡ true → Precedes Le v o w
after_upper f d x v n t u Ge w g = no_lower f d x w n t g
after_upper f d x v n t u Le w g = let r = upper-lands f d x w n g in let k = u.2 r.0 r.1 r.3 in let l = r.2 in omega (arith, ints)
after_upper f d x v n t u Eq w g = tt
after_upper f d x v n t u Ne w g = tt

after_hole : (f : Face) (d : Domains) (x : ℕ) (v : ℤ) → f.test d ≡ false → Tops (lowers f d x) (values d x) None → Bottoms (uppers f d x) (values d x) None → Bottoms (holes f d x) (values d x) (Some v) → (o : Op) (w : ℤ) → is_permitted o (f.point x w) ≡ true → gives f d (record { var = x; op = o; value = w }) ≡ true → Precedes Ne v o w
after_hole f d x v n t u h Ge w p g = no_lower f d x w n t g
after_hole f d x v n t u h Le w p g = no_upper f d x w n u g
after_hole f d x v n t u h Eq w p g = tt
after_hole f d x v n t u h Ne w p g = h.2 w (hole-lands f d x w g) (and_from (f.point x w) (gives f d (other_than x w)) p g)

none_at : (f : Face) (d : Domains) (x : ℕ) → f.test d ≡ false → Tops (lowers f d x) (values d x) None → Bottoms (uppers f d x) (values d x) None → Bottoms (holes f d x) (values d x) None → (o : Op) (w : ℤ) → is_permitted o (f.point x w) ≡ true → gives f d (record { var = x; op = o; value = w }) ≡ true → ⊥
none_at f d x n t u h Ge w p g = no_lower f d x w n t g
none_at f d x n t u h Le w p g = no_upper f d x w n u g
none_at f d x n t u h Eq w p g = false≢true p
none_at f d x n t u h Ne w p g = both_ways (holes f d x w) (h w (hole-lands f d x w g)) (and_from (f.point x w) (gives f d (other_than x w)) p g)

best_on : (f : Face) (d : Domains) (x : ℕ) → f.test d ≡ false → (lower upper hole : Option ℤ) → Tops (lowers f d x) (values d x) lower → Bottoms (uppers f d x) (values d x) upper → Bottoms (holes f d x) (values d x) hole
    → IsBestOn f d x (or_else (option_map (at_least x) lower) (or_else (option_map (at_most x) upper) (option_map (other_than x) hole)))
best_on f d x n (Some v) upper hole t u h = (refl, refl, t.1, t.0, λ b k e. after_lower f d x v n t b.op b.value (on_var f d x b e k).1)
best_on f d x n None (Some v) hole t u h = (refl, refl, u.1, u.0, λ b k e. after_upper f d x v n t u b.op b.value (on_var f d x b e k).1)
best_on f d x n None None (Some v) t u h =
    let r = and_parts (f.point x v) (gives f d (other_than x v)) h.1 in
    (refl, r.0, r.1, h.0, λ b k e. let m = on_var f d x b e k in after_hole f d x v n t u h b.op b.value m.0 m.1)
best_on f d x n None None None t u h = λ b k e. let m = on_var f d x b e k in none_at f d x n t u h b.op b.value m.0 m.1

given_on-best : (f : Face) (d : Domains) (x : ℕ) → f.test d ≡ false → IsBestOn f d x (given_on f d x)
given_on-best f d x n =
    best_on f d x n (greatest (filter (lowers f d x) (values d x))) (least (filter (uppers f d x) (values d x))) (least (filter (holes f d x) (values d x)))
    (greatest-tops (lowers f d x) (values d x)) (least-bottoms (uppers f d x) (values d x)) (least-bottoms (holes f d x) (values d x))

-- ---- all variables

-- the first candidate on these variables, and none exactly where there is none
abbrev IsFirstOf : Face → Domains → List ℕ → Option Atomic → Type 0
IsFirstOf f d xs None = (b : Atomic) → IsCandidate f d b → Among b.var xs → ⊥
IsFirstOf f d xs (Some a) = IsCandidate f d a × Among a.value (values d a.var) × ((b : Atomic) → IsCandidate f d b → Among b.var xs → a.var ≤ b.var) × ((b : Atomic) → IsCandidate f d b → b.var ≡ a.var → Precedes a.op a.value b.op b.value)

least_var : (x : ℕ) (xs : List ℕ) (a b : ℕ) → a ≡ x → Each (λ y. x < y) xs → Among b (x ∷ xs) → a ≤ b
least_var x xs a b e h (inl k) = omega arith
least_var x xs a b e h (inr k) = let l : x < b = Each-among (λ y. x < y) xs h b k in omega arith

later_var : (f : Face) (d : Domains) (x : ℕ) (xs : List ℕ) (a : ℕ) → IsBestOn f d x None → ((b : Atomic) → IsCandidate f d b → Among b.var xs → a ≤ b.var) → (b : Atomic) → IsCandidate f d b → Among b.var (x ∷ xs) → a ≤ b.var
later_var f d x xs a n h b k (inl e) = absurd (n b k e)
later_var f d x xs a n h b k (inr m) = h b k m

no_var : (f : Face) (d : Domains) (x : ℕ) (xs : List ℕ) → IsBestOn f d x None → IsFirstOf f d xs None → (b : Atomic) → IsCandidate f d b → Among b.var (x ∷ xs) → ⊥
no_var f d x xs n h b k (inl e) = n b k e
no_var f d x xs n h b k (inr m) = h b k m

first_step : (f : Face) (d : Domains) (x : ℕ) (xs : List ℕ) → Among x f.scope → Each (λ y. x < y) xs → (o r : Option Atomic) → IsBestOn f d x o → IsFirstOf f d xs r → IsFirstOf f d (x ∷ xs) (or_else o r)
first_step f d x xs s h (Some a) r b q = (
  record { of_scope = subst (λ y. Among y f.scope) (sym b.0) s; permitted = b.1; given = b.2 },
  b.3,
  λ c k m. least_var x xs a.var c.var b.0 h m,
  λ c k e. b.4 c k (e ∙ b.0),
)
first_step f d x xs s h None (Some a) b q = (q.0, q.1, later_var f d x xs a.var b q.2, q.3)
first_step f d x xs s h None None b q = no_var f d x xs b q

given-first : (f : Face) (d : Domains) (xs : List ℕ) → f.test d ≡ false → Climbs xs → ((x : ℕ) → Among x xs → Among x f.scope) → IsFirstOf f d xs (given f d xs)
given-first f d [] n c s = λ b k m. m
given-first f d (x ∷ xs) n c s = first_step f d x xs (s x (inl refl)) c.0 (given_on f d x) (given f d xs) (given_on-best f d x n) (given-first f d xs n c.1 (λ y h. s y (inr h)))

-- an atom that follows from a part that does not clash leaves each variable a value
pub gives-alive : (f : Face) (d : Domains) (a : Atomic) → f.test d ≡ false → is_dead d ≡ false → gives f d a ≡ true → is_dead (cut d a) ≡ false
gives-alive f d a n l g = false_from_ne_true (is_dead (cut d a)) (λ t. idle f d a n (entails-from_dead_cut d a l t) (gives-parts f d a g).1)

is_turn : (f : Face) (d : Domains) (b : Bool) (o : Option Atomic) → is_dead d ≡ false → f.test d ≡ b → (f.test d ≡ false → IsFirstOf f d f.scope o) → IsTurn f d (cond b (Some Clash) (option_map Atom o))
is_turn f d true o l e h = e
is_turn f d false None l e h = (e, λ b k. h e b k k.of_scope)
is_turn f d false (Some a) l e h = let q = h e in (
  e,
  record {
    candidate = q.0;
    variable = λ b k. q.2 b k k.of_scope;
    preferred = q.3;
    value = q.1;
    alive = gives-alive f d a e l q.0.given;
  },
)

-- the turn of a part is its turn in words of all integers
pub turn_of-is : (f : Face) (d : Domains) → Climbs f.scope → is_dead d ≡ false → IsTurn f d (turn_of f d)
turn_of-is f d c l = is_turn f d (f.test d) (given f d f.scope) l refl (λ n. given-first f d f.scope n c (λ x h. h))

-- ---- no other turn

abbrev atom_of : ℕ → Op → ℤ → Atomic
atom_of x o v = record { var = x; op = o; value = v }

same_atom : (x y : ℕ) (o : Op) (v w : ℤ) → x ≡ y → v ≡ w → atom_of x o v ≡ atom_of y o w
same_atom x y o v w e f = cc

both_first : (v w : ℤ) → v ≤ℤ w → w ≤ℤ v → v ≡ w
both_first v w h g = omega (arith, ints)

-- two atoms of one variable of which each comes before the other, or is it, are one atom
first_of_both : (x y : ℕ) (o p : Op) (v w : ℤ) → x ≡ y → Precedes o v p w → Precedes p w o v → atom_of x o v ≡ atom_of y p w
first_of_both x y Ge Ge v w e h g = same_atom x y Ge v w e (both_first v w g h)
first_of_both x y Ge Le v w e h g = absurd g
first_of_both x y Ge Eq v w e h g = absurd g
first_of_both x y Ge Ne v w e h g = absurd g
first_of_both x y Le Ge v w e h g = absurd h
first_of_both x y Le Le v w e h g = same_atom x y Le v w e (both_first v w h g)
first_of_both x y Le Eq v w e h g = absurd g
first_of_both x y Le Ne v w e h g = absurd g
first_of_both x y Eq p v w e h g = absurd h
first_of_both x y Ne Ge v w e h g = absurd h
first_of_both x y Ne Le v w e h g = absurd h
first_of_both x y Ne Eq v w e h g = absurd g
first_of_both x y Ne Ne v w e h g = same_atom x y Ne v w e (both_first v w h g)

-- a part has one first candidate
first-only : (f : Face) (d : Domains) (a b : Atomic) → IsFirst f d a → IsFirst f d b → a ≡ b
first-only f d a b h k =
    let e : a.var ≡ b.var = both_ways_le a.var b.var (h.variable b k.candidate) (k.variable a h.candidate) in
    first_of_both a.var b.var a.op b.op a.value b.value e (h.preferred b k.candidate (sym e)) (k.preferred a h.candidate e)
  where
    both_ways_le : (x y : ℕ) → x ≤ y → y ≤ x → x ≡ y
    both_ways_le x y h g = omega arith

turns_same : (f : Face) (d : Domains) (r q : Option Found) → IsTurn f d r → IsTurn f d q → r ≡ q
turns_same f d None None h k = refl
turns_same f d None (Some Clash) h k = absurd (both_ways (f.test d) h.0 k)
turns_same f d None (Some (Atom b)) h k = absurd (h.1 b k.1.candidate)
turns_same f d (Some Clash) None h k = absurd (both_ways (f.test d) k.0 h)
turns_same f d (Some Clash) (Some Clash) h k = refl
turns_same f d (Some Clash) (Some (Atom b)) h k = absurd (both_ways (f.test d) k.0 h)
turns_same f d (Some (Atom a)) None h k = absurd (k.1 a h.1.candidate)
turns_same f d (Some (Atom a)) (Some Clash) h k = absurd (both_ways (f.test d) h.0 k)
turns_same f d (Some (Atom a)) (Some (Atom b)) h k = ap (λ (c : Atomic). Some (Atom c)) (first-only f d a b h.1 k.1)

-- what is the turn in words of all integers is the turn
pub turn-only : (f : Face) (d : Domains) → Climbs f.scope → is_dead d ≡ false → (r : Option Found) → IsTurn f d r → r ≡ turn_of f d
turn-only f d c l r h = turns_same f d r (turn_of f d) h (turn_of-is f d c l)
