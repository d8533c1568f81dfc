-- The test of a capacity is true exactly where it is kept at every time.
use Rattle.std.proofs.Common.{◌≡◌, Bool, true, false, ◌&&◌, ◌⊎◌, ◌↔◌, if◌then◌else◌, List, [], ◌∷◌, map, ℤ, pos, ◌+ℤ◌, ◌-ℤ◌, ◌≤ℤ◌, ◌<ℤ◌, int_le, int_lt, refl, sym, ◌∙◌, ap, subst, inl, inr, arith}
use Rattle.std.specs.List.{filter, list_all}
use Rattle.std.proofs.lemmas.Int.{ints}
use Rattle.std.proofs.lemmas.Bool.{and_from, and_parts}
use Rattle.dp_base.specs.Lists.{Among}
use Rattle.dp_base.proofs.Lists.{list_all-at, list_all-from}
use Rattle.dp_domain.proofs.AtomLaws.{le-from_test, order_cases, test-from_le, test-from_lt}
use Rattle.fz_sat.specs.Globals.{KeepsCapacity, Task, end_of, keeps_around, keeps_at, keeps_capacity, runs_at, total, usage_at}

-- ---- tests of order

order_of : (x y : ℤ) → (x ≤ℤ y) ⊎ (y <ℤ x)
order_of x y = elim (order_cases x y) [
  | inl same ↦ inl (omega (arith, ints, same))
  | inr (inl less) ↦ inl (omega (arith, ints, less))
  | inr (inr more) ↦ inr more
]

le_same : (x y u v : ℤ) → (x ≤ℤ y → u ≤ℤ v) → (u ≤ℤ v → x ≤ℤ y) → int_le x y ≡ int_le u v
le_same x y u v to back = elim (order_of x y) [
  | inl h ↦ test-from_le x y h ∙ sym (test-from_le u v (to h))
  | inr h ↦ test-from_lt x y h ∙ sym (test-from_lt u v (turned h))
]
  where
    not_both : (x y : ℤ) → x ≤ℤ y → y <ℤ x → ⊥
    not_both x y h k = omega (arith, ints)

    turned : y <ℤ x → v <ℤ u
    turned h = elim (order_of u v) [ inl k ↦ absurd (not_both x y (back k) h) | inr k ↦ k ]

lt_by_le : (x y : ℤ) → int_lt x y ≡ int_le (x +ℤ pos 1) y
lt_by_le x y = grind (arith, ints)

-- ---- times at which the use may change

-- the starts and ends of the tasks
changes : List Task → List ℤ
changes [] = []
changes (k ∷ tasks) = k.start ∷ end_of k ∷ changes tasks

start_changes : (tasks : List Task) (k : Task) → Among k tasks → Among k.start (changes tasks)
unfolding changes
start_changes [] k here = here
start_changes (j ∷ tasks) k (inl e) = inl (ap (λ (i : Task). i.start) e)
start_changes (j ∷ tasks) k (inr here) = inr (inr (start_changes tasks k here))

end_changes : (tasks : List Task) (k : Task) → Among k tasks → Among (end_of k) (changes tasks)
unfolding changes
end_changes [] k here = here
end_changes (j ∷ tasks) k (inl e) = inr (inl (ap end_of e))
end_changes (j ∷ tasks) k (inr here) = inr (inr (end_changes tasks k here))

-- c is one of the times and has come at t, and no later one has
record IsLatest (t : ℤ) (times : List ℤ) (c : ℤ) : Type 0 where
  among : Among c times
  come : c ≤ℤ t
  last : (u : ℤ) → Among u times → u ≤ℤ t → u ≤ℤ c

AllAhead : ℤ → List ℤ → Type 0
AllAhead t times = (u : ℤ) → Among u times → t <ℤ u

later : (x y z : ℤ) → x <ℤ y → z ≡ y → x <ℤ z
later x y z h e = omega (arith, ints, h, e)

at_most : (x y z : ℤ) → x ≤ℤ y → z ≡ x → z ≤ℤ y
at_most x y z h e = omega (arith, ints, h, e)

through : (x y z : ℤ) → x ≤ℤ y → y ≤ℤ z → x ≤ℤ z
through x y z h k = omega (arith, ints, h, k)

less : (x y : ℤ) → x <ℤ y → x ≤ℤ y
less x y h = omega (arith, ints, h)

not_ahead : (x y : ℤ) → x <ℤ y → y ≤ℤ x → ⊥
not_ahead x y h k = omega (arith, ints, h, k)

ahead_more : (t v : ℤ) (times : List ℤ) → t <ℤ v → AllAhead t times → AllAhead t (v ∷ times)
unfolding AllAhead
ahead_more t v times h ahead u (inl e) = later t v u h e
ahead_more t v times h ahead u (inr here) = ahead u here

first_latest : (t v : ℤ) (times : List ℤ) → v ≤ℤ t → AllAhead t times → IsLatest t (v ∷ times) v
unfolding AllAhead
first_latest t v times h ahead = record { among = inl refl; come = h; last = only }
  where
    only : (u : ℤ) → Among u (v ∷ times) → u ≤ℤ t → u ≤ℤ v
    only u (inl e) k = omega (arith, ints, e)
    only u (inr here) k = absurd (not_ahead t u (ahead u here) k)

-- an earlier time, or one ahead, in front
skip_latest : (t v c : ℤ) (times : List ℤ) → (v ≤ℤ t → v ≤ℤ c) → IsLatest t times c → IsLatest t (v ∷ times) c
skip_latest t v c times h latest = record { among = inr latest.among; come = latest.come; last = others }
  where
    others : (u : ℤ) → Among u (v ∷ times) → u ≤ℤ t → u ≤ℤ c
    others u (inl e) k = at_most v c u (h (at_most u t v k (sym e))) e
    others u (inr here) k = latest.last u here k

-- a later time in front
take_latest : (t v c : ℤ) (times : List ℤ) → v ≤ℤ t → c <ℤ v → IsLatest t times c → IsLatest t (v ∷ times) v
take_latest t v c times h k latest = record { among = inl refl; come = h; last = others }
  where
    others : (u : ℤ) → Among u (v ∷ times) → u ≤ℤ t → u ≤ℤ v
    others u (inl e) l = omega (arith, ints, e)
    others u (inr here) l = through u c v (latest.last u here l) (less c v k)

latest_with : (t v : ℤ) (times : List ℤ) → (v ≤ℤ t) ⊎ (t <ℤ v) → AllAhead t times ⊎ ((c : ℤ) × IsLatest t times c) → AllAhead t (v ∷ times) ⊎ ((c : ℤ) × IsLatest t (v ∷ times) c)
latest_with t v times (inl h) (inl ahead) = inr (v, first_latest t v times h ahead)
latest_with t v times (inr h) (inl ahead) = inl (ahead_more t v times h ahead)
latest_with t v times (inr h) (inr latest) = inr (latest.0, skip_latest t v latest.0 times (λ k. absurd (not_ahead t v h k)) latest.1)
latest_with t v times (inl h) (inr latest) = elim (order_of v latest.0) [
  | inl k ↦ inr (latest.0, skip_latest t v latest.0 times (λ _. k) latest.1)
  | inr k ↦ inr (v, take_latest t v latest.0 times h k latest.1)
]

-- all times are ahead, or one that has come is the latest
latest_of : (t : ℤ) (times : List ℤ) → AllAhead t times ⊎ ((c : ℤ) × IsLatest t times c)
unfolding AllAhead
latest_of t [] = inl (λ u here. absurd here)
latest_of t (v ∷ times) = latest_with t v times (order_of v t) (latest_of t times)

-- ---- what is used between changes

filter_same : (p q : Task → Bool) (tasks : List Task) → ((k : Task) → Among k tasks → p k ≡ q k) → filter p tasks ≡ filter q tasks
filter_same p q [] each = refl
filter_same p q (k ∷ tasks) each =
    ap (λ b. if b then k ∷ filter p tasks else filter p tasks) (each k (inl refl)) ∙ ap (λ js. if q k then k ∷ js else js) (filter_same p q tasks (λ j here. each j (inr here)))

usage_same : (t u : ℤ) (tasks : List Task) → ((k : Task) → Among k tasks → runs_at t k ≡ runs_at u k) → usage_at t tasks ≡ usage_at u tasks
usage_same t u tasks each = ap (λ ks. total (map (λ (k : Task). k.usage) ks)) (filter_same (runs_at t) (runs_at u) tasks each)

filter_none : (p : Task → Bool) (tasks : List Task) → ((k : Task) → Among k tasks → p k ≡ false) → filter p tasks ≡ []
filter_none p [] each = refl
filter_none p (k ∷ tasks) each = ap (λ b. if b then k ∷ filter p tasks else filter p tasks) (each k (inl refl)) ∙ filter_none p tasks (λ j here. each j (inr here))

usage_none : (t : ℤ) (tasks : List Task) → ((k : Task) → Among k tasks → t <ℤ k.start) → usage_at t tasks ≡ pos 0
usage_none t tasks ahead = ap (λ ks. total (map (λ (k : Task). k.usage) ks)) (filter_none (runs_at t) tasks (λ k here. ap (λ b. b && int_lt t (end_of k)) (test-from_lt k.start t (ahead k here))))

-- at the latest change the same tasks run
runs_same : (t c : ℤ) (tasks : List Task) → IsLatest t (changes tasks) c → (k : Task) → Among k tasks → runs_at t k ≡ runs_at c k
runs_same t c tasks latest k here =
    ap (λ b. b && int_lt t (end_of k)) (le_same k.start t k.start c (latest.last k.start (start_changes tasks k here)) (λ h. through k.start c t h latest.come))
    ∙ ap (λ b. int_le k.start c && b) (ends t c (end_of k) latest.come (latest.last (end_of k) (end_changes tasks k here)))
  where
    after : (t c e : ℤ) → c ≤ℤ t → (t +ℤ pos 1) ≤ℤ e → (c +ℤ pos 1) ≤ℤ e
    after t c e h k = omega (arith, ints, h, k)

    up : (x y : ℤ) → x <ℤ y → (x +ℤ pos 1) ≤ℤ y
    up x y h = omega (arith, ints, h)

    down : (x y : ℤ) → (x +ℤ pos 1) ≤ℤ y → x <ℤ y
    down x y h = omega (arith, ints, h)

    before : (t c e : ℤ) → (e ≤ℤ t → e ≤ℤ c) → (c +ℤ pos 1) ≤ℤ e → (t +ℤ pos 1) ≤ℤ e
    before t c e h k = elim (order_of e t) [ inl l ↦ absurd (not_ahead c e (down c e k) (h l)) | inr l ↦ up t e l ]

    ends : (t c e : ℤ) → c ≤ℤ t → (e ≤ℤ t → e ≤ℤ c) → int_lt t e ≡ int_lt c e
    ends t c e h k = lt_by_le t e ∙ le_same (t +ℤ pos 1) e (c +ℤ pos 1) e (after t c e h) (before t c e k) ∙ sym (lt_by_le c e)

-- ---- the test

kept_at : (tasks : List Task) (capacity : ℤ) (c : ℤ) → keeps_at tasks capacity c ≡ true → usage_at c tasks ≤ℤ capacity
kept_at tasks capacity c e = le-from_test (usage_at c tasks) capacity e

kept_changes : (all : List Task) (capacity : ℤ) (tasks : List Task) → ((k : Task) → Among k tasks → keeps_around all capacity k ≡ true) → (c : ℤ) → Among c (changes tasks) → keeps_at all capacity c ≡ true
unfolding changes
kept_changes all capacity [] each c here = absurd here
kept_changes all capacity (k ∷ tasks) each c (inl e) = subst (λ t. keeps_at all capacity t ≡ true) (sym e) (and_parts (keeps_at all capacity k.start) (keeps_at all capacity (end_of k)) (each k (inl refl))).0
kept_changes all capacity (k ∷ tasks) each c (inr (inl e)) = subst (λ t. keeps_at all capacity t ≡ true) (sym e) (and_parts (keeps_at all capacity k.start) (keeps_at all capacity (end_of k)) (each k (inl refl))).1
kept_changes all capacity (k ∷ tasks) each c (inr (inr here)) = kept_changes all capacity tasks (λ j there. each j (inr there)) c here

capacity_from : (tasks : List Task) (capacity : ℤ) → keeps_capacity tasks capacity ≡ true → KeepsCapacity tasks capacity
unfolding AllAhead
capacity_from tasks capacity e t =
    let both = and_parts (int_le (pos 0) capacity) (list_all (keeps_around tasks capacity) tasks) e in
    let each = list_all-at (keeps_around tasks capacity) tasks in
    elim (latest_of t (changes tasks)) [
      | inl ahead ↦ at_most (pos 0) capacity (usage_at t tasks) (le-from_test (pos 0) capacity both.0) (usage_none t tasks (λ k here. ahead k.start (start_changes tasks k here)))
      | inr latest ↦ at_most (usage_at latest.0 tasks) capacity (usage_at t tasks)
          (kept_at tasks capacity latest.0 (kept_changes tasks capacity tasks (λ k here. each k both.1 here) latest.0 latest.1.among))
          (usage_same t latest.0 tasks (runs_same t latest.0 tasks latest.1))
    ]

-- some time comes before all starts
before_all : (tasks : List Task) → (t : ℤ) × ((k : Task) → Among k tasks → t <ℤ k.start)
before_all [] = (pos 0, λ k here. absurd here)
before_all (j ∷ tasks) = earlier j tasks (before_all tasks) (order_of j.start (before_all tasks).0)
  where
    below : (x y : ℤ) → x ≤ℤ y → (x -ℤ pos 1) <ℤ x
    below x y h = omega (arith, ints)

    below_too : (x y z : ℤ) → x ≤ℤ y → y <ℤ z → (x -ℤ pos 1) <ℤ z
    below_too x y z h k = omega (arith, ints, h, k)

    earlier : (j : Task) (tasks : List Task) (r : (t : ℤ) × ((k : Task) → Among k tasks → t <ℤ k.start)) → (j.start ≤ℤ r.0) ⊎ (r.0 <ℤ j.start) → (t : ℤ) × ((k : Task) → Among k (j ∷ tasks) → t <ℤ k.start)
    earlier j tasks r (inl h) = (j.start -ℤ pos 1, first)
      where
        first : (k : Task) → Among k (j ∷ tasks) → (j.start -ℤ pos 1) <ℤ k.start
        first k (inl e) = later (j.start -ℤ pos 1) j.start k.start (below j.start r.0 h) (ap (λ (i : Task). i.start) e)
        first k (inr here) = below_too j.start r.0 k.start h (r.1 k here)
    earlier j tasks r (inr h) = (r.0, others)
      where
        others : (k : Task) → Among k (j ∷ tasks) → r.0 <ℤ k.start
        others k (inl e) = later r.0 j.start k.start h (ap (λ (i : Task). i.start) e)
        others k (inr here) = r.1 k here

capacity_to : (tasks : List Task) (capacity : ℤ) → KeepsCapacity tasks capacity → keeps_capacity tasks capacity ≡ true
capacity_to tasks capacity keeps =
    let early = before_all tasks in
    and_from (int_le (pos 0) capacity) (list_all (keeps_around tasks capacity) tasks)
    (test-from_le (pos 0) capacity (at_most (usage_at early.0 tasks) capacity (pos 0) (keeps early.0) (sym (usage_none early.0 tasks early.1))))
    (list_all-from (keeps_around tasks capacity) tasks (λ k here. and_from (keeps_at tasks capacity k.start) (keeps_at tasks capacity (end_of k)) (test-from_le (usage_at k.start tasks) capacity (keeps k.start)) (test-from_le (usage_at (end_of k) tasks) capacity (keeps (end_of k)))))

-- tasks keep a capacity at every time exactly where they keep it when none runs, and wherever one starts or ends
pub capacity_exact : (tasks : List Task) (capacity : ℤ) → keeps_capacity tasks capacity ≡ true ↔ KeepsCapacity tasks capacity
capacity_exact tasks capacity = (capacity_from tasks capacity, capacity_to tasks capacity)
