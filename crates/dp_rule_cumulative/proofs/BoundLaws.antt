-- The bounds beside the times at which a task does not fit are those that are given.
use Rattle.std.proofs.Common.{◌≡◌, ℕ, ◌+◌, ◌<◌, Bool, true, false, Option, Some, None, option_map, is_some, List, [], ◌∷◌, ℤ, pos, ◌+ℤ◌, ◌-ℤ◌, ◌≤ℤ◌, ◌<ℤ◌, int_le, refl, sym, ◌∙◌, ap, subst, inl, inr, arith}
use Rattle.std.specs.Prelude.{cond, unwrap_or, ◌&&◌}
use Rattle.std.specs.List.{filter}
use Rattle.std.proofs.lemmas.Int.{ints}
use Rattle.std.proofs.lemmas.Bool.{both_ways, cases_Bool, false_from_ne_true, false≢true}
use Rattle.dp_base.specs.Lists.{Among}
use Rattle.dp_base.proofs.Lists.{Among-filter_all, Among-filter_only}
use Rattle.dp_domain.specs.Atoms.{Atomic, negated}
use Rattle.dp_domain.specs.Sets.{greatest, least}
use Rattle.dp_domain.specs.States.{Domains, entails, values}
use Rattle.dp_domain.specs.Turns.{at_least, at_most, gives, given_on, new_hole, new_lower, new_upper, or_else, other_than}
use Rattle.dp_domain.specs.declared.term.Term.TheVariants.{Var}
use Rattle.dp_domain.specs.Terms.{term_values}
use Rattle.dp_domain.proofs.AtomLaws.{le-from_test, lt-from_test, test-from_le, test-from_lt}
use Rattle.dp_domain.proofs.IntervalSteps.{from_max, from_min, over_both, under_both}
use Rattle.dp_domain.proofs.SetLaws.{greatest-is, greatest_from-among, least-is, least_from-among}
use Rattle.dp_domain.proofs.StateLaws.{entails-fails, entails-not}
use Rattle.dp_domain.proofs.TurnLaws.{Bottoms, Tops, gives-parts, greatest-tops, least-bottoms}
use Rattle.dp_rule_cumulative.specs.Profiles.{IsBound, IsEarliest, IsLast, IsLowerBound, IsUpperBound, bound_after, bound_before, conflicts, early_demand, first_start, last_start, late_demand, parts_of, used_at}
use Rattle.dp_rule_cumulative.specs.Schedules.{Schedule, earliest_end, latest_start, must_run, usage_of}
use Rattle.dp_rule_cumulative.specs.TimeTable.{face_cumulative}
use Rattle.dp_rule_cumulative.specs.UsageLaws.{during_from, during_parts, greatest-value, least-value}
use Rattle.dp_rule_cumulative.specs.declared.task.Task.{Task}
use Rattle.dp_rule_cumulative.proofs.CauseLaws.{IsAlone, IsCause, cause-given, given-cause, runs-each}
use Rattle.dp_rule_cumulative.proofs.ConflictLaws.{lacks_from, lacks_parts}
use Rattle.dp_rule_cumulative.proofs.ProfileLaws.{used-is}

-- ---- numbers

le_trans : (a b c : ℤ) → a ≤ℤ b → b ≤ℤ c → a ≤ℤ c
le_trans a b c h k = omega (arith, ints)

lt_le : (a b c : ℤ) → a <ℤ b → b ≤ℤ c → a <ℤ c
lt_le a b c h k = omega (arith, ints)

le_lt : (a b c : ℤ) → a ≤ℤ b → b <ℤ c → a <ℤ c
le_lt a b c h k = omega (arith, ints)

not_less : (a b : ℤ) → a <ℤ b → b ≤ℤ a → ⊥
not_less a b h k = omega (arith, ints)

next_le : (a b : ℤ) → a <ℤ b → (a +ℤ pos 1) ≤ℤ b
next_le a b h = omega (arith, ints)

next_lt : (a b : ℤ) → (a +ℤ pos 1) ≤ℤ b → a <ℤ b
next_lt a b h = omega (arith, ints)

back_le : (a b : ℤ) → a <ℤ b → a ≤ℤ (b -ℤ pos 1)
back_le a b h = omega (arith, ints)

back_lt : (a b : ℤ) → a ≤ℤ (b -ℤ pos 1) → a <ℤ b
back_lt a b h = omega (arith, ints)

longer : (a b n t : ℤ) → a ≤ℤ b → t <ℤ (a +ℤ n) → t <ℤ (b +ℤ n)
longer a b n t h k = omega (arith, ints)

ends_by : (a n t : ℤ) → (a +ℤ n) ≤ℤ t → a ≤ℤ (t -ℤ n)
ends_by a n t h = omega (arith, ints)

ends_after : (a n t : ℤ) → (t -ℤ n) <ℤ a → t <ℤ (a +ℤ n)
ends_after a n t h = omega (arith, ints)

ends_until : (a n t : ℤ) → a ≤ℤ (t -ℤ n) → (a +ℤ n) ≤ℤ t
ends_until a n t h = omega (arith, ints)

starts_until : (a b n t : ℤ) → a ≤ℤ (t -ℤ n) → t <ℤ (b +ℤ n) → a <ℤ b
starts_until a b n t h k = omega (arith, ints)

no_less : (a : ℤ) → a <ℤ a → ⊥
no_less a h = omega (arith, ints)

-- ---- first and last of values

first_here : (xs : List ℤ) (v : ℤ) → Among v xs → Among (first_start xs) xs
first_here [] v h = absurd h
first_here (x ∷ xs) v h = least_from-among x xs

last_here : (xs : List ℤ) (v : ℤ) → Among v xs → Among (last_start xs) xs
last_here [] v h = absurd h
last_here (x ∷ xs) v h = greatest_from-among x xs

some_here : (xs : List ℤ) → first_start xs <ℤ last_start xs → Among (first_start xs) xs
some_here [] h = absurd (no_less (pos 0) h)
some_here (x ∷ xs) h = least_from-among x xs

latest_is : (d : Domains) (x : ℕ) (k : Task) → k.start ≡ Var x → latest_start d k ≡ last_start (values d x)
latest_is d x k e = ap (λ s. unwrap_or (greatest (term_values d s)) (pos 0)) e

end_is : (d : Domains) (x : ℕ) (k : Task) → k.start ≡ Var x → earliest_end d k ≡ (first_start (values d x) +ℤ pos k.duration)
end_is d x k e = ap (λ s. unwrap_or (least (term_values d s)) (pos 0) +ℤ pos k.duration) e

filter_none : (p : ℤ → Bool) (xs : List ℤ) → ((v : ℤ) → Among v xs → p v ≡ false) → filter p xs ≡ []
filter_none p [] h = refl
filter_none p (x ∷ xs) h = step (p x) (h x (inl refl)) (filter_none p xs (λ v k. h v (inr k)))
  where
    step : (b : Bool) → b ≡ false → filter p xs ≡ [] → cond b (x ∷ filter p xs) (filter p xs) ≡ []
    step true e f = absurd (both_ways true e refl)
    step false e f = f

-- ---- when the task must run already

runs_from : (d : Domains) (x : ℕ) (k : Task) (t : ℤ) → k.start ≡ Var x → last_start (values d x) ≤ℤ t → t <ℤ (first_start (values d x) +ℤ pos k.duration) → must_run d t k ≡ true
runs_from d x k t e h g =
    during_from (latest_start d k) (earliest_end d k) t (subst (λ s. s ≤ℤ t) (sym (latest_is d x k e)) h) (subst (λ s. t <ℤ s) (sym (end_is d x k e)) g)

runs_parts : (d : Domains) (x : ℕ) (k : Task) (t : ℤ) → k.start ≡ Var x → must_run d t k ≡ true → (last_start (values d x) ≤ℤ t) × (t <ℤ (first_start (values d x) +ℤ pos k.duration))
runs_parts d x k t e r =
    let s = during_parts (latest_start d k) (earliest_end d k) t r in
    (subst (λ s. s ≤ℤ t) (latest_is d x k e) s.0, subst (λ s. t <ℤ s) (end_is d x k e) s.1)

-- ---- lower bounds

abbrev early : Schedule → Domains → ℕ → Task → ℤ → Bool
early q d x k t = conflicts (early_demand (first_start (values d x)) (last_start (values d x)) q.capacity k) (parts_of d q.tasks) t

-- the time comes before the last start and the first end, and the task does not fit
record IsEarly (q : Schedule) (d : Domains) (x : ℕ) (k : Task) (t : ℤ) : Type 0 where
  from : first_start (values d x) ≤ℤ t
  last : t <ℤ last_start (values d x)
  end : t <ℤ (first_start (values d x) +ℤ pos k.duration)
  over : q.capacity < usage_of (must_run d t) q.tasks + k.usage

early_parts : (q : Schedule) (d : Domains) (x : ℕ) (k : Task) (t : ℤ) → early q d x k t ≡ true → IsEarly q d x k t
early_parts q d x k t e =
    let w = early_demand (first_start (values d x)) (last_start (values d x)) q.capacity k in
    let l = lacks_parts w t (used_at t (parts_of d q.tasks)) e in
    let s = from_min (first_start (values d x) +ℤ pos k.duration) (last_start (values d x)) (t +ℤ pos 1) (next_le t _ (back_lt t _ l.last)) in
    record {
      from = l.first;
      last = next_lt t (last_start (values d x)) s.1;
      end = next_lt t (first_start (values d x) +ℤ pos k.duration) s.0;
      over = subst (λ n. q.capacity < n + k.usage) (used-is d t q.tasks) l.over;
    }

early_from : (q : Schedule) (d : Domains) (x : ℕ) (k : Task) (t : ℤ) → IsEarly q d x k t → early q d x k t ≡ true
early_from q d x k t i =
    let w = early_demand (first_start (values d x)) (last_start (values d x)) q.capacity k in
    lacks_from w t (used_at t (parts_of d q.tasks)) (record {
      first = i.from;
      last = back_le t _ (next_lt t _ (under_both (t +ℤ pos 1) (first_start (values d x) +ℤ pos k.duration) (last_start (values d x)) (next_le t _ i.end) (next_le t _ i.last)));
      over = subst (λ n. q.capacity < n + k.usage) (sym (used-is d t q.tasks)) i.over;
    })

-- the cause of a lower bound: an early time that none of the lesser values is beyond
early_cause : (q : Schedule) (d : Domains) (x : ℕ) (k : Task) (v t : ℤ) → IsAlone q d x k → entails d (at_least x v) ≡ false → IsCause q d k (negated (at_least x v)) t → IsEarly q d x k t × ((w : ℤ) → Among w (values d x) → w <ℤ v → w ≤ℤ t)
early_cause q d x k v t alone new cause =
    let xs = values d x in
    let u = entails-fails d (at_least x v) new in
    let each = (runs-each d k (at_least x v) t alone.start new).0 cause.runs in
    let during = λ (w : ℤ) (here : Among w xs) (less : w <ℤ v). during_parts w (w +ℤ pos k.duration) t (each w here (test-from_le w (v -ℤ pos 1) (back_le w v less))) in
    let first = first_here xs u.0 u.1 in
    let less = le_lt (first_start xs) u.0 v (least-value xs u.0 u.1) (lt-from_test v u.0 u.2) in
    let both = during (first_start xs) first less in (
      record {
        from = both.0;
        last = elim (cases_Bool (int_le (last_start xs) t)) [
          | inl e ↦ absurd (both_ways (must_run d t k) cause.new (runs_from d x k t alone.start (le-from_test (last_start xs) t e) both.1))
          | inr e ↦ lt-from_test (last_start xs) t e
        ];
        end = both.1;
        over = cause.over;
      },
      λ w here less. (during w here less).0,
    )

cause_early : (q : Schedule) (d : Domains) (x : ℕ) (k : Task) (v t : ℤ) → IsAlone q d x k → entails d (at_least x v) ≡ false → IsEarly q d x k t → ((w : ℤ) → Among w (values d x) → w <ℤ v → w ≤ℤ t) → IsCause q d k (negated (at_least x v)) t
cause_early q d x k v t alone new i each =
    let xs = values d x in
    record {
      new = false_from_ne_true (must_run d t k) (λ r. not_less t (last_start xs) i.last (runs_parts d x k t alone.start r).0);
      runs = (runs-each d k (at_least x v) t alone.start new).1 (λ w here m.
          during_from w (w +ℤ pos k.duration) t (each w here (back_lt w v (le-from_test w (v -ℤ pos 1) m)))
          (longer (first_start xs) w (pos k.duration) t (least-value xs w here) i.end));
      over = i.over;
    }

abbrev gives_lower : Schedule → Domains → ℕ → ℤ → Bool
gives_lower q d x v = gives (face_cumulative q) d (at_least x v)

lower_at : (q : Schedule) (d : Domains) (x : ℕ) (k : Task) (t : ℤ) (m : Option ℤ) → IsAlone q d x k → IsLast (early q d x k) (Some t) → Bottoms (int_le (t +ℤ pos 1)) (values d x) m → m ≡ greatest (filter (gives_lower q d x) (values d x))
lower_at q d x k t None alone last b =
    let xs = values d x in
    let i = early_parts q d x k t last.0 in
    let here = last_here xs (first_start xs) (some_here xs (le_lt (first_start xs) t (last_start xs) i.from i.last)) in
    absurd (both_ways (int_le (t +ℤ pos 1) (last_start xs)) (b (last_start xs) here) (test-from_le (t +ℤ pos 1) (last_start xs) (next_le t (last_start xs) i.last)))
lower_at q d x k t (Some w) alone last b =
    let xs = values d x in
    let i = early_parts q d x k t last.0 in
    let after = next_lt t w (le-from_test (t +ℤ pos 1) w b.1) in
    let first = first_here xs w b.0 in
    let new = entails-not d (at_least x w) (first_start xs) first (test-from_lt w (first_start xs) (le_lt (first_start xs) t w i.from after)) in
    let lesser : (u : ℤ) → Among u xs → u <ℤ w → u ≤ℤ ((t +ℤ pos 1) -ℤ pos 1) = λ u here less. elim (cases_Bool (int_le (t +ℤ pos 1) u)) [
      | inl e ↦ absurd (not_less u w less (b.2 u here e))
      | inr e ↦ back_le u (t +ℤ pos 1) (lt-from_test (t +ℤ pos 1) u e)
    ] in
    let given = given-cause q d k (at_least x w) t alone new (cause_early q d x k w t alone new i (λ u here less. le_back u t (lesser u here less))) in
    sym (greatest-is (filter (gives_lower q d x) xs) w (Among-filter_all (gives_lower q d x) xs w b.0 given) (λ v there.
    let r = Among-filter_only (gives_lower q d x) xs v there in
    let c = cause-given q d k (at_least x v) alone r.1 in
    let s = early_cause q d x k v c.0 alone (new_of q d x v r.1) c.1 in
    let no_later = last.1 c.0 (early_from q d x k c.0 s.0) in
    elim (cases_Bool (int_le v w)) [
      | inl e ↦ le-from_test v w e
      | inr e ↦ absurd (not_less t w after (le_trans w c.0 t (s.1 w b.0 (lt-from_test v w e)) no_later))
    ]))
  where
    le_back : (u t : ℤ) → u ≤ℤ ((t +ℤ pos 1) -ℤ pos 1) → u ≤ℤ t
    le_back u t h = omega (arith, ints)

    new_of : (q : Schedule) (d : Domains) (x : ℕ) (v : ℤ) → gives_lower q d x v ≡ true → entails d (at_least x v) ≡ false
    new_of q d x v g = (gives-parts (face_cumulative q) d (at_least x v) g).0

lower_by : (q : Schedule) (d : Domains) (x : ℕ) (k : Task) (t : Option ℤ) → IsAlone q d x k → IsLast (early q d x k) t → bound_after x (values d x) t ≡ new_lower (face_cumulative q) d x
lower_by q d x k None alone last =
    ap (λ ys. option_map (at_least x) (greatest ys)) (sym (filter_none (gives_lower q d x) (values d x) (λ v here. false_from_ne_true (gives_lower q d x v) (λ g.
    let c = cause-given q d k (at_least x v) alone g in
    let s = early_cause q d x k v c.0 alone (gives-parts (face_cumulative q) d (at_least x v) g).0 c.1 in
    both_ways (early q d x k c.0) (last c.0) (early_from q d x k c.0 s.0)))))
lower_by q d x k (Some t) alone last =
    ap (λ m. option_map (at_least x) m) (lower_at q d x k t (least (filter (int_le (t +ℤ pos 1)) (values d x))) alone last (least-bottoms (int_le (t +ℤ pos 1)) (values d x)))

-- the lower bound that is given is the one after the last early time at which the task does not fit
pub lower-given : (q : Schedule) (d : Domains) (x : ℕ) (k : Task) (o : Option Atomic) → IsAlone q d x k → IsLowerBound q.capacity (parts_of d q.tasks) (values d x) k x o → o ≡ new_lower (face_cumulative q) d x
lower-given q d x k o alone b = b.2 ∙ lower_by q d x k b.0 alone b.1

-- ---- upper bounds

abbrev late : Schedule → Domains → ℕ → Task → ℤ → Bool
late q d x k t = conflicts (late_demand (first_start (values d x)) (last_start (values d x)) q.capacity k) (parts_of d q.tasks) t

-- the time comes after the first end and from the last start until the last end, and the task does not fit
record IsLate (q : Schedule) (d : Domains) (x : ℕ) (k : Task) (t : ℤ) : Type 0 where
  from : last_start (values d x) ≤ℤ t
  end : (first_start (values d x) +ℤ pos k.duration) ≤ℤ t
  last : t <ℤ (last_start (values d x) +ℤ pos k.duration)
  over : q.capacity < usage_of (must_run d t) q.tasks + k.usage

late_parts : (q : Schedule) (d : Domains) (x : ℕ) (k : Task) (t : ℤ) → late q d x k t ≡ true → IsLate q d x k t
late_parts q d x k t e =
    let w = late_demand (first_start (values d x)) (last_start (values d x)) q.capacity k in
    let l = lacks_parts w t (used_at t (parts_of d q.tasks)) e in
    let s = from_max (first_start (values d x) +ℤ pos k.duration) (last_start (values d x)) t l.first in
    record {
      from = s.1;
      end = s.0;
      last = back_lt t (last_start (values d x) +ℤ pos k.duration) l.last;
      over = subst (λ n. q.capacity < n + k.usage) (used-is d t q.tasks) l.over;
    }

late_from : (q : Schedule) (d : Domains) (x : ℕ) (k : Task) (t : ℤ) → IsLate q d x k t → late q d x k t ≡ true
late_from q d x k t i =
    let w = late_demand (first_start (values d x)) (last_start (values d x)) q.capacity k in
    lacks_from w t (used_at t (parts_of d q.tasks)) (record {
      first = over_both t (first_start (values d x) +ℤ pos k.duration) (last_start (values d x)) i.end i.from;
      last = back_le t (last_start (values d x) +ℤ pos k.duration) i.last;
      over = subst (λ n. q.capacity < n + k.usage) (sym (used-is d t q.tasks)) i.over;
    })

-- the cause of an upper bound: a late time at which the task still runs from each of the greater values
late_cause : (q : Schedule) (d : Domains) (x : ℕ) (k : Task) (v t : ℤ) → IsAlone q d x k → entails d (at_most x v) ≡ false → IsCause q d k (negated (at_most x v)) t → IsLate q d x k t × ((w : ℤ) → Among w (values d x) → v <ℤ w → t <ℤ (w +ℤ pos k.duration))
late_cause q d x k v t alone new cause =
    let xs = values d x in
    let u = entails-fails d (at_most x v) new in
    let each = (runs-each d k (at_most x v) t alone.start new).0 cause.runs in
    let during = λ (w : ℤ) (here : Among w xs) (more : v <ℤ w). during_parts w (w +ℤ pos k.duration) t (each w here (test-from_le (v +ℤ pos 1) w (next_le v w more))) in
    let last = last_here xs u.0 u.1 in
    let more = lt_le v u.0 (last_start xs) (lt-from_test u.0 v u.2) (greatest-value xs u.0 u.1) in
    let both = during (last_start xs) last more in (
      record {
        from = both.0;
        end = elim (cases_Bool (int_le (first_start xs +ℤ pos k.duration) t)) [
          | inl e ↦ le-from_test (first_start xs +ℤ pos k.duration) t e
          | inr e ↦ absurd (both_ways (must_run d t k) cause.new (runs_from d x k t alone.start both.0 (lt-from_test (first_start xs +ℤ pos k.duration) t e)))
        ];
        last = both.1;
        over = cause.over;
      },
      λ w here more. (during w here more).1,
    )

cause_late : (q : Schedule) (d : Domains) (x : ℕ) (k : Task) (v t : ℤ) → IsAlone q d x k → entails d (at_most x v) ≡ false → IsLate q d x k t → ((w : ℤ) → Among w (values d x) → v <ℤ w → t <ℤ (w +ℤ pos k.duration)) → IsCause q d k (negated (at_most x v)) t
cause_late q d x k v t alone new i each =
    let xs = values d x in
    record {
      new = false_from_ne_true (must_run d t k) (λ r. not_less t (first_start xs +ℤ pos k.duration) (runs_parts d x k t alone.start r).1 i.end);
      runs = (runs-each d k (at_most x v) t alone.start new).1 (λ w here m.
          during_from w (w +ℤ pos k.duration) t (le_trans w (last_start xs) t (greatest-value xs w here) i.from)
          (each w here (next_lt v w (le-from_test (v +ℤ pos 1) w m))));
      over = i.over;
    }

abbrev gives_upper : Schedule → Domains → ℕ → ℤ → Bool
gives_upper q d x v = gives (face_cumulative q) d (at_most x v)

abbrev ends_in_time : ℤ → ℕ → ℤ → Bool
ends_in_time t n v = int_le v (t -ℤ pos n)

upper_at : (q : Schedule) (d : Domains) (x : ℕ) (k : Task) (t : ℤ) (m : Option ℤ) → IsAlone q d x k → IsEarliest (late q d x k) (Some t) → Tops (ends_in_time t k.duration) (values d x) m → m ≡ least (filter (gives_upper q d x) (values d x))
upper_at q d x k t None alone first b =
    let xs = values d x in
    let i = late_parts q d x k t first.0 in
    let here = some_here xs (shorter (first_start xs) (last_start xs) (pos k.duration) t i.end i.last) in
    absurd (both_ways (ends_in_time t k.duration (first_start xs)) (b (first_start xs) here) (test-from_le (first_start xs) (t -ℤ pos k.duration) (ends_by (first_start xs) (pos k.duration) t i.end)))
  where
    shorter : (a b n t : ℤ) → (a +ℤ n) ≤ℤ t → t <ℤ (b +ℤ n) → a <ℤ b
    shorter a b n t h k = omega (arith, ints)
upper_at q d x k t (Some w) alone first b =
    let xs = values d x in
    let i = late_parts q d x k t first.0 in
    let before = le-from_test w (t -ℤ pos k.duration) b.1 in
    let last = last_here xs w b.0 in
    let new = entails-not d (at_most x w) (last_start xs) last (test-from_lt (last_start xs) w (starts_until w (last_start xs) (pos k.duration) t before i.last)) in
    let greater : (u : ℤ) → Among u xs → w <ℤ u → t <ℤ (u +ℤ pos k.duration) = λ u here more. elim (cases_Bool (ends_in_time t k.duration u)) [
      | inl e ↦ absurd (not_less w u more (b.2 u here e))
      | inr e ↦ ends_after u (pos k.duration) t (lt-from_test u (t -ℤ pos k.duration) e)
    ] in
    let given = given-cause q d k (at_most x w) t alone new (cause_late q d x k w t alone new i greater) in
    sym (least-is (filter (gives_upper q d x) xs) w (Among-filter_all (gives_upper q d x) xs w b.0 given) (λ v there.
    let r = Among-filter_only (gives_upper q d x) xs v there in
    let c = cause-given q d k (at_most x v) alone r.1 in
    let s = late_cause q d x k v c.0 alone (gives-parts (face_cumulative q) d (at_most x v) r.1).0 c.1 in
    let no_earlier = first.1 c.0 (late_from q d x k c.0 s.0) in
    elim (cases_Bool (int_le w v)) [
      | inl e ↦ le-from_test w v e
      | inr e ↦ absurd (not_less c.0 (w +ℤ pos k.duration) (s.1 w b.0 (lt-from_test w v e)) (le_trans (w +ℤ pos k.duration) t c.0 (ends_until w (pos k.duration) t before) no_earlier))
    ]))

upper_by : (q : Schedule) (d : Domains) (x : ℕ) (k : Task) (t : Option ℤ) → IsAlone q d x k → IsEarliest (late q d x k) t → bound_before x (values d x) k.duration t ≡ new_upper (face_cumulative q) d x
upper_by q d x k None alone first =
    ap (λ ys. option_map (at_most x) (least ys)) (sym (filter_none (gives_upper q d x) (values d x) (λ v here. false_from_ne_true (gives_upper q d x v) (λ g.
    let c = cause-given q d k (at_most x v) alone g in
    let s = late_cause q d x k v c.0 alone (gives-parts (face_cumulative q) d (at_most x v) g).0 c.1 in
    both_ways (late q d x k c.0) (first c.0) (late_from q d x k c.0 s.0)))))
upper_by q d x k (Some t) alone first =
    ap (λ m. option_map (at_most x) m) (upper_at q d x k t (greatest (filter (ends_in_time t k.duration) (values d x))) alone first (greatest-tops (ends_in_time t k.duration) (values d x)))

-- the upper bound that is given is the one before the first late time at which the task does not fit
pub upper-given : (q : Schedule) (d : Domains) (x : ℕ) (k : Task) (o : Option Atomic) → IsAlone q d x k → IsUpperBound q.capacity (parts_of d q.tasks) (values d x) k x o → o ≡ new_upper (face_cumulative q) d x
upper-given q d x k o alone b = b.2 ∙ upper_by q d x k b.0 alone b.1

-- ---- both

no_hole : (q : Schedule) (d : Domains) (x : ℕ) → new_hole (face_cumulative q) d x ≡ None
no_hole q d x = ap (λ ys. option_map (other_than x) (least ys)) (filter_none (λ v. false && gives (face_cumulative q) d (other_than x v)) (values d x) (λ v here. refl))

first_there : (a b : Option Atomic) → is_some a ≡ true → a ≡ or_else a b
first_there None b e = absurd (false≢true e)
first_there (Some a) b e = refl

or_none : (a : Option Atomic) → a ≡ or_else a None
or_none None = refl
or_none (Some a) = refl

-- the bound is what is given on the variable
pub bound-given : (q : Schedule) (d : Domains) (x : ℕ) (k : Task) (o : Option Atomic) → IsAlone q d x k → IsBound q.capacity (parts_of d q.tasks) (values d x) k x o → o ≡ given_on (face_cumulative q) d x
bound-given q d x k o alone (inl b) =
    let rest = or_else (new_upper (face_cumulative q) d x) (new_hole (face_cumulative q) d x) in
    first_there o rest b.1 ∙ ap (λ p. or_else p rest) (lower-given q d x k o alone b.0)
bound-given q d x k o alone (inr b) =
    let upper = new_upper (face_cumulative q) d x in
    upper-given q d x k o alone b.1 ∙ or_none upper ∙ ap (λ p. or_else upper p) (sym (no_hole q d x))
    ∙ ap (λ p. or_else p (or_else upper (new_hole (face_cumulative q) d x))) (lower-given q d x k None alone b.0)
