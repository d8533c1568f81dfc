-- What tight intervals give on one variable is what the part gives on it.
use Rattle.std.proofs.Common.{◌≡◌, ℕ, Bool, true, false, not, List, [], ◌∷◌, map, ℤ, pos, ◌+ℤ◌, ◌-ℤ◌, ◌≤ℤ◌, ◌<ℤ◌, int_le, int_lt, Option, Some, None, option_map, refl, sym, ◌∙◌, ap, subst, inl, inr, arith}
use Rattle.std.specs.Prelude.{◌⊎◌, ◌&&◌, IfSome}
use Rattle.std.specs.Option.{option_and_then}
use Rattle.std.specs.List.{filter, filter_map, cons_option}
use Rattle.std.proofs.lemmas.Bool.{both_ways, cases_Bool, and_parts, and_from, cond-true, cond-false}
use Rattle.std.proofs.lemmas.Int.{ints}
use Rattle.std.proofs.lemmas.Option.{cond_some, none-some}
use Rattle.dp_base.specs.Lists.{Among}
use Rattle.dp_base.proofs.Lists.{Among-filter_only, Among-filter_all}
use Rattle.dp_domain.specs.Atoms.{Atomic, meets, negated}
use Rattle.dp_domain.specs.Sets.{least, greatest, least_from, greatest_from}
use Rattle.dp_domain.specs.States.{Domains, values}
use Rattle.dp_domain.specs.declared.term.Term.{Term}
use Rattle.dp_domain.specs.Turns.{at_least, at_most, given_on, gives, new_hole, new_upper, or_else, other_than}
use Rattle.dp_domain.proofs.AtomLaws.{le-from_test, lt-from_test, test-from_le, test-from_lt, same-from_tests, tests-from_same}
use Rattle.dp_domain.proofs.SetLaws.{greatest-is, least-among, least-bound, least-is, least_from-bound}
use Rattle.dp_domain.proofs.StateLaws.{entails-fails, entails-not, is_nil-none, nil-from_test}
use Rattle.dp_domain.proofs.TurnLaws.{Bottoms, Tops, gives-from, gives-parts, greatest-tops, least-bottoms}
use Rattle.dp_rule_alldiff.specs.AllDifferent.{face_all_different, is_between, lies_between}
use Rattle.dp_rule_alldiff.specs.OrderLaws.{is_less_where, le_through, less_where, no_less_where, not_both}
use Rattle.dp_rule_alldiff.specs.PigeonLaws.{between_where, is_between_where}
use Rattle.dp_rule_alldiff.specs.Spans.{spans_of}
use Rattle.dp_rule_alldiff.specs.Tight.{AreLongest, IsTight, hole_in, lower_in, mirror, opposite, start_over, upper_in, value_in}
use Rattle.dp_rule_alldiff.proofs.CutLaws.{IsCalm, blocks_clash, clash_blocks, lies_at, lies_from, lies_not}
use Rattle.dp_rule_alldiff.proofs.TightLaws.{tight_mirror, tight_mirrored}

-- ---- the ends of a set

-- the least and the greatest of the values
pub record HasEnds (vs : List ℤ) (l u : ℤ) : Type 0 where
  pub first : Among l vs
  pub last : Among u vs
  pub from : (v : ℤ) → Among v vs → l ≤ℤ v
  pub upto : (v : ℤ) → Among v vs → v ≤ℤ u

-- an interval that holds the greatest value and not all begins above the least
begins_above : (a b l u : ℤ) (vs : List ℤ) → HasEnds vs l u → lies_between a b vs ≡ false → u ≤ℤ b → l <ℤ a
begins_above a b l u vs ends e h = elim (cases_Bool (int_lt l a)) [
  | inl k ↦ less_where l a k
  | inr k ↦ absurd (both_ways (lies_between a b vs) e (lies_from a b vs l ends.first (λ v here. (le_through a l v (no_less_where l a k) (ends.from v here), le_through v u b (ends.upto v here) h))))
]

-- one that holds the least and not all ends below the greatest
ends_below : (a b l u : ℤ) (vs : List ℤ) → HasEnds vs l u → lies_between a b vs ≡ false → a ≤ℤ l → b <ℤ u
ends_below a b l u vs ends e h = elim (cases_Bool (int_lt b u)) [
  | inl k ↦ less_where b u k
  | inr k ↦ absurd (both_ways (lies_between a b vs) e (lies_from a b vs l ends.first (λ v here. (le_through a l v h (ends.from v here), le_through v u b (ends.upto v here) (no_less_where b u k)))))
]

-- ---- what a bound or a hole says of tight intervals

-- a tight interval that holds the greatest value and not the least
pub record IsOver (ss : List (ℤ × ℤ)) (l u a b : ℤ) : Type 0 where
  pub tight : IsTight ss a b
  pub above : l <ℤ a
  pub starts : a ≤ℤ u
  pub ends : u ≤ℤ b

-- a tight interval that holds the least value and not the greatest
pub record IsUnder (ss : List (ℤ × ℤ)) (l u a b : ℤ) : Type 0 where
  pub tight : IsTight ss a b
  pub starts : a ≤ℤ l
  pub ends : l ≤ℤ b
  pub below : b <ℤ u

upper_gives : (terms : List Term) (d : Domains) (x : ℕ) (l u v : ℤ) → IsCalm terms d x → HasEnds (values d x) l u → gives (face_all_different terms) d (at_most x v) ≡ true
    → (a : ℤ) × (b : ℤ) × IsOver (spans_of d terms) l u a b × ((w : ℤ) → Among w (values d x) → v <ℤ w → a ≤ℤ w)
upper_gives terms d x l u v calm ends e =
    let parts = gives-parts (face_all_different terms) d (at_most x v) e in
    let fails = entails-fails d (at_most x v) parts.0 in
    let ws = filter (meets (negated (at_most x v))) (values d x) in
    let kept : (w : ℤ) → Among w (values d x) → v <ℤ w → Among w ws = λ w here more. Among-filter_all (meets (negated (at_most x v))) (values d x) w here (test-from_le (v +ℤ pos 1) w (next v w more)) in
    let beyond = lt-from_test fails.0 v fails.2 in
    let r = clash_blocks terms d x ws fails.0 calm (kept fails.0 fails.1 beyond) parts.1 in
    let last = lies_at r.0 r.1 ws u r.2.holds (kept u ends.last (through v fails.0 u beyond (ends.upto fails.0 fails.1))) in (
      r.0,
      r.1,
      record {
        tight = r.2.tight;
        above = begins_above r.0 r.1 l u (values d x) ends r.2.not_all last.1;
        starts = last.0;
        ends = last.1;
      },
      λ w here more. (lies_at r.0 r.1 ws w r.2.holds (kept w here more)).0,
    )
  where
    next : (v w : ℤ) → v <ℤ w → (v +ℤ pos 1) ≤ℤ w
    next v w h = omega (arith, ints)

    through : (v w u : ℤ) → v <ℤ w → w ≤ℤ u → v <ℤ u
    through v w u h k = omega (arith, ints)

upper_given : (terms : List Term) (d : Domains) (x : ℕ) (l u v a b : ℤ) → IsCalm terms d x → HasEnds (values d x) l u → IsOver (spans_of d terms) l u a b → v <ℤ u → ((w : ℤ) → Among w (values d x) → v <ℤ w → a ≤ℤ w)
    → gives (face_all_different terms) d (at_most x v) ≡ true
upper_given terms d x l u v a b calm ends over less from =
    gives-from (face_all_different terms) d (at_most x v) (entails-not d (at_most x v) u ends.last (test-from_lt u v less))
    (blocks_clash terms d x (filter (meets (negated (at_most x v))) (values d x)) a b calm (record {
      tight = over.tight;
      holds = lies_from a b (filter (meets (negated (at_most x v))) (values d x)) u (Among-filter_all (meets (negated (at_most x v))) (values d x) u ends.last (test-from_le (v +ℤ pos 1) u (next v u less)))
          (λ w here. let r = Among-filter_only (meets (negated (at_most x v))) (values d x) w here in (from w r.0 (after v w (le-from_test (v +ℤ pos 1) w r.1)), le_through w u b (ends.upto w r.0) over.ends));
      not_all = lies_not a b (values d x) l ends.first (λ both. not_both a l over.above both.0);
    }))
  where
    next : (v w : ℤ) → v <ℤ w → (v +ℤ pos 1) ≤ℤ w
    next v w h = omega (arith, ints)

    after : (v w : ℤ) → (v +ℤ pos 1) ≤ℤ w → v <ℤ w
    after v w h = omega (arith, ints)

lower_gives : (terms : List Term) (d : Domains) (x : ℕ) (l u v : ℤ) → IsCalm terms d x → HasEnds (values d x) l u → gives (face_all_different terms) d (at_least x v) ≡ true
    → (a : ℤ) × (b : ℤ) × IsUnder (spans_of d terms) l u a b × ((w : ℤ) → Among w (values d x) → w <ℤ v → w ≤ℤ b)
lower_gives terms d x l u v calm ends e =
    let parts = gives-parts (face_all_different terms) d (at_least x v) e in
    let fails = entails-fails d (at_least x v) parts.0 in
    let ws = filter (meets (negated (at_least x v))) (values d x) in
    let kept : (w : ℤ) → Among w (values d x) → w <ℤ v → Among w ws = λ w here less. Among-filter_all (meets (negated (at_least x v))) (values d x) w here (test-from_le w (v -ℤ pos 1) (before w v less)) in
    let under = lt-from_test v fails.0 fails.2 in
    let r = clash_blocks terms d x ws fails.0 calm (kept fails.0 fails.1 under) parts.1 in
    let first = lies_at r.0 r.1 ws l r.2.holds (kept l ends.first (through l fails.0 v (ends.from fails.0 fails.1) under)) in (
      r.0,
      r.1,
      record {
        tight = r.2.tight;
        starts = first.0;
        ends = first.1;
        below = ends_below r.0 r.1 l u (values d x) ends r.2.not_all first.0;
      },
      λ w here less. (lies_at r.0 r.1 ws w r.2.holds (kept w here less)).1,
    )
  where
    before : (w v : ℤ) → w <ℤ v → w ≤ℤ (v -ℤ pos 1)
    before w v h = omega (arith, ints)

    through : (l w v : ℤ) → l ≤ℤ w → w <ℤ v → l <ℤ v
    through l w v h k = omega (arith, ints)

lower_given : (terms : List Term) (d : Domains) (x : ℕ) (l u v a b : ℤ) → IsCalm terms d x → HasEnds (values d x) l u → IsUnder (spans_of d terms) l u a b → l <ℤ v → ((w : ℤ) → Among w (values d x) → w <ℤ v → w ≤ℤ b)
    → gives (face_all_different terms) d (at_least x v) ≡ true
lower_given terms d x l u v a b calm ends under more upto =
    gives-from (face_all_different terms) d (at_least x v) (entails-not d (at_least x v) l ends.first (test-from_lt v l more))
    (blocks_clash terms d x (filter (meets (negated (at_least x v))) (values d x)) a b calm (record {
      tight = under.tight;
      holds = lies_from a b (filter (meets (negated (at_least x v))) (values d x)) l (Among-filter_all (meets (negated (at_least x v))) (values d x) l ends.first (test-from_le l (v -ℤ pos 1) (before l v more)))
          (λ w here. let r = Among-filter_only (meets (negated (at_least x v))) (values d x) w here in (le_through a l w under.starts (ends.from w r.0), upto w r.0 (after w v (le-from_test w (v -ℤ pos 1) r.1))));
      not_all = lies_not a b (values d x) u ends.last (λ both. not_both u b under.below both.1);
    }))
  where
    before : (w v : ℤ) → w <ℤ v → w ≤ℤ (v -ℤ pos 1)
    before w v h = omega (arith, ints)

    after : (w v : ℤ) → w ≤ℤ (v -ℤ pos 1) → w <ℤ v
    after w v h = omega (arith, ints)

-- a tight interval that holds a value and not all
pub record IsAround (ss : List (ℤ × ℤ)) (vs : List ℤ) (v a b : ℤ) : Type 0 where
  pub tight : IsTight ss a b
  pub starts : a ≤ℤ v
  pub ends : v ≤ℤ b
  pub not_all : lies_between a b vs ≡ false

hole_gives : (terms : List Term) (d : Domains) (x : ℕ) (v : ℤ) → IsCalm terms d x → Among v (values d x) → gives (face_all_different terms) d (other_than x v) ≡ true → (a : ℤ) × (b : ℤ) × IsAround (spans_of d terms) (values d x) v a b
hole_gives terms d x v calm here e =
    let parts = gives-parts (face_all_different terms) d (other_than x v) e in
    let ws = filter (meets (negated (other_than x v))) (values d x) in
    let kept : Among v ws = Among-filter_all (meets (negated (other_than x v))) (values d x) v here (tests-from_same v v refl) in
    let r = clash_blocks terms d x ws v calm kept parts.1 in
    let inside = lies_at r.0 r.1 ws v r.2.holds kept in
    (r.0, r.1, record { tight = r.2.tight; starts = inside.0; ends = inside.1; not_all = r.2.not_all })

hole_given : (terms : List Term) (d : Domains) (x : ℕ) (v a b : ℤ) → IsCalm terms d x → Among v (values d x) → IsAround (spans_of d terms) (values d x) v a b → gives (face_all_different terms) d (other_than x v) ≡ true
hole_given terms d x v a b calm here around =
    gives-from (face_all_different terms) d (other_than x v) (entails-not d (other_than x v) v here (not_other v))
    (blocks_clash terms d x (filter (meets (negated (other_than x v))) (values d x)) a b calm (record {
      tight = around.tight;
      holds = lies_from a b (filter (meets (negated (other_than x v))) (values d x)) v (Among-filter_all (meets (negated (other_than x v))) (values d x) v here (tests-from_same v v refl))
          (λ w there. let e = same-from_tests w v (Among-filter_only (meets (negated (other_than x v))) (values d x) w there).1 in
          (subst (λ z. a ≤ℤ z) (sym e) around.starts, subst (λ z. z ≤ℤ b) (sym e) around.ends));
      not_all = around.not_all;
    }))
  where
    not_other : (v : ℤ) → not (int_le v v && int_le v v) ≡ false
    not_other v = ap not (tests-from_same v v refl)

-- ---- the first of the intervals

Among-filter_map : {A B : Type 0} (f : A → Option B) (xs : List A) (x : A) (y : B) → Among x xs → f x ≡ Some y → Among y (filter_map f xs)
Among-filter_map f [] x y here e = absurd here
Among-filter_map f (z ∷ xs) x y (inl same) e = subst (λ o. Among y (cons_option o (filter_map f xs))) (sym (ap f (sym same) ∙ e)) (inl refl)
Among-filter_map f (z ∷ xs) x y (inr here) e = behind (f z) y (filter_map f xs) (Among-filter_map f xs x y here e)
  where
    behind : {B : Type 0} (o : Option B) (y : B) (ys : List B) → Among y ys → Among y (cons_option o ys)
    behind None y ys here = here
    behind (Some z) y ys here = inr here

split_option : {B : Type 0} (o : Option B) (y : B) (ys : List B) → Among y (cons_option o ys) → (o ≡ Some y) ⊎ Among y ys
split_option None y ys here = inr here
split_option (Some z) y ys (inl e) = inl (ap Some (sym e))
split_option (Some z) y ys (inr here) = inr here

pub Among-filter_map_only : {A B : Type 0} (f : A → Option B) (xs : List A) (y : B) → Among y (filter_map f xs) → (x : A) × Among x xs × (f x ≡ Some y)
Among-filter_map_only f [] y here = absurd here
Among-filter_map_only f (x ∷ xs) y here = elim (split_option (f x) y (filter_map f xs) here) [
  | inl e ↦ (x, inl refl, e)
  | inr later ↦ let r = Among-filter_map_only f xs y later in (r.0, inr r.1, r.2)
]

some_least : (xs : List ℤ) (v : ℤ) → Among v xs → (m : ℤ) × (least xs ≡ Some m) × (m ≤ℤ v)
some_least [] v here = absurd here
some_least (x ∷ xs) v here = (least_from x xs, refl, least_from-bound x xs v here)

some_greatest : (xs : List ℤ) (v : ℤ) → Among v xs → (m : ℤ) × (greatest xs ≡ Some m)
some_greatest [] v here = absurd here
some_greatest (x ∷ xs) v here = (greatest_from x xs, refl)

pub least_some : (xs : List ℤ) (v : ℤ) → least xs ≡ None → Among v xs → ⊥
least_some xs v e here = let r = some_least xs v here in none-some r.0 (sym e ∙ r.1)

greatest_some : (xs : List ℤ) (v : ℤ) → greatest xs ≡ None → Among v xs → ⊥
greatest_some xs v e here = let r = some_greatest xs v here in none-some r.0 (sym e ∙ r.1)

pub kept_none : (p : ℤ → Bool) (xs : List ℤ) → ((v : ℤ) → Among v xs → p v ≡ true → ⊥) → filter p xs ≡ []
kept_none p xs none = nil-from_test (filter p xs) (is_nil-none (filter p xs) (λ v here. let r = Among-filter_only p xs v here in none v r.0 r.1))

-- the first of the tight intervals that hold the greatest value and not the least begins here; none is there where none holds it
abbrev pub IsFirstOver : List (ℤ × ℤ) → ℤ → ℤ → Option ℤ → Type 0
IsFirstOver ss l u None = (a b : ℤ) → IsOver ss l u a b → ⊥
IsFirstOver ss l u (Some m) = ((b : ℤ) × IsOver ss l u m b) × ((a b : ℤ) → IsOver ss l u a b → m ≤ℤ a)

over_at : (l u a c : ℤ) → l <ℤ a → a ≤ℤ u → u ≤ℤ c → start_over l u (a, c) ≡ Some a
over_at l u a c h k m = cond-true (int_lt l a && (int_le a u && int_le u c)) (Some a) None (and_from (int_lt l a) (int_le a u && int_le u c) (is_less_where l a h) (and_from (int_le a u) (int_le u c) (test-from_le a u k) (test-from_le u c m)))

over_some : (l u m : ℤ) (i : ℤ × ℤ) → start_over l u i ≡ Some m → (l <ℤ i.0) × (i.0 ≤ℤ u) × (u ≤ℤ i.1) × (i.0 ≡ m)
over_some l u m i e =
    let r = cond_some (int_lt l i.0 && (int_le i.0 u && int_le u i.1)) i.0 m e in
    let p = and_parts (int_lt l i.0) (int_le i.0 u && int_le u i.1) r.0 in
    let q = and_parts (int_le i.0 u) (int_le u i.1) p.1 in
    (less_where l i.0 p.0, le-from_test i.0 u q.0, le-from_test u i.1 q.1, r.1)

-- one of the longest stands where one holds the greatest value
over_among : (ss intervals : List (ℤ × ℤ)) (l u a b : ℤ) → AreLongest ss intervals → IsOver ss l u a b → Among a (filter_map (start_over l u) intervals)
over_among ss intervals l u a b longest over =
    let r = longest.all a b over.tight in
    Among-filter_map (start_over l u) intervals (a, r.0) a r.1 (over_at l u a r.0 over.above over.starts (le_through u b r.0 over.ends r.2))

first_over_by : (ss intervals : List (ℤ × ℤ)) (l u : ℤ) (o : Option ℤ) → AreLongest ss intervals → least (filter_map (start_over l u) intervals) ≡ o → IsFirstOver ss l u o
first_over_by ss intervals l u None longest e = λ a b over. least_some (filter_map (start_over l u) intervals) a e (over_among ss intervals l u a b longest over)
first_over_by ss intervals l u (Some m) longest e =
    let i = Among-filter_map_only (start_over l u) intervals m (least-among (filter_map (start_over l u) intervals) m e) in
    let r = over_some l u m i.0 i.2 in (
      (
        i.0.1,
        record {
          tight = subst (λ z. IsTight ss z i.0.1) r.3 (longest.only i.0 i.1);
          above = subst (λ z. l <ℤ z) r.3 r.0;
          starts = subst (λ z. z ≤ℤ u) r.3 r.1;
          ends = r.2;
        },
      ),
      λ a b over. least-bound (filter_map (start_over l u) intervals) m e a (over_among ss intervals l u a b longest over),
    )

-- the least first number of the longest that are over is the first over
pub first_over_is : (ss intervals : List (ℤ × ℤ)) (l u : ℤ) → AreLongest ss intervals → IsFirstOver ss l u (least (filter_map (start_over l u) intervals))
first_over_is ss intervals l u longest = first_over_by ss intervals l u (least (filter_map (start_over l u) intervals)) longest refl

-- it begins above the one number and no later than the other
pub over_bounds : (intervals : List (ℤ × ℤ)) (l u : ℤ) (o : Option ℤ) → o ≡ least (filter_map (start_over l u) intervals) → IfSome o (λ m. (l <ℤ m) × (m ≤ℤ u))
over_bounds intervals l u None e = tt
over_bounds intervals l u (Some m) e =
    let i = Among-filter_map_only (start_over l u) intervals m (least-among (filter_map (start_over l u) intervals) m (sym e)) in
    let r = over_some l u m i.0 i.2 in
    (subst (λ z. l <ℤ z) r.3 r.0, subst (λ z. z ≤ℤ u) r.3 r.1)

-- ---- upper bounds

abbrev upto_before : ℤ → ℤ → Bool
upto_before m v = int_le v (m -ℤ pos 1)

abbrev upper_value : List ℤ → Option ℤ → Option ℤ
upper_value vs o = option_and_then (λ m. greatest (filter (upto_before m) vs)) o

upper_at : (terms : List Term) (d : Domains) (x : ℕ) (l u m b : ℤ) (o : Option ℤ) → IsCalm terms d x → HasEnds (values d x) l u → IsOver (spans_of d terms) l u m b → ((a c : ℤ) → IsOver (spans_of d terms) l u a c → m ≤ℤ a)
    → Tops (upto_before m) (values d x) o → least (filter (λ v. gives (face_all_different terms) d (at_most x v)) (values d x)) ≡ o
upper_at terms d x l u m b None calm ends over first tops = absurd (both_ways (upto_before m l) (tops l ends.first) (test-from_le l (m -ℤ pos 1) (before l m over.above)))
  where
    before : (w v : ℤ) → w <ℤ v → w ≤ℤ (v -ℤ pos 1)
    before w v h = omega (arith, ints)
upper_at terms d x l u m b (Some w) calm ends over first tops =
    let under = le-from_test w (m -ℤ pos 1) tops.1 in
    let given = upper_given terms d x l u w m b calm ends over (through w m u under over.starts)
    (λ v here more. elim (cases_Bool (int_le v (m -ℤ pos 1))) [
      | inl e ↦ absurd (not_both v w more (tops.2 v here e))
      | inr e ↦ from m v (lt-from_test v (m -ℤ pos 1) e)
    ]) in
    least-is (filter (λ v. gives (face_all_different terms) d (at_most x v)) (values d x)) w
    (Among-filter_all (λ v. gives (face_all_different terms) d (at_most x v)) (values d x) w tops.0 given)
    (λ v here.
    let r = Among-filter_only (λ v. gives (face_all_different terms) d (at_most x v)) (values d x) v here in
    let g = upper_gives terms d x l u v calm ends r.1 in
    elim (cases_Bool (int_le w v)) [
      | inl e ↦ le-from_test w v e
      | inr e ↦ absurd (apart w m g.0 under (first g.0 g.1 g.2) (g.3 w tops.0 (lt-from_test w v e)))
    ])
  where
    through : (w m u : ℤ) → w ≤ℤ (m -ℤ pos 1) → m ≤ℤ u → w <ℤ u
    through w m u h k = omega (arith, ints)

    from : (m v : ℤ) → (m -ℤ pos 1) <ℤ v → m ≤ℤ v
    from m v h = omega (arith, ints)

    apart : (w m a : ℤ) → w ≤ℤ (m -ℤ pos 1) → m ≤ℤ a → a ≤ℤ w → ⊥
    apart w m a h k l = omega (arith, ints)

-- the value of the new upper bound
upper_value_is : (terms : List Term) (d : Domains) (x : ℕ) (l u : ℤ) (o : Option ℤ) → IsCalm terms d x → HasEnds (values d x) l u → IsFirstOver (spans_of d terms) l u o
    → least (filter (λ v. gives (face_all_different terms) d (at_most x v)) (values d x)) ≡ upper_value (values d x) o
upper_value_is terms d x l u None calm ends first =
    ap least (kept_none (λ v. gives (face_all_different terms) d (at_most x v)) (values d x) (λ v here e. let g = upper_gives terms d x l u v calm ends e in first g.0 g.1 g.2))
upper_value_is terms d x l u (Some m) calm ends first =
    upper_at terms d x l u m first.0.0 (greatest (filter (upto_before m) (values d x))) calm ends first.0.1 first.1 (greatest-tops (upto_before m) (values d x))

-- ---- lower bounds

under_mirrored : (ss : List (ℤ × ℤ)) (l u a b : ℤ) → IsOver (map mirror ss) (opposite u) (opposite l) a b → IsUnder ss l u (opposite b) (opposite a)
under_mirrored ss l u a b over = record {
  tight = tight_mirrored ss a b over.tight;
  starts = starts l b over.ends;
  ends = ends l a over.starts;
  below = below u a over.above;
}
  where
    starts : (l b : ℤ) → opposite l ≤ℤ b → opposite b ≤ℤ l
    starts l b h = omega (arith, ints)

    ends : (l a : ℤ) → a ≤ℤ opposite l → l ≤ℤ opposite a
    ends l a h = omega (arith, ints)

    below : (u a : ℤ) → opposite u <ℤ a → opposite a <ℤ u
    below u a h = omega (arith, ints)

over_mirror : (ss : List (ℤ × ℤ)) (l u a b : ℤ) → IsUnder ss l u a b → IsOver (map mirror ss) (opposite u) (opposite l) (opposite b) (opposite a)
over_mirror ss l u a b under = record {
  tight = tight_mirror ss a b under.tight;
  above = turned_less b u under.below;
  starts = turned l b under.ends;
  ends = turned a l under.starts;
}
  where
    turned : (x y : ℤ) → x ≤ℤ y → opposite y ≤ℤ opposite x
    turned x y h = omega (arith, ints)

    turned_less : (x y : ℤ) → x <ℤ y → opposite y <ℤ opposite x
    turned_less x y h = omega (arith, ints)

abbrev from_after : ℤ → ℤ → Bool
from_after m v = int_le (opposite m +ℤ pos 1) v

abbrev lower_value : List ℤ → Option ℤ → Option ℤ
lower_value vs o = option_and_then (λ m. least (filter (from_after m) vs)) o

lower_at : (terms : List Term) (d : Domains) (x : ℕ) (l u m a : ℤ) (o : Option ℤ) → IsCalm terms d x → HasEnds (values d x) l u → IsUnder (spans_of d terms) l u a (opposite m) → ((a c : ℤ) → IsUnder (spans_of d terms) l u a c → c ≤ℤ opposite m)
    → Bottoms (from_after m) (values d x) o → greatest (filter (λ v. gives (face_all_different terms) d (at_least x v)) (values d x)) ≡ o
lower_at terms d x l u m a None calm ends under last bottoms = absurd (both_ways (from_after m u) (bottoms u ends.last) (test-from_le (opposite m +ℤ pos 1) u (next (opposite m) u under.below)))
  where
    next : (v w : ℤ) → v <ℤ w → (v +ℤ pos 1) ≤ℤ w
    next v w h = omega (arith, ints)
lower_at terms d x l u m a (Some w) calm ends under last bottoms =
    let over = le-from_test (opposite m +ℤ pos 1) w bottoms.1 in
    let given = lower_given terms d x l u w a (opposite m) calm ends under (through l (opposite m) w under.ends over)
    (λ v here less. elim (cases_Bool (int_le (opposite m +ℤ pos 1) v)) [
      | inl e ↦ absurd (not_both w v less (bottoms.2 v here e))
      | inr e ↦ upto v (opposite m) (lt-from_test (opposite m +ℤ pos 1) v e)
    ]) in
    greatest-is (filter (λ v. gives (face_all_different terms) d (at_least x v)) (values d x)) w
    (Among-filter_all (λ v. gives (face_all_different terms) d (at_least x v)) (values d x) w bottoms.0 given)
    (λ v here.
    let r = Among-filter_only (λ v. gives (face_all_different terms) d (at_least x v)) (values d x) v here in
    let g = lower_gives terms d x l u v calm ends r.1 in
    elim (cases_Bool (int_le v w)) [
      | inl e ↦ le-from_test v w e
      | inr e ↦ absurd (apart w (opposite m) g.1 over (last g.0 g.1 g.2) (g.3 w bottoms.0 (lt-from_test v w e)))
    ])
  where
    through : (l c w : ℤ) → l ≤ℤ c → (c +ℤ pos 1) ≤ℤ w → l <ℤ w
    through l c w h k = omega (arith, ints)

    upto : (v c : ℤ) → v <ℤ (c +ℤ pos 1) → v ≤ℤ c
    upto v c h = omega (arith, ints)

    apart : (w c b : ℤ) → (c +ℤ pos 1) ≤ℤ w → b ≤ℤ c → w ≤ℤ b → ⊥
    apart w c b h k l = omega (arith, ints)

-- the value of the new lower bound
lower_value_is : (terms : List Term) (d : Domains) (x : ℕ) (l u : ℤ) (o : Option ℤ) → IsCalm terms d x → HasEnds (values d x) l u → IsFirstOver (map mirror (spans_of d terms)) (opposite u) (opposite l) o
    → greatest (filter (λ v. gives (face_all_different terms) d (at_least x v)) (values d x)) ≡ lower_value (values d x) o
lower_value_is terms d x l u None calm ends first =
    ap greatest (kept_none (λ v. gives (face_all_different terms) d (at_least x v)) (values d x) (λ v here e.
    let g = lower_gives terms d x l u v calm ends e in first (opposite g.1) (opposite g.0) (over_mirror (spans_of d terms) l u g.0 g.1 g.2)))
lower_value_is terms d x l u (Some m) calm ends first =
    lower_at terms d x l u m (opposite first.0.0) (least (filter (from_after m) (values d x))) calm ends (under_mirrored (spans_of d terms) l u m first.0.0 first.0.1)
    (λ a c under. turned m c (first.1 (opposite c) (opposite a) (over_mirror (spans_of d terms) l u a c under)))
    (least-bottoms (from_after m) (values d x))
  where
    turned : (m c : ℤ) → m ≤ℤ opposite c → c ≤ℤ opposite m
    turned m c h = omega (arith, ints)

-- no tight interval holds the least value and not the greatest
abbrev NoneUnder : List (ℤ × ℤ) → ℤ → ℤ → Type 0
NoneUnder ss l u = (a b : ℤ) → IsUnder ss l u a b → ⊥

-- and that is so where there is no new lower bound
none_under : (ss : List (ℤ × ℤ)) (vs : List ℤ) (l u : ℤ) (o : Option ℤ) → HasEnds vs l u → IsFirstOver (map mirror ss) (opposite u) (opposite l) o → lower_value vs o ≡ None → NoneUnder ss l u
none_under ss vs l u None ends first e = λ a b under. first (opposite b) (opposite a) (over_mirror ss l u a b under)
none_under ss vs l u (Some m) ends first e =
    let under = under_mirrored ss l u m first.0.0 first.0.1 in
    absurd (least_some (filter (from_after m) vs) u e (Among-filter_all (from_after m) vs u ends.last (test-from_le (opposite m +ℤ pos 1) u (next (opposite m) u under.below))))
  where
    next : (v w : ℤ) → v <ℤ w → (v +ℤ pos 1) ≤ℤ w
    next v w h = omega (arith, ints)

-- ---- holes

around_above : (ss : List (ℤ × ℤ)) (vs : List ℤ) (l u v a b : ℤ) → HasEnds vs l u → NoneUnder ss l u → Among v vs → IsAround ss vs v a b → l <ℤ a
around_above ss vs l u v a b ends none here around = elim (cases_Bool (int_lt l a)) [
  | inl k ↦ less_where l a k
  | inr k ↦
      let starts = no_less_where l a k in
      absurd (none a b (record { tight = around.tight; starts = starts; ends = le_through l v b (ends.from v here) around.ends; below = ends_below a b l u vs ends around.not_all starts }))
]

pub in_some : (vs : List ℤ) (l m : ℤ) (i : ℤ × ℤ) → value_in vs l i ≡ Some m → (l <ℤ i.0) × (least (filter (is_between i.0 i.1) vs) ≡ Some m)
in_some vs l m i e = elim (cases_Bool (int_lt l i.0)) [
  | inl k ↦ (less_where l i.0 k, sym (cond-true (int_lt l i.0) _ _ k) ∙ e)
  | inr k ↦ absurd (none-some m (sym (cond-false (int_lt l i.0) (least (filter (is_between i.0 i.1) vs)) None k) ∙ e))
]

-- a tight interval around a value that begins above the least has a value no greater in one of the longest
around_among : (ss intervals : List (ℤ × ℤ)) (vs : List ℤ) (l v a b : ℤ) → AreLongest ss intervals → Among v vs → IsAround ss vs v a b → l <ℤ a → (w : ℤ) × Among w (filter_map (value_in vs l) intervals) × (w ≤ℤ v)
around_among ss intervals vs l v a b longest here around above =
    let r = longest.all a b around.tight in
    let w = some_least (filter (is_between a r.0) vs) v (Among-filter_all (is_between a r.0) vs v here (is_between_where a r.0 v around.starts (le_through v b r.0 around.ends r.2))) in
    (w.0, Among-filter_map (value_in vs l) intervals (a, r.0) w.0 r.1 (cond-true (int_lt l a) _ _ (is_less_where l a above) ∙ w.1), w.2)

abbrev takes_out : List Term → Domains → ℕ → ℤ → Bool
takes_out terms d x v = (face_all_different terms).point x v && gives (face_all_different terms) d (other_than x v)

hole_by : (terms : List Term) (d : Domains) (x : ℕ) (l u : ℤ) (intervals : List (ℤ × ℤ)) (o : Option ℤ) → IsCalm terms d x → HasEnds (values d x) l u → ((v : ℤ) → (face_all_different terms).point x v ≡ true) → AreLongest (spans_of d terms) intervals → NoneUnder (spans_of d terms) l u
    → hole_in intervals (values d x) l ≡ o → least (filter (takes_out terms d x) (values d x)) ≡ o
hole_by terms d x l u intervals None calm ends point longest none e =
    ap least (kept_none (takes_out terms d x) (values d x) (λ v here t.
    let g = hole_gives terms d x v calm here (and_parts ((face_all_different terms).point x v) (gives (face_all_different terms) d (other_than x v)) t).1 in
    let w = around_among (spans_of d terms) intervals (values d x) l v g.0 g.1 longest here g.2 (around_above (spans_of d terms) (values d x) l u v g.0 g.1 ends none here g.2) in
    least_some (filter_map (value_in (values d x) l) intervals) w.0 e w.1))
hole_by terms d x l u intervals (Some m) calm ends point longest none e =
    let i = Among-filter_map_only (value_in (values d x) l) intervals m (least-among (filter_map (value_in (values d x) l) intervals) m e) in
    let r = in_some (values d x) l m i.0 i.2 in
    let here = Among-filter_only (is_between i.0.0 i.0.1) (values d x) m (least-among (filter (is_between i.0.0 i.0.1) (values d x)) m r.1) in
    let inside = between_where i.0.0 i.0.1 m here.1 in
    let given = hole_given terms d x m i.0.0 i.0.1 calm here.0 (record {
      tight = longest.only i.0 i.1;
      starts = inside.0;
      ends = inside.1;
      not_all = lies_not i.0.0 i.0.1 (values d x) l ends.first (λ both. not_both i.0.0 l r.0 both.0);
    }) in
    least-is (filter (takes_out terms d x) (values d x)) m
    (Among-filter_all (takes_out terms d x) (values d x) m here.0 (and_from ((face_all_different terms).point x m) (gives (face_all_different terms) d (other_than x m)) (point m) given))
    (λ v kept.
    let k = Among-filter_only (takes_out terms d x) (values d x) v kept in
    let g = hole_gives terms d x v calm k.0 (and_parts ((face_all_different terms).point x v) (gives (face_all_different terms) d (other_than x v)) k.1).1 in
    let w = around_among (spans_of d terms) intervals (values d x) l v g.0 g.1 longest k.0 g.2 (around_above (spans_of d terms) (values d x) l u v g.0 g.1 ends none k.0 g.2) in
    le_through m w.0 v (least-bound (filter_map (value_in (values d x) l) intervals) m e w.0 w.1) w.2)

-- ---- one variable

first_or : (o : Option ℤ) (g : ℤ → Atomic) (p q : Option Atomic) → (o ≡ None → p ≡ q) → or_else (option_map g o) p ≡ or_else (option_map g o) q
first_or None g p q h = h refl
first_or (Some v) g p q h = refl

-- what the tight intervals give on a variable is what the part gives
pub on_is : (terms : List Term) (d : Domains) (x : ℕ) (l u : ℤ) (from to : List (ℤ × ℤ)) → IsCalm terms d x → HasEnds (values d x) l u → ((v : ℤ) → (face_all_different terms).point x v ≡ true) → AreLongest (spans_of d terms) from → AreLongest (map mirror (spans_of d terms)) to
    → given_on (face_all_different terms) d x ≡ or_else (option_map (at_least x) (lower_in to (values d x) l u)) (or_else (option_map (at_most x) (upper_in from (values d x) l u)) (option_map (other_than x) (hole_in from (values d x) l)))
on_is terms d x l u from to calm ends point longest mirrored =
    let under = first_over_is (map mirror (spans_of d terms)) to (opposite u) (opposite l) mirrored in
    let lower = lower_value_is terms d x l u (least (filter_map (start_over (opposite u) (opposite l)) to)) calm ends under in
    let upper = upper_value_is terms d x l u (least (filter_map (start_over l u) from)) calm ends (first_over_is (spans_of d terms) from l u longest) in
    ap (λ o. or_else (option_map (at_least x) o) (or_else (new_upper (face_all_different terms) d x) (new_hole (face_all_different terms) d x))) lower
    ∙ first_or (lower_in to (values d x) l u) (at_least x) (or_else (new_upper (face_all_different terms) d x) (new_hole (face_all_different terms) d x)) (or_else (option_map (at_most x) (upper_in from (values d x) l u)) (option_map (other_than x) (hole_in from (values d x) l))) (λ e.
    ap (λ o. or_else (option_map (at_most x) o) (new_hole (face_all_different terms) d x)) upper
    ∙ ap (λ o. or_else (option_map (at_most x) (upper_in from (values d x) l u)) (option_map (other_than x) o))
    (hole_by terms d x l u from (hole_in from (values d x) l) calm ends point longest (none_under (spans_of d terms) (values d x) l u (least (filter_map (start_over (opposite u) (opposite l)) to)) ends under e) refl))
