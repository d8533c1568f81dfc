-- Tight intervals: where they end, what one pass finds of them, in any order of the spans and in the reversed order of numbers.
use Rattle.std.proofs.Common.{◌≡◌, ℕ, zero, suc, ◌+◌, ◌<◌, ◌≤◌, Bool, true, false, cond, List, [], ◌∷◌, ◌++◌, length, get_or, take, drop, map, ℤ, pos, ◌+ℤ◌, ◌-ℤ◌, ◌≤ℤ◌, ◌<ℤ◌, int_le, Option, Some, None, IsPermutation, refl, sym, ◌∙◌, ap, subst, inl, inr, arith}
use Rattle.std.specs.Prelude.{◌⊎◌}
use Rattle.std.specs.List.{filter}
use Rattle.std.proofs.lemmas.Bool.{false≢true, false_from_ne_true, both_ways, cases_Bool, cond-false, cond-true}
use Rattle.std.proofs.lemmas.Int.{ints}
use Rattle.std.proofs.lemmas.List.{drop_all, drop_more, take_more}
use Rattle.std.proofs.lemmas.Option.{cond_some, same_Some, none-some}
use Rattle.std.specs.Cmp.{both_ways as ways}
use Rattle.dp_base.specs.Lists.{Among, Each}
use Rattle.dp_base.proofs.Lists.{Among-append_cases, Among-append_left, Among-append_right, Among-filter_only, Among-filter_all, Each-among}
use Rattle.dp_domain.specs.Turns.{or_else}
use Rattle.dp_domain.proofs.AtomLaws.{le-from_test, lt-from_test, test-from_le}
use Rattle.dp_rule_alldiff.specs.AllDifferent.{Exceeds}
use Rattle.dp_rule_alldiff.specs.CountLaws.{count-within}
use Rattle.dp_rule_alldiff.specs.OrderLaws.{le_itself, le_through, not_both}
use Rattle.dp_rule_alldiff.specs.SpanLaws.{Among-map_only, crowd_at, crowd_some, inside_where, is_inside_where, some_last}
use Rattle.dp_rule_alldiff.specs.Spans.{AreInOrder, IsSpan, count_inside, has_crowd, is_inside}
use Rattle.dp_rule_alldiff.specs.Tight.{AreLongest, IsReach, IsTight, interval_to, mirror, opposite}
use Rattle.dp_rule_alldiff.proofs.CrowdSteps.{counts, ends_before, passes_over, some_inside}
use Rattle.dp_rule_alldiff.proofs.SpanSteps.{count_same, has_crowd_same, spans_same}

-- ---- where none are crowded

same_number : (x y : ℤ) → x ≤ℤ y → y ≤ℤ x → x ≡ y
same_number x y h k = omega (arith, ints)

-- no interval has more of the spans than numbers
pub no_more : (ss : List (ℤ × ℤ)) (a b : ℤ) → Each IsSpan ss → has_crowd ss ≡ false → Exceeds a b (count_inside ss a b) → ⊥
no_more ss a b each calm exceeds = both_ways (has_crowd ss) calm (crowd_at ss a b each exceeds)

some_counted : (a b : ℤ) (n : ℕ) → a ≤ℤ b → ((b -ℤ a) +ℤ pos 1) ≡ pos n → 1 ≤ n
some_counted a b n h e = omega (arith, ints)

-- a tight interval ends with the last number of a span within it
pub tight_last : (ss : List (ℤ × ℤ)) (a b : ℤ) → Each IsSpan ss → has_crowd ss ≡ false → IsTight ss a b → (s : ℤ × ℤ) × Among s ss × (a ≤ℤ s.0) × (s.1 ≡ b)
tight_last ss a b each calm tight =
    let last = some_last (filter (is_inside a b) ss) (some_counted a b (count_inside ss a b) tight.some tight.full) in
    let there = Among-filter_only (is_inside a b) ss last.0 last.1 in
    let ends = inside_where a b last.0 there.1 in
    let more = count-within (is_inside a b) (is_inside a last.0.1) ss (λ s here inside.
    is_inside_where a last.0.1 s (inside_where a b s inside).0 (last.2 s (Among-filter_all (is_inside a b) ss s here inside))) in
    let order = le_through a last.0.0 last.0.1 ends.0 (Each-among IsSpan ss each last.0 there.0) in (
      last.0,
      there.0,
      ends.0,
      elim (cases_Bool (int_le b last.0.1)) [
        | inl e ↦ same_number last.0.1 b ends.1 (le-from_test b last.0.1 e)
        | inr e ↦ absurd (no_more ss a last.0.1 each calm (record { some = order; more = exceeds a b last.0.1 (count_inside ss a b) (count_inside ss a last.0.1) tight.full more (lt-from_test b last.0.1 e) }))
      ],
    )
  where
    exceeds : (a b c : ℤ) (n m : ℕ) → ((b -ℤ a) +ℤ pos 1) ≡ pos n → n ≤ m → c <ℤ b → ((c -ℤ a) +ℤ pos 1) <ℤ pos m
    exceeds a b c n m e h k = omega (arith, ints)

-- where as many of the spans lie in an interval as it has numbers, it is tight
pub tight_from : (ss : List (ℤ × ℤ)) (a b : ℤ) → Each IsSpan ss → has_crowd ss ≡ false → a ≤ℤ b → ((b -ℤ a) +ℤ pos 1) ≤ℤ pos (count_inside ss a b) → IsTight ss a b
tight_from ss a b each calm h k = elim (cases_Bool (int_le (pos (count_inside ss a b)) ((b -ℤ a) +ℤ pos 1))) [
  | inl e ↦ record { some = h; full = same_number ((b -ℤ a) +ℤ pos 1) (pos (count_inside ss a b)) k (le-from_test (pos (count_inside ss a b)) ((b -ℤ a) +ℤ pos 1) e) }
  | inr e ↦ absurd (no_more ss a b each calm (record { some = h; more = lt-from_test (pos (count_inside ss a b)) ((b -ℤ a) +ℤ pos 1) e }))
]

-- ---- one pass over spans in order

-- with n spans counted, the last number up to which these fill the numbers from a on
abbrev pub reaches : ℤ → ℕ → List (ℤ × ℤ) → Option ℤ
reaches a n [] = None
reaches a n (s ∷ ss) = cond (int_le a s.0) (or_else (reaches a (n + 1) ss) (cond (int_le ((s.1 -ℤ a) +ℤ pos 1) (pos (n + 1))) (Some s.1) None)) (reaches a n ss)

-- an interval from a that holds some of these, and with n others as many as it has numbers
record IsFilled (a b : ℤ) (n : ℕ) (ss : List (ℤ × ℤ)) : Type 0 where
  some : 1 ≤ count_inside ss a b
  order : a ≤ℤ b
  full : ((b -ℤ a) +ℤ pos 1) ≤ℤ pos (n + count_inside ss a b)

filled_here : (a : ℤ) (n : ℕ) (s : ℤ × ℤ) (ss : List (ℤ × ℤ)) → IsSpan s → a ≤ℤ s.0 → ((s.1 -ℤ a) +ℤ pos 1) ≤ℤ pos (n + 1) → IsFilled a s.1 n (s ∷ ss)
filled_here a n s ss span h full =
    let e = counts s ss a s.1 h (le_itself s.1) in
    record {
      some = one (count_inside (s ∷ ss) a s.1) (count_inside ss a s.1) e;
      order = le_through a s.0 s.1 h span;
      full = more a s.1 n (count_inside (s ∷ ss) a s.1) (count_inside ss a s.1) e full;
    }
  where
    one : (k m : ℕ) → k ≡ suc m → 1 ≤ k
    one k m e = omega arith

    more : (a b : ℤ) (n k m : ℕ) → k ≡ suc m → ((b -ℤ a) +ℤ pos 1) ≤ℤ pos (n + 1) → ((b -ℤ a) +ℤ pos 1) ≤ℤ pos (n + k)
    more a b n k m e h = omega (arith, ints)

filled_later : (a b : ℤ) (n : ℕ) (s : ℤ × ℤ) (ss : List (ℤ × ℤ)) → a ≤ℤ s.0 → Each (λ (t : ℤ × ℤ). s.1 ≤ℤ t.1) ss → IsFilled a b (n + 1) ss → IsFilled a b n (s ∷ ss)
filled_later a b n s ss h later filled =
    let e = counts s ss a b h (ends_before s ss a b later filled.some) in
    record {
      some = one (count_inside (s ∷ ss) a b) (count_inside ss a b) e;
      order = filled.order;
      full = more a b n (count_inside (s ∷ ss) a b) (count_inside ss a b) e filled.full;
    }
  where
    one : (k m : ℕ) → k ≡ suc m → 1 ≤ k
    one k m e = omega arith

    more : (a b : ℤ) (n k m : ℕ) → k ≡ suc m → ((b -ℤ a) +ℤ pos 1) ≤ℤ pos ((n + 1) + m) → ((b -ℤ a) +ℤ pos 1) ≤ℤ pos (n + k)
    more a b n k m e h = omega (arith, ints)

filled_same : (a b : ℤ) (n : ℕ) (s : ℤ × ℤ) (ss : List (ℤ × ℤ)) → count_inside (s ∷ ss) a b ≡ count_inside ss a b → IsFilled a b n ss → IsFilled a b n (s ∷ ss)
filled_same a b n s ss e filled = record {
  some = subst (λ k. 1 ≤ k) (sym e) filled.some;
  order = filled.order;
  full = subst (λ k. ((b -ℤ a) +ℤ pos 1) ≤ℤ pos (n + k)) (sym e) filled.full;
}

else_cases : (o p : Option ℤ) (c : ℤ) → or_else o p ≡ Some c → (o ≡ Some c) ⊎ (p ≡ Some c)
else_cases None p c e = inr e
else_cases (Some x) p c e = inl e

-- what the pass finds is filled
reach_some : (a : ℤ) (n : ℕ) (ss : List (ℤ × ℤ)) (c : ℤ) → AreInOrder ss → Each IsSpan ss → reaches a n ss ≡ Some c → IsFilled a c n ss
reach_some a n [] c ordered spans e = absurd (none-some c e)
reach_some a n (s ∷ ss) c ordered spans e = elim (cases_Bool (int_le a s.0)) [
  | inl in_from ↦
      elim (else_cases (reaches a (n + 1) ss) (cond (int_le ((s.1 -ℤ a) +ℤ pos 1) (pos (n + 1))) (Some s.1) None) c (sym (cond-true (int_le a s.0) _ _ in_from) ∙ e)) [
        | inl rest ↦ filled_later a c n s ss (le-from_test a s.0 in_from) ordered.0 (reach_some a (n + 1) ss c ordered.1 spans.1 rest)
        | inr here ↦
            let r = cond_some (int_le ((s.1 -ℤ a) +ℤ pos 1) (pos (n + 1))) s.1 c here in
            subst (λ z. IsFilled a z n (s ∷ ss)) r.1 (filled_here a n s ss spans.0 (le-from_test a s.0 in_from) (le-from_test ((s.1 -ℤ a) +ℤ pos 1) (pos (n + 1)) r.0))
      ]
  | inr before ↦
      let r = reach_some a n ss c ordered.1 spans.1 (sym (cond-false (int_le a s.0) _ _ before) ∙ e) in
      filled_same a c n s ss (passes_over s ss a c (λ h k. not_both a s.0 (lt-from_test a s.0 before) h)) r
]

-- the pass ends at c or later
abbrev EndsFrom : ℤ → Option ℤ → Type 0
EndsFrom b o = (c : ℤ) × (o ≡ Some c) × (b ≤ℤ c)

ends_later : (b : ℤ) (o p : Option ℤ) → EndsFrom b o → EndsFrom b (or_else o p)
ends_later b o p r = (r.0, ap (λ q. or_else q p) r.1, r.2)

some_or : (o : Option ℤ) (b : ℤ) → ((c : ℤ) → o ≡ Some c → b ≤ℤ c) → EndsFrom b (or_else o (Some b))
some_or None b later = (b, refl, le_itself b)
some_or (Some c) b later = (c, refl, later c refl)

-- what is filled after a span ends no earlier than it
filled_after : (a c : ℤ) (n : ℕ) (s : ℤ × ℤ) (ss : List (ℤ × ℤ)) → Each (λ (t : ℤ × ℤ). s.1 ≤ℤ t.1) ss → IsFilled a c n ss → s.1 ≤ℤ c
filled_after a c n s ss later filled = ends_before s ss a c later filled.some

fewer_left : (n k m : ℕ) (z : ℤ) → k ≡ suc m → z ≤ℤ pos (n + k) → z ≤ℤ pos ((n + 1) + m)
fewer_left n k m z e h = omega (arith, ints)

none_left : (n k m : ℕ) (z : ℤ) → k ≡ suc m → m ≡ 0 → z ≤ℤ pos (n + k) → z ≤ℤ pos (n + 1)
none_left n k m z e f h = omega (arith, ints)

some_or_none : (n : ℕ) → (1 ≤ n) ⊎ (n ≡ 0)
some_or_none zero = inr refl
some_or_none (suc n) = inl (omega arith)

full_here : (z : ℤ) (n : ℕ) → z ≡ pos n → z ≤ℤ pos (0 + n)
full_here z n e = omega (arith, ints)

-- where the numbers to the end of a span are filled, the pass ends there or later
reach_at : (a : ℤ) (n : ℕ) (ss : List (ℤ × ℤ)) (t : ℤ × ℤ) → AreInOrder ss → Each IsSpan ss → Among t ss → a ≤ℤ t.0 → ((t.1 -ℤ a) +ℤ pos 1) ≤ℤ pos (n + count_inside ss a t.1) → EndsFrom t.1 (reaches a n ss)
reach_at a n [] t ordered spans here h full = absurd here
reach_at a n (s ∷ ss) t ordered spans (inr here) h full = elim (cases_Bool (int_le a s.0)) [
  | inl in_from ↦
      let e = counts s ss a t.1 (le-from_test a s.0 in_from) (Each-among (λ (u : ℤ × ℤ). s.1 ≤ℤ u.1) ss ordered.0 t here) in
      subst (EndsFrom t.1) (sym (cond-true (int_le a s.0) _ _ in_from))
      (ends_later t.1 (reaches a (n + 1) ss) _ (reach_at a (n + 1) ss t ordered.1 spans.1 here h (fewer_left n (count_inside (s ∷ ss) a t.1) (count_inside ss a t.1) ((t.1 -ℤ a) +ℤ pos 1) e full)))
  | inr before ↦
      subst (EndsFrom t.1) (sym (cond-false (int_le a s.0) _ _ before))
      (reach_at a n ss t ordered.1 spans.1 here h (subst (λ k. ((t.1 -ℤ a) +ℤ pos 1) ≤ℤ pos (n + k)) (passes_over s ss a t.1 (λ k l. not_both a s.0 (lt-from_test a s.0 before) k)) full))
]
reach_at a n (s ∷ ss) t ordered spans (inl same) h full =
    let from = subst (λ (u : ℤ × ℤ). a ≤ℤ u.0) same h in
    let filled = subst (λ (u : ℤ × ℤ). ((u.1 -ℤ a) +ℤ pos 1) ≤ℤ pos (n + count_inside (s ∷ ss) a u.1)) same full in
    let e = counts s ss a s.1 from (le_itself s.1) in
    subst (λ (u : ℤ × ℤ). EndsFrom u.1 (reaches a n (s ∷ ss))) (sym same)
    (subst (EndsFrom s.1) (sym (cond-true (int_le a s.0) _ _ (test-from_le a s.0 from)))
    (elim (some_or_none (count_inside ss a s.1)) [
      | inl some ↦
          let u = some_inside (filter (is_inside a s.1) ss) some in
          let there = Among-filter_only (is_inside a s.1) ss u.0 u.1 in
          let inside = inside_where a s.1 u.0 there.1 in
          let last : u.0.1 ≡ s.1 = same_number u.0.1 s.1 inside.1 (Each-among (λ (w : ℤ × ℤ). s.1 ≤ℤ w.1) ss ordered.0 u.0 there.0) in
          ends_later s.1 (reaches a (n + 1) ss) _
          (subst (λ z. EndsFrom z (reaches a (n + 1) ss)) last
          (reach_at a (n + 1) ss u.0 ordered.1 spans.1 there.0 inside.0
          (subst (λ z. ((z -ℤ a) +ℤ pos 1) ≤ℤ pos ((n + 1) + count_inside ss a z)) (sym last) (fewer_left n (count_inside (s ∷ ss) a s.1) (count_inside ss a s.1) ((s.1 -ℤ a) +ℤ pos 1) e filled))))
      | inr none ↦
          subst (λ q. EndsFrom s.1 (or_else (reaches a (n + 1) ss) q)) (sym (cond-true (int_le ((s.1 -ℤ a) +ℤ pos 1) (pos (n + 1))) _ _ (test-from_le ((s.1 -ℤ a) +ℤ pos 1) (pos (n + 1)) (none_left n (count_inside (s ∷ ss) a s.1) (count_inside ss a s.1) ((s.1 -ℤ a) +ℤ pos 1) e none filled))))
          (some_or (reaches a (n + 1) ss) s.1 (λ c f. filled_after a c (n + 1) s ss ordered.0 (reach_some a (n + 1) ss c ordered.1 spans.1 f)))
    ]))

reach_by : (ss : List (ℤ × ℤ)) (a : ℤ) (o : Option ℤ) → AreInOrder ss → Each IsSpan ss → has_crowd ss ≡ false → reaches a 0 ss ≡ o → IsReach ss a o
reach_by ss a None ordered spans calm e = λ b tight.
    let last = tight_last ss a b spans calm tight in
    let ends = reach_at a 0 ss last.0 ordered spans last.1 last.2 (subst (λ z. ((z -ℤ a) +ℤ pos 1) ≤ℤ pos (0 + count_inside ss a z)) (sym last.3) (full_here ((b -ℤ a) +ℤ pos 1) (count_inside ss a b) tight.full)) in
    none-some ends.0 (sym e ∙ ends.1)
reach_by ss a (Some c) ordered spans calm e =
    let filled = reach_some a 0 ss c ordered spans e in (
      tight_from ss a c spans calm filled.order (none_before ((c -ℤ a) +ℤ pos 1) (count_inside ss a c) filled.full),
      λ b tight.
          let last = tight_last ss a b spans calm tight in
          let ends = reach_at a 0 ss last.0 ordered spans last.1 last.2 (subst (λ z. ((z -ℤ a) +ℤ pos 1) ≤ℤ pos (0 + count_inside ss a z)) (sym last.3) (full_here ((b -ℤ a) +ℤ pos 1) (count_inside ss a b) tight.full)) in
          later last.0.1 b ends.0 c last.3 ends.2 (same_Some ends.0 c (sym ends.1 ∙ e)),
    )
  where
    none_before : (z : ℤ) (n : ℕ) → z ≤ℤ pos (0 + n) → z ≤ℤ pos n
    none_before z n h = omega (arith, ints)

    later : (l b k c : ℤ) → l ≡ b → l ≤ℤ k → k ≡ c → b ≤ℤ c
    later l b k c e h f = omega (arith, ints)

-- a pass from nothing finds the longest tight interval
pub reach_is : (ss : List (ℤ × ℤ)) (a : ℤ) → AreInOrder ss → Each IsSpan ss → has_crowd ss ≡ false → IsReach ss a (reaches a 0 ss)
reach_is ss a ordered spans calm = reach_by ss a (reaches a 0 ss) ordered spans calm refl

-- ---- the reversed order of numbers

opposite_le : (x y : ℤ) → x ≤ℤ opposite y → y ≤ℤ opposite x
opposite_le x y h = omega (arith, ints)

le_opposite : (x y : ℤ) → opposite x ≤ℤ y → opposite y ≤ℤ x
le_opposite x y h = omega (arith, ints)

pub opposite_twice : (x : ℤ) → opposite (opposite x) ≡ x
opposite_twice x = omega (arith, ints)

mirror_inside : (a b : ℤ) (s : ℤ × ℤ) → is_inside a b (mirror s) ≡ is_inside (opposite b) (opposite a) s
mirror_inside a b s = ways (is_inside a b (mirror s)) (is_inside (opposite b) (opposite a) s)
    (λ e. let r = inside_where a b (mirror s) e in is_inside_where (opposite b) (opposite a) s (le_opposite s.0 b r.1) (opposite_le a s.1 r.0))
    (λ e. let r = inside_where (opposite b) (opposite a) s e in is_inside_where a b (mirror s) (opposite_le s.1 a r.1) (le_opposite b s.0 r.0))

mirror_count_step : (b c : Bool) (m s : ℤ × ℤ) (ms ss : List (ℤ × ℤ)) → b ≡ c → length ms ≡ length ss → length (cond b (m ∷ ms) ms) ≡ length (cond c (s ∷ ss) ss)
mirror_count_step true true m s ms ss e f = ap suc f
mirror_count_step true false m s ms ss e f = absurd (false≢true (sym e))
mirror_count_step false true m s ms ss e f = absurd (false≢true e)
mirror_count_step false false m s ms ss e f = f

-- the mirrored interval holds as many of the mirrored spans
pub mirror_count : (ss : List (ℤ × ℤ)) (a b : ℤ) → count_inside (map mirror ss) a b ≡ count_inside ss (opposite b) (opposite a)
mirror_count [] a b = refl
mirror_count (s ∷ ss) a b = mirror_count_step (is_inside a b (mirror s)) (is_inside (opposite b) (opposite a) s) (mirror s) s (filter (is_inside a b) (map mirror ss)) (filter (is_inside (opposite b) (opposite a)) ss) (mirror_inside a b s) (mirror_count ss a b)

pub mirror_spans : (ss : List (ℤ × ℤ)) → Each IsSpan ss → Each IsSpan (map mirror ss)
mirror_spans [] each = tt
mirror_spans (s ∷ ss) each = (turned s.0 s.1 each.0, mirror_spans ss each.1)
  where
    turned : (x y : ℤ) → x ≤ℤ y → opposite y ≤ℤ opposite x
    turned x y h = omega (arith, ints)

pub mirror_calm : (ss : List (ℤ × ℤ)) → Each IsSpan ss → has_crowd ss ≡ false → has_crowd (map mirror ss) ≡ false
mirror_calm ss each calm = false_from_ne_true (has_crowd (map mirror ss)) (λ e.
    let r = crowd_some (map mirror ss) e in
    no_more ss (opposite r.1) (opposite r.0) each calm (record { some = order r.0 r.1 r.2.some; more = exceeds r.0 r.1 (count_inside (map mirror ss) r.0 r.1) (count_inside ss (opposite r.1) (opposite r.0)) (mirror_count ss r.0 r.1) r.2.more }))
  where
    order : (a b : ℤ) → a ≤ℤ b → opposite b ≤ℤ opposite a
    order a b h = omega (arith, ints)

    exceeds : (a b : ℤ) (n m : ℕ) → n ≡ m → ((b -ℤ a) +ℤ pos 1) <ℤ pos n → ((opposite a -ℤ opposite b) +ℤ pos 1) <ℤ pos m
    exceeds a b n m e h = omega (arith, ints)

-- a mirrored interval is tight among the mirrored spans where it is tight among the spans
pub tight_mirrored : (ss : List (ℤ × ℤ)) (a b : ℤ) → IsTight (map mirror ss) a b → IsTight ss (opposite b) (opposite a)
tight_mirrored ss a b tight = record { some = order a b tight.some; full = full a b (count_inside (map mirror ss) a b) (count_inside ss (opposite b) (opposite a)) (mirror_count ss a b) tight.full }
  where
    order : (a b : ℤ) → a ≤ℤ b → opposite b ≤ℤ opposite a
    order a b h = omega (arith, ints)

    full : (a b : ℤ) (n m : ℕ) → n ≡ m → ((b -ℤ a) +ℤ pos 1) ≡ pos n → ((opposite a -ℤ opposite b) +ℤ pos 1) ≡ pos m
    full a b n m e h = omega (arith, ints)

pub tight_mirror : (ss : List (ℤ × ℤ)) (a b : ℤ) → IsTight ss a b → IsTight (map mirror ss) (opposite b) (opposite a)
tight_mirror ss a b tight = record {
  some = order a b tight.some;
  full = full a b (count_inside ss a b) (count_inside (map mirror ss) (opposite b) (opposite a)) (mirror_count ss (opposite b) (opposite a) ∙ ap (λ z. count_inside ss z (opposite (opposite b))) (opposite_twice a) ∙ ap (λ z. count_inside ss a z) (opposite_twice b)) tight.full;
}
  where
    order : (a b : ℤ) → a ≤ℤ b → opposite b ≤ℤ opposite a
    order a b h = omega (arith, ints)

    full : (a b : ℤ) (n m : ℕ) → m ≡ n → ((b -ℤ a) +ℤ pos 1) ≡ pos n → ((opposite a -ℤ opposite b) +ℤ pos 1) ≡ pos m
    full a b n m e h = omega (arith, ints)

-- ---- spans in any order

-- each interval holds as many of the spans
abbrev pub HaveSameCounts : List (ℤ × ℤ) → List (ℤ × ℤ) → Type 0
HaveSameCounts ss ts = (a b : ℤ) → count_inside ss a b ≡ count_inside ts a b

-- the mirrored ones too
pub mirror_same : (ss ts : List (ℤ × ℤ)) → HaveSameCounts ss ts → HaveSameCounts (map mirror ss) (map mirror ts)
mirror_same ss ts same a b = mirror_count ss a b ∙ same (opposite b) (opposite a) ∙ sym (mirror_count ts a b)

tight_same : (ss ts : List (ℤ × ℤ)) (a b : ℤ) → count_inside ss a b ≡ count_inside ts a b → IsTight ss a b → IsTight ts a b
tight_same ss ts a b same tight = record { some = tight.some; full = tight.full ∙ ap pos same }

-- the longest tight intervals are those of the spans in any order
pub longest_same : (ss ts intervals : List (ℤ × ℤ)) → HaveSameCounts ss ts → AreLongest ts intervals → AreLongest ss intervals
longest_same ss ts intervals same longest = record {
  only = λ i here. tight_same ts ss i.0 i.1 (sym (same i.0 i.1)) (longest.only i here);
  all = λ a b tight. longest.all a b (tight_same ss ts a b (same a b) tight);
}

-- a tight interval begins with the first number of a span within it
tight_first : (ss : List (ℤ × ℤ)) (a b : ℤ) → Each IsSpan ss → has_crowd ss ≡ false → IsTight ss a b → (s : ℤ × ℤ) × Among s ss × (s.0 ≡ a)
tight_first ss a b each calm tight =
    let last = tight_last (map mirror ss) (opposite b) (opposite a) (mirror_spans ss each) (mirror_calm ss each calm) (tight_mirror ss a b tight) in
    let s = Among-map_only mirror ss last.0 last.1 in
    (s.0, s.1, same s.0.0 a last.0.1 (ap (λ (t : ℤ × ℤ). t.1) s.2) last.3)
  where
    same : (x y z : ℤ) → z ≡ opposite x → z ≡ opposite y → x ≡ y
    same x y z e f = omega (arith, ints)

-- ---- one span more

-- tight intervals, and from the first number of each of these spans a longest one
pub record AreLongestFrom (ss ts intervals : List (ℤ × ℤ)) : Type 0 where
  pub only : (i : ℤ × ℤ) → Among i intervals → IsTight ss i.0 i.1
  pub all : (t : ℤ × ℤ) → Among t ts → (b : ℤ) → IsTight ss t.0 b → (c : ℤ) × Among (t.0, c) intervals × (b ≤ℤ c)

pub longest_none : (ss : List (ℤ × ℤ)) → AreLongestFrom ss [] []
longest_none ss = record { only = λ i here. absurd here; all = λ t here b tight. absurd here }

tight_to : (ss : List (ℤ × ℤ)) (a : ℤ) (o : Option ℤ) (i : ℤ × ℤ) → IsReach ss a o → Among i (interval_to a o) → IsTight ss i.0 i.1
tight_to ss a None i reach here = absurd here
tight_to ss a (Some c) i reach (inl e) = subst (λ (j : ℤ × ℤ). IsTight ss j.0 j.1) (sym e) reach.0
tight_to ss a (Some c) i reach (inr none) = absurd none

long_enough : (ss : List (ℤ × ℤ)) (a b : ℤ) (o : Option ℤ) → IsReach ss a o → IsTight ss a b → (c : ℤ) × Among (a, c) (interval_to a o) × (b ≤ℤ c)
long_enough ss a b None reach tight = absurd (reach b tight)
long_enough ss a b (Some c) reach tight = (c, inl refl, reach.1 b tight)

pub longest_more : (ss ts intervals : List (ℤ × ℤ)) (s : ℤ × ℤ) (o : Option ℤ) → AreLongestFrom ss ts intervals → IsReach ss s.0 o → AreLongestFrom ss (ts ++ s ∷ []) (intervals ++ interval_to s.0 o)
longest_more ss ts intervals s o longest reach = record {
  only = λ i here. elim (Among-append_cases i intervals (interval_to s.0 o) here) [
    | inl before ↦ longest.only i before
    | inr added ↦ tight_to ss s.0 o i reach added
  ];
  all = λ t here b tight. elim (Among-append_cases t ts (s ∷ []) here) [
    | inl before ↦ let r = longest.all t before b tight in (r.0, Among-append_left (t.0, r.0) intervals (interval_to s.0 o) r.1, r.2)
    | inr (inl e) ↦
        let r = long_enough ss s.0 b o reach (subst (λ (u : ℤ × ℤ). IsTight ss u.0 b) e tight) in
        (r.0, subst (λ (u : ℤ × ℤ). Among (u.0, r.0) (intervals ++ interval_to s.0 o)) (sym e) (Among-append_right (s.0, r.0) intervals (interval_to s.0 o) r.1), r.2)
    | inr (inr none) ↦ absurd none
  ];
}

-- the spans so far, one span on
pub longest_step : (ss : List (ℤ × ℤ)) (i : ℕ) (s : ℤ × ℤ) (old new : List (ℤ × ℤ)) (o : Option ℤ) → i < length ss → AreLongestFrom ss (take i ss) old → IsReach ss (get_or ss i s).0 o → new ≡ old ++ interval_to (get_or ss i s).0 o → AreLongestFrom ss (take (i + 1) ss) new
longest_step ss i s old new o h longest reach e =
    subst (λ ts. AreLongestFrom ss ts new) (sym (take_more ss i s h))
    (subst (λ is. AreLongestFrom ss (take i ss ++ get_or ss i s ∷ []) is) (sym e) (longest_more ss (take i ss) old (get_or ss i s) o longest reach))

-- from the first number of each span, they are the longest of all
pub longest_all : (ss intervals : List (ℤ × ℤ)) → Each IsSpan ss → has_crowd ss ≡ false → AreLongestFrom ss ss intervals → AreLongest ss intervals
longest_all ss intervals each calm longest = record {
  only = longest.only;
  all = λ a b tight.
      let s = tight_first ss a b each calm tight in
      let r = longest.all s.0 s.1 b (subst (λ z. IsTight ss z b) (sym s.2) tight) in
      (r.0, subst (λ z. Among (z, r.0) intervals) s.2 r.1, r.2);
}

-- ---- the pass in code

-- what is left of a pass, one span on: it is passed over, or it is counted
pub reaches_over : (ss : List (ℤ × ℤ)) (i : ℕ) (s : ℤ × ℤ) (a : ℤ) (n : ℕ) (o : Option ℤ) → i < length ss → int_le a (get_or ss i s).0 ≡ false → or_else (reaches a n (drop i ss)) o ≡ or_else (reaches a n (drop (i + 1) ss)) o
reaches_over ss i s a n o h out = ap (λ ts. or_else (reaches a n ts) o) (drop_more ss i s h) ∙ ap (λ q. or_else q o) (cond-false (int_le a (get_or ss i s).0) _ _ out)

chosen : (r o : Option ℤ) (b : Bool) (x : ℤ) → or_else (or_else r (cond b (Some x) None)) o ≡ or_else r (cond b (Some x) o)
chosen None o true x = refl
chosen None o false x = refl
chosen (Some y) o b x = refl

pub reaches_counted : (ss : List (ℤ × ℤ)) (i : ℕ) (s : ℤ × ℤ) (a : ℤ) (n : ℕ) (o p : Option ℤ) → i < length ss → int_le a (get_or ss i s).0 ≡ true → p ≡ cond (int_le (((get_or ss i s).1 -ℤ a) +ℤ pos 1) (pos (n + 1))) (Some (get_or ss i s).1) o → or_else (reaches a n (drop i ss)) o ≡ or_else (reaches a (n + 1) (drop (i + 1) ss)) p
reaches_counted ss i s a n o p h from e =
    ap (λ ts. or_else (reaches a n ts) o) (drop_more ss i s h) ∙ ap (λ q. or_else q o) (cond-true (int_le a (get_or ss i s).0) _ _ from)
    ∙ chosen (reaches a (n + 1) (drop (i + 1) ss)) o (int_le (((get_or ss i s).1 -ℤ a) +ℤ pos 1) (pos (n + 1))) (get_or ss i s).1
    ∙ ap (or_else (reaches a (n + 1) (drop (i + 1) ss))) (sym e)

-- nothing is left at the end
pub reaches_none : (ss : List (ℤ × ℤ)) (i : ℕ) (a : ℤ) (n : ℕ) (o : Option ℤ) → length ss ≤ i → or_else (reaches a n (drop i ss)) o ≡ o
reaches_none ss i a n o h = ap (λ ts. or_else (reaches a n ts) o) (drop_all i ss h)

-- a pass from a number that was read
pub reach_read : (x a : ℤ) (ss : List (ℤ × ℤ)) (o : Option ℤ) → x ≡ a → AreInOrder ss → Each IsSpan ss → has_crowd ss ≡ false → reaches x 0 ss ≡ o → IsReach ss a o
reach_read x a ss o e ordered spans calm k = subst (IsReach ss a) (sym (ap (λ z. reaches z 0 ss) e) ∙ k) (reach_is ss a ordered spans calm)

-- ---- the mirrored spans in code

pub mirrored_spans : (ss ms rs ts : List (ℤ × ℤ)) → ms ≡ map mirror ss → IsPermutation ms rs → ts ≡ rs → Each IsSpan ss → Each IsSpan ts
mirrored_spans ss ms rs ts e same f each = subst (λ us. Each IsSpan us) (sym f) (spans_same ms rs same (subst (λ us. Each IsSpan us) (sym e) (mirror_spans ss each)))

pub mirrored_calm : (ss ms rs ts : List (ℤ × ℤ)) → ms ≡ map mirror ss → IsPermutation ms rs → ts ≡ rs → Each IsSpan ss → has_crowd ss ≡ false → has_crowd ts ≡ false
mirrored_calm ss ms rs ts e same f each calm =
    ap has_crowd f ∙ has_crowd_same ms rs same (subst (λ us. Each IsSpan us) (sym e) (mirror_spans ss each)) ∙ ap has_crowd e ∙ mirror_calm ss each calm

pub mirrored_longest : (ss ms rs ts intervals : List (ℤ × ℤ)) → ms ≡ map mirror ss → IsPermutation ms rs → ts ≡ rs → AreLongest ts intervals → AreLongest (map mirror ss) intervals
mirrored_longest ss ms rs ts intervals e same f longest =
    subst (λ us. AreLongest us intervals) e (longest_same ms rs intervals (count_same ms rs same) (subst (λ us. AreLongest us intervals) f longest))
