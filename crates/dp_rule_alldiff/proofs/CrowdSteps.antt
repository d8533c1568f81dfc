-- Crowds by one pass over spans in order of their last numbers.
use Rattle.std.proofs.Common.{◌≡◌, ℕ, suc, ◌+◌, ◌<◌, ◌≤◌, Bool, true, false, cond, List, [], ◌∷◌, length, get_or, drop, ℤ, pos, ◌+ℤ◌, ◌-ℤ◌, ◌≤ℤ◌, ◌<ℤ◌, int_le, int_lt, refl, sym, ◌∙◌, ap, subst, inl, inr, arith}
use Rattle.std.specs.Prelude.{◌||◌}
use Rattle.std.specs.List.{filter}
use Rattle.std.proofs.lemmas.Bool.{false≢true, cases_Bool, cond-false, cond-true, or_cases, or_left, or_right}
use Rattle.std.proofs.lemmas.Int.{ints}
use Rattle.std.proofs.lemmas.List.{drop_all, drop_more}
use Rattle.dp_base.specs.Lists.{Among, Each}
use Rattle.dp_base.proofs.Lists.{Among-filter_only, Each-among}
use Rattle.std.specs.Cmp.{both_ways}
use Rattle.dp_domain.proofs.AtomLaws.{le-from_test, lt-from_test}
use Rattle.dp_rule_alldiff.specs.CountLaws.{count_is}
use Rattle.dp_rule_alldiff.specs.OrderLaws.{le_itself, le_through, less_where, no_less_where, not_both}
use Rattle.dp_rule_alldiff.specs.SpanLaws.{crowd_from, crowd_from_some, inside_where, is_inside_where, one_there}
use Rattle.dp_rule_alldiff.specs.Spans.{AreInOrder, IsSpan, count_inside, is_crowded_from, is_inside}

-- whether, with n spans counted, one of these that begins at a or later is one too many up to its last number
abbrev pub overfills : ℤ → ℕ → List (ℤ × ℤ) → Bool
overfills a n [] = false
overfills a n (s ∷ ss) = cond (int_le a s.0) (int_lt ((s.1 -ℤ a) +ℤ pos 1) (pos (n + 1)) || overfills a (n + 1) ss) (overfills a n ss)

-- ---- one step

-- a span inside is counted
pub counts : (s : ℤ × ℤ) (ss : List (ℤ × ℤ)) (a b : ℤ) → a ≤ℤ s.0 → s.1 ≤ℤ b → count_inside (s ∷ ss) a b ≡ suc (count_inside ss a b)
counts s ss a b h k = count_is (is_inside a b) s ss true (is_inside_where a b s h k)

-- and one outside is not
pub passes_over : (s : ℤ × ℤ) (ss : List (ℤ × ℤ)) (a b : ℤ) → (a ≤ℤ s.0 → s.1 ≤ℤ b → ⊥) → count_inside (s ∷ ss) a b ≡ count_inside ss a b
passes_over s ss a b out = elim (cases_Bool (is_inside a b s)) [
  | inl e ↦ let inside = inside_where a b s e in absurd (out inside.0 inside.1)
  | inr e ↦ count_is (is_inside a b) s ss false e
]

pub some_inside : (ss : List (ℤ × ℤ)) → 1 ≤ length ss → (t : ℤ × ℤ) × Among t ss
some_inside [] h = absurd (omega arith)
some_inside (s ∷ ss) h = (s, inl refl)

-- a span before one inside ends there too
pub ends_before : (s : ℤ × ℤ) (ss : List (ℤ × ℤ)) (a b : ℤ) → Each (λ (t : ℤ × ℤ). s.1 ≤ℤ t.1) ss → 1 ≤ count_inside ss a b → s.1 ≤ℤ b
ends_before s ss a b later some =
    let t = some_inside (filter (is_inside a b) ss) some in
    let there = Among-filter_only (is_inside a b) ss t.0 t.1 in
    le_through s.1 t.0.1 b (Each-among (λ (u : ℤ × ℤ). s.1 ≤ℤ u.1) ss later t.0 there.0) (inside_where a b t.0 there.1).1

-- ---- what a pass finds

-- an interval from a that holds some of these, and with n others more than it has numbers
record IsOverfilled (a b : ℤ) (n : ℕ) (ss : List (ℤ × ℤ)) : Type 0 where
  some : 1 ≤ count_inside ss a b
  order : a ≤ℤ b
  more : ((b -ℤ a) +ℤ pos 1) <ℤ pos (n + count_inside ss a b)

overfilled_here : (a : ℤ) (n : ℕ) (s : ℤ × ℤ) (ss : List (ℤ × ℤ)) → IsSpan s → a ≤ℤ s.0 → ((s.1 -ℤ a) +ℤ pos 1) <ℤ pos (n + 1) → IsOverfilled a s.1 n (s ∷ ss)
overfilled_here a n s ss span h over =
    let e = counts s ss a s.1 h (le_itself s.1) in
    record {
      some = one (count_inside (s ∷ ss) a s.1) (count_inside ss a s.1) e;
      order = le_through a s.0 s.1 h span;
      more = more a s.1 n (count_inside (s ∷ ss) a s.1) (count_inside ss a s.1) e over;
    }
  where
    one : (k m : ℕ) → k ≡ suc m → 1 ≤ k
    one k m e = omega arith

    more : (a b : ℤ) (n k m : ℕ) → k ≡ suc m → ((b -ℤ a) +ℤ pos 1) <ℤ pos (n + 1) → ((b -ℤ a) +ℤ pos 1) <ℤ pos (n + k)
    more a b n k m e h = omega (arith, ints)

overfilled_later : (a b : ℤ) (n : ℕ) (s : ℤ × ℤ) (ss : List (ℤ × ℤ)) → a ≤ℤ s.0 → Each (λ (t : ℤ × ℤ). s.1 ≤ℤ t.1) ss → IsOverfilled a b (n + 1) ss → IsOverfilled a b n (s ∷ ss)
overfilled_later a b n s ss h later over =
    let e = counts s ss a b h (ends_before s ss a b later over.some) in
    record {
      some = one (count_inside (s ∷ ss) a b) (count_inside ss a b) e;
      order = over.order;
      more = more a b n (count_inside (s ∷ ss) a b) (count_inside ss a b) e over.more;
    }
  where
    one : (k m : ℕ) → k ≡ suc m → 1 ≤ k
    one k m e = omega arith

    more : (a b : ℤ) (n k m : ℕ) → k ≡ suc m → ((b -ℤ a) +ℤ pos 1) <ℤ pos ((n + 1) + m) → ((b -ℤ a) +ℤ pos 1) <ℤ pos (n + k)
    more a b n k m e h = omega (arith, ints)

overfilled_same : (a b : ℤ) (n : ℕ) (s : ℤ × ℤ) (ss : List (ℤ × ℤ)) → count_inside (s ∷ ss) a b ≡ count_inside ss a b → IsOverfilled a b n ss → IsOverfilled a b n (s ∷ ss)
overfilled_same a b n s ss e over = record {
  some = subst (λ k. 1 ≤ k) (sym e) over.some;
  order = over.order;
  more = subst (λ k. ((b -ℤ a) +ℤ pos 1) <ℤ pos (n + k)) (sym e) over.more;
}

overfilled_rest : (a b : ℤ) (n : ℕ) (s : ℤ × ℤ) (ss : List (ℤ × ℤ)) → count_inside (s ∷ ss) a b ≡ count_inside ss a b → IsOverfilled a b n (s ∷ ss) → IsOverfilled a b n ss
overfilled_rest a b n s ss e over = record {
  some = subst (λ k. 1 ≤ k) e over.some;
  order = over.order;
  more = subst (λ k. ((b -ℤ a) +ℤ pos 1) <ℤ pos (n + k)) e over.more;
}

overfilled_some : (a : ℤ) (n : ℕ) (ss : List (ℤ × ℤ)) → AreInOrder ss → Each IsSpan ss → overfills a n ss ≡ true → (b : ℤ) × IsOverfilled a b n ss
overfilled_some a n [] ordered spans e = absurd (false≢true e)
overfilled_some a n (s ∷ ss) ordered spans e = elim (cases_Bool (int_le a s.0)) [
  | inl in_from ↦
      elim (or_cases (int_lt ((s.1 -ℤ a) +ℤ pos 1) (pos (n + 1))) (overfills a (n + 1) ss) (sym (cond-true (int_le a s.0) _ _ in_from) ∙ e)) [
        | inl over ↦ (s.1, overfilled_here a n s ss spans.0 (le-from_test a s.0 in_from) (less_where ((s.1 -ℤ a) +ℤ pos 1) (pos (n + 1)) over))
        | inr rest ↦
            let r = overfilled_some a (n + 1) ss ordered.1 spans.1 rest in
            (r.0, overfilled_later a r.0 n s ss (le-from_test a s.0 in_from) ordered.0 r.1)
      ]
  | inr before ↦
      let r = overfilled_some a n ss ordered.1 spans.1 (sym (cond-false (int_le a s.0) _ _ before) ∙ e) in
      (r.0, overfilled_same a r.0 n s ss (passes_over s ss a r.0 (λ h k. not_both a s.0 (lt-from_test a s.0 before) h)) r.1)
]

-- where the span itself is not one too many, a later one is
later_some : (a b : ℤ) (n : ℕ) (s : ℤ × ℤ) (ss : List (ℤ × ℤ)) → a ≤ℤ s.0 → s.1 ≤ℤ b → pos (n + 1) ≤ℤ ((s.1 -ℤ a) +ℤ pos 1) → IsOverfilled a b n (s ∷ ss) → IsOverfilled a b (n + 1) ss
later_some a b n s ss h k few over =
    let e = counts s ss a b h k in
    record {
      some = some a b s.1 n (count_inside (s ∷ ss) a b) (count_inside ss a b) e k few over.more;
      order = over.order;
      more = more a b n (count_inside (s ∷ ss) a b) (count_inside ss a b) e over.more;
    }
  where
    some : (a b c : ℤ) (n k m : ℕ) → k ≡ suc m → c ≤ℤ b → pos (n + 1) ≤ℤ ((c -ℤ a) +ℤ pos 1) → ((b -ℤ a) +ℤ pos 1) <ℤ pos (n + k) → 1 ≤ m
    some a b c n k m e h i j = omega (arith, ints)

    more : (a b : ℤ) (n k m : ℕ) → k ≡ suc m → ((b -ℤ a) +ℤ pos 1) <ℤ pos (n + k) → ((b -ℤ a) +ℤ pos 1) <ℤ pos ((n + 1) + m)
    more a b n k m e h = omega (arith, ints)

overfilled_at : (a b : ℤ) (n : ℕ) (ss : List (ℤ × ℤ)) → AreInOrder ss → IsOverfilled a b n ss → overfills a n ss ≡ true
overfilled_at a b n [] ordered over = absurd (none over.some)
  where
    none : 1 ≤ 0 → ⊥
    none h = omega arith
overfilled_at a b n (s ∷ ss) ordered over = elim (cases_Bool (int_le a s.0)) [
  | inl in_from ↦ cond-true (int_le a s.0) _ _ in_from ∙ elim (cases_Bool (int_le s.1 b)) [
    | inl in_to ↦ elim (cases_Bool (int_lt ((s.1 -ℤ a) +ℤ pos 1) (pos (n + 1)))) [
      | inl here ↦ or_left (int_lt ((s.1 -ℤ a) +ℤ pos 1) (pos (n + 1))) (overfills a (n + 1) ss) here
      | inr few ↦
          or_right (int_lt ((s.1 -ℤ a) +ℤ pos 1) (pos (n + 1))) (overfills a (n + 1) ss)
          (overfilled_at a b (n + 1) ss ordered.1 (later_some a b n s ss (le-from_test a s.0 in_from) (le-from_test s.1 b in_to) (no_less_where ((s.1 -ℤ a) +ℤ pos 1) (pos (n + 1)) few) over))
    ]
    | inr beyond ↦
        let rest = overfilled_rest a b n s ss (passes_over s ss a b (λ h k. not_both s.1 b (lt-from_test s.1 b beyond) k)) over in
        absurd (not_both s.1 b (lt-from_test s.1 b beyond) (ends_before s ss a b ordered.0 rest.some))
  ]
  | inr before ↦
      cond-false (int_le a s.0) _ _ before
      ∙ overfilled_at a b n ss ordered.1 (overfilled_rest a b n s ss (passes_over s ss a b (λ h k. not_both a s.0 (lt-from_test a s.0 before) h)) over)
]

-- a pass from nothing finds whether an interval from a is crowded
pub overfills_from : (a : ℤ) (ss : List (ℤ × ℤ)) → AreInOrder ss → Each IsSpan ss → overfills a 0 ss ≡ is_crowded_from ss a
overfills_from a ss ordered spans = both_ways (overfills a 0 ss) (is_crowded_from ss a)
    (λ e. let r = overfilled_some a 0 ss ordered spans e in crowd_from ss a r.0 spans (record { some = r.1.order; more = from_none ((r.0 -ℤ a) +ℤ pos 1) (count_inside ss a r.0) r.1.more }))
    (λ e. let r = crowd_from_some ss a e in overfilled_at a r.0 0 ss ordered (record {
      some = one_there a r.0 (count_inside ss a r.0) r.1;
      order = r.1.some;
      more = to_none ((r.0 -ℤ a) +ℤ pos 1) (count_inside ss a r.0) r.1.more;
    }))
  where
    from_none : (z : ℤ) (n : ℕ) → z <ℤ pos (0 + n) → z <ℤ pos n
    from_none z n h = omega (arith, ints)

    to_none : (z : ℤ) (n : ℕ) → z <ℤ pos n → z <ℤ pos (0 + n)
    to_none z n h = omega (arith, ints)

-- ---- the pass in code

-- what is left of a pass, one span on: it is passed over, it is one too many, or it is counted
pub overfills_over : (ss : List (ℤ × ℤ)) (i : ℕ) (s : ℤ × ℤ) (a : ℤ) (n : ℕ) → i < length ss → int_le a (get_or ss i s).0 ≡ false → overfills a n (drop i ss) ≡ overfills a n (drop (i + 1) ss)
overfills_over ss i s a n h out = ap (overfills a n) (drop_more ss i s h) ∙ cond-false (int_le a (get_or ss i s).0) _ _ out

pub overfills_here : (ss : List (ℤ × ℤ)) (i : ℕ) (s : ℤ × ℤ) (a : ℤ) (n : ℕ) → i < length ss → int_le a (get_or ss i s).0 ≡ true → int_lt (((get_or ss i s).1 -ℤ a) +ℤ pos 1) (pos (n + 1)) ≡ true → overfills a n (drop i ss) ≡ true
overfills_here ss i s a n h from over =
    ap (overfills a n) (drop_more ss i s h) ∙ cond-true (int_le a (get_or ss i s).0) _ _ from
    ∙ or_left (int_lt (((get_or ss i s).1 -ℤ a) +ℤ pos 1) (pos (n + 1))) (overfills a (n + 1) (drop (i + 1) ss)) over

pub overfills_counted : (ss : List (ℤ × ℤ)) (i : ℕ) (s : ℤ × ℤ) (a : ℤ) (n : ℕ) → i < length ss → int_le a (get_or ss i s).0 ≡ true → int_lt (((get_or ss i s).1 -ℤ a) +ℤ pos 1) (pos (n + 1)) ≡ false → overfills a n (drop i ss) ≡ overfills a (n + 1) (drop (i + 1) ss)
overfills_counted ss i s a n h from few =
    ap (overfills a n) (drop_more ss i s h) ∙ cond-true (int_le a (get_or ss i s).0) _ _ from ∙ ap (λ b. b || overfills a (n + 1) (drop (i + 1) ss)) few

-- nothing is left at the end
pub overfills_none : (ss : List (ℤ × ℤ)) (i : ℕ) (a : ℤ) (n : ℕ) → length ss ≤ i → overfills a n (drop i ss) ≡ false
overfills_none ss i a n h = ap (overfills a n) (drop_all i ss h)

-- a pass from a number that was read
pub overfills_read : (x a : ℤ) (ss : List (ℤ × ℤ)) (t : Bool) → x ≡ a → AreInOrder ss → Each IsSpan ss → overfills x 0 ss ≡ t → t ≡ is_crowded_from ss a
overfills_read x a ss t e ordered spans k = sym k ∙ ap (λ z. overfills z 0 ss) e ∙ overfills_from a ss ordered spans
