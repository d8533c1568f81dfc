-- The gap that is found is the longest.
use Rattle.std.proofs.Common.{◌≡◌, ◌≢◌, ℕ, zero, suc, ◌+◌, ◌-◌, ◌<◌, ◌≤◌, Bool, true, false, ◌||◌, eqb, List, [], ◌∷◌, length, take, drop, get_or, refl, sym, ◌∙◌, ap, arith, inl, inr, ◌⊎◌}
use Rattle.std.proofs.lemmas.List.{length-take-le, length-drop, get_or-take}
use Rattle.std.proofs.lemmas.Bool.{cases_Bool, eqb-true, eqb-false, eq-eqb, or_cases, or_parts, both_ways}
use Rattle.fz_token.specs.Gap.{is_blank, gap_end, IsInComment, IsGap}
use Rattle.fz_token.specs.Next.{EndsGap}
use Rattle.fz_token.proofs.Streams.{gap_end-ge}

-- a byte of a gap that begins in a comment or not
abbrev IsGapByte : Bool → List ℕ → ℕ → Type 0
IsGapByte inside w i = (is_blank (get_or w i 0) ≡ true) ⊎ (IsInComment w i ⊎ ((inside ≡ true) × ((k : ℕ) → k ≤ i → get_or w k 0 ≢ 10)))

-- ---- one byte more in front

later_line : (b : ℕ) (w : List ℕ) (from i : ℕ) → ((k : ℕ) → from ≤ k → k ≤ i → get_or w k 0 ≢ 10) → (k : ℕ) → suc from ≤ k → k ≤ suc i → get_or (b ∷ w) k 0 ≢ 10
later_line b w from i h zero l r = absurd (omega arith)
later_line b w from i h (suc k) l r = h k (omega arith) (omega arith)

later_comment : (b : ℕ) (w : List ℕ) (i : ℕ) → IsInComment w i → IsInComment (b ∷ w) (suc i)
later_comment b w i h = record {
  opens = suc h.opens;
  before = (let l : h.opens ≤ i = h.before in omega arith);
  is_percent = h.is_percent;
  same_line = later_line b w h.opens i h.same_line;
}

longer_line : (b : ℕ) (w : List ℕ) (i : ℕ) → b ≢ 10 → ((k : ℕ) → k ≤ i → get_or w k 0 ≢ 10) → (k : ℕ) → k ≤ suc i → get_or (b ∷ w) k 0 ≢ 10
longer_line b w i n h zero l = n
longer_line b w i n h (suc k) l = h k (omega arith)

opened : (b : ℕ) (w : List ℕ) (i : ℕ) → b ≡ 37 → ((k : ℕ) → k ≤ i → get_or (b ∷ w) k 0 ≢ 10) → IsInComment (b ∷ w) i
opened b w i p h = record { opens = 0; before = omega arith; is_percent = p; same_line = λ k l r. h k r }

first_line : (b : ℕ) (w : List ℕ) → b ≢ 10 → (k : ℕ) → k ≤ 0 → get_or (b ∷ w) k 0 ≢ 10
first_line b w n zero l = n
first_line b w n (suc k) l = absurd (omega arith)

-- a byte in the front that is passed over is one of a gap
after_outside : (inside : Bool) (b : ℕ) (w : List ℕ) (i : ℕ) → IsGapByte false w i → IsGapByte inside (b ∷ w) (suc i)
after_outside inside b w i h = elim h [
  | inl blank ↦ inl blank
  | inr o ↦ elim o [ inl comment ↦ inr (inl (later_comment b w i comment)) | inr never ↦ (let no : false ≡ true = never.0 in cc) ]
]

after_inside : (inside : Bool) (b : ℕ) (w : List ℕ) (i : ℕ) → b ≢ 10 → (inside || eqb b 37) ≡ true → IsGapByte true w i → IsGapByte inside (b ∷ w) (suc i)
after_inside inside b w i n o h = elim h [
  | inl blank ↦ inl blank
  | inr c ↦ elim c [
    | inl comment ↦ inr (inl (later_comment b w i comment))
    | inr line ↦ elim (or_cases inside (eqb b 37) o) [
      | inl was ↦ inr (inr (was, longer_line b w i n line.1))
      | inr percent ↦ inr (inl (opened b w (suc i) (eqb-true b 37 percent) (longer_line b w i n line.1)))
    ]
  ]
]

first_inside : (inside : Bool) (b : ℕ) (w : List ℕ) → b ≢ 10 → (inside || eqb b 37) ≡ true → IsGapByte inside (b ∷ w) 0
first_inside inside b w n o = elim (or_cases inside (eqb b 37) o) [
  | inl was ↦ inr (inr (was, first_line b w n))
  | inr percent ↦ inr (inl (opened b w 0 (eqb-true b 37 percent) (first_line b w n)))
]

feed_blank : (b : ℕ) → eqb b 10 ≡ true → is_blank b ≡ true
feed_blank b h = rw (eqb-true b 10 h) refl

next_place : (at i end : ℕ) → at + suc i < end → at + 1 + i < end
next_place at i end h = omega arith

front_gap : (s : List ℕ) (at : ℕ) (inside : Bool) (i : ℕ) → at + i < gap_end at inside s → IsGapByte inside s i
front_gap [] at inside i h = absurd (omega arith)
front_gap (b ∷ s) at inside zero h = elim (cases_Bool (eqb b 10)) [
  | inl feed ↦ inl (feed_blank b feed)
  | inr n ↦ elim (cases_Bool (inside || eqb b 37)) [
    | inl o ↦ first_inside inside b s (eqb-false b 10 n) o
    | inr p ↦ elim (cases_Bool (is_blank b)) [
      | inl blank ↦ inl blank
      | inr other ↦ (let none : at + 0 < at = rw (other, n, p) at h in absurd (omega arith))
    ]
  ]
]
front_gap (b ∷ s) at inside (suc i) h = elim (cases_Bool (eqb b 10)) [
  | inl feed ↦ (let later : at + suc i < gap_end (at + 1) false s = rw feed at h in
      after_outside inside b s i (front_gap s (at + 1) false i (next_place at i (gap_end (at + 1) false s) later)))
  | inr n ↦ elim (cases_Bool (inside || eqb b 37)) [
    | inl o ↦ (let later : at + suc i < gap_end (at + 1) true s = rw (n, o) at h in
        after_inside inside b s i (eqb-false b 10 n) o (front_gap s (at + 1) true i (next_place at i (gap_end (at + 1) true s) later)))
    | inr p ↦ elim (cases_Bool (is_blank b)) [
      | inl blank ↦ (let later : at + suc i < gap_end (at + 1) false s = rw (blank, n, p) at h in
          after_outside inside b s i (front_gap s (at + 1) false i (next_place at i (gap_end (at + 1) false s) later)))
      | inr other ↦ (let none : at + suc i < at = rw (other, n, p) at h in absurd (omega arith))
    ]
  ]
]

-- ---- one byte less in front

earlier_comment : (b : ℕ) (w : List ℕ) (i opens : ℕ) → opens ≤ suc i → get_or (b ∷ w) opens 0 ≡ 37 → ((k : ℕ) → opens ≤ k → k ≤ suc i → get_or (b ∷ w) k 0 ≢ 10) →
    ((b ≡ 37) × (b ≢ 10) × ((k : ℕ) → k ≤ i → get_or w k 0 ≢ 10)) ⊎ IsInComment w i
earlier_comment b w i zero l p h = inl (p, h 0 (omega arith) (omega arith), λ k r. h (suc k) (omega arith) (omega arith))
earlier_comment b w i (suc o) l p h = inr (record { opens = o; before = omega arith; is_percent = p; same_line = λ k f t. h (suc k) (omega arith) (omega arith) })

split_comment : (b : ℕ) (w : List ℕ) (i : ℕ) → IsInComment (b ∷ w) (suc i) → ((b ≡ 37) × (b ≢ 10) × ((k : ℕ) → k ≤ i → get_or w k 0 ≢ 10)) ⊎ IsInComment w i
split_comment b w i h = earlier_comment b w i h.opens h.before h.is_percent h.same_line

before_outside : (inside : Bool) (b : ℕ) (w : List ℕ) (i : ℕ) → (eqb b 10 ≡ true) ⊎ ((inside || eqb b 37) ≡ false) → IsGapByte inside (b ∷ w) (suc i) → IsGapByte false w i
before_outside inside b w i out h = elim h [
  | inl blank ↦ inl blank
  | inr c ↦ elim c [
    | inl comment ↦ elim (split_comment b w i comment) [
      | inl opens ↦ elim out [
        | inl feed ↦ absurd (opens.1 (eqb-true b 10 feed))
        | inr p ↦ absurd (both_ways (eqb b 37) (or_parts inside (eqb b 37) p).1 (eq-eqb b 37 opens.0))
      ]
      | inr later ↦ inr (inl later)
    ]
    | inr line ↦ elim out [
      | inl feed ↦ absurd (line.1 0 (omega arith) (eqb-true b 10 feed))
      | inr p ↦ absurd (both_ways inside (or_parts inside (eqb b 37) p).0 line.0)
    ]
  ]
]

before_inside : (inside : Bool) (b : ℕ) (w : List ℕ) (i : ℕ) → IsGapByte inside (b ∷ w) (suc i) → IsGapByte true w i
before_inside inside b w i h = elim h [
  | inl blank ↦ inl blank
  | inr c ↦ elim c [
    | inl comment ↦ elim (split_comment b w i comment) [ inl opens ↦ inr (inr (refl, opens.2)) | inr later ↦ inr (inl later) ]
    | inr line ↦ inr (inr (refl, λ k l. line.1 (suc k) (omega arith)))
  ]
]

opens_here : (b : ℕ) (w : List ℕ) (opens : ℕ) → opens ≤ 0 → get_or (b ∷ w) opens 0 ≡ 37 → eqb b 37 ≡ false → ⊥
opens_here b w zero l p n = both_ways (eqb b 37) n (eq-eqb b 37 p)
opens_here b w (suc o) l p n = omega arith

-- a byte that is not passed over is none of a gap
no_gap_byte : (inside : Bool) (b : ℕ) (w : List ℕ) → (inside || eqb b 37) ≡ false → is_blank b ≡ false → IsGapByte inside (b ∷ w) 0 → ⊥
no_gap_byte inside b w p other h = elim h [
  | inl blank ↦ both_ways (is_blank b) other blank
  | inr c ↦ elim c [
    | inl comment ↦ opens_here b w comment.opens comment.before comment.is_percent (or_parts inside (eqb b 37) p).1
    | inr line ↦ both_ways inside (or_parts inside (eqb b 37) p).0 line.0
  ]
]

longest_gap : (s : List ℕ) (at : ℕ) (inside : Bool) (n : ℕ) → n ≤ length s → ((i : ℕ) → i < n → IsGapByte inside s i) → at + n ≤ gap_end at inside s
longest_gap s at inside zero l h = omega (arith, gap_end-ge s at inside)
longest_gap [] at inside (suc n) l h = absurd (omega arith)
longest_gap (b ∷ s) at inside (suc n) l h = elim (cases_Bool (eqb b 10)) [
  | inl feed ↦ (let later : at + 1 + n ≤ gap_end (at + 1) false s = longest_gap s (at + 1) false n (omega arith) (λ i r. before_outside inside b s i (inl feed) (h (suc i) (omega arith))) in
      rw feed (omega arith))
  | inr f ↦ elim (cases_Bool (inside || eqb b 37)) [
    | inl o ↦ (let later : at + 1 + n ≤ gap_end (at + 1) true s = longest_gap s (at + 1) true n (omega arith) (λ i r. before_inside inside b s i (h (suc i) (omega arith))) in
        rw (f, o) (omega arith))
    | inr p ↦ elim (cases_Bool (is_blank b)) [
      | inl blank ↦ (let later : at + 1 + n ≤ gap_end (at + 1) false s = longest_gap s (at + 1) false n (omega arith) (λ i r. before_outside inside b s i (inr p) (h (suc i) (omega arith))) in
          rw (blank, f, p) (omega arith))
      | inr other ↦ absurd (no_gap_byte inside b s p other (h 0 (omega arith)))
    ]
  ]
]

gap_end-le : (s : List ℕ) (at : ℕ) (inside : Bool) → gap_end at inside s ≤ at + length s
gap_end-le [] at inside = omega arith
gap_end-le (b ∷ rest) at inside = grind (arith, gap_end-le rest (at + 1) false, gap_end-le rest (at + 1) true)

-- ---- fronts as lists of their own

comment_taken : (s : List ℕ) (n i : ℕ) → i < n → IsInComment s i → IsInComment (take n s) i
comment_taken s n i l h = let b : h.opens ≤ i = h.before in record {
  opens = h.opens;
  before = h.before;
  is_percent = get_or-take n s h.opens 0 (omega arith) ∙ h.is_percent;
  same_line = λ k f t e. h.same_line k f t (sym (get_or-take n s k 0 (omega arith)) ∙ e);
}

comment_whole : (s : List ℕ) (n i : ℕ) → i < n → IsInComment (take n s) i → IsInComment s i
comment_whole s n i l h = let b : h.opens ≤ i = h.before in record {
  opens = h.opens;
  before = h.before;
  is_percent = sym (get_or-take n s h.opens 0 (omega arith)) ∙ h.is_percent;
  same_line = λ k f t e. h.same_line k f t (get_or-take n s k 0 (omega arith) ∙ e);
}

gap_taken : (s : List ℕ) (n : ℕ) → n ≤ length s → ((i : ℕ) → i < n → IsGapByte false s i) → IsGap (take n s)
gap_taken s n within h i l =
    let size : length (take n s) ≡ n = length-take-le n s within in
    let lt : i < n = omega arith in
    elim (h i lt) [
      | inl blank ↦ inl (ap is_blank (get_or-take n s i 0 lt) ∙ blank)
      | inr o ↦ elim o [ inl comment ↦ inr (comment_taken s n i lt comment) | inr never ↦ (let no : false ≡ true = never.0 in cc) ]
    ]

gap_whole : (s : List ℕ) (n : ℕ) → n ≤ length s → IsGap (take n s) → (i : ℕ) → i < n → IsGapByte false s i
gap_whole s n within h i lt =
    let size : length (take n s) ≡ n = length-take-le n s within in
    elim (h i (omega arith)) [
      | inl blank ↦ inl (ap is_blank (sym (get_or-take n s i 0 lt)) ∙ blank)
      | inr comment ↦ inr (inl (comment_whole s n i lt comment))
    ]

-- the place that is found ends the longest gap
pub ends_gap : (text : List ℕ) (at : ℕ) → at ≤ length text → EndsGap text at (gap_end at false (drop at text))
ends_gap text at h =
    let s = drop at text in
    let end = gap_end at false s in
    let size : length s ≡ length text - at = length-drop at text in
    let low : at ≤ end = gap_end-ge s at false in
    let high : end ≤ at + length s = gap_end-le s at false in
    record {
      order = low;
      within = omega arith;
      is_gap = gap_taken s (end - at) (omega arith) (λ i l. front_gap s at false i (omega arith));
      longest = λ n bound g. longest_gap s at false n (omega arith) (gap_whole s n (omega arith) g);
    }
