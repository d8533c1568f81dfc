-- The first word of a line from a place on.
use Rattle.std.proofs.Common.{◌≡◌, ◌≢◌, eq-eqb, ℕ, zero, suc, ◌+◌, ◌-◌, ◌<◌, ◌≤◌, Bool, true, false, cond, not, eqb, get_or, List, [], ◌∷◌, length, take, drop, refl, sym, ap, ◌∙◌, arith, inl, inr}
use Rattle.std.specs.List.{prefix_len}
use Rattle.std.proofs.lemmas.Bool.{cases_Bool, eqb-false, eqb-true, ne_eqb}
use Rattle.std.proofs.lemmas.List.{drop-drop, get_or-drop, length-drop}
use Rattle.std.proofs.lemmas.List.Sums.{prefix_len_stops}
use Rattle.dp_base.specs.Names.{is_first, is_later}
use Rattle.dp_lines.specs.Parts.{is_done}
use Rattle.dp_lines.specs.Words.{Word, begins_comparison, begins_negative, end_of, field_len, front_word, is_blank, is_decimal, is_inside_behind, opens, token_len, word_len, words_at, words_from}

-- the bytes of the word before say nothing
pub words_behind : (inside : Bool) (at k : ℕ) (s : List ℕ) → words_from inside at k s ≡ words_from inside (at + k) 0 (drop k s)
unfolding words_from
words_behind inside at zero s = let e : at + 0 ≡ at = omega arith in rw e refl
words_behind inside at (suc k) [] = refl
words_behind inside at (suc k) (b ∷ s) =
    let e : at + 1 + k ≡ at + suc k = omega arith in
    words_behind inside (at + 1) k s ∙ ap (λ (n : ℕ). words_from inside n 0 (drop k s)) e

abbrev pub word_step : Bool → ℕ → ℕ → List ℕ → Bool → List Word
word_step inside at b s blank =
    cond blank (words_from inside (at + 1) 0 s)
    (record { at = at; text = take (word_len inside (b ∷ s)) (b ∷ s) } ∷ words_from (is_inside_behind inside b) (at + 1) (word_len inside (b ∷ s) - 1) s)

pub word_stepped : (inside : Bool) (at b : ℕ) (s : List ℕ) (blank : Bool) → is_blank b ≡ blank → words_from inside at 0 (b ∷ s) ≡ word_step inside at b s blank
unfolding words_from
word_stepped inside at b s blank e = ap (λ (c : Bool). word_step inside at b s c) e

pub no_words : (inside : Bool) (at k : ℕ) → words_from inside at k [] ≡ []
unfolding words_from
no_words inside at k = refl

pub word_taken : (inside : Bool) (at k b : ℕ) (s : List ℕ) → words_from inside at (suc k) (b ∷ s) ≡ words_from inside (at + 1) k s
unfolding words_from
word_taken inside at k b s = refl

one_blank : (b : ℕ) (s : List ℕ) → is_blank b ≡ true → prefix_len is_blank (b ∷ s) ≡ suc (prefix_len is_blank s)
one_blank b s is = ap (λ (c : Bool). cond c (1 + prefix_len is_blank s) 0) is ∙ omega arith

no_blank : (b : ℕ) (s : List ℕ) → is_blank b ≡ false → prefix_len is_blank (b ∷ s) ≡ 0
no_blank b s isnt = ap (λ (c : Bool). cond c (1 + prefix_len is_blank s) 0) isnt

-- blanks say nothing
pub words_behind_blanks : (inside : Bool) (at : ℕ) (s : List ℕ) → words_from inside at 0 s ≡ words_from inside (at + prefix_len is_blank s) 0 (drop (prefix_len is_blank s) s)
words_behind_blanks inside at [] = let e : at + 0 ≡ at = omega arith in sym (ap (λ (n : ℕ). words_from inside n 0 []) e)
words_behind_blanks inside at (b ∷ s) =
    elim (cases_Bool (is_blank b)) [
      | inl is ↦
          let one = one_blank b s is in
          let e : at + 1 + prefix_len is_blank s ≡ at + suc (prefix_len is_blank s) = omega arith in
          word_stepped inside at b s true is ∙ words_behind_blanks inside (at + 1) s
          ∙ ap (λ (n : ℕ). words_from inside n 0 (drop (prefix_len is_blank s) s)) e ∙ sym (rw one refl)
      | inr isnt ↦
          let none = no_blank b s isnt in
          let e : at + 0 ≡ at = omega arith in
          sym (rw (none, e) refl)
    ]

passing : (p : ℕ → Bool) (b : ℕ) (s : List ℕ) → p b ≡ true → 1 ≤ prefix_len p (b ∷ s)
passing p b s h = let one : prefix_len p (b ∷ s) ≡ 1 + prefix_len p s = ap (λ (c : Bool). cond c (1 + prefix_len p s) 0) h in omega (arith, one)

token_pick : (a b c d : Bool) (p q r : ℕ) → (a ≡ true → 1 ≤ p) → (b ≡ true → 1 ≤ q) → 1 ≤ cond a p (cond b q (cond c (1 + r) (cond d 2 1)))
token_pick true b c d p q r hp hq = hp refl
token_pick false true c d p q r hp hq = hq refl
token_pick false false true d p q r hp hq = omega arith
token_pick false false false true p q r hp hq = omega arith
token_pick false false false false p q r hp hq = omega arith

token_some : (b : ℕ) (s : List ℕ) → 1 ≤ token_len (b ∷ s)
token_some b s =
    token_pick (is_first b) (is_decimal b) (begins_negative (b ∷ s)) (begins_comparison (b ∷ s)) (prefix_len is_later (b ∷ s)) (prefix_len is_decimal (b ∷ s)) (prefix_len is_decimal s)
    (λ h. passing is_later b s (rw h refl)) (λ h. passing is_decimal b s h)

field_some : (b : ℕ) (s : List ℕ) → is_blank b ≡ false → 1 ≤ field_len (b ∷ s)
field_some b s h =
    elim (cases_Bool (opens b)) [
      | inl is ↦ rw is (omega arith)
      | inr isnt ↦ rw isnt (passing (λ c. not (is_blank c)) b s (ap not h))
    ]

pub word_some : (inside : Bool) (b : ℕ) (s : List ℕ) → is_blank b ≡ false → 1 ≤ word_len inside (b ∷ s)
word_some true b s h = token_some b s
word_some false b s h = field_some b s h

-- a word at the front
abbrev pub led : Bool → ℕ → List ℕ → List Word
led inside at w =
    record { at = at; text = take (word_len inside w) w } ∷ words_from (is_inside_behind inside (get_or w 0 0)) (at + word_len inside w) 0 (drop (word_len inside w) w)

pub word_front : (inside : Bool) (at b : ℕ) (s : List ℕ) → is_blank b ≡ false → words_from inside at 0 (b ∷ s) ≡ led inside at (b ∷ s)
word_front inside at b s h =
    let some = word_some inside b s h in
    let n = word_len inside (b ∷ s) in
    let e : n ≡ suc (n - 1) = omega arith in
    let z : at + 1 + (n - 1) ≡ at + n = omega arith in
    let rest : List Word = words_from (is_inside_behind inside b) (at + n) 0 (drop n (b ∷ s)) in
    let same : drop (n - 1) s ≡ drop n (b ∷ s) = sym (ap (λ (k : ℕ). drop k (b ∷ s)) e) in
    word_stepped inside at b s false h
    ∙ ap (λ (ws : List Word). record { at = at; text = take n (b ∷ s) } ∷ ws)
    (words_behind (is_inside_behind inside b) (at + 1) (n - 1) s
    ∙ ap (λ (k : ℕ). words_from (is_inside_behind inside b) k 0 (drop (n - 1) s)) z
    ∙ ap (λ (t : List ℕ). words_from (is_inside_behind inside b) (at + n) 0 t) same)

front_led : (inside : Bool) (at : ℕ) (w : List ℕ) → 0 < length w → is_blank (get_or w 0 0) ≡ false → words_from inside at 0 w ≡ led inside at w
front_led inside at [] some h = absurd (omega arith)
front_led inside at (b ∷ s) some h = word_front inside at b s h

empty : (s : List ℕ) → length s < 1 → s ≡ []
empty [] lt = refl
empty (b ∷ s) lt = absurd (omega arith)

-- behind the blanks at a place stands nothing
pub span_empty : (inside : Bool) (at n : ℕ) (s : List ℕ) → n ≡ prefix_len is_blank s → length (drop n s) < 1 → words_from inside at 0 s ≡ []
span_empty inside at n s e lt =
    let none : drop n s ≡ [] = empty (drop n s) lt in
    words_behind_blanks inside at s ∙ rw (← e, none) (no_words inside (at + n) 0)

-- or a word
pub span_word : (inside : Bool) (at n : ℕ) (s w : List ℕ) → n ≡ prefix_len is_blank s → w ≡ drop n s → 1 ≤ length w → words_from inside at 0 s ≡ led inside (at + n) w
span_word inside at n s w e f some =
    let z : n < length s = omega (arith, length-drop n s, ap (λ (t : List ℕ). length t) f) in
    let y : prefix_len is_blank s < length s = omega (arith, e) in
    let stops : is_blank (get_or s (prefix_len is_blank s) 0) ≡ false = prefix_len_stops is_blank s 0 y in
    let zero_more : n + 0 ≡ n = omega arith in
    let first : get_or w 0 0 ≡ get_or s (prefix_len is_blank s) 0 = rw f (get_or-drop n s 0 0 ∙ ap (λ (k : ℕ). get_or s k 0) (zero_more ∙ e)) in
    words_behind_blanks inside at s ∙ rw (← e, ← f) (front_led inside (at + n) w (omega arith) (ap is_blank first ∙ stops))

take_nothing : (k : ℕ) → take k (let none : List ℕ = [] in none) ≡ []
take_nothing zero = refl
take_nothing (suc k) = refl

-- a span at the line's end has no words
pub words_at_end : (start end : ℕ) (inside : Bool) (line : List ℕ) → eqb start (length line) ≡ true → words_at start end inside line ≡ []
words_at_end start end inside line is = rw is refl

-- one before it begins with its own word
pub words_at_word : (start end : ℕ) (inside : Bool) (line : List ℕ) → eqb start (length line) ≡ false →
    words_at start end inside line ≡ record { at = start + 1; text = take (end - start) (drop start line) } ∷ words_from inside (end + 1) 0 (drop end line)
words_at_word start end inside line isnt = rw isnt refl

pub front_place : (start end : ℕ) (inside : Bool) (line : List ℕ) → (front_word (end_of line) (words_at start end inside line)).at ≡ start + 1
front_place start end inside line =
    elim (cases_Bool (eqb start (length line))) [
      | inl is ↦ ap (λ (ws : List Word). (front_word (end_of line) ws).at) (words_at_end start end inside line is) ∙ ap (λ (k : ℕ). k + 1) (sym (eqb-true start (length line) is))
      | inr isnt ↦ ap (λ (ws : List Word). (front_word (end_of line) ws).at) (words_at_word start end inside line isnt)
    ]

-- behind the end stands nothing
behind_end : (at : ℕ) (line : List ℕ) → length line ≤ at → drop at line ≡ []
behind_end at line h = empty (drop at line) (omega (arith, length-drop at line))

pub front_text : (start end : ℕ) (inside : Bool) (line : List ℕ) → (front_word (end_of line) (words_at start end inside line)).text ≡ take (end - start) (drop start line)
front_text start end inside line =
    elim (cases_Bool (eqb start (length line))) [
      | inl is ↦
          let same : start ≡ length line = eqb-true start (length line) is in
          ap (λ (ws : List Word). (front_word (end_of line) ws).text) (words_at_end start end inside line is)
          ∙ sym (ap (λ (t : List ℕ). take (end - start) t) (behind_end start line (omega (arith, same))) ∙ take_nothing (end - start))
      | inr isnt ↦ ap (λ (ws : List Word). (front_word (end_of line) ws).text) (words_at_word start end inside line isnt)
    ]

-- behind the front word stand the words from the span's end on
pub front_rest : (start end : ℕ) (inside : Bool) (line : List ℕ) → start ≤ end → drop 1 (words_at start end inside line) ≡ words_from inside (end + 1) 0 (drop end line)
front_rest start end inside line order =
    elim (cases_Bool (eqb start (length line))) [
      | inl is ↦
          let same : start ≡ length line = eqb-true start (length line) is in
          ap (λ (ws : List Word). drop 1 ws) (words_at_end start end inside line is)
          ∙ sym (ap (λ (t : List ℕ). words_from inside (end + 1) 0 t) (behind_end end line (omega (arith, same, order))) ∙ no_words inside (end + 1) 0)
      | inr isnt ↦ ap (λ (ws : List Word). drop 1 ws) (words_at_word start end inside line isnt)
    ]

-- whether none is left
pub front_done : (start end : ℕ) (inside : Bool) (line : List ℕ) → eqb start (length line) ≡ is_done (words_at start end inside line)
front_done start end inside line =
    elim (cases_Bool (eqb start (length line))) [
      | inl is ↦ is ∙ sym (ap is_done (words_at_end start end inside line is))
      | inr isnt ↦ isnt ∙ sym (ap is_done (words_at_word start end inside line isnt))
    ]

pub empty_span : (inside : Bool) (at n : ℕ) (line r w : List ℕ) → r ≡ drop at line → n ≡ prefix_len is_blank r → w ≡ drop n r → length w < 1 → n ≤ length r → at ≤ length line →
    words_from inside (at + 1) 0 (drop at line) ≡ words_at (at + n) (at + n) inside line
empty_span inside at n line r w er en ew lt within order =
    let le : length r ≤ n = omega (arith, length-drop n r, ap (λ (t : List ℕ). length t) ew) in
    let total : at + n ≡ length line = omega (arith, length-drop at line, ap (λ (t : List ℕ). length t) er) in
    let short : length (drop n r) < 1 = omega (arith, length-drop n r) in
    let none : words_from inside (at + 1) 0 (drop at line) ≡ [] = rw (← er) (span_empty inside (at + 1) n r en short) in
    none ∙ sym (words_at_end (at + n) (at + n) inside line (eq-eqb (at + n) (length line) total))

pub word_span : (inside : Bool) (at n len : ℕ) (behind : Bool) (line r w : List ℕ) → r ≡ drop at line → n ≡ prefix_len is_blank r → w ≡ drop n r → 1 ≤ length w →
    len ≡ word_len inside w → behind ≡ is_inside_behind inside (get_or w 0 0) → words_from inside (at + 1) 0 (drop at line) ≡ words_at (at + n) (at + n + len) behind line
word_span inside at n len behind line r w er en ew some el eb =
    let whole : w ≡ drop (at + n) line = ew ∙ ap (λ (t : List ℕ). drop n t) er ∙ drop-drop n at line in
    let z : at + n + len - (at + n) ≡ len = omega arith in
    let y : at + 1 + n ≡ at + n + 1 = omega arith in
    let x : at + 1 + n + len ≡ at + n + len + 1 = omega arith in
    let found : words_from inside (at + 1) 0 (drop at line) ≡ led inside (at + 1 + n) w = rw (← er) (span_word inside (at + 1) n r w en ew some) in
    let after : drop len w ≡ drop (at + n + len) line = ap (λ (t : List ℕ). drop len t) whole ∙ drop-drop len (at + n) line in
    let ne : at + n ≢ length line = λ same. absurd (omega (arith, length-drop (at + n) line, ap (λ (t : List ℕ). length t) whole)) in
    found
    ∙ rw (← el, ← eb, x, y, after)
    (sym (words_at_word (at + n) (at + n + len) behind line (ne_eqb (at + n) (length line) ne) ∙ rw (z, ← whole) refl))
