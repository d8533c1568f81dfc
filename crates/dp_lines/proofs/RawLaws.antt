-- The first raw line of a text.
use Rattle.std.proofs.Common.{◌≡◌, ℕ, zero, suc, ◌+◌, ◌<◌, ◌≤◌, Bool, true, false, cond, not, ◌&&◌, ◌||◌, eqb, List, [], ◌∷◌, ◌++◌, length, length-append, take, drop, refl, sym, ap, ◌∙◌, arith, inl, inr, length-take-le}
use Rattle.std.specs.List.{prefix_len}
use Rattle.std.proofs.lemmas.Bool.{cases_Bool, cases_lt}
use Rattle.std.proofs.lemmas.List.{append-nil, drop_all, drop-append-le, take-append-le}
use Rattle.dp_lines.specs.Kept.{IsFirst, begins_whole, has_no_feed, is_no_feed}
use Rattle.dp_lines.specs.RawLines.{Raw, raw_lines, size, with_byte}

pub both : (a b : Bool) → (a && b) ≡ true → (a ≡ true) × (b ≡ true)
both true b e = (refl, e)
both false b e = absurd cc

-- a front whose bytes all pass
pub prefix_behind : (k : ℕ) (s : List ℕ) → k ≤ length s → has_no_feed (take k s) ≡ true → prefix_len is_no_feed s ≡ k + prefix_len is_no_feed (drop k s)
prefix_behind zero s le h = omega arith
prefix_behind (suc k) [] le h = absurd (omega arith)
prefix_behind (suc k) (b ∷ s) le h =
    let p = both (is_no_feed b) (has_no_feed (take k s)) h in
    let more = prefix_behind k s (omega arith) p.1 in
    let one : prefix_len is_no_feed (b ∷ s) ≡ 1 + prefix_len is_no_feed s = ap (λ (c : Bool). cond c (1 + prefix_len is_no_feed s) 0) p.0 in
    omega (arith, one, more)

-- all bytes pass where the front of those that do is the whole
pub prefix_whole : (s : List ℕ) → length s ≤ prefix_len is_no_feed s → has_no_feed s ≡ true
prefix_whole [] le = refl
prefix_whole (b ∷ s) le =
    elim (cases_Bool (is_no_feed b)) [
      | inl is ↦
          let one : prefix_len is_no_feed (b ∷ s) ≡ 1 + prefix_len is_no_feed s = ap (λ (c : Bool). cond c (1 + prefix_len is_no_feed s) 0) is in
          let rest = prefix_whole s (omega (arith, one)) in
          rw (is, rest) refl
      | inr isnt ↦
          let none : prefix_len is_no_feed (b ∷ s) ≡ 0 = ap (λ (c : Bool). cond c (1 + prefix_len is_no_feed s) 0) isnt in
          absurd (omega (arith, none))
    ]

abbrev cut_at_feed : ℕ → List ℕ → List Raw
cut_at_feed n s = record { bytes = take n s; fed = true } ∷ raw_lines (drop (n + 1) s)

pub feed_step : (b : ℕ) (s : List ℕ) (c : Bool) → not (eqb b 10) ≡ c → raw_lines (b ∷ s) ≡ cond c (with_byte b (raw_lines s)) (record { bytes = []; fed = true } ∷ raw_lines s)
feed_step b s c e =
    elim (cases_Bool (eqb b 10)) [
      | inl is ↦ let f : false ≡ c = ap not (sym is) ∙ e in rw (is, ← f) refl
      | inr isnt ↦ let f : true ≡ c = ap not (sym isnt) ∙ e in rw (isnt, ← f) refl
    ]

pub raw_fed : (s : List ℕ) → prefix_len is_no_feed s < length s → raw_lines s ≡ cut_at_feed (prefix_len is_no_feed s) s
raw_fed [] lt = absurd (omega arith)
raw_fed (b ∷ s) lt =
    elim (cases_Bool (is_no_feed b)) [
      | inl is ↦
          let one : prefix_len is_no_feed (b ∷ s) ≡ suc (prefix_len is_no_feed s) = ap (λ (c : Bool). cond c (1 + prefix_len is_no_feed s) 0) is ∙ omega arith in
          let more = raw_fed s (omega (arith, one)) in
          let e : suc (prefix_len is_no_feed s) + 1 ≡ suc (prefix_len is_no_feed s + 1) = omega arith in
          feed_step b s true is ∙ ap (λ (rs : List Raw). with_byte b rs) more ∙ sym (rw (one, e) refl)
      | inr isnt ↦
          let none : prefix_len is_no_feed (b ∷ s) ≡ 0 = ap (λ (c : Bool). cond c (1 + prefix_len is_no_feed s) 0) isnt in
          feed_step b s false isnt ∙ sym (rw none refl)
    ]

pub raw_unfed : (s : List ℕ) → has_no_feed s ≡ true → 0 < length s → raw_lines s ≡ record { bytes = s; fed = false } ∷ []
raw_unfed [] h some = absurd (omega arith)
raw_unfed (b ∷ []) h some = feed_step b [] true (both (is_no_feed b) true h).0
raw_unfed (b ∷ (d ∷ s)) h some =
    let p = both (is_no_feed b) (has_no_feed (d ∷ s)) h in
    feed_step b (d ∷ s) true p.0 ∙ ap (λ (rs : List Raw). with_byte b rs) (raw_unfed (d ∷ s) p.1 (omega arith))

pub fed_size : (s : List ℕ) (n : ℕ) → n < length s → size (record { bytes = take n s; fed = true }) ≡ n + 1
fed_size s n lt = let whole : n ≤ length s = omega arith in ap (λ (k : ℕ). k + 1) (length-take-le n s whole)

-- what is held begins with a whole line that a line feed ends
pub first_fed : (ended : Bool) (s : List ℕ) (n : ℕ) → n ≡ prefix_len is_no_feed s → n < length s → IsFirst ended s (record { bytes = take n s; fed = true })
first_fed ended s n e lt =
    let z = fed_size s n lt in
    let front : prefix_len is_no_feed s < length s = omega (arith, e) in
    let cut : raw_lines s ≡ cut_at_feed n s = rw e (raw_fed s front) in
    record {
      cut = cut ∙ ap (λ (k : ℕ). record { bytes = take n s; fed = true } ∷ raw_lines (drop k s)) (sym z);
      whole = refl;
      some = omega (arith, z);
      within = omega (arith, z);
    }

-- it is one line that the text's end ends
pub first_unfed : (s : List ℕ) → length s ≤ prefix_len is_no_feed s → 0 < length s → IsFirst true s (record { bytes = s; fed = false })
first_unfed s le some =
    let h = prefix_whole s le in
    let none : drop (length s) s ≡ [] = drop_all (length s) s (omega arith) in
    record {
      cut = raw_unfed s h some ∙ ap (λ (rest : List ℕ). record { bytes = s; fed = false } ∷ raw_lines rest) (sym none);
      whole = refl;
      some = some;
      within = omega arith;
    }

-- it has no whole line
pub begins_unfed : (s : List ℕ) → length s ≤ prefix_len is_no_feed s → begins_whole false (raw_lines s) ≡ false
begins_unfed [] le = refl
begins_unfed (b ∷ s) le = ap (λ (raws : List Raw). begins_whole false raws) (raw_unfed (b ∷ s) (prefix_whole (b ∷ s) le) (omega arith))

pub begins_empty : (ended : Bool) (s : List ℕ) → length s ≤ 0 → begins_whole ended (raw_lines s) ≡ false
begins_empty ended [] le = refl
begins_empty ended (b ∷ s) le = absurd (omega arith)

-- what follows a first raw line that is whole, and the same where more bytes stand behind
pub record IsCut (t more : List ℕ) (raw : Raw) (raws : List Raw) : Type 0 where
  pub behind : raws ≡ raw_lines (drop (size raw) t)
  pub again : raw_lines (t ++ more) ≡ raw ∷ raw_lines (drop (size raw) t ++ more)

prefix_append : (t more : List ℕ) → prefix_len is_no_feed t < length t → prefix_len is_no_feed (t ++ more) ≡ prefix_len is_no_feed t
prefix_append [] more lt = absurd (omega arith)
prefix_append (b ∷ t) more lt =
    elim (cases_Bool (is_no_feed b)) [
      | inl is ↦
          let one : prefix_len is_no_feed (b ∷ t) ≡ 1 + prefix_len is_no_feed t = ap (λ (c : Bool). cond c (1 + prefix_len is_no_feed t) 0) is in
          let later = prefix_append t more (omega (arith, one)) in
          ap (λ (c : Bool). cond c (1 + prefix_len is_no_feed (t ++ more)) 0) is ∙ ap (λ (k : ℕ). 1 + k) later ∙ sym one
      | inr isnt ↦ ap (λ (c : Bool). cond c (1 + prefix_len is_no_feed (t ++ more)) 0) isnt ∙ sym (ap (λ (c : Bool). cond c (1 + prefix_len is_no_feed t) 0) isnt)
    ]

again_fed : (t more : List ℕ) → prefix_len is_no_feed t < length t →
    raw_lines (t ++ more) ≡ record { bytes = take (prefix_len is_no_feed t) t; fed = true } ∷ raw_lines (drop (prefix_len is_no_feed t + 1) t ++ more)
again_fed t more lt =
    let same = prefix_append t more lt in
    let n : ℕ = prefix_len is_no_feed t in
    let total : prefix_len is_no_feed (t ++ more) < length (t ++ more) = omega (arith, same, length-append t more) in
    let le : n ≤ length t = omega arith in
    let whole : n + 1 ≤ length t = omega arith in
    raw_fed (t ++ more) total ∙ ap (λ (k : ℕ). cut_at_feed k (t ++ more)) same
    ∙ rw (take-append-le n t more le, drop-append-le (n + 1) t more whole) refl

abbrev head_of : Raw → List Raw → Raw
head_of d [] = d
head_of d (raw ∷ raws) = raw

-- by the first line feed
cut_by : (t more : List ℕ) (raw : Raw) (raws : List Raw) → prefix_len is_no_feed t < length t → raw_lines t ≡ raw ∷ raws → IsCut t more raw raws
cut_by t more raw raws lt e =
    let n : ℕ = prefix_len is_no_feed t in
    let both_ways : raw ∷ raws ≡ cut_at_feed n t = sym e ∙ raw_fed t lt in
    let head : raw ≡ record { bytes = take n t; fed = true } = ap (head_of raw) both_ways in
    let tail : raws ≡ raw_lines (drop (n + 1) t) = ap (λ (rs : List Raw). drop 1 rs) both_ways in
    let z : size raw ≡ n + 1 = ap size head ∙ fed_size t n lt in
    record {
      behind = tail ∙ ap (λ (k : ℕ). raw_lines (drop k t)) (sym z);
      again = again_fed t more lt ∙ ap (λ (r : Raw). r ∷ raw_lines (drop (n + 1) t ++ more)) (sym head) ∙ ap (λ (k : ℕ). raw ∷ raw_lines (drop k t ++ more)) (sym z);
    }

-- by the text's end
cut_at_end : (t more : List ℕ) (raw : Raw) (raws : List Raw) → length t ≤ prefix_len is_no_feed t → raw_lines t ≡ raw ∷ raws → more ≡ [] → IsCut t more raw raws
cut_at_end [] more raw raws le e none = absurd cc
cut_at_end (b ∷ t) more raw raws le e none =
    let s : List ℕ = b ∷ t in
    let both_ways : raw ∷ raws ≡ record { bytes = s; fed = false } ∷ [] = sym e ∙ raw_unfed s (prefix_whole s le) (omega arith) in
    let head : raw ≡ record { bytes = s; fed = false } = ap (head_of raw) both_ways in
    let tail : raws ≡ [] = ap (λ (rs : List Raw). drop 1 rs) both_ways in
    let z : size raw ≡ length s = ap size head in
    let nothing : drop (size raw) s ≡ [] = drop_all (size raw) s (omega (arith, z)) in
    let alone : raw_lines (s ++ more) ≡ raw ∷ raws = ap (λ (m : List ℕ). raw_lines (s ++ m)) none ∙ ap raw_lines (append-nil s) ∙ e in
    record {
      behind = tail ∙ ap raw_lines (sym nothing);
      again = alone ∙ ap (λ (rs : List Raw). raw ∷ rs) tail ∙ sym (ap (λ (m : List ℕ). raw ∷ raw_lines (drop (size raw) s ++ m)) none ∙ ap (λ (m : List ℕ). raw ∷ raw_lines (m ++ [])) nothing);
    }

unfed_first : (t : List ℕ) (raw : Raw) (raws : List Raw) → length t ≤ prefix_len is_no_feed t → raw_lines t ≡ raw ∷ raws → raw.fed ≡ false
unfed_first [] raw raws le e = absurd cc
unfed_first (b ∷ t) raw raws le e =
    let both_ways : raw ∷ raws ≡ record { bytes = b ∷ t; fed = false } ∷ [] = sym e ∙ raw_unfed (b ∷ t) (prefix_whole (b ∷ t) le) (omega arith) in
    ap (λ (r : Raw). r.fed) (ap (head_of raw) both_ways)

pub cut_is : (t more : List ℕ) (raw : Raw) (raws : List Raw) (ended : Bool) → raw_lines t ≡ raw ∷ raws → (raw.fed || ended) ≡ true → (ended ≡ true → more ≡ []) → IsCut t more raw raws
cut_is t more raw raws ended e whole none =
    elim (cases_lt (prefix_len is_no_feed t) (length t)) [
      | inl lt ↦ cut_by t more raw raws lt e
      | inr le ↦
          let unfed = unfed_first t raw raws le e in
          let over : ended ≡ true = sym (ap (λ (f : Bool). f || ended) unfed) ∙ whole in
          cut_at_end t more raw raws le e (none over)
    ]

-- where no line is whole, no byte is a line feed
pub no_whole_unfed : (ended : Bool) (t : List ℕ) → begins_whole ended (raw_lines t) ≡ false → has_no_feed t ≡ true
no_whole_unfed ended t e =
    elim (cases_lt (prefix_len is_no_feed t) (length t)) [
      | inl lt ↦ let w : true ≡ false = sym (ap (begins_whole ended) (raw_fed t lt)) ∙ e in absurd cc
      | inr le ↦ prefix_whole t le
    ]
