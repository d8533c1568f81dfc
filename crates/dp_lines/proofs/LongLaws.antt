-- A line with more bytes than a line may have: of its bytes only their number matters.
use Rattle.std.proofs.Common.{◌≡◌, ℕ, ◌+◌, ◌<◌, ◌≤◌, Bool, true, false, cond, ◌||◌, List, [], ◌∷◌, ◌++◌, length, length-append, drop, nat_lt, filter, refl, sym, ap, ◌∙◌, arith, inl, inr}
use Rattle.std.proofs.lemmas.Bool.{cases_lt}
use Rattle.std.proofs.lemmas.Bool.Decides.{nat_tests}
use Rattle.dp_lines.specs.Kept.{has_no_feed, is_no_feed}
use Rattle.dp_lines.specs.Lines.{judged, judged_content, led_by, lines_behind, refused}
use Rattle.dp_lines.specs.Overlong.{over}
use Rattle.dp_lines.specs.RawLines.{Raw, content, raw_lines, size, with_byte}
use Rattle.dp_lines.specs.Readers.{IsFull, counted, decided, held_back, nothing_at, stands_for, step_from}
use Rattle.dp_lines.specs.declared.judge.Judged.{Judged}
use Rattle.dp_lines.specs.declared.judge.Judged.TheVariants.{Refused}
use Rattle.dp_lines.specs.declared.refusal.Limits.{Limits}
use Rattle.dp_lines.specs.declared.refusal.LineRefusal.{LineRefusal}
use Rattle.dp_lines.specs.declared.refusal.LineRefusal.TheVariants.{TooLong, LogTooLong}
use Rattle.dp_lines.specs.declared.step.First.TheVariants.{Refusal}
use Rattle.dp_lines.proofs.HeldLaws.{back_long, back_short, by_front, front_of, front_unfed, length_front, unfed_front}
use Rattle.dp_lines.proofs.RawLaws.{both, feed_step}

-- ---- a front without a line feed

-- these bytes before the first line
abbrev pub joined : List ℕ → List Raw → List Raw
joined t [] = record { bytes = t; fed = false } ∷ []
joined t (raw ∷ raws) = record { bytes = t ++ raw.bytes; fed = raw.fed } ∷ raws

one_joined : (b : ℕ) (raws : List Raw) → with_byte b raws ≡ joined (b ∷ []) raws
one_joined b [] = refl
one_joined b (raw ∷ raws) = refl

more_joined : (b : ℕ) (t : List ℕ) (raws : List Raw) → with_byte b (joined t raws) ≡ joined (b ∷ t) raws
more_joined b t [] = refl
more_joined b t (raw ∷ raws) = refl

pub raw_joined : (t more : List ℕ) → has_no_feed t ≡ true → 0 < length t → raw_lines (t ++ more) ≡ joined t (raw_lines more)
raw_joined [] more e some = absurd (omega arith)
raw_joined (b ∷ []) more e some = feed_step b more true (both (is_no_feed b) true e).0 ∙ one_joined b (raw_lines more)
raw_joined (b ∷ (d ∷ t)) more e some =
    let p = both (is_no_feed b) (has_no_feed (d ∷ t)) e in
    feed_step b (d ∷ t ++ more) true p.0
    ∙ ap (λ (raws : List Raw). with_byte b raws) (raw_joined (d ∷ t) more p.1 (omega arith))
    ∙ more_joined b (d ∷ t) (raw_lines more)

-- ---- its refusal

longer : (m n : ℕ) → m < n → nat_lt m n ≡ true
longer m n h = grind (arith, nat_tests)

picked : (a : Bool) (x y : LineRefusal) → cond a (Refused x) (Refused y) ≡ Refused (cond a x y)
picked true x y = refl
picked false x y = refl

pub judged_long : (limits : Limits) (number passed : ℕ) (raw : Raw) → limits.line < length raw.bytes → judged limits number passed raw ≡ Refused (over limits number (passed + size raw))
judged_long limits number passed raw h =
    ap (λ (b : Bool). cond (nat_lt limits.total (passed + size raw)) (Refused (LogTooLong number)) (cond b (Refused (TooLong number)) (judged_content number (content raw.bytes)))) (longer limits.line (length raw.bytes) h)
    ∙ picked (nat_lt limits.total (passed + size raw)) (LogTooLong number) (TooLong number)

lines_long : (limits : Limits) (count passed : ℕ) (raw : Raw) (raws : List Raw) → limits.line < length raw.bytes →
    lines_behind limits count passed (raw ∷ raws) ≡ refused (over limits (count + 1) (passed + size raw))
lines_long limits count passed raw raws h =
    ap (λ (j : Judged). led_by (count + 1) j (lines_behind limits (count + 1) (passed + size raw) raws)) (judged_long limits (count + 1) passed raw h)

-- ---- all lines, or those whose end has come

abbrev pub seen : Bool → List Raw → List Raw
seen true raws = raws
seen false raws = filter (λ raw. raw.fed) raws

-- a whole line is seen
pub seen_whole : (all ended : Bool) (raw : Raw) (raws : List Raw) → (raw.fed || ended) ≡ true → (ended ≡ true → all ≡ true) → seen all (raw ∷ raws) ≡ raw ∷ seen all raws
seen_whole true ended raw raws whole last = refl
seen_whole false true raw raws whole last = let e = last refl in absurd cc
seen_whole false false raw raws whole last = ap (λ (b : Bool). cond b (raw ∷ seen false raws) (seen false raws)) (or_fed raw.fed whole)
  where
    or_fed : (b : Bool) → (b || false) ≡ true → b ≡ true
    or_fed true h = refl
    or_fed false h = h

same_size : (raw other : Raw) → raw.fed ≡ other.fed → length raw.bytes ≡ length other.bytes → size raw ≡ size other
same_size raw other e f = ap (λ (b : Bool). cond b (length raw.bytes + 1) (length raw.bytes)) e ∙ ap (λ (n : ℕ). cond other.fed (n + 1) n) f

both_long : (limits : Limits) (count passed : ℕ) (raw other : Raw) (raws : List Raw) → raw.fed ≡ other.fed → length raw.bytes ≡ length other.bytes → limits.line < length raw.bytes →
    lines_behind limits count passed (raw ∷ raws) ≡ lines_behind limits count passed (other ∷ raws)
both_long limits count passed raw other raws e f h =
    lines_long limits count passed raw raws h
    ∙ ap (λ (n : ℕ). refused (over limits (count + 1) (passed + n))) (same_size raw other e f)
    ∙ sym (lines_long limits count passed other raws (omega (arith, f)))

by_fed : (limits : Limits) (count passed : ℕ) (raw other : Raw) (raws : List Raw) (b : Bool) → lines_behind limits count passed (raw ∷ raws) ≡ lines_behind limits count passed (other ∷ raws) →
    lines_behind limits count passed (cond b (raw ∷ raws) raws) ≡ lines_behind limits count passed (cond b (other ∷ raws) raws)
by_fed limits count passed raw other raws true e = e
by_fed limits count passed raw other raws false e = refl

same_lines : (all : Bool) (limits : Limits) (count passed : ℕ) (raw other : Raw) (raws : List Raw) → raw.fed ≡ other.fed → length raw.bytes ≡ length other.bytes → limits.line < length raw.bytes →
    lines_behind limits count passed (seen all (raw ∷ raws)) ≡ lines_behind limits count passed (seen all (other ∷ raws))
same_lines true limits count passed raw other raws e f h = both_long limits count passed raw other raws e f h
same_lines false limits count passed raw other raws e f h =
    by_fed limits count passed raw other (seen false raws) raw.fed (both_long limits count passed raw other (seen false raws) e f h)
    ∙ ap (λ (b : Bool). lines_behind limits count passed (cond b (other ∷ seen false raws) (seen false raws))) e

-- other bytes, as many, in the place of the front
pub same_front : (all : Bool) (limits : Limits) (count passed : ℕ) (t u : List ℕ) (raws : List Raw) → length t ≡ length u → limits.line < length t →
    lines_behind limits count passed (seen all (joined t raws)) ≡ lines_behind limits count passed (seen all (joined u raws))
same_front all limits count passed t u [] e h = same_lines all limits count passed (record { bytes = t; fed = false }) (record { bytes = u; fed = false }) [] refl e h
same_front all limits count passed t u (raw ∷ raws) e h =
    let left = length-append t raw.bytes in
    let right = length-append u raw.bytes in
    same_lines all limits count passed (record { bytes = t ++ raw.bytes; fed = raw.fed }) (record { bytes = u ++ raw.bytes; fed = raw.fed }) raws refl (omega (arith, left, right, e)) (omega (arith, left))

-- ---- a line that is held back

-- What depends on the number of an overlong line's bytes alone is the same where the line is held back.
pub back_same : {X : Type 0} (f : List Raw → X) (limit : ℕ) (text more : List ℕ) → has_no_feed text ≡ true →
    ((t u : List ℕ) (raws : List Raw) → length t ≡ length u → limit < length t → f (joined t raws) ≡ f (joined u raws)) →
    f (raw_lines (stands_for limit (counted limit text) (held_back limit text ++ more))) ≡ f (raw_lines (text ++ more))
back_same f limit text more e same =
    elim (cases_lt limit (length text)) [
      | inr le ↦ ap (λ (t : List ℕ). f (raw_lines t)) (back_short limit text more le)
      | inl lt ↦
          let whole : limit ≤ length text = omega arith in
          let b : ℕ = counted limit text in
          let front : List ℕ = front_of limit b text in
          let n : length front ≡ limit + b = length_front limit b text whole in
          let m : length front ≡ length text = omega (arith, n) in
          let long : limit < length front = omega (arith, m) in
          let some : 0 < length front = omega (arith, m) in
          ap (λ (t : List ℕ). f (raw_lines t)) (back_long limit text more whole)
          ∙ ap f (raw_joined front more (front_unfed limit b text (unfed_front limit text e)) some)
          ∙ same front text (raw_lines more) m long
          ∙ ap f (sym (raw_joined text more e (omega arith)))
    ]

-- ---- a step at it

long_used : (limits : Limits) (ended : Bool) (passed count : ℕ) (raw : Raw) (raws : List Raw) → limits.line < length raw.bytes → (step_from limits ended passed count 0 (raw ∷ raws)).used ≡ 0
long_used limits ended passed count raw raws h =
    ap (λ (j : Judged). (cond (raw.fed || ended) (decided j count 0 (size raw) (step_from limits ended passed (count + 1) (0 + size raw) raws)) (nothing_at count 0)).used) (judged_long limits (count + 1) (passed + 0) raw h)
    ∙ by_whole (raw.fed || ended)
  where
    by_whole : (b : Bool) → (cond b (record { first = Refusal (over limits (count + 1) (passed + 0 + size raw)); count = count; used = 0 }) (nothing_at count 0)).used ≡ 0
    by_whole true = refl
    by_whole false = refl

joined_used : (limits : Limits) (ended : Bool) (passed count : ℕ) (t : List ℕ) (raws : List Raw) → limits.line < length t → (step_from limits ended passed count 0 (joined t raws)).used ≡ 0
joined_used limits ended passed count t [] h = long_used limits ended passed count (record { bytes = t; fed = false }) [] h
joined_used limits ended passed count t (raw ∷ raws) h =
    let z = length-append t raw.bytes in long_used limits ended passed count (record { bytes = t ++ raw.bytes; fed = raw.fed }) raws (omega (arith, z))

-- where bytes were counted, it passes none
pub full_used : (limits : Limits) (ended : Bool) (passed count beyond : ℕ) (held : List ℕ) → IsFull limits.line held → 0 < beyond →
    (step_from limits ended passed count 0 (raw_lines (stands_for limits.line beyond held))).used ≡ 0
full_used limits ended passed count beyond held h some =
    let front : List ℕ = front_of limits.line beyond held in
    let n : length front ≡ limits.line + beyond = length_front limits.line beyond held h.full in
    let long : limits.line < length front = omega (arith, n) in
    let filled : 0 < length front = omega (arith, n) in
    ap (λ (t : List ℕ). (step_from limits ended passed count 0 (raw_lines t)).used) (by_front limits.line beyond held)
    ∙ ap (λ (raws : List Raw). (step_from limits ended passed count 0 raws).used) (raw_joined front (drop limits.line held) (front_unfed limits.line beyond held h.unfed) filled)
    ∙ joined_used limits ended passed count front (raw_lines (drop limits.line held)) long
