-- The step at a line of which bytes were counted.
use Rattle.std.proofs.Common.{◌≡◌, ℕ, ◌+◌, ◌<◌, ◌≤◌, Bool, true, false, cond, ◌||◌, List, [], ◌∷◌, ◌++◌, length, length-append, take, drop, refl, ap, ◌∙◌, arith, length-take-le}
use Rattle.std.specs.List.{prefix_len}
use Rattle.std.proofs.Math.Seq.{drop-append_seam, take-append_seam}
use Rattle.dp_lines.specs.Kept.{has_no_feed, is_no_feed}
use Rattle.dp_lines.specs.Overlong.{over}
use Rattle.dp_lines.specs.RawLines.{Raw, raw_lines, size}
use Rattle.dp_lines.specs.Readers.{IsFull, decided, nothing_at, stands_for, step_from}
use Rattle.dp_lines.specs.declared.judge.Judged.{Judged}
use Rattle.dp_lines.specs.declared.refusal.Limits.{Limits}
use Rattle.dp_lines.specs.declared.step.First.TheVariants.{Refusal}
use Rattle.dp_lines.specs.declared.step.Step.{Step}
use Rattle.dp_lines.proofs.HeldLaws.{by_front, front_of, front_unfed, length_front, length_standing}
use Rattle.dp_lines.proofs.LongLaws.{judged_long}
use Rattle.dp_lines.proofs.RawLaws.{fed_size, prefix_behind, prefix_whole, raw_fed, raw_unfed}

-- the step that refuses the next line by its length
abbrev pub refused_at : Limits → ℕ → ℕ → Step
refused_at limits count end = record { first = Refusal (over limits (count + 1) end); count = count; used = 0 }

step_whole : (limits : Limits) (ended : Bool) (passed count end : ℕ) (raw : Raw) (raws : List Raw) → (raw.fed || ended) ≡ true → limits.line < length raw.bytes → passed + 0 + size raw ≡ end →
    step_from limits ended passed count 0 (raw ∷ raws) ≡ refused_at limits count end
step_whole limits ended passed count end raw raws whole long e =
    ap (λ (j : Judged). cond (raw.fed || ended) (decided j count 0 (size raw) (step_from limits ended passed (count + 1) (0 + size raw) raws)) (nothing_at count 0)) (judged_long limits (count + 1) (passed + 0) raw long)
    ∙ ap (λ (b : Bool). cond b (refused_at limits count (passed + 0 + size raw)) (nothing_at count 0)) whole
    ∙ ap (refused_at limits count) e

-- the bytes before the first line feed
pub prefix_standing : (limit beyond : ℕ) (held : List ℕ) → IsFull limit held → prefix_len is_no_feed (stands_for limit beyond held) ≡ prefix_len is_no_feed held + beyond
prefix_standing limit beyond held h =
    let front : List ℕ = front_of limit beyond held in
    let rest : List ℕ = drop limit held in
    let n : length front ≡ limit + beyond = length_front limit beyond held h.full in
    let z = length-append front rest in
    let within : length front ≤ length (front ++ rest) = omega (arith, z) in
    let unfed : has_no_feed (take (length front) (front ++ rest)) ≡ true = ap has_no_feed (take-append_seam front rest) ∙ front_unfed limit beyond held h.unfed in
    let whole = prefix_behind (length front) (front ++ rest) within unfed in
    let behind : prefix_len is_no_feed (drop (length front) (front ++ rest)) ≡ prefix_len is_no_feed rest = ap (prefix_len is_no_feed) (drop-append_seam front rest) in
    let same : prefix_len is_no_feed (stands_for limit beyond held) ≡ prefix_len is_no_feed (front ++ rest) = ap (prefix_len is_no_feed) (by_front limit beyond held) in
    let one = prefix_behind limit held h.full h.unfed in
    omega (arith, n, whole, behind, same, one)

-- its line feed has come
pub over_fed : (limits : Limits) (ended : Bool) (passed count beyond n : ℕ) (held : List ℕ) → IsFull limits.line held → 0 < beyond → n ≡ prefix_len is_no_feed held → n < length held →
    step_from limits ended passed count 0 (raw_lines (stands_for limits.line beyond held)) ≡ refused_at limits count (passed + beyond + n + 1)
over_fed limits ended passed count beyond n held h some e lt =
    let text : List ℕ = stands_for limits.line beyond held in
    let k = prefix_standing limits.line beyond held h in
    let z = length_standing limits.line beyond held in
    let one = prefix_behind limits.line held h.full h.unfed in
    let m : ℕ = prefix_len is_no_feed text in
    let within : m < length text = omega (arith, k, z, e) in
    let le : m ≤ length text = omega (arith, within) in
    let l = length-take-le m text le in
    let s = fed_size text m within in
    let raw : Raw = record { bytes = take m text; fed = true } in
    let end : passed + 0 + size raw ≡ passed + beyond + n + 1 = omega (arith, s, k, e) in
    let long : limits.line < length raw.bytes = omega (arith, l, k, one) in
    ap (λ (raws : List Raw). step_from limits ended passed count 0 raws) (raw_fed text within)
    ∙ step_whole limits ended passed count (passed + beyond + n + 1) raw (raw_lines (drop (m + 1) text)) refl long end

unfed_text : (limit beyond n : ℕ) (held : List ℕ) → IsFull limit held → 0 < beyond → n ≡ prefix_len is_no_feed held → length held ≤ n →
    raw_lines (stands_for limit beyond held) ≡ record { bytes = stands_for limit beyond held; fed = false } ∷ []
unfed_text limit beyond n held h some e le =
    let text : List ℕ = stands_for limit beyond held in
    let k = prefix_standing limit beyond held h in
    let z = length_standing limit beyond held in
    let all : length text ≤ prefix_len is_no_feed text = omega (arith, k, z, e) in
    raw_unfed text (prefix_whole text all) (omega (arith, z))

-- the text has ended
pub over_ended : (limits : Limits) (passed count beyond n : ℕ) (held : List ℕ) → IsFull limits.line held → 0 < beyond → n ≡ prefix_len is_no_feed held → n ≤ length held → length held ≤ n →
    step_from limits true passed count 0 (raw_lines (stands_for limits.line beyond held)) ≡ refused_at limits count (passed + beyond + n)
over_ended limits passed count beyond n held h some e within le =
    let text : List ℕ = stands_for limits.line beyond held in
    let z = length_standing limits.line beyond held in
    let f = h.full in
    let raw : Raw = record { bytes = text; fed = false } in
    let end : passed + 0 + size raw ≡ passed + beyond + n = omega (arith, z) in
    let long : limits.line < length raw.bytes = omega (arith, z, f) in
    ap (λ (raws : List Raw). step_from limits true passed count 0 raws) (unfed_text limits.line beyond n held h some e le)
    ∙ step_whole limits true passed count (passed + beyond + n) raw [] refl long end

-- or neither
pub over_open : (limits : Limits) (passed count beyond n : ℕ) (held : List ℕ) → IsFull limits.line held → 0 < beyond → n ≡ prefix_len is_no_feed held → length held ≤ n →
    step_from limits false passed count 0 (raw_lines (stands_for limits.line beyond held)) ≡ nothing_at count 0
over_open limits passed count beyond n held h some e le = ap (λ (raws : List Raw). step_from limits false passed count 0 raws) (unfed_text limits.line beyond n held h some e le)
