-- A text that is read to its end is within its limit.
use Rattle.std.specs.Prelude.{◌≡◌, ℕ, suc, ◌+◌, ◌≤◌, ◌^◌, nat_lt, Bool, true, false, ◌==◌, if◌then◌else◌, Some, None, List, [], ◌∷◌, length}
use Rattle.std.proofs.Common.{refl, subst, arith}
use Rattle.std.proofs.lemmas.Bool.Decides.{nat_tests}
use Rattle.dp_lines.specs.Driving.{limits}
use Rattle.dp_lines.specs.Lines.{Lines, judged, led_by, lines, lines_behind}
use Rattle.dp_lines.specs.RawLines.{Raw, raw_lines, size, with_byte}
use Rattle.dp_lines.specs.declared.judge.Judged.{Judged}
use Rattle.dp_lines.specs.declared.judge.Judged.TheVariants.{Blank, Given, Refused as RefusedLine}
use Rattle.dp_lines.specs.declared.line.Line.{Line}
use Rattle.dp_lines.specs.declared.refusal.LineRefusal.{LineRefusal}
use Rattle.dp_lines.specs.declared.refusal.LineRefusal.TheVariants.{LogTooLong}
use Rattle.dp_lines.specs.declared.refusal.Limits.{Limits}

abbrev sizes : List Raw → ℕ
sizes [] = 0
sizes (raw ∷ raws) = size raw + sizes raws

byte_more : (b : ℕ) (raws : List Raw) → sizes (with_byte b raws) ≡ sizes raws + 1
byte_more b [] = refl
byte_more b (raw ∷ raws) = by_feed raw.fed raw.bytes (sizes raws)
  where
    by_feed : (fed : Bool) (bytes : List ℕ) (n : ℕ) → (if fed then length (b ∷ bytes) + 1 else length (b ∷ bytes)) + n ≡ (if fed then length bytes + 1 else length bytes) + n + 1
    by_feed true bytes n = omega arith
    by_feed false bytes n = omega arith

feed_size : (raws : List Raw) → size (record { bytes = []; fed = true }) + sizes raws ≡ sizes raws + 1
feed_size raws = omega arith

all_sizes : (text : List ℕ) → sizes (raw_lines text) ≡ length text
all_sizes [] = refl
all_sizes (b ∷ text) = by_byte (b == 10) (all_sizes text)
  where
    by_byte : (f : Bool) → sizes (raw_lines text) ≡ length text → sizes (if f then record { bytes = []; fed = true } ∷ raw_lines text else with_byte b (raw_lines text)) ≡ suc (length text)
    by_byte true e = let k = feed_size (raw_lines text) in omega (arith, e, k)
    by_byte false e = let k = byte_more b (raw_lines text) in omega (arith, e, k)

unrefused : (number : ℕ) (j : Judged) (later : Lines) → (led_by number j later).refusal ≡ None → later.refusal ≡ None
unrefused number Blank later e = e
unrefused number (Given line) later e = e
unrefused number (RefusedLine refusal) later e = absurd cc

no_refusal : (number : ℕ) (j : Judged) (later : Lines) (refusal : LineRefusal) → j ≡ RefusedLine refusal → (led_by number j later).refusal ≡ None → ⊥
no_refusal number j later refusal e h = some_none refusal (subst (λ (k : Judged). (led_by number k later).refusal ≡ None) e h)
  where
    some_none : (r : LineRefusal) → Some r ≡ None → ⊥
    some_none r e = cc

not_over : (total n : ℕ) → (nat_lt total n ≡ true → ⊥) → n ≤ total
not_over total n h = by_test (nat_lt total n) refl
  where
    by_test : (b : Bool) → nat_lt total n ≡ b → n ≤ total
    by_test true e = absurd (h e)
    by_test false e = grind (arith, nat_tests, e)

over_refused : (l : Limits) (number passed : ℕ) (raw : Raw) → nat_lt l.total (passed + size raw) ≡ true → judged l number passed raw ≡ RefusedLine (LogTooLong number)
over_refused l number passed raw e = rw e refl

within : (l : Limits) (count passed : ℕ) (raws : List Raw) → passed ≤ l.total → (lines_behind l count passed raws).refusal ≡ None → passed + sizes raws ≤ l.total
within l count passed [] h e = omega (arith, h)
within l count passed (raw ∷ raws) h e =
    let fits : passed + size raw ≤ l.total = not_over l.total (passed + size raw) (λ over. no_refusal (count + 1) (judged l (count + 1) passed raw) (lines_behind l (count + 1) (passed + size raw) raws) (LogTooLong (count + 1)) (over_refused l (count + 1) passed raw over) e) in
    let k = within l (count + 1) (passed + size raw) raws fits (unrefused (count + 1) (judged l (count + 1) passed raw) (lines_behind l (count + 1) (passed + size raw) raws) e) in
    omega (arith, k)

-- its bytes are no more than a text may have
pub read_small : (text : List ℕ) → (lines limits text).refusal ≡ None → length text ≤ 2 ^ 40
read_small text e = let k = within limits 0 0 (raw_lines text) (omega arith) e in let s = all_sizes text in omega (arith, k, s)
