-- What is left of a log that a reader has been fed all of, and how a call that gives a line passes it.
use Rattle.std.specs.Prelude.{◌≡◌, ℕ, ◌+◌, ◌<◌, Bool, true, false, ◌||◌, if◌then◌else◌, Option, Some, None, Ok, List, [], ◌∷◌, length}
use Rattle.std.proofs.Common.{refl, sym, ◌∙◌, ap, subst, arith}
use Rattle.std.proofs.lemmas.List.{append-nil}
use Rattle.dp_lines.specs.Lines.{Lines, judged}
use Rattle.dp_lines.specs.RawLines.{Raw, raw_lines, size}
use Rattle.dp_lines.specs.Readers.{IsStanding, State, after, answer_by, answer_of, decided, fed, left, standing, step_from, step_of}
use Rattle.dp_lines.specs.Standing.{Leaves}
use Rattle.dp_lines.specs.declared.judge.Judged.{Judged}
use Rattle.dp_lines.specs.declared.judge.Judged.TheVariants.{Blank, Given, Refused as RefusedLine}
use Rattle.dp_lines.specs.declared.line.Line.{Line}
use Rattle.dp_lines.specs.declared.refusal.LineRefusal.{LineRefusal}
use Rattle.dp_lines.specs.declared.refusal.Limits.{Limits}
use Rattle.dp_lines.specs.declared.step.First.{First}
use Rattle.dp_lines.specs.declared.step.First.TheVariants.{Line as LineFirst, Refusal, Nothing}
use Rattle.dp_lines.specs.declared.step.Step.{Step}
use Rattle.dp_lines.proofs.StepLaws.{count_led}

-- ---- what is left

-- nothing more comes
pub same_left : (s : State) → left (fed s []) ≡ left s
same_left s = ap (λ (t : List ℕ). left (record s { held = t })) (append-nil s.held)

-- what is left, where nothing more comes
pub left_now : (s now : State) (change : Lines → Lines) → Leaves s change now → left s ≡ change (left now)
left_now s now change h = sym (same_left s) ∙ h [] (λ e. refl) ∙ ap change (same_left now)

-- ---- how many lines are left

asked : (s : State) (refusal : Option LineRefusal) → s.refusal ≡ refusal → refusal ≡ None →
    step_of s ≡ step_from s.limits s.ended s.passed s.count 0 (raw_lines (standing s))
asked s refusal e none = rw (e ∙ none) refl

-- nothing more comes
same_standing : (s : State) → standing (fed s []) ≡ standing s
same_standing s = ap (λ (t : List ℕ). standing (record s { held = t })) (append-nil s.held)

-- a call that asks passes lines, and leaves those that it does not pass
pub ask_counts : (s : State) → IsStanding s → s.refusal ≡ None → s.count + length (raw_lines (standing s)) ≡ (after s).count + length (raw_lines (standing (after s)))
ask_counts s h none =
    ap (λ (t : List ℕ). s.count + length (raw_lines t)) (sym (same_standing s))
    ∙ count_led s [] h (λ e. refl)
    ∙ ap (λ (t : List ℕ). (after s).count + length (raw_lines t)) (same_standing (after s))

abbrev IfLine : First → Type 0 → Type 0
IfLine (LineFirst line) fact = fact
IfLine (Refusal refusal) fact = Unit {0}
IfLine Nothing fact = Unit {0}

grows_by : (count : ℕ) (j : Judged) (n used more : ℕ) (next : Step) → n ≡ count → IfLine next.first (count + 1 < next.count) → IfLine (decided j n used more next).first (count < (decided j n used more next).count)
grows_by count Blank n used more next e h = later next.first next.count h
  where
    later : (first : First) (k : ℕ) → IfLine first (count + 1 < k) → IfLine first (count < k)
    later (LineFirst line) k h = omega (arith, h)
    later (Refusal refusal) k h = tt
    later Nothing k h = tt
grows_by count (Given line) n used more next e h = omega (arith, e)
grows_by count (RefusedLine refusal) n used more next e h = tt

by_whole : (b : Bool) (count : ℕ) (whole part : Step) → IfLine whole.first (count < whole.count) → IfLine part.first (count < part.count) →
    IfLine (if b then whole else part).first (count < (if b then whole else part).count)
by_whole true count whole part h k = h
by_whole false count whole part h k = k

grows : (limits : Limits) (ended : Bool) (passed count used : ℕ) (raws : List Raw) →
    IfLine (step_from limits ended passed count used raws).first (count < (step_from limits ended passed count used raws).count)
grows limits ended passed count used [] = tt
grows limits ended passed count used (raw ∷ raws) =
    by_whole (raw.fed || ended) count
    (decided (judged limits (count + 1) (passed + used) raw) count used (size raw) (step_from limits ended passed (count + 1) (used + size raw) raws))
    (record { first = Nothing; count = count; used = used })
    (grows_by count (judged limits (count + 1) (passed + used) raw) count used (size raw) (step_from limits ended passed (count + 1) (used + size raw) raws) refl
    (grows limits ended passed (count + 1) (used + size raw) raws))
    tt

line_first : (first : First) (count n : ℕ) (line : Line) (fact : Type 0) → Ok (Some (n, line)) ≡ answer_by first count → IfLine first fact → fact
line_first (LineFirst l) count n line fact e h = h
line_first (Refusal r) count n line fact e h = absurd cc
line_first Nothing count n line fact e h = absurd cc

-- a line that is given is passed, so fewer are left
pub fewer_held : (s : State) (n : ℕ) (line : Line) → IsStanding s → s.refusal ≡ None → Ok (Some (n, line)) ≡ answer_of s → length (raw_lines (standing (after s))) < length (raw_lines (standing s))
fewer_held s n line h none e =
    let same = asked s s.refusal refl none in
    let more : s.count < (step_of s).count = line_first (step_of s).first (step_of s).count n line (s.count < (step_of s).count) e
    (subst (λ (t : Step). IfLine t.first (s.count < t.count)) (sym same) (grows s.limits s.ended s.passed s.count 0 (raw_lines (standing s)))) in
    let k = ask_counts s h none in omega (arith, k, more)
