-- Lines that may pass a limit: they are all read, or those before one that is told to be too long.
use Rattle.std.proofs.Common.{◌≡◌, ℕ, ◌+◌, ◌<◌, ◌≤◌, ◌^◌, ◌⊎◌, Bool, true, false, cond, Option, Some, None, Result, Ok, Err, List, [], ◌∷◌, ◌++◌, length, map, refl, sym, ap, ◌∙◌, subst, inl, inr, arith}
use Rattle.std.specs.Prelude.{nat_lt}
use Rattle.std.specs.List.{enumerate_from, flat_map}
use Rattle.std.proofs.lemmas.Bool.{cases_lt, le-ltb, lt-ltb}
use Rattle.std.proofs.lemmas.List.{length-append}
use Rattle.dp_base.specs.Lists.{Each}
use Rattle.dp_checker.specs.Judged.{judge, judge_all}
use Rattle.dp_checker.specs.Known.{Known, nothing}
use Rattle.dp_checker.specs.declared.refusal.StepRefusal.{StepRefusal}
use Rattle.dp_domain.specs.declared.verdict.Verdict.{Verdict}
use Rattle.dp_judge.specs.Logs.{answer_after, judged_log, limits}
use Rattle.dp_judge.specs.declared.answer.LogAnswer.{LogAnswer}
use Rattle.dp_judge.specs.declared.answer.LogAnswer.TheVariants.{Unread}
use Rattle.dp_lines.specs.Allowed.{IsAllowed}
use Rattle.dp_lines.specs.Lines.{Lines, judged, judged_content, led_by, lines as lines_in, lines_behind, refused, with_line}
use Rattle.dp_lines.specs.RawLines.{content, raw_lines}
use Rattle.dp_lines.specs.Spelling.{fields_text, line_text}
use Rattle.dp_lines.specs.declared.judge.Judged.{Judged}
use Rattle.dp_lines.specs.declared.judge.Judged.TheVariants.{Refused}
use Rattle.dp_lines.specs.declared.line.Line.{Line}
use Rattle.dp_lines.specs.declared.refusal.LineRefusal.{LineRefusal}
use Rattle.dp_lines.specs.declared.refusal.LineRefusal.TheVariants.{TooLong, LogTooLong}
use Rattle.dp_lines.proofs.RoundTrip.{line_cut, log_again}
use Rattle.dp_parts.specs.Posed.{Posed}
use Rattle.dp_replay.specs.Accepting.{AreShort, IsAccepted}
use Rattle.fz_prove.specs.Limits.{IsTooLong}

abbrev IsShort : Line → Type 0
IsShort line = length (fields_text line) ≤ 2 ^ 24

-- no line is too long, nor are all together
abbrev pub AreFit : ℕ → List Line → Type 0
AreFit passed ls = Each IsShort ls × (passed + length (flat_map line_text ls) ≤ 2 ^ 40)

-- the lines before one that is told to be too long
pub record IsCut (ls : List Line) (count : ℕ) (out : Lines) : Type 0 where
  pub front : List Line
  pub back : List Line
  pub parts : ls ≡ front ++ back
  pub given : out.given ≡ enumerate_from (count + 1) front
  pub why : LineRefusal
  pub refused : out.refusal ≡ Some why
  pub limit : IsTooLong why

-- ---- one line

-- the line makes the text too long
judged_total : (number passed : ℕ) (line : Line) → 2 ^ 40 < passed + (length (fields_text line) + 1) → judged limits number passed (record { bytes = fields_text line; fed = true }) ≡ Refused (LogTooLong number)
judged_total number passed line long =
    ap (λ (b : Bool). cond b (Refused (LogTooLong number)) (cond (nat_lt limits.line (length (fields_text line))) (Refused (TooLong number)) (judged_content number (content (fields_text line)))))
    (lt-ltb (2 ^ 40) (passed + (length (fields_text line) + 1)) long)

-- the line is too long
judged_line : (number passed : ℕ) (line : Line) → passed + (length (fields_text line) + 1) ≤ 2 ^ 40 → 2 ^ 24 < length (fields_text line) → judged limits number passed (record { bytes = fields_text line; fed = true }) ≡ Refused (TooLong number)
judged_line number passed line within long =
    (λ j. cond (le-ltb (2 ^ 40) (passed + (length (fields_text line) + 1)) within j) (Refused (LogTooLong number)) (cond (lt-ltb (2 ^ 24) (length (fields_text line)) long j) (Refused (TooLong number)) (judged_content number (content (fields_text line)))))

-- the first line is refused so
cut_here : (count passed : ℕ) (line : Line) (ls : List Line) (why : LineRefusal) → IsAllowed line → IsTooLong why
    → judged limits (count + 1) passed (record { bytes = fields_text line; fed = true }) ≡ Refused why
    → IsCut (line ∷ ls) count (lines_behind limits count passed (raw_lines (line_text line ++ flat_map line_text ls)))
cut_here count passed line ls why allowed limit e =
    let rest : List ℕ = flat_map line_text ls in
    let out : lines_behind limits count passed (raw_lines (line_text line ++ rest)) ≡ refused why =
    ap (lines_behind limits count passed) (line_cut line rest allowed)
    ∙ ap (λ (j : Judged). led_by (count + 1) j (lines_behind limits (count + 1) (passed + (length (fields_text line) + 1)) (raw_lines rest))) e in
    subst (λ (o : Lines). IsCut (line ∷ ls) count o) (sym out) (record { front = []; back = line ∷ ls; parts = refl; given = refl; why = why; refused = refl; limit = limit })

cut_later : (count : ℕ) (line : Line) (ls : List Line) (out : Lines) → IsCut ls (count + 1) out → IsCut (line ∷ ls) count (with_line (count + 1) line out)
cut_later count line ls out cut = record {
  front = line ∷ cut.front;
  back = cut.back;
  parts = ap (λ l. line ∷ l) cut.parts;
  given = ap (λ (l : List (ℕ × Line)). (count + 1, line) ∷ l) cut.given;
  why = cut.why;
  refused = cut.refused;
  limit = cut.limit;
}

-- ---- all lines

pub read_ends : (count passed : ℕ) (ls : List Line) → Each IsAllowed ls → passed ≤ 2 ^ 40 → AreFit passed ls ⊎ IsCut ls count (lines_behind limits count passed (raw_lines (flat_map line_text ls)))
read_ends count passed [] allowed room = inl (tt, omega (arith, room))
read_ends count passed (line ∷ ls) allowed room =
    let rest : List ℕ = flat_map line_text ls in
    let own : length (line_text line) ≡ length (fields_text line) + 1 = length-append (fields_text line) (10 ∷ []) in
    let size : length (line_text line ++ rest) ≡ length (line_text line) + length rest = length-append (line_text line) rest in
    elim (cases_lt (2 ^ 40) (passed + (length (fields_text line) + 1))) [
      | inl long ↦ inr (cut_here count passed line ls (LogTooLong (count + 1)) allowed.0 tt (judged_total (count + 1) passed line long))
      | inr within ↦ elim (cases_lt (2 ^ 24) (length (fields_text line))) [
        | inl long ↦ inr (cut_here count passed line ls (TooLong (count + 1)) allowed.0 tt (judged_line (count + 1) passed line within long))
        | inr short ↦
            let here : passed + length (line_text line) ≤ 2 ^ 40 = omega (arith, own, within) in
            let again = log_again limits count passed line rest allowed.0 short here in
            elim (read_ends (count + 1) (passed + length (line_text line)) ls allowed.1 here) [
              | inl fit ↦ inl ((short, fit.0), omega (arith, size, fit.1))
              | inr cut ↦ inr (subst (λ (o : Lines). IsCut (line ∷ ls) count o) (sym again) (cut_later count line ls (lines_behind limits (count + 1) (passed + length (line_text line)) (raw_lines rest)) cut))
            ]
      ]
    ]

-- ---- a log whose lines are accepted

numbers_gone : (n : ℕ) (ls : List Line) → map (λ line. line.1) (enumerate_from n ls) ≡ ls
numbers_gone n [] = refl
numbers_gone n (line ∷ ls) = ap (λ l. line ∷ l) (numbers_gone (n + 1) ls)

judge_append : (p : Posed) (n : ℕ) (progress : Result Known StepRefusal) (front back : List Line)
    → judge_all p progress (enumerate_from n (front ++ back)) ≡ judge_all p (judge_all p progress (enumerate_from n front)) (enumerate_from (n + length front) back)
judge_append p n progress [] back =
    let same : n ≡ n + 0 = omega arith in
    ap (λ (k : ℕ). judge_all p progress (enumerate_from k back)) same
judge_append p n progress (line ∷ front) back =
    let same : (n + 1) + length front ≡ n + length (line ∷ front) = omega arith in
    let now : Result Known StepRefusal = judge p progress (n, line) in
    judge_append p (n + 1) now front back
    ∙ ap (λ (k : ℕ). judge_all p (judge_all p now (enumerate_from (n + 1) front)) (enumerate_from k back)) same

refusal_stays : (p : Posed) (r : StepRefusal) (ls : List (ℕ × Line)) → judge_all p (Err r) ls ≡ Err r
refusal_stays p r [] = refl
refusal_stays p r (line ∷ ls) = refusal_stays p r ls

no_refusal : (r : StepRefusal) (known : Known) → ◌≡◌ {A = Result Known StepRefusal} (Err r) (Ok known) → ⊥
no_refusal r known e = cc

-- where no line is refused, none of the first is
front_passes : (p : Posed) (front back : List Line) (known : Known) (r : Result Known StepRefusal) → judge_all p (Ok nothing) (enumerate_from 1 front) ≡ r
    → judge_all p (Ok nothing) (enumerate_from 1 (front ++ back)) ≡ Ok known → (k : Known) × (judge_all p (Ok nothing) (enumerate_from 1 front) ≡ Ok k)
front_passes p front back known (Ok k) e h = (k, e)
front_passes p front back known (Err r) e h =
    absurd (no_refusal r known (sym (refusal_stays p r (enumerate_from (1 + length front) back)) ∙ ap (λ (q : Result Known StepRefusal). judge_all p q (enumerate_from (1 + length front) back)) (sym e)
    ∙ sym (judge_append p 1 (Ok nothing) front back) ∙ h))

-- such a log passes no limit, or a line of it is told to be too long
pub log_ends : (p : Posed) (ls : List Line) (verdict : Verdict) → Each IsAllowed ls → IsAccepted p ls verdict
    → AreShort ls (flat_map line_text ls) ⊎ ((why : LineRefusal) × IsTooLong why × (judged_log p (flat_map line_text ls) ≡ Unread why))
log_ends p ls verdict allowed accepted =
    let text : List ℕ = flat_map line_text ls in
    let count : ℕ = length (raw_lines text) in
    elim (read_ends 0 0 ls allowed (omega arith)) [
      | inl fit ↦ inl (record { lines = fit.0; text = omega (arith, fit.1) })
      | inr cut ↦
          let known = accepted (enumerate_from 1 ls) (numbers_gone 1 ls) in
          let front = front_passes p cut.front cut.back known.0 (judge_all p (Ok nothing) (enumerate_from 1 cut.front)) refl (ap (λ (l : List Line). judge_all p (Ok nothing) (enumerate_from 1 l)) (sym cut.parts) ∙ known.1) in
          inr (
            cut.why,
            cut.limit,
            ap (λ (r : Result Known StepRefusal). answer_after r (lines_in limits text) count) (ap (judge_all p (Ok nothing)) cut.given ∙ front.1)
                ∙ ap (λ (o : Option LineRefusal). answer_after (Ok front.0) (record { given = (lines_in limits text).given; refusal = o }) count) cut.refused,
          )
    ]
