-- What a step says of the lines that are left.
use Rattle.std.proofs.Common.{◌≡◌, ℕ, zero, suc, ◌+◌, ◌<◌, Bool, true, false, cond, ◌||◌, List, [], ◌∷◌, ◌++◌, length, drop, Option, Some, None, Result, Ok, Err, nat_lt, refl, sym, ap, subst, ◌∙◌, arith, inl, inr}
use Rattle.std.proofs.lemmas.Bool.{cases_Bool}
use Rattle.std.proofs.lemmas.List.{append-nil, drop-drop}
use Rattle.dp_lines.specs.Allowed.{IsAllowed}
use Rattle.dp_lines.specs.Kept.{begins_whole}
use Rattle.dp_lines.specs.Lines.{Lines, judged, judged_content, led_by, lines_behind, refused, with_line}
use Rattle.dp_lines.specs.RawLines.{Raw, content, raw_lines, size}
use Rattle.dp_lines.specs.Readers.{IsFull, IsStanding, State, after, after_step, answer_by, answer_of, counted, decided, fed, held_back, left, left_unless, nothing_at, standing, stands_for, step_from, step_of, step_unless}
use Rattle.dp_lines.specs.Standing.{CanCome, HasNoWhole, Told}
use Rattle.dp_lines.specs.declared.judge.Judged.{Judged}
use Rattle.dp_lines.specs.declared.judge.Judged.TheVariants.{Blank, Given, Refused}
use Rattle.dp_lines.specs.declared.refusal.Limits.{Limits}
use Rattle.dp_lines.specs.declared.refusal.LineRefusal.{LineRefusal}
use Rattle.dp_lines.specs.declared.refusal.LineRefusal.TheVariants.{TooLong, LogTooLong}
use Rattle.dp_lines.specs.declared.step.First.{First}
use Rattle.dp_lines.specs.declared.step.First.TheVariants.{Line as LineFirst, Refusal, Nothing}
use Rattle.dp_lines.specs.declared.step.Step.{Step}
use Rattle.dp_lines.specs.Answers.{IfMemory, UnlessMemory}
use Rattle.dp_lines.specs.declared.line.Line.{Line}
use Rattle.dp_lines.specs.declared.refusal.LineFault.{LineFault}
use Rattle.dp_lines.specs.declared.refusal.LineFault.TheVariants.{Refused as RefusedFault, Memory}
use Rattle.dp_lines.proofs.LenientLaws.{given_allowed}
use Rattle.dp_lines.proofs.HeldLaws.{full_back, piece_behind, standing_fed, stands_whole}
use Rattle.dp_lines.proofs.LongLaws.{back_same, full_used, joined, same_front, seen, seen_whole}
use Rattle.dp_lines.proofs.RawLaws.{cut_is, no_whole_unfed}

-- what comes first, and the lines behind it
abbrev pub tell : First → ℕ → Lines → Lines
tell (LineFirst line) count lines = with_line count line lines
tell (Refusal refusal) count lines = refused refusal
tell Nothing count lines = lines

-- the lines left behind a step in these bytes, where more stand behind them
abbrev behind_step : Bool → Limits → ℕ → List ℕ → List ℕ → Step → Lines
behind_step all limits passed text more step = tell step.first step.count (lines_behind limits step.count (passed + step.used) (seen all (raw_lines (drop step.used text ++ more))))

stepped : (limits : Limits) (ended : Bool) (passed count used : ℕ) (raw : Raw) (raws : List Raw) → (raw.fed || ended) ≡ true →
    step_from limits ended passed count used (raw ∷ raws) ≡ decided (judged limits (count + 1) (passed + used) raw) count used (size raw) (step_from limits ended passed (count + 1) (used + size raw) raws)
stepped limits ended passed count used raw raws whole = rw whole refl

stays : (limits : Limits) (ended : Bool) (passed count used : ℕ) (raw : Raw) (raws : List Raw) → (raw.fed || ended) ≡ false →
    step_from limits ended passed count used (raw ∷ raws) ≡ nothing_at count used
stays limits ended passed count used raw raws part = rw part refl

-- where the raw line is judged so
decides : (all : Bool) (limits : Limits) (passed count used : ℕ) (text more : List ℕ) (raw : Raw) (j : Judged) (next : Step) →
    lines_behind limits (count + 1) (passed + (used + size raw)) (seen all (raw_lines (drop (used + size raw) text ++ more))) ≡ behind_step all limits passed text more next →
    led_by (count + 1) j (lines_behind limits (count + 1) (passed + (used + size raw)) (seen all (raw_lines (drop (used + size raw) text ++ more)))) ≡ behind_step all limits passed text more (decided j count used (size raw) next)
decides all limits passed count used text more raw Blank next h = h
decides all limits passed count used text more raw (Given line) next h = refl
decides all limits passed count used text more raw (Refused refusal) next h = refl

pub passes : (all : Bool) (limits : Limits) (ended : Bool) (passed count used : ℕ) (text more : List ℕ) (raws : List Raw) → raw_lines (drop used text) ≡ raws → (ended ≡ true → more ≡ []) → (ended ≡ true → all ≡ true) →
    lines_behind limits count (passed + used) (seen all (raw_lines (drop used text ++ more))) ≡ behind_step all limits passed text more (step_from limits ended passed count used raws)
passes all limits ended passed count used text more [] e none last = refl
passes all limits ended passed count used text more (raw ∷ raws) e none last =
    elim (cases_Bool (raw.fed || ended)) [
      | inr part ↦ sym (ap (behind_step all limits passed text more) (stays limits ended passed count used raw raws part))
      | inl whole ↦
          let cut = cut_is (drop used text) more raw raws ended e whole none in
          let d : drop (size raw) (drop used text) ≡ drop (used + size raw) text = drop-drop (size raw) used text in
          let z : passed + used + size raw ≡ passed + (used + size raw) = omega arith in
          let behind : raw_lines (drop (used + size raw) text) ≡ raws = sym (cut.behind ∙ ap raw_lines d) in
          let later = passes all limits ended passed (count + 1) (used + size raw) text more raws behind none last in
          ap (λ (rs : List Raw). lines_behind limits count (passed + used) (seen all rs)) cut.again
          ∙ ap (λ (rs : List Raw). lines_behind limits count (passed + used) rs) (seen_whole all ended raw (raw_lines (drop (size raw) (drop used text) ++ more)) whole last)
          ∙ ap (λ (n : ℕ). led_by (count + 1) (judged limits (count + 1) (passed + used) raw) (lines_behind limits (count + 1) n (seen all (raw_lines (drop (size raw) (drop used text) ++ more))))) z
          ∙ ap (λ (t : List ℕ). led_by (count + 1) (judged limits (count + 1) (passed + used) raw) (lines_behind limits (count + 1) (passed + (used + size raw)) (seen all (raw_lines (t ++ more))))) d
          ∙ decides all limits passed count used text more raw (judged limits (count + 1) (passed + used) raw) (step_from limits ended passed (count + 1) (used + size raw) raws) later
          ∙ sym (ap (behind_step all limits passed text more) (stepped limits ended passed count used raw raws whole))
    ]

decides_count : (passed count used : ℕ) (held more : List ℕ) (raw : Raw) (j : Judged) (next : Step) →
    count + 1 + length (raw_lines (drop (used + size raw) held ++ more)) ≡ next.count + length (raw_lines (drop next.used held ++ more)) →
    count + length (raw_lines (drop used held ++ more)) ≡ count + 1 + length (raw_lines (drop (used + size raw) held ++ more)) →
    count + length (raw_lines (drop used held ++ more)) ≡ (decided j count used (size raw) next).count + length (raw_lines (drop (decided j count used (size raw) next).used held ++ more))
decides_count passed count used held more raw Blank next h e = e ∙ h
decides_count passed count used held more raw (Given line) next h e = e
decides_count passed count used held more raw (Refused refusal) next h e = refl

-- the lines that are passed and those that are left are as many as before
pub counts : (limits : Limits) (ended : Bool) (passed count used : ℕ) (held more : List ℕ) (raws : List Raw) → raw_lines (drop used held) ≡ raws → (ended ≡ true → more ≡ []) →
    count + length (raw_lines (drop used held ++ more)) ≡ (step_from limits ended passed count used raws).count + length (raw_lines (drop (step_from limits ended passed count used raws).used held ++ more))
counts limits ended passed count used held more [] e none = refl
counts limits ended passed count used held more (raw ∷ raws) e none =
    elim (cases_Bool (raw.fed || ended)) [
      | inr part ↦ rw (stays limits ended passed count used raw raws part) refl
      | inl whole ↦
          let cut = cut_is (drop used held) more raw raws ended e whole none in
          let d : drop (size raw) (drop used held) ≡ drop (used + size raw) held = drop-drop (size raw) used held in
          let behind : raw_lines (drop (used + size raw) held) ≡ raws = sym (cut.behind ∙ ap raw_lines d) in
          let later = counts limits ended passed (count + 1) (used + size raw) held more raws behind none in
          let long : length (raw_lines (drop used held ++ more)) ≡ suc (length (raw_lines (drop (used + size raw) held ++ more))) =
          ap (λ (rs : List Raw). length rs) cut.again ∙ ap (λ (t : List ℕ). suc (length (raw_lines (t ++ more)))) d in
          let one : count + length (raw_lines (drop used held ++ more)) ≡ count + 1 + length (raw_lines (drop (used + size raw) held ++ more)) = omega (arith, long) in
          rw (stepped limits ended passed count used raw raws whole)
          (decides_count passed count used held more raw (judged limits (count + 1) (passed + used) raw) (step_from limits ended passed (count + 1) (used + size raw) raws) later one)
    ]

-- what holds where nothing comes
abbrev pub IfNothing : First → Type 0 → Type 0
IfNothing (LineFirst line) fact = Unit {0}
IfNothing (Refusal refusal) fact = Unit {0}
IfNothing Nothing fact = fact

abbrev pub no_whole : Bool → List ℕ → Step → Type 0
no_whole ended held step = IfNothing step.first (begins_whole ended (raw_lines (drop step.used held)) ≡ false)

goes_by : (ended : Bool) (held : List ℕ) (j : Judged) (count used more : ℕ) (next : Step) → no_whole ended held next → no_whole ended held (decided j count used more next)
goes_by ended held Blank count used more next h = h
goes_by ended held (Given line) count used more next h = tt
goes_by ended held (Refused refusal) count used more next h = tt

pub gone : (limits : Limits) (ended : Bool) (passed count used : ℕ) (held : List ℕ) (raws : List Raw) → raw_lines (drop used held) ≡ raws →
    no_whole ended held (step_from limits ended passed count used raws)
gone limits ended passed count used held [] e = ap (begins_whole ended) e
gone limits ended passed count used held (raw ∷ raws) e =
    elim (cases_Bool (raw.fed || ended)) [
      | inr part ↦ rw (stays limits ended passed count used raw raws part) (ap (begins_whole ended) e ∙ part)
      | inl whole ↦
          let cut = cut_is (drop used held) [] raw raws ended e whole (λ h. refl) in
          let behind : raw_lines (drop (used + size raw) held) ≡ raws = sym (cut.behind ∙ ap raw_lines (drop-drop (size raw) used held)) in
          rw (stepped limits ended passed count used raw raws whole)
          (goes_by ended held (judged limits (count + 1) (passed + used) raw) count used (size raw) (step_from limits ended passed (count + 1) (used + size raw) raws)
          (gone limits ended passed (count + 1) (used + size raw) held raws behind))
    ]

abbrev pub open_step : State → Step
open_step s = step_from s.limits s.ended s.passed s.count 0 (raw_lines (standing s))

-- the lines that are left: all of them, or those whose end has come
abbrev pub left_by : Bool → State → Lines
left_by all s = left_unless s.refusal (lines_behind s.limits s.count s.passed (seen all (raw_lines (standing s))))

-- ---- what a state stands for behind a step

-- where bytes were counted, nothing is used
abbrev pub UsesNone : State → ℕ → Type 0
UsesNone s used = 0 < s.beyond → used ≡ 0

same_text : (limit beyond used : ℕ) (held more : List ℕ) → (0 < beyond → IsFull limit held) → (0 < beyond → used ≡ 0) →
    stands_for limit beyond (drop used held ++ more) ≡ drop used (stands_for limit beyond held) ++ more
same_text limit zero used held more h none = stands_whole limit (drop used held ++ more) ∙ sym (ap (λ (t : List ℕ). drop used t ++ more) (stands_whole limit held))
same_text limit (suc k) used held more h none =
    let e : used ≡ 0 = none (omega arith) in
    ap (λ (n : ℕ). stands_for limit (suc k) (drop n held ++ more)) e
    ∙ piece_behind limit (suc k) held more (λ some. (h some).full)
    ∙ sym (ap (λ (n : ℕ). drop n (stands_for limit (suc k) held) ++ more) e)

uses_unless : (s : State) (refusal : Option LineRefusal) → IsStanding s → UsesNone s (step_unless refusal s.count (open_step s)).used
uses_unless s None h some = full_used s.limits s.ended s.passed s.count s.beyond s.held (h some) some
uses_unless s (Some refusal) h some = refl

uses_none : (s : State) → IsStanding s → UsesNone s (step_of s).used
uses_none s h = uses_unless s s.refusal h

pub gone_from : (s : State) (refusal : Option LineRefusal) → no_whole s.ended (standing s) (step_unless refusal s.count (open_step s))
gone_from s None = gone s.limits s.ended s.passed s.count 0 (standing s) (raw_lines (standing s)) refl
gone_from s (Some refusal) = tt

abbrev pub after_first : State → First → ℕ → ℕ → State
after_first s first count used = after_step s (record { first = first; count = count; used = used })

-- What depends on the number of an overlong line's bytes alone is behind the step as it is behind the bytes that it used.
stands_behind : {X : Type 0} (f : List Raw → X) (s : State) (first : First) (count used : ℕ) (more : List ℕ) → IsStanding s → UsesNone s used →
    no_whole s.ended (standing s) (record { first = first; count = count; used = used }) →
    ((t u : List ℕ) (raws : List Raw) → length t ≡ length u → s.limits.line < length t → f (joined t raws) ≡ f (joined u raws)) →
    f (raw_lines (standing (fed (after_first s first count used) more))) ≡ f (raw_lines (drop used (standing s) ++ more))
stands_behind f s (LineFirst line) count used more h none g same = ap (λ (t : List ℕ). f (raw_lines t)) (same_text s.limits.line s.beyond used s.held more h none)
stands_behind f s (Refusal refusal) count used more h none g same = ap (λ (t : List ℕ). f (raw_lines t)) (same_text s.limits.line s.beyond used s.held more h none)
stands_behind f s Nothing count used more h none g same = back_same f s.limits.line (drop used (standing s)) more (no_whole_unfed s.ended (drop used (standing s)) g) same

first_stands : (s : State) (first : First) (count used : ℕ) → IsStanding s → UsesNone s used →
    no_whole s.ended (standing s) (record { first = first; count = count; used = used }) → IsStanding (after_first s first count used)
first_stands s (LineFirst line) count used h none g some = subst (λ (n : ℕ). IsFull s.limits.line (drop n s.held)) (sym (none some)) (h some)
first_stands s (Refusal refusal) count used h none g some = subst (λ (n : ℕ). IsFull s.limits.line (drop n s.held)) (sym (none some)) (h some)
first_stands s Nothing count used h none g some = full_back s.limits.line (drop used (standing s)) (no_whole_unfed s.ended (drop used (standing s)) g) some

-- what is held and what was counted stay so
pub after_stands : (s : State) → IsStanding s → IsStanding (after s)
after_stands s h = first_stands s (step_of s).first (step_of s).count (step_of s).used h (uses_none s h) (gone_from s s.refusal)

-- ---- a step says what is left

-- the change by what came first
tell_left : (all : Bool) (s : State) (first : First) (count used : ℕ) (more : List ℕ) → IsStanding s → UsesNone s used →
    no_whole s.ended (standing s) (record { first = first; count = count; used = used }) →
    tell first count (lines_behind s.limits count (s.passed + used) (seen all (raw_lines (drop used (standing s) ++ more)))) ≡ tell first count (left_by all (fed (after_first s first count used) more))
tell_left all s (LineFirst line) count used more h none g =
    ap (with_line count line) (sym (stands_behind (λ raws. lines_behind s.limits count (s.passed + used) (seen all raws)) s (LineFirst line) count used more h none g (same_front all s.limits count (s.passed + used))))
tell_left all s (Refusal refusal) count used more h none g = refl
tell_left all s Nothing count used more h none g =
    sym (stands_behind (λ raws. lines_behind s.limits count (s.passed + used) (seen all raws)) s Nothing count used more h none g (same_front all s.limits count (s.passed + used)))

left_behind : (all : Bool) (s : State) (refusal : Option LineRefusal) (more : List ℕ) → s.refusal ≡ refusal → IsStanding s → CanCome s more → (s.ended ≡ true → all ≡ true) →
    left_by all (fed s more) ≡ behind_step all s.limits s.passed (standing s) more (step_unless refusal s.count (open_step s))
left_behind all s None more e h come last =
    let z : s.passed ≡ s.passed + 0 = omega arith in
    ap (λ (r : Option LineRefusal). left_unless r (lines_behind s.limits s.count s.passed (seen all (raw_lines (standing (fed s more)))))) e
    ∙ ap (λ (t : List ℕ). lines_behind s.limits s.count s.passed (seen all (raw_lines t))) (standing_fed s more h)
    ∙ ap (λ (n : ℕ). lines_behind s.limits s.count n (seen all (raw_lines (standing s ++ more)))) z
    ∙ passes all s.limits s.ended s.passed s.count 0 (standing s) more (raw_lines (standing s)) refl come last
left_behind all s (Some refusal) more e h come last = ap (λ (r : Option LineRefusal). left_unless r (lines_behind s.limits s.count s.passed (seen all (raw_lines (standing (fed s more)))))) e

-- what was left, by what the call's step says
pub left_led : (all : Bool) (s : State) (more : List ℕ) → IsStanding s → CanCome s more → (s.ended ≡ true → all ≡ true) →
    left_by all (fed s more) ≡ tell (step_of s).first (step_of s).count (left_by all (fed (after s) more))
left_led all s more h come last =
    left_behind all s s.refusal more refl h come last
    ∙ tell_left all s (step_of s).first (step_of s).count (step_of s).used more h (uses_none s h) (gone_from s s.refusal)

same_whole : (ended : Bool) (limit : ℕ) (t u : List ℕ) (raws : List Raw) → length t ≡ length u → limit < length t → begins_whole ended (joined t raws) ≡ begins_whole ended (joined u raws)
same_whole ended limit t u [] e h = refl
same_whole ended limit t u (raw ∷ raws) e h = refl

-- no line is whole behind a step that gives nothing
none_behind : (s : State) (count used : ℕ) → IsStanding s → UsesNone s used → no_whole s.ended (standing s) (record { first = Nothing; count = count; used = used }) → HasNoWhole (after_first s Nothing count used)
none_behind s count used h none g =
    ap (λ (t : List ℕ). begins_whole s.ended (raw_lines (stands_for s.limits.line (counted s.limits.line (drop used (standing s))) t))) (sym (append-nil (held_back s.limits.line (drop used (standing s)))))
    ∙ stands_behind (begins_whole s.ended) s Nothing count used [] h none g (same_whole s.ended s.limits.line)
    ∙ ap (λ (t : List ℕ). begins_whole s.ended (raw_lines t)) (append-nil (drop used (standing s)))
    ∙ g

told_step : (s : State) (first : First) (count used : ℕ) → IsStanding s → UsesNone s used → no_whole s.ended (standing s) (record { first = first; count = count; used = used }) →
    ((more : List ℕ) → CanCome s more → left (fed s more) ≡ tell first count (left (fed (after_first s first count used) more))) → Told (answer_by first count) s (after_first s first count used)
told_step s (LineFirst line) count used h none g led = led
told_step s (Refusal refusal) count used h none g led = led
told_step s Nothing count used h none g led = (led, none_behind s count used h none g)

pub told_is : (s : State) → IsStanding s → Told (answer_of s) s (after s)
told_is s h =
    told_step s (step_of s).first (step_of s).count (step_of s).used h (uses_none s h) (gone_from s s.refusal)
    (λ more come. left_led true s more h come (λ e. refl))

-- ---- the lines that are passed and those that are left are as many as before

counted_behind : (s : State) (refusal : Option LineRefusal) (more : List ℕ) → CanCome s more →
    s.count + length (raw_lines (standing s ++ more)) ≡ (step_unless refusal s.count (open_step s)).count + length (raw_lines (drop (step_unless refusal s.count (open_step s)).used (standing s) ++ more))
counted_behind s None more come = counts s.limits s.ended s.passed s.count 0 (standing s) more (raw_lines (standing s)) refl come
counted_behind s (Some refusal) more come = refl

same_number : (limit : ℕ) (t u : List ℕ) (raws : List Raw) → length t ≡ length u → limit < length t → length (joined t raws) ≡ length (joined u raws)
same_number limit t u [] e h = refl
same_number limit t u (raw ∷ raws) e h = refl

pub count_led : (s : State) (more : List ℕ) → IsStanding s → CanCome s more →
    s.count + length (raw_lines (standing (fed s more))) ≡ (after s).count + length (raw_lines (standing (fed (after s) more)))
count_led s more h come =
    ap (λ (t : List ℕ). s.count + length (raw_lines t)) (standing_fed s more h)
    ∙ counted_behind s s.refusal more come
    ∙ ap (λ (n : ℕ). (after s).count + n)
    (sym (stands_behind (λ raws. length raws) s (step_of s).first (step_of s).count (step_of s).used more h (uses_none s h) (gone_from s s.refusal) (same_number s.limits.line)))

-- ---- a line that is given has allowed fields

abbrev pub IfLine : First → Type 0
IfLine (LineFirst line) = IsAllowed line
IfLine (Refusal refusal) = Unit {0}
IfLine Nothing = Unit {0}

abbrev IfGivenLine : Judged → Type 0
IfGivenLine Blank = Unit {0}
IfGivenLine (Given line) = IsAllowed line
IfGivenLine (Refused refusal) = Unit {0}

content_allowed : (number : ℕ) (bytes : List ℕ) (j : Judged) → judged_content number bytes ≡ j → IfGivenLine j
content_allowed number bytes Blank e = tt
content_allowed number bytes (Given line) e = given_allowed number bytes line e
content_allowed number bytes (Refused refusal) e = tt

picked_allowed : (a b : Bool) (x y : LineRefusal) (j : Judged) → IfGivenLine j → IfGivenLine (cond a (Refused x) (cond b (Refused y) j))
picked_allowed true b x y j h = tt
picked_allowed false true x y j h = tt
picked_allowed false false x y j h = h

judged_allowed : (limits : Limits) (number passed : ℕ) (raw : Raw) → IfGivenLine (judged limits number passed raw)
judged_allowed limits number passed raw =
    picked_allowed (nat_lt limits.total (passed + size raw)) (nat_lt limits.line (length raw.bytes)) (LogTooLong number) (TooLong number) (judged_content number (content raw.bytes))
    (content_allowed number (content raw.bytes) (judged_content number (content raw.bytes)) refl)

decided_allowed : (j : Judged) (count used more : ℕ) (next : Step) → IfGivenLine j → IfLine next.first → IfLine (decided j count used more next).first
decided_allowed Blank count used more next hj hn = hn
decided_allowed (Given line) count used more next hj hn = hj
decided_allowed (Refused refusal) count used more next hj hn = tt

step_allowed : (limits : Limits) (ended : Bool) (passed count used : ℕ) (raws : List Raw) → IfLine (step_from limits ended passed count used raws).first
step_allowed limits ended passed count used [] = tt
step_allowed limits ended passed count used (raw ∷ raws) =
    elim (cases_Bool (raw.fed || ended)) [
      | inr part ↦ rw (stays limits ended passed count used raw raws part) tt
      | inl whole ↦
          rw (stepped limits ended passed count used raw raws whole)
          (decided_allowed (judged limits (count + 1) (passed + used) raw) count used (size raw) (step_from limits ended passed (count + 1) (used + size raw) raws)
          (judged_allowed limits (count + 1) (passed + used) raw) (step_allowed limits ended passed (count + 1) (used + size raw) raws))
    ]

unless_allowed : (refusal : Option LineRefusal) (count : ℕ) (step : Step) → IfLine step.first → IfLine (step_unless refusal count step).first
unless_allowed None count step h = h
unless_allowed (Some refusal) count step h = tt

pub line_step : (s : State) (line : Line) → (step_of s).first ≡ LineFirst line → IsAllowed line
line_step s line e =
    subst IfLine e (unless_allowed s.refusal s.count (open_step s) (step_allowed s.limits s.ended s.passed s.count 0 (raw_lines (standing s))))

told_along : (r : Result (Option (ℕ × Line)) LineFault) (s now : State) → IsStanding s → r ≡ answer_of s → now ≡ after s → Told r s now
told_along r s now h e f =
    subst (λ (z : Result (Option (ℕ × Line)) LineFault). Told z s now) (sym e) (subst (λ (t : State). Told (answer_of s) s t) (sym f) (told_is s h))

pub told_of : (r : Result (Option (ℕ × Line)) LineFault) (s now : State) → IsStanding s → UnlessMemory r (r ≡ answer_of s) → UnlessMemory r (now ≡ after s) → IfMemory r (now ≡ s) → Told r s now
told_of (Ok answer) s now h e f g = told_along (Ok answer) s now h e f
told_of (Err (RefusedFault refusal)) s now h e f g = told_along (Err (RefusedFault refusal)) s now h e f
told_of (Err Memory) s now h e f g = g
