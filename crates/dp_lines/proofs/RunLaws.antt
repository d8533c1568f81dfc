-- Any calls of a reader give the lines of all that it was fed.
use Rattle.std.proofs.Common.{◌≡◌, ℕ, ◌+◌, ◌-◌, Bool, true, false, cond, ◌||◌, eqb, List, [], ◌∷◌, ◌++◌, length, drop, take, append_assoc, Option, Some, None, Ok, refl, sym, ap, ◌∙◌, arith}
use Rattle.std.proofs.lemmas.List.{append-nil, take_all}
use Rattle.dp_lines.specs.Lines.{Lines, lines, lines_behind, no_lines, with_line}
use Rattle.dp_lines.specs.Kept.{begins_whole, has_no_feed}
use Rattle.dp_lines.specs.RawLines.{Raw, raw_lines, with_byte}
use Rattle.dp_lines.specs.Readers.{IsStanding, State, after, answer_by, answer_of, closed, fed, fresh, left, left_unless, refusal_in, standing, stands_for, step_of}
use Rattle.dp_lines.specs.Runs.{Call, Feed, End, Ask, IsInOrder, Run, fed_by, run, with_all, with_first}
use Rattle.dp_lines.specs.SoFar.{HasNoEnd, left_so_far, lines_so_far, whole_lines}
use Rattle.dp_lines.specs.Standing.{HasNoWhole}
use Rattle.dp_lines.specs.declared.line.Line.{Line}
use Rattle.dp_lines.specs.declared.refusal.Limits.{Limits}
use Rattle.dp_lines.specs.declared.refusal.LineRefusal.{LineRefusal}
use Rattle.dp_lines.specs.declared.step.First.{First}
use Rattle.dp_lines.specs.declared.step.First.TheVariants.{Line as LineFirst, Refusal, Nothing}
use Rattle.dp_lines.proofs.HeldLaws.{fed_stands, stands_whole, stood_for}
use Rattle.dp_lines.proofs.LongLaws.{seen}
use Rattle.dp_lines.proofs.RawLaws.{no_whole_unfed, raw_unfed}
use Rattle.dp_lines.proofs.StepLaws.{after_first, after_stands, count_led, gone_from, left_by, left_led, no_whole, tell}

-- what the run gave and what it left
abbrev told_by : Bool → Run → Lines
told_by all r = with_all r.given (left_by all r.state)

nothing_more : (calls : List Call) → IsInOrder true calls → fed_by calls ≡ []
nothing_more [] h = refl
nothing_more (Feed piece ∷ calls) h = let false_end = h.0 in absurd cc
nothing_more (End ∷ calls) h = nothing_more calls h
nothing_more (Ask ∷ calls) h = nothing_more calls h

in_order : (ended : Bool) (calls : List Call) → IsInOrder ended calls → ended ≡ true → fed_by calls ≡ []
in_order true calls h e = nothing_more calls h
in_order false calls h e = absurd cc

-- more pieces stand behind the first
fed_twice : (all : Bool) (s : State) (piece more : List ℕ) → left_by all (fed (fed s piece) more) ≡ left_by all (fed s (piece ++ more))
fed_twice all s piece more = ap (λ (t : List ℕ). left_by all (record s { held = t })) (append_assoc s.held piece more)

fed_none : (all : Bool) (s : State) → left_by all s ≡ left_by all (fed s [])
fed_none all s = ap (λ (t : List ℕ). left_by all (record s { held = t })) (sym (append-nil s.held))

-- a call that asks
asked : (all : Bool) (s : State) (first : First) (count used : ℕ) (more : List ℕ) (later : Run) →
    left_by all (fed s more) ≡ tell first count (left_by all (fed (after_first s first count used) more)) → told_by all later ≡ left_by all (fed (after_first s first count used) more) →
    told_by all (with_first first count later) ≡ left_by all (fed s more)
asked all s (LineFirst line) count used more later led e = ap (with_line count line) e ∙ sym led
asked all s (Refusal refusal) count used more later led e = e ∙ sym led
asked all s Nothing count used more later led e = e ∙ sym led

run_by : (all : Bool) (calls : List Call) (s : State) → IsStanding s → IsInOrder s.ended calls → (s.ended ≡ true → all ≡ true) → (all ≡ false → HasNoEnd calls) →
    told_by all (run calls s) ≡ left_by all (fed s (fed_by calls))
run_by all [] s stands h last none = fed_none all s
run_by all (Feed piece ∷ calls) s stands h last none = run_by all calls (fed s piece) (fed_stands s piece stands) h.1 last none ∙ fed_twice all s piece (fed_by calls)
run_by true (End ∷ calls) s stands h last none = run_by true calls (closed s) stands h (λ e. refl) (λ e. let f = e in absurd cc)
run_by false (End ∷ calls) s stands h last none = absurd (none refl)
run_by all (Ask ∷ calls) s stands h last none =
    asked all s (step_of s).first (step_of s).count (step_of s).used (fed_by calls) (run calls (after s)) (left_led all s (fed_by calls) stands (in_order s.ended calls h) last)
    (run_by all calls (after s) (after_stands s stands) h last none)

fresh_stands : (limits : Limits) → IsStanding (fresh limits)
fresh_stands limits some = absurd (omega (arith, some))

-- from a fresh reader on
pub run_fresh : (calls : List Call) (limits : Limits) → IsInOrder false calls → with_all (run calls (fresh limits)).given (left (run calls (fresh limits)).state) ≡ lines limits (fed_by calls)
run_fresh calls limits h =
    run_by true calls (fresh limits) (fresh_stands limits) h (λ e. refl) (λ e. let f = e in absurd cc)
    ∙ ap (λ (t : List ℕ). lines_behind limits 0 0 (raw_lines t)) (stands_whole limits.line (fed_by calls))

-- ---- the number of lines

-- the lines passed and those that are left
abbrev all_lines : State → ℕ
all_lines s = s.count + length (raw_lines (standing s))

same_state : (first : First) (count : ℕ) (later : Run) → all_lines (with_first first count later).state ≡ all_lines later.state
same_state (LineFirst line) count later = refl
same_state (Refusal refusal) count later = refl
same_state Nothing count later = refl

run_counts : (calls : List Call) (s : State) → IsStanding s → IsInOrder s.ended calls → all_lines (run calls s).state ≡ all_lines (fed s (fed_by calls))
run_counts [] s stands h = ap (λ (t : List ℕ). all_lines (record s { held = t })) (sym (append-nil s.held))
run_counts (Feed piece ∷ calls) s stands h =
    run_counts calls (fed s piece) (fed_stands s piece stands) h.1 ∙ ap (λ (t : List ℕ). all_lines (record s { held = t })) (append_assoc s.held piece (fed_by calls))
run_counts (End ∷ calls) s stands h = run_counts calls (closed s) stands h
run_counts (Ask ∷ calls) s stands h =
    same_state (step_of s).first (step_of s).count (run calls (after s)) ∙ run_counts calls (after s) (after_stands s stands) h ∙ sym (count_led s (fed_by calls) stands (in_order s.ended calls h))

pub counts_fresh : (calls : List Call) (limits : Limits) → IsInOrder false calls → all_lines (run calls (fresh limits)).state ≡ length (raw_lines (fed_by calls))
counts_fresh calls limits h =
    let z : 0 + length (raw_lines (fed_by calls)) ≡ length (raw_lines (fed_by calls)) = omega arith in
    run_counts calls (fresh limits) (fresh_stands limits) h ∙ ap (λ (t : List ℕ). 0 + length (raw_lines t)) (stands_whole limits.line (fed_by calls)) ∙ z

-- ---- the lines so far

open_order : (calls : List Call) → HasNoEnd calls → IsInOrder false calls
open_order [] h = tt
open_order (Feed piece ∷ calls) h = (refl, open_order calls h)
open_order (End ∷ calls) h = absurd h
open_order (Ask ∷ calls) h = open_order calls h

pub run_so_far : (calls : List Call) (limits : Limits) → HasNoEnd calls → with_all (run calls (fresh limits)).given (left_so_far (run calls (fresh limits)).state) ≡ lines_so_far limits (fed_by calls)
run_so_far calls limits h =
    run_by false calls (fresh limits) (fresh_stands limits) (open_order calls h) (λ e. let f = e in absurd cc) (λ e. h)
    ∙ ap (λ (t : List ℕ). lines_behind limits 0 0 (whole_lines t)) (stands_whole limits.line (fed_by calls))

-- where no line is whole, none is left so far
no_seen : (t : List ℕ) → has_no_feed t ≡ true → whole_lines t ≡ []
no_seen [] e = refl
no_seen (b ∷ t) e = ap (λ (raws : List Raw). seen false raws) (raw_unfed (b ∷ t) e (omega arith))

none_so_far : (s : State) → HasNoWhole s → s.refusal ≡ None → left_so_far s ≡ no_lines
none_so_far s h e =
    ap (λ (r : Option LineRefusal). left_unless r (lines_behind s.limits s.count s.passed (whole_lines (standing s)))) e
    ∙ ap (λ (raws : List Raw). lines_behind s.limits s.count s.passed raws) (no_seen (standing s) (no_whole_unfed s.ended (standing s) h))

pub given_so_far : (calls : List Call) (limits : Limits) → HasNoEnd calls → HasNoWhole (run calls (fresh limits)).state → (run calls (fresh limits)).state.refusal ≡ None →
    lines_so_far limits (fed_by calls) ≡ record { given = (run calls (fresh limits)).given; refusal = None }
given_so_far calls limits h whole e =
    sym (run_so_far calls limits h)
    ∙ ap (with_all (run calls (fresh limits)).given) (none_so_far (run calls (fresh limits)).state whole e)
    ∙ ap (λ (given : List (ℕ × Line)). record { given = given; refusal = None }) (append-nil (run calls (fresh limits)).given)

pub refused_so_far : (calls : List Call) (limits : Limits) (refusal : LineRefusal) → HasNoEnd calls → (run calls (fresh limits)).state.refusal ≡ Some refusal →
    lines_so_far limits (fed_by calls) ≡ record { given = (run calls (fresh limits)).given; refusal = Some refusal }
refused_so_far calls limits refusal h e =
    let s : State = (run calls (fresh limits)).state in
    sym (run_so_far calls limits h)
    ∙ ap (λ (r : Option LineRefusal). with_all (run calls (fresh limits)).given (left_unless r (lines_behind s.limits s.count s.passed (whole_lines (standing s))))) e
    ∙ ap (λ (given : List (ℕ × Line)). record { given = given; refusal = Some refusal }) (append-nil (run calls (fresh limits)).given)

-- ---- behind the end

or_true : (b : Bool) → (b || true) ≡ true
or_true true = refl
or_true false = refl

none_whole : (raws : List Raw) → begins_whole true raws ≡ false → raws ≡ []
none_whole [] h = refl
none_whole (raw ∷ raws) h = let w = sym (or_true raw.fed) ∙ h in absurd cc

some_raw : (b : ℕ) (c : Bool) (raws more : List Raw) → cond c (record { bytes = []; fed = true } ∷ more) (with_byte b raws) ≡ [] → ⊥
some_raw b true raws more e = cc
some_raw b false [] more e = cc
some_raw b false (raw ∷ raws) more e = cc

no_bytes : (t : List ℕ) → raw_lines t ≡ [] → t ≡ []
no_bytes [] e = refl
no_bytes (b ∷ t) e = absurd (some_raw b (eqb b 10) (raw_lines t) (raw_lines t) e)

used_up : (text : List ℕ) → begins_whole true (raw_lines text) ≡ false → text ≡ []
used_up text h = no_bytes text (none_whole (raw_lines text) h)

-- nothing is held and counted where nothing is left
first_empty : (s : State) (first : First) (count used : ℕ) → s.ended ≡ true → answer_by first count ≡ Ok None → no_whole s.ended (standing s) (record { first = first; count = count; used = used }) →
    standing (after_first s first count used) ≡ []
first_empty s (LineFirst line) count used e answer g = absurd cc
first_empty s (Refusal refusal) count used e answer g = absurd cc
first_empty s Nothing count used e answer g =
    let limit : ℕ = s.limits.line in
    let text : List ℕ = drop used (standing s) in
    let none : text ≡ [] = used_up text (ap (λ (b : Bool). begins_whole b (raw_lines text)) (sym e) ∙ g) in
    let z : 0 - limit ≡ 0 = omega arith in
    ap (stood_for limit) none ∙ ap (λ (n : ℕ). stands_for limit n (take limit [])) z ∙ stands_whole limit (take limit []) ∙ take_all limit [] (omega arith)

pub ends_empty : (s : State) → s.ended ≡ true → answer_of s ≡ Ok None → standing (after s) ≡ []
ends_empty s e answer = first_empty s (step_of s).first (step_of s).count (step_of s).used e answer (gone_from s s.refusal)

no_refusal : (first : First) (count : ℕ) → answer_by first count ≡ Ok None → refusal_in first ≡ None
no_refusal (LineFirst line) count e = refl
no_refusal (Refusal refusal) count e = absurd cc
no_refusal Nothing count e = refl

pub ends_without : (s : State) → s.ended ≡ true → answer_of s ≡ Ok None → left (after s) ≡ no_lines
ends_without s e answer =
    ap (λ (r : Option LineRefusal). left_unless r (lines_behind s.limits (after s).count (after s).passed (raw_lines (standing (after s))))) (no_refusal (step_of s).first (step_of s).count answer)
    ∙ ap (λ (t : List ℕ). lines_behind s.limits (after s).count (after s).passed (raw_lines t)) (ends_empty s e answer)
