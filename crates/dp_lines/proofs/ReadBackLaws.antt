-- A canonical log is read back: by a reader line by line, and as a whole.
use Rattle.std.proofs.Common.{◌≡◌, ℕ, suc, ◌+◌, ◌≤◌, Bool, true, false, List, [], ◌∷◌, ◌++◌, length, length-append, drop, append_assoc, Option, Some, None, Ok, refl, sym, ap, ◌∙◌, arith}
use Rattle.std.specs.List.{enumerate_from}
use Rattle.std.proofs.lemmas.List.{append-nil, drop_at}
use Rattle.std.proofs.lemmas.List.Concat.{flat_map-cons}
use Rattle.dp_base.specs.Lists.{Each}
use Rattle.dp_lines.specs.Lines.{Lines, lines, lines_behind, no_lines, with_line}
use Rattle.dp_lines.specs.Logs.{AreNext, Holds, IsNext, all_of, asked_for, behind_line, behind_log, log_text}
use Rattle.dp_lines.specs.RawLines.{Raw, raw_lines}
use Rattle.dp_lines.specs.Readers.{State, after, after_step, answer_by, answer_of, decided, fed, fresh, left, standing, stands_for, step_from, step_of, step_unless}
use Rattle.dp_lines.specs.Runs.{Call, IsInOrder, Run, fed_by, run, with_all, with_first}
use Rattle.dp_lines.specs.Spelling.{fields_text, line_text}
use Rattle.dp_lines.specs.declared.judge.Judged.{Judged}
use Rattle.dp_lines.specs.declared.line.Line.{Line}
use Rattle.dp_lines.specs.declared.refusal.LineRefusal.{LineRefusal}
use Rattle.dp_lines.specs.declared.refusal.Limits.{Limits}
use Rattle.dp_lines.specs.declared.step.First.TheVariants.{Line as LineFirst}
use Rattle.dp_lines.specs.declared.step.Step.{Step}
use Rattle.dp_lines.proofs.HeldLaws.{length_standing, stands_whole}
use Rattle.dp_lines.proofs.RoundTrip.{judged_again, line_cut, log_again}
use Rattle.dp_lines.proofs.RunLaws.{run_fresh}

-- ---- one line by a reader

-- the step that gives the line
abbrev given_step : State → Line → Step
given_step s line = record { first = LineFirst line; count = s.count + 1; used = length (line_text line) }

long : (line : Line) → length (line_text line) ≡ length (fields_text line) + 1
long line = length-append (fields_text line) (10 ∷ [])

-- the line is the first of the raw lines
first_step : (limits : Limits) (ended : Bool) (passed count : ℕ) (line : Line) (raws : List Raw) → Holds limits line → passed + length (line_text line) ≤ limits.total →
    step_from limits ended passed count 0 (record { bytes = fields_text line; fed = true } ∷ raws) ≡ record { first = LineFirst line; count = count + 1; used = length (line_text line) }
first_step limits ended passed count line raws fits within =
    let z = long line in
    let k : ℕ = length (fields_text line) + 1 in
    let room : passed + 0 + (length (fields_text line) + 1) ≤ limits.total = omega (arith, z) in
    let used : 0 + (length (fields_text line) + 1) ≡ length (line_text line) = omega (arith, z) in
    ap (λ (j : Judged). decided j count 0 k (step_from limits ended passed (count + 1) (0 + k) raws)) (judged_again limits (count + 1) (passed + 0) line fits.0 fits.1 room)
    ∙ ap (λ (n : ℕ). record { first = LineFirst line; count = count + 1; used = n }) used

next_step : (s : State) (line : Line) (rest : List ℕ) → IsNext s line rest → step_of s ≡ given_step s line
next_step s line rest h =
    ap (λ (r : Option LineRefusal). step_unless r s.count (step_from s.limits s.ended s.passed s.count 0 (raw_lines (standing s)))) h.unrefused
    ∙ ap (λ (n : ℕ). step_from s.limits s.ended s.passed s.count 0 (raw_lines (stands_for s.limits.line n s.held))) h.uncounted
    ∙ ap (λ (t : List ℕ). step_from s.limits s.ended s.passed s.count 0 (raw_lines t)) (stands_whole s.limits.line s.held ∙ h.begins)
    ∙ ap (λ (raws : List Raw). step_from s.limits s.ended s.passed s.count 0 raws) (line_cut line rest h.fits.0)
    ∙ first_step s.limits s.ended s.passed s.count line (raw_lines rest) h.fits h.within

pub next_line : (s : State) (line : Line) (rest : List ℕ) → IsNext s line rest → answer_of s ≡ Ok (Some (s.count + 1, line))
next_line s line rest h = ap (λ (step : Step). answer_by step.first step.count) (next_step s line rest h)

pub next_state : (s : State) (line : Line) (rest : List ℕ) → IsNext s line rest → after s ≡ behind_line s line rest
next_state s line rest h =
    let n : ℕ = length (line_text line) in
    let behind : drop n s.held ≡ rest = ap (drop n) h.begins ∙ drop_at (line_text line) rest n refl in
    ap (after_step s) (next_step s line rest h)
    ∙ ap (λ (t : List ℕ). record s { count = s.count + 1; passed = s.passed + n; held = t; refusal = None }) behind
    ∙ ap (λ (r : Option LineRefusal). record s { count = s.count + 1; passed = s.passed + n; held = rest; refusal = r }) (sym h.unrefused)

no_length : (t : List ℕ) → length t ≡ 0 → t ≡ []
no_length [] e = refl
no_length (b ∷ t) e = absurd (omega (arith, e))

pub fed_line : (s : State) (line : Line) (rest : List ℕ) → standing s ≡ [] → s.refusal ≡ None → Holds s.limits line → s.passed + length (line_text line) ≤ s.limits.total →
    answer_of (fed s (line_text line ++ rest)) ≡ Ok (Some (s.count + 1, line))
fed_line s line rest empty unrefused fits within =
    let none : length s.held + s.beyond ≡ 0 = sym (length_standing s.limits.line s.beyond s.held) ∙ ap (λ (t : List ℕ). length t) empty in
    let bare : s.held ≡ [] = no_length s.held (omega (arith, none)) in
    next_line (fed s (line_text line ++ rest)) line rest
    (record { begins = ap (λ (t : List ℕ). t ++ (line_text line ++ rest)) bare; uncounted = omega (arith, none); unrefused = unrefused; fits = fits; within = within })

-- ---- a log by a reader, line by line

-- the run that gives these lines
abbrev given_run : State → List Line → List ℕ → Run
given_run s log rest = record { given = enumerate_from (s.count + 1) log; state = behind_log s log rest }

pub log_asked : (s : State) (log : List Line) (rest : List ℕ) → AreNext s log rest → run (asked_for log) s ≡ given_run s log rest
log_asked s [] rest h =
    let c : s.count ≡ s.count + 0 = omega arith in
    let p : s.passed ≡ s.passed + 0 = omega arith in
    ap (λ (t : List ℕ). record { given = []; state = record s { held = t } }) h.begins
    ∙ ap (λ (n : ℕ). record { given = []; state = record s { count = n; held = rest } }) c
    ∙ ap (λ (n : ℕ). record { given = []; state = record s { count = s.count + 0; passed = n; held = rest } }) p
log_asked s (line ∷ log) rest h =
    let joined : log_text (line ∷ log) ≡ line_text line ++ log_text log = flat_map-cons line_text line log in
    let z : length (log_text (line ∷ log)) ≡ length (line_text line) + length (log_text log) = ap (λ (t : List ℕ). length t) joined ∙ length-append (line_text line) (log_text log) in
    let w = h.within in
    let here : s.passed + length (line_text line) ≤ s.limits.total = omega (arith, z, w) in
    let later : s.passed + length (line_text line) + length (log_text log) ≤ s.limits.total = omega (arith, z, w) in
    let more : List ℕ = log_text log ++ rest in
    let next : IsNext s line more = record {
      begins = h.begins ∙ ap (λ (t : List ℕ). t ++ rest) joined ∙ append_assoc (line_text line) (log_text log) rest;
      uncounted = h.uncounted;
      unrefused = h.unrefused;
      fits = h.fits.0;
      within = here;
    } in
    let s1 : State = behind_line s line more in
    let rest_run : run (asked_for log) s1 ≡ given_run s1 log rest =
    log_asked s1 log rest (record { begins = refl; uncounted = h.uncounted; unrefused = h.unrefused; fits = h.fits.1; within = later }) in
    let c : s.count + 1 + length log ≡ s.count + suc (length log) = omega arith in
    let p : s.passed + length (line_text line) + length (log_text log) ≡ s.passed + length (log_text (line ∷ log)) = omega (arith, z) in
    ap (λ (step : Step). with_first step.first step.count (run (asked_for log) (after s))) (next_step s line more next)
    ∙ ap (λ (t : State). with_first (LineFirst line) (s.count + 1) (run (asked_for log) t)) (next_state s line more next)
    ∙ ap (λ (r : Run). with_first (LineFirst line) (s.count + 1) r) rest_run
    ∙ ap (λ (n : ℕ). record { given = enumerate_from (s.count + 1) (line ∷ log); state = record s { count = n; passed = s.passed + length (line_text line) + length (log_text log); held = rest } }) c
    ∙ ap (λ (n : ℕ). record { given = enumerate_from (s.count + 1) (line ∷ log); state = record s { count = s.count + suc (length log); passed = n; held = rest } }) p

-- ---- a log as a text

log_behind : (limits : Limits) (count passed : ℕ) (log : List Line) (rest : List ℕ) → Each (Holds limits) log → passed + length (log_text log) ≤ limits.total →
    lines_behind limits count passed (raw_lines (log_text log ++ rest))
    ≡ with_all (enumerate_from (count + 1) log) (lines_behind limits (count + length log) (passed + length (log_text log)) (raw_lines rest))
log_behind limits count passed [] rest each within =
    let c : count ≡ count + 0 = omega arith in
    let p : passed ≡ passed + 0 = omega arith in
    ap (λ (n : ℕ). lines_behind limits n passed (raw_lines rest)) c ∙ ap (λ (n : ℕ). lines_behind limits (count + 0) n (raw_lines rest)) p
log_behind limits count passed (line ∷ log) rest each within =
    let k : ℕ = length (line_text line) in
    let joined : log_text (line ∷ log) ≡ line_text line ++ log_text log = flat_map-cons line_text line log in
    let z : length (log_text (line ∷ log)) ≡ length (line_text line) + length (log_text log) = ap (λ (t : List ℕ). length t) joined ∙ length-append (line_text line) (log_text log) in
    let here : passed + length (line_text line) ≤ limits.total = omega (arith, z) in
    let later : passed + length (line_text line) + length (log_text log) ≤ limits.total = omega (arith, z) in
    let c : count + 1 + length log ≡ count + suc (length log) = omega arith in
    let p : passed + length (line_text line) + length (log_text log) ≡ passed + length (log_text (line ∷ log)) = omega (arith, z) in
    ap (λ (t : List ℕ). lines_behind limits count passed (raw_lines (t ++ rest))) joined
    ∙ ap (λ (t : List ℕ). lines_behind limits count passed (raw_lines t)) (append_assoc (line_text line) (log_text log) rest)
    ∙ log_again limits count passed line (log_text log ++ rest) each.0.0 each.0.1 here
    ∙ ap (λ (ls : Lines). with_line (count + 1) line ls) (log_behind limits (count + 1) (passed + k) log rest each.1 later)
    ∙ ap (λ (n : ℕ). with_all (enumerate_from (count + 1) (line ∷ log)) (lines_behind limits n (passed + k + length (log_text log)) (raw_lines rest))) c
    ∙ ap (λ (n : ℕ). with_all (enumerate_from (count + 1) (line ∷ log)) (lines_behind limits (count + suc (length log)) n (raw_lines rest))) p

pub log_front : (limits : Limits) (log : List Line) (rest : List ℕ) → Each (Holds limits) log → length (log_text log) ≤ limits.total →
    lines limits (log_text log ++ rest) ≡ with_all (enumerate_from 1 log) (lines_behind limits (length log) (length (log_text log)) (raw_lines rest))
log_front limits log rest each within =
    let room : 0 + length (log_text log) ≤ limits.total = omega arith in
    let c : 0 + length log ≡ length log = omega arith in
    let p : 0 + length (log_text log) ≡ length (log_text log) = omega arith in
    log_behind limits 0 0 log rest each room
    ∙ ap (λ (n : ℕ). with_all (enumerate_from 1 log) (lines_behind limits n (0 + length (log_text log)) (raw_lines rest))) c
    ∙ ap (λ (n : ℕ). with_all (enumerate_from 1 log) (lines_behind limits (length log) n (raw_lines rest))) p

pub log_whole : (limits : Limits) (log : List Line) → Each (Holds limits) log → length (log_text log) ≤ limits.total → lines limits (log_text log) ≡ all_of log
log_whole limits log each within =
    ap (lines limits) (sym (append-nil (log_text log)))
    ∙ log_front limits log [] each within
    ∙ ap (λ (given : List (ℕ × Line)). record { given = given; refusal = None }) (append-nil (enumerate_from 1 log))

-- ---- a log in pieces

pub log_told : (calls : List Call) (limits : Limits) (log : List Line) → IsInOrder false calls → fed_by calls ≡ log_text log → Each (Holds limits) log → length (log_text log) ≤ limits.total →
    with_all (run calls (fresh limits)).given (left (run calls (fresh limits)).state) ≡ all_of log
log_told calls limits log order e each within = run_fresh calls limits order ∙ ap (lines limits) e ∙ log_whole limits log each within

pub log_given : (calls : List Call) (limits : Limits) (log : List Line) → IsInOrder false calls → fed_by calls ≡ log_text log → Each (Holds limits) log → length (log_text log) ≤ limits.total →
    left (run calls (fresh limits)).state ≡ no_lines → (run calls (fresh limits)).given ≡ enumerate_from 1 log
log_given calls limits log order e each within none =
    sym (append-nil (run calls (fresh limits)).given)
    ∙ ap (λ (ls : Lines). (run calls (fresh limits)).given ++ ls.given) (sym none)
    ∙ ap (λ (ls : Lines). ls.given) (log_told calls limits log order e each within)
