-- What each call of a reader brings to a text that comes in pieces.
use Rattle.std.proofs.Common.{◌≡◌, ℕ, ◌+◌, ◌<◌, Bool, true, false, List, [], ◌∷◌, ◌++◌, length, append_assoc, Option, Some, None, Result, Ok, Err, refl, sym, ap, subst, ◌∙◌, arith}
use Rattle.std.proofs.lemmas.List.{append-nil, length-append}
use Rattle.dp_lines.specs.Answers.{UnlessMemory}
use Rattle.dp_lines.specs.Lines.{lines}
use Rattle.dp_lines.specs.Pieces.{HasRead}
use Rattle.dp_lines.specs.RawLines.{raw_lines}
use Rattle.dp_lines.specs.Readers.{State, after, IsStanding, answer_by, answer_of, closed, fed, fresh, left, left_unless, refusal_in, standing, step_from, step_of, step_unless, total}
use Rattle.dp_lines.specs.Readers as reader
use Rattle.dp_lines.specs.Runs.{Call, Feed, End, Ask, IsInOrder, Run, fed_by, run, with_all, with_first}
use Rattle.dp_lines.specs.SoFar.{HasNoEnd, lines_so_far}
use Rattle.dp_lines.specs.Standing.{CanCome, HasNoWhole, Told}
use Rattle.dp_lines.specs.declared.line.Line.{Line}
use Rattle.dp_lines.specs.declared.refusal.LineFault.{LineFault}
use Rattle.dp_lines.specs.declared.refusal.LineFault.TheVariants.{Refused, Memory}
use Rattle.dp_lines.specs.declared.refusal.LineRefusal.{LineRefusal}
use Rattle.dp_lines.specs.declared.refusal.Limits.{Limits}
use Rattle.dp_lines.specs.declared.step.First.{First}
use Rattle.dp_lines.specs.declared.step.First.TheVariants.{Line as LineFirst, Refusal, Nothing}
use Rattle.dp_lines.specs.declared.step.Step.{Step}
use Rattle.dp_lines.proofs.LeftLaws.{fewer_held}
use Rattle.dp_lines.proofs.RunLaws.{counts_fresh, ends_empty, ends_without, given_so_far, run_fresh}

-- ---- calls behind calls

first_gave : (first : First) (count : ℕ) (r later : Run) (rest : List (ℕ × Line)) → later.given ≡ r.given ++ rest →
    (with_first first count later).given ≡ (with_first first count r).given ++ rest
first_gave (LineFirst line) count r later rest e = ap (λ (g : List (ℕ × Line)). (count, line) ∷ g) e
first_gave (Refusal refusal) count r later rest e = e
first_gave Nothing count r later rest e = e

pub first_stands : (first : First) (count : ℕ) (r : Run) → (with_first first count r).state ≡ r.state
first_stands (LineFirst line) count r = refl
first_stands (Refusal refusal) count r = refl
first_stands Nothing count r = refl

run_stands : (calls more : List Call) (s : State) → (run (calls ++ more) s).state ≡ (run more (run calls s).state).state
run_stands [] more s = refl
run_stands (Feed piece ∷ calls) more s = run_stands calls more (fed s piece)
run_stands (End ∷ calls) more s = run_stands calls more (closed s)
run_stands (Ask ∷ calls) more s =
    first_stands (step_of s).first (step_of s).count (run (calls ++ more) (after s)) ∙ run_stands calls more (after s)
    ∙ ap (λ (t : State). (run more t).state) (sym (first_stands (step_of s).first (step_of s).count (run calls (after s))))

run_gave : (calls more : List Call) (s : State) → (run (calls ++ more) s).given ≡ (run calls s).given ++ (run more (run calls s).state).given
run_gave [] more s = refl
run_gave (Feed piece ∷ calls) more s = run_gave calls more (fed s piece)
run_gave (End ∷ calls) more s = run_gave calls more (closed s)
run_gave (Ask ∷ calls) more s =
    let first : First = (step_of s).first in
    let count : ℕ = (step_of s).count in
    let r : Run = run calls (after s) in
    first_gave first count r (run (calls ++ more) (after s)) (run more r.state).given (run_gave calls more (after s))
    ∙ ap (λ (t : State). (with_first first count r).given ++ (run more t).given) (sym (first_stands first count r))

fed_more : (calls more : List Call) → fed_by (calls ++ more) ≡ fed_by calls ++ fed_by more
fed_more [] more = refl
fed_more (Feed piece ∷ calls) more = ap (λ (t : List ℕ). piece ++ t) (fed_more calls more) ∙ sym (append_assoc piece (fed_by calls) (fed_by more))
fed_more (End ∷ calls) more = fed_more calls more
fed_more (Ask ∷ calls) more = fed_more calls more

-- ---- the order of the calls

feed_order : (calls : List Call) (piece : List ℕ) → HasNoEnd calls → IsInOrder false (calls ++ Feed piece ∷ [])
feed_order [] piece h = (refl, tt)
feed_order (Feed other ∷ calls) piece h = (refl, feed_order calls piece h)
feed_order (End ∷ calls) piece h = absurd h
feed_order (Ask ∷ calls) piece h = feed_order calls piece h

feed_open : (calls : List Call) (piece : List ℕ) → HasNoEnd calls → HasNoEnd (calls ++ Feed piece ∷ [])
feed_open [] piece h = tt
feed_open (Feed other ∷ calls) piece h = feed_open calls piece h
feed_open (End ∷ calls) piece h = absurd h
feed_open (Ask ∷ calls) piece h = feed_open calls piece h

end_order : (ended : Bool) (calls : List Call) → IsInOrder ended calls → IsInOrder ended (calls ++ End ∷ [])
end_order ended [] h = tt
end_order ended (Feed piece ∷ calls) h = (h.0, end_order ended calls h.1)
end_order ended (End ∷ calls) h = end_order true calls h
end_order ended (Ask ∷ calls) h = end_order ended calls h

ask_order : (ended : Bool) (calls : List Call) → IsInOrder ended calls → IsInOrder ended (calls ++ Ask ∷ [])
ask_order ended [] h = tt
ask_order ended (Feed piece ∷ calls) h = (h.0, ask_order ended calls h.1)
ask_order ended (End ∷ calls) h = ask_order true calls h
ask_order ended (Ask ∷ calls) h = ask_order ended calls h

ask_open : (calls : List Call) → HasNoEnd calls → HasNoEnd (calls ++ Ask ∷ [])
ask_open [] h = tt
ask_open (Feed piece ∷ calls) h = ask_open calls h
ask_open (End ∷ calls) h = absurd h
ask_open (Ask ∷ calls) h = ask_open calls h

-- ---- what each call brings

-- nothing has come
pub has_begun : (limits : Limits) → HasRead limits [] [] (fresh limits)
has_begun limits = record { calls = []; order = tt; unended = λ e. tt; fed = refl; gave = refl; stands = refl; size = refl }

-- one more call
called : (limits : Limits) (text : List ℕ) (given : List (ℕ × Line)) (s now : State) (call : Call) (piece : List ℕ) (more : List (ℕ × Line)) (h : HasRead limits text given s) →
    IsInOrder false (h.calls ++ call ∷ []) → (now.ended ≡ false → HasNoEnd (h.calls ++ call ∷ [])) → fed_by (call ∷ []) ≡ piece →
    (run (call ∷ []) s).given ≡ more → (run (call ∷ []) s).state ≡ now → total now ≡ length (text ++ piece) → HasRead limits (text ++ piece) (given ++ more) now
called limits text given s now call piece more h order unended came gave stands size = record {
  calls = h.calls ++ call ∷ [];
  order = order;
  unended = unended;
  fed = fed_more h.calls (call ∷ []) ∙ ap (λ (t : List ℕ). t ++ fed_by (call ∷ [])) h.fed ∙ ap (λ (t : List ℕ). text ++ t) came;
  gave = run_gave h.calls (call ∷ []) (fresh limits) ∙ ap (λ (g : List (ℕ × Line)). g ++ (run (call ∷ []) (run h.calls (fresh limits)).state).given) h.gave
      ∙ ap (λ (t : State). given ++ (run (call ∷ []) t).given) h.stands ∙ ap (λ (g : List (ℕ × Line)). given ++ g) gave;
  stands = run_stands h.calls (call ∷ []) (fresh limits) ∙ ap (λ (t : State). (run (call ∷ []) t).state) h.stands ∙ stands;
  size = size;
}

no_more_given : (limits : Limits) (text : List ℕ) (given : List (ℕ × Line)) (s : State) → HasRead limits text (given ++ []) s → HasRead limits text given s
no_more_given limits text given s h = subst (λ (g : List (ℕ × Line)). HasRead limits text g s) (append-nil given) h

no_more_came : (limits : Limits) (text : List ℕ) (given : List (ℕ × Line)) (s : State) → HasRead limits (text ++ []) given s → HasRead limits text given s
no_more_came limits text given s h = subst (λ (t : List ℕ). HasRead limits t given s) (append-nil text) h

size_fed : (text piece : List ℕ) (s : State) → total s ≡ length text → total (fed s piece) ≡ length (text ++ piece)
size_fed text piece s e =
    let a : length (s.held ++ piece) ≡ length s.held + length piece = length-append s.held piece in
    let b : length (text ++ piece) ≡ length text + length piece = length-append text piece in
    omega (arith, e, a, b)

-- a piece is fed
pub has_fed : (limits : Limits) (text piece : List ℕ) (given : List (ℕ × Line)) (s : State) → HasRead limits text given s → s.ended ≡ false →
    HasRead limits (text ++ piece) given (fed s piece)
has_fed limits text piece given s h e =
    no_more_given limits (text ++ piece) given (fed s piece)
    (called limits text given s (fed s piece) (Feed piece) piece [] h (feed_order h.calls piece (h.unended e)) (λ f. feed_open h.calls piece (h.unended e)) (append-nil piece) refl refl
    (size_fed text piece s h.size))

-- the text ends
pub has_closed : (limits : Limits) (text : List ℕ) (given : List (ℕ × Line)) (s : State) → HasRead limits text given s → HasRead limits text given (closed s)
has_closed limits text given s h =
    no_more_given limits text given (closed s) (no_more_came limits text (given ++ []) (closed s)
    (called limits text given s (closed s) End [] [] h (end_order false h.calls h.order) (λ e. let f = e in absurd cc) refl refl refl
    (h.size ∙ sym (ap (λ (t : List ℕ). length t) (append-nil text)))))

-- the line that an answer gives
abbrev pub given_in : Result (Option (ℕ × Line)) LineFault → List (ℕ × Line)
given_in (Ok (Some numbered)) = numbered ∷ []
given_in (Ok None) = []
given_in (Err fault) = []

first_given : (first : First) (count : ℕ) (s : State) → (with_first first count (record { given = []; state = s })).given ≡ given_in (answer_by first count)
first_given (LineFirst line) count s = refl
first_given (Refusal refusal) count s = refl
first_given Nothing count s = refl

-- the reader is asked
pub has_asked : (limits : Limits) (text : List ℕ) (given : List (ℕ × Line)) (r : Result (Option (ℕ × Line)) LineFault) (s now : State) → HasRead limits text given s →
    r ≡ answer_of s → now ≡ after s → total now ≡ total s → HasRead limits text (given ++ given_in r) now
has_asked limits text given r s now h answer passed same =
    no_more_came limits text (given ++ given_in r) now
    (called limits text given s now Ask [] (given_in r) h (ask_order false h.calls h.order)
    (λ e. ask_open h.calls (h.unended (ap (λ (t : State). t.ended) (sym passed) ∙ e))) refl
    (first_given (step_of s).first (step_of s).count (after s) ∙ ap given_in (sym answer))
    (first_stands (step_of s).first (step_of s).count (record { given = []; state = after s }) ∙ sym passed)
    (same ∙ h.size ∙ sym (ap (λ (t : List ℕ). length t) (append-nil text))))

-- ---- what the reader has given says of the text

-- the lines of the text are those that were given, and those that are left
pub lines_read : (limits : Limits) (text : List ℕ) (given : List (ℕ × Line)) (s : State) → HasRead limits text given s → lines limits text ≡ with_all given (left s)
lines_read limits text given s h =
    ap (λ (t : List ℕ). lines limits t) (sym h.fed) ∙ sym (run_fresh h.calls limits h.order)
    ∙ ap (λ (g : List (ℕ × Line)). with_all g (left (run h.calls (fresh limits)).state)) h.gave ∙ ap (λ (t : State). with_all given (left t)) h.stands

count_read : (limits : Limits) (text : List ℕ) (given : List (ℕ × Line)) (s : State) → HasRead limits text given s → length (raw_lines text) ≡ s.count + length (raw_lines (standing s))
count_read limits text given s h =
    ap (λ (t : List ℕ). length (raw_lines t)) (sym h.fed) ∙ sym (counts_fresh h.calls limits h.order)
    ∙ ap (λ (t : State). t.count + length (raw_lines (standing t))) h.stands

-- where a line cannot be read, the lines that were given are all before it
pub refused_read : (limits : Limits) (text : List ℕ) (given : List (ℕ × Line)) (s : State) (refusal : LineRefusal) → HasRead limits text given s → s.refusal ≡ Some refusal →
    lines limits text ≡ record { given = given; refusal = Some refusal }
refused_read limits text given s refusal h e =
    lines_read limits text given s h
    ∙ ap (λ (r : Option LineRefusal). with_all given (left_unless r (reader.left (record s { refusal = None })))) e
    ∙ ap (λ (g : List (ℕ × Line)). record { given = g; refusal = Some refusal }) (append-nil given)

-- ---- by the answer of a call

abbrev refusal_told : Result (Option (ℕ × Line)) LineFault → Option LineRefusal
refusal_told (Ok o) = None
refusal_told (Err (Refused refusal)) = Some refusal
refusal_told (Err Memory) = None

-- what a reader's call says of its answer
pub record Says (r : Result (Option (ℕ × Line)) LineFault) (s now : State) : Type 0 where
  pub answered : UnlessMemory r (r ≡ answer_of s)
  pub passed : UnlessMemory r (now ≡ after s)
  pub told : Told r s now
  pub total : reader.total now ≡ reader.total s

says_by : (r q : Result (Option (ℕ × Line)) LineFault) (s now : State) → r ≡ q → Says r s now → Says q s now
says_by r q s now e h = subst (λ (o : Result (Option (ℕ × Line)) LineFault). Says o s now) e h

-- a line is given
pub line_read : (limits : Limits) (text : List ℕ) (given : List (ℕ × Line)) (r : Result (Option (ℕ × Line)) LineFault) (s now : State) (n : ℕ) (line : Line) →
    HasRead limits text given s → r ≡ Ok (Some (n, line)) → Says r s now → HasRead limits text (given ++ (n, line) ∷ []) now
line_read limits text given r s now n line h is says =
    let k : Says (Ok (Some (n, line))) s now = says_by r (Ok (Some (n, line))) s now is says in
    has_asked limits text given (Ok (Some (n, line))) s now h k.answered k.passed k.total

-- no whole line is left
pub none_read : (limits : Limits) (text : List ℕ) (given : List (ℕ × Line)) (r : Result (Option (ℕ × Line)) LineFault) (s now : State) →
    HasRead limits text given s → r ≡ Ok None → Says r s now → HasRead limits text given now
none_read limits text given r s now h is says =
    let k : Says (Ok None) s now = says_by r (Ok None) s now is says in
    no_more_given limits text given now (has_asked limits text given (Ok None) s now h k.answered k.passed k.total)

no_refusal : (first : First) (count : ℕ) → Ok None ≡ answer_by first count → refusal_in first ≡ None
no_refusal (LineFirst line) count e = refl
no_refusal (Refusal refusal) count e = absurd cc
no_refusal Nothing count e = refl

-- Then each line whose end has come was given.
pub so_far_read : (limits : Limits) (text : List ℕ) (given : List (ℕ × Line)) (r : Result (Option (ℕ × Line)) LineFault) (s now : State) →
    HasRead limits text given s → r ≡ Ok None → Says r s now → s.ended ≡ false → lines_so_far limits text ≡ record { given = given; refusal = None }
so_far_read limits text given r s now h is says open_text =
    let k : Says (Ok None) s now = says_by r (Ok None) s now is says in
    let all : HasRead limits text given now = none_read limits text given r s now h is says in
    let none : now.refusal ≡ None = ap (λ (t : State). t.refusal) k.passed ∙ no_refusal (step_of s).first (step_of s).count k.answered in
    let unended : now.ended ≡ false = ap (λ (t : State). t.ended) k.passed ∙ open_text in
    ap (λ (t : List ℕ). lines_so_far limits t) (sym all.fed)
    ∙ given_so_far all.calls limits (all.unended unended) (subst HasNoWhole (sym all.stands) k.told.1) (ap (λ (t : State). t.refusal) all.stands ∙ none)
    ∙ ap (λ (g : List (ℕ × Line)). record { given = g; refusal = None }) all.gave

-- And behind the end all lines were given, and passed.
pub whole_read : (limits : Limits) (text : List ℕ) (given : List (ℕ × Line)) (r : Result (Option (ℕ × Line)) LineFault) (s now : State) →
    HasRead limits text given s → r ≡ Ok None → Says r s now → s.ended ≡ true → lines limits text ≡ record { given = given; refusal = None }
whole_read limits text given r s now h is says ended =
    let k : Says (Ok None) s now = says_by r (Ok None) s now is says in
    lines_read limits text given now (none_read limits text given r s now h is says)
    ∙ ap (with_all given) (ap left k.passed ∙ ends_without s ended (sym k.answered))
    ∙ ap (λ (g : List (ℕ × Line)). record { given = g; refusal = None }) (append-nil given)

pub whole_count : (limits : Limits) (text : List ℕ) (given : List (ℕ × Line)) (r : Result (Option (ℕ × Line)) LineFault) (s now : State) →
    HasRead limits text given s → r ≡ Ok None → Says r s now → s.ended ≡ true → length (raw_lines text) ≡ now.count
whole_count limits text given r s now h is says ended =
    let k : Says (Ok None) s now = says_by r (Ok None) s now is says in
    let z : now.count + 0 ≡ now.count = omega arith in
    count_read limits text given now (none_read limits text given r s now h is says)
    ∙ ap (λ (t : List ℕ). now.count + length (raw_lines t)) (ap standing k.passed ∙ ends_empty s ended (sym k.answered)) ∙ z

some_refusal : (first : First) (count : ℕ) (refusal : LineRefusal) → Err (Refused refusal) ≡ answer_by first count → refusal_in first ≡ Some refusal
some_refusal (LineFirst line) count refusal e = absurd cc
some_refusal (Refusal other) count refusal e = sym (ap refusal_told e)
some_refusal Nothing count refusal e = absurd cc

-- a line cannot be read
pub unread_read : (limits : Limits) (text : List ℕ) (given : List (ℕ × Line)) (r : Result (Option (ℕ × Line)) LineFault) (s now : State) (refusal : LineRefusal) →
    HasRead limits text given s → r ≡ Err (Refused refusal) → Says r s now → HasRead limits text given now × (now.refusal ≡ Some refusal)
unread_read limits text given r s now refusal h is says =
    let k : Says (Err (Refused refusal)) s now = says_by r (Err (Refused refusal)) s now is says in (
      no_more_given limits text given now (has_asked limits text given (Err (Refused refusal)) s now h k.answered k.passed k.total),
      ap (λ (t : State). t.refusal) k.passed ∙ some_refusal (step_of s).first (step_of s).count refusal k.answered,
    )

-- ---- each line that is given leaves fewer

open_answer : (refusal : Option LineRefusal) (count : ℕ) (step : Step) (n : ℕ) (line : Line) →
    Ok (Some (n, line)) ≡ answer_by (step_unless refusal count step).first (step_unless refusal count step).count → refusal ≡ None
open_answer None count step n line e = refl
open_answer (Some refusal) count step n line e = absurd cc

-- the measure of a loop over the lines
pub fewer_read : (r : Result (Option (ℕ × Line)) LineFault) (s now : State) (n : ℕ) (line : Line) → IsStanding s → r ≡ Ok (Some (n, line)) → Says r s now →
    length (raw_lines (standing now)) < length (raw_lines (standing s))
fewer_read r s now n line stands is says =
    let k : Says (Ok (Some (n, line))) s now = says_by r (Ok (Some (n, line))) s now is says in
    subst (λ (t : State). length (raw_lines (standing t)) < length (raw_lines (standing s))) (sym k.passed)
    (fewer_held s n line stands (open_answer s.refusal s.count (step_from s.limits s.ended s.passed s.count 0 (raw_lines (standing s))) n line k.answered) k.answered)

-- ---- what was given of a text says of every text that may come

come_by : (ended : Bool) (limits : Limits) (text more : List ℕ) (given : List (ℕ × Line)) (s : State) → s.ended ≡ ended → HasRead limits text given s → CanCome s more →
    HasRead limits (text ++ more) given (fed s more)
come_by false limits text more given s e h come = has_fed limits text more given s h e
come_by true limits text more given s e h come =
    let none : more ≡ [] = come e in
    subst (λ (t : List ℕ). HasRead limits (text ++ t) given (fed s t)) (sym none)
    (subst (λ (t : List ℕ). HasRead limits t given (fed s [])) (sym (append-nil text)) (subst (λ (t : List ℕ). HasRead limits text given (record s { held = t })) (sym (append-nil s.held)) h))

-- they lead its lines
pub lines_come : (limits : Limits) (text more : List ℕ) (given : List (ℕ × Line)) (s : State) → HasRead limits text given s → CanCome s more →
    lines limits (text ++ more) ≡ with_all given (left (fed s more))
lines_come limits text more given s h come =
    lines_read limits (text ++ more) given (fed s more) (come_by s.ended limits text more given s refl h come)

-- and they are all before a line that cannot be read
pub refused_come : (limits : Limits) (text more : List ℕ) (given : List (ℕ × Line)) (s : State) (refusal : LineRefusal) → HasRead limits text given s → s.refusal ≡ Some refusal →
    CanCome s more → lines limits (text ++ more) ≡ record { given = given; refusal = Some refusal }
refused_come limits text more given s refusal h e come =
    refused_read limits (text ++ more) given (fed s more) refusal (come_by s.ended limits text more given s refl h come) e
