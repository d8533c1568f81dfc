-- What each answer of the reader brings to the lines that are handed on.
use Rattle.std.specs.Prelude.{◌≡◌, ℕ, ◌≤◌, ◌++◌, Bool, true, false, Option, Some, None, Result, Ok, Err, IfOk, IfSome, List, [], ◌∷◌, length}
use Rattle.std.proofs.Common.{refl, sym, ◌∙◌, ap, subst, arith}
use Rattle.std.proofs.lemmas.Bool.{false≢true}
use Rattle.std.proofs.lemmas.List.{append-nil}
use Rattle.dp_lines.specs.Driving.{AreLeft, ArePassed, HasCome, HasTaken, limits}
use Rattle.dp_lines.specs.Lines.{Lines, lines}
use Rattle.dp_lines.specs.Pieces.{HasRead}
use Rattle.dp_lines.specs.RawLines.{raw_lines}
use Rattle.dp_lines.specs.Readers.{State, after, closed, fed, fresh, left, step_of}
use Rattle.dp_lines.specs.Runs.{Call, Feed, End, Ask, run, with_all}
use Rattle.dp_lines.specs.Standing.{CanCome}
use Rattle.dp_lines.specs.declared.line.Line.{Line}
use Rattle.dp_lines.specs.declared.refusal.LineFault.{LineFault}
use Rattle.dp_lines.specs.declared.refusal.LineFault.TheVariants.{Refused}
use Rattle.dp_lines.specs.declared.refusal.LineRefusal.{LineRefusal}
use Rattle.dp_lines.specs.declared.refusal.Limits.{Limits}
use Rattle.dp_lines.proofs.PiecesLaws.{Says, first_stands, has_begun, has_closed, has_fed, line_read, lines_come, none_read, refused_come, so_far_read, unread_read, whole_count, whole_read}

-- the limits stay
run_limits : (calls : List Call) (s : State) → (run calls s).state.limits ≡ s.limits
run_limits [] s = refl
run_limits (Feed piece ∷ calls) s = run_limits calls (fed s piece)
run_limits (End ∷ calls) s = run_limits calls (closed s)
run_limits (Ask ∷ calls) s = ap (λ (t : State). t.limits) (first_stands (step_of s).first (step_of s).count (run calls (after s))) ∙ run_limits calls (after s)

read_limits : (text : List ℕ) (given : List (ℕ × Line)) (s : State) → HasRead limits text given s → s.limits ≡ limits
read_limits text given s h = ap (λ (t : State). t.limits) (sym h.stands) ∙ run_limits h.calls (fresh limits)

-- ---- by the answer of a call

-- a line is given, and taken
pub line_taken : (took now : List (ℕ × Line) → Type 0) (front : List ℕ) (r : Result (Option (ℕ × Line)) LineFault) (s end : State) (n : ℕ) (line : Line) →
    r ≡ Ok (Some (n, line)) → Says r s end → ((given : List (ℕ × Line)) → took given → now (given ++ (n, line) ∷ [])) → HasTaken took front s → HasTaken now front end
line_taken took now front r s end n line is says passes h = record {
  given = h.given ++ (n, line) ∷ [];
  read = line_read limits front h.given r s end n line h.read is says;
  taken = passes h.given h.taken;
}

-- a line is given, and refused
pub line_refused : {A : Type 0} (took : List (ℕ × Line) → Type 0) (due : List ℕ → A → Type 0) (front more : List ℕ) (r : Result (Option (ℕ × Line)) LineFault) (s end : State) (n : ℕ)
    (line : Line) (a : A) → r ≡ Ok (Some (n, line)) → Says r s end →
    ((given : List (ℕ × Line)) (rest : Lines) (text : List ℕ) → took given → lines limits text ≡ with_all (given ++ (n, line) ∷ []) rest → due text a) → HasTaken took front s →
    CanCome end more → due (front ++ more) a
line_refused took due front more r s end n line a is says refusing h come =
    let read : HasRead limits front (h.given ++ (n, line) ∷ []) end = line_read limits front h.given r s end n line h.read is says in
    refusing h.given (left (fed end more)) (front ++ more) h.taken (lines_come limits front more (h.given ++ (n, line) ∷ []) end read come)

-- no whole line is left
pub none_left : (took : List (ℕ × Line) → Type 0) (front : List ℕ) (r : Result (Option (ℕ × Line)) LineFault) (s end : State) → r ≡ Ok None → Says r s end → end.ended ≡ s.ended →
    length end.held ≤ end.limits.line → HasTaken took front s → ArePassed took front end
none_left took front r s end is says same held h =
    let read : HasRead limits front h.given end = none_read limits front h.given r s end h.read is says in
    record {
      taken = record { given = h.given; read = read; taken = h.taken };
      quiet = λ unended. so_far_read limits front h.given r s end h.read is says (sym same ∙ unended);
      whole = λ ended. whole_read limits front h.given r s end h.read is says (sym same ∙ ended);
      count = λ ended. whole_count limits front h.given r s end h.read is says (sym same ∙ ended);
      held = subst (λ (l : Limits). length end.held ≤ l.line) (read_limits front h.given end read) held;
    }

-- a line cannot be read
pub line_unread : {A : Type 0} (took : List (ℕ × Line) → Type 0) (due : List ℕ → A → Type 0) (front more : List ℕ) (r : Result (Option (ℕ × Line)) LineFault) (s end : State)
    (refusal : LineRefusal) (a : A) → r ≡ Err (Refused refusal) → Says r s end →
    ((given : List (ℕ × Line)) (text : List ℕ) → took given → lines limits text ≡ record { given = given; refusal = Some refusal } → due text a) → HasTaken took front s →
    CanCome end more → due (front ++ more) a
line_unread took due front more r s end refusal a is says refusing h come =
    let read = unread_read limits front h.given r s end refusal h.read is says in
    refusing h.given (front ++ more) h.taken (refused_come limits front more h.given end refusal read.0 read.1 come)

-- ---- pieces and the end

-- nothing has come
pub begins : (took : List (ℕ × Line) → Type 0) (s : State) → s ≡ fresh limits → took [] → HasCome took [] s
begins took s e h = subst (λ (t : State). HasCome took [] t) (sym e) (record {
  taken = record { given = []; read = has_begun limits; taken = h };
  unended = refl;
  quiet = refl;
  held = omega arith;
})

-- what handing on the lines that are left brings, where this was taken
abbrev pub Left : {A : Type 0} → (List (ℕ × Line) → Type 0) → (List (ℕ × Line) → Type 0) → (List ℕ → A → Type 0) → Option A → State → State → Type 0
Left was now due answer s end = (front : List ℕ) → HasTaken was front s → AreLeft now due answer front end

-- a piece has come
piece_left : {A : Type 0} (was now : List (ℕ × Line) → Type 0) (due : List ℕ → A → Type 0) (answer : Option A) (r s end : State) (front piece : List ℕ) → s ≡ fed r piece →
    Left was now due answer s end → HasCome was front r → AreLeft now due answer (front ++ piece) end
piece_left was now due answer r s end front piece e left h =
    left (front ++ piece) (subst (λ (t : State). HasTaken was (front ++ piece) t) (sym e)
    (record { given = h.taken.given; read = has_fed limits front piece h.taken.given r h.taken.read h.unended; taken = h.taken.taken }))

answered : {A : Type 0} (now : List (ℕ × Line) → Type 0) (due : List ℕ → A → Type 0) (answer other : Option A) (front : List ℕ) (end : State) → answer ≡ other →
    AreLeft now due answer front end → AreLeft now due other front end
answered now due answer other front end e h = subst (λ o. AreLeft now due o front end) e h

-- where no line is refused, more may follow
pub fed_going : {A : Type 0} (was now : List (ℕ × Line) → Type 0) (due : List ℕ → A → Type 0) (answer : Option A) (r s end : State) (front piece : List ℕ) → s ≡ fed r piece →
    end.ended ≡ s.ended → Left was now due answer s end → answer ≡ None → HasCome was front r → HasCome now (front ++ piece) end
fed_going was now due answer r s end front piece e same left none h =
    let a : ArePassed now (front ++ piece) end = answered now due answer None (front ++ piece) end none (piece_left was now due answer r s end front piece e left h) in
    let open_text : end.ended ≡ false = same ∙ ap (λ (t : State). t.ended) e ∙ h.unended in
    record { taken = a.taken; unended = open_text; quiet = a.quiet open_text; held = a.held }

no_end : (ended : Bool) (fact : Type 0) → ended ≡ false → ended ≡ true → fact
no_end ended fact e f = absurd (false≢true (sym e ∙ f))

-- where a line is refused, it is so whatever follows
pub fed_refused : {A : Type 0} (was now : List (ℕ × Line) → Type 0) (due : List ℕ → A → Type 0) (refuses : A → Type 0) (answer : Option A) (r s end : State) (piece : List ℕ) → s ≡ fed r piece →
    end.ended ≡ s.ended → Left was now due answer s end → IfSome answer refuses →
    IfSome answer (λ a. refuses a × ((front more : List ℕ) → HasCome was front r → due (front ++ piece ++ more) a))
fed_refused was now due refuses None r s end piece e same left h = tt
fed_refused was now due refuses (Some a) r s end piece e same left h = (
  h,
  λ front more k. piece_left was now due (Some a) r s end front piece e left k more
      (no_end end.ended (more ≡ []) (same ∙ ap (λ (t : State). t.ended) e ∙ k.unended)),
)

-- no more bytes come
end_left : {A : Type 0} (was now : List (ℕ × Line) → Type 0) (due : List ℕ → A → Type 0) (answer : Option A) (r s end : State) (front : List ℕ) → s ≡ closed r →
    Left was now due answer s end → HasCome was front r → AreLeft now due answer front end
end_left was now due answer r s end front e left h =
    left front (subst (λ (t : State). HasTaken was front t) (sym e)
    (record { given = h.taken.given; read = has_closed limits front h.taken.given r h.taken.read; taken = h.taken.taken }))

-- the last line is refused
pub ended_refused : {A : Type 0} (was now : List (ℕ × Line) → Type 0) (due : List ℕ → A → Type 0) (answer : Option A) (a : A) (r s end : State) (front : List ℕ) → s ≡ closed r →
    Left was now due answer s end → answer ≡ Some a → HasCome was front r → due front a
ended_refused was now due answer a r s end front e left some h =
    subst (λ (t : List ℕ). due t a) (append-nil front)
    (answered now due answer (Some a) front end some (end_left was now due answer r s end front e left h) [] (λ f. refl))

-- all lines pass
pub ended_passed : {A : Type 0} (was now : List (ℕ × Line) → Type 0) (due last : List ℕ → A → Type 0) (answer : Option A) (a : A) (r s end : State) (front : List ℕ) (count : ℕ) →
    s ≡ closed r → end.ended ≡ s.ended → Left was now due answer s end → answer ≡ None → count ≡ end.count → ((text : List ℕ) (b : A) → last text b → due text b) →
    ((given : List (ℕ × Line)) (text : List ℕ) → now given → lines limits text ≡ record { given = given; refusal = None } → length (raw_lines text) ≡ count → last text a) →
    HasCome was front r → due front a
ended_passed was now due last answer a r s end front count e same left none counted stays finished h =
    let passed : ArePassed now front end = answered now due answer None front end none (end_left was now due answer r s end front e left h) in
    let ended : end.ended ≡ true = same ∙ ap (λ (t : State). t.ended) e in
    stays front a (finished passed.taken.given front passed.taken.taken (passed.whole ended) (passed.count ended ∙ sym counted))

-- what is due where a line of the only piece is refused
pub refused_alone : {A : Type 0} (behind : List ℕ → Type 0) (due : List ℕ → A → Type 0) (refuses : A → Type 0) (piece : List ℕ) (answer : Option A) (a : A) → answer ≡ Some a →
    IfSome answer (λ b. refuses b × ((front more : List ℕ) → behind front → due (front ++ piece ++ more) b)) → behind [] → due piece a
refused_alone behind due refuses piece answer a e h begun =
    subst (λ (t : List ℕ). due t a) (append-nil piece)
    ((subst (λ o. IfSome o (λ b. refuses b × ((front more : List ℕ) → behind front → due (front ++ piece ++ more) b))) e h).1 [] [] begun)

-- an answer's fact follows from another
pub if_ok : {A E : Type 0} {P Q : A → Type 0} (r : Result A E) → ((x : A) → P x → Q x) → IfOk r P → IfOk r Q
if_ok (Ok x) f h = f x h
if_ok (Err e) f h = h

-- what a refused line's answer brings
pub of_some : {A : Type 0} (P : A → Type 0) (answer : Option A) (a : A) → answer ≡ Some a → IfSome answer P → P a
of_some P answer a e h = subst (λ o. IfSome o P) e h

pub both_ok : {A E : Type 0} {P Q R : A → Type 0} (r : Result A E) → ((x : A) → P x → Q x → R x) → IfOk r P → IfOk r Q → IfOk r R
both_ok (Ok x) f h k = f x h k
both_ok (Err e) f h k = h
