-- What each line brings to a scaffold that is read.
use Rattle.std.specs.Prelude.{◌≡◌, ℕ, Option, Some, None, Result, Ok, Err, IsOk, List, [], ◌∷◌, ◌++◌, length}
use Rattle.std.proofs.Common.{refl, sym, ◌∙◌, ap, subst}
use Rattle.std.proofs.lemmas.Bool.{false≢true}
use Rattle.dp_lines.specs.Driving.{limits, text_of_line}
use Rattle.dp_lines.specs.Lines.{Lines, lines}
use Rattle.dp_lines.specs.RawLines.{raw_lines}
use Rattle.dp_lines.specs.Runs.{with_all}
use Rattle.dp_lines.specs.Spelling.{line_text}
use Rattle.dp_lines.specs.declared.line.Line.{Line}
use Rattle.dp_lines.specs.declared.refusal.LineRefusal.{LineRefusal}
use Rattle.dp_lines.proofs.NumberLaws.{line_told}
use Rattle.dp_lines.proofs.OneByOne.{IsOneByOne, one_more, refused_at}
use Rattle.dp_parts.specs.Posed.{Posed}
use Rattle.dp_parts.specs.Problems.{Csp, posed}
use Rattle.dp_scaffold.specs.Answers.{Tells, UnlessMemory}
use Rattle.dp_scaffold.specs.Gathering.{Gathered, gather, gather_all, nothing, outcome, scaffold_of}
use Rattle.dp_scaffold.specs.Pieces.{Going, HasGathered, IsDue}
use Rattle.dp_scaffold.specs.Texts.{IsScaffoldAnswer, answer_after, give, scaffold_text}
use Rattle.dp_scaffold.specs.declared.answer.ScaffoldAnswer.{ScaffoldAnswer}
use Rattle.dp_scaffold.specs.declared.answer.ScaffoldAnswer.TheVariants.{Unread, Refused}
use Rattle.dp_scaffold.specs.declared.fault.GatherFault.{GatherFault}
use Rattle.dp_scaffold.specs.declared.fault.GatherFault.TheVariants as faults
use Rattle.dp_scaffold.specs.declared.refusal.GatherWhy.{GatherWhy}
use Rattle.dp_scaffold.specs.declared.refusal.ScaffoldRefusal.{ScaffoldRefusal}

one_by_one : (p : Posed) → IsOneByOne (gather p) (gather_all p)
one_by_one p = record { none = λ r. refl; more = λ r e es. refl; stays = λ x e. refl }

abbrev line_in : Result Gathered ScaffoldRefusal → ℕ
line_in (Ok known) = 0
line_in (Err refusal) = refusal.line

refused_number : (n : ℕ) (why : Option GatherWhy) (k : Gathered) (refusal : ScaffoldRefusal) → outcome n k why ≡ Err refusal → refusal.line ≡ n
refused_number n None k refusal e = absurd cc
refused_number n (Some why) k refusal e = sym (ap line_in e)

number_of : (p : Posed) (known : Result Gathered ScaffoldRefusal) (n : ℕ) (line : Line) (refusal : ScaffoldRefusal) → IsOk known → gather p known (n, line) ≡ Err refusal →
    refusal.line ≡ n
number_of p (Ok known) n line refusal ok e = refused_number n _ _ refusal e
number_of p (Err other) n line refusal ok e = absurd (false≢true ok)

-- the answer for these lines of a text
answer_of_lines : (p : Posed) (text : List ℕ) (ls : Lines) → lines limits text ≡ ls →
    scaffold_text p text ≡ answer_after (gather_all p (Ok nothing) ls.given) ls (length (raw_lines text))
answer_of_lines p text ls e = ap (λ (l : Lines). answer_after (gather_all p (Ok nothing) l.given) l (length (raw_lines text))) e

-- the answer for a text is due where its scaffold is one
due_where : (j : Going) (text : List ℕ) (answer : ScaffoldAnswer) → answer ≡ scaffold_text (posed j.problem) text → IsScaffoldAnswer j.problem answer → IsDue j text answer
due_where j text answer e right = record { answered = e; scaffold = right }

-- a line passes
pub taken : (j now : Going) (given : List (ℕ × Line)) (n : ℕ) (line : Line) → now.problem ≡ j.problem → now.progress ≡ gather (posed j.problem) j.progress (n, line) → IsOk now.progress →
    HasGathered j given → HasGathered now (given ++ (n, line) ∷ [])
taken j now given n line same judged ok h =
    let p : Posed = posed j.problem in
    record {
      gathered = subst (λ (q : Csp). now.progress ≡ gather_all (posed q) (Ok nothing) (given ++ (n, line) ∷ [])) (sym same)
          (one_more (gather p) (gather_all p) (one_by_one p) (Ok nothing) j.progress now.progress given (n, line) h.gathered judged);
      going = ok;
    }

refusal_told : {T : Type 0} (r : Result T GatherFault) (refusal : ScaffoldRefusal) (now said : Result Gathered ScaffoldRefusal) → r ≡ Err (faults.Refused refusal) → UnlessMemory r (now ≡ said) → Tells r now → said ≡ Err refusal
refusal_told r refusal now said e judged told =
    sym (subst (λ q. UnlessMemory q (now ≡ said)) e judged) ∙ subst (λ q. Tells q now) e told

-- a test refuses it
pub refused : {T : Type 0} (j now : Going) (r : Result T GatherFault) (refusal : ScaffoldRefusal) (given : List (ℕ × Line)) (n : ℕ) (line : Line) (rest : Lines) (text told : List ℕ) → told ≡ line_text line →
    r ≡ Err (faults.Refused refusal) →
    UnlessMemory r (now.progress ≡ gather (posed j.problem) j.progress (n, line)) → Tells r now.progress → HasGathered j given → lines limits text ≡ with_all (given ++ (n, line) ∷ []) rest → IsDue j text (Refused refusal (Some told))
refused j now r refusal given n line rest text told spelled answer judged tells h is =
    let e : gather (posed j.problem) j.progress (n, line) ≡ Err refusal = refusal_told r refusal now.progress _ answer judged tells in
    let p : Posed = posed j.problem in
    let ls : Lines = with_all (given ++ (n, line) ∷ []) rest in
    subst (λ (t : List ℕ). IsDue j text (Refused refusal (Some t))) (sym spelled) (due_where j text (Refused refusal (Some (line_text line)))
    (sym (answer_of_lines p text ls is
    ∙ ap (λ (r : Result Gathered ScaffoldRefusal). answer_after r ls (length (raw_lines text)))
    (refused_at (gather p) (gather_all p) (one_by_one p) (Ok nothing) j.progress refusal given rest.given (n, line) h.gathered e)
    ∙ ap (λ (t : Option (List ℕ)). Refused refusal t)
    (ap (text_of_line ls.given) (number_of p j.progress n line refusal h.going e) ∙ line_told limits text given n line rest is))) tt)

unread_after : (known : Result Gathered ScaffoldRefusal) (given : List (ℕ × Line)) (refusal : LineRefusal) (count : ℕ) → IsOk known →
    answer_after known (record { given = given; refusal = Some refusal }) count ≡ Unread refusal
unread_after (Ok known) given refusal count ok = refl
unread_after (Err other) given refusal count ok = absurd (false≢true ok)

-- it cannot be read
pub unread : (j : Going) (refusal : LineRefusal) (given : List (ℕ × Line)) (text : List ℕ) → HasGathered j given → lines limits text ≡ record { given = given; refusal = Some refusal } →
    IsDue j text (Unread refusal)
unread j refusal given text h is =
    let ls : Lines = record { given = given; refusal = Some refusal } in
    due_where j text (Unread refusal)
    (sym (answer_of_lines (posed j.problem) text ls is ∙ ap (λ (k : Result Gathered ScaffoldRefusal). answer_after k ls (length (raw_lines text))) (sym h.gathered)
    ∙ unread_after j.progress given refusal (length (raw_lines text)) h.going)) tt

concluded_after : (known : Result Gathered ScaffoldRefusal) (given : List (ℕ × Line)) (count : ℕ) → IsOk known →
    answer_after known (record { given = given; refusal = None }) count ≡ give (scaffold_of known count)
concluded_after (Ok known) given count ok = refl
concluded_after (Err refusal) given count ok = absurd (false≢true ok)

-- behind the last line
pub finished : (j : Going) (answer : ScaffoldAnswer) (given : List (ℕ × Line)) (text : List ℕ) (count : ℕ) → answer ≡ give (scaffold_of j.progress count) → IsScaffoldAnswer j.problem answer →
    HasGathered j given → lines limits text ≡ record { given = given; refusal = None } → length (raw_lines text) ≡ count → IsDue j text answer
finished j answer given text count a right h is counted =
    let ls : Lines = record { given = given; refusal = None } in
    due_where j text answer
    (a ∙ ap (λ n. give (scaffold_of j.progress n)) (sym counted)
    ∙ sym (answer_of_lines (posed j.problem) text ls is ∙ ap (λ (k : Result Gathered ScaffoldRefusal). answer_after k ls (length (raw_lines text))) (sym h.gathered)
    ∙ concluded_after j.progress given (length (raw_lines text)) h.going)) right

-- what is due of this problem
pub due_of : (j : Going) (p : Csp) (text : List ℕ) (a : ScaffoldAnswer) → j.problem ≡ p → IsDue j text a → (a ≡ scaffold_text (posed p) text) × IsScaffoldAnswer p a
due_of j p text a e d = (d.answered ∙ ap (λ (q : Csp). scaffold_text (posed q) text) e, subst (λ (q : Csp). IsScaffoldAnswer q a) e d.scaffold)
