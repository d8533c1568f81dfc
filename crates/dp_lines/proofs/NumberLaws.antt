-- The numbers of a text's lines, and the line that has a number.
use Rattle.std.specs.Prelude.{◌≡◌, ℕ, ◌+◌, ◌<◌, ◌≤◌, true, false, Some, List, [], ◌∷◌, ◌++◌, nat_eq}
use Rattle.std.proofs.Common.{refl, ◌∙◌, ap, subst, append_assoc, arith}
use Rattle.std.proofs.lemmas.Bool.Decides.{nat_tests}
use Rattle.dp_lines.specs.Driving.{text_of_line}
use Rattle.dp_lines.specs.Lines.{Lines, judged, led_by, lines, lines_behind}
use Rattle.dp_lines.specs.RawLines.{Raw, raw_lines, size}
use Rattle.dp_lines.specs.Runs.{with_all}
use Rattle.dp_lines.specs.Spelling.{line_text}
use Rattle.dp_lines.specs.declared.judge.Judged.{Judged}
use Rattle.dp_lines.specs.declared.judge.Judged.TheVariants.{Blank, Given, Refused as RefusedLine}
use Rattle.dp_lines.specs.declared.line.Line.{Line}
use Rattle.dp_lines.specs.declared.refusal.Limits.{Limits}

-- each number is more than the one before
abbrev Ascend : ℕ → List (ℕ × Line) → Type 0
Ascend n [] = Unit {0}
Ascend n (e ∷ es) = (n < e.0) × Ascend e.0 es

ascend_more : (n m : ℕ) (es : List (ℕ × Line)) → n ≤ m → Ascend m es → Ascend n es
ascend_more n m [] h all = tt
ascend_more n m (e ∷ es) h all = (let k : m < e.0 = all.0 in omega (arith, h, k), all.1)

ascend_led : (count : ℕ) (j : Judged) (later : Lines) → Ascend (count + 1) later.given → Ascend count (led_by (count + 1) j later).given
ascend_led count Blank later all = ascend_more count (count + 1) later.given (omega arith) all
ascend_led count (Given line) later all = (omega arith, all)
ascend_led count (RefusedLine refusal) later all = tt

ascend_behind : (limits : Limits) (count passed : ℕ) (raws : List Raw) → Ascend count (lines_behind limits count passed raws).given
ascend_behind limits count passed [] = tt
ascend_behind limits count passed (raw ∷ raws) =
    ascend_led count (judged limits (count + 1) passed raw) (lines_behind limits (count + 1) (passed + size raw) raws) (ascend_behind limits (count + 1) (passed + size raw) raws)

-- a number behind others is more than they
above : (m n : ℕ) (line : Line) (given rest : List (ℕ × Line)) → Ascend m (given ++ (n, line) ∷ rest) → m < n
above m n line [] rest all = all.0
above m n line (e ∷ given) rest all = let h : m < e.0 = all.0 in let k : e.0 < n = above e.0 n line given rest all.1 in omega (arith, h, k)

other_number : (n m : ℕ) → m < n → nat_eq n m ≡ false
other_number n m h = grind (arith, nat_tests)

same_number : (n : ℕ) → nat_eq n n ≡ true
same_number n = grind (arith, nat_tests)

found : (m n : ℕ) (line : Line) (given rest : List (ℕ × Line)) → Ascend m (given ++ (n, line) ∷ rest) → text_of_line (given ++ (n, line) ∷ rest) n ≡ Some (line_text line)
found m n line [] rest all = rw (same_number n) refl
found m n line (e ∷ given) rest all = rw (other_number n e.0 (above e.0 n line given rest all.1)) (found e.0 n line given rest all.1)

-- the line that leads others is told by its number
pub line_told : (limits : Limits) (text : List ℕ) (given : List (ℕ × Line)) (n : ℕ) (line : Line) (rest : Lines) → lines limits text ≡ with_all (given ++ (n, line) ∷ []) rest →
    text_of_line ((given ++ (n, line) ∷ []) ++ rest.given) n ≡ Some (line_text line)
line_told limits text given n line rest e =
    let same : (given ++ (n, line) ∷ []) ++ rest.given ≡ given ++ (n, line) ∷ rest.given = append_assoc given ((n, line) ∷ []) rest.given in
    ap (λ (es : List (ℕ × Line)). text_of_line es n) same
    ∙ found 0 n line given rest.given
    (subst (λ (es : List (ℕ × Line)). Ascend 0 es) (ap (λ (ls : Lines). ls.given) e ∙ same) (ascend_behind limits 0 0 (raw_lines text)))
