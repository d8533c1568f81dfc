-- Which words make which line, and the first flaw of words that make none.
use Rattle.std.specs.Prelude.{ℕ, Bool, false, not, ◌||◌, if◌then◌else◌, Option, Some, None, Result, Ok, Err, List, [], ◌∷◌, drop, ℤ, codes}
use Rattle.std.specs.Str.{bytes_eq}
use Rattle.dp_lines.specs.Figures.{constraint_at, is_constraint, is_label_field, is_nought, kind_at, label_at, literal_at, mark_at, name_at, number_at, op_at, value_at}
use Rattle.dp_lines.specs.Words.{Word, front_word}
use Rattle.dp_lines.specs.declared.fields.Kind.{Kind}
use Rattle.dp_lines.specs.declared.fields.Kind.TheVariants.{Atom as AtomLine, Inference as InferenceLine, Nogood as NogoodLine, Conclusion as ConclusionLine}
use Rattle.dp_lines.specs.declared.line.Line.{Line}
use Rattle.dp_lines.specs.declared.line.Line.TheVariants.{Atom, Inference, Nogood, Conclude}
use Rattle.dp_lines.specs.declared.line.Claim.{Claim}
use Rattle.dp_lines.specs.declared.line.Claim.TheVariants.{Unsat, Bound}
use Rattle.dp_lines.specs.declared.refusal.Flaw.{Flaw}

-- what the words say, with the words behind it; or their first flaw
abbrev pub Reading : Type 0 → Type 0
Reading X = Result (X × List Word) Flaw

abbrev pub behind : {X Y : Type 0} → Reading X → (X → List Word → Reading Y) → Reading Y
behind (Ok p) next = next p.0 p.1
behind (Err flaw) next = Err flaw

-- one thing, and then what its value chooses
infixl 10 ◌>>=◌
abbrev pub ◌>>=◌ : {X Y : Type 0} → (List Word → Reading X) → (X → List Word → Reading Y) → List Word → Reading Y
(read >>= next) ws = behind (read ws) next

abbrev pub given : {X : Type 0} → X → List Word → Reading X
given x ws = Ok (x, ws)

abbrev pub with_rest : {X : Type 0} → List Word → Result X Flaw → Reading X
with_rest ws (Ok x) = Ok (x, ws)
with_rest ws (Err flaw) = Err flaw

-- what the next word says; where the line ends, the word is empty, and its place is the line's end
abbrev pub one : {X : Type 0} → (ℕ → List ℕ → Result X Flaw) → ℕ → List Word → Reading X
one read end ws = with_rest (drop 1 ws) (read (front_word end ws).at (front_word end ws).text)

-- nothing is left: an empty word stands for the line's end
abbrev pub ended : ℕ → List Word → Reading (Unit {0})
ended end ws = one (mark_at []) end ws

abbrev pub with_first : {X : Type 0} → X → List X → List Word → Reading (List X)
with_first x xs ws = Ok (x ∷ xs, ws)

-- what each word says, up to the line's end or a word with the property
abbrev pub many : {X : Type 0} → (List ℕ → Bool) → (ℕ → List ℕ → Result X Flaw) → List Word → Reading (List X)
many stops read [] = Ok ([], [])
many stops read (w ∷ ws) =
    if stops w.text then Ok ([], w ∷ ws)
    else behind (with_rest ws (read w.at w.text)) (λ x rest. behind (many stops read ws) (with_first x))

-- what the next word says, where one with the property stands there
abbrev pub optional : {X : Type 0} → (List ℕ → Bool) → (ℕ → List ℕ → Result X Flaw) → ℕ → List Word → Reading (Option X)
optional is read end ws = if is (front_word end ws).text then behind (one read end ws) (λ x rest. Ok (Some x, rest)) else Ok (None, ws)

-- what may not stand for a consequent: the line's end, `c:..` and `l:..`
abbrev pub ends_fields : List ℕ → Bool
ends_fields text = bytes_eq text [] || (is_constraint text || is_label_field text)

-- literals up to the field `0` or the line's end
abbrev pub literals : List Word → Reading (List ℤ)
literals ws = many is_nought literal_at ws

-- numbers up to the line's end
abbrev pub numbers : List Word → Reading (List ℕ)
numbers ws = many (λ text. false) number_at ws

-- ID [NAME OP VALUE]
abbrev pub atom_line : ℕ → List Word → Reading Line
atom_line end = do
  id ← one number_at end
  opened ← one (mark_at (codes "[")) end
  name ← one name_at end
  op ← one op_at end
  value ← one (value_at op) end
  closed ← one (mark_at (codes "]")) end
  last ← ended end
  given (Atom id name op value)

-- the consequent: any field but `c:..` and `l:..`
abbrev pub consequent : ℕ → List Word → Reading (Option ℤ)
consequent end ws = optional (λ text. not (ends_fields text)) literal_at end ws

abbrev pub constraint : ℕ → List Word → Reading (Option ℕ)
constraint end ws = optional is_constraint constraint_at end ws

abbrev pub label : ℕ → List Word → Reading (Option (List ℕ))
label end ws = optional is_label_field label_at end ws

-- the constraint, which may stand behind the label where it did not stand before it
abbrev pub late_constraint : Option ℕ → ℕ → List Word → Reading (Option ℕ)
late_constraint (Some k) end ws = Ok (Some k, ws)
late_constraint None end ws = constraint end ws

-- [c:K] [l:LABEL] in either order
abbrev pub reason : ℕ → List Word → Reading (Option ℕ × Option (List ℕ))
reason end = do
  early ← constraint end
  l ← label end
  k ← late_constraint early end
  given (k, l)

-- ID LIT* 0 [LIT] [c:K] [l:LABEL]
abbrev pub inference_line : ℕ → List Word → Reading Line
inference_line end = do
  id ← one number_at end
  premises ← literals
  separator ← one (mark_at (codes "0")) end
  implied ← consequent end
  why ← reason end
  last ← ended end
  given (Inference id premises implied why.0 why.1)

-- [0 HINT*]
abbrev pub hints : ℕ → List Word → Reading (List ℕ)
hints end [] = Ok ([], [])
hints end (w ∷ ws) = (one (mark_at (codes "0")) end >>= λ separator. numbers) (w ∷ ws)

-- ID LIT* [0 HINT*]
abbrev pub nogood_line : ℕ → List Word → Reading Line
nogood_line end = do
  id ← one number_at end
  atoms ← literals
  by ← hints end
  last ← ended end
  given (Nogood id atoms by)

-- UNSAT or LIT
abbrev pub bound_of : Result ℤ Flaw → Result Claim Flaw
bound_of (Ok l) = Ok (Bound l)
bound_of (Err flaw) = Err flaw

abbrev pub claim_at : ℕ → List ℕ → Result Claim Flaw
claim_at at text = if bytes_eq text (codes "UNSAT") then Ok Unsat else bound_of (literal_at at text)

abbrev pub conclusion_line : ℕ → List Word → Reading Line
conclusion_line end = do
  claim ← one claim_at end
  last ← ended end
  given (Conclude claim)

abbrev pub line_by : Kind → ℕ → List Word → Reading Line
line_by AtomLine end = atom_line end
line_by InferenceLine end = inference_line end
line_by NogoodLine end = nogood_line end
line_by ConclusionLine end = conclusion_line end

-- the line of these words; `end` is the place behind the line's last byte
abbrev pub line_of : ℕ → List Word → Reading Line
line_of end = do
  kind ← one kind_at end
  line_by kind end
