-- The canonical spelling of a log's lines, which is this project's own form after DRCP.
use Rattle.std.specs.Prelude.{ℕ, ◌+◌, Option, Some, None, List, [], ◌∷◌, ◌++◌, ℤ, pos, negsuc, codes}
use Rattle.std.specs.List.{flat_map}
use Rattle.std.specs.Fmt.{decimal}
use Rattle.dp_domain.specs.declared.atom.Op.{Op}
use Rattle.dp_domain.specs.declared.atom.Op.TheVariants.{Ge, Le, Eq, Ne}
use Rattle.dp_lines.specs.declared.line.Line.{Line}
use Rattle.dp_lines.specs.declared.line.Line.TheVariants.{Atom, Inference, Nogood, Delete, Conclude}
use Rattle.dp_lines.specs.declared.line.Claim.TheVariants.{Unsat, Bound}

-- decimal digits without leading zeros, after a minus for a number below 0
abbrev pub signed : ℤ → List ℕ
signed (pos n) = decimal n
signed (negsuc n) = codes "-" ++ decimal (n + 1)

-- one of the four comparisons
abbrev pub op_text : Op → List ℕ
op_text Ge = codes ">="
op_text Le = codes "<="
op_text Eq = codes "=="
op_text Ne = codes "!="

-- an atom as it is written: `[NAME OP VALUE]`
abbrev pub atom_text : List ℕ → Op → ℤ → List ℕ
atom_text name op value = codes "[" ++ name ++ codes " " ++ op_text op ++ codes " " ++ signed value ++ codes "]"

-- a field of a line, with the blank before it
abbrev pub field : List ℕ → List ℕ
field text = codes " " ++ text

-- the field, where there is a value for it
abbrev pub field_of : {A : Type 0} → (A → List ℕ) → Option A → List ℕ
field_of text None = []
field_of text (Some x) = field (text x)

-- literals, each as a field
abbrev pub literals_text : List ℤ → List ℕ
literals_text literals = flat_map (λ l. field (signed l)) literals

-- the hints, behind the field `0`; nothing where there are none
abbrev pub hints_text : List ℕ → List ℕ
hints_text [] = []
hints_text (h ∷ hints) = field (codes "0") ++ flat_map (λ k. field (decimal k)) (h ∷ hints)

-- the fields of a line, without its end
abbrev pub fields_text : Line → List ℕ
fields_text (Atom id name op value) = codes "a" ++ field (decimal id) ++ field (atom_text name op value)
fields_text (Inference id premises consequent constraint label) =
    codes "i" ++ field (decimal id) ++ literals_text premises ++ field (codes "0") ++ field_of signed consequent
    ++ field_of (λ k. codes "c:" ++ decimal k) constraint ++ field_of (λ l. codes "l:" ++ l) label
fields_text (Nogood id atoms hints) = codes "n" ++ field (decimal id) ++ literals_text atoms ++ hints_text hints
fields_text (Delete id) = codes "d" ++ field (decimal id)
fields_text (Conclude Unsat) = codes "c UNSAT"
fields_text (Conclude (Bound literal)) = codes "c" ++ field (signed literal)

-- the canonical spelling, with the line's end
abbrev pub line_text : Line → List ℕ
line_text line = fields_text line ++ 10 ∷ []
