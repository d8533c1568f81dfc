-- The numbers, names and labels that single words spell, and the flaw of one that does not fit.
use Rattle.std.specs.Prelude.{ℕ, ◌+◌, ◌^◌, Bool, true, false, not, ◌&&◌, ◌==◌, nat_le, if◌then◌else◌, Result, Ok, Err, List, [], ◌∷◌, drop, slice_index, ℤ, pos, neg_ℤ, int_le, codes}
use Rattle.std.specs.List.{list_all}
use Rattle.std.specs.Str.{bytes_eq}
use Rattle.std.specs.Str.Parse.{digits_value}
use Rattle.dp_base.specs.Names.{is_name}
use Rattle.dp_domain.specs.Atoms.{largest}
use Rattle.dp_domain.specs.declared.atom.Op.{Op}
use Rattle.dp_domain.specs.declared.atom.Op.TheVariants.{Ge, Le, Eq, Ne}
use Rattle.dp_lines.specs.Allowed.{is_label}
use Rattle.dp_lines.specs.Words.{is_decimal}
use Rattle.dp_lines.specs.declared.refusal.Flaw.{Flaw}
use Rattle.dp_lines.specs.declared.refusal.Flaw.TheVariants.{Form, Number, NotBuilt}
use Rattle.dp_lines.specs.declared.fields.Kind.{Kind}
use Rattle.dp_lines.specs.declared.fields.Kind.TheVariants.{Atom as AtomLine, Inference as InferenceLine, Nogood as NogoodLine, Conclusion as ConclusionLine}

-- one or more decimal digits
abbrev pub are_digits : List ℕ → Bool
are_digits [] = false
are_digits (d ∷ ds) = list_all is_decimal (d ∷ ds)

-- whether it is from 1 to 10^18
abbrev pub is_number : ℕ → Bool
is_number n = nat_le 1 n && nat_le n (10 ^ 18)

-- the number that digits spell, with or without leading zeros; what is said of other bytes, and of a number out of range
abbrev pub figure : Flaw → Flaw → List ℕ → Result ℕ Flaw
figure unfit beyond ds =
    if are_digits ds then (if is_number (digits_value 10 ds) then Ok (digits_value 10 ds) else Err beyond) else Err unfit

-- the number of an atom or a step
abbrev pub number_at : ℕ → List ℕ → Result ℕ Flaw
number_at at text = figure (Form at) (Number at) text

abbrev pub signed_by : Bool → Result ℕ Flaw → Result ℤ Flaw
signed_by negative (Ok n) = Ok (if negative then neg_ℤ (pos n) else pos n)
signed_by negative (Err flaw) = Err flaw

-- such a number, or its negative behind a `-`
abbrev pub literal_at : ℕ → List ℕ → Result ℤ Flaw
literal_at at [] = Err (Form at)
literal_at at (b ∷ ds) = if b == 45 then signed_by true (number_at at ds) else signed_by false (number_at at (b ∷ ds))

-- whether an atom may name the number, which lies within ±10^18
abbrev pub is_nameable : Op → ℤ → Bool
is_nameable Ge v = not (int_le v (neg_ℤ largest))
is_nameable Le v = not (int_le largest v)
is_nameable Eq v = true
is_nameable Ne v = true

abbrev pub nameable_at : ℕ → Op → Result ℤ Flaw → Result ℤ Flaw
nameable_at at op (Ok v) = if is_nameable op v then Ok v else Err (Number at)
nameable_at at op (Err flaw) = Err flaw

-- the number of an atom with this comparison; zero is spelled `0` alone
abbrev pub value_at : Op → ℕ → List ℕ → Result ℤ Flaw
value_at op at text = if bytes_eq text (codes "0") then Ok (pos 0) else nameable_at at op (literal_at at text)

-- a comparison
abbrev pub op_at : ℕ → List ℕ → Result Op Flaw
op_at at text =
    if bytes_eq text (codes ">=") then Ok Ge else (if bytes_eq text (codes "<=") then Ok Le
    else (if bytes_eq text (codes "==") then Ok Eq else (if bytes_eq text (codes "!=") then Ok Ne else Err (Form at))))

-- a name
abbrev pub name_at : ℕ → List ℕ → Result (List ℕ) Flaw
name_at at text = if is_name text then Ok text else Err (Form at)

-- these bytes
abbrev pub mark_at : List ℕ → ℕ → List ℕ → Result (Unit {0}) Flaw
mark_at mark at text = if bytes_eq text mark then Ok tt else Err (Form at)

-- the field `0`
abbrev pub is_nought : List ℕ → Bool
is_nought text = bytes_eq text (codes "0")

-- whether the first two bytes are `c:`
abbrev pub is_constraint : List ℕ → Bool
is_constraint text = (slice_index text 0 == 99) && (slice_index text 1 == 58)

-- whether they are `l:`
abbrev pub is_label_field : List ℕ → Bool
is_label_field text = (slice_index text 0 == 108) && (slice_index text 1 == 58)

-- `c:` and the number of a constraint, whose place is behind the `c:`
abbrev pub constraint_at : ℕ → List ℕ → Result ℕ Flaw
constraint_at at text = figure (Form at) (Number (at + 2)) (drop 2 text)

-- `l:` and a label
abbrev pub label_at : ℕ → List ℕ → Result (List ℕ) Flaw
label_at at text = if is_label (drop 2 text) then Ok (drop 2 text) else Err (Form at)

-- the kind of line that a first field names; deletions are not built
abbrev pub kind_at : ℕ → List ℕ → Result Kind Flaw
kind_at at text =
    if bytes_eq text (codes "a") then Ok AtomLine else (if bytes_eq text (codes "i") then Ok InferenceLine
    else (if bytes_eq text (codes "n") then Ok NogoodLine else (if bytes_eq text (codes "c") then Ok ConclusionLine
    else (if bytes_eq text (codes "d") then Err NotBuilt else Err (Form at)))))
