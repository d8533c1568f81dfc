-- The numbers, names and labels that a line may have.
use Rattle.std.specs.Prelude.{◌≡◌, ℕ, ◌^◌, ◌≤◌, true, IfSome, List, [], ◌∷◌, Bool, false, ◌&&◌, ℤ, unsigned_abs}
use Rattle.std.specs.List.{list_all}
use Rattle.dp_base.specs.Lists.{Each}
use Rattle.dp_base.specs.Names.{is_later, is_name}
use Rattle.dp_domain.specs.Atoms.{IsNameable}
use Rattle.dp_lines.specs.declared.line.Line.{Line}
use Rattle.dp_lines.specs.declared.line.Line.TheVariants.{Atom, Inference, Nogood, Delete, Conclude}
use Rattle.dp_lines.specs.declared.line.Claim.{Claim}
use Rattle.dp_lines.specs.declared.line.Claim.TheVariants.{Unsat, Bound}

-- the number of an atom, a step or a constraint: from 1 to 10^18
abbrev pub IsNumber : ℕ → Type 0
IsNumber n = (1 ≤ n) × (n ≤ 10 ^ 18)

-- such a number, or its negative
abbrev pub IsLiteral : ℤ → Type 0
IsLiteral l = IsNumber (unsigned_abs l)

-- whether it is one or more letters, digits and `_`
abbrev pub is_label : List ℕ → Bool
is_label [] = false
is_label (b ∷ bs) = is_later b && list_all is_later bs

-- a claim's literal is one
abbrev pub IsAllowedClaim : Claim → Type 0
IsAllowedClaim Unsat = Unit {0}
IsAllowedClaim (Bound literal) = IsLiteral literal

-- the line's numbers, names and labels are those that a log may have; deletions are not built
abbrev pub IsAllowed : Line → Type 0
IsAllowed (Atom id name op value) = IsNumber id × (is_name name ≡ true) × IsNameable op value
IsAllowed (Inference id premises consequent constraint label) =
    IsNumber id × Each IsLiteral premises × IfSome consequent IsLiteral × IfSome constraint IsNumber × IfSome label (λ l. is_label l ≡ true)
IsAllowed (Nogood id atoms hints) = IsNumber id × Each IsLiteral atoms × Each IsNumber hints
IsAllowed (Delete id) = ⊥
IsAllowed (Conclude claim) = IsAllowedClaim claim
