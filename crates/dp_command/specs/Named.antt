-- Atoms and claims, by the own names of variables.
use Rattle.std.specs.Prelude.{ℕ, List, [], ◌∷◌, ◌++◌, codes, get_or}
use Rattle.std.specs.List.{flat_map}
use Rattle.dp_domain.specs.Atoms.{Atomic}
use Rattle.dp_domain.specs.declared.verdict.Verdict.{Verdict}
use Rattle.dp_domain.specs.declared.verdict.Verdict.TheVariants as verdict
use Rattle.dp_lines.specs.Spelling.{atom_text}
use Rattle.dp_parts.specs.Problems.{Csp}
use Rattle.dp_command.specs.declared.reply.Claim.{Claim}
use Rattle.dp_command.specs.declared.reply.Claim.TheVariants as claim

-- the own name of the variable
abbrev pub own_name : Csp → ℕ → List ℕ
own_name p x = (get_or p.names (get_or p.own x 0) ([], 0)).0

-- what is concluded, by name
abbrev pub claim_of : Csp → Verdict → Claim
claim_of p verdict.Unsat = claim.Unsat
claim_of p (verdict.Bound a) = claim.Bound (own_name p a.var) a.op a.value

-- the atom, by name
abbrev pub named_atom : Csp → Atomic → List ℕ
named_atom p a = atom_text (own_name p a.var) a.op a.value

-- the atoms, joined by ` & `; `true` where there are none
abbrev pub conjunction : Csp → List Atomic → List ℕ
conjunction p [] = codes "true"
conjunction p (a ∷ atoms) = named_atom p a ++ flat_map (λ b. codes " & " ++ named_atom p b) atoms
