-- What a nogood adds.
use Rattle.std.specs.Prelude.{ℕ, ◌+◌, List, [], ◌∷◌, ◌++◌, length, ℤ}
use Rattle.dp_checker.specs.Known.{literal_atoms}
use Rattle.dp_domain.specs.Atoms.{Atomic}
use Rattle.dp_rule_clause.specs.Nogoods.{each_once}
use Rattle.dp_scaffold.specs.Gathering.{Gathered}

-- with a nogood, its line and its number
abbrev pub with_nogood : Gathered → List Atomic → ℕ → ℕ → Gathered
with_nogood g nogood line id = record g { nogoods = g.nogoods ++ nogood ∷ []; lines = g.lines ++ line ∷ []; ids = g.ids ++ id ∷ [] }

-- with the step of a nogood's line: its number, its literals and the nogood of their atoms
abbrev pub with_step : Gathered → ℕ → ℕ → List ℤ → Gathered
with_step g line id literals =
    with_nogood (record g { steps = g.steps ++ id ∷ []; literals = g.literals + length literals }) (each_once (literal_atoms g.atoms literals)) line id
