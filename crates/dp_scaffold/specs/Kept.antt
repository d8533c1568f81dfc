-- What the gatherer keeps true of what the lines say.
use Rattle.std.specs.Prelude.{◌≡◌, ◌<◌, ◌≤◌, Option, Some, None, List, [], ◌∷◌, ◌++◌, length}
use Rattle.dp_base.specs.Lists.{Each}
use Rattle.dp_domain.specs.Atoms.{Atomic}
use Rattle.dp_domain.specs.States.{AreOf}
use Rattle.dp_domain.specs.declared.verdict.Verdict.{Verdict}
use Rattle.dp_checker.specs.Goals.{IsOfGoal}
use Rattle.dp_parts.specs.Problems.{Csp, IsProblem}
use Rattle.dp_scaffold.specs.Gathering.{Gathered, most_literals, most_nogoods}
use Rattle.dp_scaffold.specs.Scaffolds.{IsScaffold, nogood_of}

-- a claim is of the goal, and its nogood is the last; without one there is room for it
abbrev pub IsClaimed : Csp → List (List Atomic) → Option Verdict → Type 0
IsClaimed p nogoods None = length nogoods ≤ most_nogoods
IsClaimed p nogoods (Some verdict) =
    IsOfGoal p verdict × ((earlier : List (List Atomic)) × (nogoods ≡ earlier ++ nogood_of verdict ∷ []) × (length earlier ≤ most_nogoods))

-- what is said speaks of the problem's variables alone, each nogood has its line and its number, and there are not too many
pub record IsKept (p : Csp) (g : Gathered) : Type 0 where
  pub problem : IsProblem p
  pub atoms : Each (λ entry. entry.1.var < length p.initial) g.atoms
  pub nogoods : Each (AreOf p.initial) g.nogoods
  pub lines : length g.lines ≡ length g.nogoods
  pub ids : length g.ids ≡ length g.nogoods
  pub literals : g.literals ≤ most_literals
  pub claim : IsClaimed p g.nogoods g.claim

-- where a claim closes the nogoods, they are a scaffold
abbrev pub IsClosedBy : Gathered → Option Verdict → Type 0
IsClosedBy g None = Unit {0}
IsClosedBy g (Some verdict) = IsScaffold (record { nogoods = g.nogoods; lines = g.lines; ids = g.ids; claim = verdict })

abbrev pub IsClosed : Gathered → Type 0
IsClosed g = IsClosedBy g g.claim
