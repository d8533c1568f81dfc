-- States by what was changed on the way to the present one.
use Rattle.std.specs.Prelude.{List, [], ◌∷◌, ◌++◌, slice_set}
use Rattle.dp_domain.specs.States.{Domains}
use Rattle.dp_engine.specs.declared.change.Change.{Change}

-- the states so far and the present one
pub record Course : Type 0 where
  pub past : List Domains
  pub present : Domains

-- all of them in order
abbrev pub all_of : Course → List Domains
all_of c = c.past ++ c.present ∷ []

-- the state before a change
abbrev pub undone : Change → Domains → Domains
undone c d = slice_set d c.var c.set

-- the state before all the changes, which are listed in order
abbrev pub undone_all : List Change → Domains → Domains
undone_all [] d = d
undone_all (c ∷ cs) d = undone c (undone_all cs d)

-- the states before each of the changes that led to this one
abbrev pub past_of : List Change → Domains → List Domains
past_of [] d = []
past_of (c ∷ cs) d = undone_all (c ∷ cs) d ∷ past_of cs d
