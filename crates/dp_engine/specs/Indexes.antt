-- What engines over one problem and its nogoods share.
use Rattle.std.specs.Prelude.{◌≡◌, ℕ, ◌^◌, ◌<◌, ◌++◌, List, length, map}
use Rattle.dp_base.specs.Lists.{Each}
use Rattle.dp_domain.specs.Atoms.{Atomic}
use Rattle.dp_domain.specs.States.{AreOf}
use Rattle.dp_parts.specs.Problems.{Csp, IsProblem, posed}
use Rattle.dp_parts.specs.declared.part.Part.{Part}
use Rattle.dp_engine.specs.declared.part_id.PartId.{PartId}
use Rattle.dp_engine.specs.Engines.{Propagation}
use Rattle.dp_engine.specs.Placed.{of_constraints, turn_order}
use Rattle.dp_engine.specs.Rosters.{placed_at}
use Rattle.dp_engine.specs.Woken.{IsIndex}

-- a problem and nogoods
pub record Indexed : Type 0 where
  pub problem : Csp
  pub nogoods : List (List Atomic)

-- what every index keeps: its nogoods are few enough to be counted, and on the problem's variables
pub record IsIndexed (i : Indexed) : Type 0 where
  pub problem : IsProblem i.problem
  pub few : length i.nogoods < 2 ^ 32
  pub nogoods : Each (AreOf i.problem.initial) i.nogoods

-- the entries are the parts of the model, and the lists have all parts by their variables
pub record IsEntered (i : Indexed) (entries : List (PartId × Part)) (lists : List (List ℕ)) : Type 0 where
  pub indexed : IsIndexed i
  pub model : map placed_at entries ≡ of_constraints 0 (posed i.problem).constraints
  pub index : IsIndex (length i.problem.initial) (turn_order (posed i.problem) i.nogoods) lists

-- the engine is of the index's problem, and its nogoods are the first of the index
pub record IsOver (i : Indexed) (e : Propagation) : Type 0 where
  pub problem : e.problem ≡ i.problem
  pub later : List (List Atomic)
  pub nogoods : i.nogoods ≡ e.nogoods ++ later
