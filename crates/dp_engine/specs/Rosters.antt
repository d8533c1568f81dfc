-- The parts of the model by their places, and nogoods: all parts in the order of turns.
use Rattle.std.specs.Prelude.{ℕ, List, [], ◌∷◌, ◌++◌, map, ℤ}
use Rattle.dp_domain.specs.Atoms.{Atomic}
use Rattle.dp_parts.specs.Parts.{face_of}
use Rattle.dp_parts.specs.declared.part.Part.{Part}
use Rattle.dp_engine.specs.declared.part_id.PartId.{PartId}
use Rattle.dp_engine.specs.Placed.{Placed, of_nogoods}

-- the parts of the model, each with its place, and the nogoods in order
pub record Listed : Type 0 where
  pub model : List (PartId × Part)
  pub nogoods : List (List Atomic)

-- a part of the model where it stands
abbrev pub placed_at : PartId × Part → Placed
placed_at entry = record { id = entry.0; face = face_of entry.1 }

-- all parts where they stand
abbrev pub all_placed : Listed → List Placed
all_placed l = map placed_at l.model ++ of_nogoods 0 l.nogoods
