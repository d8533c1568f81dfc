-- The parts of a problem and its nogoods, in the order in which they are asked for turns.
use Rattle.std.specs.Prelude.{ℕ, ◌+◌, ◌<◌, List, [], ◌∷◌, ◌++◌, Option, slice_get}
use Rattle.std.specs.Option.{option_map, option_and_then}
use Rattle.dp_base.specs.Lists.{Each}
use Rattle.dp_domain.specs.Atoms.{Atomic}
use Rattle.dp_domain.specs.Faces.{Face, IsLawful}
use Rattle.dp_parts.specs.Posed.{Labelled, Posed}
use Rattle.dp_rule_clause.specs.Nogoods.{face_nogood}
use Rattle.dp_engine.specs.declared.part_id.PartId.{PartId}
use Rattle.dp_engine.specs.declared.part_id.PartId.TheVariants.{Model, Nogood}

-- a part and where it stands
pub record Placed : Type 0 where
  pub id : PartId
  pub face : Face

-- the parts of constraint k, from its part i on
abbrev pub of_constraint : ℕ → ℕ → List Labelled → List Placed
of_constraint k i [] = []
of_constraint k i (q ∷ qs) = record { id = Model k i; face = q.face } ∷ of_constraint k (i + 1) qs

-- the parts of the constraints, from constraint k on
abbrev pub of_constraints : ℕ → List (List Labelled) → List Placed
of_constraints k [] = []
of_constraints k (c ∷ cs) = of_constraint k 0 c ++ of_constraints (k + 1) cs

-- the nogoods, from place j on
abbrev pub of_nogoods : ℕ → List (List Atomic) → List Placed
of_nogoods j [] = []
of_nogoods j (n ∷ ns) = record { id = Nogood j; face = face_nogood n } ∷ of_nogoods (j + 1) ns

-- constraint by constraint, part by part, then the nogoods by place
abbrev pub turn_order : Posed → List (List Atomic) → List Placed
turn_order p nogoods = of_constraints 0 p.constraints ++ of_nogoods 0 nogoods

-- the face of the part that stands there
abbrev pub face_at : Posed → List (List Atomic) → PartId → Option Face
face_at p nogoods (Model k i) = option_map (λ q. q.face) (option_and_then (λ c. slice_get c i) (slice_get p.constraints k))
face_at p nogoods (Nogood j) = option_map face_nogood (slice_get nogoods j)

-- the part's test has the laws of every test, and speaks of variables that there are
pub record IsSound (variables : ℕ) (q : Placed) : Type 0 where
  pub lawful : IsLawful q.face
  pub covered : Each (λ x. x < variables) q.face.scope

-- each part is such
abbrev pub AreSound : ℕ → List Placed → Type 0
AreSound variables parts = Each (IsSound variables) parts
