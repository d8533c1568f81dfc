-- Writing the justifications, nogood by nogood, in the words of the writer.
use Rattle.std.specs.Prelude.{◌≡◌, ℕ, ◌+◌, ◌≤◌, Option, Some, None, List, [], ◌∷◌, ◌++◌, length, slice_get, slice_index_or}
use Rattle.dp_domain.specs.Atoms.{Atomic}
use Rattle.dp_engine.specs.declared.part_id.PartId.{PartId}
use Rattle.dp_engine.specs.declared.part_id.PartId.TheVariants.{Model, Nogood}
use Rattle.dp_justify.specs.Replay.{Holds, SpeaksOf, constraint_at}
use Rattle.dp_justify.specs.declared.kept.Kept.{Kept}
use Rattle.dp_justify.specs.declared.piece.Piece.{Piece}
use Rattle.dp_parts.specs.Posed.{Labelled}
use Rattle.dp_parts.specs.Problems.{Csp, posed}
use Rattle.dp_scaffold.specs.Scaffolds.{Learned}
use Rattle.dp_writer.specs.Steps.{Step}
use Rattle.dp_writer.specs.Written.{StandsFor, Written, nogood}
use Rattle.dp_process.specs.Processed.{hints_of, inferences}
use Rattle.dp_process.specs.declared.refusal.ProcessRefusal.{ProcessRefusal}
use Rattle.dp_process.specs.declared.refusal.ProcessRefusal.TheVariants.{NotFollowing, Memory}

-- whatever was written before, these steps were written after it
abbrev pub AddsAll : Written → List Step → Written → Type 0
AddsAll old more new =
    (steps : List Step) (drained : List ℕ) → StandsFor old steps drained → StandsFor new (steps ++ more) drained

-- the number at the place
abbrev pub numbered : List ℕ → ℕ → ℕ
numbered numbers j = slice_index_or numbers j 0

-- the number of the nogood that gives the turn is one of so many that were answered
abbrev pub IsKnown : ℕ → List ℕ → PartId → Type 0
IsKnown count numbers (Model k i) = Unit {0}
IsKnown count numbers (Nogood j) = (1 ≤ numbered numbers j) × (numbered numbers j ≤ count)

-- the turn can be written after so many steps, where the nogoods before it have these numbers
pub record IsWritable (p : Csp) (numbers : List ℕ) (count : ℕ) (k : Kept) : Type 0 where
  pub holds : Holds (posed p) (length numbers) k
  pub speaks : SpeaksOf p.initial k
  pub known : IsKnown count numbers k.source

-- a part stands at this place of the constraint at that place
abbrev pub IsPartAt : Csp → ℕ → ℕ → Type 0
IsPartAt p k i = (q : Labelled) × (slice_get (constraint_at (posed p) k) i ≡ Some q)

-- the refusal names the nogood at the place
abbrev pub IsRefusalAt : Learned → ℕ → ProcessRefusal → Type 0
IsRefusalAt s at (NotFollowing place line id) = (place ≡ at) × (slice_get s.lines at ≡ Some line) × (slice_get s.ids at ≡ Some id)
IsRefusalAt s at Memory = ⊥

-- the steps of a nogood with this justification, after so many steps; none where it has none
abbrev pub steps_from : Csp → (ℕ → ℕ) → ℕ → List Atomic → Option Piece → List Step
steps_from p number n atoms None = []
steps_from p number n atoms (Some piece) = inferences p piece.steps ++ nogood p atoms (hints_of number n piece.steps) ∷ []

-- how many steps there are then
abbrev pub count_from : Csp → ℕ → Option Piece → ℕ
count_from p n None = n
count_from p n (Some piece) = n + (length (inferences p piece.steps) + 1)
