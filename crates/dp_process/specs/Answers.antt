-- What `process` answers.
use Rattle.std.specs.Prelude.{◌≡◌, ℕ, Some, Result, Ok, Err, slice_get}
use Rattle.dp_parts.specs.Problems.{Csp, posed}
use Rattle.dp_scaffold.specs.Scaffolds.{Learned}
use Rattle.dp_process.specs.Met.{IsFailing}
use Rattle.dp_process.specs.declared.refusal.ProcessRefusal.{ProcessRefusal}
use Rattle.dp_process.specs.declared.refusal.ProcessRefusal.TheVariants.{NotFollowing, Memory}

-- the failing nogood stands on this line and has this number
pub record IsFailingAt (p : Csp) (s : Learned) (place line id : ℕ) : Type 0 where
  pub failing : IsFailing (posed p) s.nogoods place
  pub stands : slice_get s.lines place ≡ Some line
  pub numbered : slice_get s.ids place ≡ Some id

-- the answer names the failing nogood, unless it is none, or memory was wanting
abbrev pub NamesFailing : {T : Type 0} → Csp → Learned → Result T ProcessRefusal → Type 0
NamesFailing p s (Ok x) = Unit {0}
NamesFailing p s (Err (NotFollowing place line id)) = IsFailingAt p s place line id
NamesFailing p s (Err Memory) = Unit {0}
