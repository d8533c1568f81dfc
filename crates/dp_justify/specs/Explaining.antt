-- When a turn has an explanation.
use Rattle.std.specs.Prelude.{◌≡◌, true, false, Option, []}
use Rattle.dp_domain.specs.Atoms.{Atomic}
use Rattle.dp_domain.specs.Explanations.{IsOpen, suffices}
use Rattle.dp_domain.specs.Faces.{Covers, Face, IsLawful}
use Rattle.dp_domain.specs.States.{Domains, IsWithin, is_dead}

-- at a state within the initial one, which is not dead, the part clashes, or this atom is new and follows
pub record IsExplainable (face : Face) (initial now : Domains) (target : Option Atomic) : Type 0 where
  pub lawful : IsLawful face
  pub covers : Covers face.scope now
  pub alive : is_dead now ≡ false
  pub within : IsWithin now initial
  pub new : IsOpen now target
  pub clash : suffices face now target [] ≡ true
