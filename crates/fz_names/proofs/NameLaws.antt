-- What is declared is new.
use Rattle.std.specs.Prelude.{◌≡◌, Option, Some, None}
use Rattle.std.proofs.Common.{refl}
use Rattle.std.specs.Option.{option_map_or}
use Rattle.fz_model.specs.declared.fault.Fault.{Fault}

-- a fault that is told where there is something, and is not told
pub none_told : {A : Type 0} (fault : Fault) (o : Option A) → option_map_or (λ a. Some fault) o None ≡ None → o ≡ None
none_told fault None e = refl
none_told fault (Some a) e = cc
