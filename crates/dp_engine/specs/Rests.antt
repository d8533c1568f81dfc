-- Parts at rest.
use Rattle.std.specs.Prelude.{◌≡◌, ℕ, Bool, true, false, List, length, get_or, slice_get, Some, None}
use Rattle.dp_domain.specs.Faces.{AgreesOn}
use Rattle.dp_domain.specs.States.{Domains, is_dead}
use Rattle.dp_domain.specs.Turns.{turn_of}
use Rattle.dp_engine.specs.Placed.{Placed}

-- each part that is not woken has no turn: at no state with values left does it have one where its variables have these sets
abbrev pub Rest : List Placed → List Bool → Domains → Type 0
Rest parts woken d = (k : ℕ) (q : Placed) → slice_get parts k ≡ Some q → get_or woken k true ≡ false
    → (e : Domains) → length e ≡ length d → is_dead e ≡ false → AgreesOn q.face.scope d e → turn_of q.face e ≡ None
