-- What a part is to all that stands above it, and the laws of its test.
use Rattle.std.specs.Prelude.{◌≡◌, ℕ, ◌<◌, Bool, true, false, List, [], ◌∷◌, length, ℤ}
use Rattle.dp_base.specs.Lists.{Among, Each, Climbs}
use Rattle.dp_domain.specs.States.{Domains, values, is_dead, IsWithin}

-- a part's variables, its test whether it clashes at a state, and the values that it may take out singly
pub record Face : Type 0 where
  pub scope : List ℕ
  pub test : Domains → Bool
  pub point : ℕ → ℤ → Bool

-- each variable of the scope has a set
abbrev pub Covers : List ℕ → Domains → Type 0
Covers scope d = Each (λ x. x < length d) scope

-- the two states give each variable of the scope the same values
abbrev pub AgreesOn : List ℕ → Domains → Domains → Type 0
AgreesOn scope d e = (x : ℕ) → Among x scope → values d x ≡ values e x

-- each variable of the scope has one value left, the assignment's
abbrev pub Fixes : List ℕ → (ℕ → ℤ) → Domains → Type 0
Fixes scope s d = (x : ℕ) → Among x scope → values d x ≡ s x ∷ []

-- what holds of the test of every part
pub record IsLawful (f : Face) : Type 0 where
  -- the scope lists each variable once, in order of declaration
  pub ordered : Climbs f.scope
  -- it clashes where some variable has no value left
  pub dead : (d : Domains) → is_dead d ≡ true → f.test d ≡ true
  -- where it clashes, it clashes at every smaller state
  pub monotone : (d e : Domains) → Covers f.scope d → IsWithin e d → f.test d ≡ true → f.test e ≡ true
  -- at nonempty states it depends on the sets of the scope alone
  pub local : (d e : Domains) → is_dead d ≡ false → is_dead e ≡ false → AgreesOn f.scope d e → f.test d ≡ f.test e
