-- A whole text, in words that know nothing of reading: whose spelling it is, or what refuses it first, and where.
use Rattle.std.specs.Prelude.{◌≡◌, ◌≢◌, ◌≤◌, List, [], ◌∷◌, ◌++◌, length, Some, None, Result, Ok, Err}
use Rattle.dp_grammar.specs.Grammar.{Cause, Syntax, Test, Reading, Takes, Stops, Grammar}

-- some value's spelling begins so
abbrev pub CanBegin : {T F X : Type 0} → Grammar T F X → List T → Type 0
CanBegin {T} {F} {X} g front = (x : X) × (more : List T) × (g.spell x ≡ front ++ more)

-- behind the front the text ends too early, or with a token that no spelling has there
abbrev pub IsStuck : {T F X : Type 0} → Grammar T F X → List T → List T → Type 0
IsStuck {T} {F} {X} g front [] = (x : X) → g.spell x ≢ front
IsStuck g front (t ∷ rest) = CanBegin g (front ++ t ∷ []) → ⊥

-- The front begins a spelling, it does not with one token more, and no test refuses a token of the front.
pub record IsSyntax {T F X : Type 0} (g : Grammar T F X) (text rest : List T) : Type 0 where
  pub front : List T
  pub parts : text ≡ front ++ rest
  pub begins : CanBegin g front
  pub stuck : IsStuck g front rest
  pub passes : (x : X) (more : List T) (f : F) (at : List T) → g.spell x ≡ front ++ more → g.fault x ≡ Some (f, at) → length at ≤ length more

-- The front with the token begins a spelling, and this test refuses the token first in each value that is spelled so.
pub record IsTested {T F X : Type 0} (g : Grammar T F X) (f : F) (text rest : List T) : Type 0 where
  pub front : List T
  pub token : T
  pub after : List T
  pub at : rest ≡ token ∷ after
  pub parts : text ≡ front ++ rest
  pub begins : CanBegin g (front ++ token ∷ [])
  pub each : (x : X) (more : List T) → g.spell x ≡ front ++ token ∷ more → g.fault x ≡ Some (f, token ∷ more)

abbrev pub IsFirstRefusal : {T F X : Type 0} → Grammar T F X → List T → Cause F → List T → Type 0
IsFirstRefusal g text Syntax rest = IsSyntax g text rest
IsFirstRefusal g text (Test f) rest = IsTested g f text rest

-- the text is the value's spelling and passes each test; or this is its first refusal, at the first token of the rest
abbrev pub Says : {T F X : Type 0} → Grammar T F X → List T → Result X (Cause F × List T) → Type 0
Says g text (Ok x) = (text ≡ g.spell x) × (g.fault x ≡ None)
Says g text (Err p) = IsFirstRefusal g text p.0 p.1

-- ---- reading all of a text

abbrev pub finished : {T F X : Type 0} → Reading T F X → Result X (Cause F × List T)
finished (Takes x []) = Ok x
finished (Takes x (t ∷ rest)) = Err (Syntax, t ∷ rest)
finished (Stops cause rest) = Err (cause, rest)

abbrev pub whole : {T F X : Type 0} → Grammar T F X → List T → Result X (Cause F × List T)
whole g text = finished (g.read text)
