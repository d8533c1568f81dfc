-- Grammars as values: how a thing is spelled, which test refuses it first, and how it is read; and what makes the three one.
use Rattle.std.specs.Prelude.{◌≡◌, List, [], ◌∷◌, ◌++◌, Option, Some, None}

-- why a token is refused: no production allows it, or a test does not
pub data Cause (F : Type 0) : Type 0 where
  Syntax : Cause F
  Test : F → Cause F

-- what reading answers: a value and the tokens left, or a cause and the tokens from the refused one on
pub data Reading (T F X : Type 0) : Type 0 where
  Takes : X → List T → Reading T F X
  Stops : Cause F → List T → Reading T F X

-- A production. T are the tokens, F names the tests, X are the values: `spell` is the one spelling of a value, `fault` the
-- first test that refuses it with its spelling from the refused token on, and `read` reads a text from its front.
pub record Grammar (T F X : Type 0) : Type 0 where
  pub spell : X → List T
  pub fault : X → Option (F × List T)
  pub read : List T → Reading T F X

-- ---- words on texts

-- the first token
abbrev pub head : {T : Type 0} → List T → Option T
head [] = None
head (t ∷ rest) = Some t

-- a refused token that a production allows, where a test refuses it
abbrev pub allowed : {T F : Type 0} → Cause F → List T → List T
allowed Syntax rest = []
allowed (Test f) [] = []
allowed (Test f) (t ∷ rest) = t ∷ []

-- a test refuses a token, and not the end
abbrev pub HasToken : {T F : Type 0} → Cause F → List T → Type 0
HasToken Syntax rest = Unit {0}
HasToken (Test f) [] = ⊥
HasToken (Test f) (t ∷ rest) = Unit {0}

-- ---- what holds of each production

-- what is to be read of a value's spelling, where these tokens follow it: its first fault, or the value
abbrev pub verdict : {T F X : Type 0} → Option (F × List T) → X → List T → Reading T F X
verdict None x rest = Takes x rest
verdict (Some fault) x rest = Stops (Test fault.0) (fault.1 ++ rest)

-- Reading refuses the first token of the rest: it does so whatever follows that token, and some value is spelled as the
-- text is before it, and with it where a test refuses it.
pub record IsRefused {T F X : Type 0} (g : Grammar T F X) (text : List T) (cause : Cause F) (rest : List T) : Type 0 where
  pub front : List T
  pub parts : text ≡ front ++ rest
  pub stands : HasToken cause rest
  pub firm : (other : List T) → head other ≡ head rest → g.read (front ++ other) ≡ Stops cause other
  pub value : X
  pub more : List T
  pub spelled : g.spell value ≡ front ++ (allowed cause rest ++ more)

-- what an answer says of the text
abbrev pub Tells : {T F X : Type 0} → Grammar T F X → List T → Reading T F X → Type 0
Tells g text (Takes x rest) = (text ≡ g.spell x ++ rest) × (g.fault x ≡ None)
Tells g text (Stops cause rest) = IsRefused g text cause rest

-- There is a value; what is spelled as a value is read as that value, or refused where its first fault is; and what is
-- read is spelled so, or rightly refused.
pub record IsLawful {T F X : Type 0} (g : Grammar T F X) : Type 0 where
  pub some : X
  pub again : (x : X) (rest : List T) → g.read (g.spell x ++ rest) ≡ verdict (g.fault x) x rest
  pub tells : (text : List T) → Tells g text (g.read text)
