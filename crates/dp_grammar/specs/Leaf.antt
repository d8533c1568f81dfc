-- Productions of one token.
use Rattle.std.specs.Prelude.{◌≡◌, Bool, true, if◌then◌else◌, List, [], ◌∷◌, Option, Some, None}
use Rattle.dp_grammar.specs.Grammar.{Syntax, Test, Reading, Takes, Stops, Grammar}

-- which value a token stands for, the token of a value, and the first test that refuses the value
pub record Leaf (T F X : Type 0) : Type 0 where
  pub value : T → Option X
  pub token : X → T
  pub test : X → Option F

-- a token stands for a value exactly where it is the value's token
pub record IsLeaf {T F X : Type 0} (l : Leaf T F X) : Type 0 where
  pub some : X
  pub value_is : (x : X) → l.value (l.token x) ≡ Some x
  pub token_is : (t : T) (x : X) → l.value t ≡ Some x → l.token x ≡ t

abbrev pub fault_at : {T F : Type 0} → Option F → List T → Option (F × List T)
fault_at None text = None
fault_at (Some f) text = Some (f, text)

-- a value passes its test, or the token is refused
abbrev pub tested : {T F X : Type 0} → Option F → X → T → List T → Reading T F X
tested None x t rest = Takes x rest
tested (Some f) x t rest = Stops (Test f) (t ∷ rest)

abbrev pub valued : {T F X : Type 0} → Leaf T F X → Option X → T → List T → Reading T F X
valued l None t rest = Stops Syntax (t ∷ rest)
valued l (Some x) t rest = tested (l.test x) x t rest

abbrev pub read_leaf : {T F X : Type 0} → Leaf T F X → List T → Reading T F X
read_leaf l [] = Stops Syntax []
read_leaf l (t ∷ rest) = valued l (l.value t) t rest

abbrev pub leaf : {T F X : Type 0} → Leaf T F X → Grammar T F X
leaf l = record { spell = λ x. l.token x ∷ []; fault = λ x. fault_at (l.test x) (l.token x ∷ []); read = read_leaf l }

-- ---- one token and no other

abbrev pub only : {T F : Type 0} → (T → Bool) → T → Option F → Leaf T F (Unit {0})
only is t refusal = record { value = λ u. if is u then Some tt else None; token = λ _. t; test = λ _. refusal }

-- the test is true of this token alone
pub record IsOnly {T : Type 0} (is : T → Bool) (t : T) : Type 0 where
  pub itself : is t ≡ true
  pub no_other : (u : T) → is u ≡ true → t ≡ u

-- this token
abbrev pub mark : {T F : Type 0} → (T → Bool) → T → Grammar T F (Unit {0})
mark is t = leaf (only is t None)

-- this token, which a test of what stands before it may refuse
abbrev pub tested_mark : {T F : Type 0} → (T → Bool) → T → Option F → Grammar T F (Unit {0})
tested_mark is t refusal = leaf (only is t refusal)
