-- Two productions, of which the first token chooses one.
use Rattle.std.specs.Prelude.{◌≡◌, Bool, true, false, if◌then◌else◌, ◌⊎◌, List, [], ◌∷◌, Option, Some, None}
use Rattle.std.proofs.Common.{inl, inr}
use Rattle.dp_grammar.specs.Grammar.{Reading, Grammar, head}
use Rattle.dp_grammar.specs.Chain.{mapped}

-- a token stands there, and passes
abbrev pub passes : {T : Type 0} → (T → Bool) → Option T → Bool
passes test None = false
passes test (Some t) = test t

abbrev pub begins : {T : Type 0} → (T → Bool) → List T → Bool
begins test text = passes test (head text)

-- there is a first token, of which the test says this
abbrev pub IsLed : {T : Type 0} → (T → Bool) → Bool → List T → Type 0
IsLed test says [] = ⊥
IsLed test says (t ∷ rest) = test t ≡ says

abbrev pub spell_either : {T F X Y : Type 0} → Grammar T F X → Grammar T F Y → X ⊎ Y → List T
spell_either g h (inl x) = g.spell x
spell_either g h (inr y) = h.spell y

abbrev pub fault_either : {T F X Y : Type 0} → Grammar T F X → Grammar T F Y → X ⊎ Y → Option (F × List T)
fault_either g h (inl x) = g.fault x
fault_either g h (inr y) = h.fault y

abbrev pub read_either : {T F X Y : Type 0} → Bool → Grammar T F X → Grammar T F Y → List T → Reading T F (X ⊎ Y)
read_either chosen g h text = if chosen then mapped inl (g.read text) else mapped inr (h.read text)

-- g where the first token passes, else h
abbrev pub either : {T F X Y : Type 0} → (T → Bool) → Grammar T F X → Grammar T F Y → Grammar T F (X ⊎ Y)
either test g h = record {
  spell = spell_either g h;
  fault = fault_either g h;
  read = λ text. read_either (begins test text) g h text;
}

-- the first token of a spelling tells whose it is
pub record AreApart {T F X Y : Type 0} (test : T → Bool) (g : Grammar T F X) (h : Grammar T F Y) : Type 0 where
  pub first : (x : X) → IsLed test true (g.spell x)
  pub second : (y : Y) → IsLed test false (h.spell y)
