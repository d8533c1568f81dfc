-- All tokens up to the one that closes a bracket, where the brackets between match.
use Rattle.std.specs.Prelude.{◌≡◌, Bool, true, if◌then◌else◌, List, [], ◌∷◌, None}
use Rattle.dp_grammar.specs.Grammar.{Syntax, Reading, Takes, Stops, Grammar}
use Rattle.dp_grammar.specs.Chain.{mapped}

-- a plain token, or one that opens or closes brackets of a kind
pub data Class (P K : Type 0) : Type 0 where
  Plain : P → Class P K
  Opens : K → Class P K
  Closes : K → Class P K

-- what each token is, and which token that is; `same` compares two kinds
pub record Bracketing (T P K : Type 0) : Type 0 where
  pub class : T → Class P K
  pub token : Class P K → T
  pub same : K → K → Bool

pub record IsBracketing {T P K : Type 0} (b : Bracketing T P K) : Type 0 where
  pub class_is : (c : Class P K) → b.class (b.token c) ≡ c
  pub token_is : (t : T) → b.token (b.class t) ≡ t
  pub same_itself : (k : K) → b.same k k ≡ true
  pub same_is : (j k : K) → b.same j k ≡ true → j ≡ k

-- What stands inside brackets that are open, the innermost first, up to the token that closes the last of them.
pub data Inside (P K : Type 0) : List K → Type 0 where
  Out : Inside P K []
  Token : {j : K} {opened : List K} → P → Inside P K (j ∷ opened) → Inside P K (j ∷ opened)
  Open : {j : K} {opened : List K} (k : K) → Inside P K (k ∷ (j ∷ opened)) → Inside P K (j ∷ opened)
  Close : (j : K) {opened : List K} → Inside P K opened → Inside P K (j ∷ opened)

abbrev pub spell_inside : {T P K : Type 0} → Bracketing T P K → (opened : List K) → Inside P K opened → List T
spell_inside b [] Out = []
spell_inside b (j ∷ opened) (Token p x) = b.token (Plain p) ∷ spell_inside b (j ∷ opened) x
spell_inside b (j ∷ opened) (Open k x) = b.token (Opens k) ∷ spell_inside b (k ∷ (j ∷ opened)) x
spell_inside b (j ∷ opened) (Close _ x) = b.token (Closes j) ∷ spell_inside b opened x

-- By the class of the first token, where `behind` reads what follows it inside other brackets.
abbrev pub read_class : {T F P K : Type 0} → Bracketing T P K → (j : K) (opened : List K) → T → List T → Class P K → ((other : List K) → Reading T F (Inside P K other)) → Reading T F (Inside P K (j ∷ opened))
read_class b j opened t rest (Plain p) behind = mapped (Token p) (behind (j ∷ opened))
read_class b j opened t rest (Opens k) behind = mapped (Open k) (behind (k ∷ (j ∷ opened)))
read_class b j opened t rest (Closes k) behind = if b.same j k then mapped (Close j) (behind opened) else Stops Syntax (t ∷ rest)

abbrev pub read_inside : {T F P K : Type 0} → Bracketing T P K → (opened : List K) → List T → Reading T F (Inside P K opened)
read_inside b [] text = Takes Out text
read_inside b (j ∷ opened) [] = Stops Syntax []
read_inside b (j ∷ opened) (t ∷ rest) = read_class b j opened t rest (b.class t) (λ other. read_inside b other rest)

-- what is inside these brackets
abbrev pub inside : {T F P K : Type 0} → Bracketing T P K → (opened : List K) → Grammar T F (Inside P K opened)
inside b opened = record { spell = spell_inside b opened; fault = λ x. None; read = read_inside b opened }
