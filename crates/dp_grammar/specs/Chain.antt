-- One production after another, and a production whose values are seen otherwise.
use Rattle.std.specs.Prelude.{◌≡◌, List, ◌++◌, Option, Some, None}
use Rattle.dp_grammar.specs.Grammar.{Reading, Takes, Stops, Grammar}

-- goes on behind a value; a refusal stands
abbrev pub followed : {T F X Y : Type 0} → Reading T F X → (X → List T → Reading T F Y) → Reading T F Y
followed (Takes x rest) next = next x rest
followed (Stops cause rest) next = Stops cause rest

abbrev pub mapped : {T F X Y : Type 0} → (X → Y) → Reading T F X → Reading T F Y
mapped make (Takes x rest) = Takes (make x) rest
mapped make (Stops cause rest) = Stops cause rest

-- the fault of a first part, which the spelling of the second follows, or else that of the second
abbrev pub first_fault : {T F : Type 0} → Option (F × List T) → List T → Option (F × List T) → Option (F × List T)
first_fault None behind second = second
first_fault (Some fault) behind second = Some (fault.0, fault.1 ++ behind)

-- g, and then what its value chooses: so earlier values reach later tests
abbrev pub chain : {T F X Y : Type 0} → Grammar T F X → (X → Grammar T F Y) → Grammar T F (X × Y)
chain g next = record {
  spell = λ p. g.spell p.0 ++ (next p.0).spell p.1;
  fault = λ p. first_fault (g.fault p.0) ((next p.0).spell p.1) ((next p.0).fault p.1);
  read = λ text. followed (g.read text) (λ x rest. mapped (λ y. (x, y)) ((next x).read rest));
}

-- the same texts, for values of another type
abbrev pub shaped : {T F X Y : Type 0} → (X → Y) → (Y → X) → Grammar T F X → Grammar T F Y
shaped make unmake g = record {
  spell = λ y. g.spell (unmake y);
  fault = λ y. g.fault (unmake y);
  read = λ text. mapped make (g.read text);
}

-- this mark, and then g
abbrev pub behind_mark : {T F X : Type 0} → Grammar T F (Unit {0}) → Grammar T F X → Grammar T F X
behind_mark m g = shaped (λ p. p.1) (λ x. (tt, x)) (chain m (λ _. g))

-- g, and then the mark that closes it
abbrev pub before_mark : {T F X : Type 0} → Grammar T F X → Grammar T F (Unit {0}) → Grammar T F X
before_mark g m = shaped (λ p. p.0) (λ x. (x, tt)) (chain g (λ _. m))

-- the two types have the same values
pub record IsShape {X Y : Type 0} (make : X → Y) (unmake : Y → X) : Type 0 where
  pub opens : (x : X) → unmake (make x) ≡ x
  pub makes : (y : Y) → make (unmake y) ≡ y
