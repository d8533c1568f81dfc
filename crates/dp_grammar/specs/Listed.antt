-- Lists: items with a mark between any two, and one that closes them.
use Rattle.std.specs.Prelude.{Bool, true, false, ◌⊎◌, List, [], ◌∷◌}
use Rattle.std.proofs.Common.{inl, inr}
use Rattle.dp_grammar.specs.Grammar.{Grammar, IsLawful}
use Rattle.dp_grammar.specs.Leaf.{mark, IsOnly}
use Rattle.dp_grammar.specs.Chain.{chain, behind_mark, shaped}
use Rattle.dp_grammar.specs.Choice.{IsLed, either}
use Rattle.dp_grammar.specs.Many.{Repeat, many}

-- the mark between two items, and the item and the close behind the items so far
pub record Listing (T F X : Type 0) : Type 0 where
  pub is_separator : T → Bool
  pub separator : T
  pub is_close : T → Bool
  pub item : List X → Grammar T F X
  pub close : List X → Grammar T F (Unit {0})

-- behind a first item
abbrev pub further : {T F X : Type 0} → Listing T F X → X → Repeat T F X (Unit {0})
further l x = record {
  goes_on = l.is_separator;
  item = λ more. behind_mark (mark l.is_separator l.separator) (l.item (x ∷ more));
  close = λ more. l.close (x ∷ more);
}

abbrev pub list_of : {X : Type 0} → Unit {0} ⊎ (X × (List X × Unit {0})) → List X
list_of (inl none) = []
list_of (inr p) = p.0 ∷ p.1.0

abbrev pub parts_of : {X : Type 0} → List X → Unit {0} ⊎ (X × (List X × Unit {0}))
parts_of [] = inl tt
parts_of (x ∷ xs) = inr (x, (xs, tt))

-- the close alone, or an item, further ones and the close
abbrev pub listed : {T F X : Type 0} → Listing T F X → Grammar T F (List X)
listed l = shaped list_of parts_of (either l.is_close (l.close []) (chain (l.item []) (λ x. many (further l x))))

-- the parts are lawful, and the first token tells a separator, a close and an item apart
pub record IsListing {T F X : Type 0} (l : Listing T F X) : Type 0 where
  pub separates : IsOnly l.is_separator l.separator
  pub item : (kept : List X) → IsLawful (l.item kept)
  pub close : (kept : List X) → IsLawful (l.close kept)
  pub begins : (kept : List X) (x : X) → IsLed l.is_close false ((l.item kept).spell x)
  pub closes : (kept : List X) (c : Unit {0}) → IsLed l.is_close true ((l.close kept).spell c)
  pub apart : (kept : List X) (c : Unit {0}) → IsLed l.is_separator false ((l.close kept).spell c)
