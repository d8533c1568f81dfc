-- Links one after another up to an end, and items up to what closes them.
use Rattle.std.specs.Prelude.{ℕ, zero, suc, ◌-◌, Bool, true, false, ◌⊎◌, List, [], ◌∷◌, ◌++◌, length, Option}
use Rattle.std.proofs.Common.{inl, inr}
use Rattle.dp_grammar.specs.Grammar.{Syntax, Reading, Takes, Stops, Grammar, IsLawful}
use Rattle.dp_grammar.specs.Chain.{followed, mapped, first_fault}
use Rattle.dp_grammar.specs.Choice.{IsLed, either}

-- A link behind the items so far, which its tests may look at, is one more item or the end.
abbrev pub Link : Type 0 → Type 0 → Type 0 → Type 0 → Type 0
Link T F X C = List X → Grammar T F (X ⊎ C)

-- behind these items, more items and the end
abbrev pub spell_behind : {T F X C : Type 0} → Link T F X C → List X → List X → C → List T
spell_behind link kept [] c = (link kept).spell (inr c)
spell_behind link kept (x ∷ xs) c = (link kept).spell (inl x) ++ spell_behind link (kept ++ x ∷ []) xs c

abbrev pub fault_behind : {T F X C : Type 0} → Link T F X C → List X → List X → C → Option (F × List T)
fault_behind link kept [] c = (link kept).fault (inr c)
fault_behind link kept (x ∷ xs) c =
    first_fault ((link kept).fault (inl x)) (spell_behind link (kept ++ x ∷ []) xs c) (fault_behind link (kept ++ x ∷ []) xs c)

abbrev pub with_item : {X C : Type 0} → X → List X × C → List X × C
with_item x p = (x ∷ p.0, p.1)

-- goes on behind an item, and not behind the end
abbrev pub linked : {T F X C : Type 0} → (X → List T → Reading T F (List X × C)) → X ⊎ C → List T → Reading T F (List X × C)
linked after (inl x) rest = mapped (with_item x) (after x rest)
linked after (inr c) rest = Takes ([], c) rest

-- Reading behind these items, of which the last takes the first `taken` tokens of the text. An item takes a token, so
-- there is none where the text is empty.
unfoldable pub read_behind : {T F X C : Type 0} → Link T F X C → List X → List T → ℕ → Reading T F (List X × C)
read_behind link kept [] taken = followed ((link kept).read []) (linked (λ x rest. Stops Syntax rest))
read_behind link kept (t ∷ text) zero =
    followed ((link kept).read (t ∷ text)) (linked (λ x rest. read_behind link (kept ++ x ∷ []) text (length text - length rest)))
read_behind link kept (t ∷ text) (suc taken) = read_behind link kept text taken

-- more items behind these
abbrev pub links_behind : {T F X C : Type 0} → Link T F X C → List X → Grammar T F (List X × C)
links_behind link kept = record {
  spell = λ p. spell_behind link kept p.0 p.1;
  fault = λ p. fault_behind link kept p.0 p.1;
  read = λ text. read_behind link kept text 0;
}

abbrev pub links : {T F X C : Type 0} → Link T F X C → Grammar T F (List X × C)
links link = links_behind link []

-- each link is lawful, an item takes a token, and behind any items there is an end
pub record IsLink {T F X C : Type 0} (link : Link T F X C) : Type 0 where
  pub lawful : (kept : List X) → IsLawful (link kept)
  pub takes : (kept : List X) (x : X) → IsLed (λ _. true) true ((link kept).spell (inl x))
  pub end : List X → C

-- reading in words: a link and, behind an item, what follows
abbrev pub step : {T F X C : Type 0} → Link T F X C → List X → List T → Reading T F (List X × C)
step link kept text = followed ((link kept).read text) (linked (λ x rest. (links_behind link (kept ++ x ∷ [])).read rest))

-- ---- items up to what closes them

-- which tokens begin an item, the item and the close behind the items so far
pub record Repeat (T F X C : Type 0) : Type 0 where
  pub goes_on : T → Bool
  pub item : List X → Grammar T F X
  pub close : List X → Grammar T F C

abbrev pub many : {T F X C : Type 0} → Repeat T F X C → Grammar T F (List X × C)
many r = links (λ kept. either r.goes_on (r.item kept) (r.close kept))

-- the parts are lawful, and the first token of a spelling tells an item from a close
pub record IsRepeat {T F X C : Type 0} (r : Repeat T F X C) : Type 0 where
  pub item : (kept : List X) → IsLawful (r.item kept)
  pub close : (kept : List X) → IsLawful (r.close kept)
  pub begins : (kept : List X) (x : X) → IsLed r.goes_on true ((r.item kept).spell x)
  pub ends : (kept : List X) (c : C) → IsLed r.goes_on false ((r.close kept).spell c)
