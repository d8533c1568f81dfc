-- A list of lawful items is lawful.
use Rattle.std.proofs.Common.{◌≡◌, Bool, false, ◌⊎◌, inl, inr, List, [], ◌∷◌, ◌++◌, refl}
use Rattle.dp_grammar.specs.Grammar.{IsLawful}
use Rattle.dp_grammar.specs.Leaf.{mark}
use Rattle.dp_grammar.specs.Chain.{chain}
use Rattle.dp_grammar.specs.Choice.{IsLed, either}
use Rattle.dp_grammar.specs.Many.{many, IsRepeat}
use Rattle.dp_grammar.specs.Listed.{Listing, further, list_of, parts_of, listed, IsListing}
use Rattle.dp_grammar.proofs.Leaves.{mark_lawful}
use Rattle.dp_grammar.proofs.Chains.{chain_lawful, shaped_lawful, behind_mark_lawful}
use Rattle.dp_grammar.proofs.Choices.{either_lawful}
use Rattle.dp_grammar.proofs.Manys.{many_lawful}

pub led-append : {T : Type 0} (test : T → Bool) (says : Bool) (s rest : List T) → IsLed test says s → IsLed test says (s ++ rest)
led-append test says [] rest led = absurd led
led-append test says (t ∷ s) rest led = led

lists : {X : Type 0} (z : Unit {0} ⊎ (X × (List X × Unit {0}))) → parts_of (list_of z) ≡ z
lists (inl none) = refl
lists (inr p) = refl

parts : {X : Type 0} (xs : List X) → list_of (parts_of xs) ≡ xs
parts [] = refl
parts (x ∷ xs) = refl

further_is : {T F X : Type 0} (l : Listing T F X) → IsListing l → (x : X) → IsRepeat (further l x)
further_is l is x = record {
  item = λ more. behind_mark_lawful (mark l.is_separator l.separator) (l.item (x ∷ more)) (mark_lawful l.is_separator l.separator is.separates) (is.item (x ∷ more));
  close = λ more. is.close (x ∷ more);
  begins = λ more y. is.separates.itself;
  ends = λ more c. is.apart (x ∷ more) c;
}

pub listed_lawful : {T F X : Type 0} (l : Listing T F X) → IsListing l → IsLawful (listed l)
listed_lawful l is =
    let second = chain (l.item []) (λ x. many (further l x)) in
    shaped_lawful list_of parts_of (either l.is_close (l.close []) second) (record { opens = lists; makes = parts })
    (either_lawful l.is_close (l.close []) second
    (record { first = is.closes []; second = λ p. led-append l.is_close false ((l.item []).spell p.0) ((many (further l p.0)).spell p.1) (is.begins [] p.0) })
    (is.close [])
    (chain_lawful (l.item []) (λ x. many (further l x)) (is.item []) (λ x. many_lawful (further l x) (further_is l is x))))
