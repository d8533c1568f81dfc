-- The parts of a side, as the code adds them.
use Rattle.std.proofs.Common.{◌≡◌, List, [], ◌∷◌, ◌++◌, Option, ℤ, pos, neg_ℤ, ◌-ℤ◌, ◌∙◌, ap}
use Rattle.std.proofs.lemmas.List.{append_assoc}
use Rattle.dp_domain.specs.Atoms.{Atomic}
use Rattle.dp_parts.specs.declared.part.Part.{Part}
use Rattle.dp_lower.specs.Codes.{side_of}
use Rattle.dp_lower.specs.Sums.{Sum, at_most, opposite}
use Rattle.dp_lower.specs.declared.sides.Relation.{Relation}
use Rattle.dp_lower.specs.declared.sides.Relation.TheVariants.{Above, Equal}

pub above_read : (old new : List Part) (v : Part) (r : Relation) (q : Sum) (k n : ℤ) (c : Option Atomic) → r ≡ Above → new ≡ old ++ v ∷ [] → v ≡ at_most (opposite q) n c → n ≡ neg_ℤ k -ℤ pos 1 → new ≡ old ++ side_of r q k c
above_read old new v r q k n c is e f g = rw is (e ∙ ap (λ p. old ++ p ∷ []) (f ∙ ap (λ m. at_most (opposite q) m c) g))

pub equal_read : (old mid new : List Part) (v u : Part) (r : Relation) (q : Sum) (k m n : ℤ) (c : Option Atomic) → r ≡ Equal → mid ≡ old ++ v ∷ [] → v ≡ at_most q m c → m ≡ k → new ≡ mid ++ u ∷ [] → u ≡ at_most (opposite q) n c → n ≡ neg_ℤ k →
    new ≡ old ++ side_of r q k c
equal_read old mid new v u r q k m n c is e f g h i j =
    rw is (h ∙ ap (λ ps. ps ++ u ∷ []) e ∙ append_assoc old (v ∷ []) (u ∷ []) ∙ ap (λ p. old ++ p ∷ u ∷ []) (f ∙ ap (λ x. at_most q x c) g) ∙ ap (λ p. old ++ at_most q k c ∷ p ∷ []) (i ∙ ap (λ x. at_most (opposite q) x c) j))
