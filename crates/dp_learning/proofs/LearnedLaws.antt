-- Learned nogoods: when one is new, and lists of them.
use Rattle.std.proofs.Common.{◌≡◌, true, false, ◌⊎◌, List, [], ◌∷◌, ◌++◌, length, append_assoc, refl, sym, ◌∙◌, ap, subst, inl, inr}
use Rattle.std.proofs.lemmas.Bool.{both_ways, cases_Bool}
use Rattle.dp_base.specs.Lists.{Among, Each}
use Rattle.dp_base.proofs.Lists.{Each-from_among}
use Rattle.dp_domain.specs.Atoms.{Atomic, negated}
use Rattle.dp_domain.specs.States.{AreOf, Domains, IsWithin, cut_all, entails, entails_all}
use Rattle.dp_domain.proofs.StateLaws.{length-cut_all}
use Rattle.dp_engine.specs.Placed.{AreSound, turn_order}
use Rattle.dp_engine.proofs.PlacedLaws.{order-sound}
use Rattle.dp_parts.specs.Posed.{IsSoundlyPosed, Posed}
use Rattle.dp_learning.specs.Learning.{AreLearned, IsAtRest, IsLearned, IsNew, left_after}
use Rattle.dp_learning.proofs.RestLaws.{cuts-keep, fewer-entailed, rest-kept, rest-survives}

-- ---- when a nogood is new

-- a state at rest that entails the atoms stays within what is left after their propagation
pub rest-within_left : (p : Posed) (before : List (List Atomic)) (atoms : List Atomic) (d : Domains) → AreSound (length p.initial) (turn_order p before) → IsAtRest (turn_order p before) d → IsWithin d p.initial → entails_all d atoms ≡ true → IsWithin d (left_after p before atoms)
rest-within_left p before atoms d sound rest w t =
    rest-kept (length p.initial) (turn_order p before) (cut_all p.initial atoms) d sound (length-cut_all p.initial atoms) rest (cuts-keep p.initial d atoms w t)

still_open : (d e : Domains) (a : Atomic) → IsWithin e d → entails e a ≡ false → entails d a ≡ false
still_open d e a w f = elim (cases_Bool (entails d a)) [
  | inl t ↦ absurd (both_ways (entails e a) f (fewer-entailed d e a w t))
  | inr g ↦ g
]

-- a nogood is new wherever propagation rests at a state that entails its other atoms, and leaves a value that meets its last
pub open-is-new : (p : Posed) (before : List (List Atomic)) (others : List Atomic) (last : Atomic) (d : Domains) → IsSoundlyPosed p → AreSound (length p.initial) (turn_order p before)
    → IsAtRest (turn_order p before) d → IsWithin d p.initial → entails_all d others ≡ true → entails d (negated last) ≡ false → IsNew p before (others ++ last ∷ [])
open-is-new p before others last d posed sound rest w t f = record {
  others = others;
  last = last;
  split = refl;
  rests = rest-survives (length p.initial) (turn_order p before) (cut_all p.initial others) d sound (length-cut_all p.initial others) rest (cuts-keep p.initial d others w t);
  leaves = still_open (left_after p before others) d (negated last) (rest-within_left p before others d sound rest w t) f;
}

-- ---- lists of learned nogoods

same_head : {A : Type 0} (x y : A) (xs ys : List A) → x ∷ xs ≡ y ∷ ys → x ≡ y
same_head x y xs ys e = cc

same_tail : {A : Type 0} (x y : A) (xs ys : List A) → x ∷ xs ≡ y ∷ ys → xs ≡ ys
same_tail x y xs ys e = cc

none_among : {A : Type 0} (xs : List A) (y : A) (ys : List A) → [] ≡ xs ++ y ∷ ys → ⊥
none_among [] y ys e = cc
none_among (x ∷ xs) y ys e = cc

-- an item of a list with one more is the last, or stands among the others
split_last : {A : Type 0} (xs : List A) (x : A) (ys : List A) (y : A) (zs : List A) → xs ++ x ∷ [] ≡ ys ++ y ∷ zs → ((xs ≡ ys) × (x ≡ y)) ⊎ ((ws : List A) × (xs ≡ ys ++ y ∷ ws))
split_last [] x [] y zs e = inl (refl, same_head x y [] zs e)
split_last [] x (v ∷ ys) y zs e = absurd (none_among ys y zs (same_tail x v [] (ys ++ y ∷ zs) e))
split_last (u ∷ xs) x [] y zs e = inr (xs, ap (λ v. v ∷ xs) (same_head u y (xs ++ x ∷ []) zs e))
split_last (u ∷ xs) x (v ∷ ys) y zs e =
    let head = same_head u v (xs ++ x ∷ []) (ys ++ y ∷ zs) e in
    elim (split_last xs x ys y zs (same_tail u v (xs ++ x ∷ []) (ys ++ y ∷ zs) e)) [
      | inl r ↦ inl (ap (λ w. w ∷ xs) head ∙ ap (λ ws. v ∷ ws) r.0, r.1)
      | inr r ↦ inr (r.0, ap (λ w. w ∷ xs) head ∙ ap (λ ws. v ∷ ws) r.1)
    ]

-- each item of a list has a place
split_among : {A : Type 0} (xs : List A) (x : A) → Among x xs → (before : List A) × (after : List A) × (xs ≡ before ++ x ∷ after)
split_among [] x h = absurd h
split_among (y ∷ ys) x (inl e) = ([], ys, ap (λ z. z ∷ ys) (sym e))
split_among (y ∷ ys) x (inr h) = let r = split_among ys x h in (y ∷ r.0, r.1, ap (λ zs. y ∷ zs) r.2)

-- no nogood is learned from the start
pub learned-none : (p : Posed) → AreLearned p []
learned-none p before after nogood e = absurd (none_among before nogood after e)

-- what is learned behind learned nogoods is learned
pub learned-more : (p : Posed) (nogoods : List (List Atomic)) (nogood : List Atomic) → AreLearned p nogoods → IsLearned p nogoods nogood → AreLearned p (nogoods ++ nogood ∷ [])
learned-more p nogoods nogood all more before after one e = elim (split_last nogoods nogood before one after e) [
  | inl r ↦ subst (λ m. IsLearned p before m) r.1 (subst (λ ms. IsLearned p ms nogood) r.0 more)
  | inr r ↦ all before r.0 one r.1
]

-- the first of learned nogoods are learned
pub learned-fewer : (p : Posed) (some more : List (List Atomic)) → AreLearned p (some ++ more) → AreLearned p some
learned-fewer p some more all before after nogood e = all before (after ++ more) nogood (ap (λ ms. ms ++ more) e ∙ append_assoc before (nogood ∷ after) more)

-- learned nogoods are on the problem's variables
pub learned-variables : (p : Posed) (nogoods : List (List Atomic)) → AreLearned p nogoods → Each (AreOf p.initial) nogoods
learned-variables p nogoods all = Each-from_among (AreOf p.initial) nogoods (λ m h. let r = split_among nogoods m h in (all r.0 r.1 m r.2).variables)

-- the parts of a soundly posed problem and its learned nogoods are sound
pub learned-sound : (p : Posed) (nogoods : List (List Atomic)) → IsSoundlyPosed p → AreLearned p nogoods → AreSound (length p.initial) (turn_order p nogoods)
learned-sound p nogoods posed all = order-sound p nogoods posed (learned-variables p nogoods all)
