-- The answers for the places of a wave, run by run.
use Rattle.std.proofs.Common.{◌≡◌, List, [], ◌∷◌, ◌++◌, map, refl, sym, ◌∙◌, subst, ap}
use Rattle.std.specs.List.{AllZip, flat_map}
use Rattle.std.proofs.lemmas.List.{map-append}
use Rattle.dp_base.specs.Lists.{Each}
use Rattle.dp_base.proofs.Lists.{Each-append_parts}

-- what holds place by place holds so in weaker words
pub AllZip-weaker : {A B : Type 0} (R S : A → B → Type 0) → ((x : A) (y : B) → R x y → S x y) → (xs : List A) (ys : List B) → AllZip R xs ys → AllZip S xs ys
AllZip-weaker R S f [] [] h = tt
AllZip-weaker R S f [] (y ∷ ys) h = absurd h
AllZip-weaker R S f (x ∷ xs) [] h = absurd h
AllZip-weaker R S f (x ∷ xs) (y ∷ ys) h = (f x y h.0, AllZip-weaker R S f xs ys h.1)

zip_map : {A B : Type 0} (f : A → B) (xs : List A) → AllZip (λ x y. y ≡ f x) xs (map f xs)
zip_map f [] = tt
zip_map f (x ∷ xs) = (refl, zip_map f xs)

-- each item with what the function gives for it
pub zip-mapped : {A B : Type 0} (f : A → B) (xs : List A) (ys : List B) → ys ≡ map f xs → AllZip (λ x y. y ≡ f x) xs ys
zip-mapped f xs ys e = subst (λ zs. AllZip (λ x y. y ≡ f x) xs zs) (sym e) (zip_map f xs)

-- what is given for the items of each run is given for all items
pub flat-mapped : {A B U V : Type 0} (f : A → B) (g : U → List A) (h : V → List B) (us : List U) (vs : List V) → AllZip (λ u v. h v ≡ map f (g u)) us vs → flat_map h vs ≡ map f (flat_map g us)
flat-mapped f g h [] [] k = refl
flat-mapped f g h [] (v ∷ vs) k = absurd k
flat-mapped f g h (u ∷ us) [] k = absurd k
flat-mapped f g h (u ∷ us) (v ∷ vs) k = (λ j. k.0 j ++ flat-mapped f g h us vs k.1 j) ∙ sym (map-append f (g u) (flat_map g us))

-- what holds of each item of all runs holds of each item of each run
pub each-flat : {A U : Type 0} (P : A → Type 0) (g : U → List A) (us : List U) → Each P (flat_map g us) → Each (λ u. Each P (g u)) us
each-flat P g [] h = tt
each-flat P g (u ∷ us) h = let r = Each-append_parts P (g u) (flat_map g us) h in (r.0, each-flat P g us r.1)
