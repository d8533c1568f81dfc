-- Products with one factor, and the least of them.
use Rattle.std.specs.Prelude.{◌≡◌, zero, suc, Bool, true, false, Some, unwrap_or, List, [], ◌∷◌, map, ◌⊎◌, ℤ, pos, negsuc, ◌*ℤ◌, ◌≤ℤ◌, ◌<ℤ◌, int_le}
use Rattle.std.proofs.Common.{refl, sym, ap, subst, inl, inr, arith}
use Rattle.std.proofs.lemmas.Int.{ints}
use Rattle.std.proofs.Math.Nat.{mul-le-mul_left}
use borrow.Author.Differences.{le_out}
use Rattle.dp_base.specs.Lists.{Among}
use Rattle.dp_domain.specs.Sets.{least, least_from, greatest}
use Rattle.dp_domain.proofs.SetLaws.{least_from-bound, least_from-among, least_from-is, least-bound, least-among, greatest-bound, greatest-among}

-- ---- order

order_by : (x y : ℤ) (b : Bool) → int_le x y ≡ b → (x ≤ℤ y) ⊎ (y <ℤ x)
order_by x y true e = inl (omega (arith, ints))
order_by x y false e = inr (omega (arith, ints))

-- one of two numbers is at most the other, or exceeds it
pub order_of : (x y : ℤ) → (x ≤ℤ y) ⊎ (y <ℤ x)
order_of x y = order_by x y (int_le x y) refl

-- a factor that is not negative keeps the order
pub times_keeps : (a x y : ℤ) → pos 0 ≤ℤ a → x ≤ℤ y → (a *ℤ x) ≤ℤ (a *ℤ y)
times_keeps (pos n) x y sign h = omega (arith, ints, mul-le-mul_left n (le_out x y h))
times_keeps (negsuc n) x y sign h = absurd (omega (arith, ints))

-- a factor that is not positive turns it round
pub times_turns : (a x y : ℤ) → a ≤ℤ pos 0 → x ≤ℤ y → (a *ℤ y) ≤ℤ (a *ℤ x)
times_turns (pos zero) x y sign h = omega (arith, ints)
times_turns (pos (suc n)) x y sign h = absurd (omega (arith, ints))
times_turns (negsuc n) x y sign h = omega (arith, ints, mul-le-mul_left (suc n) (le_out x y h))

-- ---- images

-- what is made of an item stands among what is made of all
pub Among-map : {A B : Type 0} (f : A → B) (xs : List A) (x : A) → Among x xs → Among (f x) (map f xs)
Among-map f [] x here = absurd here
Among-map f (y ∷ ys) x (inl e) = inl (ap f e)
Among-map f (y ∷ ys) x (inr here) = inr (Among-map f ys x here)

-- and nothing else does
pub Among-map_only : {A B : Type 0} (f : A → B) (xs : List A) (z : B) → Among z (map f xs) → (x : A) × Among x xs × (z ≡ f x)
Among-map_only f [] z here = absurd here
Among-map_only f (y ∷ ys) z (inl e) = (y, inl refl, e)
Among-map_only f (y ∷ ys) z (inr here) = let r = Among-map_only f ys z here in (r.0, inr r.1, r.2)

-- the least image is a bound
pub least_image-bound : (f : ℤ → ℤ) (xs : List ℤ) (v : ℤ) → Among v xs → unwrap_or (least (map f xs)) (pos 0) ≤ℤ f v
least_image-bound f [] v here = absurd here
least_image-bound f (x ∷ xs) v here = least_from-bound (f x) (map f xs) (f v) (Among-map f (x ∷ xs) v here)

-- and the image of some value
pub least_image-among : (f : ℤ → ℤ) (xs : List ℤ) (v : ℤ) → Among v xs → (w : ℤ) × Among w xs × (unwrap_or (least (map f xs)) (pos 0) ≡ f w)
least_image-among f [] v here = absurd here
least_image-among f (x ∷ xs) v here = Among-map_only f (x ∷ xs) (least_from (f x) (map f xs)) (least_from-among (f x) (map f xs))

-- of fewer values the least image is no less
pub least_image-within : (f : ℤ → ℤ) (xs ys : List ℤ) (v : ℤ) → Among v ys → ((w : ℤ) → Among w ys → Among w xs) → unwrap_or (least (map f xs)) (pos 0) ≤ℤ unwrap_or (least (map f ys)) (pos 0)
least_image-within f xs ys v here within =
    let r = least_image-among f ys v here in
    subst (λ z. unwrap_or (least (map f xs)) (pos 0) ≤ℤ z) (sym r.2) (least_image-bound f xs r.0 (within r.0 r.1))

least_image_is : (f : ℤ → ℤ) (xs : List ℤ) (v : ℤ) → Among v xs → ((w : ℤ) → Among w xs → f v ≤ℤ f w) → least (map f xs) ≡ Some (f v)
least_image_is f [] v here bound = absurd here
least_image_is f (x ∷ xs) v here bound =
    ap Some (least_from-is (f x) (map f xs) (f v) (Among-map f (x ∷ xs) v here) (λ z there.
    let r = Among-map_only f (x ∷ xs) z there in
    subst (λ y. f v ≤ℤ y) (sym r.2) (bound r.0 r.1)))

-- a factor that is not negative has its least product at the least value
pub least-times : (a : ℤ) (xs : List ℤ) (v : ℤ) → pos 0 ≤ℤ a → least xs ≡ Some v → least (map (λ w. a *ℤ w) xs) ≡ Some (a *ℤ v)
least-times a xs v sign e =
    least_image_is (λ w. a *ℤ w) xs v (least-among xs v e) (λ w here. times_keeps a v w sign (least-bound xs v e w here))

-- a factor that is not positive has it at the greatest
pub least-times_back : (a : ℤ) (xs : List ℤ) (v : ℤ) → a ≤ℤ pos 0 → greatest xs ≡ Some v → least (map (λ w. a *ℤ w) xs) ≡ Some (a *ℤ v)
least-times_back a xs v sign e =
    least_image_is (λ w. a *ℤ w) xs v (greatest-among xs v e) (λ w here. times_turns a w v sign (greatest-bound xs v e w here))
