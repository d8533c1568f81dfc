-- Numbers that differ, tested from the front.
use Rattle.std.proofs.Common.{◌≡◌, ℕ, ◌+◌, ◌-◌, ◌<◌, ◌≤◌, Bool, true, not, ◌&&◌, ◌||◌, length, get_or, take, drop, List, [], ◌∷◌, map, ℤ, int_le, refl, sym, ◌∙◌, ap}
use Rattle.std.specs.List.{list_any}
use Rattle.std.specs.Ordering.{int_eq}
use Rattle.std.proofs.lemmas.Bool.Decides.{Decides-int_eq, same_from_decides}
use Rattle.std.proofs.lemmas.List.{at_drop_more, at_drop_all, take_rest}
use Rattle.dp_domain.specs.Sets.{is_among}
use Rattle.dp_domain.proofs.AtomLaws.{same-from_tests, tests-from_same}
use Rattle.fz_sat.specs.Globals.{are_distinct}

-- two tests of equality are one
pub equal_by_order : (v w : ℤ) → int_eq w v ≡ (int_le v w && int_le w v)
equal_by_order v w =
    same_from_decides {P = w ≡ v} (int_eq w v) (int_le v w && int_le w v) (Decides-int_eq w v)
    (λ t. sym (same-from_tests v w t), λ e. tests-from_same v w (sym e))

-- a number is among the values where some element has it
pub among_values : {A : Type 0} (f : A → ℤ) (xs : List A) (v : ℤ) → list_any (λ b. int_eq (f b) v) xs ≡ is_among v (map f xs)
among_values f [] v = refl
among_values f (x ∷ xs) v = ap (λ r. r || list_any (λ b. int_eq (f b) v) xs) (equal_by_order v (f x)) ∙ ap (λ r. (int_le v (f x) && int_le (f x) v) || r) (among_values f xs v)

rest_of : {A : Type 0} (xs : List A) (i n : ℕ) → n ≡ length xs - i → take n (drop i xs) ≡ drop i xs
rest_of xs i n e = ap (λ m. take m (drop i xs)) e ∙ take_rest xs i

-- those from a place on differ where the first is not among the others, and they differ
pub distinct_step : {A : Type 0} (f : A → ℤ) (xs : List A) (i n : ℕ) (d : A) (v : ℤ) (r : Bool) → i < length xs → n ≡ length xs - (i + 1) → v ≡ f (get_or xs i d) → r ≡ list_any (λ b. int_eq (f b) v) (take n (drop (i + 1) xs)) → are_distinct (map f (drop i xs)) ≡ (not r && are_distinct (map f (drop (i + 1) xs)))
distinct_step f xs i n d v r h k e g =
    let found : r ≡ is_among (f (get_or xs i d)) (map f (drop (i + 1) xs)) =
    g ∙ ap (list_any (λ b. int_eq (f b) v)) (rest_of xs (i + 1) n k) ∙ among_values f (drop (i + 1) xs) v ∙ ap (λ w. is_among w (map f (drop (i + 1) xs))) e in
    at_drop_more (λ ys. are_distinct (map f ys)) xs i d h ∙ ap (λ b. not b && are_distinct (map f (drop (i + 1) xs))) (sym found)

-- none are left at the end
pub distinct_none : {A : Type 0} (f : A → ℤ) (xs : List A) (i : ℕ) → length xs ≤ i → are_distinct (map f (drop i xs)) ≡ true
distinct_none f xs i h = at_drop_all (λ ys. are_distinct (map f ys)) xs i h
