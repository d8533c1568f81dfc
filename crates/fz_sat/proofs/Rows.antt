-- Lists of elements and their values; numbers that are compared by their bits.
use Rattle.std.specs.Prelude.{FitsSigned}
use Rattle.std.proofs.Common.{◌≡◌, ℕ, zero, suc, Bool, true, false, not, ◌&&◌, ◌||◌, nat_eq, Option, Some, None, List, [], ◌∷◌, map, ℤ, pos, negsuc, of_z, to_z, refl, sym, ◌∙◌, ap}
use Rattle.std.proofs.lemmas.Int.{to_z-of_z}
use Rattle.std.proofs.lemmas.Bool.Decides.{Decides-eqb, Decides-int_eq, same_from_decides}
use Rattle.std.proofs.lemmas.Option.{slice_get-map}
use Rattle.std.specs.List.{list_all, list_any}
use Rattle.std.specs.Option.{option_map, option_map_or}
use Rattle.std.specs.Ordering.{int_eq}
use mir.Syntax.{Width}
use Rattle.dp_domain.specs.Terms.{term_at}
use Rattle.fz_model.specs.declared.model.Basic.{Basic}
use Rattle.fz_model.specs.declared.model.Item.{Item}
use Rattle.fz_sat.specs.Args.{terms_of}
use Rattle.fz_sat.specs.Globals.{entry_at, is_entry_at}
use Rattle.fz_sat.specs.Satisfies.{value_of}

-- the values of the elements are those of their terms
pub values-map : (items : List Item) (s : ℕ → ℤ) (elements : List Basic) → map (term_at s) (terms_of items elements) ≡ map (value_of items s) elements
values-map items s [] = refl
values-map items s (b ∷ elements) = ap (λ vs. value_of items s b ∷ vs) (values-map items s elements)

-- a test of each value is one of each element
pub all_values : (items : List Item) (s : ℕ → ℤ) (p : ℤ → Bool) (elements : List Basic) → list_all p (map (term_at s) (terms_of items elements)) ≡ list_all (λ b. p (value_of items s b)) elements
all_values items s p [] = refl
all_values items s p (b ∷ elements) = ap (λ r. p (value_of items s b) && r) (all_values items s p elements)

pub any_values : (items : List Item) (s : ℕ → ℤ) (p : ℤ → Bool) (elements : List Basic) → list_any p (map (term_at s) (terms_of items elements)) ≡ list_any (λ b. p (value_of items s b)) elements
any_values items s p [] = refl
any_values items s p (b ∷ elements) = ap (λ r. p (value_of items s b) || r) (any_values items s p elements)

-- numbers are equal where their bits are
pub same_bits : (w : Width) (x y : ℤ) → FitsSigned w x → FitsSigned w y → nat_eq (of_z w x) (of_z w y) ≡ int_eq x y
same_bits w x y h k =
    same_from_decides {P = x ≡ y} (nat_eq (of_z w x) (of_z w y)) (int_eq x y)
    (λ t. sym (to_z-of_z w x h) ∙ ap (to_z w) ((Decides-eqb (of_z w x) (of_z w y)).0 t) ∙ to_z-of_z w y k, λ s. (Decides-eqb (of_z w x) (of_z w y)).1 (ap (of_z w) s))
    (Decides-int_eq x y)

-- the entry of the values is the value of the entry
pub entry_at-map : {A B : Type 0} (f : A → B) (xs : List A) (i : ℤ) → entry_at (map f xs) i ≡ option_map f (entry_at xs i)
entry_at-map f xs (pos zero) = refl
entry_at-map f xs (pos (suc place)) = slice_get-map f xs place
entry_at-map f xs (negsuc n) = refl

-- some fail exactly where not all pass
pub any_not : {A : Type 0} (p : A → Bool) (xs : List A) → list_any (λ x. not (p x)) xs ≡ not (list_all p xs)
any_not p [] = refl
any_not p (x ∷ xs) = ap (λ r. not (p x) || r) (any_not p xs) ∙ turned (p x) (list_all p xs)
  where
    turned : (a b : Bool) → (not a || not b) ≡ not (a && b)
    turned true b = refl
    turned false b = refl

-- where one of two holds, the other decides
pub or_second : (a b x y : Bool) → x ≡ a → x ≡ false → y ≡ b → y ≡ (a || b)
or_second a b x y e f g = g ∙ sym (ap (λ z. z || b) (sym e ∙ f))

-- the entry of the values, where it was found among the elements
entry_of_values : (items : List Item) (s : ℕ → ℤ) (array elements : List Basic) (i j : ℤ) (o : Option Basic) → array ≡ elements → j ≡ i → o ≡ entry_at array j → entry_at (map (term_at s) (terms_of items elements)) i ≡ option_map (value_of items s) o
entry_of_values items s array elements i j o e f g =
    ap (λ vs. entry_at vs i) (values-map items s elements) ∙ entry_at-map (value_of items s) elements i ∙ sym (ap (option_map (value_of items s)) (g ∙ ap (λ bs. entry_at bs j) e ∙ ap (entry_at elements) f))

pub selected : (items : List Item) (s : ℕ → ℤ) (array elements : List Basic) (i j v : ℤ) (b : Basic) → array ≡ elements → j ≡ i → Some b ≡ entry_at array j → int_eq (value_of items s b) v ≡ is_entry_at (map (term_at s) (terms_of items elements)) i v
selected items s array elements i j v b e f g = sym (ap (λ o. option_map_or (λ entry. int_eq entry v) o false) (entry_of_values items s array elements i j (Some b) e f g))

pub not_selected : (items : List Item) (s : ℕ → ℤ) (array elements : List Basic) (i j v : ℤ) → array ≡ elements → j ≡ i → None ≡ entry_at array j → false ≡ is_entry_at (map (term_at s) (terms_of items elements)) i v
not_selected items s array elements i j v e f g = sym (ap (λ o. option_map_or (λ entry. int_eq entry v) o false) (entry_of_values items s array elements i j None e f g))
