-- Texts put behind one another.
use Rattle.std.proofs.Common.{◌≡◌, ℕ, ◌+◌, ◌<◌, List, ◌∷◌, ◌++◌, length, drop, get_or, refl, ap, sym, ◌∙◌, add-one, append_assoc}
use Rattle.std.specs.List.{flat_map}
use Rattle.std.proofs.Math.Seq.{drop-cons}

-- a text behind a first, and another behind it
pub behind : (a w s m t : List ℕ) → m ≡ a ++ w → t ≡ m ++ s → t ≡ a ++ (w ++ s)
behind a w s m t p q = q ∙ ap (λ x. x ++ s) p ∙ append_assoc a w s

pub behind_two : (a k n s m t : List ℕ) → m ≡ a ++ k ++ n → t ≡ m ++ s → t ≡ a ++ (k ++ n ++ s)
behind_two a k n s m t p q = behind a (k ++ n) s m t (p ∙ append_assoc a k n) q

pub behind_three : (a k n e s m t : List ℕ) → m ≡ a ++ k ++ n ++ e → t ≡ m ++ s → t ≡ a ++ (k ++ n ++ e ++ s)
behind_three a k n e s m t p q =
    behind a (k ++ n ++ e) s m t (p ∙ ap (λ x. x ++ e) (append_assoc a k n) ∙ append_assoc a (k ++ n) e) q

-- one text more of a list
pub further : {A : Type 0} (f : A → List ℕ) (xs : List A) (k : ℕ) (x : A) (front text more : List ℕ)
    → k < length xs → x ≡ get_or xs k x → more ≡ text ++ f x → text ++ flat_map f (drop k xs) ≡ front → more ++ flat_map f (drop (k + 1) xs) ≡ front
further f xs k x front text more within is q before =
    ap (λ t. t ++ flat_map f (drop (k + 1) xs)) q ∙ append_assoc text (f x) (flat_map f (drop (k + 1) xs))
    ∙ ap (λ y. text ++ (f y ++ flat_map f (drop (k + 1) xs))) is
    ∙ ap (λ ys. text ++ flat_map f ys) (sym (drop-cons xs k x within ∙ ap (λ n. get_or xs k x ∷ drop n xs) (sym (add-one k)))) ∙ before

-- many texts behind one another
pub flat_three : (a b c x : List ℕ) → ((a ++ b) ++ c) ++ x ≡ a ++ (b ++ (c ++ x))
flat_three a b c x = simp append_assoc refl

pub flat_four : (a b c d x : List ℕ) → (((a ++ b) ++ c) ++ d) ++ x ≡ a ++ (b ++ (c ++ (d ++ x)))
flat_four a b c d x = simp append_assoc refl

pub flat_seven : (a b c d e f g x : List ℕ) → ((((((a ++ b) ++ c) ++ d) ++ e) ++ f) ++ g) ++ x ≡ a ++ (b ++ (c ++ (d ++ (e ++ (f ++ (g ++ x))))))
flat_seven a b c d e f g x = simp append_assoc refl

pub flat_nine : (a b c d e f g h i x : List ℕ) → ((((((((a ++ b) ++ c) ++ d) ++ e) ++ f) ++ g) ++ h) ++ i) ++ x ≡ a ++ (b ++ (c ++ (d ++ (e ++ (f ++ (g ++ (h ++ (i ++ x))))))))
flat_nine a b c d e f g h i x = simp append_assoc refl
