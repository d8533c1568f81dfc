-- Steps on the list of states.
use Rattle.std.proofs.Common.{◌≡◌, ℕ, zero, suc, ◌+◌, ◌≤◌, ◌<◌, List, [], ◌∷◌, ◌++◌, length, get_or, set, take, drop, append-nil, append_assoc, refl, sym, ◌∙◌, ap, subst, arith, length-append}
use Rattle.std.proofs.lemmas.List.{drop_more}
use Rattle.dp_base.specs.Lists.{Each}
use Rattle.dp_domain.specs.Atoms.{Atomic}
use Rattle.dp_domain.specs.States.{Domains, cut, cut_all}
use Rattle.dp_domain.proofs.StateLaws.{length-cut_all}
use Rattle.dp_engine.specs.Engines.{Begins, HaveCount}

-- a fact of each item of a list and one more
pub Each-push : {A : Type 0} (P : A → Type 0) (xs : List A) (y : A) → Each P xs → P y → Each P (xs ++ y ∷ [])
Each-push P [] y e h = (h, tt)
Each-push P (x ∷ xs) y e h = (e.0, Each-push P xs y e.1 h)

-- the same the other way
pub Each-front : {A : Type 0} (P : A → Type 0) (xs : List A) (y : A) → Each P (xs ++ y ∷ []) → Each P xs × P y
Each-front P [] y e = (tt, e.0)
Each-front P (x ∷ xs) y e = let r = Each-front P xs y e.1 in ((e.0, r.0), r.1)

-- a fact of each item is one of each of the first ones
pub Each-take : {A : Type 0} (P : A → Type 0) (n : ℕ) (xs : List A) → Each P xs → Each P (take n xs)
Each-take P zero xs e = tt
Each-take P (suc n) [] e = tt
Each-take P (suc n) (x ∷ xs) e = (e.0, Each-take P n xs e.1)

-- the states with one more begin with those before
pub begins-next : (past now : List Domains) (d e : Domains) → now ≡ past ++ d ∷ [] → Begins (past ++ d ∷ []) (now ++ e ∷ [])
begins-next past now d e h = (e ∷ [], ap (λ xs. xs ++ e ∷ []) h)

-- states that stay begin with those before
pub begins-same : (past now : List Domains) (d e : Domains) → now ≡ past → e ≡ d → Begins (past ++ d ∷ []) (now ++ e ∷ [])
begins-same past now d e h k = ([], ap (λ xs. xs ++ e ∷ []) h ∙ ap (λ y. past ++ y ∷ []) k ∙ sym (append-nil (past ++ d ∷ [])))

-- atoms on the variables of a state are on those of another with as many
pub atoms-moved : (atoms : List Atomic) (m n : ℕ) → n ≡ m → Each (λ (a : Atomic). a.var < m) atoms → Each (λ (a : Atomic). a.var < n) atoms
atoms-moved atoms m n e h = subst (λ (k : ℕ). Each (λ (a : Atomic). a.var < k) atoms) (sym e) h

-- a state that is cut has as many variables
pub counted-next : (past now : List Domains) (d e : Domains) (atoms : List Atomic) → now ≡ past ++ d ∷ [] → e ≡ cut_all d atoms → (n : ℕ) → HaveCount n (past ++ d ∷ []) → HaveCount n (now ++ e ∷ [])
counted-next past now d e atoms h k n c =
    Each-push (λ (b : Domains). length b ≡ n) now e (subst (HaveCount n) (sym h) c)
    (ap (λ (b : Domains). length b) k ∙ length-cut_all d atoms ∙ (Each-front (λ (b : Domains). length b ≡ n) past d c).1)

-- the present state has as many variables
pub counted-last : (past : List Domains) (d : Domains) (n : ℕ) → HaveCount n (past ++ d ∷ []) → length d ≡ n
counted-last past d n c = (Each-front (λ (b : Domains). length b ≡ n) past d c).1

-- the first of the states have as many
pub counted-first : (ds es : List Domains) (k n : ℕ) → es ≡ take k ds → HaveCount n ds → HaveCount n es
counted-first ds es k n h c = subst (HaveCount n) (sym h) (Each-take (λ (b : Domains). length b ≡ n) k ds c)

get_last : {A : Type 0} (xs : List A) (y d : A) → get_or (xs ++ y ∷ []) (length xs) d ≡ y
get_last [] y d = refl
get_last (x ∷ xs) y d = get_last xs y d

-- the last item read
pub get-last : {A : Type 0} (xs ys : List A) (n : ℕ) (y d : A) → ys ≡ xs ++ y ∷ [] → n ≡ length xs → get_or ys n d ≡ y
get-last xs ys n y d e f = ap (λ zs. get_or zs n d) e ∙ ap (λ k. get_or (xs ++ y ∷ []) k d) f ∙ get_last xs y d

-- the states before are no more than those now
pub begins-longer : (p q : List Domains) (d e : Domains) → Begins (p ++ d ∷ []) (q ++ e ∷ []) → length p ≤ length q
begins-longer p q d e b = omega (arith, simp length-append at (ap (λ (ds : List Domains). length ds) b.1))

-- states that begin with those that begin with others
pub begins-then : (first mid now : List Domains) → Begins first mid → Begins mid now → Begins first now
begins-then first mid now b c = (b.0 ++ c.0, c.1 ∙ ap (λ ds. ds ++ c.0) b.1 ∙ append_assoc first b.0 c.0)

-- one atom less is left
pub cut-step : (d e : Domains) (atoms : List Atomic) (i : ℕ) (a : Atomic) → i < length atoms → a ≡ get_or atoms i a → e ≡ cut d a → cut_all e (drop (i + 1) atoms) ≡ cut_all d (drop i atoms)
cut-step d e atoms i a l f h =
    ap (λ (b : Domains). cut_all b (drop (i + 1) atoms)) h
    ∙ sym (ap (cut_all d) (drop_more atoms i a l ∙ ap (λ (b : Atomic). b ∷ drop (i + 1) atoms) (sym f)))

take_all : {A : Type 0} (xs : List A) → take (length xs) xs ≡ xs
take_all [] = refl
take_all (x ∷ xs) = ap (λ ys. x ∷ ys) (take_all xs)

-- a list as long as so many items is the first so many
pub take-all : {A : Type 0} (xs : List A) (n : ℕ) → n ≡ length xs → take n xs ≡ xs
take-all xs n e = ap (λ k. take k xs) e ∙ take_all xs
