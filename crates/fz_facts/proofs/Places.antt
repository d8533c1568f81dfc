-- Lists by their places: items behind those before them, what a list gives of its items, and equal numbers.
use Rattle.std.proofs.Common.{◌≡◌, ℕ, zero, suc, ◌+◌, ◌<◌, ◌≤◌, ◌==◌, true, Option, Some, None, List, [], ◌∷◌, ◌++◌, length, slice_get, map, filter_map, sym, ap, subst, ◌∙◌, inl, inr, length-append, add-zero, arith}
use Rattle.std.specs.List.{cons_option}
use Rattle.std.proofs.lemmas.Bool.{eqb-true}
use Rattle.dp_base.specs.Lists.{Among, Each}
use Rattle.dp_base.proofs.Lists.{Each-weaker, list_all-at}
use Rattle.fz_model.specs.Constraints.{all_equal}
use Rattle.fz_facts.specs.Facts.{AreEqual}
use Rattle.fz_facts.proofs.Faults.{EachBehind}

-- what holds of each item behind those before it holds at each place
pub behind_at : {X : Type 0} (P : List X → X → Type 0) (kept xs : List X) (k : ℕ) (x : X) → EachBehind P kept xs → slice_get xs k ≡ Some x
    → (before : List X) × (length before ≡ length kept + k) × P before x
behind_at P kept [] k x h at = absurd cc
behind_at P kept (y ∷ ys) zero x h at =
    let same : y ≡ x = cc in
    (kept, sym (add-zero (length kept)), subst (P kept) same h.0)
behind_at P kept (y ∷ ys) (suc k) x h at =
    let r = behind_at P (kept ++ y ∷ []) ys k x h.1 at in
    let longer : length (kept ++ y ∷ []) ≡ length kept + 1 = length-append kept (y ∷ []) in
    (r.0, omega (arith, r.1, longer), r.2)

-- where each stands behind fewer than n, there are at most n
pub few_behind : {X : Type 0} (n : ℕ) (kept xs : List X) → length kept ≤ n → EachBehind (λ before x. length before < n) kept xs → length kept + length xs ≤ n
few_behind n kept [] few h = omega (arith, few)
few_behind n kept (x ∷ xs) few h =
    let longer : length (kept ++ x ∷ []) ≡ length kept + 1 = length-append kept (x ∷ []) in
    let more = few_behind n (kept ++ x ∷ []) xs (omega (arith, h.0, longer)) h.1 in
    omega (arith, more, longer)

pub EachBehind-weaker : {X : Type 0} (P Q : List X → X → Type 0) → ((before : List X) (x : X) → P before x → Q before x) → (kept xs : List X) → EachBehind P kept xs → EachBehind Q kept xs
EachBehind-weaker P Q h kept [] e = tt
EachBehind-weaker P Q h kept (x ∷ xs) e = (h kept x e.0, EachBehind-weaker P Q h (kept ++ x ∷ []) xs e.1)

pub each_of : {X Y : Type 0} (P : List X → X → Type 0) (Q : Y → Type 0) (f : X → Y) → ((before : List X) (x : X) → P before x → Q (f x)) → (kept xs : List X) → EachBehind P kept xs → Each Q (map f xs)
each_of P Q f h kept [] e = tt
each_of P Q f h kept (x ∷ xs) e = (h kept x e.0, each_of P Q f h (kept ++ x ∷ []) xs e.1)

-- ---- what is given of items

given_head : {Y : Type 0} (o : Option Y) (y : Y) (ys : List Y) → o ≡ Some y → Among y (cons_option o ys)
given_head None y ys e = absurd cc
given_head (Some z) y ys e =
    let same : y ≡ z = cc in
    inl same

given_tail : {Y : Type 0} (o : Option Y) (y : Y) (ys : List Y) → Among y ys → Among y (cons_option o ys)
given_tail None y ys h = h
given_tail (Some z) y ys h = inr h

-- what is given of the item at a place
pub Among-filter_map : {X Y : Type 0} (h : X → Option Y) (xs : List X) (k : ℕ) (x : X) (y : Y) → slice_get xs k ≡ Some x → h x ≡ Some y → Among y (filter_map h xs)
Among-filter_map h [] k x y at e = absurd cc
Among-filter_map h (z ∷ zs) zero x y at e =
    let same : z ≡ x = cc in
    given_head (h z) y (filter_map h zs) (ap h same ∙ e)
Among-filter_map h (z ∷ zs) (suc k) x y at e = given_tail (h z) y (filter_map h zs) (Among-filter_map h zs k x y at e)

-- ---- equal numbers

member_is : (n : ℕ) (ns : List ℕ) → all_equal (n ∷ ns) ≡ true → (m : ℕ) → Among m (n ∷ ns) → m ≡ n
member_is n ns e m (inl same) = same
member_is n ns e m (inr h) = eqb-true m n (list_all-at (λ k. k == n) ns m e h)

two_equal : (l : List ℕ) → all_equal l ≡ true → (m k : ℕ) → Among m l → Among k l → m ≡ k
two_equal [] e m k h g = absurd h
two_equal (n ∷ ns) e m k h g = member_is n ns e m h ∙ sym (member_is n ns e k g)

-- numbers that are all among equal ones
pub equal_among : (l : List ℕ) → all_equal l ≡ true → (ns : List ℕ) → Each (λ n. Among n l) ns → AreEqual ns
equal_among l e [] h = tt
equal_among l e (n ∷ ns) h = Each-weaker (λ m. Among m l) (λ m. m ≡ n) (λ m g. two_equal l e m n g h.0) ns h.1
