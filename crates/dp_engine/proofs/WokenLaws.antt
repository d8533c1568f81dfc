-- Waking parts and putting them to rest: who is woken then, how many, and that the others have no turn.
use Rattle.std.proofs.Common.{◌≡◌, ℕ, zero, suc, ◌+◌, ◌<◌, ◌≤◌, Bool, true, false, cond, ◌||◌, ◌⊎◌, List, [], ◌∷◌, ◌++◌, length, get_or, set, Option, Some, None, slice_get, refl, sym, ◌∙◌, ap, subst, inl, inr, arith, append-nil, eqb, append_assoc}
use Rattle.std.specs.List.{filter, list_any}
use Rattle.std.proofs.lemmas.Bool.{both_ways, cases_Bool, cases_eq, eq-eqb, eqb-true, false_from_ne_true, false≢true, or_cases}
use Rattle.std.proofs.lemmas.List.{get_or-set_other, get_or-set_same, length-set}
use Rattle.dp_base.specs.Lists.{Among, Climbs, Each}
use Rattle.dp_base.proofs.Lists.{Among-append_cases, Among-append_left, Among-append_right, Each-among}
use Rattle.dp_domain.specs.Atoms.{Atomic}
use Rattle.dp_domain.specs.Faces.{AgreesOn, Face, IsLawful}
use Rattle.dp_domain.specs.States.{Domains, cut, cut_all, is_dead, values}
use Rattle.dp_domain.specs.Turns.{turn_of}
use Rattle.dp_domain.proofs.StateLaws.{length-cut, length-cut_all, values-cut_other}
use Rattle.dp_engine.specs.Placed.{AreSound, IsSound, Placed}
use Rattle.dp_engine.specs.Rests.{Rest}
use Rattle.dp_engine.specs.Woken.{IsIndex, entered, is_of, owed_of, places_on, touch, with_woken}
use Rattle.dp_engine.proofs.LocalLaws.{Alike, turn-local}
use Rattle.dp_engine.proofs.SearchSteps.{Each-at}

or_true : (a b : Bool) → b ≡ true → (a || b) ≡ true
or_true true b e = refl
or_true false b e = e

some_same : {A : Type 0} (x y : A) → ◌≡◌ {A = Option A} (Some x) (Some y) → x ≡ y
some_same x y e = cc

at_zero : (k : ℕ) → k + 0 ≡ k
at_zero k = omega arith

one_on : (k j : ℕ) → (k + 1) + j ≡ k + suc j
one_on k j = omega arith

from_zero : (k : ℕ) → k ≡ 0 + k
from_zero k = omega arith

-- ---- scopes

pub is_of-there : (x : ℕ) (scope : List ℕ) → Among x scope → is_of x scope ≡ true
is_of-there x [] h = absurd h
is_of-there x (y ∷ ys) (inl e) = ap (λ b. b || list_any (λ z. eqb x z) ys) (eq-eqb x y e)
is_of-there x (y ∷ ys) (inr h) = or_true (eqb x y) (is_of x ys) (is_of-there x ys h)

pub is_of-among : (x : ℕ) (scope : List ℕ) → is_of x scope ≡ true → Among x scope
is_of-among x [] e = absurd (false≢true e)
is_of-among x (y ∷ ys) e = elim (or_cases (eqb x y) (is_of x ys) e) [ inl h ↦ inl (eqb-true x y h) | inr h ↦ inr (is_of-among x ys h) ]

-- a variable before all others is none of them
none_of : (x : ℕ) (ys : List ℕ) → Each (λ y. x < y) ys → is_of x ys ≡ false
none_of x ys h = false_from_ne_true (is_of x ys) (λ e. let l : x < x = Each-among (λ y. x < y) ys h x (is_of-among x ys e) in absurd (omega arith))

head_other : (x y : ℕ) (ys : List ℕ) → (x ≡ y → ⊥) → is_of x (y ∷ ys) ≡ is_of x ys
head_other x y ys h = ap (λ b. b || is_of x ys) (false_from_ne_true (eqb x y) (λ e. h (eqb-true x y e)))

-- ---- places

abbrev one_if : Bool → ℕ → List ℕ
one_if b k = cond b (k ∷ []) []

here_among : (b : Bool) (k : ℕ) (ks : List ℕ) → b ≡ true → Among k (one_if b k ++ ks)
here_among true k ks e = inl refl
here_among false k ks e = absurd (false≢true e)

-- the place of a part on the variable is one of the places
pub places_on-there : (x k : ℕ) (parts : List Placed) (j : ℕ) (q : Placed) → slice_get parts j ≡ Some q → is_of x q.face.scope ≡ true → Among (k + j) (places_on x k parts)
places_on-there x k [] j q e h = (cc)
places_on-there x k (p ∷ ps) zero q e h =
    let same : p ≡ q = some_same p q e in
    subst (λ n. Among n (places_on x k (p ∷ ps))) (sym (at_zero k)) (here_among (is_of x p.face.scope) k (places_on x (k + 1) ps) (ap (λ (r : Placed). is_of x r.face.scope) same ∙ h))
places_on-there x k (p ∷ ps) (suc j) q e h =
    Among-append_right (k + suc j) (one_if (is_of x p.face.scope) k) (places_on x (k + 1) ps)
    (subst (λ n. Among n (places_on x (k + 1) ps)) (one_on k j) (places_on-there x (k + 1) ps j q e h))

length_step : (b : Bool) (k : ℕ) (ks : List ℕ) (q : Placed) (qs : List Placed) → length ks ≡ length qs → length (one_if b k ++ ks) ≡ length (cond b (q ∷ qs) qs)
length_step true k ks q qs e = ap suc e
length_step false k ks q qs e = e

-- there are as many places as parts on the variable
pub length-places_on : (x k : ℕ) (parts : List Placed) → length (places_on x k parts) ≡ touch x parts
length-places_on x k [] = refl
length-places_on x k (q ∷ qs) = length_step (is_of x q.face.scope) k (places_on x (k + 1) qs) q (filter (λ p. is_of x p.face.scope) qs) (length-places_on x (k + 1) qs)

-- the places with one part more
pub places_on-push : (x k : ℕ) (parts : List Placed) (q : Placed) → places_on x k (parts ++ q ∷ []) ≡ places_on x k parts ++ one_if (is_of x q.face.scope) (k + length parts)
places_on-push x k [] q = append-nil (one_if (is_of x q.face.scope) k) ∙ ap (one_if (is_of x q.face.scope)) (sym (at_zero k))
places_on-push x k (p ∷ ps) q =
    ap (λ ks. one_if (is_of x p.face.scope) k ++ ks) (places_on-push x (k + 1) ps q ∙ ap (λ n. places_on x (k + 1) ps ++ one_if (is_of x q.face.scope) n) (one_on k (length ps)))
    ∙ sym (append_assoc (one_if (is_of x p.face.scope) k) (places_on x (k + 1) ps) (one_if (is_of x q.face.scope) (k + suc (length ps))))

below_head : (b : Bool) (k j n : ℕ) → Among j (one_if b k) → j < k + suc n
below_head true k j n (inl e) = omega arith
below_head true k j n (inr h) = absurd h
below_head false k j n h = absurd h

-- each place is that of a part
pub places_on-below : (x k : ℕ) (parts : List Placed) (j : ℕ) → Among j (places_on x k parts) → j < k + length parts
places_on-below x k [] j h = absurd h
places_on-below x k (q ∷ qs) j h = elim (Among-append_cases j (one_if (is_of x q.face.scope) k) (places_on x (k + 1) qs) h) [
  | inl m ↦ below_head (is_of x q.face.scope) k j (length qs) m
  | inr m ↦ let l = places_on-below x (k + 1) qs j m in omega arith
]

-- ---- entering a part

pub entered-length : (lists : List (List ℕ)) (k : ℕ) (xs : List ℕ) → length (entered lists k xs) ≡ length lists
entered-length lists k [] = refl
entered-length lists k (x ∷ xs) = entered-length (set lists x (get_or lists x [] ++ k ∷ [])) k xs ∙ length-set lists x (get_or lists x [] ++ k ∷ [])

entered-at : (lists : List (List ℕ)) (k : ℕ) (xs : List ℕ) (x : ℕ) → Each (λ y. y < length lists) xs → Climbs xs → x < length lists → get_or (entered lists k xs) x [] ≡ get_or lists x [] ++ one_if (is_of x xs) k
entered-at lists k [] x h c l = sym (append-nil (get_or lists x []))
entered-at lists k (y ∷ ys) x h c l =
    let after : List (List ℕ) = set lists y (get_or lists y [] ++ k ∷ []) in
    let count : length after ≡ length lists = length-set lists y (get_or lists y [] ++ k ∷ []) in
    let rest = entered-at after k ys x (subst (λ n. Each (λ z. z < n) ys) (sym count) h.1) c.1 (subst (λ n. x < n) (sym count) l) in
    elim (cases_eq x y) [
      | inl e ↦ rest
          ∙ ap (λ b. get_or after x [] ++ one_if b k) (ap (λ z. is_of z ys) e ∙ none_of y ys c.0)
          ∙ append-nil (get_or after x [])
          ∙ ap (λ z. get_or after z []) e
          ∙ get_or-set_same lists y (get_or lists y [] ++ k ∷ []) [] h.0
          ∙ ap (λ z. get_or lists z [] ++ k ∷ []) (sym e)
          ∙ ap (λ b. get_or lists x [] ++ one_if b k) (sym (is_of-there x (y ∷ ys) (inl e)))
      | inr n ↦ rest
          ∙ ap (λ ks. ks ++ one_if (is_of x ys) k) (get_or-set_other lists y x (get_or lists y [] ++ k ∷ []) [] n)
          ∙ ap (λ b. get_or lists x [] ++ one_if b k) (sym (head_other x y ys n))
    ]

-- the index with one part more
pub index-push : (n : ℕ) (parts : List Placed) (lists : List (List ℕ)) (q : Placed) → IsIndex n parts lists → IsSound n q → IsIndex n (parts ++ q ∷ []) (entered lists (length parts) q.face.scope)
index-push n parts lists q i s = record {
  count = entered-length lists (length parts) q.face.scope ∙ i.count;
  each = λ x l. entered-at lists (length parts) q.face.scope x (subst (λ m. Each (λ y. y < m) q.face.scope) (sym i.count) s.covered) s.lawful.ordered (subst (λ m. x < m) (sym i.count) l)
      ∙ ap (λ ks. ks ++ one_if (is_of x q.face.scope) (length parts)) (i.each x l)
      ∙ ap (λ m. places_on x 0 parts ++ one_if (is_of x q.face.scope) m) (from_zero (length parts))
      ∙ sym (places_on-push x 0 parts q);
}

-- ---- waking

set_woken : (ws : List Bool) (k j : ℕ) → get_or (set ws k true) j true ≡ false → (get_or ws j true ≡ false) × (j ≡ k → ⊥)
set_woken [] k j e = absurd (false≢true (sym e))
set_woken (w ∷ ws) zero zero e = absurd (false≢true (sym e))
set_woken (w ∷ ws) zero (suc j) e = (e, λ p. absurd (omega arith))
set_woken (w ∷ ws) (suc k) zero e = (e, λ p. absurd (omega arith))
set_woken (w ∷ ws) (suc k) (suc j) e = let r = set_woken ws k j e in (r.0, λ p. r.1 (omega arith))

-- who is not woken then was not, and is at none of the places
pub with_woken-not : (ws : List Bool) (ks : List ℕ) (j : ℕ) → get_or (with_woken ws ks) j true ≡ false → (get_or ws j true ≡ false) × (Among j ks → ⊥)
with_woken-not ws [] j e = (e, λ h. h)
with_woken-not ws (k ∷ ks) j e =
    let r = with_woken-not (set ws k true) ks j e in let s = set_woken ws k j r.0 in (s.0, λ h. elim h [ inl p ↦ s.1 p | inr m ↦ r.1 m ])

pub with_woken-length : (ws : List Bool) (ks : List ℕ) → length (with_woken ws ks) ≡ length ws
with_woken-length ws [] = refl
with_woken-length ws (k ∷ ks) = with_woken-length (set ws k true) ks ∙ length-set ws k true

owed_set : (ws : List Bool) (k : ℕ) → owed_of (set ws k true) ≤ owed_of ws + 1
owed_set [] k = omega arith
owed_set (true ∷ ws) zero = omega arith
owed_set (false ∷ ws) zero = omega arith
owed_set (true ∷ ws) (suc k) = omega (arith, owed_set ws k)
owed_set (false ∷ ws) (suc k) = omega (arith, owed_set ws k)

-- no more are woken than there are places
pub with_woken-owed : (ws : List Bool) (ks : List ℕ) → owed_of (with_woken ws ks) ≤ owed_of ws + length ks
with_woken-owed ws [] = omega arith
with_woken-owed ws (k ∷ ks) = omega (arith, with_woken-owed (set ws k true) ks, owed_set ws k)

-- ---- to rest

set_rest : (ws : List Bool) (k j : ℕ) → get_or (set ws k false) j true ≡ false → (j ≡ k) ⊎ (get_or ws j true ≡ false)
set_rest [] k j e = inr e
set_rest (w ∷ ws) zero zero e = inl refl
set_rest (w ∷ ws) zero (suc j) e = inr e
set_rest (w ∷ ws) (suc k) zero e = inr e
set_rest (w ∷ ws) (suc k) (suc j) e = elim (set_rest ws k j e) [ inl p ↦ inl (ap suc p) | inr h ↦ inr h ]

-- one that was woken and rests is owed no more
pub owed-rest : (ws : List Bool) (k : ℕ) → get_or ws k false ≡ true → owed_of (set ws k false) + 1 ≡ owed_of ws
owed-rest [] k e = absurd (false≢true e)
owed-rest (true ∷ ws) zero e = omega arith
owed-rest (false ∷ ws) zero e = absurd (false≢true e)
owed-rest (true ∷ ws) (suc k) e = omega (arith, owed-rest ws k e)
owed-rest (false ∷ ws) (suc k) e = owed-rest ws k e

-- another variable than the atoms' keeps its values
values-cut_all_other : (d : Domains) (atoms : List Atomic) (x : ℕ) → ((a : Atomic) → Among a atoms → x ≡ a.var → ⊥) → values (cut_all d atoms) x ≡ values d x
values-cut_all_other d [] x h = refl
values-cut_all_other d (a ∷ atoms) x h = values-cut_all_other (cut d a) atoms x (λ b m. h b (inr m)) ∙ values-cut_other d a x (h a (inl refl))

-- a part has the same turn at two states that agree on its variables
pub alike-turn : (n : ℕ) (q : Placed) (d e : Domains) → IsSound n q → length d ≡ n → length e ≡ length d → is_dead d ≡ false → is_dead e ≡ false → AgreesOn q.face.scope d e → turn_of q.face e ≡ turn_of q.face d
alike-turn n q d e s l m alive alive_too a = sym (turn-local q.face d e s.lawful (record {
  count = m;
  covers = subst (λ k. Each (λ x. x < k) q.face.scope) (sym l) s.covered;
  alive = alive;
  alive_too = alive_too;
  agree = a;
}))

pushed_below : (ws : List Bool) (k : ℕ) → get_or (ws ++ true ∷ []) k true ≡ false → k < length ws
pushed_below [] zero e = absurd (false≢true (sym e))
pushed_below [] (suc k) e = absurd (false≢true (sym e))
pushed_below (w ∷ ws) zero e = omega arith
pushed_below (w ∷ ws) (suc k) e = omega (arith, pushed_below ws k e)

pushed_other : (ws : List Bool) (k : ℕ) → get_or (ws ++ true ∷ []) k true ≡ false → get_or ws k true ≡ false
pushed_other [] zero e = e
pushed_other [] (suc k) e = e
pushed_other (w ∷ ws) zero e = e
pushed_other (w ∷ ws) (suc k) e = pushed_other ws k e

pub get-before : (parts : List Placed) (q : Placed) (k : ℕ) (p : Placed) → k < length parts → slice_get (parts ++ q ∷ []) k ≡ Some p → slice_get parts k ≡ Some p
get-before [] q k p l e = absurd (omega arith)
get-before (r ∷ parts) q zero p l e = e
get-before (r ∷ parts) q (suc k) p l e = get-before parts q k p (omega arith) e

-- a part without a turn may rest
pub rest-one : (n : ℕ) (parts : List Placed) (ws : List Bool) (d : Domains) (k : ℕ) → AreSound n parts → length d ≡ n → is_dead d ≡ false → Rest parts ws d
    → ((q : Placed) → slice_get parts k ≡ Some q → turn_of q.face d ≡ None) → Rest parts (set ws k false) d
rest-one n parts ws d k sound l alive r h = λ j q e w f m a g. elim (set_rest ws k j w) [
  | inl p ↦ alike-turn n q d f (Each-at (IsSound n) parts j q sound e) l m alive a g ∙ h q (subst (λ i. slice_get parts i ≡ Some q) p e)
  | inr o ↦ r j q e o f m a g
]

-- all parts may be woken
pub rest-none : (parts : List Placed) (ws : List Bool) (d : Domains) → ((k : ℕ) → get_or ws k true ≡ true) → Rest parts ws d
rest-none parts ws d all = λ k q e w. absurd (both_ways (get_or ws k true) w (all k))

-- one part more, which is woken
pub rest-push : (parts : List Placed) (ws : List Bool) (d : Domains) (q : Placed) → length ws ≡ length parts → Rest parts ws d → Rest (parts ++ q ∷ []) (ws ++ true ∷ []) d
rest-push parts ws d q l r = λ k p e w. r k p (get-before parts q k p (subst (λ m. k < m) l (pushed_below ws k w)) e) (pushed_other ws k w)

-- ---- after a change

-- who does not rest after a change may have been affected; the others have no turn, as before
pub rest-changed : (parts : List Placed) (ws vs : List Bool) (d e : Domains) → length e ≡ length d → Rest parts ws d
    → ((k : ℕ) (q : Placed) → slice_get parts k ≡ Some q → get_or vs k true ≡ false → (get_or ws k true ≡ false) × AgreesOn q.face.scope d e) → Rest parts vs e
rest-changed parts ws vs d e l r from = λ k q h w f m a g.
    let s = from k q h w in r k q h s.0 f (m ∙ l) a (λ x i. s.1 x i ∙ g x i)

-- a part on none of the atoms' variables sees the same sets
agree_off : (scope : List ℕ) (d : Domains) (atoms : List Atomic) → ((a : Atomic) → Among a atoms → is_of a.var scope ≡ false) → AgreesOn scope d (cut_all d atoms)
agree_off scope d atoms off = λ x m. sym (values-cut_all_other d atoms x (λ a k e. both_ways (is_of a.var scope) (off a k) (ap (λ y. is_of y scope) (sym e) ∙ is_of-there x scope m)))

-- the same of one atom
pub agree-off : (scope : List ℕ) (d : Domains) (a : Atomic) → is_of a.var scope ≡ false → AgreesOn scope d (cut d a)
agree-off scope d a off = agree_off scope d (a ∷ []) (λ b m. elim m [ inl i ↦ ap (λ (c : Atomic). is_of c.var scope) i ∙ off | inr i ↦ absurd i ])

-- the place of a part is among those of each of its variables
pub in-index : (n : ℕ) (parts : List Placed) (lists : List (List ℕ)) (k x : ℕ) (q : Placed) → IsIndex n parts lists → x < n → slice_get parts k ≡ Some q → is_of x q.face.scope ≡ true → Among k (get_or lists x [])
in-index n parts lists k x q index l e t =
    subst (λ ks. Among k ks) (sym (index.each x l)) (subst (λ j. Among j (places_on x 0 parts)) (sym (from_zero k)) (places_on-there x 0 parts k q e t))

pub off-index : (n : ℕ) (parts : List Placed) (lists : List (List ℕ)) (k x : ℕ) (q : Placed) → IsIndex n parts lists → x < n → slice_get parts k ≡ Some q → (Among k (get_or lists x []) → ⊥) → is_of x q.face.scope ≡ false
off-index n parts lists k x q index l e out = false_from_ne_true (is_of x q.face.scope)
    (λ t. out (in-index n parts lists k x q index l e t))

set_awake : (ws : List Bool) (k j : ℕ) → get_or ws j false ≡ true → get_or (set ws k true) j false ≡ true
set_awake [] k j e = e
set_awake (w ∷ ws) zero zero e = refl
set_awake (w ∷ ws) zero (suc j) e = e
set_awake (w ∷ ws) (suc k) zero e = e
set_awake (w ∷ ws) (suc k) (suc j) e = set_awake ws k j e

owed_again : (ws : List Bool) (k : ℕ) → get_or ws k false ≡ true → owed_of (set ws k true) ≡ owed_of ws
owed_again [] k e = refl
owed_again (true ∷ ws) zero e = refl
owed_again (false ∷ ws) zero e = absurd (false≢true e)
owed_again (true ∷ ws) (suc k) e = ap suc (owed_again ws k e)
owed_again (false ∷ ws) (suc k) e = owed_again ws k e

-- one of the parts at the places was woken before
pub with_woken-one : (ws : List Bool) (ks : List ℕ) (j : ℕ) → Among j ks → get_or ws j false ≡ true → owed_of (with_woken ws ks) + 1 ≤ owed_of ws + length ks
with_woken-one ws [] j m e = absurd m
with_woken-one ws (k ∷ ks) j (inl i) e =
    let same : owed_of (set ws k true) ≡ owed_of ws = owed_again ws k (subst (λ n. get_or ws n false ≡ true) i e) in
    let more = with_woken-owed (set ws k true) ks in
    omega arith
with_woken-one ws (k ∷ ks) j (inr m) e =
    let more = with_woken-one (set ws k true) ks j m (set_awake ws k j e) in
    let one = owed_set ws k in
    omega arith
