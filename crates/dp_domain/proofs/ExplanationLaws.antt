-- Descriptions and explanations: a description gives the scope the state's values, an explanation suffices and no atom of it can be left out.
use Rattle.std.proofs.Common.{◌≡◌, ℕ, ◌<◌, ◌≤◌, Bool, true, false, cond, not, ◌&&◌, List, [], ◌∷◌, ◌++◌, length, take, map, ℤ, ◌≤ℤ◌, ◌<ℤ◌, int_le, int_lt, Option, Some, None, refl, sym, ◌∙◌, ap, subst, inl, inr, arith}
use Rattle.std.specs.List.{filter, flat_map}
use Rattle.std.proofs.lemmas.Int.{ints}
use Rattle.std.proofs.lemmas.Bool.{both_ways, cases_Bool, cases_eq, cases_lt, and_parts, and_from, not-true, not_from_false, false_from_ne_true}
use Rattle.std.proofs.lemmas.List.{append_assoc, append-nil, take_all}
use Rattle.dp_base.specs.Lists.{Among}
use Rattle.dp_base.proofs.Lists.{Among-append_left, Among-append_right, Among-append_cases, Among-filter_only, Among-filter_all, Each-among, Each-from_among, list_any-none}
use Rattle.dp_domain.specs.Atoms.{Atomic, meets, negated}
use Rattle.dp_domain.specs.Sets.{IsAscending, IsDomain, least, greatest}
use Rattle.dp_domain.specs.States.{Domains, values, is_dead, entails, cut, cut_all, AreOf, IsWithin}
use Rattle.dp_domain.specs.Faces.{Face, Covers, AgreesOn, IsLawful}
use Rattle.dp_domain.specs.Turns.{at_least, at_most, other_than}
use Rattle.dp_domain.specs.Explanations.{is_less, bound_atom, has, is_hole, described, description, Describes, failing, IsOpen, suffices, needed, Explains}
use Rattle.dp_domain.proofs.AtomLaws.{le-from_test, test-from_le, apart-from_tests, order_cases, negated-negated}
use Rattle.dp_domain.proofs.SetLaws.{ascending-same, IsAscending-filter, least-bound, least-among, greatest-bound, greatest-among}
use Rattle.dp_domain.proofs.StateLaws.{values-cut_same, cut-past, values-cut_other, within-from_value, Among-cut_all, IsWithin-into_cut, IsWithin-cut_all, length-cut_all, entails-at, entails-from, entails-fails, entails-cut_all, entails-from_dead_cut, alive-within}
use Rattle.dp_domain.proofs.ScopeLaws.{Covers-at, Covers-count, Covers-within, AgreesOn-cut}
use Rattle.dp_domain.proofs.BoundLaws.{alive-least, alive-greatest}
use Rattle.dp_domain.proofs.ExplanationSteps.{AreSets, from_has, cut_all-append}

-- ---- members of joined and mapped lists

-- an item of one of the pieces is an item of all
pub Among-flat_map : {X A : Type 0} (g : X → List A) (xs : List X) (x : X) (a : A) → Among x xs → Among a (g x) → Among a (flat_map g xs)
Among-flat_map g [] x a h k = absurd h
Among-flat_map g (y ∷ ys) x a (inl e) k = Among-append_left a (g y) (flat_map g ys) (subst (λ z. Among a (g z)) e k)
Among-flat_map g (y ∷ ys) x a (inr h) k = Among-append_right a (g y) (flat_map g ys) (Among-flat_map g ys x a h k)

-- an item of all is an item of one of the pieces
pub Among-flat_map_piece : {X A : Type 0} (g : X → List A) (xs : List X) (a : A) → Among a (flat_map g xs) → (x : X) × Among x xs × Among a (g x)
Among-flat_map_piece g [] a h = absurd h
Among-flat_map_piece g (y ∷ ys) a h = elim (Among-append_cases a (g y) (flat_map g ys) h) [
  | inl k ↦ (y, inl refl, k)
  | inr k ↦ let r = Among-flat_map_piece g ys a k in (r.0, inr r.1, r.2)
]

pub Among-map : {X A : Type 0} (g : X → A) (xs : List X) (x : X) → Among x xs → Among (g x) (map g xs)
Among-map g [] x h = absurd h
Among-map g (y ∷ ys) x (inl e) = inl (ap g e)
Among-map g (y ∷ ys) x (inr h) = inr (Among-map g ys x h)

pub Among-map_item : {X A : Type 0} (g : X → A) (xs : List X) (a : A) → Among a (map g xs) → (x : X) × Among x xs × (a ≡ g x)
Among-map_item g [] a h = absurd h
Among-map_item g (y ∷ ys) a (inl e) = (y, inl refl, e)
Among-map_item g (y ∷ ys) a (inr h) = let r = Among-map_item g ys a h in (r.0, inr r.1, r.2)

-- ---- what is described of one variable

bound_item : (atom : ℤ → Atomic) (b : Bool) (o : Option ℤ) (a : Atomic) → Among a (bound_atom atom b o) → (v : ℤ) × (o ≡ Some v) × (a ≡ atom v)
bound_item atom true (Some v) a (inl e) = (v, refl, e)
bound_item atom true (Some v) a (inr h) = absurd h
bound_item atom true None a h = absurd h
bound_item atom false (Some v) a h = absurd h
bound_item atom false None a h = absurd h

-- a number that is not among these differs from each
hole_meets : (n : List ℤ) (x : ℕ) (v : ℤ) → is_hole n v ≡ true → (w : ℤ) → Among w n → meets (other_than x v) w ≡ true
hole_meets n x v e w h =
    let r = and_parts (is_less (least n) (Some v) && is_less (Some v) (greatest n)) (not (has n v)) e in
    not_from_false (int_le w v && int_le v w) (list_any-none (λ u. int_le u v && int_le v u) n w (not-true (has n v) r.1) h)

-- an atom holds of one variable's values
abbrev Holds : ℕ → List ℤ → Atomic → Type 0
Holds x n a = (a.var ≡ x) × ((w : ℤ) → Among w n → meets a w ≡ true)

lower_holds : (n : List ℤ) (x : ℕ) (b : Bool) (a : Atomic) → Among a (bound_atom (at_least x) b (least n)) → Holds x n a
lower_holds n x b a h =
    let r = bound_item (at_least x) b (least n) a h in
    subst (Holds x n) (sym r.2) (refl, λ w k. test-from_le r.0 w (least-bound n r.0 r.1 w k))

upper_holds : (n : List ℤ) (x : ℕ) (b : Bool) (a : Atomic) → Among a (bound_atom (at_most x) b (greatest n)) → Holds x n a
upper_holds n x b a h =
    let r = bound_item (at_most x) b (greatest n) a h in
    subst (Holds x n) (sym r.2) (refl, λ w k. test-from_le w r.0 (greatest-bound n r.0 r.1 w k))

hole_holds : (i n : List ℤ) (x : ℕ) (a : Atomic) → Among a (map (other_than x) (filter (is_hole n) i)) → Holds x n a
hole_holds i n x a h =
    let r = Among-map_item (other_than x) (filter (is_hole n) i) a h in
    subst (Holds x n) (sym r.2) (refl, hole_meets n x r.0 (Among-filter_only (is_hole n) i r.0 r.1).1)

-- each atom that describes a variable is on it, and holds of its values
pub described-holds : (i n : List ℤ) (x : ℕ) (a : Atomic) → Among a (described i n x) → Holds x n a
described-holds i n x a h =
    elim (Among-append_cases a (bound_atom (at_least x) (is_less (least i) (least n)) (least n) ++ bound_atom (at_most x) (is_less (greatest n) (greatest i)) (greatest n)) (map (other_than x) (filter (is_hole n) i)) h) [
      | inl k ↦ elim (Among-append_cases a (bound_atom (at_least x) (is_less (least i) (least n)) (least n)) (bound_atom (at_most x) (is_less (greatest n) (greatest i)) (greatest n)) k) [
        | inl l ↦ lower_holds n x (is_less (least i) (least n)) a l
        | inr l ↦ upper_holds n x (is_less (greatest n) (greatest i)) a l
      ]
      | inr k ↦ hole_holds i n x a k
    ]

-- the number meets each atom that describes the variable
abbrev MeetsAll : List ℤ → List ℤ → ℕ → ℤ → Type 0
MeetsAll i n x w = (a : Atomic) → Among a (described i n x) → meets a w ≡ true

in_lower : (i n : List ℤ) (x : ℕ) (a : Atomic) → Among a (bound_atom (at_least x) (is_less (least i) (least n)) (least n)) → Among a (described i n x)
in_lower i n x a h =
    Among-append_left a (bound_atom (at_least x) (is_less (least i) (least n)) (least n) ++ bound_atom (at_most x) (is_less (greatest n) (greatest i)) (greatest n)) (map (other_than x) (filter (is_hole n) i))
    (Among-append_left a (bound_atom (at_least x) (is_less (least i) (least n)) (least n)) (bound_atom (at_most x) (is_less (greatest n) (greatest i)) (greatest n)) h)

in_upper : (i n : List ℤ) (x : ℕ) (a : Atomic) → Among a (bound_atom (at_most x) (is_less (greatest n) (greatest i)) (greatest n)) → Among a (described i n x)
in_upper i n x a h =
    Among-append_left a (bound_atom (at_least x) (is_less (least i) (least n)) (least n) ++ bound_atom (at_most x) (is_less (greatest n) (greatest i)) (greatest n)) (map (other_than x) (filter (is_hole n) i))
    (Among-append_right a (bound_atom (at_least x) (is_less (least i) (least n)) (least n)) (bound_atom (at_most x) (is_less (greatest n) (greatest i)) (greatest n)) h)

in_holes : (i n : List ℤ) (x : ℕ) (a : Atomic) → Among a (map (other_than x) (filter (is_hole n) i)) → Among a (described i n x)
in_holes i n x a h =
    Among-append_right a (bound_atom (at_least x) (is_less (least i) (least n)) (least n) ++ bound_atom (at_most x) (is_less (greatest n) (greatest i)) (greatest n)) (map (other_than x) (filter (is_hole n) i)) h

lower_said : (x : ℕ) (o p : Option ℤ) (l m : ℤ) → o ≡ Some l → p ≡ Some m → int_lt l m ≡ true → Among (at_least x m) (bound_atom (at_least x) (is_less o p) p)
lower_said x o p l m e f t =
    subst (λ q. Among (at_least x m) (bound_atom (at_least x) (is_less q p) p)) (sym e)
    (subst (λ q. Among (at_least x m) (bound_atom (at_least x) (is_less (Some l) q) q)) (sym f)
    (subst (λ b. Among (at_least x m) (bound_atom (at_least x) b (Some m))) (sym t) (inl refl)))

upper_said : (x : ℕ) (o p : Option ℤ) (l m : ℤ) → o ≡ Some l → p ≡ Some m → int_lt m l ≡ true → Among (at_most x m) (bound_atom (at_most x) (is_less p o) p)
upper_said x o p l m e f t =
    subst (λ q. Among (at_most x m) (bound_atom (at_most x) (is_less p q) p)) (sym e)
    (subst (λ q. Among (at_most x m) (bound_atom (at_most x) (is_less q (Some l)) q)) (sym f)
    (subst (λ b. Among (at_most x m) (bound_atom (at_most x) b (Some m))) (sym t) (inl refl)))

above_least : (i n : List ℤ) (x : ℕ) (w l m : ℤ) → least i ≡ Some l → least n ≡ Some m → Among w i → MeetsAll i n x w → m ≤ℤ w
above_least i n x w l m e f h k = elim (cases_Bool (int_lt l m)) [
  | inl t ↦ le-from_test m w (k (at_least x m) (in_lower i n x (at_least x m) (lower_said x (least i) (least n) l m e f t)))
  | inr t ↦ let b = least-bound i l e w h in omega (arith, ints)
]

below_greatest : (i n : List ℤ) (x : ℕ) (w l m : ℤ) → greatest i ≡ Some l → greatest n ≡ Some m → Among w i → MeetsAll i n x w → w ≤ℤ m
below_greatest i n x w l m e f h k = elim (cases_Bool (int_lt m l)) [
  | inl t ↦ le-from_test w m (k (at_most x m) (in_upper i n x (at_most x m) (upper_said x (greatest i) (greatest n) l m e f t)))
  | inr t ↦ let b = greatest-bound i l e w h in omega (arith, ints)
]

less_test : (x y : ℤ) → x <ℤ y → int_lt x y ≡ true
less_test x y h = elim (cases_Bool (int_lt x y)) [ inl e ↦ e | inr e ↦ absurd (omega (arith, ints)) ]

hole_from : (n : List ℤ) (w m u : ℤ) → least n ≡ Some m → greatest n ≡ Some u → m <ℤ w → w <ℤ u → has n w ≡ false → is_hole n w ≡ true
hole_from n w m u e f h k t =
    let a : is_less (least n) (Some w) ≡ true = ap (λ o. is_less o (Some w)) e ∙ less_test m w h in
    let b : is_less (Some w) (greatest n) ≡ true = ap (λ o. is_less (Some w) o) f ∙ less_test w u k in
    and_from (is_less (least n) (Some w) && is_less (Some w) (greatest n)) (not (has n w))
    (and_from (is_less (least n) (Some w)) (is_less (Some w) (greatest n)) a b) (not_from_false (has n w) t)

no_hole : (i n : List ℤ) (x : ℕ) (w : ℤ) → Among w i → MeetsAll i n x w → is_hole n w ≡ true → ⊥
no_hole i n x w h k t =
    apart-from_tests w w (not-true (int_le w w && int_le w w) (k (other_than x w) (in_holes i n x (other_than x w) (Among-map (other_than x) (filter (is_hole n) i) w (Among-filter_all (is_hole n) i w h t))))) refl

-- an initial value that meets each atom that describes the variable is a value now
pub described-enough : (i n : List ℤ) (x : ℕ) (w l m t u : ℤ) → least i ≡ Some l → least n ≡ Some m → greatest i ≡ Some t → greatest n ≡ Some u → Among w i → MeetsAll i n x w → Among w n
described-enough i n x w l m t u e f p q h k =
    let a = above_least i n x w l m e f h k in
    let b = below_greatest i n x w t u p q h k in
    elim (order_cases m w) [
      | inl c ↦ subst (λ v. Among v n) c (least-among n m f)
      | inr c ↦ elim c [
        | inl c' ↦ elim (order_cases w u) [
          | inl g ↦ subst (λ v. Among v n) (sym g) (greatest-among n u q)
          | inr g ↦ elim g [
            | inl g' ↦ elim (cases_Bool (has n w)) [
              | inl s ↦ from_has n w s
              | inr s ↦ absurd (no_hole i n x w h k (hole_from n w m u f q c' g' s))
            ]
            | inr g' ↦ absurd (omega (arith, ints))
          ]
        ]
        | inr c' ↦ absurd (omega (arith, ints))
      ]
    ]

-- ---- cuts by a description

-- a value that meets the atoms on its variable is one of the cut
pub Among-cut_all_from : (d : Domains) (atoms : List Atomic) (x : ℕ) (v : ℤ) → Among v (values d x) → ((a : Atomic) → Among a atoms → x ≡ a.var → meets a v ≡ true) → Among v (values (cut_all d atoms) x)
Among-cut_all_from d [] x v h m = h
Among-cut_all_from d (a ∷ atoms) x v h m = Among-cut_all_from (cut d a) atoms x v (Among-cut_all d a x v h (m a (inl refl))) (λ b k. m b (inr k))

ascending_cut_same : (d : Domains) (a : Atomic) → IsAscending (values d a.var) → IsAscending (values (cut d a) a.var)
ascending_cut_same d a s = elim (cases_lt a.var (length d)) [
  | inl h ↦ subst IsAscending (sym (values-cut_same d a h)) (IsAscending-filter (meets a) (values d a.var) s)
  | inr h ↦ subst (λ (e : Domains). IsAscending (values e a.var)) (sym (cut-past d a h)) s
]

ascending_cut : (d : Domains) (a : Atomic) (x : ℕ) → IsAscending (values d x) → IsAscending (values (cut d a) x)
ascending_cut d a x s = elim (cases_eq x a.var) [
  | inl e ↦ subst (λ y. IsAscending (values (cut d a) y)) (sym e) (ascending_cut_same d a (subst (λ y. IsAscending (values d y)) e s))
  | inr n ↦ subst IsAscending (sym (values-cut_other d a x n)) s
]

ascending_cut_all : (d : Domains) (atoms : List Atomic) (x : ℕ) → IsAscending (values d x) → IsAscending (values (cut_all d atoms) x)
ascending_cut_all d [] x s = s
ascending_cut_all d (a ∷ atoms) x s = ascending_cut_all (cut d a) atoms x (ascending_cut d a x s)

-- where each atom of a description stands
description_item : (initial now : Domains) (scope : List ℕ) (a : Atomic) → Among a (description initial now scope) → Among a.var scope × ((w : ℤ) → Among w (values now a.var) → meets a w ≡ true)
description_item initial now scope a h =
    let r = Among-flat_map_piece (λ x. described (values initial x) (values now x) x) scope a h in
    let k = described-holds (values initial r.0) (values now r.0) r.0 a r.2 in
    (subst (λ y. Among y scope) (sym k.0) r.1, λ w m. k.1 w (subst (λ y. Among w (values now y)) k.0 m))

-- what stands in the description of one variable stands in all
in_description : (initial now : Domains) (scope : List ℕ) (x : ℕ) (a : Atomic) → Among x scope → Among a (described (values initial x) (values now x) x) → Among a (description initial now scope)
in_description initial now scope x a h k = Among-flat_map (λ y. described (values initial y) (values now y) y) scope x a h k

cut_value_meets : (initial now : Domains) (scope : List ℕ) (x : ℕ) (w : ℤ) → Among x scope → Among w (values (cut_all initial (description initial now scope)) x) → MeetsAll (values initial x) (values now x) x w
cut_value_meets initial now scope x w h m a k =
    let e : a.var ≡ x = (described-holds (values initial x) (values now x) x a k).0 in
    entails-at (cut_all initial (description initial now scope)) a w
    (entails-cut_all initial (description initial now scope) a (in_description initial now scope x a h k))
    (subst (λ y. Among w (values (cut_all initial (description initial now scope)) y)) (sym e) m)

cut_value_now : (initial now : Domains) (scope : List ℕ) (x : ℕ) (w : ℤ) → Covers scope now → is_dead now ≡ false → IsWithin now initial → Among x scope → Among w (values (cut_all initial (description initial now scope)) x) → Among w (values now x)
cut_value_now initial now scope x w c l p h m =
    let k : x < length now = Covers-at scope now x c h in
    let j : x < length initial = subst (λ n. x < n) p.count k in
    let l' : is_dead initial ≡ false = alive-within initial now p l in
    let a = alive-least initial x l' j in
    let b = alive-least now x l k in
    let s = alive-greatest initial x l' j in
    let t = alive-greatest now x l k in
    described-enough (values initial x) (values now x) x w a.0 b.0 s.0 t.0 a.1 b.1 s.1 t.1
    ((IsWithin-cut_all initial (description initial now scope)).each x w m)
    (cut_value_meets initial now scope x w h m)

now_value_cut : (initial now : Domains) (scope : List ℕ) (x : ℕ) (w : ℤ) → IsWithin now initial → Among w (values now x) → Among w (values (cut_all initial (description initial now scope)) x)
now_value_cut initial now scope x w p h =
    Among-cut_all_from initial (description initial now scope) x w (p.each x w h)
    (λ a k e. (description_item initial now scope a k).1 w (subst (λ y. Among w (values now y)) e h))

agrees_at : (initial now : Domains) (scope : List ℕ) (x : ℕ) → Covers scope now → is_dead now ≡ false → IsWithin now initial → AreSets initial now scope → Among x scope → values (cut_all initial (description initial now scope)) x ≡ values now x
agrees_at initial now scope x c l p s h =
    let r = Each-among (λ y. IsDomain (values initial y) × IsDomain (values now y)) scope s x h in
    ascending-same (values (cut_all initial (description initial now scope)) x) (values now x)
    (ascending_cut_all initial (description initial now scope) x r.0.ascending) r.1.ascending
    (λ v m. cut_value_now initial now scope x v c l p h m)
    (λ v m. now_value_cut initial now scope x v p m)

-- a description says what it is for
pub description-describes : (initial now : Domains) (scope : List ℕ) → Covers scope now → is_dead now ≡ false → IsWithin now initial → AreSets initial now scope → Describes initial now scope (description initial now scope)
description-describes initial now scope c l p s = record {
  of_scope = Each-from_among (λ a. Among a.var scope) (description initial now scope) (λ a h. (description_item initial now scope a h).0);
  entailed = Each-from_among (λ a. entails now a ≡ true) (description initial now scope) (λ a h. entails-from now a (description_item initial now scope a h).1);
  enough = λ x h. agrees_at initial now scope x c l p s h;
}

-- the description as the code has it at its end
pub describes_end : (initial now : Domains) (scope : List ℕ) (i : ℕ) (atoms : List Atomic) → length scope ≤ i → atoms ≡ description initial now (take i scope) → AreSets initial now (take i scope) → Covers scope now → is_dead now ≡ false → IsWithin now initial → Describes initial now scope atoms
describes_end initial now scope i atoms h e s c l p =
    let k : take i scope ≡ scope = take_all i scope h in
    subst (Describes initial now scope) (sym (e ∙ ap (description initial now) k)) (description-describes initial now scope c l p (subst (AreSets initial now) k s))

-- ---- the whole description suffices

open_var : (d : Domains) (a : Atomic) → entails d a ≡ false → a.var < length d
open_var d a e = let r = entails-fails d a e in within-from_value d a.var r.0 r.1

-- an open target's variable is one of the state
pub failing-of : (d : Domains) (target : Option Atomic) → IsOpen d target → AreOf d (failing target)
failing-of d None o = tt
failing-of d (Some a) o = (open_var d a o, tt)

failing_agrees : (scope : List ℕ) (d e : Domains) (target : Option Atomic) → length d ≡ length e → IsOpen e target → AgreesOn scope d e → AgreesOn scope (cut_all d (failing target)) (cut_all e (failing target))
failing_agrees scope d e None n o g = g
failing_agrees scope d e (Some a) n o g = AgreesOn-cut scope d e (negated a) (subst (λ k. a.var < k) (sym n) (open_var e a o)) (open_var e a o) g

failing_alive : (d : Domains) (target : Option Atomic) → is_dead d ≡ false → IsOpen d target → is_dead (cut_all d (failing target)) ≡ false
failing_alive d None l o = l
failing_alive d (Some a) l o = false_from_ne_true (is_dead (cut d (negated a))) (λ t. both_ways (entails d a) o (subst (λ b. entails d b ≡ true) (negated-negated a) (entails-from_dead_cut d (negated a) l t)))

same_test : (f : Face) (d e : Domains) → IsLawful f → is_dead e ≡ false → AgreesOn f.scope d e → f.test e ≡ true → f.test d ≡ true
same_test f d e w l g t = elim (cases_Bool (is_dead d)) [
  | inl k ↦ w.dead d k
  | inr k ↦ w.local d e k l g ∙ t
]

-- atoms that give the scope the state's values suffice for what follows at the state
pub enough-suffices : (f : Face) (initial now : Domains) (target : Option Atomic) (atoms : List Atomic) → IsLawful f → is_dead now ≡ false → IsWithin now initial → IsOpen now target → suffices f now target [] ≡ true → AgreesOn f.scope (cut_all initial atoms) now → suffices f initial target atoms ≡ true
enough-suffices f initial now target atoms w l p o t g =
    ap f.test (cut_all-append initial atoms (failing target))
    ∙ same_test f (cut_all (cut_all initial atoms) (failing target)) (cut_all now (failing target)) w (failing_alive now target l o)
    (failing_agrees f.scope (cut_all initial atoms) now target (length-cut_all initial atoms ∙ sym p.count) o g) t

-- ---- dropping atoms

suffices_step : (f : Face) (initial : Domains) (target : Option Atomic) (kept rest : List Atomic) (a : Atomic) (left right : List Atomic) (b : Bool) → suffices f initial target (kept ++ rest) ≡ b
    → (suffices f initial target (kept ++ rest) ≡ true → suffices f initial target left ≡ true)
    → (suffices f initial target ((kept ++ a ∷ []) ++ rest) ≡ true → suffices f initial target right ≡ true)
    → suffices f initial target (kept ++ a ∷ rest) ≡ true → suffices f initial target (cond b left right) ≡ true
suffices_step f initial target kept rest a left right true e g h t = g e
suffices_step f initial target kept rest a left right false e g h t = h (ap (suffices f initial target) (append_assoc kept (a ∷ []) rest) ∙ t)

-- where all atoms suffice, those that are needed do
pub needed-suffices : (f : Face) (initial : Domains) (target : Option Atomic) (kept rest : List Atomic) → suffices f initial target (kept ++ rest) ≡ true → suffices f initial target (needed f initial target kept rest) ≡ true
needed-suffices f initial target kept [] t = ap (suffices f initial target) (sym (append-nil kept)) ∙ t
needed-suffices f initial target kept (a ∷ rest) t =
    suffices_step f initial target kept rest a (needed f initial target kept rest) (needed f initial target (kept ++ a ∷ []) rest) (suffices f initial target (kept ++ rest)) refl
    (needed-suffices f initial target kept rest) (needed-suffices f initial target (kept ++ a ∷ []) rest) t

-- what is kept of the rest: some of its atoms, of which none can be left out
record IsKept (f : Face) (initial : Domains) (target : Option Atomic) (kept rest out : List Atomic) : Type 0 where
  pub only : (b : Atomic) → Among b out → Among b rest
  pub minimal : (front back : List Atomic) (a : Atomic) → out ≡ front ++ a ∷ back → suffices f initial target (kept ++ (front ++ back)) ≡ false

-- a state cut by more atoms is within the one cut by fewer
pub IsWithin-more : (d e : Domains) (xs : List Atomic) → IsWithin e d → ((a : Atomic) → Among a xs → entails e a ≡ true) → IsWithin e (cut_all d xs)
IsWithin-more d e [] p h = p
IsWithin-more d e (a ∷ xs) p h = IsWithin-more (cut d a) e xs (IsWithin-into_cut d e a p (h a (inl refl))) (λ b k. h b (inr k))

-- where fewer atoms suffice, more do
pub suffices-more : (f : Face) (initial : Domains) (target : Option Atomic) (xs ys : List Atomic) → IsLawful f → Covers f.scope initial → ((a : Atomic) → Among a xs → Among a ys) → suffices f initial target xs ≡ true → suffices f initial target ys ≡ true
suffices-more f initial target xs ys w c h t =
    w.monotone (cut_all initial (xs ++ failing target)) (cut_all initial (ys ++ failing target))
    (Covers-within f.scope initial (cut_all initial (xs ++ failing target)) (IsWithin-cut_all initial (xs ++ failing target)) c)
    (IsWithin-more initial (cut_all initial (ys ++ failing target)) (xs ++ failing target) (IsWithin-cut_all initial (ys ++ failing target))
    (λ a k. entails-cut_all initial (ys ++ failing target) a
    (elim (Among-append_cases a xs (failing target) k) [
      | inl m ↦ Among-append_left a ys (failing target) (h a m)
      | inr m ↦ Among-append_right a ys (failing target) m
    ])))
    t

nil_split : (front back : List Atomic) (a : Atomic) → [] ≡ front ++ a ∷ back → ⊥
nil_split [] back a e = cc
nil_split (b ∷ front) back a e = cc

same_head : (a b : Atomic) (xs ys : List Atomic) → a ∷ xs ≡ b ∷ ys → a ≡ b
same_head a b xs ys e = cc

same_tail : (a b : Atomic) (xs ys : List Atomic) → a ∷ xs ≡ b ∷ ys → xs ≡ ys
same_tail a b xs ys e = cc

among_more : (kept rest back : List Atomic) → ((b : Atomic) → Among b back → Among b rest) → (b : Atomic) → Among b (kept ++ back) → Among b (kept ++ rest)
among_more kept rest back h b k = elim (Among-append_cases b kept back k) [
  | inl m ↦ Among-append_left b kept rest m
  | inr m ↦ Among-append_right b kept rest (h b m)
]

minimal_step : (f : Face) (initial : Domains) (target : Option Atomic) (kept rest : List Atomic) (a : Atomic) (out : List Atomic) → IsLawful f → Covers f.scope initial → suffices f initial target (kept ++ rest) ≡ false → IsKept f initial target (kept ++ a ∷ []) rest out
    → (front back : List Atomic) (b : Atomic) → a ∷ out ≡ front ++ b ∷ back → suffices f initial target (kept ++ (front ++ back)) ≡ false
minimal_step f initial target kept rest a out w c n k [] back b e =
    false_from_ne_true (suffices f initial target (kept ++ back)) (λ t. both_ways (suffices f initial target (kept ++ rest)) n
    (suffices-more f initial target (kept ++ back) (kept ++ rest) w c (among_more kept rest back (λ x h. k.only x (subst (λ ys. Among x ys) (sym (same_tail a b out back e)) h))) t))
minimal_step f initial target kept rest a out w c n k (y ∷ front) back b e =
    ap (λ (x : Atomic). suffices f initial target (kept ++ x ∷ (front ++ back))) (sym (same_head a y out (front ++ b ∷ back) e))
    ∙ ap (suffices f initial target) (sym (append_assoc kept (a ∷ []) (front ++ back)))
    ∙ k.minimal front back b (same_tail a y out (front ++ b ∷ back) e)

-- what is kept, with that it is kept
abbrev KeptOf : Face → Domains → Option Atomic → List Atomic → List Atomic → List Atomic → Type 0
KeptOf f initial target kept rest whole = (out : List Atomic) × (whole ≡ kept ++ out) × IsKept f initial target kept rest out

kept_step : (f : Face) (initial : Domains) (target : Option Atomic) (kept rest : List Atomic) (a : Atomic) (left right : List Atomic) (b : Bool) → IsLawful f → Covers f.scope initial → suffices f initial target (kept ++ rest) ≡ b
    → KeptOf f initial target kept rest left → KeptOf f initial target (kept ++ a ∷ []) rest right → KeptOf f initial target kept (a ∷ rest) (cond b left right)
kept_step f initial target kept rest a left right true w c e g h = (g.0, g.1, record { only = λ b m. inr (g.2.only b m); minimal = g.2.minimal })
kept_step f initial target kept rest a left right false w c e g h = (
  a ∷ h.0,
  h.1 ∙ append_assoc kept (a ∷ []) h.0,
  record {
    only = λ b m. elim m [ inl k ↦ inl k | inr k ↦ inr (h.2.only b k) ];
    minimal = minimal_step f initial target kept rest a h.0 w c e h.2;
  },
)

needed_kept : (f : Face) (initial : Domains) (target : Option Atomic) → IsLawful f → Covers f.scope initial → (kept rest : List Atomic) → KeptOf f initial target kept rest (needed f initial target kept rest)
needed_kept f initial target w c kept [] = ([], sym (append-nil kept), record { only = λ b m. m; minimal = λ front back a e. absurd (nil_split front back a e) })
needed_kept f initial target w c kept (a ∷ rest) =
    kept_step f initial target kept rest a (needed f initial target kept rest) (needed f initial target (kept ++ a ∷ []) rest) (suffices f initial target (kept ++ rest)) w c refl
    (needed_kept f initial target w c kept rest) (needed_kept f initial target w c (kept ++ a ∷ []) rest)

-- the atoms that are needed are some of all
pub needed-only : (f : Face) (initial : Domains) (target : Option Atomic) (atoms : List Atomic) → IsLawful f → Covers f.scope initial → (b : Atomic) → Among b (needed f initial target [] atoms) → Among b atoms
needed-only f initial target atoms w c b h = let r = needed_kept f initial target w c [] atoms in r.2.only b (subst (λ ys. Among b ys) r.1 h)

-- no needed atom can be left out
pub needed-minimal : (f : Face) (initial : Domains) (target : Option Atomic) (atoms : List Atomic) → IsLawful f → Covers f.scope initial → (front back : List Atomic) (a : Atomic) → needed f initial target [] atoms ≡ front ++ a ∷ back → suffices f initial target (front ++ back) ≡ false
needed-minimal f initial target atoms w c front back a e = let r = needed_kept f initial target w c [] atoms in r.2.minimal front back a (sym r.1 ∙ e)

-- an explanation says what it is for
pub explanation-explains : (f : Face) (initial now : Domains) (target : Option Atomic) (atoms : List Atomic) → IsLawful f → Covers f.scope now → is_dead now ≡ false → IsWithin now initial → IsOpen now target → suffices f now target [] ≡ true → Describes initial now f.scope atoms
    → Explains f initial now target (needed f initial target [] atoms)
explanation-explains f initial now target atoms w c l p o t s =
    let c' : Covers f.scope initial = Covers-count f.scope now initial (sym p.count) c in
    record {
      of_scope = Each-from_among (λ a. Among a.var f.scope) (needed f initial target [] atoms) (λ a h. Each-among (λ b. Among b.var f.scope) atoms s.of_scope a (needed-only f initial target atoms w c' a h));
      entailed = Each-from_among (λ a. entails now a ≡ true) (needed f initial target [] atoms) (λ a h. Each-among (λ b. entails now b ≡ true) atoms s.entailed a (needed-only f initial target atoms w c' a h));
      enough = needed-suffices f initial target [] atoms (enough-suffices f initial now target atoms w l p o t s.enough);
      minimal = needed-minimal f initial target atoms w c';
    }
