-- Laws of supported values: the bounds and the hole that a part gives on a variable are read off them.
use Rattle.std.proofs.Common.{◌≡◌, ℕ, ◌<◌, Bool, true, false, not, cond, ◌&&◌, List, [], ◌∷◌, length, ℤ, ◌≤ℤ◌, ◌<ℤ◌, int_le, Option, Some, None, option_map, set, refl, sym, ◌∙◌, ap, subst, inl, inr, arith}
use Rattle.std.specs.Prelude.{int_lt}
use Rattle.std.specs.List.{filter}
use Rattle.std.proofs.lemmas.Int.{ints}
use Rattle.std.proofs.lemmas.Bool.{both_ways, cases_Bool, false_from_ne_true, not_from_false, not_from_true, and_parts}
use Rattle.std.proofs.lemmas.List.{set-get_or}
use Rattle.dp_base.specs.Lists.{Among}
use Rattle.dp_base.proofs.Lists.{Among-filter_all, Among-filter_only, filter-whole, list_all-from}
use Rattle.dp_domain.specs.Atoms.{Atomic, meets, negated}
use Rattle.dp_domain.specs.Sets.{least, greatest, is_among}
use Rattle.dp_domain.specs.States.{Domains, is_dead, values}
use Rattle.dp_domain.specs.Faces.{Face}
use Rattle.dp_domain.specs.Explanations.{is_less}
use Rattle.dp_domain.specs.Supports.{IsSupport, lower_by, upper_by, bound_by, hole_by}
use Rattle.dp_domain.specs.Turns.{at_least, at_most, other_than, gives, or_else, given_on, new_lower, new_upper, new_hole}
use Rattle.dp_domain.proofs.AtomLaws.{le-from_test, lt-from_test, test-from_le, test-from_lt, tests-from_same, meets-from_not, not-from_meets, meets-ne}
use Rattle.dp_domain.proofs.BoundLaws.{alive-greatest, alive-least}
use Rattle.dp_domain.proofs.SetLaws.{greatest-among, greatest-bound, greatest-is, least-among, least-bound, least-is}
use Rattle.dp_domain.proofs.ShareLaws.{is_among-at, is_among-some}
use Rattle.dp_domain.proofs.StateLaws.{alive-value, entails-fails, entails-not, is_nil-none, nil-from_test}
use Rattle.dp_domain.proofs.TurnLaws.{filter-same, gives-from, gives-parts}

-- ---- what follows from the supported values

-- each supported value meets an atom that is given
pub support-meets : (f : Face) (d : Domains) (a : Atomic) (good : List ℤ) → IsSupport f d a.var good → gives f d a ≡ true → (w : ℤ) → Among w good → meets a w ≡ true
support-meets f d a good s g w h =
    let r = gives-parts f d a g in
    let u = entails-fails d a r.0 in
    elim (cases_Bool (meets a w)) [
      | inl e ↦ e
      | inr e ↦ absurd ((s.clash (meets (negated a)) u.0 u.1 (meets-from_not a u.0 u.2)).0 r.1 w (s.within w h) (meets-from_not a w e) h)
    ]

-- an atom that a value fails, and that each supported value meets, is given
pub support-gives : (f : Face) (d : Domains) (a : Atomic) (good : List ℤ) → IsSupport f d a.var good → (u : ℤ) → Among u (values d a.var) → meets a u ≡ false → ((w : ℤ) → Among w good → meets a w ≡ true) → gives f d a ≡ true
support-gives f d a good s u h e m =
    gives-from f d a (entails-not d a u h e)
    ((s.clash (meets (negated a)) u h (meets-from_not a u e)).1 (λ w k t g. both_ways (meets a w) (not-from_meets a w t) (m w g)))

-- where the part doesn't clash, a value is supported
support_some : (f : Face) (d : Domains) (x : ℕ) (good : List ℤ) → x < length d → is_dead d ≡ false → f.test d ≡ false → IsSupport f d x good → (m : ℤ) × (least good ≡ Some m) × (n : ℤ) × (greatest good ≡ Some n)
support_some f d x [] h l n s =
    let m = alive-value d x l h in
    let keep = λ (v : ℤ). true in
    let same : set d x (filter keep (values d x)) ≡ d = ap (λ ys. set d x ys) (filter-whole keep (values d x) (list_all-from keep (values d x) (λ v k. refl))) ∙ set-get_or d x [] in
    absurd (both_ways (f.test d) n (sym (ap f.test same) ∙ (s.clash keep m.0 m.1 refl).1 (λ w k t none. none)))
support_some f d x (g ∷ good) h l n s = (_, refl, _, refl)

nothing : (p : ℤ → Bool) (xs : List ℤ) → ((v : ℤ) → Among v xs → p v ≡ true → ⊥) → filter p xs ≡ []
nothing p xs h = nil-from_test (filter p xs) (is_nil-none (filter p xs) (λ v k. let r = Among-filter_only p xs v k in h v r.0 r.1))

lt_of : (x y : ℤ) → int_lt x y ≡ true → x <ℤ y
lt_of x y e = omega (arith, ints)

ge_of : (x y : ℤ) → int_lt x y ≡ false → y ≤ℤ x
ge_of x y e = omega (arith, ints)

-- ---- the lower bound

lower_found : (f : Face) (d : Domains) (x : ℕ) (good : List ℤ) (m g : ℤ) → IsSupport f d x good → least (values d x) ≡ Some m → least good ≡ Some g → m <ℤ g → greatest (filter (λ v. gives f d (at_least x v)) (values d x)) ≡ Some g
lower_found f d x good m g s em eg h =
    greatest-is (filter (λ v. gives f d (at_least x v)) (values d x)) g
    (Among-filter_all (λ v. gives f d (at_least x v)) (values d x) g (s.within g (least-among good g eg))
    (support-gives f d (at_least x g) good s m (least-among (values d x) m em) (test-from_lt g m h) (λ w k. test-from_le g w (least-bound good g eg w k))))
    (λ v k. let r = Among-filter_only (λ v. gives f d (at_least x v)) (values d x) v k in le-from_test v g (support-meets f d (at_least x v) good s r.1 g (least-among good g eg)))

lower_none : (f : Face) (d : Domains) (x : ℕ) (good : List ℤ) (m g : ℤ) → IsSupport f d x good → least (values d x) ≡ Some m → least good ≡ Some g → g ≤ℤ m → filter (λ v. gives f d (at_least x v)) (values d x) ≡ []
lower_none f d x good m g s em eg h = nothing (λ v. gives f d (at_least x v)) (values d x) (λ v k t.
    let u = entails-fails d (at_least x v) (gives-parts f d (at_least x v) t).0 in
    let a = le-from_test v g (support-meets f d (at_least x v) good s t g (least-among good g eg)) in
    let b = lt-from_test v u.0 u.2 in
    let c = least-bound (values d x) m em u.0 u.1 in
    absurd (omega (arith, ints)))

lower_is : (f : Face) (d : Domains) (x : ℕ) (good : List ℤ) (m g : ℤ) (b : Bool) → IsSupport f d x good → least (values d x) ≡ Some m → least good ≡ Some g → int_lt m g ≡ b → new_lower f d x ≡ cond b (option_map (at_least x) (least good)) None
lower_is f d x good m g true s em eg e = ap (option_map (at_least x)) (lower_found f d x good m g s em eg (lt_of m g e) ∙ sym eg)
lower_is f d x good m g false s em eg e = ap (λ ys. option_map (at_least x) (greatest ys)) (lower_none f d x good m g s em eg (ge_of m g e))

less_is : (o q : Option ℤ) (m g : ℤ) → o ≡ Some m → q ≡ Some g → int_lt m g ≡ is_less o q
less_is o q m g e f = sym (ap (λ (k : Option ℤ). is_less k q) e ∙ ap (is_less (Some m)) f)

-- the new lower bound is the least supported value, where it is above the least value
pub support-lower : (f : Face) (d : Domains) (x : ℕ) (good : List ℤ) → x < length d → is_dead d ≡ false → f.test d ≡ false → IsSupport f d x good → new_lower f d x ≡ lower_by (values d x) good x
support-lower f d x good h l n s =
    let m = alive-least d x l h in
    let g = support_some f d x good h l n s in
    lower_is f d x good m.0 g.0 (is_less (least (values d x)) (least good)) s m.1 g.1 (less_is (least (values d x)) (least good) m.0 g.0 m.1 g.1)

-- ---- the upper bound

upper_found : (f : Face) (d : Domains) (x : ℕ) (good : List ℤ) (m g : ℤ) → IsSupport f d x good → greatest (values d x) ≡ Some m → greatest good ≡ Some g → g <ℤ m → least (filter (λ v. gives f d (at_most x v)) (values d x)) ≡ Some g
upper_found f d x good m g s em eg h =
    least-is (filter (λ v. gives f d (at_most x v)) (values d x)) g
    (Among-filter_all (λ v. gives f d (at_most x v)) (values d x) g (s.within g (greatest-among good g eg))
    (support-gives f d (at_most x g) good s m (greatest-among (values d x) m em) (test-from_lt m g h) (λ w k. test-from_le w g (greatest-bound good g eg w k))))
    (λ v k. let r = Among-filter_only (λ v. gives f d (at_most x v)) (values d x) v k in le-from_test g v (support-meets f d (at_most x v) good s r.1 g (greatest-among good g eg)))

upper_none : (f : Face) (d : Domains) (x : ℕ) (good : List ℤ) (m g : ℤ) → IsSupport f d x good → greatest (values d x) ≡ Some m → greatest good ≡ Some g → m ≤ℤ g → filter (λ v. gives f d (at_most x v)) (values d x) ≡ []
upper_none f d x good m g s em eg h = nothing (λ v. gives f d (at_most x v)) (values d x) (λ v k t.
    let u = entails-fails d (at_most x v) (gives-parts f d (at_most x v) t).0 in
    let a = le-from_test g v (support-meets f d (at_most x v) good s t g (greatest-among good g eg)) in
    let b = lt-from_test u.0 v u.2 in
    let c = greatest-bound (values d x) m em u.0 u.1 in
    absurd (omega (arith, ints)))

upper_is : (f : Face) (d : Domains) (x : ℕ) (good : List ℤ) (m g : ℤ) (b : Bool) → IsSupport f d x good → greatest (values d x) ≡ Some m → greatest good ≡ Some g → int_lt g m ≡ b → new_upper f d x ≡ cond b (option_map (at_most x) (greatest good)) None
upper_is f d x good m g true s em eg e = ap (option_map (at_most x)) (upper_found f d x good m g s em eg (lt_of g m e) ∙ sym eg)
upper_is f d x good m g false s em eg e = ap (λ ys. option_map (at_most x) (least ys)) (upper_none f d x good m g s em eg (ge_of g m e))

-- the new upper bound is the greatest supported value, where it is below the greatest value
pub support-upper : (f : Face) (d : Domains) (x : ℕ) (good : List ℤ) → x < length d → is_dead d ≡ false → f.test d ≡ false → IsSupport f d x good → new_upper f d x ≡ upper_by (values d x) good x
support-upper f d x good h l n s =
    let m = alive-greatest d x l h in
    let g = support_some f d x good h l n s in
    upper_is f d x good m.0 g.2 (is_less (greatest good) (greatest (values d x))) s m.1 g.3 (less_is (greatest good) (greatest (values d x)) g.2 m.0 g.3 m.1)

-- ---- the hole

-- a value is taken out exactly where it is not supported
hole_given : (f : Face) (d : Domains) (x : ℕ) (good : List ℤ) → IsSupport f d x good → (v : ℤ) → Among v (values d x) → gives f d (other_than x v) ≡ not (is_among v good)
hole_given f d x good s v h = elim (cases_Bool (is_among v good)) [
  | inl e ↦
      false_from_ne_true (gives f d (other_than x v)) (λ t. (meets-ne x v v).0 (support-meets f d (other_than x v) good s t v (is_among-some v good e)) refl)
      ∙ sym (not_from_true (is_among v good) e)
  | inr e ↦
      support-gives f d (other_than x v) good s v h (not_from_true (int_le v v && int_le v v) (tests-from_same v v refl))
      (λ w k. (meets-ne x v w).1 (λ q. both_ways (is_among v good) e (is_among-at v good (subst (λ u. Among u good) q k))))
      ∙ sym (not_from_false (is_among v good) e)
]

-- the new hole is the least point that is not supported
pub support-hole : (f : Face) (d : Domains) (x : ℕ) (good : List ℤ) → IsSupport f d x good → new_hole f d x ≡ option_map (other_than x) (least (filter (λ v. f.point x v && not (is_among v good)) (values d x)))
support-hole f d x good s =
    ap (λ ys. option_map (other_than x) (least ys))
    (filter-same (λ v. f.point x v && gives f d (other_than x v)) (λ v. f.point x v && not (is_among v good)) (values d x) (λ v h. ap (λ (b : Bool). f.point x v && b) (hole_given f d x good s v h)))

-- the three parts of what a part gives on one variable
pub support-parts : (f : Face) (d : Domains) (x : ℕ) (good : List ℤ) → x < length d → is_dead d ≡ false → f.test d ≡ false → IsSupport f d x good → (new_lower f d x ≡ lower_by (values d x) good x) × (new_upper f d x ≡ upper_by (values d x) good x) × (new_hole f d x ≡ option_map (other_than x) (least (filter (λ v. f.point x v && not (is_among v good)) (values d x))))
support-parts f d x good h l n s = (support-lower f d x good h l n s, support-upper f d x good h l n s, support-hole f d x good s)

-- ---- all three

else_none : {A : Type 0} (o : Option A) → or_else o None ≡ o
else_none None = refl
else_none (Some a) = refl

else_assoc : {A : Type 0} (o p q : Option A) → or_else o (or_else p q) ≡ or_else (or_else o p) q
else_assoc None p q = refl
else_assoc (Some a) p q = refl

three : (l u h l' u' h' : Option Atomic) → l ≡ l' → u ≡ u' → h ≡ h' → or_else l (or_else u h) ≡ or_else (or_else l' u') h'
three l u h l' u' h' e f g = ap (λ o. or_else o (or_else u h)) e ∙ ap (λ o. or_else l' (or_else o h)) f ∙ ap (λ o. or_else l' (or_else u' o)) g ∙ else_assoc l' u' h'

point_apart : (b c : Bool) → b ≡ false → (b && c) ≡ true → ⊥
point_apart b c e t = both_ways b e (and_parts b c t).0

-- a part with no point on the variable gives the bound of its supported values
pub support-bound : (f : Face) (d : Domains) (x : ℕ) (good : List ℤ) → x < length d → is_dead d ≡ false → f.test d ≡ false → IsSupport f d x good → ((v : ℤ) → f.point x v ≡ false) → given_on f d x ≡ bound_by (values d x) good x
support-bound f d x good h l n s p =
    let p' = λ (v : ℤ). f.point x v && gives f d (other_than x v) in
    let hole : new_hole f d x ≡ None = ap (λ ys. option_map (other_than x) (least ys)) (nothing p' (values d x) (λ v k t. point_apart (f.point x v) (gives f d (other_than x v)) (p v) t)) in
    three (new_lower f d x) (new_upper f d x) (new_hole f d x) (lower_by (values d x) good x) (upper_by (values d x) good x) None (support-lower f d x good h l n s) (support-upper f d x good h l n s) hole
    ∙ else_none (bound_by (values d x) good x)

-- a part of whose variable each value is a point gives the bound of its supported values, else the least value that is not supported
pub support-all : (f : Face) (d : Domains) (x : ℕ) (good : List ℤ) → x < length d → is_dead d ≡ false → f.test d ≡ false → IsSupport f d x good → ((v : ℤ) → Among v (values d x) → f.point x v ≡ true) → given_on f d x ≡ or_else (bound_by (values d x) good x) (hole_by (values d x) good x)
support-all f d x good h l n s p =
    three (new_lower f d x) (new_upper f d x) (new_hole f d x) (lower_by (values d x) good x) (upper_by (values d x) good x) (hole_by (values d x) good x)
    (support-lower f d x good h l n s) (support-upper f d x good h l n s)
    (support-hole f d x good s ∙ ap (λ ys. option_map (other_than x) (least ys))
    (filter-same (λ v. f.point x v && not (is_among v good)) (λ v. not (is_among v good)) (values d x) (λ v k. ap (λ (b : Bool). b && not (is_among v good)) (p v k))))

not_less : (o : Option ℤ) → is_less o o ≡ false
not_less None = refl
not_less (Some v) = elim (cases_Bool (int_lt v v)) [ inl e ↦ absurd (let l = lt_of v v e in omega (arith, ints)) | inr e ↦ e ]

no_bound : (xs : List ℤ) (x : ℕ) → bound_by xs xs x ≡ None
no_bound xs x =
    ap (λ (b : Bool). or_else (cond b (option_map (at_least x) (least xs)) None) (upper_by xs xs x)) (not_less (least xs))
    ∙ ap (λ (b : Bool). cond b (option_map (at_most x) (greatest xs)) None) (not_less (greatest xs))

-- a part gives nothing on a variable of which each value is supported
pub support-none : (f : Face) (d : Domains) (x : ℕ) (good : List ℤ) → x < length d → is_dead d ≡ false → f.test d ≡ false → IsSupport f d x good → good ≡ values d x → given_on f d x ≡ None
support-none f d x good h l n s e =
    let p = λ (v : ℤ). f.point x v && not (is_among v good) in
    let hole = ap (λ ys. option_map (other_than x) (least ys)) (nothing p (values d x) (λ v k t.
    both_ways (not (is_among v good)) (not_from_true (is_among v good) (is_among-at v good (subst (λ ys. Among v ys) (sym e) k))) (and_parts (f.point x v) (not (is_among v good)) t).1))
    in
    three (new_lower f d x) (new_upper f d x) (new_hole f d x) (lower_by (values d x) good x) (upper_by (values d x) good x) None (support-lower f d x good h l n s) (support-upper f d x good h l n s) (support-hole f d x good s ∙ hole)
    ∙ else_none (bound_by (values d x) good x) ∙ ap (λ ys. bound_by (values d x) ys x) e ∙ no_bound (values d x) x
