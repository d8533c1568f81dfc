-- Parts that clash exactly where no variable of the scope has a good value left: of the atoms of a description each is needed that takes out a good value.
use Rattle.std.proofs.Common.{◌≡◌, ℕ, ◌<◌, Bool, true, false, cond, not, ◌&&◌, ◌==◌, List, [], ◌∷◌, ◌++◌, length, map, ℤ, ◌<ℤ◌, int_le, int_lt, Option, Some, None, refl, sym, ◌∙◌, ap, subst, inl, inr, arith}
use Rattle.std.specs.List.{filter, flat_map, list_all}
use Rattle.std.proofs.lemmas.Int.{ints}
use Rattle.std.proofs.lemmas.Bool.Decides.{Decides-eqb}
use Rattle.std.proofs.lemmas.Bool.{and_parts, both_ways, cases_Bool, false_from_ne_true, not-false}
use Rattle.std.proofs.lemmas.List.{append_assoc, append-nil}
use Rattle.std.proofs.lemmas.List.Elements.{filter-append}
use Rattle.dp_base.specs.Lists.{Among, Climbs, Each}
use Rattle.dp_base.proofs.Lists.{Among-append_cases, Among-append_left, Among-append_right, Among-filter_all, Among-filter_only, Each-among, Each-append, Each-from_among, list_all-at, list_all-fails}
use Rattle.dp_domain.specs.Atoms.{Atomic, meets, negated}
use Rattle.dp_domain.specs.Explanations.{IsOpen, bound_atom, described, description, explanation, failing, has, is_hole, is_less, needed, suffices}
use Rattle.dp_domain.specs.Faces.{Covers, Face}
use Rattle.dp_domain.specs.Sets.{IsAscending, greatest, least}
use Rattle.dp_domain.specs.States.{Domains, IsWithin, cut_all, entails, is_dead, values}
use Rattle.dp_domain.specs.Turns.{at_least, at_most, other_than}
use Rattle.dp_domain.proofs.AtomLaws.{lt-from_test, meets-ne, same-from_tests, test-from_le}
use Rattle.dp_domain.proofs.BoundLaws.{alive-greatest, alive-least}
use Rattle.dp_domain.proofs.ExplanationLaws.{Among-cut_all_from, Among-flat_map, Among-flat_map_piece, Among-map_item, IsWithin-more, described-enough, described-holds}
use Rattle.dp_domain.proofs.ScopeLaws.{Covers-at}
use Rattle.dp_domain.proofs.SetLaws.{IsAscending-filter, greatest-bound, least-among}
use Rattle.dp_domain.proofs.StateLaws.{IsWithin-cut_all, IsWithin-trans, alive-within, entails-at, entails-cut_all, entails-from, entails-within}
use Rattle.dp_rule_clause.specs.Clauses.{AreDomains, failed_by, lost_by, reasons_on, where_failing}
use Rattle.dp_rule_clause.proofs.ClauseLaws.{IsClause, alive-cut}

-- ---- atoms that take out different values

-- no number fails both atoms
abbrev Apart : Atomic → Atomic → Type 0
Apart a b = a.var ≡ b.var → (v : ℤ) → meets a v ≡ false → meets b v ≡ true

-- no number fails two of the atoms on one variable
abbrev IsParted : List Atomic → Type 0
IsParted [] = Unit {0}
IsParted (a ∷ atoms) = Each (Apart a) atoms × IsParted atoms

parted_append : (xs ys : List Atomic) → IsParted xs → IsParted ys → ((a b : Atomic) → Among a xs → Among b ys → Apart a b) → IsParted (xs ++ ys)
parted_append [] ys p q h = q
parted_append (a ∷ xs) ys p q h = (
  Each-append (Apart a) xs ys p.0 (Each-from_among (Apart a) ys (λ b k. h a b (inl refl) k)),
  parted_append xs ys p.1 q (λ b c m k. h b c (inr m) k),
)

bound_parted : (atom : ℤ → Atomic) (b : Bool) (o : Option ℤ) → IsParted (bound_atom atom b o)
bound_parted atom true (Some v) = (tt, tt)
bound_parted atom true None = tt
bound_parted atom false (Some v) = tt
bound_parted atom false None = tt

bound_item : (atom : ℤ → Atomic) (b : Bool) (o : Option ℤ) (a : Atomic) → Among a (bound_atom atom b o) → (v : ℤ) × (o ≡ Some v) × (a ≡ atom v)
bound_item atom true (Some v) a (inl e) = (v, refl, e)
bound_item atom true (Some v) a (inr h) = absurd h
bound_item atom true None a h = absurd h
bound_item atom false (Some v) a h = absurd h
bound_item atom false None a h = absurd h

-- a number that fails `!=` is its number
fails_other : (x : ℕ) (h v : ℤ) → meets (other_than x h) v ≡ false → v ≡ h
fails_other x h v n = same-from_tests v h (not-false (int_le v h && int_le h v) n)

other_meets : (x : ℕ) (h g v : ℤ) → h <ℤ g → meets (other_than x h) v ≡ false → meets (other_than x g) v ≡ true
other_meets x h g v l n = (meets-ne x g v).1 (λ e. let k = fails_other x h v n in omega (arith, ints))

holes_parted : (x : ℕ) (hs : List ℤ) → IsAscending hs → IsParted (map (other_than x) hs)
holes_parted x [] s = tt
holes_parted x (h ∷ hs) s = (
  Each-from_among (Apart (other_than x h)) (map (other_than x) hs) (λ b k.
      let r = Among-map_item (other_than x) hs b k in
      subst (Apart (other_than x h)) (sym r.2) (λ e v n. other_meets x h r.0 v (Each-among (λ y. h <ℤ y) hs s.0 r.0 r.1) n)),
  holes_parted x hs s.1,
)

lower_upper : (n : List ℤ) (x : ℕ) (m u v : ℤ) → least n ≡ Some m → greatest n ≡ Some u → meets (at_least x m) v ≡ false → meets (at_most x u) v ≡ true
lower_upper n x m u v e f h =
    let k = lt-from_test m v h in
    let l = greatest-bound n u f m (least-among n m e) in
    test-from_le v u (omega (arith, ints))

less_at : (o p : Option ℤ) (m h : ℤ) → o ≡ Some m → p ≡ Some h → is_less o p ≡ true → m <ℤ h
less_at o p m h e f t =
    let k : int_lt m h ≡ true = ap (λ q. is_less q (Some h)) (sym e) ∙ ap (λ q. is_less o q) (sym f) ∙ t in
    omega (arith, ints)

hole_above : (n : List ℤ) (m h : ℤ) → least n ≡ Some m → is_hole n h ≡ true → m <ℤ h
hole_above n m h e t =
    let r = and_parts (is_less (least n) (Some h) && is_less (Some h) (greatest n)) (not (has n h)) t in
    less_at (least n) (Some h) m h e refl (and_parts (is_less (least n) (Some h)) (is_less (Some h) (greatest n)) r.0).0

hole_below : (n : List ℤ) (u h : ℤ) → greatest n ≡ Some u → is_hole n h ≡ true → h <ℤ u
hole_below n u h e t =
    let r = and_parts (is_less (least n) (Some h) && is_less (Some h) (greatest n)) (not (has n h)) t in
    less_at (Some h) (greatest n) h u refl e (and_parts (is_less (least n) (Some h)) (is_less (Some h) (greatest n)) r.0).1

lower_hole : (x : ℕ) (m h v : ℤ) → m <ℤ h → meets (at_least x m) v ≡ false → meets (other_than x h) v ≡ true
lower_hole x m h v l n = (meets-ne x h v).1 (λ e. let k = lt-from_test m v n in omega (arith, ints))

upper_hole : (x : ℕ) (u h v : ℤ) → h <ℤ u → meets (at_most x u) v ≡ false → meets (other_than x h) v ≡ true
upper_hole x u h v l n = (meets-ne x h v).1 (λ e. let k = lt-from_test v u n in omega (arith, ints))

abbrev lowers : List ℤ → List ℤ → ℕ → List Atomic
lowers i n x = bound_atom (at_least x) (is_less (least i) (least n)) (least n)

abbrev uppers : List ℤ → List ℤ → ℕ → List Atomic
uppers i n x = bound_atom (at_most x) (is_less (greatest n) (greatest i)) (greatest n)

abbrev holes : List ℤ → List ℤ → ℕ → List Atomic
holes i n x = map (other_than x) (filter (is_hole n) i)

apart_bounds : (i n : List ℤ) (x : ℕ) (a b : Atomic) → Among a (lowers i n x) → Among b (uppers i n x) → Apart a b
apart_bounds i n x a b h k =
    let r = bound_item (at_least x) (is_less (least i) (least n)) (least n) a h in
    let s = bound_item (at_most x) (is_less (greatest n) (greatest i)) (greatest n) b k in
    subst (λ c. Apart c b) (sym r.2) (subst (Apart (at_least x r.0)) (sym s.2) (λ e v m. lower_upper n x r.0 s.0 v r.1 s.1 m))

apart_lower : (i n : List ℤ) (x : ℕ) (a b : Atomic) → Among a (lowers i n x) → Among b (holes i n x) → Apart a b
apart_lower i n x a b h k =
    let r = bound_item (at_least x) (is_less (least i) (least n)) (least n) a h in
    let s = Among-map_item (other_than x) (filter (is_hole n) i) b k in
    let t = hole_above n r.0 s.0 r.1 (Among-filter_only (is_hole n) i s.0 s.1).1 in
    subst (λ c. Apart c b) (sym r.2) (subst (Apart (at_least x r.0)) (sym s.2) (λ e v m. lower_hole x r.0 s.0 v t m))

apart_upper : (i n : List ℤ) (x : ℕ) (a b : Atomic) → Among a (uppers i n x) → Among b (holes i n x) → Apart a b
apart_upper i n x a b h k =
    let r = bound_item (at_most x) (is_less (greatest n) (greatest i)) (greatest n) a h in
    let s = Among-map_item (other_than x) (filter (is_hole n) i) b k in
    let t = hole_below n r.0 s.0 r.1 (Among-filter_only (is_hole n) i s.0 s.1).1 in
    subst (λ c. Apart c b) (sym r.2) (subst (Apart (at_most x r.0)) (sym s.2) (λ e v m. upper_hole x r.0 s.0 v t m))

described_parted : (i n : List ℤ) (x : ℕ) → IsAscending i → IsParted (described i n x)
described_parted i n x s =
    parted_append (lowers i n x ++ uppers i n x) (holes i n x)
    (parted_append (lowers i n x) (uppers i n x) (bound_parted (at_least x) (is_less (least i) (least n)) (least n)) (bound_parted (at_most x) (is_less (greatest n) (greatest i)) (greatest n)) (apart_bounds i n x))
    (holes_parted x (filter (is_hole n) i) (IsAscending-filter (is_hole n) i s))
    (λ a b h k. elim (Among-append_cases a (lowers i n x) (uppers i n x) h) [
      | inl m ↦ apart_lower i n x a b m k
      | inr m ↦ apart_upper i n x a b m k
    ])

apart_vars : (x : ℕ) (xs : List ℕ) → Each (λ y. x < y) xs → (y : ℕ) → Among y xs → x ≡ y → ⊥
apart_vars x xs h y k e = let l : x < y = Each-among (λ z. x < z) xs h y k in omega arith

description_parted : (initial now : Domains) (scope : List ℕ) → Climbs scope → AreDomains initial scope → IsParted (description initial now scope)
description_parted initial now [] c s = tt
description_parted initial now (x ∷ xs) c s =
    parted_append (described (values initial x) (values now x) x) (description initial now xs)
    (described_parted (values initial x) (values now x) x s.0.ascending)
    (description_parted initial now xs c.1 s.1)
    (λ a b h k e.
    let r = Among-flat_map_piece (λ y. described (values initial y) (values now y) y) xs b k in
    let p = (described-holds (values initial x) (values now x) x a h).0 in
    let q = (described-holds (values initial r.0) (values now r.0) r.0 b r.2).0 in
    absurd (apart_vars x xs c.0 r.0 r.1 (sym p ∙ e ∙ q)))

-- ---- the values that are to be taken out

-- these are each variable's good initial values where the target fails
pub record AreLost (good : ℕ → ℤ → Bool) (initial : Domains) (target : Option Atomic) (scope : List ℕ) (lost : ℕ → List ℤ) : Type 0 where
  pub only : (x : ℕ) → Among x scope → (v : ℤ) → Among v (lost x) → Among v (values initial x) × (good x v ≡ true) × ((b : Atomic) → Among b (failing target) → x ≡ b.var → meets b v ≡ true)
  pub all : (x : ℕ) → Among x scope → (v : ℤ) → Among v (values initial x) → good x v ≡ true → ((b : Atomic) → Among b (failing target) → x ≡ b.var → meets b v ≡ true) → Among v (lost x)

-- the value meets those of the atoms that are on the variable
abbrev MeetsOn : List Atomic → ℕ → ℤ → Type 0
MeetsOn atoms x v = (a : Atomic) → Among a atoms → x ≡ a.var → meets a v ≡ true

meets_of_cut : (d : Domains) (atoms : List Atomic) (x : ℕ) (v : ℤ) → Among v (values (cut_all d atoms) x) → MeetsOn atoms x v
meets_of_cut d atoms x v m a k e =
    entails-at (cut_all d atoms) a v (entails-cut_all d atoms a k) (subst (λ y. Among v (values (cut_all d atoms) y)) e m)

-- atoms suffice where each value that is to be taken out fails one
suffices_from : (f : Face) (good : ℕ → ℤ → Bool) (initial : Domains) (target : Option Atomic) (lost : ℕ → List ℤ) (atoms : List Atomic) → IsClause f good → AreLost good initial target f.scope lost → is_dead (cut_all initial (atoms ++ failing target)) ≡ false
    → ((x : ℕ) → Among x f.scope → (v : ℤ) → Among v (lost x) → MeetsOn atoms x v → ⊥) → suffices f initial target atoms ≡ true
suffices_from f good initial target lost atoms c r l h =
    c.clash (cut_all initial (atoms ++ failing target)) l (λ x s v m.
    let k = meets_of_cut initial (atoms ++ failing target) x v m in
    false_from_ne_true (good x v) (λ g.
    h x s v
    (r.all x s v ((IsWithin-cut_all initial (atoms ++ failing target)).each x v m) g (λ b n e. k b (Among-append_right b atoms (failing target) n) e))
    (λ a n e. k a (Among-append_left a atoms (failing target) n) e)))

-- and do not where one fails none
suffices_not : (f : Face) (good : ℕ → ℤ → Bool) (initial : Domains) (target : Option Atomic) (lost : ℕ → List ℤ) (atoms : List Atomic) → IsClause f good → AreLost good initial target f.scope lost → is_dead (cut_all initial (atoms ++ failing target)) ≡ false
    → (x : ℕ) → Among x f.scope → (v : ℤ) → Among v (lost x) → MeetsOn atoms x v → suffices f initial target atoms ≡ false
suffices_not f good initial target lost atoms c r l x s v m h =
    let k = r.only x s v m in
    c.safe (cut_all initial (atoms ++ failing target)) l x s (
      v,
      Among-cut_all_from initial (atoms ++ failing target) x v k.0 (λ a n e. elim (Among-append_cases a atoms (failing target) n) [ inl q ↦ h a q e | inr q ↦ k.2 a q e ]),
      k.1,
    )

failing_alive : (d : Domains) (target : Option Atomic) → is_dead d ≡ false → IsOpen d target → is_dead (cut_all d (failing target)) ≡ false
failing_alive d None l o = l
failing_alive d (Some a) l o = alive-cut d a l o

-- atoms that hold at the state leave each variable a value where the target fails
alive_by : (initial now : Domains) (target : Option Atomic) (atoms : List Atomic) → is_dead now ≡ false → IsWithin now initial → IsOpen now target → ((a : Atomic) → Among a atoms → entails now a ≡ true) → is_dead (cut_all initial (atoms ++ failing target)) ≡ false
alive_by initial now target atoms l p o h =
    let e = cut_all now (failing target) in
    alive-within (cut_all initial (atoms ++ failing target)) (cut_all now (failing target))
    (IsWithin-more initial (cut_all now (failing target)) (atoms ++ failing target) (IsWithin-trans initial now (cut_all now (failing target)) (IsWithin-cut_all now (failing target)) p)
    (λ a k. elim (Among-append_cases a atoms (failing target) k) [
      | inl m ↦ entails-within now (cut_all now (failing target)) a (IsWithin-cut_all now (failing target)) (h a m)
      | inr m ↦ entails-cut_all now (failing target) a m
    ]))
    (failing_alive now target l o)

-- ---- dropping atoms

-- whether one of the values that are to be taken out fails the atom
abbrev pub is_used : (ℕ → List ℤ) → Atomic → Bool
is_used lost a = not (list_all (meets a) (lost a.var))

-- the drop loop on its way: the atoms hold at the state, each value that is to be taken out fails one, and none fails two
record IsAt (f : Face) (now : Domains) (lost : ℕ → List ℤ) (kept rest : List Atomic) : Type 0 where
  pub entailed : (a : Atomic) → Among a (kept ++ rest) → entails now a ≡ true
  pub of_scope : (a : Atomic) → Among a rest → Among a.var f.scope
  pub covered : (x : ℕ) → Among x f.scope → (v : ℤ) → Among v (lost x) → MeetsOn (kept ++ rest) x v → ⊥
  pub before : (a b : Atomic) → Among a kept → Among b rest → Apart a b
  pub parted : IsParted rest

without : (kept rest : List Atomic) (a b : Atomic) → Among b (kept ++ rest) → Among b (kept ++ a ∷ rest)
without kept rest a b h = elim (Among-append_cases b kept rest h) [
  | inl k ↦ Among-append_left b kept (a ∷ rest) k
  | inr k ↦ Among-append_right b kept (a ∷ rest) (inr k)
]

one_more : (kept rest : List Atomic) (a b : Atomic) → Among b (kept ++ a ∷ rest) → (b ≡ a → ⊥) → Among b (kept ++ rest)
one_more kept rest a b h n = elim (Among-append_cases b kept (a ∷ rest) h) [
  | inl k ↦ Among-append_left b kept rest k
  | inr k ↦ elim k [ inl e ↦ absurd (n e) | inr m ↦ Among-append_right b kept rest m ]
]

-- an atom that no value fails changes nothing
meets_idle : (kept rest : List Atomic) (a : Atomic) (x : ℕ) (v : ℤ) → (x ≡ a.var → meets a v ≡ true) → MeetsOn (kept ++ rest) x v → MeetsOn (kept ++ a ∷ rest) x v
meets_idle kept rest a x v h m b k e = elim (Among-append_cases b kept (a ∷ rest) k) [
  | inl q ↦ m b (Among-append_left b kept rest q) e
  | inr q ↦ elim q [
    | inl g ↦ subst (λ c. meets c v ≡ true) (sym g) (h (subst (λ (c : Atomic). x ≡ c.var) g e))
    | inr n ↦ m b (Among-append_right b kept rest n) e
  ]
]

idle_covered : (f : Face) (now : Domains) (lost : ℕ → List ℤ) (kept rest : List Atomic) (a : Atomic) → IsAt f now lost kept (a ∷ rest) → list_all (meets a) (lost a.var) ≡ true
    → (x : ℕ) → Among x f.scope → (v : ℤ) → Among v (lost x) → MeetsOn (kept ++ rest) x v → ⊥
idle_covered f now lost kept rest a t e x s v h m =
    t.covered x s v h (meets_idle kept rest a x v (λ q. list_all-at (meets a) (lost a.var) v e (subst (λ y. Among v (lost y)) q h)) m)

at_idle : (f : Face) (now : Domains) (lost : ℕ → List ℤ) (kept rest : List Atomic) (a : Atomic) → IsAt f now lost kept (a ∷ rest) → list_all (meets a) (lost a.var) ≡ true → IsAt f now lost kept rest
at_idle f now lost kept rest a t e = record {
  entailed = λ b k. t.entailed b (without kept rest a b k);
  of_scope = λ b k. t.of_scope b (inr k);
  covered = idle_covered f now lost kept rest a t e;
  before = λ b c h k. t.before b c h (inr k);
  parted = t.parted.1;
}

before_more : (f : Face) (now : Domains) (lost : ℕ → List ℤ) (kept rest : List Atomic) (a b c : Atomic) → IsAt f now lost kept (a ∷ rest) → Among b (kept ++ a ∷ []) → Among c rest → Apart b c
before_more f now lost kept rest a b c t h k = elim (Among-append_cases b kept (a ∷ []) h) [
  | inl m ↦ t.before b c m (inr k)
  | inr m ↦ elim m [ inl e ↦ subst (λ d. Apart d c) (sym e) (Each-among (Apart a) rest t.parted.0 c k) | inr n ↦ absurd n ]
]

at_used : (f : Face) (now : Domains) (lost : ℕ → List ℤ) (kept rest : List Atomic) (a : Atomic) → IsAt f now lost kept (a ∷ rest) → IsAt f now lost (kept ++ a ∷ []) rest
at_used f now lost kept rest a t =
    let e : (kept ++ a ∷ []) ++ rest ≡ kept ++ a ∷ rest = append_assoc kept (a ∷ []) rest in
    record {
      entailed = λ b k. t.entailed b (subst (λ xs. Among b xs) e k);
      of_scope = λ b k. t.of_scope b (inr k);
      covered = λ x s v h m. t.covered x s v h (subst (λ xs. MeetsOn xs x v) e m);
      before = λ b c h k. before_more f now lost kept rest a b c t h k;
      parted = t.parted.1;
    }

-- the value that fails the atom meets the others
others_met : (f : Face) (now : Domains) (lost : ℕ → List ℤ) (kept rest : List Atomic) (a : Atomic) (v : ℤ) → IsAt f now lost kept (a ∷ rest) → meets a v ≡ false → MeetsOn (kept ++ rest) a.var v
others_met f now lost kept rest a v t n b k e = elim (Among-append_cases b kept rest k) [
  | inl m ↦ elim (cases_Bool (meets b v)) [
    | inl y ↦ y
    | inr y ↦ absurd (both_ways (meets a v) n (t.before b a m (inl refl) (sym e) v y))
  ]
  | inr m ↦ Each-among (Apart a) rest t.parted.0 b m e v n
]

-- of the atoms that are left, those are kept that take out a value
needed_used : (f : Face) (good : ℕ → ℤ → Bool) (initial now : Domains) (target : Option Atomic) (lost : ℕ → List ℤ) → IsClause f good → AreLost good initial target f.scope lost → is_dead now ≡ false → IsWithin now initial → IsOpen now target
    → (kept rest : List Atomic) → IsAt f now lost kept rest → needed f initial target kept rest ≡ kept ++ filter (is_used lost) rest
needed_used f good initial now target lost c r l p o kept [] t = sym (append-nil kept)
needed_used f good initial now target lost c r l p o kept (a ∷ rest) t =
    let alive : is_dead (cut_all initial ((kept ++ rest) ++ failing target)) ≡ false = alive_by initial now target (kept ++ rest) l p o (λ b k. t.entailed b (without kept rest a b k)) in
    elim (cases_Bool (list_all (meets a) (lost a.var))) [
      | inl e ↦
          ap (λ b. cond b (needed f initial target kept rest) (needed f initial target (kept ++ a ∷ []) rest)) (suffices_from f good initial target lost (kept ++ rest) c r alive (idle_covered f now lost kept rest a t e))
          ∙ needed_used f good initial now target lost c r l p o kept rest (at_idle f now lost kept rest a t e)
          ∙ ap (λ b. kept ++ cond (not b) (a ∷ filter (is_used lost) rest) (filter (is_used lost) rest)) (sym e)
      | inr e ↦
          let w = list_all-fails (meets a) (lost a.var) e in
          ap (λ b. cond b (needed f initial target kept rest) (needed f initial target (kept ++ a ∷ []) rest)) (suffices_not f good initial target lost (kept ++ rest) c r alive a.var (t.of_scope a (inl refl)) w.0 w.1 (others_met f now lost kept rest a w.0 t w.2))
          ∙ needed_used f good initial now target lost c r l p o (kept ++ a ∷ []) rest (at_used f now lost kept rest a t)
          ∙ append_assoc kept (a ∷ []) (filter (is_used lost) rest)
          ∙ ap (λ b. kept ++ cond (not b) (a ∷ filter (is_used lost) rest) (filter (is_used lost) rest)) (sym e)
    ]

-- ---- the whole description

now_value : (initial now : Domains) (scope : List ℕ) (x : ℕ) (v : ℤ) → Covers scope now → is_dead now ≡ false → IsWithin now initial → Among x scope → Among v (values initial x) → MeetsOn (description initial now scope) x v → Among v (values now x)
now_value initial now scope x v c l p h m k =
    let i : x < length now = Covers-at scope now x c h in
    let j : x < length initial = subst (λ n. x < n) p.count i in
    let l' : is_dead initial ≡ false = alive-within initial now p l in
    let a = alive-least initial x l' j in
    let b = alive-least now x l i in
    let s = alive-greatest initial x l' j in
    let t = alive-greatest now x l i in
    described-enough (values initial x) (values now x) x v a.0 b.0 s.0 t.0 a.1 b.1 s.1 t.1 m (λ q n.
    k q (Among-flat_map (λ y. described (values initial y) (values now y) y) scope x q h n) (sym (described-holds (values initial x) (values now x) x q n).0))

at_start : (f : Face) (good : ℕ → ℤ → Bool) (initial now : Domains) (target : Option Atomic) (lost : ℕ → List ℤ) → IsClause f good → AreLost good initial target f.scope lost → Climbs f.scope → AreDomains initial f.scope → Covers f.scope now → is_dead now ≡ false → IsWithin now initial → IsOpen now target → suffices f now target [] ≡ true
    → IsAt f now lost [] (description initial now f.scope)
at_start f good initial now target lost c r up s cov l p o t = record {
  entailed = λ a k. entails-from now a (λ w m.
      let q = Among-flat_map_piece (λ y. described (values initial y) (values now y) y) f.scope a k in
      let d = described-holds (values initial q.0) (values now q.0) q.0 a q.2 in
      d.1 w (subst (λ y. Among w (values now y)) d.0 m));
  of_scope = λ a k.
      let q = Among-flat_map_piece (λ y. described (values initial y) (values now y) y) f.scope a k in
      let d = described-holds (values initial q.0) (values now q.0) q.0 a q.2 in
      subst (λ y. Among y f.scope) (sym d.0) q.1;
  covered = λ x h v m k.
      let q = r.only x h v m in
      both_ways (f.test (cut_all now (failing target)))
      (c.safe (cut_all now (failing target)) (failing_alive now target l o) x h (
        v,
        Among-cut_all_from now (failing target) x v (now_value initial now f.scope x v cov l p h q.0 k) q.2,
        q.1,
      ))
      t;
  before = λ a b h k. absurd h;
  parted = description_parted initial now f.scope up s;
}

-- the explanation is what takes out a value of the description
pub explanation-used : (f : Face) (good : ℕ → ℤ → Bool) (initial now : Domains) (target : Option Atomic) (lost : ℕ → List ℤ) → IsClause f good → AreLost good initial target f.scope lost → Climbs f.scope → AreDomains initial f.scope → Covers f.scope now → is_dead now ≡ false → IsWithin now initial → IsOpen now target → suffices f now target [] ≡ true
    → explanation f initial now target ≡ filter (is_used lost) (description initial now f.scope)
explanation-used f good initial now target lost c r up s cov l p o t =
    needed_used f good initial now target lost c r l p o [] (description initial now f.scope) (at_start f good initial now target lost c r up s cov l p o t)

-- ---- variable by variable

filter_same : (p q : Atomic → Bool) (xs : List Atomic) → ((a : Atomic) → Among a xs → p a ≡ q a) → filter p xs ≡ filter q xs
filter_same p q [] h = refl
filter_same p q (x ∷ xs) h = ap (λ b. cond b (x ∷ filter p xs) (filter p xs)) (h x (inl refl)) ∙ ap (λ ys. cond (q x) (x ∷ ys) ys) (filter_same p q xs (λ a k. h a (inr k)))

used_on : (initial now : Domains) (lost : ℕ → List ℤ) (x : ℕ) → filter (is_used lost) (described (values initial x) (values now x) x) ≡ failed_by (lost x) (described (values initial x) (values now x) x)
used_on initial now lost x =
    filter_same (is_used lost) (λ a. not (list_all (meets a) (lost x))) (described (values initial x) (values now x) x)
    (λ a h. ap (λ (y : ℕ). not (list_all (meets a) (lost y))) (described-holds (values initial x) (values now x) x a h).0)

used_of : (initial now : Domains) (lost : ℕ → List ℤ) (scope : List ℕ) → filter (is_used lost) (description initial now scope) ≡ flat_map (λ x. failed_by (lost x) (described (values initial x) (values now x) x)) scope
used_of initial now lost [] = refl
used_of initial now lost (x ∷ xs) =
    filter-append (is_used lost) (described (values initial x) (values now x) x) (description initial now xs)
    ∙ ap (λ ys. ys ++ filter (is_used lost) (description initial now xs)) (used_on initial now lost x)
    ∙ ap (λ ys. failed_by (lost x) (described (values initial x) (values now x) x) ++ ys) (used_of initial now lost xs)

failing_only : (target : Option Atomic) (x : ℕ) (vs : List ℤ) (v : ℤ) → Among v (where_failing target x vs) → Among v vs × ((b : Atomic) → Among b (failing target) → x ≡ b.var → meets b v ≡ true)
failing_only None x vs v h = (h, λ b k. absurd k)
failing_only (Some a) x vs v h = failing_only_at a x vs v (a.var == x) refl h
  where
    failing_only_at : (a : Atomic) (x : ℕ) (vs : List ℤ) (v : ℤ) (t : Bool) → (a.var == x) ≡ t → Among v (cond t (filter (meets (negated a)) vs) vs) → Among v vs × ((b : Atomic) → Among b (failing (Some a)) → x ≡ b.var → meets b v ≡ true)
    failing_only_at a x vs v true e h =
        let r = Among-filter_only (meets (negated a)) vs v h in
        (r.0, λ b k q. elim k [ inl g ↦ subst (λ c. meets c v ≡ true) (sym g) r.1 | inr n ↦ absurd n ])
    failing_only_at a x vs v false e h =
        (h, λ b k q. elim k [ inl g ↦ absurd (both_ways (a.var == x) e ((Decides-eqb a.var x).1 (sym (q ∙ ap (λ (c : Atomic). c.var) g)))) | inr n ↦ absurd n ])

failing_all : (target : Option Atomic) (x : ℕ) (vs : List ℤ) (v : ℤ) → Among v vs → ((b : Atomic) → Among b (failing target) → x ≡ b.var → meets b v ≡ true) → Among v (where_failing target x vs)
failing_all None x vs v h k = h
failing_all (Some a) x vs v h k = failing_all_at a x vs v (a.var == x) refl h k
  where
    failing_all_at : (a : Atomic) (x : ℕ) (vs : List ℤ) (v : ℤ) (t : Bool) → (a.var == x) ≡ t → Among v vs → ((b : Atomic) → Among b (failing (Some a)) → x ≡ b.var → meets b v ≡ true) → Among v (cond t (filter (meets (negated a)) vs) vs)
    failing_all_at a x vs v true e h k = Among-filter_all (meets (negated a)) vs v h (k (negated a) (inl refl) (sym ((Decides-eqb a.var x).0 e)))
    failing_all_at a x vs v false e h k = h

lost_of : (good : ℕ → ℤ → Bool) (initial : Domains) (target : Option Atomic) (scope : List ℕ) → AreLost good initial target scope (lost_by good target initial)
lost_of good initial target scope = record {
  only = λ x s v h.
      let r = Among-filter_only (good x) (where_failing target x (values initial x)) v h in
      let k = failing_only target x (values initial x) v r.0 in
      (k.0, r.1, k.1);
  all = λ x s v h g k. Among-filter_all (good x) (where_failing target x (values initial x)) v (failing_all target x (values initial x) v h k) g;
}

-- the explanation, variable by variable
pub explanation-reasons : (f : Face) (good : ℕ → ℤ → Bool) (initial now : Domains) (target : Option Atomic) → IsClause f good → Climbs f.scope → AreDomains initial f.scope → Covers f.scope now → is_dead now ≡ false → IsWithin now initial → IsOpen now target → suffices f now target [] ≡ true
    → explanation f initial now target ≡ flat_map (reasons_on good target initial now) f.scope
explanation-reasons f good initial now target c up s cov l p o t =
    explanation-used f good initial now target (lost_by good target initial) c (lost_of good initial target f.scope) up s cov l p o t
    ∙ used_of initial now (lost_by good target initial) f.scope
