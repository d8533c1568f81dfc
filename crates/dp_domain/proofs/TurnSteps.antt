-- Steps of the search for a turn: the first value, or the last, that passes.
use Rattle.std.proofs.Common.{◌≡◌, ℕ, zero, suc, ◌+◌, ◌<◌, ◌≤◌, Bool, true, false, ◌&&◌, List, [], ◌∷◌, length, get_or, drop, ℤ, pos, ◌≤ℤ◌, ◌<ℤ◌, Option, Some, None, option_map, slice_get, is_some, refl, sym, ◌∙◌, ap, subst, inl, inr, arith}
use Rattle.std.specs.List.{filter}
use mir.Syntax.{w64}
use mir.Val.{of_z, to_z}
use Rattle.std.proofs.lemmas.Int.{ints}
use Rattle.std.proofs.lemmas.Bool.{and_parts, cases_eq, cases_lt, both_ways, false≢true, true≢false}
use Rattle.std.proofs.lemmas.List.{get_or_default, drop_more}
use Rattle.std.proofs.lemmas.Option.{slice_get_within, get_or_from_slice_get}
use Rattle.dp_base.specs.Lists.{Among}
use Rattle.dp_base.proofs.Lists.{Among-get_or, Among-filter_only, Among-filter_all, Contains-from_among, Each-get_or}
use Rattle.dp_domain.specs.Atoms.{Atomic}
use Rattle.dp_domain.specs.Sets.{IsAscending, IsDomain, IsSmall, least, greatest}
use Rattle.dp_domain.specs.States.{Domains, values}
use Rattle.dp_domain.specs.Faces.{Face}
use Rattle.dp_domain.specs.Turns.{HoldsHoles, other_than, gives, or_else, given, given_on, new_hole}
use Rattle.dp_domain.proofs.SetLaws.{least-is}
use Rattle.dp_domain.proofs.StateLaws.{nil-from_test, is_nil-none}
use Rattle.dp_domain.proofs.TurnLaws.{hole-lands}

-- of two places in an ascending list the later has the greater value
pub ascending-places : (xs : List ℤ) → IsAscending xs → (j k : ℕ) (d : ℤ) → j < k → k < length xs → get_or xs j d <ℤ get_or xs k d
ascending-places [] a j k d h l = absurd (omega arith)
ascending-places (x ∷ xs) a j zero d h l = absurd (omega arith)
ascending-places (x ∷ xs) a zero (suc k) d h l = Each-get_or (λ y. x <ℤ y) xs k d (omega arith) a.0
ascending-places (x ∷ xs) a (suc j) (suc k) d h l = ascending-places xs a.1 j k d (omega arith) (omega arith)

-- and an earlier place has no greater value
pub places_le : (xs : List ℤ) → IsAscending xs → (j k : ℕ) (d : ℤ) → j ≤ k → k < length xs → get_or xs j d ≤ℤ get_or xs k d
places_le xs a j k d h l = elim (cases_eq j k) [
  | inl e ↦ let f : get_or xs j d ≡ get_or xs k d = ap (λ (n : ℕ). get_or xs n d) e in omega (arith, ints)
  | inr n ↦ let p = ascending-places xs a j k d (omega arith) l in omega (arith, ints)
]

-- a value that passes stands at a place that passes
pub place_of : (p : ℤ → Bool) (xs : List ℤ) (v d : ℤ) → Among v (filter p xs) → (k : ℕ) × (k < length xs) × (get_or xs k d ≡ v) × (p (get_or xs k d) ≡ true)
place_of p xs v d h =
    let r = Among-filter_only p xs v h in
    let c = Contains-from_among v xs r.0 in
    let e : get_or xs c.0 d ≡ v = get_or_default xs c.0 d v c.1 ∙ c.2 in
    (c.0, c.1, e, ap p e ∙ r.1)

-- ---- what the searches of one variable return

-- a value as the code passes it
pub passed : (xs : List ℤ) (i : ℕ) → IsDomain xs → i < length xs → to_z w64 (of_z w64 (get_or xs i (pos 0))) ≡ get_or xs i (pos 0)
passed xs i d h = let s = Each-get_or IsSmall xs i (pos 0) h d.small in omega (arith, ints, s.0, s.1)

-- whether the value is a point that is taken out
abbrev pub takes : Face → Domains → ℕ → ℤ → Bool
takes f d x v = f.point x v && gives f d (other_than x v)

-- a number that is taken out is among the candidates
among_candidates : (f : Face) (d : Domains) (x : ℕ) (xs : List ℤ) (v : ℤ) → HoldsHoles f d x xs → takes f d x v ≡ true → Among v xs
among_candidates f d x xs v all t = let r = and_parts (f.point x v) (gives f d (other_than x v)) t in all v r.0 r.1

-- it stands at one of the places
place_among : (f : Face) (d : Domains) (x : ℕ) (xs : List ℤ) (v : ℤ) → HoldsHoles f d x xs → takes f d x v ≡ true → (k : ℕ) × (k < length xs) × (get_or xs k (pos 0) ≡ v) × (takes f d x (get_or xs k (pos 0)) ≡ true)
place_among f d x xs v all t = place_of (takes f d x) xs v (pos 0) (Among-filter_all (takes f d x) xs v (among_candidates f d x xs v all t) t)

hole_is : (f : Face) (d : Domains) (x i : ℕ) (xs : List ℤ) → HoldsHoles f d x xs → IsDomain xs → i < length xs → ((k : ℕ) → k < i → takes f d x (get_or xs k (pos 0)) ≡ false) → takes f d x (get_or xs i (pos 0)) ≡ true → least (filter (takes f d x) (values d x)) ≡ Some (get_or xs i (pos 0))
hole_is f d x i xs all s h n t =
    let r = and_parts (f.point x (get_or xs i (pos 0))) (gives f d (other_than x (get_or xs i (pos 0)))) t in
    least-is (filter (takes f d x) (values d x)) (get_or xs i (pos 0))
    (Among-filter_all (takes f d x) (values d x) (get_or xs i (pos 0)) (hole-lands f d x (get_or xs i (pos 0)) r.1) t)
    (λ v m.
    let k = place_among f d x xs v all (Among-filter_only (takes f d x) (values d x) v m).1 in
    elim (cases_lt k.0 i) [
      | inl l ↦ absurd (both_ways (takes f d x (get_or xs k.0 (pos 0))) (n k.0 l) k.3)
      | inr l ↦ subst (λ w. get_or xs i (pos 0) ≤ℤ w) k.2 (places_le xs s.ascending i k.0 (pos 0) l k.1)
    ])

pub hole_found : (f : Face) (d : Domains) (x i : ℕ) (xs : List ℤ) (v : ℤ) (a : Atomic) → HoldsHoles f d x xs → IsDomain xs → i < length xs → a ≡ other_than x v → v ≡ get_or xs i (pos 0) → ((k : ℕ) → k < i → takes f d x (get_or xs k (pos 0)) ≡ false) → takes f d x v ≡ true → Some a ≡ new_hole f d x
hole_found f d x i xs v a all s h g r n t =
    ap Some (g ∙ ap (other_than x) r) ∙ ap (λ o. option_map (other_than x) o) (sym (hole_is f d x i xs all s h n (subst (λ w. takes f d x w ≡ true) r t)))

pub hole_none : (f : Face) (d : Domains) (x : ℕ) (xs : List ℤ) → HoldsHoles f d x xs → ((k : ℕ) → k < length xs → takes f d x (get_or xs k (pos 0)) ≡ false) → None ≡ new_hole f d x
hole_none f d x xs all n =
    sym (ap (λ ys. option_map (other_than x) (least ys)) (nil-from_test (filter (takes f d x) (values d x)) (is_nil-none (filter (takes f d x) (values d x)) (λ v m.
    let k = place_among f d x xs v all (Among-filter_only (takes f d x) (values d x) v m).1 in
    both_ways (takes f d x (get_or xs k.0 (pos 0))) (n k.0 k.1) k.3))))

-- ---- one variable after another

given_from : (f : Face) (d : Domains) (scope : List ℕ) (i x : ℕ) → slice_get scope i ≡ Some x → given f d (drop i scope) ≡ or_else (given_on f d x) (given f d (drop (i + 1) scope))
given_from f d scope i x e =
    ap (given f d) (drop_more scope i x (slice_get_within scope i x e))
    ∙ ap (λ y. or_else (given_on f d y) (given f d (drop (i + 1) scope))) (get_or_from_slice_get scope i x x e)

first_there : {A : Type 0} (a b : Option A) → is_some a ≡ true → or_else a b ≡ a
first_there None b e = absurd (false≢true e)
first_there (Some a) b e = refl

first_absent : {A : Type 0} (a b : Option A) → is_some a ≡ false → or_else a b ≡ b
first_absent None b e = refl
first_absent (Some a) b e = absurd (true≢false e)

-- a variable that gives something gives the answer of all
pub given_found : (f : Face) (d : Domains) (scope : List ℕ) (i x : ℕ) (o : Option Atomic) → given f d (drop i scope) ≡ given f d scope → slice_get scope i ≡ Some x → o ≡ given_on f d x → is_some o ≡ true → o ≡ given f d scope
given_found f d scope i x o h e g t =
    sym (first_there o (given f d (drop (i + 1) scope)) t) ∙ ap (λ q. or_else q (given f d (drop (i + 1) scope))) g ∙ sym (given_from f d scope i x e) ∙ h

-- a variable that gives nothing leaves the answer to the others
pub given_more : (f : Face) (d : Domains) (scope : List ℕ) (i x : ℕ) (o : Option Atomic) → given f d (drop i scope) ≡ given f d scope → slice_get scope i ≡ Some x → o ≡ given_on f d x → is_some o ≡ false → given f d (drop (i + 1) scope) ≡ given f d scope
given_more f d scope i x o h e g t =
    sym (first_absent o (given f d (drop (i + 1) scope)) t) ∙ ap (λ q. or_else q (given f d (drop (i + 1) scope))) g ∙ sym (given_from f d scope i x e) ∙ h
