-- States that keep some of the initial values, in their order: their descriptions hold and are enough, whatever the initial values are.
use Rattle.std.proofs.Common.{◌≡◌, ℕ, ◌<◌, Bool, true, false, cond, ◌&&◌, List, [], ◌∷◌, length, ℤ, refl, sym, ◌∙◌, ap, subst, inl, inr}
use Rattle.std.specs.List.{filter}
use Rattle.std.proofs.lemmas.Bool.{cases_eq, cases_lt}
use Rattle.dp_base.specs.Lists.{Among}
use Rattle.dp_base.proofs.Lists.{Among-filter_all, Among-filter_only, Each-from_among, filter-whole, list_all-from}
use Rattle.dp_domain.specs.Atoms.{Atomic, meets}
use Rattle.dp_domain.specs.Explanations.{Describes, described, description}
use Rattle.dp_domain.specs.Faces.{Covers}
use Rattle.dp_domain.specs.States.{Domains, IsWithin, cut, cut_all, entails, is_dead, values}
use Rattle.dp_domain.proofs.BoundLaws.{alive-greatest, alive-least}
use Rattle.dp_domain.proofs.ExplanationLaws.{Among-cut_all_from, Among-flat_map, Among-flat_map_piece, described-enough, described-holds}
use Rattle.dp_domain.proofs.ScopeLaws.{Covers-at}
use Rattle.dp_domain.proofs.StateLaws.{IsWithin-cut_all, alive-within, cut-past, entails-at, entails-cut_all, entails-from, values-cut_other, values-cut_same}
use Rattle.dp_domain.proofs.TurnLaws.{filter-same}

-- each variable keeps the initial values that pass some test
abbrev pub IsNarrowed : Domains → Domains → Type 0
IsNarrowed d initial = (x : ℕ) → (keep : ℤ → Bool) × (values d x ≡ filter keep (values initial x))

-- ---- cuts

-- a state keeps all of its values
pub narrowed-refl : (d : Domains) → IsNarrowed d d
narrowed-refl d x = (λ v. true, sym (filter-whole (λ v. true) (values d x) (list_all-from (λ v. true) (values d x) (λ v h. refl))))

filter_and_step : (p q : ℤ → Bool) (x : ℤ) (xs : List ℤ) (b : Bool) → q x ≡ b → filter p (filter q xs) ≡ filter (λ v. q v && p v) xs
    → filter p (cond b (x ∷ filter q xs) (filter q xs)) ≡ cond (b && p x) (x ∷ filter (λ v. q v && p v) xs) (filter (λ v. q v && p v) xs)
filter_and_step p q x xs true e h = ap (λ ys. cond (p x) (x ∷ ys) ys) h
filter_and_step p q x xs false e h = h

filter_and : (p q : ℤ → Bool) (xs : List ℤ) → filter p (filter q xs) ≡ filter (λ v. q v && p v) xs
filter_and p q [] = refl
filter_and p q (x ∷ xs) = filter_and_step p q x xs (q x) refl (filter_and p q xs)

cut_at : (initial d : Domains) (a : Atomic) (x : ℕ) (keep : ℤ → Bool) → x ≡ a.var → a.var < length d → values d x ≡ filter keep (values initial x)
    → values (cut d a) x ≡ filter (λ v. keep v && meets a v) (values initial x)
cut_at initial d a x keep e within k =
    ap (values (cut d a)) e ∙ values-cut_same d a within ∙ ap (λ (y : ℕ). filter (meets a) (values d y)) (sym e) ∙ ap (filter (meets a)) k ∙ filter_and (meets a) keep (values initial x)

-- a cut keeps some of what is kept
pub narrowed-cut : (initial d : Domains) (a : Atomic) → IsNarrowed d initial → IsNarrowed (cut d a) initial
narrowed-cut initial d a h x = elim (cases_lt a.var (length d)) [
  | inl within ↦ elim (cases_eq x a.var) [
    | inl e ↦ (λ v. (h x).0 v && meets a v, cut_at initial d a x (h x).0 e within (h x).1)
    | inr n ↦ ((h x).0, values-cut_other d a x n ∙ (h x).1)
  ]
  | inr past ↦ ((h x).0, ap (λ (e : Domains). values e x) (cut-past d a past) ∙ (h x).1)
]

-- and so do several
pub narrowed-cut_all : (initial d : Domains) (atoms : List Atomic) → IsNarrowed d initial → IsNarrowed (cut_all d atoms) initial
narrowed-cut_all initial d [] h = h
narrowed-cut_all initial d (a ∷ atoms) h = narrowed-cut_all initial (cut d a) atoms (narrowed-cut initial d a h)

-- two tests that pass together are one
pub same_answer : (p q : Bool) → (p ≡ true → q ≡ true) → (q ≡ true → p ≡ true) → p ≡ q
same_answer true q f g = sym (f refl)
same_answer false true f g = g refl
same_answer false false f g = refl

-- two such states give a variable the same values where neither has one that the other lacks
pub narrowed-same : (initial d e : Domains) (x : ℕ) → IsNarrowed d initial → IsNarrowed e initial → ((v : ℤ) → Among v (values d x) → Among v (values e x)) → ((v : ℤ) → Among v (values e x) → Among v (values d x))
    → values d x ≡ values e x
narrowed-same initial d e x h k f g =
    let p : ℤ → Bool = (h x).0 in
    let q : ℤ → Bool = (k x).0 in
    (h x).1 ∙ filter-same p q (values initial x) (λ v here. same_answer (p v) (q v)
    (λ t. (Among-filter_only q (values initial x) v (subst (λ vs. Among v vs) (k x).1 (f v (subst (λ vs. Among v vs) (sym (h x).1) (Among-filter_all p (values initial x) v here t))))).1)
    (λ t. (Among-filter_only p (values initial x) v (subst (λ vs. Among v vs) (h x).1 (g v (subst (λ vs. Among v vs) (sym (k x).1) (Among-filter_all q (values initial x) v here t))))).1))
    ∙ sym (k x).1

-- ---- descriptions

module _ (initial now : Domains) (scope : List ℕ) where
  -- where an atom of a description stands, and that it holds
  pub atom_of : (a : Atomic) → Among a (description initial now scope) → Among a.var scope × (entails now a ≡ true)
  atom_of a h =
      let r = Among-flat_map_piece (λ x. described (values initial x) (values now x) x) scope a h in
      let k = described-holds (values initial r.0) (values now r.0) r.0 a r.2 in
      (subst (λ y. Among y scope) (sym k.0) r.1, entails-from now a (λ w m. k.1 w (subst (λ y. Among w (values now y)) k.0 m)))

  -- a value that the description leaves is one of the state
  left_by_description : (x : ℕ) (w : ℤ) → Covers scope now → is_dead now ≡ false → IsWithin now initial → Among x scope
      → Among w (values (cut_all initial (description initial now scope)) x) → Among w (values now x)
  left_by_description x w covers alive within h m =
      let there : x < length now = Covers-at scope now x covers h in
      let here : x < length initial = subst (λ (n : ℕ). x < n) within.count there in
      let first : is_dead initial ≡ false = alive-within initial now within alive in
      let l = alive-least initial x first here in
      let n = alive-least now x alive there in
      let t = alive-greatest initial x first here in
      let u = alive-greatest now x alive there in
      described-enough (values initial x) (values now x) x w l.0 n.0 t.0 u.0 l.1 n.1 t.1 u.1
      ((IsWithin-cut_all initial (description initial now scope)).each x w m)
      (λ a k. entails-at (cut_all initial (description initial now scope)) a w
      (entails-cut_all initial (description initial now scope) a (Among-flat_map (λ y. described (values initial y) (values now y) y) scope x a h k))
      (subst (λ y. Among w (values (cut_all initial (description initial now scope)) y)) (sym (described-holds (values initial x) (values now x) x a k).0) m))

  -- a value of the state is left
  left_of_state : (x : ℕ) (w : ℤ) → IsWithin now initial → Among w (values now x) → Among w (values (cut_all initial (description initial now scope)) x)
  left_of_state x w within h =
      Among-cut_all_from initial (description initial now scope) x w (within.each x w h)
      (λ a k e. entails-at now a w (atom_of a k).1 (subst (λ y. Among w (values now y)) e h))

  -- the description of such a state says what it is for
  pub narrowed-describes : Covers scope now → is_dead now ≡ false → IsWithin now initial → IsNarrowed now initial → Describes initial now scope (description initial now scope)
  narrowed-describes covers alive within h = record {
    of_scope = Each-from_among (λ a. Among a.var scope) (description initial now scope) (λ a k. (atom_of a k).0);
    entailed = Each-from_among (λ a. entails now a ≡ true) (description initial now scope) (λ a k. (atom_of a k).1);
    enough = λ x k. narrowed-same initial (cut_all initial (description initial now scope)) now x
        (narrowed-cut_all initial initial (description initial now scope) (narrowed-refl initial)) h
        (λ v m. left_by_description x v covers alive within k m) (λ v m. left_of_state x v within m);
  }
