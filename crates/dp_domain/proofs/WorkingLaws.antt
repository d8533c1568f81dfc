-- Laws of the one working copy of an explanation: a state cut by atoms, of which one is dropped by the set of its variable.
use Rattle.std.proofs.Common.{◌≡◌, ℕ, ◌<◌, Bool, true, false, not, cond, ◌&&◌, List, [], ◌∷◌, ◌++◌, length, ℤ, Option, None, set, refl, sym, ◌∙◌, ap, subst, inl, inr}
use Rattle.std.specs.Prelude.{◌==◌, ◌||◌}
use Rattle.std.specs.List.{filter}
use Rattle.std.proofs.lemmas.Bool.{both_ways, cases_Bool, cond-false, cond-true, eqb-false, eqb-true, false_from_ne_true}
use Rattle.std.proofs.lemmas.List.{append_assoc, length-set, set-get_or, set-set}
use Rattle.dp_base.specs.Lists.{Among}
use Rattle.dp_base.proofs.Lists.{Among-filter_all, Among-filter_only, filter-whole, list_all-from}
use Rattle.dp_domain.specs.Atoms.{Atomic, meets}
use Rattle.dp_domain.specs.Explanations.{failing, suffices}
use Rattle.dp_domain.specs.Faces.{Face}
use Rattle.dp_domain.specs.Sets.{is_among}
use Rattle.dp_domain.specs.States.{Domains, cut, cut_all, fails_one, values}
use Rattle.dp_domain.proofs.ExplanationSteps.{cut_all-append, length_cut}
use Rattle.dp_domain.proofs.ShareLaws.{is_among-at, is_among-some}
use Rattle.dp_domain.proofs.StateLaws.{cut_all-cut, length-cut, length-cut_all, values-cut_other, values-cut_same}
use Rattle.dp_domain.proofs.TurnLaws.{filter-same}

-- ---- the values of a cut by several atoms

-- the value fails none of the atoms on the variable
abbrev pub meets_all : ℕ → List Atomic → ℤ → Bool
meets_all x atoms v = not (fails_one x atoms v)

filter_and_step : (p q : ℤ → Bool) (x : ℤ) (xs : List ℤ) (b : Bool) → filter p (filter q xs) ≡ filter (λ v. q v && p v) xs → filter p (cond b (x ∷ filter q xs) (filter q xs)) ≡ cond (b && p x) (x ∷ filter (λ v. q v && p v) xs) (filter (λ v. q v && p v) xs)
filter_and_step p q x xs true e = ap (λ ys. cond (p x) (x ∷ ys) ys) e
filter_and_step p q x xs false e = e

-- a filter of what another keeps
filter-and : (p q : ℤ → Bool) (xs : List ℤ) → filter p (filter q xs) ≡ filter (λ v. q v && p v) xs
filter-and p q [] = refl
filter-and p q (x ∷ xs) = filter_and_step p q x xs (q x) (filter-and p q xs)

meets_all_on : (e m r : Bool) → e ≡ true → (m && not r) ≡ not ((e && not m) || r)
meets_all_on true true r k = refl
meets_all_on true false r k = refl
meets_all_on false m r k = absurd (both_ways false refl k)

meets_all_off : (e m r : Bool) → e ≡ false → not r ≡ not ((e && not m) || r)
meets_all_off true m r k = absurd (both_ways true k refl)
meets_all_off false m r k = refl

-- each value fails none of no atoms
pub meets-none : (x : ℕ) (xs : List ℤ) → filter (meets_all x []) xs ≡ xs
meets-none x xs = filter-whole (meets_all x []) xs (list_all-from (meets_all x []) xs (λ v k. refl))

values_cut_step : (d : Domains) (a : Atomic) (atoms : List Atomic) (x : ℕ) → x < length d → filter (meets_all x atoms) (values (cut d a) x) ≡ filter (meets_all x (a ∷ atoms)) (values d x)
values_cut_step d a atoms x h = elim (cases_Bool (a.var == x)) [
  | inl e ↦
      let k : a.var ≡ x = eqb-true a.var x e in
      let same : values (cut d a) x ≡ filter (meets a) (values d x) = subst (λ (y : ℕ). values (cut d a) y ≡ filter (meets a) (values d y)) k (values-cut_same d a (subst (λ (y : ℕ). y < length d) (sym k) h)) in
      ap (filter (meets_all x atoms)) same ∙ filter-and (meets_all x atoms) (meets a) (values d x)
      ∙ filter-same (λ v. meets a v && meets_all x atoms v) (meets_all x (a ∷ atoms)) (values d x) (λ v m. meets_all_on (a.var == x) (meets a v) (fails_one x atoms v) e)
  | inr e ↦
      ap (filter (meets_all x atoms)) (values-cut_other d a x (λ k. eqb-false a.var x e (sym k)))
      ∙ filter-same (meets_all x atoms) (meets_all x (a ∷ atoms)) (values d x) (λ v m. meets_all_off (a.var == x) (meets a v) (fails_one x atoms v) e)
]

-- a variable keeps the values that fail none of the atoms on it
pub values-cut_all : (d : Domains) (atoms : List Atomic) (x : ℕ) → x < length d → values (cut_all d atoms) x ≡ filter (meets_all x atoms) (values d x)
values-cut_all d [] x h = sym (meets-none x (values d x))
values-cut_all d (a ∷ atoms) x h = values-cut_all (cut d a) atoms x (subst (λ (n : ℕ). x < n) (sym (length-cut d a)) h) ∙ values_cut_step d a atoms x h

-- what a set has beside those of its values that pass
pub without-passing : (p : ℤ → Bool) (xs ys : List ℤ) → ys ≡ filter p xs → filter (λ v. not (is_among v ys)) xs ≡ filter (λ v. not (p v)) xs
without-passing p xs ys e = filter-same (λ v. not (is_among v ys)) (λ v. not (p v)) xs (λ v h. ap not (elim (cases_Bool (p v)) [
  | inl t ↦ is_among-at v ys (subst (λ zs. Among v zs) (sym e) (Among-filter_all p xs v h t)) ∙ sym t
  | inr t ↦ false_from_ne_true (is_among v ys) (λ k. both_ways (p v) t (Among-filter_only p xs v (subst (λ zs. Among v zs) e (is_among-some v ys k))).1) ∙ sym t
]))

-- the target's failing, where there is none
pub meets-no_target : (x : ℕ) (t : Option Atomic) (xs : List ℤ) → t ≡ None → xs ≡ filter (meets_all x (failing t)) xs
meets-no_target x t xs e = sym (ap (λ (o : Option Atomic). filter (meets_all x (failing o)) xs) e ∙ meets-none x xs)

-- the set of one variable in a state cut by three lists of atoms, by one list after another
pub set_by_three : (d : Domains) (x : ℕ) (kept rest more : List Atomic) (xs ys zs us : List ℤ) → x < length d → xs ≡ values d x → ys ≡ filter (meets_all x kept) xs → zs ≡ filter (meets_all x rest) ys → us ≡ filter (meets_all x more) zs → us ≡ values (cut_all d ((kept ++ rest) ++ more)) x
set_by_three d x kept rest more xs ys zs us h e f g k =
    let n : x < length (cut_all d (kept ++ rest)) = subst (λ (m : ℕ). x < m) (sym (length-cut_all d (kept ++ rest))) h in
    let m : x < length (cut_all d kept) = subst (λ (m : ℕ). x < m) (sym (length-cut_all d kept)) h in
    k ∙ ap (filter (meets_all x more)) (g ∙ ap (filter (meets_all x rest)) (f ∙ ap (filter (meets_all x kept)) e ∙ sym (values-cut_all d kept x h))
    ∙ sym (values-cut_all (cut_all d kept) rest x m) ∙ ap (λ (e : Domains). values e x) (sym (cut_all-append d kept rest)))
    ∙ sym (values-cut_all (cut_all d (kept ++ rest)) more x n) ∙ ap (λ (e : Domains). values e x) (sym (cut_all-append d (kept ++ rest) more))

-- ---- one atom less

-- a cut by atoms among which one stands is that cut after the others
cut_among : (d : Domains) (kept rest more : List Atomic) (a : Atomic) → cut_all d ((kept ++ a ∷ rest) ++ more) ≡ cut (cut_all d ((kept ++ rest) ++ more)) a
cut_among d kept rest more a =
    ap (cut_all d) (append_assoc kept (a ∷ rest) more) ∙ cut_all-append d kept (a ∷ (rest ++ more)) ∙ sym (cut_all-cut (cut_all d kept) (rest ++ more) a)
    ∙ ap (λ (e : Domains). cut e a) (sym (cut_all-append d kept (rest ++ more)) ∙ ap (cut_all d) (sym (append_assoc kept rest more)))

-- with the set that the others leave its variable, a state loses the atom's cut
pub one-less : (d s t : Domains) (x : ℕ) (kept rest more : List Atomic) (a : Atomic) (ys : List ℤ) → x ≡ a.var → s ≡ cut_all d ((kept ++ a ∷ rest) ++ more) → ys ≡ values (cut_all d ((kept ++ rest) ++ more)) x → t ≡ set s x ys → t ≡ cut_all d ((kept ++ rest) ++ more)
one-less d s t x kept rest more a ys e f g h =
    let r = cut_all d ((kept ++ rest) ++ more) in
    h ∙ ap (λ (zs : List ℤ). set s x zs) g ∙ ap (λ (u : Domains). set u x (values r x)) (f ∙ cut_among d kept rest more a)
    ∙ ap (λ (y : ℕ). set (cut r a) y (values r y)) e ∙ set-set r a.var (filter (meets a) (values r a.var)) (values r a.var) ∙ set-get_or r a.var []

-- with its old set in its place again, a state is as before
pub put-back : (s t u : Domains) (x y : ℕ) (ys old : List ℤ) → y ≡ x → t ≡ set s x ys → old ≡ values s x → u ≡ set t y old → u ≡ s
put-back s t u x y ys old e f g h =
    h ∙ ap (λ (z : ℕ). set t z old) e ∙ ap (λ (v : Domains). set v x old) f ∙ ap (λ (zs : List ℤ). set (set s x ys) x zs) g ∙ set-set s x ys (values s x) ∙ set-get_or s x []

-- atoms that are kept go to the end of those kept
pub kept-more : (d s : Domains) (kept now rest more : List Atomic) (a : Atomic) → s ≡ cut_all d ((kept ++ a ∷ rest) ++ more) → now ≡ kept ++ a ∷ [] → s ≡ cut_all d ((now ++ rest) ++ more)
kept-more d s kept now rest more a e f = e ∙ ap (λ (ys : List Atomic). cut_all d (ys ++ more)) (sym (append_assoc kept (a ∷ []) rest) ∙ ap (λ (ys : List Atomic). ys ++ rest) (sym f))

-- the variables of the working copy are those of the state
pub var-of_cut : (d s : Domains) (atoms : List Atomic) (x y : ℕ) → x ≡ y → s ≡ cut_all d atoms → y < length d → x < length s
var-of_cut d s atoms x y e f h = subst (λ (n : ℕ). x < n) (sym (length_cut d s atoms f)) (subst (λ (z : ℕ). z < length d) (sym e) h)

-- a state with another set has the same variables
pub count-set : (s t : Domains) (x : ℕ) (ys : List ℤ) → t ≡ set s x ys → length t ≡ length s
count-set s t x ys e = ap (λ (u : Domains). length u) e ∙ length-set s x ys

-- ---- what the test at the working copy says

-- at the working copy the test says whether the atoms suffice
pub test-suffices : (f : Face) (d t : Domains) (target : Option Atomic) (atoms : List Atomic) (b : Bool) → t ≡ cut_all d (atoms ++ failing target) → b ≡ f.test t → b ≡ suffices f d target atoms
test-suffices f d t target atoms b e h = h ∙ ap f.test e

pub kept-when : (b c : Bool) (now xs ys : List Atomic) → c ≡ b → c ≡ true → now ≡ xs → now ≡ cond b xs ys
kept-when b c now xs ys e t h = h ∙ sym (cond-true b xs ys (sym e ∙ t))

pub kept-unless : (b c : Bool) (now xs ys : List Atomic) → c ≡ b → c ≡ false → now ≡ ys → now ≡ cond b xs ys
kept-unless b c now xs ys e t h = h ∙ sym (cond-false b xs ys (sym e ∙ t))
