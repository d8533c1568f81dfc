-- What the loops over tasks and their parts add up and keep.
use Rattle.std.proofs.Common.{◌≡◌, ℕ, ◌+◌, ◌*◌, ◌^◌, ◌<◌, ◌≤◌, Bool, List, [], ◌∷◌, ◌++◌, length, get_or, take, map, refl, sym, ◌∙◌, ap, subst, arith}
use Rattle.std.specs.List.{filter, sum_by}
use Rattle.std.proofs.lemmas.List.{map-append, map_more, take_all}
use Rattle.std.proofs.lemmas.List.Elements.{filter-append, filter_more}
use Rattle.std.proofs.lemmas.List.Sums.{sum_by-append}
use Rattle.dp_base.specs.Lists.{Among}
use Rattle.dp_base.proofs.Lists.{Among-get_or, Each-among}
use Rattle.dp_domain.proofs.ExplanationLaws.{Among-map}
use Rattle.dp_domain.specs.States.{Domains}
use Rattle.dp_domain.specs.Terms.{AreTermsOf, IsTermOf}
use Rattle.dp_rule_cumulative.specs.Profiles.{has_time, part_of, parts_of}
use Rattle.dp_rule_cumulative.specs.Schedules.{starts}
use Rattle.dp_rule_cumulative.specs.declared.profile.Part.{Part}
use Rattle.dp_rule_cumulative.specs.declared.task.Task.{Task}

-- ---- items at a place

-- an item at a place is one of the items
pub among_at : {A : Type 0} (ks : List A) (i : ℕ) (k : A) → i < length ks → k ≡ get_or ks i k → Among k ks
among_at ks i k h e = subst (λ j. Among j ks) (sym e) (Among-get_or ks i k h)

-- the start of the task at a place is of the state
pub term_at_place : (n : ℕ) (ks : List Task) (i : ℕ) (k : Task) → AreTermsOf n (starts ks) → i < length ks → k ≡ get_or ks i k → IsTermOf n k.start
term_at_place n ks i k all h e = Each-among (IsTermOf n) (starts ks) all k.start (Among-map (λ (j : Task). j.start) ks k (among_at ks i k h e))

-- ---- sums

sum_more : {A : Type 0} (f : A → ℕ) (p : A → Bool) (ks : List A) (i : ℕ) (k : A) → i < length ks → k ≡ get_or ks i k → sum_by f (filter p (take (i + 1) ks)) ≡ sum_by f (filter p (take i ks)) + sum_by f (filter p (k ∷ []))
sum_more f p ks i k h e =
    ap (sum_by f) (filter_more p ks i k h)
    ∙ sum_by-append f (filter p (take i ks)) (filter p (get_or ks i k ∷ []))
    ∙ ap (λ j. sum_by f (filter p (take i ks)) + sum_by f (filter p (j ∷ []))) (sym e)

-- the number is what those of the first items that pass sum to, and it has not grown too large
pub record IsSumSoFar {A : Type 0} (f : A → ℕ) (p : A → Bool) (ks : List A) (i : ℕ) (used : ℕ) : Type 0 where
  pub sum : used ≡ sum_by f (filter p (take i ks))
  pub bounded : used ≤ i * 2 ^ 64

more_bounded : (i m n : ℕ) → m ≤ i * 2 ^ 64 → n < 2 ^ 64 → m + n ≤ (i + 1) * 2 ^ 64
more_bounded i m n h k = omega arith

pub sum_none : {A : Type 0} (f : A → ℕ) (p : A → Bool) (ks : List A) → IsSumSoFar f p ks 0 0
sum_none f p ks = record { sum = refl; bounded = omega arith }

pub sum_next : {A : Type 0} (f : A → ℕ) (p : A → Bool) (ks : List A) (i : ℕ) (k : A) (used more : ℕ) → i < length ks → k ≡ get_or ks i k → more ≡ sum_by f (filter p (k ∷ [])) → more < 2 ^ 64 → IsSumSoFar f p ks i used → IsSumSoFar f p ks (i + 1) (used + more)
sum_next f p ks i k used more h e g bound so_far = record {
  sum = ap (λ n. n + more) so_far.sum ∙ ap (λ n. sum_by f (filter p (take i ks)) + n) g ∙ sym (sum_more f p ks i k h e);
  bounded = more_bounded i used more so_far.bounded bound;
}

pub sum_all : {A : Type 0} (f : A → ℕ) (p : A → Bool) (ks : List A) (i : ℕ) (used : ℕ) → length ks ≤ i → IsSumSoFar f p ks i used → used ≡ sum_by f (filter p ks)
sum_all f p ks i used h so_far = so_far.sum ∙ ap (λ xs. sum_by f (filter p xs)) (take_all i ks h)

-- ---- lists that are made

-- of the first items, one item on
pub passing_more : {A B : Type 0} (f : A → B) (p : A → Bool) (ks : List A) (i : ℕ) (k : A) → i < length ks → k ≡ get_or ks i k → map f (filter p (take (i + 1) ks)) ≡ map f (filter p (take i ks)) ++ map f (filter p (k ∷ []))
passing_more f p ks i k h e =
    ap (map f) (filter_more p ks i k h)
    ∙ map-append f (filter p (take i ks)) (filter p (get_or ks i k ∷ []))
    ∙ ap (λ j. map f (filter p (take i ks)) ++ map f (filter p (j ∷ []))) (sym e)

pub parts_more : (d : Domains) (ks : List Task) (i : ℕ) (k : Task) (old now : List Part) → i < length ks → k ≡ get_or ks i k → old ≡ parts_of d (take i ks) → now ≡ old ++ parts_of d (k ∷ []) → now ≡ parts_of d (take (i + 1) ks)
parts_more d ks i k old now h e f g =
    g ∙ ap (λ ps. ps ++ parts_of d (k ∷ [])) f
    ∙ ap (λ (j : Task). parts_of d (take i ks) ++ parts_of d (j ∷ [])) e
    ∙ sym (ap (filter has_time) (map_more (part_of d) ks i k h) ∙ filter-append has_time (map (part_of d) (take i ks)) (part_of d (get_or ks i k) ∷ []))
