-- How much tasks use, at states and assignments.
use Rattle.std.specs.Prelude.{◌≡◌, ℕ, ◌+◌, ◌<◌, ◌≤◌, Bool, true, false, cond, ◌⊎◌, unwrap_or, List, [], ◌∷◌, length, ℤ, pos, ◌+ℤ◌, ◌≤ℤ◌, ◌<ℤ◌, int_le, int_lt}
use Rattle.std.proofs.Common.{refl, sym, ap, subst, inl, inr, arith}
use Rattle.std.proofs.lemmas.Int.{ints}
use Rattle.std.proofs.lemmas.Bool.{and_parts, and_from, false≢true}
use Rattle.std.proofs.lemmas.List.Sums.{sum_by-cons}
use Rattle.std.specs.List.{filter, sum_by}
use Rattle.dp_base.specs.Lists.{Among}
use Rattle.dp_base.proofs.Lists.{Among-filter_only, Among-filter_all}
use Rattle.dp_domain.specs.Faces.{AgreesOn, Fixes}
use Rattle.dp_domain.specs.Sets.{greatest, least}
use Rattle.dp_domain.specs.States.{Domains, IsWithin, LiesIn, is_dead}
use Rattle.dp_domain.specs.Terms.{IsTermOf, term_at, term_scope, term_values}
use Rattle.dp_domain.specs.declared.term.Term.{Term}
use Rattle.dp_domain.specs.declared.term.Term.TheVariants.{Var, Const}
use Rattle.dp_domain.proofs.ExplanationLaws.{Among-map}
use Rattle.dp_domain.proofs.SetLaws.{greatest_from-among, greatest_from-bound, least_from-among, least_from-bound}
use Rattle.dp_domain.proofs.StateLaws.{alive-value}
use Rattle.dp_domain.proofs.TermLaws.{IsInScope, term_in_scope, term_values-fixed, term_values-local, term_values-sound, term_values-within}
use Rattle.dp_rule_cumulative.specs.Schedules.{earliest_end, is_during, latest_start, must_run, runs_at, starts, usage_of}
use Rattle.dp_rule_cumulative.specs.declared.task.Task.{Task}

-- ---- times

order_by : (x y : ℤ) (b : Bool) → int_le x y ≡ b → (x ≤ℤ y) ⊎ (y ≤ℤ x)
order_by x y true e = inl (omega (arith, ints))
order_by x y false e = inr (omega (arith, ints))

order_of : (x y : ℤ) → (x ≤ℤ y) ⊎ (y ≤ℤ x)
order_of x y = order_by x y (int_le x y) refl

started : (start t : ℤ) → int_le start t ≡ true → start ≤ℤ t
started start t e = omega (arith, ints)

not_ended : (end t : ℤ) → int_lt t end ≡ true → t <ℤ end
not_ended end t e = omega (arith, ints)

has_started : (start t : ℤ) → start ≤ℤ t → int_le start t ≡ true
has_started start t h = sym (omega (arith, ints))

has_not_ended : (end t : ℤ) → t <ℤ end → int_lt t end ≡ true
has_not_ended end t h = sym (omega (arith, ints))

-- what the test of a time says
pub during_parts : (start end t : ℤ) → is_during start end t ≡ true → (start ≤ℤ t) × (t <ℤ end)
during_parts start end t e =
    let both = and_parts (int_le start t) (int_lt t end) e in
    (started start t both.0, not_ended end t both.1)

-- and when it is true
pub during_from : (start end t : ℤ) → start ≤ℤ t → t <ℤ end → is_during start end t ≡ true
during_from start end t h k = and_from (int_le start t) (int_lt t end) (has_started start t h) (has_not_ended end t k)

-- what is during a part is during the whole
pub wider : (a b c e t : ℤ) → c ≤ℤ a → b ≤ℤ e → is_during a b t ≡ true → is_during c e t ≡ true
wider a b c e t h k m =
    let both = during_parts a b t m in
    let first : a ≤ℤ t = both.0 in
    let last : t <ℤ b = both.1 in
    during_from c e t (omega (arith, ints)) (omega (arith, ints))

-- ---- sums

both_more : (u m n x y : ℕ) → x ≡ u + m → y ≡ u + n → m ≤ n → x ≤ y
both_more u m n x y e f h = omega arith

one_more : (u m n y : ℕ) → y ≡ u + n → m ≤ n → m ≤ y
one_more u m n y e h = omega arith

-- how much a task uses
abbrev pub usage : Task → ℕ
usage k = k.usage

sum_step : {A : Type 0} (f : A → ℕ) (k : A) (b c : Bool) (xs ys : List A) → (b ≡ true → c ≡ true) → sum_by f xs ≤ sum_by f ys → sum_by f (cond b (k ∷ xs) xs) ≤ sum_by f (cond c (k ∷ ys) ys)
sum_step f k true true xs ys keeps h = both_more (f k) (sum_by f xs) (sum_by f ys) _ _ (sum_by-cons f k xs) (sum_by-cons f k ys) h
sum_step f k true false xs ys keeps h = absurd (false≢true (keeps refl))
sum_step f k false true xs ys keeps h = one_more (f k) (sum_by f xs) (sum_by f ys) _ (sum_by-cons f k ys) h
sum_step f k false false xs ys keeps h = h

-- where all that pass one test pass another, those that pass the other sum to no less
pub sum-le : {A : Type 0} (f : A → ℕ) (p r : A → Bool) (ks : List A) → ((k : A) → Among k ks → p k ≡ true → r k ≡ true) → sum_by f (filter p ks) ≤ sum_by f (filter r ks)
sum-le f p r [] keeps = omega arith
sum-le f p r (k ∷ ks) keeps =
    sum_step f k (p k) (r k) (filter p ks) (filter r ks) (keeps k (inl refl)) (sum-le f p r ks (λ j here. keeps j (inr here)))

-- where all tasks that pass one test pass another, those that pass the other use no less
pub usage-le : (p r : Task → Bool) (ks : List Task) → ((k : Task) → Among k ks → p k ≡ true → r k ≡ true) → usage_of p ks ≤ usage_of r ks
usage-le p r ks keeps = sum-le usage p r ks keeps

-- the task is one of these, and none of them has a greater number
pub record IsGreatest (f : Task → ℤ) (ks : List Task) (k : Task) : Type 0 where
  pub here : Among k ks
  pub bound : (j : Task) → Among j ks → f j ≤ℤ f k

greatest_step : (f : Task → ℤ) (j k : Task) (ks : List Task) → IsGreatest f ks k → ((f j ≤ℤ f k) ⊎ (f k ≤ℤ f j)) → (i : Task) × IsGreatest f (j ∷ ks) i
greatest_step f j k ks g (inl less) = (k, record { here = inr g.here; bound = below })
  where
    below : (i : Task) → Among i (j ∷ ks) → f i ≤ℤ f k
    below i (inl e) = subst (λ (n : Task). f n ≤ℤ f k) (sym e) less
    below i (inr there) = g.bound i there
greatest_step f j k ks g (inr more) = (j, record { here = inl refl; bound = below })
  where
    below : (i : Task) → Among i (j ∷ ks) → f i ≤ℤ f j
    below i (inl e) = subst (λ (n : Task). f n ≤ℤ f j) (sym e) (omega (arith, ints))
    below i (inr there) = let less : f i ≤ℤ f k = g.bound i there in omega (arith, ints)

-- of some tasks one has the greatest number
pub some_greatest : (f : Task → ℤ) (j : Task) (ks : List Task) → (k : Task) × IsGreatest f (j ∷ ks) k
some_greatest f j [] = (j, record { here = inl refl; bound = λ i there. elim there [ inl e ↦ subst (λ (n : Task). f n ≤ℤ f j) (sym e) (omega (arith, ints)) | inr none ↦ absurd none ] })
some_greatest f j (i ∷ ks) =
    let g = some_greatest f i ks in
    greatest_step f j g.0 (i ∷ ks) g.1 (order_of (f j) (f g.0))

greatest_used : (f : Task → ℤ) (ks : List Task) → 0 < sum_by usage ks → (k : Task) × IsGreatest f ks k
greatest_used f [] h = absurd (omega arith)
greatest_used f (j ∷ ks) h = some_greatest f j ks

-- of tasks that use anything one has the greatest number
pub greatest_in_use : (f : Task → ℤ) (p : Task → Bool) (ks : List Task) → 0 < usage_of p ks → (k : Task) × IsGreatest f (filter p ks) k
greatest_in_use f p ks h = greatest_used f (filter p ks) h

-- ---- the same where most must run: at the latest of the starts

-- the tasks that must run at a time must also run at the latest of their latest starts
pub latest-enough : (d : Domains) (t : ℤ) (ks : List Task) (k : Task) → IsGreatest (latest_start d) (filter (must_run d t) ks) k → usage_of (must_run d t) ks ≤ usage_of (must_run d (latest_start d k)) ks
latest-enough d t ks k g = usage-le (must_run d t) (must_run d (latest_start d k)) ks (λ j here runs.
    let own = during_parts (latest_start d j) (earliest_end d j) t runs in
    let its = during_parts (latest_start d k) (earliest_end d k) t (Among-filter_only (must_run d t) ks k g.here).1 in
    earlier (latest_start d j) (latest_start d k) t (earliest_end d j) (g.bound j (Among-filter_all (must_run d t) ks j here runs)) its.0 own.1)
  where
    earlier : (a b t e : ℤ) → a ≤ℤ b → b ≤ℤ t → t <ℤ e → is_during a e b ≡ true
    earlier a b t e h k l = during_from a e b h (omega (arith, ints))

-- and the task with that start is one of them
pub latest-runs : (d : Domains) (t : ℤ) (ks : List Task) (k : Task) → IsGreatest (latest_start d) (filter (must_run d t) ks) k → must_run d (latest_start d k) k ≡ true
latest-runs d t ks k g =
    let its = during_parts (latest_start d k) (earliest_end d k) t (Among-filter_only (must_run d t) ks k g.here).1 in
    at_start (latest_start d k) t (earliest_end d k) its.0 its.1
  where
    at_start : (a t e : ℤ) → a ≤ℤ t → t <ℤ e → is_during a e a ≡ true
    at_start a t e h k = during_from a e a (omega (arith, ints)) (omega (arith, ints))

-- ---- bounds of starts

greatest-within : (xs ys : List ℤ) (v : ℤ) → Among v ys → ((w : ℤ) → Among w ys → Among w xs) → unwrap_or (greatest ys) (pos 0) ≤ℤ unwrap_or (greatest xs) (pos 0)
greatest-within xs [] v here within = absurd here
greatest-within [] (y ∷ ys) v here within = absurd (within v here)
greatest-within (x ∷ xs) (y ∷ ys) v here within = greatest_from-bound x xs _ (within _ (greatest_from-among y ys))

least-within : (xs ys : List ℤ) (v : ℤ) → Among v ys → ((w : ℤ) → Among w ys → Among w xs) → unwrap_or (least xs) (pos 0) ≤ℤ unwrap_or (least ys) (pos 0)
least-within xs [] v here within = absurd here
least-within [] (y ∷ ys) v here within = absurd (within v here)
least-within (x ∷ xs) (y ∷ ys) v here within = least_from-bound x xs _ (within _ (least_from-among y ys))

-- no value is above the greatest
pub greatest-value : (xs : List ℤ) (v : ℤ) → Among v xs → v ≤ℤ unwrap_or (greatest xs) (pos 0)
greatest-value [] v here = absurd here
greatest-value (x ∷ xs) v here = greatest_from-bound x xs v here

-- nor below the least
pub least-value : (xs : List ℤ) (v : ℤ) → Among v xs → unwrap_or (least xs) (pos 0) ≤ℤ v
least-value [] v here = absurd here
least-value (x ∷ xs) v here = least_from-bound x xs v here

-- in a state that is not dead a term has a value
term_value : (d : Domains) (term : Term) → is_dead d ≡ false → IsTermOf (length d) term → (v : ℤ) × Among v (term_values d term)
term_value d (Var x) alive there = alive-value d x alive there
term_value d (Const v) alive there = (v, inl refl)

-- ---- what must run

-- the start of each task is in the scope
pub start_in_scope : (ks : List Task) (k : Task) → Among k ks → IsInScope (term_scope (starts ks)) k.start
start_in_scope ks k here = term_in_scope (starts ks) k.start (Among-map (λ (j : Task). j.start) ks k here)

pub longer : (a b : ℤ) (n : ℕ) → a ≤ℤ b → (a +ℤ pos n) ≤ℤ (b +ℤ pos n)
longer a b n h = omega (arith, ints)

-- what must run must also run at a smaller state that is not dead
pub must_run-within : (d e : Domains) (t : ℤ) (k : Task) → IsWithin e d → is_dead e ≡ false → IsTermOf (length e) k.start → must_run d t k ≡ true → must_run e t k ≡ true
must_run-within d e t k within alive there runs =
    let v = term_value e k.start alive there in
    let fewer = term_values-within d e k.start within in
    wider (latest_start d k) (earliest_end d k) (latest_start e k) (earliest_end e k) t
    (greatest-within (term_values d k.start) (term_values e k.start) v.0 v.1 fewer)
    (longer _ _ k.duration (least-within (term_values d k.start) (term_values e k.start) v.0 v.1 fewer))
    runs

-- what must run runs at each assignment within the state
pub must_run-sound : (d : Domains) (s : ℕ → ℤ) (t : ℤ) (k : Task) → LiesIn s d → IsTermOf (length d) k.start → must_run d t k ≡ true → runs_at s t k ≡ true
must_run-sound d s t k lies there runs =
    let here = term_values-sound d s k.start lies there in
    wider (latest_start d k) (earliest_end d k) (term_at s k.start) (term_at s k.start +ℤ pos k.duration) t
    (greatest-value (term_values d k.start) (term_at s k.start) here)
    (longer _ _ k.duration (least-value (term_values d k.start) (term_at s k.start) here))
    runs

same_run : (xs ys : List ℤ) (n : ℕ) (t : ℤ) → xs ≡ ys → is_during (unwrap_or (greatest xs) (pos 0)) (unwrap_or (least xs) (pos 0) +ℤ pos n) t ≡ is_during (unwrap_or (greatest ys) (pos 0)) (unwrap_or (least ys) (pos 0) +ℤ pos n) t
same_run xs ys n t e = ap (λ zs. is_during (unwrap_or (greatest zs) (pos 0)) (unwrap_or (least zs) (pos 0) +ℤ pos n) t) e

-- it depends on the sets of the scope alone
pub must_run-local : (scope : List ℕ) (d e : Domains) (t : ℤ) (k : Task) → AgreesOn scope d e → IsInScope scope k.start → must_run d t k ≡ must_run e t k
must_run-local scope d e t k agrees here = same_run (term_values d k.start) (term_values e k.start) k.duration t (term_values-local scope d e k.start agrees here)

-- where each variable has one value, what must run is what runs
pub must_run-fixed : (scope : List ℕ) (d : Domains) (s : ℕ → ℤ) (t : ℤ) (k : Task) → Fixes scope s d → IsInScope scope k.start → must_run d t k ≡ runs_at s t k
must_run-fixed scope d s t k fixes here = same_run (term_values d k.start) (term_at s k.start ∷ []) k.duration t (term_values-fixed scope s d k.start fixes here)
