-- Why a cut of one start clashes: at some time its task must run then, and does not fit beside what must run already.
use Rattle.std.proofs.Common.{◌≡◌, ℕ, ◌+◌, ◌<◌, ◌≤◌, Bool, true, false, ◌⊎◌, ◌↔◌, List, [], ◌∷◌, ℤ, pos, ◌+ℤ◌, refl, sym, ◌∙◌, ap, subst, inl, inr, arith}
use Rattle.std.specs.Prelude.{cond, unwrap_or}
use Rattle.std.specs.List.{filter, sum_by}
use Rattle.std.proofs.lemmas.Bool.{both_ways, cases_Bool, cases_lt, false_from_ne_true, false≢true}
use Rattle.std.proofs.lemmas.List.Sums.{sum_by-cons}
use Rattle.dp_base.specs.Lists.{Among}
use Rattle.dp_base.proofs.Lists.{Among-filter_all}
use Rattle.dp_domain.specs.Atoms.{Atomic, meets, negated}
use Rattle.dp_domain.specs.Sets.{greatest, least}
use Rattle.dp_domain.specs.States.{Domains, cut, entails, is_dead, values}
use Rattle.dp_domain.specs.Terms.{term_values}
use Rattle.dp_domain.specs.Turns.{gives}
use Rattle.dp_domain.specs.declared.term.Term.{Term}
use Rattle.dp_domain.specs.declared.term.Term.TheVariants.{Var, Const}
use Rattle.dp_domain.proofs.AtomLaws.{meets-from_not, negated-negated}
use Rattle.dp_domain.proofs.StateLaws.{Among-cut_all, Among-cut_meets, Among-cut_only, entails-fails, entails-from_dead_cut, values-cut_other}
use Rattle.dp_domain.proofs.TurnLaws.{gives-from, gives-parts}
use Rattle.dp_rule_cumulative.specs.Profiles.{is_start}
use Rattle.dp_rule_cumulative.specs.Schedules.{Schedule, is_during, must_run, usage_of}
use Rattle.dp_rule_cumulative.specs.TimeTable.{ClashesCumulative, face_cumulative, test_cumulative}
use Rattle.dp_rule_cumulative.specs.TimeTableLaws.{cumulative_exact}
use Rattle.dp_rule_cumulative.specs.UsageLaws.{usage, usage-le}
use Rattle.dp_rule_cumulative.specs.declared.task.Task.{Task}
use Rattle.dp_rule_cumulative.proofs.MustRunLaws.{must_run-each}

-- ---- sums

more_by : (u m n a x y : ℕ) → x ≡ m → y ≡ u + n → m ≤ n → x + u ≤ y
more_by u m n a x y e f h = omega arith

both_by : (v u m n x y : ℕ) → x ≡ v + m → y ≡ v + n → m + u ≤ n → x + u ≤ y
both_by v u m n x y e f h = omega arith

one_by : (v u m n x y : ℕ) → x ≡ m → y ≡ v + n → m + u ≤ n → x + u ≤ y
one_by v u m n x y e f h = omega arith

new_step : (k j : Task) (b c : Bool) (xs ys : List Task) → b ≡ false → c ≡ true → k ≡ j → sum_by usage xs ≤ sum_by usage ys → sum_by usage (cond b (j ∷ xs) xs) + k.usage ≤ sum_by usage (cond c (j ∷ ys) ys)
new_step k j true c xs ys e f g h = absurd (both_ways true e refl)
new_step k j false true xs ys e f g h = more_by k.usage (sum_by usage xs) (sum_by usage ys) 0 _ _ refl (sum_by-cons usage j ys ∙ ap (λ (i : Task). i.usage + sum_by usage ys) (sym g)) h
new_step k j false false xs ys e f g h = absurd (false≢true f)

old_step : (k j : Task) (b c : Bool) (xs ys : List Task) → (b ≡ true → c ≡ true) → sum_by usage xs + k.usage ≤ sum_by usage ys → sum_by usage (cond b (j ∷ xs) xs) + k.usage ≤ sum_by usage (cond c (j ∷ ys) ys)
old_step k j true true xs ys keeps h = both_by j.usage k.usage (sum_by usage xs) (sum_by usage ys) _ _ (sum_by-cons usage j xs) (sum_by-cons usage j ys) h
old_step k j true false xs ys keeps h = absurd (false≢true (keeps refl))
old_step k j false true xs ys keeps h = one_by j.usage k.usage (sum_by usage xs) (sum_by usage ys) _ _ refl (sum_by-cons usage j ys) h
old_step k j false false xs ys keeps h = h

-- where all that pass one test pass another, and one task passes the other alone, its use is added
usage-more : (p r : Task → Bool) (ks : List Task) (k : Task) → ((j : Task) → Among j ks → p j ≡ true → r j ≡ true) → Among k ks → p k ≡ false → r k ≡ true → usage_of p ks + k.usage ≤ usage_of r ks
usage-more p r [] k keeps here n y = absurd here
usage-more p r (j ∷ ks) k keeps (inl e) n y =
    new_step k j (p j) (r j) (filter p ks) (filter r ks) (ap p (sym e) ∙ n) (ap r (sym e) ∙ y) e (usage-le p r ks (λ i there. keeps i (inr there)))
usage-more p r (j ∷ ks) k keeps (inr here) n y =
    old_step k j (p j) (r j) (filter p ks) (filter r ks) (keeps j (inl refl)) (usage-more p r ks k (λ i there. keeps i (inr there)) here n y)

most_both : (v m n o x y z : ℕ) → x ≡ v + m → y ≡ v + n → z ≡ o → m ≤ n + o → x ≤ y + z
most_both v m n o x y z e f g h = omega arith

most_own : (v m n o x y z : ℕ) → x ≡ v + m → y ≡ n → z ≡ v + o → m ≤ n + o → x ≤ y + z
most_own v m n o x y z e f g h = omega arith

most_all : (v m n o x y z : ℕ) → x ≡ v + m → y ≡ v + n → z ≡ v + o → m ≤ n + o → x ≤ y + z
most_all v m n o x y z e f g h = omega arith

grows : (m n o x y z : ℕ) → x ≡ m → n ≤ y → o ≤ z → m ≤ n + o → x ≤ y + z
grows m n o x y z e f g h = omega arith

kept : (j : Task) (b : Bool) (xs : List Task) → sum_by usage xs ≤ sum_by usage (cond b (j ∷ xs) xs)
kept j true xs = let e = sum_by-cons usage j xs in more j.usage (sum_by usage xs) _ e
  where
    more : (v m x : ℕ) → x ≡ v + m → m ≤ x
    more v m x e = omega arith
kept j false xs = omega arith

most_step : (j : Task) (b c o : Bool) (xs ys zs : List Task) → (b ≡ true → (c ≡ true) ⊎ (o ≡ true)) → sum_by usage xs ≤ sum_by usage ys + sum_by usage zs → sum_by usage (cond b (j ∷ xs) xs) ≤ sum_by usage (cond c (j ∷ ys) ys) + sum_by usage (cond o (j ∷ zs) zs)
most_step j true true true xs ys zs keeps h = most_all j.usage (sum_by usage xs) (sum_by usage ys) (sum_by usage zs) _ _ _ (sum_by-cons usage j xs) (sum_by-cons usage j ys) (sum_by-cons usage j zs) h
most_step j true true false xs ys zs keeps h = most_both j.usage (sum_by usage xs) (sum_by usage ys) (sum_by usage zs) _ _ _ (sum_by-cons usage j xs) (sum_by-cons usage j ys) refl h
most_step j true false true xs ys zs keeps h = most_own j.usage (sum_by usage xs) (sum_by usage ys) (sum_by usage zs) _ _ _ (sum_by-cons usage j xs) refl (sum_by-cons usage j zs) h
most_step j true false false xs ys zs keeps h = elim (keeps refl) [ inl e ↦ absurd (false≢true e) | inr e ↦ absurd (false≢true e) ]
most_step j false c o xs ys zs keeps h = grows (sum_by usage xs) (sum_by usage ys) (sum_by usage zs) _ _ _ refl (kept j c ys) (kept j o zs) h

-- what passes one test uses at most what passes another, and those of its own
usage-most : (p r own : Task → Bool) (ks : List Task) → ((j : Task) → Among j ks → r j ≡ true → (p j ≡ true) ⊎ (own j ≡ true)) → usage_of r ks ≤ usage_of p ks + usage_of own ks
usage-most p r own [] keeps = omega arith
usage-most p r own (j ∷ ks) keeps =
    most_step j (r j) (p j) (own j) (filter r ks) (filter p ks) (filter own ks) (keeps j (inl refl)) (usage-most p r own ks (λ i there. keeps i (inr there)))

-- ---- one task at a start

-- at a nonempty state without a clash, the task alone starts at the variable
pub record IsAlone (q : Schedule) (d : Domains) (x : ℕ) (k : Task) : Type 0 where
  pub alive : is_dead d ≡ false
  pub calm : test_cumulative q d ≡ false
  pub start : k.start ≡ Var x
  pub here : Among k q.tasks
  pub only : filter (λ j. is_start x j.start) q.tasks ≡ k ∷ []

-- it must run at the time where the atom holds and not otherwise, and it does not fit then
pub record IsCause (q : Schedule) (d : Domains) (k : Task) (a : Atomic) (t : ℤ) : Type 0 where
  pub new : must_run d t k ≡ false
  pub runs : must_run (cut d a) t k ≡ true
  pub over : q.capacity < usage_of (must_run d t) q.tasks + k.usage

starts_here : (x y : ℕ) → is_start x (Var y) ≡ false → y ≡ x → ⊥
starts_here x y e f = grind (arith)

other_values : (d : Domains) (a : Atomic) (s : Term) → is_start a.var s ≡ false → term_values (cut d a) s ≡ term_values d s
other_values d a (Var y) e = values-cut_other d a y (starts_here a.var y e)
other_values d a (Const v) e = refl

-- a task that starts elsewhere runs as it did
other_runs : (d : Domains) (a : Atomic) (t : ℤ) (j : Task) → is_start a.var j.start ≡ false → must_run (cut d a) t j ≡ must_run d t j
other_runs d a t j e = runs_by j.duration t (term_values (cut d a) j.start) (term_values d j.start) (other_values d a j.start e)
  where
    runs_by : (n : ℕ) (t : ℤ) (xs ys : List ℤ) → xs ≡ ys → is_during (unwrap_or (greatest xs) (pos 0)) (unwrap_or (least xs) (pos 0) +ℤ pos n) t ≡ is_during (unwrap_or (greatest ys) (pos 0)) (unwrap_or (least ys) (pos 0) +ℤ pos n) t
    runs_by n t xs ys e = ap (λ zs. is_during (unwrap_or (greatest zs) (pos 0)) (unwrap_or (least zs) (pos 0) +ℤ pos n) t) e

the_one : (q : Schedule) (d : Domains) (x : ℕ) (k j : Task) → IsAlone q d x k → Among j q.tasks → is_start x j.start ≡ true → j ≡ k
the_one q d x k j alone here e =
    elim (subst (λ js. Among j js) alone.only (Among-filter_all (λ (i : Task). is_start x i.start) q.tasks j here e)) [ inl f ↦ f | inr none ↦ absurd none ]

own_use : (q : Schedule) (d : Domains) (x : ℕ) (k : Task) → IsAlone q d x k → usage_of (λ j. is_start x j.start) q.tasks ≡ k.usage
own_use q d x k alone = ap (sum_by usage) alone.only ∙ sum_by-cons usage k [] ∙ plus_none k.usage
  where
    plus_none : (n : ℕ) → n + 0 ≡ n
    plus_none n = omega arith

calm_at : (q : Schedule) (d : Domains) (t : ℤ) → test_cumulative q d ≡ false → usage_of (must_run d t) q.tasks ≤ q.capacity
calm_at q d t calm = elim (cases_lt q.capacity (usage_of (must_run d t) q.tasks)) [
  | inl h ↦ absurd (both_ways (test_cumulative q d) calm ((cumulative_exact q d).1 (inr (t, h))))
  | inr h ↦ h
]

not_over : (c m n : ℕ) → c < n → m ≤ c → n ≤ m → ⊥
not_over c m n h k l = omega arith

over_by : (c m n u : ℕ) → c < n → n ≤ m + u → c < m + u
over_by c m n u h k = omega arith

-- a clash at the cut has a cause
clash_cause : (q : Schedule) (d : Domains) (x : ℕ) (k : Task) (a : Atomic) → a.var ≡ x → IsAlone q d x k → is_dead (cut d a) ≡ false → ClashesCumulative q (cut d a) → (t : ℤ) × IsCause q d k a t
clash_cause q d x k a v alone alive (inl dead) = absurd (both_ways (is_dead (cut d a)) alive dead)
clash_cause q d x k a v alone alive (inr over) =
    let t = over.0 in
    let other = λ (j : Task) (e : is_start x j.start ≡ false). other_runs d a t j (subst (λ y. is_start y j.start ≡ false) (sym v) e) in
    let idle : must_run d t k ≡ true → ⊥ = λ runs. not_over q.capacity (usage_of (must_run d t) q.tasks) (usage_of (must_run (cut d a) t) q.tasks) over.1 (calm_at q d t alone.calm)
    (usage-le (must_run (cut d a) t) (must_run d t) q.tasks (λ j here r. elim (cases_Bool (is_start x j.start)) [
      | inl e ↦ ap (must_run d t) (the_one q d x k j alone here e) ∙ runs
      | inr e ↦ sym (other j e) ∙ r
    ])) in
    let runs : must_run (cut d a) t k ≡ false → ⊥ = λ n. not_over q.capacity (usage_of (must_run d t) q.tasks) (usage_of (must_run (cut d a) t) q.tasks) over.1 (calm_at q d t alone.calm)
    (usage-le (must_run (cut d a) t) (must_run d t) q.tasks (λ j here r. elim (cases_Bool (is_start x j.start)) [
      | inl e ↦ absurd (both_ways (must_run (cut d a) t k) n (sym (ap (must_run (cut d a) t) (the_one q d x k j alone here e)) ∙ r))
      | inr e ↦ sym (other j e) ∙ r
    ])) in
    let most = usage-most (must_run d t) (must_run (cut d a) t) (λ j. is_start x j.start) q.tasks (λ j here r. elim (cases_Bool (is_start x j.start)) [
      | inl e ↦ inr e
      | inr e ↦ inl (sym (other j e) ∙ r)
    ]) in (
      t,
      record {
        new = false_from_ne_true (must_run d t k) idle;
        runs = elim (cases_Bool (must_run (cut d a) t k)) [ inl e ↦ e | inr e ↦ absurd (runs e) ];
        over = over_by q.capacity (usage_of (must_run d t) q.tasks) (usage_of (must_run (cut d a) t) q.tasks) k.usage over.1 (subst (λ u. usage_of (must_run (cut d a) t) q.tasks ≤ usage_of (must_run d t) q.tasks + u) (own_use q d x k alone) most);
      },
    )

later : (c m n : ℕ) → c < m → m ≤ n → c < n
later c m n h k = omega arith

-- and a cause makes the cut clash
cause_clash : (q : Schedule) (d : Domains) (x : ℕ) (k : Task) (a : Atomic) (t : ℤ) → a.var ≡ x → IsAlone q d x k → IsCause q d k a t → ClashesCumulative q (cut d a)
cause_clash q d x k a t v alone cause = inr (
  t,
  later q.capacity _ _ cause.over (usage-more (must_run d t) (must_run (cut d a) t) q.tasks k (λ j here r. elim (cases_Bool (is_start x j.start)) [
    | inl e ↦ absurd (both_ways (must_run d t k) cause.new (sym (ap (must_run d t) (the_one q d x k j alone here e)) ∙ r))
    | inr e ↦ other_runs d a t j (subst (λ y. is_start y j.start ≡ false) (sym v) e) ∙ r
  ]) alone.here cause.new cause.runs),
)

-- ---- what is given

-- an atom is given where its negation has a cause
pub cause-given : (q : Schedule) (d : Domains) (k : Task) (b : Atomic) → IsAlone q d b.var k → gives (face_cumulative q) d b ≡ true → (t : ℤ) × IsCause q d k (negated b) t
cause-given q d k b alone g =
    let r = gives-parts (face_cumulative q) d b g in
    clash_cause q d b.var k (negated b) refl alone
    (false_from_ne_true (is_dead (cut d (negated b))) (λ dead. both_ways (entails d b) r.0 (subst (λ c. entails d c ≡ true) (negated-negated b) (entails-from_dead_cut d (negated b) alone.alive dead))))
    ((cumulative_exact q (cut d (negated b))).0 r.1)

-- an atom whose negation has a cause is given, if it is new
pub given-cause : (q : Schedule) (d : Domains) (k : Task) (b : Atomic) (t : ℤ) → IsAlone q d b.var k → entails d b ≡ false → IsCause q d k (negated b) t → gives (face_cumulative q) d b ≡ true
given-cause q d k b t alone new cause =
    gives-from (face_cumulative q) d b new ((cumulative_exact q (cut d (negated b))).1 (cause_clash q d b.var k (negated b) t refl alone cause))

-- where the atom fails the task must run at a time exactly where it runs then from each start that fails it
pub runs-each : (d : Domains) (k : Task) (b : Atomic) (t : ℤ) → k.start ≡ Var b.var → entails d b ≡ false → (must_run (cut d (negated b)) t k ≡ true) ↔ ((w : ℤ) → Among w (values d b.var) → meets (negated b) w ≡ true → is_during w (w +ℤ pos k.duration) t ≡ true)
runs-each d k b t start new =
    let u = entails-fails d b new in
    let same : term_values (cut d (negated b)) k.start ≡ values (cut d (negated b)) b.var = ap (term_values (cut d (negated b))) start in
    let there = Among-cut_all d (negated b) b.var u.0 u.1 (λ e. meets-from_not b u.0 u.2) in
    let each = must_run-each (cut d (negated b)) t k u.0 (subst (λ xs. Among u.0 xs) (sym same) there) in (
      λ runs w here m. each.0 runs w (subst (λ xs. Among w xs) (sym same) (Among-cut_all d (negated b) b.var w here (λ e. m))),
      λ all. each.1 (λ w here.
          let h = subst (λ xs. Among w xs) same here in
          all w (Among-cut_only d (negated b) b.var w h) (Among-cut_meets d (negated b) w h)),
    )
