-- The bound on the least variable that one is given on is what the part gives.
use Rattle.std.proofs.Common.{◌≡◌, ℕ, ◌<◌, ◌≤◌, nat_lt, Bool, true, false, ◌⊎◌, Option, Some, None, option_map, List, [], ◌∷◌, ◌++◌, length, get_or, take, ℤ, refl, sym, ◌∙◌, ap, subst, inl, inr, arith}
use Rattle.std.specs.Prelude.{◌+◌, cond, suc}
use Rattle.std.specs.List.{cons_option, filter}
use Rattle.std.proofs.lemmas.Bool.{both_ways, cases_Bool}
use Rattle.std.proofs.lemmas.Bool.Decides.{nat_tests}
use Rattle.std.proofs.lemmas.List.{take_more}
use Rattle.std.proofs.lemmas.Option.{none-some, same_Some}
use Rattle.dp_base.specs.Lists.{Among, Climbs}
use Rattle.dp_base.specs.Scopes.{in_order, with_variable}
use Rattle.dp_base.proofs.Lists.{Among-append_cases, Among-append_left, Among-append_right, Each-among}
use Rattle.dp_base.proofs.ScopeLaws.{among_in_order, among_in_order_out, climbs_in_order, order_of, with_variable-after, with_variable-before, with_variable-same}
use Rattle.dp_domain.specs.Atoms.{Atomic}
use Rattle.dp_domain.specs.Faces.{Face}
use Rattle.dp_domain.specs.States.{Domains, is_dead}
use Rattle.dp_domain.specs.Terms.{term_scope, term_variables, variable_of}
use Rattle.dp_domain.specs.Turns.{at_least, at_most, given, given_on, or_else, other_than}
use Rattle.dp_domain.specs.declared.term.Term.{Term}
use Rattle.dp_domain.specs.declared.term.Term.TheVariants.{Var, Const}
use Rattle.dp_domain.proofs.TermLaws.{IsInScope}
use Rattle.dp_rule_cumulative.specs.Profiles.{AreDistinct, TakesBound, TakesOn, is_before, is_start, parts_of}
use Rattle.dp_rule_cumulative.specs.Schedules.{Schedule, starts}
use Rattle.dp_rule_cumulative.specs.TimeTable.{face_cumulative, test_cumulative}
use Rattle.dp_rule_cumulative.specs.UsageLaws.{start_in_scope}
use Rattle.dp_rule_cumulative.specs.declared.task.Task.{Task}
use Rattle.dp_rule_cumulative.proofs.BoundLaws.{bound-given}
use Rattle.dp_rule_cumulative.proofs.CauseLaws.{IsAlone}

-- ---- variables that stand there once

shorter : (n m : ℕ) → suc n ≡ suc m → n ≡ m
shorter n m e = omega arith

with_length : (x : ℕ) (ys : List ℕ) → length (with_variable x ys) ≤ suc (length ys)
with_length x [] = omega arith
with_length x (y ∷ ys) = elim (order_of x y) [
  | inl h ↦ subst (λ zs. length zs ≤ suc (length (y ∷ ys))) (sym (with_variable-before x y ys h)) (omega arith)
  | inr h ↦ elim h [
    | inl k ↦ let r = with_length x ys in subst (λ zs. length zs ≤ suc (length (y ∷ ys))) (sym (with_variable-after x y ys k)) (omega arith)
    | inr k ↦ subst (λ zs. length zs ≤ suc (length (y ∷ ys))) (sym (with_variable-same x y ys k)) (omega arith)
  ]
]

not_before : (x y : ℕ) → x < y → y ≤ x → ⊥
not_before x y h k = omega arith

least_first : (x y : ℕ) (ys : List ℕ) → Climbs (y ∷ ys) → Among x (y ∷ ys) → y ≤ x
least_first x y ys c (inl e) = omega arith
least_first x y ys c (inr h) = let l : y < x = Each-among (λ z. y < z) ys c.0 x h in omega arith

-- one that is there already adds nothing
with_there : (x : ℕ) (ys : List ℕ) → Climbs ys → Among x ys → length (with_variable x ys) ≡ length ys
with_there x [] c h = absurd h
with_there x (y ∷ ys) c h = elim (order_of x y) [
  | inl b ↦ absurd (not_before x y b.less (least_first x y ys c h))
  | inr b ↦ elim b [
    | inl k ↦ ap length (with_variable-after x y ys k) ∙ ap suc (with_there x ys c.1 (later x y ys k.less h))
    | inr k ↦ ap length (with_variable-same x y ys k)
  ]
]
  where
    later : (x y : ℕ) (ys : List ℕ) → y < x → Among x (y ∷ ys) → Among x ys
    later x y ys l (inl e) = absurd (omega arith)
    later x y ys l (inr h) = h

scope_length : (xs : List ℕ) → length (in_order xs) ≤ length xs
scope_length [] = omega arith
scope_length (x ∷ xs) = let r = scope_length xs in let s = with_length x (in_order xs) in omega arith

-- where the scope has as many variables as stand there, each stands there once
pub distinct-from_length : (xs : List ℕ) → length (in_order xs) ≡ length xs → AreDistinct xs
distinct-from_length [] e = tt
distinct-from_length (x ∷ xs) e =
    let r = scope_length xs in
    let s = with_length x (in_order xs) in (
      λ h. too_few (length (in_order xs)) (length xs) (with_there x (in_order xs) (climbs_in_order xs) (among_in_order x xs h)) e r,
      distinct-from_length xs (omega arith),
    )
  where
    too_few : {n : ℕ} (m l : ℕ) → n ≡ m → n ≡ suc l → m ≤ l → ⊥
    too_few m l e f h = omega arith

-- ---- the one task that starts at a variable

variables_step : (s : Term) (x : ℕ) (xs : List ℕ) → s ≡ Var x → Among x (cons_option (variable_of s) xs)
variables_step (Var y) x xs e = inl (same_var x y (sym e))
  where
    same_var : (x y : ℕ) → Var x ≡ Var y → x ≡ y
    same_var x y e = cc
variables_step (Const v) x xs e = absurd (apart x v e)
  where
    apart : (x : ℕ) (v : ℤ) → Const v ≡ Var x → ⊥
    apart x v e = cc

variables_rest : (s : Term) (x : ℕ) (xs : List ℕ) → Among x xs → Among x (cons_option (variable_of s) xs)
variables_rest (Var y) x xs h = inr h
variables_rest (Const v) x xs h = h

-- the start of a task is one of the variables
start_among : (ks : List Task) (k : Task) (x : ℕ) → Among k ks → k.start ≡ Var x → Among x (term_variables (starts ks))
start_among [] k x here e = absurd here
start_among (j ∷ ks) k x (inl f) e = variables_step j.start x (term_variables (starts ks)) (ap (λ (i : Task). i.start) (sym f) ∙ e)
start_among (j ∷ ks) k x (inr here) e = variables_rest j.start x (term_variables (starts ks)) (start_among ks k x here e)

variables_parts : (s : Term) (x : ℕ) (xs : List ℕ) → Among x (cons_option (variable_of s) xs) → (s ≡ Var x) ⊎ Among x xs
variables_parts (Var y) x xs (inl e) = inl (ap Var (sym e))
variables_parts (Var y) x xs (inr h) = inr h
variables_parts (Const v) x xs h = inr h

-- each of the variables is the start of a task
pub task_of : (ks : List Task) (x : ℕ) → Among x (term_variables (starts ks)) → (k : Task) × Among k ks × (k.start ≡ Var x)
task_of [] x h = absurd h
task_of (j ∷ ks) x h = elim (variables_parts j.start x (term_variables (starts ks)) h) [
  | inl e ↦ (j, inl refl, e)
  | inr k ↦ let r = task_of ks x k in (r.0, inr r.1, r.2)
]

is_start_true : (x : ℕ) (s : Term) → s ≡ Var x → is_start x s ≡ true
is_start_true x s e = ap (is_start x) e ∙ same x
  where
    same : (x : ℕ) → is_start x (Var x) ≡ true
    same x = grind (arith, nat_tests)

is_start_var : (x : ℕ) (s : Term) → is_start x s ≡ true → s ≡ Var x
is_start_var x (Var y) e = ap Var (same x y e)
  where
    same : (x y : ℕ) → is_start x (Var y) ≡ true → y ≡ x
    same x y e = grind (arith, nat_tests)
is_start_var x (Const v) e = absurd (both_ways false refl e)

keep_step : (x : ℕ) (j : Task) (js : List Task) (b : Bool) → is_start x j.start ≡ b → filter (λ i. is_start x i.start) (j ∷ js) ≡ cond b (j ∷ filter (λ i. is_start x i.start) js) (filter (λ i. is_start x i.start) js)
keep_step x j js b e = ap (λ c. cond c (j ∷ filter (λ i. is_start x i.start) js) (filter (λ i. is_start x i.start) js)) e

nobody : (ks : List Task) (x : ℕ) → (Among x (term_variables (starts ks)) → ⊥) → filter (λ i. is_start x i.start) ks ≡ []
nobody [] x n = refl
nobody (j ∷ ks) x n = elim (cases_Bool (is_start x j.start)) [
  | inl e ↦ absurd (n (variables_step j.start x (term_variables (starts ks)) (is_start_var x j.start e)))
  | inr e ↦ keep_step x j ks false e ∙ nobody ks x (λ h. n (variables_rest j.start x (term_variables (starts ks)) h))
]

rest_distinct : (s : Term) (xs : List ℕ) → AreDistinct (cons_option (variable_of s) xs) → AreDistinct xs
rest_distinct (Var y) xs d = d.1
rest_distinct (Const v) xs d = d

first_distinct : (s : Term) (x : ℕ) (xs : List ℕ) → s ≡ Var x → AreDistinct (cons_option (variable_of s) xs) → Among x xs → ⊥
first_distinct (Var y) x xs e d h = d.0 (subst (λ z. Among z xs) (same x y (sym e)) h)
  where
    same : (x y : ℕ) → Var x ≡ Var y → x ≡ y
    same x y e = cc
first_distinct (Const v) x xs e d h = absurd (apart x v e)
  where
    apart : (x : ℕ) (v : ℤ) → Const v ≡ Var x → ⊥
    apart x v e = cc

-- where the variables stand there once, a task that starts at one is the only one
only_at : (ks : List Task) (k : Task) (x : ℕ) → AreDistinct (term_variables (starts ks)) → Among k ks → k.start ≡ Var x → filter (λ i. is_start x i.start) ks ≡ k ∷ []
only_at [] k x d here e = absurd here
only_at (j ∷ ks) k x d (inl f) e =
    let g : j.start ≡ Var x = ap (λ (i : Task). i.start) (sym f) ∙ e in
    keep_step x j ks true (is_start_true x j.start g)
    ∙ ap (λ js. j ∷ js) (nobody ks x (first_distinct j.start x (term_variables (starts ks)) g d))
    ∙ ap (λ (i : Task). i ∷ []) (sym f)
only_at (j ∷ ks) k x d (inr here) e = elim (cases_Bool (is_start x j.start)) [
  | inl f ↦ absurd (first_distinct j.start x (term_variables (starts ks)) (is_start_var x j.start f) d (start_among ks k x here e))
  | inr f ↦ keep_step x j ks false f ∙ only_at ks k x (rest_distinct j.start (term_variables (starts ks)) d) here e
]

pub alone_at : (q : Schedule) (d : Domains) (x : ℕ) (k : Task) → is_dead d ≡ false → test_cumulative q d ≡ false → AreDistinct (term_variables (starts q.tasks)) → Among k q.tasks → k.start ≡ Var x → IsAlone q d x k
alone_at q d x k alive calm distinct here start = record { alive = alive; calm = calm; start = start; here = here; only = only_at q.tasks k x distinct here start }

-- ---- the first bound of some tasks

-- what the face gives on the least of the starts that it gives something on
pub record IsFirstAt (f : Face) (d : Domains) (ks : List Task) (a : Atomic) : Type 0 where
  pub given : given_on f d a.var ≡ Some a
  pub start : (j : Task) × Among j ks × (j.start ≡ Var a.var)
  pub before : (k : Task) (x : ℕ) → Among k ks → k.start ≡ Var x → x < a.var → given_on f d x ≡ None

abbrev pub IsFirstOf : Face → Domains → List Task → Option Atomic → Type 0
IsFirstOf f d ks None = (k : Task) (x : ℕ) → Among k ks → k.start ≡ Var x → given_on f d x ≡ None
IsFirstOf f d ks (Some a) = IsFirstAt f d ks a

pub first_none : (f : Face) (d : Domains) → IsFirstOf f d [] None
first_none f d = λ k x here e. absurd here

on_step : (x : ℕ) (lower upper hole : Option ℤ) (a : Atomic) → or_else (option_map (at_least x) lower) (or_else (option_map (at_most x) upper) (option_map (other_than x) hole)) ≡ Some a → a.var ≡ x
on_step x (Some v) upper hole a e = sym (ap (λ (b : Atomic). b.var) (same_Some (at_least x v) a e))
on_step x None (Some v) hole a e = sym (ap (λ (b : Atomic). b.var) (same_Some (at_most x v) a e))
on_step x None None (Some v) a e = sym (ap (λ (b : Atomic). b.var) (same_Some (other_than x v) a e))
on_step x None None None a e = absurd (none-some a e)

-- what is given on a variable is on it
on_var : (q : Schedule) (d : Domains) (x : ℕ) (a : Atomic) → given_on (face_cumulative q) d x ≡ Some a → a.var ≡ x
on_var q d x a e = on_step x _ _ _ a e

same_start : (s : Term) (x y : ℕ) → s ≡ Var x → s ≡ Var y → x ≡ y
same_start s x y e f = same x y (sym e ∙ f)
  where
    same : (x y : ℕ) → Var x ≡ Var y → x ≡ y
    same x y e = cc

less_by : (x y : ℕ) → nat_lt x y ≡ true → x < y
less_by x y e = grind (arith, nat_tests)

no_less : (x y : ℕ) → nat_lt x y ≡ false → x < y → ⊥
no_less x y e h = grind (arith, nat_tests)

less_trans : (x y z : ℕ) → x < y → y < z → x < z
less_trans x y z h k = omega arith

-- a start that gives nothing, or comes after the first, changes nothing
more_none : (f : Face) (d : Domains) (ks : List Task) (k : Task) (o : Option Atomic) → ((x : ℕ) → k.start ≡ Var x → (given_on f d x ≡ None) ⊎ (is_before x o ≡ false)) → IsFirstOf f d ks o → IsFirstOf f d (ks ++ k ∷ []) o
more_none f d ks k None n h = λ j x here e. elim (Among-append_cases j ks (k ∷ []) here) [
  | inl there ↦ h j x there e
  | inr there ↦ elim there [
    | inl g ↦ elim (n x (ap (λ (i : Task). i.start) (sym g) ∙ e)) [ inl m ↦ m | inr m ↦ absurd (both_ways true m refl) ]
    | inr none ↦ absurd none
  ]
]
more_none f d ks k (Some a) n h = record {
  given = h.given;
  start = (h.start.0, Among-append_left h.start.0 ks (k ∷ []) h.start.1, h.start.2);
  before = λ j x here e l. elim (Among-append_cases j ks (k ∷ []) here) [
    | inl there ↦ h.before j x there e l
    | inr there ↦ elim there [
      | inl g ↦ elim (n x (ap (λ (i : Task). i.start) (sym g) ∙ e)) [ inl m ↦ m | inr m ↦ absurd (no_less x a.var m l) ]
      | inr none ↦ absurd none
    ]
  ];
}

nothing_before : (f : Face) (d : Domains) (ks : List Task) (o : Option Atomic) (x y : ℕ) (j : Task) → IsFirstOf f d ks o → is_before x o ≡ true → Among j ks → j.start ≡ Var y → y < x → given_on f d y ≡ None
nothing_before f d ks None x y j h b here e l = h j y here e
nothing_before f d ks (Some a) x y j h b here e l = h.before j y here e (less_trans y x a.var l (less_by x a.var b))

more_some : (q : Schedule) (d : Domains) (ks : List Task) (k : Task) (o : Option Atomic) (x : ℕ) (a : Atomic) → k.start ≡ Var x → given_on (face_cumulative q) d x ≡ Some a → is_before x o ≡ true → IsFirstOf (face_cumulative q) d ks o → IsFirstAt (face_cumulative q) d (ks ++ k ∷ []) a
more_some q d ks k o x a e g b h =
    let v = on_var q d x a g in
    record {
      given = ap (given_on (face_cumulative q) d) v ∙ g;
      start = (k, Among-append_right k ks (k ∷ []) (inl refl), e ∙ ap Var (sym v));
      before = λ j y here f l. elim (Among-append_cases j ks (k ∷ []) here) [
        | inl there ↦ nothing_before (face_cumulative q) d ks o x y j h b there f (subst (λ z. y < z) v l)
        | inr there ↦ elim there [
          | inl i ↦ absurd (irreflexive y (subst (λ z. y < z) (v ∙ same_start k.start x y e (ap (λ (i : Task). i.start) (sym i) ∙ f)) l))
          | inr none ↦ absurd none
        ]
      ];
    }
  where
    irreflexive : (y : ℕ) → y < y → ⊥
    irreflexive y h = omega arith

take_bound : (q : Schedule) (d : Domains) (ks : List Task) (k : Task) (x : ℕ) (o first next : Option Atomic) → k.start ≡ Var x → o ≡ given_on (face_cumulative q) d x → is_before x first ≡ true → next ≡ or_else o first → IsFirstOf (face_cumulative q) d ks first → IsFirstOf (face_cumulative q) d (ks ++ k ∷ []) next
take_bound q d ks k x None first next e g b f h =
    subst (IsFirstOf (face_cumulative q) d (ks ++ k ∷ [])) (sym f) (more_none (face_cumulative q) d ks k first (λ y i. inl (ap (given_on (face_cumulative q) d) (same_start k.start y x i e) ∙ sym g)) h)
take_bound q d ks k x (Some a) first next e g b f h =
    subst (IsFirstOf (face_cumulative q) d (ks ++ k ∷ [])) (sym f) (more_some q d ks k first x a e (sym g) b h)

take_on : (q : Schedule) (d : Domains) (ks : List Task) (k : Task) (x : ℕ) (b : Bool) (first next : Option Atomic) → IsAlone q d x k → is_before x first ≡ b → TakesOn q.capacity (parts_of d q.tasks) d k x b first next → IsFirstOf (face_cumulative q) d ks first → IsFirstOf (face_cumulative q) d (ks ++ k ∷ []) next
take_on q d ks k x true first next alone b t h = take_bound q d ks k x t.0 first next alone.start (bound-given q d x k t.0 alone t.1) b t.2 h
take_on q d ks k x false first next alone b t h =
    subst (IsFirstOf (face_cumulative q) d (ks ++ k ∷ [])) (sym t)
    (more_none (face_cumulative q) d ks k first (λ y e. inr (ap (λ z. is_before z first) (same_start k.start y x e alone.start) ∙ b)) h)

take_start : (q : Schedule) (d : Domains) (ks : List Task) (k : Task) (s : Term) (first next : Option Atomic) → k.start ≡ s → ((x : ℕ) → k.start ≡ Var x → IsAlone q d x k) → TakesBound q.capacity (parts_of d q.tasks) d k s first next → IsFirstOf (face_cumulative q) d ks first → IsFirstOf (face_cumulative q) d (ks ++ k ∷ []) next
take_start q d ks k (Var x) first next e alone t h = take_on q d ks k x (is_before x first) first next (alone x e) refl t h
take_start q d ks k (Const v) first next e alone t h =
    subst (IsFirstOf (face_cumulative q) d (ks ++ k ∷ [])) (sym t) (more_none (face_cumulative q) d ks k first (λ y f. absurd (apart y v (sym e ∙ f))) h)
  where
    apart : (y : ℕ) (v : ℤ) → Const v ≡ Var y → ⊥
    apart y v e = cc

-- one task on
pub first_more : (q : Schedule) (d : Domains) (i : ℕ) (k : Task) (first next : Option Atomic) → i < length q.tasks → k ≡ get_or q.tasks i k → ((x : ℕ) → k.start ≡ Var x → IsAlone q d x k) → TakesBound q.capacity (parts_of d q.tasks) d k k.start first next → IsFirstOf (face_cumulative q) d (take i q.tasks) first → IsFirstOf (face_cumulative q) d (take (i + 1) q.tasks) next
first_more q d i k first next l e alone t h =
    subst (λ ks. IsFirstOf (face_cumulative q) d ks next) (sym (take_more q.tasks i k l ∙ ap (λ (j : Task). take i q.tasks ++ j ∷ []) (sym e)))
    (take_start q d (take i q.tasks) k k.start first next refl alone t h)

-- ---- the first of all

given_none : (f : Face) (d : Domains) (xs : List ℕ) → ((y : ℕ) → Among y xs → given_on f d y ≡ None) → given f d xs ≡ None
given_none f d [] n = refl
given_none f d (x ∷ xs) n = ap (λ o. or_else o (given f d xs)) (n x (inl refl)) ∙ given_none f d xs (λ y h. n y (inr h))

given_some : (f : Face) (d : Domains) (xs : List ℕ) (a : Atomic) → Climbs xs → Among a.var xs → given_on f d a.var ≡ Some a → ((y : ℕ) → Among y xs → y < a.var → given_on f d y ≡ None) → given f d xs ≡ Some a
given_some f d [] a c h g n = absurd h
given_some f d (x ∷ xs) a c (inl e) g n = ap (λ o. or_else o (given f d xs)) (ap (given_on f d) (sym e) ∙ g)
given_some f d (x ∷ xs) a c (inr h) g n =
    ap (λ o. or_else o (given f d xs)) (n x (inl refl) (Each-among (λ y. x < y) xs c.0 a.var h))
    ∙ given_some f d xs a c.1 h g (λ y k. n y (inr k))

-- the first bound of all tasks is what the part gives
pub first_all : (q : Schedule) (d : Domains) (o : Option Atomic) → IsFirstOf (face_cumulative q) d q.tasks o → o ≡ given (face_cumulative q) d (term_scope (starts q.tasks))
first_all q d None h = sym (given_none (face_cumulative q) d (term_scope (starts q.tasks)) (λ y there.
    let k = task_of q.tasks y (among_in_order_out y (term_variables (starts q.tasks)) there) in
    h k.0 y k.1 k.2))
first_all q d (Some a) h = sym (given_some (face_cumulative q) d (term_scope (starts q.tasks)) a (climbs_in_order (term_variables (starts q.tasks)))
    (subst (IsInScope (term_scope (starts q.tasks))) h.start.2 (start_in_scope q.tasks h.start.0 h.start.1))
    h.given
    (λ y there l. let k = task_of q.tasks y (among_in_order_out y (term_variables (starts q.tasks)) there) in h.before k.0 y k.1 k.2 l))
