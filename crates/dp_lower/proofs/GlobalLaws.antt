-- What the parts of the constraints on whole arrays say is what the constraints mean.
use Rattle.std.proofs.Common.{◌≡◌, ℕ, zero, suc, ◌+◌, ◌≤◌, Bool, true, false, cond, Some, None, List, [], ◌∷◌, length, get_or, map, ℤ, pos, negsuc, ◌+ℤ◌, ◌≤ℤ◌, refl, ◌∙◌, ap, subst, arith}
use Rattle.std.specs.Prelude.{◌&&◌, ◌↔◌, int_le, int_lt, slice_get, unsigned_abs}
use Rattle.std.specs.List.{filter, sum_by, zip}
use Rattle.std.proofs.lemmas.Int.{ints}
use Rattle.std.proofs.lemmas.List.Sums.{sum_by-cons}
use Rattle.std.proofs.lemmas.List.{length-map}
use Rattle.dp_base.specs.Lists.{Each}
use Rattle.dp_domain.specs.Terms.{term_at}
use Rattle.dp_domain.specs.declared.term.Term.{Term}
use Rattle.dp_domain.specs.declared.term.Term.TheVariants.{Var, Const}
use Rattle.dp_rule_alldiff.specs.AllDifferent as crowd
use Rattle.dp_rule_cumulative.specs.Refusals.{IsAllowed, IsProper}
use Rattle.dp_rule_cumulative.specs.Schedules as schedule
use Rattle.dp_rule_cumulative.specs.declared.task.Task as planned
use Rattle.fz_sat.specs.Globals.{AreDistinct, IsEntryAt, KeepsCapacity, Task, runs_at, task_of, tasks_of, total, usage_at}
use Rattle.fz_model.specs.declared.kinds.ArgKind.TheVariants as arg
use Rattle.fz_model.specs.declared.model.Expr.{Expr}
use Rattle.fz_model.specs.declared.model.Item.{Item}
use Rattle.fz_sat.specs.Args.{arg_term, arg_terms}
use Rattle.fz_facts.specs.Facts.{AreFit, ArePaired, IsAmountConst}
use Rattle.dp_lower.specs.Globals.{all_different, given_of, numbers_in, scheduled, selected}
use Rattle.dp_lower.specs.Sums.{number_in}
use Rattle.dp_lower.proofs.SideLaws.{AreMet}

-- ---- an entry at an index

none_is_not : {A : Type 0} (x : A) → None ≡ Some x → ⊥
none_is_not x e = cc

same_some : {A : Type 0} (x y : A) → Some x ≡ Some y → x ≡ y
same_some x y e = cc

-- what stands at a place of the terms gives what stands there of their values
value_there : (s : ℕ → ℤ) (terms : List Term) (place : ℕ) (t : Term) → slice_get terms place ≡ Some t → slice_get (map (term_at s) terms) place ≡ Some (term_at s t)
value_there s [] place t e = absurd (none_is_not t e)
value_there s (u ∷ terms) zero t e = ap (λ (v : Term). Some (term_at s v)) (same_some u t e)
value_there s (u ∷ terms) (suc place) t e = value_there s terms place t e

-- and a value stands there for a term
term_there : (s : ℕ → ℤ) (terms : List Term) (place : ℕ) (v : ℤ) → slice_get (map (term_at s) terms) place ≡ Some v → (t : Term) × (slice_get terms place ≡ Some t) × (term_at s t ≡ v)
term_there s [] place v e = absurd (none_is_not v e)
term_there s (u ∷ terms) zero v e = (u, refl, same_some (term_at s u) v e)
term_there s (u ∷ terms) (suc place) v e = term_there s terms place v e

pub selected_means : (s : ℕ → ℤ) (index : Term) (array : List Term) (value : Term) → AreMet s (selected index array value) ↔ IsEntryAt (map (term_at s) array) (term_at s index) (term_at s value)
selected_means s index array value = (
  λ h. let meets = h.0 in let entry = meets.1 in
      (entry.0, entry.1, value_there s array entry.0 meets.0 entry.2 ∙ ap (λ (v : ℤ). Some v) meets.2),
  λ h. let r = term_there s array h.0 (term_at s value) h.2 in ((r.0, (h.0, h.1, r.1), r.2), tt),
)

-- ---- terms that differ

distinct_here : (vs : List ℤ) → crowd.AreDistinct vs → AreDistinct vs
distinct_here [] h = tt
distinct_here (v ∷ vs) h = (h.0, distinct_here vs h.1)

distinct_there : (vs : List ℤ) → AreDistinct vs → crowd.AreDistinct vs
distinct_there [] h = tt
distinct_there (v ∷ vs) h = (h.0, distinct_there vs h.1)

pub all_different_means : (s : ℕ → ℤ) (terms : List Term) → AreMet s (all_different terms) ↔ AreDistinct (map (term_at s) terms)
all_different_means s terms = (λ h. distinct_here (map (term_at s) terms) h.0, λ h. (distinct_there (map (term_at s) terms) h, tt))

-- ---- tasks that share a capacity

-- an amount is the number that it stands for
pub amount : (s : ℕ → ℤ) (t : Term) → IsAmountConst t → pos (unsigned_abs (number_in t)) ≡ term_at s t
amount s (Const (pos n)) h = refl
amount s (Const (negsuc n)) h = let low = h.0 in absurd (omega (arith, ints))
amount s (Var x) h = absurd h

-- a task of the part, and that of the constraint
abbrev planned_task : Term → Term → Term → planned.Task
planned_task start duration usage = schedule.task_of (start, (number_in duration, number_in usage))

abbrev meant_task : (ℕ → ℤ) → Term → Term → Term → Task
meant_task s start duration usage = task_of (term_at s start, (term_at s duration, term_at s usage))

-- they run at the same times
same_times : (s : ℕ → ℤ) (t : ℤ) (start duration usage : Term) → IsAmountConst duration → schedule.runs_at s t (planned_task start duration usage) ≡ runs_at t (meant_task s start duration usage)
same_times s t start duration usage h = ap (λ (d : ℤ). int_le (term_at s start) t && int_lt t (term_at s start +ℤ d)) (amount s duration h)

-- what the tasks of the part use at the time, and what those of the constraint use
abbrev planned_tasks : List Term → List Term → List Term → List planned.Task
planned_tasks starts durations uses = map schedule.task_of (zip starts (zip (numbers_in durations) (numbers_in uses)))

abbrev meant_tasks : (ℕ → ℤ) → List Term → List Term → List Term → List Task
meant_tasks s starts durations uses = tasks_of (map (term_at s) starts) (map (term_at s) durations) (map (term_at s) uses)

abbrev used : List planned.Task → ℕ
used tasks = sum_by (λ (k : planned.Task). k.usage) tasks

abbrev spent : List Task → ℤ
spent tasks = total (map (λ (k : Task). k.usage) tasks)

more_used : (b : Bool) (k : planned.Task) (j : Task) (ks : List planned.Task) (js : List Task) → pos k.usage ≡ j.usage → pos (used ks) ≡ spent js → pos (used (cond b (k ∷ ks) ks)) ≡ spent (cond b (j ∷ js) js)
more_used true k j ks js e f = by (used (k ∷ ks)) k.usage (used ks) j.usage (spent js) (sum_by-cons (λ (i : planned.Task). i.usage) k ks) e f
  where
    by : (n a b : ℕ) (x y : ℤ) → n ≡ a + b → pos a ≡ x → pos b ≡ y → pos n ≡ x +ℤ y
    by n a b x y g e f = omega (arith, ints)
more_used false k j ks js e f = f

same_usage : (s : ℕ → ℤ) (t : ℤ) (starts durations uses : List Term) → Each IsAmountConst durations → Each IsAmountConst uses →
    pos (schedule.usage_of (schedule.runs_at s t) (planned_tasks starts durations uses)) ≡ usage_at t (meant_tasks s starts durations uses)
same_usage s t [] durations uses h g = refl
same_usage s t (a ∷ starts) [] uses h g = refl
same_usage s t (a ∷ starts) (d ∷ durations) [] h g = refl
same_usage s t (a ∷ starts) (d ∷ durations) (u ∷ uses) h g =
    let k = planned_task a d u in let j = meant_task s a d u in
    let ks = filter (schedule.runs_at s t) (planned_tasks starts durations uses) in let js = filter (runs_at t) (meant_tasks s starts durations uses) in
    subst (λ (b : Bool). pos (used (cond (schedule.runs_at s t k) (k ∷ ks) ks)) ≡ spent (cond b (j ∷ js) js)) (same_times s t a d u h.0)
    (more_used (schedule.runs_at s t k) k j ks js (amount s u g.0) (same_usage s t starts durations uses h.1 g.1))

kept_here : (n c : ℕ) (x y : ℤ) → pos n ≡ x → pos c ≡ y → n ≤ c → x ≤ℤ y
kept_here n c x y e f h = omega (arith, ints)

kept_there : (n c : ℕ) (x y : ℤ) → pos n ≡ x → pos c ≡ y → x ≤ℤ y → n ≤ c
kept_there n c x y e f h = omega (arith, ints)

pub scheduled_means : (s : ℕ → ℤ) (starts durations uses : List Term) (capacity : Term) → Each IsAmountConst durations → Each IsAmountConst uses → IsAmountConst capacity →
    AreMet s (scheduled starts durations uses capacity) ↔ KeepsCapacity (meant_tasks s starts durations uses) (term_at s capacity)
scheduled_means s starts durations uses capacity h g f =
    let tasks = planned_tasks starts durations uses in
    let n = unsigned_abs (number_in capacity) in (
      λ meets t. kept_here (schedule.usage_of (schedule.runs_at s t) tasks) n (usage_at t (meant_tasks s starts durations uses)) (term_at s capacity) (same_usage s t starts durations uses h g) (amount s capacity f) (meets.0 t),
      λ keeps. (λ t. kept_there (schedule.usage_of (schedule.runs_at s t) tasks) n (usage_at t (meant_tasks s starts durations uses)) (term_at s capacity) (same_usage s t starts durations uses h g) (amount s capacity f) (keeps t), tt),
    )

-- ---- what the constructor of a schedule makes sure of

amount_allowed : (t : Term) → IsAmountConst t → IsAllowed (number_in t)
amount_allowed (Const v) h = h
amount_allowed (Var x) h = absurd h

allowed_at : (terms : List Term) (k : ℕ) → Each IsAmountConst terms → IsAllowed (get_or (numbers_in terms) k (pos 0))
allowed_at [] k each = (omega (arith, ints), omega (arith, ints))
allowed_at (t ∷ terms) zero each = amount_allowed t each.0
allowed_at (t ∷ terms) (suc k) each = allowed_at terms k each.1

-- amounts in arrays as long as the starts make a schedule
proper : (starts durations uses : List Term) (capacity : Term) → length starts ≤ 2000000 → length durations ≡ length starts → length uses ≡ length starts → Each IsAmountConst durations → Each IsAmountConst uses → IsAmountConst capacity →
    IsProper (given_of starts durations uses capacity)
proper starts durations uses capacity few e f h g amount = record {
  even = record { durations = length-map durations number_in ∙ e; uses = length-map uses number_in ∙ f };
  few = few;
  good = λ k below. record { duration = allowed_at durations k h; usage = allowed_at uses k g };
  capacity = amount_allowed capacity amount;
}

-- so do the arguments of a cumulative constraint
pub proper_args : (items : List Item) (args : List Expr) (starts : List Term) (durations uses : List ℤ) (capacity : ℤ) → AreFit items args 0 (arg.Ints ∷ arg.Amounts ∷ arg.Amounts ∷ arg.Amount ∷ []) →
    ArePaired items args (arg.Ints ∷ arg.Amounts ∷ arg.Amounts ∷ arg.Amount ∷ []) → starts ≡ arg_terms items args 0 → durations ≡ numbers_in (arg_terms items args 1) → uses ≡ numbers_in (arg_terms items args 2) → capacity ≡ number_in (arg_term items args 3) →
    IsProper (schedule.given starts durations uses capacity)
proper_args items args starts durations uses capacity fit paired e f g h =
    let equal = paired refl in
    let made = proper (arg_terms items args 0) (arg_terms items args 1) (arg_terms items args 2) (arg_term items args 3) fit.0.few equal.0 equal.1.0 fit.1.0.each fit.1.1.0.each fit.1.1.1.0 in
    rw (e, f, g, h) made
