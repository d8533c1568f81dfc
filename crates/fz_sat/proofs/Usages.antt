-- What tasks use together, task by task.
use Rattle.std.proofs.Common.{◌≡◌, ℕ, ◌+◌, ◌*◌, ◌^◌, ◌<◌, ◌≤◌, min, Bool, true, false, ◌&&◌, if◌then◌else◌, length, get_or, drop, List, [], ◌∷◌, map, ℤ, pos, ◌+ℤ◌, ◌≤ℤ◌, int_le, refl, sym, ◌∙◌, ap, subst, arith}
use Rattle.std.specs.List.{filter, list_all, zip}
use Rattle.std.proofs.lemmas.Int.{ints}
use Rattle.std.proofs.lemmas.List.{at_drop_more, at_drop_all}
use Rattle.std.proofs.lemmas.Slice.Zip.{length-zip, get_or-zip}
use Rattle.fz_model.specs.declared.model.Basic.{Basic}
use Rattle.fz_model.specs.declared.model.Basic.TheVariants as basic
use Rattle.fz_model.specs.declared.model.Item.{Item}
use Rattle.dp_domain.specs.Terms.{term_at}
use Rattle.fz_sat.specs.Args.{terms_of}
use Rattle.fz_sat.specs.Globals.{Task, keeps_around, keeps_capacity, runs_at, tasks_of, total, usage_at}
use Rattle.fz_sat.specs.Schedules.{HasTask, element_tasks, task_at, triple_at, used_by}
use Rattle.fz_sat.specs.Sums.{IsBounded}

-- ---- the tasks of the elements

-- how many there are
abbrev pub count : List Basic → List Basic → List Basic → ℕ
count starts durations uses = min (length starts) (min (length durations) (length uses))

pub length-tasks : (items : List Item) (s : ℕ → ℤ) (starts durations uses : List Basic) → length (zip starts (zip durations uses)) ≡ count starts durations uses
length-tasks items s starts durations uses = length-zip starts (zip durations uses) ∙ ap (λ n. min (length starts) n) (length-zip durations uses)

pub has_task : (starts durations uses : List Basic) (i : ℕ) → i < count starts durations uses → HasTask starts durations uses i
has_task starts durations uses i h = record { start = omega arith; duration = omega arith; usage = omega arith }

triple : (starts durations uses : List Basic) (i : ℕ) (d : Basic) → i < count starts durations uses → get_or (zip starts (zip durations uses)) i (d, (d, d)) ≡ (get_or starts i d, (get_or durations i d, get_or uses i d))
triple starts durations uses i d h =
    get_or-zip starts (zip durations uses) i (d, (d, d)) (omega arith) (subst (λ n. i < n) (sym (length-zip durations uses)) (omega arith))
    ∙ ap (λ (p : Basic × Basic). (get_or starts i d, p)) (get_or-zip durations uses i (d, d) (omega arith) (omega arith))

-- the tasks of the values are those of the elements
pub tasks-elements : (items : List Item) (s : ℕ → ℤ) (starts durations uses : List Basic) → tasks_of (map (term_at s) (terms_of items starts)) (map (term_at s) (terms_of items durations)) (map (term_at s) (terms_of items uses)) ≡ element_tasks items s starts durations uses
tasks-elements items s [] durations uses = refl
tasks-elements items s (b ∷ starts) [] uses = refl
tasks-elements items s (b ∷ starts) (d ∷ durations) [] = refl
tasks-elements items s (b ∷ starts) (d ∷ durations) (e ∷ uses) = ap (λ ts. task_at items s (b, (d, e)) ∷ ts) (tasks-elements items s starts durations uses)

-- ---- the tasks from a place on

abbrev pub tasks_from : List Item → (ℕ → ℤ) → List Basic → List Basic → List Basic → ℕ → List Task
tasks_from items s starts durations uses i = map (task_at items s) (drop i (zip starts (zip durations uses)))

pub tasks_more : {Y : Type 0} (F : List Task → Y) (items : List Item) (s : ℕ → ℤ) (starts durations uses : List Basic) (i : ℕ) → i < count starts durations uses → F (tasks_from items s starts durations uses i) ≡ F (task_at items s (triple_at starts durations uses i) ∷ tasks_from items s starts durations uses (i + 1))
tasks_more F items s starts durations uses i h =
    let d = basic.Bool false in
    at_drop_more (λ es. F (map (task_at items s) es)) (zip starts (zip durations uses)) i (d, (d, d)) (subst (λ n. i < n) (sym (length-tasks items s starts durations uses)) h)
    ∙ ap (λ e. F (task_at items s e ∷ tasks_from items s starts durations uses (i + 1))) (triple starts durations uses i d h)

pub tasks_none : {Y : Type 0} (F : List Task → Y) (items : List Item) (s : ℕ → ℤ) (starts durations uses : List Basic) (i : ℕ) → count starts durations uses ≤ i → F (tasks_from items s starts durations uses i) ≡ F []
tasks_none F items s starts durations uses i h =
    at_drop_all (λ es. F (map (task_at items s) es)) (zip starts (zip durations uses)) i (subst (λ n. n ≤ i) (sym (length-tasks items s starts durations uses)) h)

-- ---- what they use

-- one task and the others
usage_first : (t : ℤ) (k : Task) (tasks : List Task) → usage_at t (k ∷ tasks) ≡ used_by t k +ℤ usage_at t tasks
usage_first t k tasks = by_case (runs_at t k) k.usage (filter (runs_at t) tasks)
  where
    none_added : (z : ℤ) → z ≡ pos 0 +ℤ z
    none_added z = omega (arith, ints)

    by_case : (r : Bool) (u : ℤ) (others : List Task) → total (map (λ (j : Task). j.usage) (if r then k ∷ others else others)) ≡ (if r then k.usage else pos 0) +ℤ total (map (λ (j : Task). j.usage) others)
    by_case true u others = refl
    by_case false u others = none_added (total (map (λ (j : Task). j.usage) others))

-- what is used so far with what is left is the whole, and it has not grown too large
pub record IsUsedSoFar (items : List Item) (s : ℕ → ℤ) (starts durations uses : List Basic) (t : ℤ) (i : ℕ) (used : ℤ) : Type 0 where
  pub whole : used +ℤ usage_at t (tasks_from items s starts durations uses i) ≡ usage_at t (element_tasks items s starts durations uses)
  pub bounded : IsBounded (i * 2 ^ 63) used

pub used_none : (items : List Item) (s : ℕ → ℤ) (starts durations uses : List Basic) (t : ℤ) → IsUsedSoFar items s starts durations uses t 0 (pos 0)
used_none items s starts durations uses t = record { whole = omega (arith, ints); bounded = (omega (arith, ints), omega (arith, ints)) }

more_whole : (s p r w n : ℤ) → s +ℤ r ≡ w → r ≡ p +ℤ n → (s +ℤ p) +ℤ n ≡ w
more_whole s p r w n e f = omega (arith, ints)

more_bounded : (i : ℕ) (s p : ℤ) → IsBounded (i * 2 ^ 63) s → IsBounded (2 ^ 63) p → IsBounded ((i + 1) * 2 ^ 63) (s +ℤ p)
more_bounded i s p h k = (omega (arith, ints, h.0, h.1, k.0, k.1), omega (arith, ints, h.0, h.1, k.0, k.1))

pub used_more : (items : List Item) (s : ℕ → ℤ) (starts durations uses : List Basic) (t : ℤ) (i : ℕ) (used p : ℤ) → i < count starts durations uses → p ≡ used_by t (task_at items s (triple_at starts durations uses i)) → IsBounded (2 ^ 63) p → IsUsedSoFar items s starts durations uses t i used → IsUsedSoFar items s starts durations uses t (i + 1) (used +ℤ p)
used_more items s starts durations uses t i used p h e bounded so_far = record {
  whole =
      let later = usage_at t (tasks_from items s starts durations uses (i + 1)) in
      more_whole used p (usage_at t (tasks_from items s starts durations uses i)) (usage_at t (element_tasks items s starts durations uses)) later so_far.whole
      (tasks_more (usage_at t) items s starts durations uses i h
      ∙ usage_first t (task_at items s (triple_at starts durations uses i)) (tasks_from items s starts durations uses (i + 1))
      ∙ ap (λ z. z +ℤ later) (sym e));
  bounded = more_bounded i used p so_far.bounded bounded;
}

pub used_all : (items : List Item) (s : ℕ → ℤ) (starts durations uses : List Basic) (t : ℤ) (i : ℕ) (used : ℤ) → count starts durations uses ≤ i → IsUsedSoFar items s starts durations uses t i used → used ≡ usage_at t (element_tasks items s starts durations uses)
used_all items s starts durations uses t i used h so_far =
    none_left used (usage_at t (tasks_from items s starts durations uses i)) (usage_at t (element_tasks items s starts durations uses)) so_far.whole (tasks_none (usage_at t) items s starts durations uses i h)
  where
    none_left : (s r w : ℤ) → s +ℤ r ≡ w → r ≡ pos 0 → s ≡ w
    none_left s r w e f = omega (arith, ints)

-- ---- tests of all tasks

pub all_more : (p : Task → Bool) (items : List Item) (s : ℕ → ℤ) (starts durations uses : List Basic) (i : ℕ) (r : Bool) → i < count starts durations uses → r ≡ p (task_at items s (triple_at starts durations uses i)) → list_all p (tasks_from items s starts durations uses i) ≡ (r && list_all p (tasks_from items s starts durations uses (i + 1)))
all_more p items s starts durations uses i r h e =
    tasks_more (list_all p) items s starts durations uses i h ∙ ap (λ b. b && list_all p (tasks_from items s starts durations uses (i + 1))) (sym e)

pub all_none : (p : Task → Bool) (items : List Item) (s : ℕ → ℤ) (starts durations uses : List Basic) (i : ℕ) → count starts durations uses ≤ i → list_all p (tasks_from items s starts durations uses i) ≡ true
all_none p items s starts durations uses i h = tasks_none (list_all p) items s starts durations uses i h

-- the capacity is kept where it is at least 0 and all keep it, and not where it is less or some do not
pub kept : (tasks : List Task) (capacity : ℤ) (r : Bool) → pos 0 ≤ℤ capacity → r ≡ list_all (keeps_around tasks capacity) tasks → r ≡ keeps_capacity tasks capacity
kept tasks capacity r h e = e ∙ ap (λ b. b && list_all (keeps_around tasks capacity) tasks) (at_least capacity h)
  where
    at_least : (v : ℤ) → pos 0 ≤ℤ v → true ≡ int_le (pos 0) v
    at_least v h = omega (arith, ints, h)
