-- The tasks that are made of starts, durations and uses.
use Rattle.std.proofs.Common.{◌≡◌, ℕ, ◌+◌, ◌<◌, ◌≤◌, List, [], ◌∷◌, ◌++◌, length, get_or, map, take, ℤ, pos, refl, sym, ◌∙◌, ap, arith}
use Rattle.std.specs.Prelude.{unsigned_abs}
use Rattle.std.specs.List.{zip}
use Rattle.std.proofs.lemmas.List.{get_or-map, take_all, take_more}
use Rattle.std.proofs.lemmas.Slice.Zip.{get_or-zip, length-zip}
use Rattle.dp_domain.specs.declared.term.Term.{Term}
use Rattle.dp_rule_cumulative.specs.Schedules.{starts, task_of}
use Rattle.dp_rule_cumulative.specs.declared.task.Task.{Task}

-- the tasks of these
abbrev made : List Term → List ℤ → List ℤ → List Task
made ss ds us = map task_of (zip ss (zip ds us))

-- a task by its parts
abbrev task : Term → ℕ → ℕ → Task
task s m n = record { start = s; duration = m; usage = n }

-- their starts are those that were given
pub starts_made : (ss : List Term) (ds us : List ℤ) → length ds ≡ length ss → length us ≡ length ss → starts (made ss ds us) ≡ ss
starts_made [] ds us e f = refl
starts_made (s ∷ ss) [] us e f = absurd (omega arith)
starts_made (s ∷ ss) (d ∷ ds) [] e f = absurd (omega arith)
starts_made (s ∷ ss) (d ∷ ds) (u ∷ us) e f = ap (λ (ts : List Term). s ∷ ts) (starts_made ss ds us (omega arith) (omega arith))

-- there are as many as starts
length_made : (ss : List Term) (ds us : List ℤ) → length ds ≡ length ss → length us ≡ length ss → length (made ss ds us) ≡ length ss
length_made [] ds us e f = refl
length_made (s ∷ ss) [] us e f = absurd (omega arith)
length_made (s ∷ ss) (d ∷ ds) [] e f = absurd (omega arith)
length_made (s ∷ ss) (d ∷ ds) (u ∷ us) e f = let h = length_made ss ds us (omega arith) (omega arith) in omega arith

-- the one at a place is of what stands there
at_place : (ss : List Term) (ds us : List ℤ) (i : ℕ) (s : Term) (d u : ℤ) → length ds ≡ length ss → length us ≡ length ss → i < length ss → get_or (made ss ds us) i (task_of (s, (d, u))) ≡ task_of (get_or ss i s, (get_or ds i d, get_or us i u))
at_place ss ds us i s d u e f h =
    get_or-map task_of (zip ss (zip ds us)) i (s, (d, u)) _ (omega (arith, length-zip ss (zip ds us), length-zip ds us))
    ∙ ap task_of (get_or-zip ss (zip ds us) i (s, (d, u)) h (omega (arith, length-zip ds us)))
    ∙ ap (λ (k : ℤ × ℤ). task_of (get_or ss i s, k)) (get_or-zip ds us i (d, u) (omega arith) (omega arith))

-- one more
made_more : (ss : List Term) (ds us : List ℤ) (i : ℕ) (ks : List Task) (s : Term) (d u : ℤ) → length ds ≡ length ss → length us ≡ length ss → i < length ss → s ≡ get_or ss i s → ks ≡ take i (made ss ds us)
    → ks ++ task_of (s, (get_or ds i d, get_or us i u)) ∷ [] ≡ take (i + 1) (made ss ds us)
made_more ss ds us i ks s d u e f h k so_far =
    ap (λ (js : List Task). js ++ task_of (s, (get_or ds i d, get_or us i u)) ∷ []) so_far
    ∙ ap (λ (t : Term). take i (made ss ds us) ++ task_of (t, (get_or ds i d, get_or us i u)) ∷ []) k
    ∙ ap (λ (j : Task). take i (made ss ds us) ++ j ∷ []) (sym (at_place ss ds us i s d u e f h))
    ∙ sym (take_more (made ss ds us) i (task_of (s, (d, u))) (let n = length_made ss ds us e f in omega arith))

task_by : (s : Term) (d u : ℤ) (m n : ℕ) → m ≡ unsigned_abs d → n ≡ unsigned_abs u → task s m n ≡ task_of (s, (d, u))
task_by s d u m n e f = cc

-- one more, as it is pushed
pub made_push : (ss : List Term) (ds us : List ℤ) (i : ℕ) (ks js : List Task) (s : Term) (m n : ℕ) → length ds ≡ length ss → length us ≡ length ss → i < length ss → s ≡ get_or ss i s → ks ≡ take i (made ss ds us)
    → m ≡ unsigned_abs (get_or ds i (pos 0)) → n ≡ unsigned_abs (get_or us i (pos 0)) → js ≡ ks ++ task s m n ∷ [] → js ≡ take (i + 1) (made ss ds us)
made_push ss ds us i ks js s m n e f h k so_far duration usage pushed =
    pushed
    ∙ ap (λ (j : Task). ks ++ j ∷ []) (task_by s (get_or ds i (pos 0)) (get_or us i (pos 0)) m n duration usage)
    ∙ made_more ss ds us i ks s (pos 0) (pos 0) e f h k so_far

-- all of them
pub made_all : (ss : List Term) (ds us : List ℤ) (i : ℕ) (ks : List Task) → length ds ≡ length ss → length us ≡ length ss → length ss ≤ i → ks ≡ take i (made ss ds us) → ks ≡ made ss ds us
made_all ss ds us i ks e f h so_far = so_far ∙ take_all i (made ss ds us) (let n = length_made ss ds us e f in omega arith)
