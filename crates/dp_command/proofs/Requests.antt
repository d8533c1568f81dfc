-- Words that ask for one command do not ask for another, and what they ask for is in range.
use Rattle.std.specs.Prelude.{◌≡◌, ◌⊎◌, ℕ, ◌+◌, ◌*◌, ◌≤◌, List, [], ◌∷◌, get_or}
use Rattle.std.proofs.Common.{ap, inl, inr, arith, lit≤}
use Rattle.dp_command.specs.Words.{Request, Check, Show, Process, Solve, Prove, Gen, AskBoth, AskConflicts, AskWorkers, IsInRange, Spells, IsCheck, IsGen, IsProcess, IsProve, IsShow, IsSolve}

-- ---- a number by which the first words differ

-- made of the first letter and the fourth
mark : List (List ℕ) → ℕ
mark words = get_or (get_or words 0 []) 0 0 + 256 * get_or (get_or words 0 []) 3 0

check_mark : (words : List (List ℕ)) → IsCheck words → mark words ≡ 25443
unfolding mark
check_mark words (model, log, check) = ap mark check

show_mark : (words : List (List ℕ)) → IsShow words → mark words ≡ 30579
unfolding mark
show_mark words (log, show) = ap mark show

process_mark : (words : List (List ℕ)) → IsProcess words → mark words ≡ 25456
unfolding mark
process_mark words (model, scaffold, out, workers, process) = ap mark process.1

solve_mark : (words : List (List ℕ)) → IsSolve words → mark words ≡ 30323
unfolding mark
solve_mark words (model, out, most, solve) = ap mark solve.1

prove_mark : (words : List (List ℕ)) → IsProve words → mark words ≡ 30320
unfolding mark
prove_mark words (model, workers, most, prove) = ap mark prove.1

gen_mark : (words : List (List ℕ)) → IsGen words → mark words ≡ 103
unfolding mark
gen_mark words (n, model, scaffold, gen) = ap mark gen.1

apart : (n a b : ℕ) → a + 1 ≤ b → n ≡ a → n ≡ b → ⊥
apart n a b h e f = omega (arith, h, e, f)

-- ---- one command is not another

pub check_shows_not : (words : List (List ℕ)) → IsCheck words → IsShow words → ⊥
check_shows_not words check show = apart (mark words) 25443 30579 (lit≤ tt) (check_mark words check) (show_mark words show)

pub check_processes_not : (words : List (List ℕ)) → IsCheck words → IsProcess words → ⊥
check_processes_not words check process = apart (mark words) 25443 25456 (lit≤ tt) (check_mark words check) (process_mark words process)

pub check_solves_not : (words : List (List ℕ)) → IsCheck words → IsSolve words → ⊥
check_solves_not words check solve = apart (mark words) 25443 30323 (lit≤ tt) (check_mark words check) (solve_mark words solve)

pub check_proves_not : (words : List (List ℕ)) → IsCheck words → IsProve words → ⊥
check_proves_not words check prove = apart (mark words) 25443 30320 (lit≤ tt) (check_mark words check) (prove_mark words prove)

pub show_processes_not : (words : List (List ℕ)) → IsShow words → IsProcess words → ⊥
show_processes_not words show process = apart (mark words) 25456 30579 (lit≤ tt) (process_mark words process) (show_mark words show)

pub show_solves_not : (words : List (List ℕ)) → IsShow words → IsSolve words → ⊥
show_solves_not words show solve = apart (mark words) 30323 30579 (lit≤ tt) (solve_mark words solve) (show_mark words show)

pub show_proves_not : (words : List (List ℕ)) → IsShow words → IsProve words → ⊥
show_proves_not words show prove = apart (mark words) 30320 30579 (lit≤ tt) (prove_mark words prove) (show_mark words show)

pub process_solves_not : (words : List (List ℕ)) → IsProcess words → IsSolve words → ⊥
process_solves_not words process solve = apart (mark words) 25456 30323 (lit≤ tt) (process_mark words process) (solve_mark words solve)

pub process_proves_not : (words : List (List ℕ)) → IsProcess words → IsProve words → ⊥
process_proves_not words process prove = apart (mark words) 25456 30320 (lit≤ tt) (process_mark words process) (prove_mark words prove)

pub solve_proves_not : (words : List (List ℕ)) → IsSolve words → IsProve words → ⊥
solve_proves_not words solve prove = apart (mark words) 30320 30323 (lit≤ tt) (prove_mark words prove) (solve_mark words solve)

pub gen_checks_not : (words : List (List ℕ)) → IsGen words → IsCheck words → ⊥
gen_checks_not words gen check = apart (mark words) 103 25443 (lit≤ tt) (gen_mark words gen) (check_mark words check)

pub gen_shows_not : (words : List (List ℕ)) → IsGen words → IsShow words → ⊥
gen_shows_not words gen show = apart (mark words) 103 30579 (lit≤ tt) (gen_mark words gen) (show_mark words show)

pub gen_processes_not : (words : List (List ℕ)) → IsGen words → IsProcess words → ⊥
gen_processes_not words gen process = apart (mark words) 103 25456 (lit≤ tt) (gen_mark words gen) (process_mark words process)

pub gen_solves_not : (words : List (List ℕ)) → IsGen words → IsSolve words → ⊥
gen_solves_not words gen solve = apart (mark words) 103 30323 (lit≤ tt) (gen_mark words gen) (solve_mark words solve)

pub gen_proves_not : (words : List (List ℕ)) → IsGen words → IsProve words → ⊥
gen_proves_not words gen prove = apart (mark words) 103 30320 (lit≤ tt) (gen_mark words gen) (prove_mark words prove)

-- ---- the numbers

one_in_range : (n greatest : ℕ) → n ≡ 1 → 1 ≤ greatest → (1 ≤ n) × (n ≤ greatest)
one_in_range n greatest e h = (omega (arith, e), omega (arith, e, h))

million_in_range : (most : ℕ) → most ≡ 1000000 → (1 ≤ most) × (most ≤ 4000000000)
million_in_range most e = (omega (arith, e), omega (arith, e))

workers_in_range : (options : List (List ℕ)) (workers : ℕ) → AskWorkers options workers → (1 ≤ workers) × (workers ≤ 64)
workers_in_range [] workers e = one_in_range workers 64 e (lit≤ tt)
workers_in_range (word ∷ []) workers e = absurd e
workers_in_range (word ∷ digits ∷ []) workers e = (e.count.some, e.count.few)
workers_in_range (word ∷ digits ∷ other ∷ options) workers e = absurd e

conflicts_in_range : (options : List (List ℕ)) (most : ℕ) → AskConflicts options most → (1 ≤ most) × (most ≤ 4000000000)
conflicts_in_range [] most e = million_in_range most e
conflicts_in_range (word ∷ []) most e = absurd e
conflicts_in_range (word ∷ digits ∷ []) most e = (e.count.some, e.count.few)
conflicts_in_range (word ∷ digits ∷ other ∷ options) most e = absurd e

both_in_range : (options : List (List ℕ)) (workers most : ℕ) → AskBoth options workers most → (1 ≤ workers) × (workers ≤ 64) × (1 ≤ most) × (most ≤ 4000000000)
both_in_range [] workers most e =
    let w = one_in_range workers 64 e.0 (lit≤ tt) in let m = million_in_range most e.1 in (w.0, w.1, m.0, m.1)
both_in_range (word ∷ []) workers most e = absurd e
both_in_range (word ∷ digits ∷ []) workers most (inl e) = let m = million_in_range most e.1 in (e.0.count.some, e.0.count.few, m.0, m.1)
both_in_range (word ∷ digits ∷ []) workers most (inr e) =
    let w = one_in_range workers 64 e.0 (lit≤ tt) in (w.0, w.1, e.1.count.some, e.1.count.few)
both_in_range (word ∷ digits ∷ other ∷ []) workers most e = absurd e
both_in_range (word ∷ digits ∷ other ∷ others ∷ []) workers most (inl e) = (e.0.count.some, e.0.count.few, e.1.count.some, e.1.count.few)
both_in_range (word ∷ digits ∷ other ∷ others ∷ []) workers most (inr e) = (e.1.count.some, e.1.count.few, e.0.count.some, e.0.count.few)
both_in_range (word ∷ digits ∷ other ∷ others ∷ next ∷ options) workers most e = absurd e

-- each number that a command asks for is one at least, and not too large
pub in_range : (request : Request) (words : List (List ℕ)) → Spells request words → IsInRange request
in_range (Check model log) words e = tt
in_range (Show log) words e = tt
in_range (Process model scaffold out workers) words e = workers_in_range e.0 workers e.2
in_range (Solve model out most) words e = conflicts_in_range e.0 most e.2
in_range (Prove model workers most) words e = both_in_range e.0 workers most e.2
in_range (Gen n model scaffold) words e = (e.2.some, e.2.few)
