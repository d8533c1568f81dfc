-- How many variables, constraints and nogoods the texts have.
use Rattle.std.proofs.Common.{◌≡◌, ℕ, zero, suc, ◌+◌, ◌*◌, cond, List, [], ◌∷◌, ◌++◌, length, map, refl, ◌∙◌, ap, arith, length-append}
use Rattle.std.specs.Prelude.{codes, nat_eq}
use Rattle.std.specs.List.{flat_map, range_with_len, starts_with}
use Rattle.std.proofs.lemmas.List.Sums.{sum_by-append, sum_by-cons}
use Rattle.dp_gen.specs.Family.{blocks, brought, clauses, constrains, declares, links, model_lines, names, or_not, r, scaffold_lines, steps, variables}
use Rattle.dp_gen.specs.Laws.{Sizes, count_of}

-- ---- counting

-- 1 for a line that begins so
abbrev tally : List ℕ → List ℕ → ℕ
tally front line = cond (starts_with nat_eq line front) 1 0

count-cons : (front line : List ℕ) (lines : List (List ℕ)) → count_of front (line ∷ lines) ≡ tally front line + count_of front lines
count-cons front line lines = sum_by-cons (tally front) line lines

count-append : (front : List ℕ) (xs ys : List (List ℕ)) → count_of front (xs ++ ys) ≡ count_of front xs + count_of front ys
count-append front xs ys = sum_by-append (tally front) xs ys

-- each line begins so
all_counted : {A : Type 0} (front : List ℕ) (line : A → List ℕ) → ((x : A) → tally front (line x) ≡ 1) → (xs : List A) → count_of front (map line xs) ≡ length xs
all_counted front line each [] = refl
all_counted front line each (x ∷ xs) =
    let e : tally front (line x) + count_of front (map line xs) ≡ suc (length xs) = omega (arith, each x, all_counted front line each xs) in
    count-cons front (line x) (map line xs) ∙ e

-- no line begins so
none_counted : {A : Type 0} (front : List ℕ) (line : A → List ℕ) → ((x : A) → tally front (line x) ≡ 0) → (xs : List A) → count_of front (map line xs) ≡ 0
none_counted front line each [] = refl
none_counted front line each (x ∷ xs) =
    let e : tally front (line x) + count_of front (map line xs) ≡ 0 = omega (arith, each x, none_counted front line each xs) in
    count-cons front (line x) (map line xs) ∙ e

-- ---- the lists

-- two items of each block
pairs : {A : Type 0} (f : ℕ → List A) → ((k : ℕ) → length (f k) ≡ 2) → (a m : ℕ) → length (flat_map f (range_with_len a m)) ≡ 2 * m
pairs f two a zero = refl
pairs f two a (suc m) =
    let e : length (f a) + length (flat_map f (range_with_len (a + 1) m)) ≡ 2 * suc m = omega (arith, two a, pairs f two (a + 1) m) in
    length-append (f a) (flat_map f (range_with_len (a + 1) m)) ∙ e

length-variables : (n : ℕ) → length (variables n) ≡ 2 * n + 2
length-variables n =
    let e : length (flat_map brought (blocks n)) ≡ 2 * n = pairs brought (λ k. refl) 1 n in omega (arith, e)

length-clauses : (n : ℕ) → length (clauses n) ≡ 2 * n + 2
length-clauses n =
    let linked = flat_map links (blocks n) in
    let last = or_not [] (r n ∷ []) ∷ [] in
    let e : length linked ≡ 2 * n = pairs links (λ k. refl) 1 n in
    let f : length (linked ++ last) ≡ length linked + 1 = length-append linked last in
    omega (arith, e, f)

-- ---- the texts

-- the lines of a model are those of its variables, those of its clauses and the goal's
model_parts : (front : List ℕ) (n : ℕ)
    → count_of front (model_lines n) ≡ count_of front (map declares (variables n)) + count_of front (map constrains (clauses n)) + count_of front (codes "solve satisfy;" ∷ [])
model_parts front n =
    let declared = map declares (variables n) in
    let constrained = map constrains (clauses n) in
    count-append front (declared ++ constrained) (codes "solve satisfy;" ∷ [])
    ∙ ap (λ (k : ℕ). k + count_of front (codes "solve satisfy;" ∷ [])) (count-append front declared constrained)

variable_count : (n : ℕ) → count_of (codes "var ") (model_lines n) ≡ 2 * n + 2
variable_count n =
    let declared : count_of (codes "var ") (map declares (variables n)) ≡ length (variables n) = all_counted (codes "var ") declares (λ name. refl) (variables n) in
    let constrained : count_of (codes "var ") (map constrains (clauses n)) ≡ 0 = none_counted (codes "var ") constrains (λ c. refl) (clauses n) in
    let e : count_of (codes "var ") (map declares (variables n)) + count_of (codes "var ") (map constrains (clauses n)) + 0 ≡ 2 * n + 2 =
    omega (arith, declared, constrained, length-variables n) in
    model_parts (codes "var ") n ∙ e

constraint_count : (n : ℕ) → count_of (codes "constraint ") (model_lines n) ≡ 2 * n + 2
constraint_count n =
    let declared : count_of (codes "constraint ") (map declares (variables n)) ≡ 0 = none_counted (codes "constraint ") declares (λ name. refl) (variables n) in
    let constrained : count_of (codes "constraint ") (map constrains (clauses n)) ≡ length (clauses n) = all_counted (codes "constraint ") constrains (λ c. refl) (clauses n) in
    let e : count_of (codes "constraint ") (map declares (variables n)) + count_of (codes "constraint ") (map constrains (clauses n)) + 0 ≡ 2 * n + 2 =
    omega (arith, declared, constrained, length-clauses n) in
    model_parts (codes "constraint ") n ∙ e

-- a nogood of each block
step_count : (a m : ℕ) → count_of (codes "n ") (flat_map steps (range_with_len a m)) ≡ m
step_count a zero = refl
step_count a (suc m) =
    let further = flat_map steps (range_with_len (a + 1) m) in
    let e : 1 + count_of (codes "n ") further ≡ suc m = omega (arith, step_count (a + 1) m) in
    count-append (codes "n ") (steps a) further ∙ e

nogood_count : (n : ℕ) → count_of (codes "n ") (scaffold_lines n) ≡ n + 1
nogood_count n =
    let head = names 1 (codes "z") ∷ codes "n 1 1" ∷ names 2 (r 0) ∷ [] in
    let stepped = flat_map steps (blocks n) in
    let rest : count_of (codes "n ") (stepped ++ codes "c UNSAT" ∷ []) ≡ count_of (codes "n ") stepped + 0 = count-append (codes "n ") stepped (codes "c UNSAT" ∷ []) in
    let e : 1 + count_of (codes "n ") (stepped ++ codes "c UNSAT" ∷ []) ≡ n + 1 = omega (arith, rest, step_count 1 n) in
    count-append (codes "n ") head (stepped ++ codes "c UNSAT" ∷ []) ∙ e

pub sizes : Sizes
sizes n = record {
  variables = variable_count n;
  constraints = constraint_count n;
  nogoods = nogood_count n;
}
