-- What rows of Boolean literals say.
use Rattle.std.proofs.Common.{◌≡◌, ℕ, Bool, true, false, List, [], ◌∷◌, ◌++◌, map, ℤ, refl, sym, ◌∙◌, ap}
use Rattle.std.specs.Prelude.{not, ◌&&◌, ◌||◌}
use Rattle.std.specs.List.{list_all, list_any}
use Rattle.dp_domain.specs.Terms.{term_at}
use Rattle.dp_domain.specs.declared.term.Term.{Term}
use Rattle.fz_sat.specs.Meaning.{iff, is_on}
use Rattle.dp_lower.specs.Recipe.{all_rows, any_rows, clause_row, clause_rows, rows_by}
use Rattle.dp_lower.specs.declared.literal.Literal.{Literal}
use Rattle.dp_lower.specs.declared.literal.Literal.TheVariants.{Holds, Fails}
use Rattle.dp_lower.proofs.SideLaws.{is_so, not_all}

-- ---- tests of lists

and_assoc : (x y z : Bool) → ((x && y) && z) ≡ (x && (y && z))
and_assoc true y z = refl
and_assoc false y z = refl

pub list_all-append : {A : Type 0} (p : A → Bool) (xs ys : List A) → list_all p (xs ++ ys) ≡ (list_all p xs && list_all p ys)
list_all-append p [] ys = refl
list_all-append p (x ∷ xs) ys = ap (λ b. p x && b) (list_all-append p xs ys) ∙ sym (and_assoc (p x) (list_all p xs) (list_all p ys))

pub list_all-map : {A B : Type 0} (p : B → Bool) (f : A → B) (xs : List A) → list_all p (map f xs) ≡ list_all (λ x. p (f x)) xs
list_all-map p f [] = refl
list_all-map p f (x ∷ xs) = ap (λ b. p (f x) && b) (list_all-map p f xs)

-- the terms all hold
abbrev pub all_on : (ℕ → ℤ) → List Term → Bool
all_on s terms = list_all is_on (map (term_at s) terms)

-- some term holds
abbrev pub some_on : (ℕ → ℤ) → List Term → Bool
some_on s terms = list_any is_on (map (term_at s) terms)

-- some term fails
abbrev pub some_off : (ℕ → ℤ) → List Term → Bool
some_off s terms = list_any (λ v. not (is_on v)) (map (term_at s) terms)

pub holds_are_so : (s : ℕ → ℤ) (terms : List Term) → list_all (is_so s) (map Holds terms) ≡ all_on s terms
holds_are_so s [] = refl
holds_are_so s (t ∷ terms) = ap (λ b. is_on (term_at s t) && b) (holds_are_so s terms)

not_or : (x y : Bool) → (not x && not y) ≡ not (x || y)
not_or true y = refl
not_or false y = refl

fails_are_so : (s : ℕ → ℤ) (terms : List Term) → list_all (is_so s) (map Fails terms) ≡ not (some_on s terms)
fails_are_so s [] = refl
fails_are_so s (t ∷ terms) = ap (λ b. not (is_on (term_at s t)) && b) (fails_are_so s terms) ∙ not_or (is_on (term_at s t)) (some_on s terms)

not_not_or : (x y : Bool) → (x && not y) ≡ not (not x || y)
not_not_or true y = refl
not_not_or false y = refl

holds_not_off : (s : ℕ → ℤ) (terms : List Term) → list_all (is_so s) (map Holds terms) ≡ not (some_off s terms)
holds_not_off s [] = refl
holds_not_off s (t ∷ terms) = ap (λ b. is_on (term_at s t) && b) (holds_not_off s terms) ∙ not_not_or (is_on (term_at s t)) (some_off s terms)

-- ---- rows for each of a list

on_then : (r a rest : Bool) → (not (r && (not a && true)) && (not r || rest)) ≡ (not r || (a && rest))
on_then true true rest = refl
on_then true false rest = refl
on_then false a true = refl
on_then false a false = refl

each_then_on : (s : ℕ → ℤ) (r : Term) (terms : List Term) → list_all (not_all s) (map (λ a. Holds r ∷ Fails a ∷ []) terms) ≡ (not (is_on (term_at s r)) || all_on s terms)
each_then_on s r [] = by (is_on (term_at s r))
  where
    by : (b : Bool) → true ≡ (not b || true)
    by true = refl
    by false = refl
each_then_on s r (t ∷ terms) =
    ap (λ b. not (is_on (term_at s r) && (not (is_on (term_at s t)) && true)) && b) (each_then_on s r terms)
    ∙ on_then (is_on (term_at s r)) (is_on (term_at s t)) (all_on s terms)

off_then : (r a rest : Bool) → (not (not r && (a && true)) && (r || not rest)) ≡ (r || not (a || rest))
off_then true a true = refl
off_then true a false = refl
off_then false true rest = refl
off_then false false rest = refl

each_else_off : (s : ℕ → ℤ) (r : Term) (terms : List Term) → list_all (not_all s) (map (λ a. Fails r ∷ Holds a ∷ []) terms) ≡ (is_on (term_at s r) || not (some_on s terms))
each_else_off s r [] = by (is_on (term_at s r))
  where
    by : (b : Bool) → true ≡ (b || true)
    by true = refl
    by false = refl
each_else_off s r (t ∷ terms) =
    ap (λ b. not (not (is_on (term_at s r)) && (is_on (term_at s t) && true)) && b) (each_else_off s r terms)
    ∙ off_then (is_on (term_at s r)) (is_on (term_at s t)) (some_on s terms)

off_else : (r a rest : Bool) → (not (not r && (not a && true)) && (r || not rest)) ≡ (r || not (not a || rest))
off_else true a true = refl
off_else true a false = refl
off_else false true rest = refl
off_else false false rest = refl

each_else_on : (s : ℕ → ℤ) (r : Term) (terms : List Term) → list_all (not_all s) (map (λ b. Fails r ∷ Fails b ∷ []) terms) ≡ (is_on (term_at s r) || not (some_off s terms))
each_else_on s r [] = by (is_on (term_at s r))
  where
    by : (b : Bool) → true ≡ (b || true)
    by true = refl
    by false = refl
each_else_on s r (t ∷ terms) =
    ap (λ b. not (not (is_on (term_at s r)) && (not (is_on (term_at s t)) && true)) && b) (each_else_on s r terms)
    ∙ off_else (is_on (term_at s r)) (is_on (term_at s t)) (some_off s terms)

-- ---- r and a list

all_by : (r all : Bool) → ((not r || all) && (not (not r && all) && true)) ≡ iff r all
all_by true true = refl
all_by true false = refl
all_by false true = refl
all_by false false = refl

-- r holds exactly where all hold
pub all_rows_say : (s : ℕ → ℤ) (r : Term) (terms : List Term) → iff (is_on (term_at s r)) (all_on s terms) ≡ list_all (not_all s) (all_rows terms r)
all_rows_say s r terms = sym (
    list_all-append (not_all s) (map (λ a. Holds r ∷ Fails a ∷ []) terms) ((Fails r ∷ map Holds terms) ∷ [])
    ∙ ap (λ b. b && (not_all s (Fails r ∷ map Holds terms) && true)) (each_then_on s r terms)
    ∙ ap (λ b. (not (is_on (term_at s r)) || all_on s terms) && (not (not (is_on (term_at s r)) && b) && true)) (holds_are_so s terms)
    ∙ all_by (is_on (term_at s r)) (all_on s terms)
    )

any_by : (r some : Bool) → ((r || not some) && (not (r && not some) && true)) ≡ iff r some
any_by true true = refl
any_by true false = refl
any_by false true = refl
any_by false false = refl

-- r holds exactly where some holds
pub any_rows_say : (s : ℕ → ℤ) (r : Term) (terms : List Term) → iff (is_on (term_at s r)) (some_on s terms) ≡ list_all (not_all s) (any_rows terms r)
any_rows_say s r terms = sym (
    list_all-append (not_all s) (map (λ a. Fails r ∷ Holds a ∷ []) terms) ((Holds r ∷ map Fails terms) ∷ [])
    ∙ ap (λ b. b && (not_all s (Holds r ∷ map Fails terms) && true)) (each_else_off s r terms)
    ∙ ap (λ b. (is_on (term_at s r) || not (some_on s terms)) && (not (is_on (term_at s r) && b) && true)) (fails_are_so s terms)
    ∙ any_by (is_on (term_at s r)) (some_on s terms)
    )

-- ---- clauses

clause_by : (x y : Bool) → (x || y) ≡ not (not x && not y)
clause_by true y = refl
clause_by false true = refl
clause_by false false = refl

clause_so : (s : ℕ → ℤ) (terms others : List Term) → list_all (is_so s) (clause_row terms others) ≡ (not (some_on s terms) && not (some_off s others))
clause_so s terms others =
    list_all-append (is_so s) (map Fails terms) (map Holds others)
    ∙ ap (λ b. b && list_all (is_so s) (map Holds others)) (fails_are_so s terms)
    ∙ ap (λ b. not (some_on s terms) && b) (holds_not_off s others)

-- some of the first holds or some of the second fails
pub clause_says : (s : ℕ → ℤ) (terms others : List Term) → (some_on s terms || some_off s others) ≡ not_all s (clause_row terms others)
clause_says s terms others = clause_by (some_on s terms) (some_off s others) ∙ ap not (sym (clause_so s terms others))

clause_rows_by : (r x y : Bool) → (not (r && (not x && not y)) && ((r || not x) && (r || not y))) ≡ iff r (x || y)
clause_rows_by true true y = refl
clause_rows_by true false true = refl
clause_rows_by true false false = refl
clause_rows_by false true y = refl
clause_rows_by false false true = refl
clause_rows_by false false false = refl

-- r holds exactly where the clause does
pub clause_rows_say : (s : ℕ → ℤ) (terms others : List Term) (r : Term) →
    iff (is_on (term_at s r)) (some_on s terms || some_off s others) ≡ list_all (not_all s) (clause_rows terms others r)
clause_rows_say s terms others r = sym (
    ap (λ b. not_all s (Holds r ∷ clause_row terms others) && b)
    (list_all-append (not_all s) (map (λ a. Fails r ∷ Holds a ∷ []) terms) (map (λ b. Fails r ∷ Fails b ∷ []) others))
    ∙ ap (λ b. not (is_on (term_at s r) && b) && (list_all (not_all s) (map (λ a. Fails r ∷ Holds a ∷ []) terms) && list_all (not_all s) (map (λ b. Fails r ∷ Fails b ∷ []) others))) (clause_so s terms others)
    ∙ ap (λ b. not (is_on (term_at s r) && (not (some_on s terms) && not (some_off s others))) && (b && list_all (not_all s) (map (λ b. Fails r ∷ Fails b ∷ []) others))) (each_else_off s r terms)
    ∙ ap (λ b. not (is_on (term_at s r) && (not (some_on s terms) && not (some_off s others))) && ((is_on (term_at s r) || not (some_on s terms)) && b)) (each_else_on s r others)
    ∙ clause_rows_by (is_on (term_at s r)) (some_on s terms) (some_off s others)
    )

-- ---- two Booleans, and three

pub same_row : (a b : Bool) → iff a b ≡ (not (a && (not b && true)) && (not (not a && (b && true)) && true))
same_row true true = refl
same_row true false = refl
same_row false true = refl
same_row false false = refl

pub other_row : (a b : Bool) → not (iff a b) ≡ (not (a && (b && true)) && (not (not a && (not b && true)) && true))
other_row true true = refl
other_row true false = refl
other_row false true = refl
other_row false false = refl

pub le_row : (a b : Bool) → (not a || b) ≡ (not (a && (not b && true)) && true)
le_row true true = refl
le_row true false = refl
le_row false true = refl
le_row false false = refl

pub lt_row : (a b : Bool) → (not a && b) ≡ (not (a && true) && (not (not b && true) && true))
lt_row true true = refl
lt_row true false = refl
lt_row false true = refl
lt_row false false = refl

-- rows under r, and others where r fails
rows_on : (s : ℕ → ℤ) (r : Term) (rows : List (List Literal)) → list_all (not_all s) (map (λ row. Holds r ∷ row) rows) ≡ (not (is_on (term_at s r)) || list_all (not_all s) rows)
rows_on s r [] = by (is_on (term_at s r))
  where
    by : (b : Bool) → true ≡ (not b || true)
    by true = refl
    by false = refl
rows_on s r (row ∷ rows) =
    ap (λ b. not_all s (Holds r ∷ row) && b) (rows_on s r rows) ∙ by (is_on (term_at s r)) (list_all (is_so s) row) (list_all (not_all s) rows)
  where
    by : (o x y : Bool) → (not (o && x) && (not o || y)) ≡ (not o || (not x && y))
    by true x y = refl
    by false x y = refl

rows_off : (s : ℕ → ℤ) (r : Term) (rows : List (List Literal)) → list_all (not_all s) (map (λ row. Fails r ∷ row) rows) ≡ (is_on (term_at s r) || list_all (not_all s) rows)
rows_off s r [] = by (is_on (term_at s r))
  where
    by : (b : Bool) → true ≡ (b || true)
    by true = refl
    by false = refl
rows_off s r (row ∷ rows) =
    ap (λ b. not_all s (Fails r ∷ row) && b) (rows_off s r rows) ∙ by (is_on (term_at s r)) (list_all (is_so s) row) (list_all (not_all s) rows)
  where
    by : (o x y : Bool) → (not (not o && x) && (o || y)) ≡ (o || (not x && y))
    by true x y = refl
    by false x y = refl

by_rows : (o b : Bool) → ((not o || b) && (o || not b)) ≡ iff o b
by_rows true true = refl
by_rows true false = refl
by_rows false true = refl
by_rows false false = refl

-- r says whether b, where b is what the rows say and not what the others say
pub rows_by_say : (s : ℕ → ℤ) (r : Term) (rows others : List (List Literal)) (b : Bool) → b ≡ list_all (not_all s) rows → not b ≡ list_all (not_all s) others →
    iff (is_on (term_at s r)) b ≡ list_all (not_all s) (rows_by r rows others)
rows_by_say s r rows others b e f = sym (
    list_all-append (not_all s) (map (λ row. Holds r ∷ row) rows) (map (λ row. Fails r ∷ row) others)
    ∙ ap (λ x. x && list_all (not_all s) (map (λ row. Fails r ∷ row) others)) (rows_on s r rows ∙ ap (λ x. not (is_on (term_at s r)) || x) (sym e))
    ∙ ap (λ x. (not (is_on (term_at s r)) || b) && x) (rows_off s r others ∙ ap (λ x. is_on (term_at s r) || x) (sym f))
    ∙ by_rows (is_on (term_at s r)) b
    )

pub not_other_row : (a b : Bool) → not (not (iff a b)) ≡ (not (a && (not b && true)) && (not (not a && (b && true)) && true))
not_other_row true true = refl
not_other_row true false = refl
not_other_row false true = refl
not_other_row false false = refl

pub not_le_row : (a b : Bool) → not (not a || b) ≡ (not (not a && true) && (not (b && true) && true))
not_le_row true true = refl
not_le_row true false = refl
not_le_row false true = refl
not_le_row false false = refl

pub not_lt_row : (a b : Bool) → not (not a && b) ≡ (not (not a && (b && true)) && true)
not_lt_row true true = refl
not_lt_row true false = refl
not_lt_row false true = refl
not_lt_row false false = refl
