-- Atoms that are kept once, one atom on.
use Rattle.std.proofs.Common.{◌≡◌, ℕ, ◌+◌, ◌<◌, ◌≤◌, Bool, true, false, cond, not, ◌&&◌, ◌||◌, ◌==◌, ◌↔◌, List, [], ◌∷◌, ◌++◌, length, get_or, take, min, ℤ, int_le, refl, sym, ◌∙◌, ap, subst, inl, inr, arith}
use Rattle.std.specs.List.{filter}
use Rattle.std.proofs.lemmas.Bool.{false≢true, both_ways, and_parts, and_from, false_from_ne_true, not_from_true, not_from_false, or_cases, or_parts}
use Rattle.std.proofs.lemmas.Bool.Decides.{Decides-eqb}
use Rattle.std.proofs.lemmas.List.{append-nil, length-take, take_more}
use Rattle.std.proofs.lemmas.List.Elements.{filter-append}
use Rattle.std.proofs.lemmas.List.Folds.{list_any-append}
use Rattle.dp_base.specs.Lists.{Among, Each}
use Rattle.dp_base.proofs.Lists.{Each-from_among, Among-filter_only, Among-filter_all, length-filter_cases, list_any-at, list_any-some}
use Rattle.dp_domain.specs.Atoms.{Atomic}
use Rattle.dp_domain.specs.declared.atom.Op.{Op}
use Rattle.dp_domain.specs.declared.atom.Op.TheVariants.{Ge, Le, Eq, Ne}
use Rattle.dp_domain.specs.Faces.{Covers}
use Rattle.dp_domain.specs.States.{Domains}
use Rattle.dp_domain.proofs.AtomLaws.{same-from_tests, tests-from_same}
use Rattle.dp_base.proofs.Lists.{Each-among}
use Rattle.dp_rule_clause.specs.NogoodLaws.{atom_in_scope}
use Rattle.dp_rule_clause.specs.Nogoods.{IsOnce, each_once, has_atom, same_atom, same_op, scope_of}

-- ---- equal atoms

-- comparisons that pass the test are one
pub op_where : (o p : Op) → same_op o p ≡ true → o ≡ p
op_where Ge Ge e = refl
op_where Le Le e = refl
op_where Eq Eq e = refl
op_where Ne Ne e = refl
op_where o p e = absurd (false≢true e)

same_op_itself : (o : Op) → same_op o o ≡ true
same_op_itself Ge = refl
same_op_itself Le = refl
same_op_itself Eq = refl
same_op_itself Ne = refl

-- atoms of one variable, comparison and number are one
pub atoms_equal : (a b : Atomic) → a.var ≡ b.var → a.op ≡ b.op → a.value ≡ b.value → a ≡ b
atoms_equal a b e f g =
    let by_var : ℕ → Atomic = λ x. record { var = x; op = a.op; value = a.value } in
    let by_op : Op → Atomic = λ o. record { var = b.var; op = o; value = a.value } in
    let by_value : ℤ → Atomic = λ v. record { var = b.var; op = b.op; value = v } in
    ap by_var e ∙ ap by_op f ∙ ap by_value g

-- atoms that pass the test are one
pub same_where : (a b : Atomic) → same_atom a b ≡ true → a ≡ b
same_where a b e =
    let p = and_parts (a.var == b.var) (same_op a.op b.op && (int_le a.value b.value && int_le b.value a.value)) e in
    let q = and_parts (same_op a.op b.op) (int_le a.value b.value && int_le b.value a.value) p.1 in
    atoms_equal a b ((Decides-eqb a.var b.var).0 p.0) (op_where a.op b.op q.0) (same-from_tests a.value b.value q.1)

-- an atom passes with itself
pub same_itself : (a : Atomic) → same_atom a a ≡ true
same_itself a =
    and_from (a.var == a.var) (same_op a.op a.op && (int_le a.value a.value && int_le a.value a.value))
    ((Decides-eqb a.var a.var).1 refl)
    (and_from (same_op a.op a.op) (int_le a.value a.value && int_le a.value a.value) (same_op_itself a.op) (tests-from_same a.value a.value refl))

-- ---- whether an atom is one of these

pub has-among : (xs : List Atomic) (a : Atomic) → Among a xs → has_atom xs a ≡ true
has-among xs a h = list_any-at (λ b. same_atom b a) xs a h (same_itself a)

pub among-has : (xs : List Atomic) (a : Atomic) → has_atom xs a ≡ true → Among a xs
among-has xs a e = let r = list_any-some (λ b. same_atom b a) xs e in subst (λ b. Among b xs) (same_where r.0 a r.2) r.1

same_bits : (a b : Bool) → (a ≡ true → b ≡ true) → (b ≡ true → a ≡ true) → a ≡ b
same_bits true b f g = sym (f refl)
same_bits false b f g = sym (false_from_ne_true b (λ e. false≢true (g e)))

-- one atom more
pub has-more : (xs : List Atomic) (a b : Atomic) → has_atom (xs ++ a ∷ []) b ≡ (has_atom xs b || same_atom a b)
has-more xs a b = list_any-append (λ c. same_atom c b) xs (a ∷ []) ∙ ap (λ t. has_atom xs b || t) (or_false (same_atom a b))
  where
    or_false : (t : Bool) → (t || false) ≡ t
    or_false true = refl
    or_false false = refl

among_once : (xs : List Atomic) (a : Atomic) → Among a (each_once xs) → Among a xs
among_once [] a h = h
among_once (x ∷ xs) a (inl e) = inl e
among_once (x ∷ xs) a (inr h) = inr (among_once xs a (Among-filter_only (λ b. not (same_atom x b)) (each_once xs) a h).0)

among_once_step : (x : Atomic) (ys : List Atomic) (a : Atomic) (t : Bool) → same_atom x a ≡ t → Among a ys → Among a (x ∷ filter (λ b. not (same_atom x b)) ys)
among_once_step x ys a true e h = inl (sym (same_where x a e))
among_once_step x ys a false e h = inr (Among-filter_all (λ b. not (same_atom x b)) ys a h (not_from_false (same_atom x a) e))

once_among : (xs : List Atomic) (a : Atomic) → Among a xs → Among a (each_once xs)
once_among [] a h = h
once_among (x ∷ xs) a (inl e) = inl e
once_among (x ∷ xs) a (inr h) = among_once_step x (each_once xs) a (same_atom x a) refl (once_among xs a h)

-- the atoms are the same when each is kept once
pub has-once : (xs : List Atomic) (a : Atomic) → has_atom (each_once xs) a ≡ has_atom xs a
has-once xs a = same_bits (has_atom (each_once xs) a) (has_atom xs a)
    (λ e. has-among xs a (among_once xs a (among-has (each_once xs) a e)))
    (λ e. has-among (each_once xs) a (once_among xs a (among-has xs a e)))

once_filter : (p : Atomic → Bool) (xs : List Atomic) → IsOnce xs → IsOnce (filter p xs)
once_filter p [] once = tt
once_filter p (x ∷ xs) once = once_filter_step p x xs (p x) once.0 (once_filter p xs once.1)
  where
    once_filter_step : (p : Atomic → Bool) (x : Atomic) (xs : List Atomic) (t : Bool) → ¬ (Among x xs) → IsOnce (filter p xs) → IsOnce (cond t (x ∷ filter p xs) (filter p xs))
    once_filter_step p x xs true new once = (λ h. new (Among-filter_only p xs x h).0, once)
    once_filter_step p x xs false new once = once

-- each is kept once
pub once_each : (xs : List Atomic) → IsOnce (each_once xs)
once_each [] = tt
once_each (x ∷ xs) = (
  λ h. both_ways (not (same_atom x x)) (not_from_true (same_atom x x) (same_itself x)) (Among-filter_only (λ b. not (same_atom x b)) (each_once xs) x h).1,
  once_filter (λ b. not (same_atom x b)) (each_once xs) (once_each xs),
)

-- and no atom is lost or added
pub once_same : (xs : List Atomic) (a : Atomic) → Among a (each_once xs) ↔ Among a xs
once_same xs a = (among_once xs a, once_among xs a)

-- ---- one atom more

filter_end : (p : Atomic → Bool) (ys : List Atomic) (a : Atomic) (t : Bool) → p a ≡ t → filter p (ys ++ a ∷ []) ≡ filter p ys ++ cond t (a ∷ []) []
filter_end p ys a t e = filter-append p ys (a ∷ []) ∙ ap (λ b. filter p ys ++ cond b (a ∷ []) []) e

-- an atom that is new is kept
pub once-new : (xs : List Atomic) (a : Atomic) → has_atom xs a ≡ false → each_once (xs ++ a ∷ []) ≡ each_once xs ++ a ∷ []
once-new [] a e = refl
once-new (x ∷ xs) a e =
    let p = or_parts (same_atom x a) (has_atom xs a) e in
    ap (λ ys. x ∷ filter (λ b. not (same_atom x b)) ys) (once-new xs a p.1)
    ∙ ap (λ ys. x ∷ ys) (filter_end (λ b. not (same_atom x b)) (each_once xs) a true (not_from_false (same_atom x a) p.0))

once_there_step : (x : Atomic) (xs : List Atomic) (a : Atomic) (t : Bool) → has_atom xs a ≡ t → (has_atom xs a ≡ true → each_once (xs ++ a ∷ []) ≡ each_once xs) → (same_atom x a || has_atom xs a) ≡ true
    → each_once (x ∷ (xs ++ a ∷ [])) ≡ each_once (x ∷ xs)
once_there_step x xs a true e next h = ap (λ ys. x ∷ filter (λ b. not (same_atom x b)) ys) (next e)
once_there_step x xs a false e next h =
    let same : same_atom x a ≡ true = elim (or_cases (same_atom x a) (has_atom xs a) h) [ inl k ↦ k | inr k ↦ absurd (both_ways (has_atom xs a) e k) ] in
    ap (λ ys. x ∷ filter (λ b. not (same_atom x b)) ys) (once-new xs a e)
    ∙ ap (λ ys. x ∷ ys) (filter_end (λ b. not (same_atom x b)) (each_once xs) a false (not_from_true (same_atom x a) same))
    ∙ ap (λ ys. x ∷ ys) (append-nil (filter (λ b. not (same_atom x b)) (each_once xs)))

-- an atom that is there already is passed over
pub once-there : (xs : List Atomic) (a : Atomic) → has_atom xs a ≡ true → each_once (xs ++ a ∷ []) ≡ each_once xs
once-there [] a e = absurd (false≢true e)
once-there (x ∷ xs) a e = once_there_step x xs a (has_atom xs a) refl (λ h. once-there xs a h) e

-- ---- the loops

pub next_at : (xs : List Atomic) (i : ℕ) (a : Atomic) → i < length xs → a ≡ get_or xs i a → take (i + 1) xs ≡ take i xs ++ a ∷ []
next_at xs i a h e = take_more xs i a h ∙ ap (λ b. take i xs ++ b ∷ []) (sym e)

-- the atom at the place is kept, where it is none of those before it
pub kept_new : (xs : List Atomic) (i : ℕ) (a : Atomic) (kept : List Atomic) → i < length xs → a ≡ get_or xs i a → kept ≡ each_once (take i xs) → has_atom (take i xs) a ≡ false → kept ++ a ∷ [] ≡ each_once (take (i + 1) xs)
kept_new xs i a kept h e k new =
    ap (λ ys. ys ++ a ∷ []) k ∙ sym (once-new (take i xs) a new) ∙ sym (ap each_once (next_at xs i a h e))

-- and passed over, where it is one of them
pub kept_there : (xs : List Atomic) (i : ℕ) (a : Atomic) (kept : List Atomic) → i < length xs → a ≡ get_or xs i a → kept ≡ each_once (take i xs) → has_atom (take i xs) a ≡ true → kept ≡ each_once (take (i + 1) xs)
kept_there xs i a kept h e k there = k ∙ sym (once-there (take i xs) a there) ∙ sym (ap each_once (next_at xs i a h e))

-- the answer of a search in those that are kept
pub found_in_kept : (xs kept : List Atomic) (a : Atomic) (answer t : Bool) → kept ≡ each_once xs → answer ≡ has_atom kept a → answer ≡ t → has_atom xs a ≡ t
found_in_kept xs kept a answer t k e f = sym (has-once xs a) ∙ ap (λ ys. has_atom ys a) (sym k) ∙ sym e ∙ f

twice : (b : Bool) → b ≡ not (not b)
twice true = refl
twice false = refl

-- where the answer is whether the set has not had the atom, the atom is one of those before where the answer is no
pub had_by : (answer old had t : Bool) → answer ≡ not old → old ≡ had → answer ≡ t → had ≡ not t
had_by answer old had t e f k = sym f ∙ twice old ∙ ap not (sym e ∙ k)

cond_or : (a b : Bool) → cond a true b ≡ (b || a)
cond_or true true = refl
cond_or true false = refl
cond_or false true = refl
cond_or false false = refl

-- a set of the atoms before the place, with the atom at the place, is one of the atoms before the next
pub seen_next : (xs : List Atomic) (i : ℕ) (a : Atomic) (old new at : Atomic → Bool) → i < length xs → a ≡ get_or xs i a → ((b : Atomic) → at b ≡ same_atom a b) → ((b : Atomic) → new b ≡ cond (at b) true (old b)) → ((b : Atomic) → old b ≡ has_atom (take i xs) b)
    → (b : Atomic) → new b ≡ has_atom (take (i + 1) xs) b
seen_next xs i a old new at h e same adds had b =
    adds b ∙ ap (λ t. cond t true (old b)) (same b) ∙ cond_or (same_atom a b) (old b) ∙ ap (λ t. t || same_atom a b) (had b)
    ∙ sym (has-more (take i xs) a b)
    ∙ sym (ap (λ ys. has_atom ys b) (next_at xs i a h e))

-- no more are kept than there are
pub length-once : (xs : List Atomic) → length (each_once xs) ≤ length xs
length-once [] = omega arith
length-once (x ∷ xs) =
    let shorter = (length-filter_cases (λ b. not (same_atom x b)) (each_once xs)).0 in
    let next = length-once xs in
    omega (arith, shorter, next)

pub length-kept : (xs : List Atomic) (i n : ℕ) (kept : List Atomic) → i < length xs → length xs ≤ n → kept ≡ each_once (take i xs) → length kept + 1 ≤ n
length-kept xs i n kept h few k =
    let a = length-once (take i xs) in
    let b : length (take i xs) ≤ i = at_most i (length xs) (length (take i xs)) (length-take i xs) in
    let c : length kept ≡ length (each_once (take i xs)) = ap length k in
    omega (arith, a, b, c)
  where
    at_most : (i n m : ℕ) → m ≡ min i n → m ≤ i
    at_most i n m e = omega (arith, e)

-- ---- scopes

-- the variable of each atom of a nogood whose scope is covered has a set
pub atoms_covered : (atoms : List Atomic) (d : Domains) → Covers (scope_of atoms) d → Each (λ a. a.var < length d) atoms
atoms_covered atoms d covers =
    Each-from_among (λ a. a.var < length d) atoms (λ a here. Each-among (λ x. x < length d) (scope_of atoms) covers a.var (atom_in_scope atoms a here))
