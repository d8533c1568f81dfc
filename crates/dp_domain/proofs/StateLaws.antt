-- Laws of states: cuts, smaller states, entailed atoms, assignments within a state, empty sets.
use Rattle.std.proofs.Common.{◌≡◌, ℕ, ◌+◌, ◌<◌, ◌≤◌, true, false, cond, nat_lt, zero-add, ◌⊎◌, List, [], ◌∷◌, length, get_or, set, ℤ, refl, sym, ◌∙◌, ap, subst, inl, inr, arith}
use Rattle.std.specs.List.{filter}
use Rattle.std.proofs.lemmas.Bool.{false≢true, both_ways, cases_Bool, cases_eq, cases_lt, not_from_true, true_from_ne_false, false_from_ne_true}
use Rattle.std.proofs.lemmas.Bool.Decides.{nat_tests}
use Rattle.std.proofs.lemmas.List.{length-set, get_or-set_same, get_or-set_other, set-get_or, set-set, set_comm, set_past, get_or_past, get_or_default, same_lists}
use Rattle.std.proofs.lemmas.List.Sums.{sum_by-cons, sum_by-set}
use Rattle.dp_base.specs.Lists.{Among, Each}
use Rattle.dp_base.proofs.Lists.{Each-set, length-filter_cases, Among-get_or, Contains-from_among, Among-filter_only, Among-filter_all, Each-among, list_all-at, list_all-from, list_all-fails, list_all-not, list_any-some, list_any-at, list_any-none, filter-whole, filter-filter}
use Rattle.dp_domain.specs.Atoms.{Atomic, meets, negated}
use Rattle.dp_domain.specs.Sets.{IsDomain}
use Rattle.dp_domain.specs.States.{Domains, values, is_nil, is_dead, nil_count, entails, entails_all, cut, cut_all, total, LiesIn, IsWithin}
use Rattle.dp_domain.proofs.AtomLaws.{meets-negated, meets-from_not, not-from_meets}
use Rattle.dp_domain.proofs.SetLaws.{IsDomain-filter, ascending-same}

-- ---- the values of a cut

-- a cut has the same variables
pub length-cut : (d : Domains) (a : Atomic) → length (cut d a) ≡ length d
length-cut d a = length-set d a.var (filter (meets a) (values d a.var))

-- the atom's variable keeps the values that meet the atom
pub values-cut_same : (d : Domains) (a : Atomic) → a.var < length d → values (cut d a) a.var ≡ filter (meets a) (values d a.var)
values-cut_same d a h = get_or-set_same d a.var (filter (meets a) (values d a.var)) [] h

-- another variable keeps its values
pub values-cut_other : (d : Domains) (a : Atomic) (x : ℕ) → (x ≡ a.var → ⊥) → values (cut d a) x ≡ values d x
values-cut_other d a x n = get_or-set_other d a.var x (filter (meets a) (values d a.var)) [] n

-- a cut by an atom on a variable that is not there changes nothing
pub cut-past : (d : Domains) (a : Atomic) → length d ≤ a.var → cut d a ≡ d
cut-past d a h = set_past d a.var (filter (meets a) (values d a.var)) h

-- a variable that is not there has no value
pub values-past : (d : Domains) (x : ℕ) → length d ≤ x → values d x ≡ []
values-past d x h = get_or_past d x [] h

-- a variable with a value is there
pub within-from_value : (d : Domains) (x : ℕ) (v : ℤ) → Among v (values d x) → x < length d
within-from_value d x v h = elim (cases_lt x (length d)) [ inl k ↦ k | inr k ↦ absurd (subst (λ ys. Among v ys) (values-past d x k) h) ]

among_cut_same : (d : Domains) (a : Atomic) (v : ℤ) → Among v (values (cut d a) a.var) → Among v (values d a.var) × (meets a v ≡ true)
among_cut_same d a v h =
    let k : a.var < length (cut d a) = within-from_value (cut d a) a.var v h in
    let l : a.var < length d = subst (λ n. a.var < n) (length-cut d a) k in
    Among-filter_only (meets a) (values d a.var) v (subst (λ ys. Among v ys) (values-cut_same d a l) h)

-- a value of a cut meets the atom
pub Among-cut_meets : (d : Domains) (a : Atomic) (v : ℤ) → Among v (values (cut d a) a.var) → meets a v ≡ true
Among-cut_meets d a v h = (among_cut_same d a v h).1

-- a value of a cut is one of the state
pub Among-cut_only : (d : Domains) (a : Atomic) (x : ℕ) (v : ℤ) → Among v (values (cut d a) x) → Among v (values d x)
Among-cut_only d a x v h = elim (cases_eq x a.var) [
  | inl e ↦ subst (λ y. Among v (values d y)) (sym e) (among_cut_same d a v (subst (λ y. Among v (values (cut d a) y)) e h)).0
  | inr n ↦ subst (λ ys. Among v ys) (values-cut_other d a x n) h
]

among_cut_same_all : (d : Domains) (a : Atomic) (v : ℤ) → Among v (values d a.var) → meets a v ≡ true → Among v (values (cut d a) a.var)
among_cut_same_all d a v h m = subst (λ ys. Among v ys) (sym (values-cut_same d a (within-from_value d a.var v h))) (Among-filter_all (meets a) (values d a.var) v h m)

-- a value of the state that meets the atom, or of another variable, is one of the cut
pub Among-cut_all : (d : Domains) (a : Atomic) (x : ℕ) (v : ℤ) → Among v (values d x) → (x ≡ a.var → meets a v ≡ true) → Among v (values (cut d a) x)
Among-cut_all d a x v h m = elim (cases_eq x a.var) [
  | inl e ↦ subst (λ y. Among v (values (cut d a) y)) (sym e) (among_cut_same_all d a v (subst (λ y. Among v (values d y)) e h) (m e))
  | inr n ↦ subst (λ ys. Among v ys) (sym (values-cut_other d a x n)) h
]

-- ---- smaller states

-- a state is within itself
pub IsWithin-refl : (d : Domains) → IsWithin d d
IsWithin-refl d = record { count = refl; each = λ x v h. h }

-- within a state that is within a third
pub IsWithin-trans : (c d e : Domains) → IsWithin e d → IsWithin d c → IsWithin e c
IsWithin-trans c d e p q = record { count = p.count ∙ q.count; each = λ x v h. q.each x v (p.each x v h) }

-- a cut is within the state
pub IsWithin-cut : (d : Domains) (a : Atomic) → IsWithin (cut d a) d
IsWithin-cut d a = record { count = length-cut d a; each = λ x v h. Among-cut_only d a x v h }

cut_meets_at : (d : Domains) (a : Atomic) (x : ℕ) (v : ℤ) → Among v (values (cut d a) x) → x ≡ a.var → meets a v ≡ true
cut_meets_at d a x v h e = Among-cut_meets d a v (subst (λ y. Among v (values (cut d a) y)) e h)

-- cuts by one atom keep smaller states smaller
pub IsWithin-cut_both : (d e : Domains) (a : Atomic) → IsWithin e d → IsWithin (cut e a) (cut d a)
IsWithin-cut_both d e a p = record {
  count = length-cut e a ∙ p.count ∙ sym (length-cut d a);
  each = λ x v h. Among-cut_all d a x v (p.each x v (Among-cut_only e a x v h)) (cut_meets_at e a x v h);
}

-- a state within the cut's that entails the atom is within the cut
pub IsWithin-into_cut : (d e : Domains) (a : Atomic) → IsWithin e d → entails e a ≡ true → IsWithin e (cut d a)
IsWithin-into_cut d e a p t = record {
  count = p.count ∙ sym (length-cut d a);
  each = λ x v h. Among-cut_all d a x v (p.each x v h) (λ k. list_all-at (meets a) (values e a.var) v t (subst (λ y. Among v (values e y)) k h));
}

-- cuts by several atoms are within the state
pub IsWithin-cut_all : (d : Domains) (atoms : List Atomic) → IsWithin (cut_all d atoms) d
IsWithin-cut_all d [] = IsWithin-refl d
IsWithin-cut_all d (a ∷ atoms) = IsWithin-trans d (cut d a) (cut_all (cut d a) atoms) (IsWithin-cut_all (cut d a) atoms) (IsWithin-cut d a)

-- cuts by the same atoms keep smaller states smaller
pub IsWithin-cut_all_both : (d e : Domains) (atoms : List Atomic) → IsWithin e d → IsWithin (cut_all e atoms) (cut_all d atoms)
IsWithin-cut_all_both d e [] p = p
IsWithin-cut_all_both d e (a ∷ atoms) p = IsWithin-cut_all_both (cut d a) (cut e a) atoms (IsWithin-cut_both d e a p)

-- cuts by several atoms have the same variables
pub length-cut_all : (d : Domains) (atoms : List Atomic) → length (cut_all d atoms) ≡ length d
length-cut_all d atoms = (IsWithin-cut_all d atoms).count

same_values : (d e : Domains) → Each IsDomain d → Each IsDomain e → IsWithin e d → IsWithin d e → (k : ℕ) (xs : List ℤ) → k < length d → get_or d k xs ≡ get_or e k xs
same_values d e p q f g k xs h =
    let i : k < length e = subst (λ n. k < n) g.count h in
    get_or_default d k xs [] h ∙ ascending-same (values d k) (values e k)
    (Each-among IsDomain d p (values d k) (Among-get_or d k [] h)).ascending
    (Each-among IsDomain e q (values e k) (Among-get_or e k [] i)).ascending
    (λ v m. g.each k v m) (λ v m. f.each k v m)
    ∙ sym (get_or_default e k xs [] i)

-- two states of domains, each within the other, are equal
pub IsWithin-same : (d e : Domains) → Each IsDomain d → Each IsDomain e → IsWithin e d → IsWithin d e → d ≡ e
IsWithin-same d e p q f g = same_lists d e g.count (λ k xs h. same_values d e p q f g k xs h)

-- ---- entailed atoms

-- each value of the variable meets an entailed atom
pub entails-at : (d : Domains) (a : Atomic) (v : ℤ) → entails d a ≡ true → Among v (values d a.var) → meets a v ≡ true
entails-at d a v e h = list_all-at (meets a) (values d a.var) v e h

-- an atom that each value of the variable meets is entailed
pub entails-from : (d : Domains) (a : Atomic) → ((v : ℤ) → Among v (values d a.var) → meets a v ≡ true) → entails d a ≡ true
entails-from d a h = list_all-from (meets a) (values d a.var) h

-- of an atom that is not entailed some value fails
pub entails-fails : (d : Domains) (a : Atomic) → entails d a ≡ false → (v : ℤ) × Among v (values d a.var) × (meets a v ≡ false)
entails-fails d a e = list_all-fails (meets a) (values d a.var) e

-- an atom that some value fails is not entailed
pub entails-not : (d : Domains) (a : Atomic) (v : ℤ) → Among v (values d a.var) → meets a v ≡ false → entails d a ≡ false
entails-not d a v h e = list_all-not (meets a) (values d a.var) v h e

-- a smaller state entails what the larger entails
pub entails-within : (d e : Domains) (a : Atomic) → IsWithin e d → entails d a ≡ true → entails e a ≡ true
entails-within d e a p t = entails-from e a (λ v h. entails-at d a v t (p.each a.var v h))

-- the same of several atoms
pub entails_all-within : (d e : Domains) (atoms : List Atomic) → IsWithin e d → entails_all d atoms ≡ true → entails_all e atoms ≡ true
entails_all-within d e atoms p t = list_all-from (entails e) atoms (λ a h. entails-within d e a p (list_all-at (entails d) atoms a t h))

-- a cut entails its atom
pub entails-cut : (d : Domains) (a : Atomic) → entails (cut d a) a ≡ true
entails-cut d a = entails-from (cut d a) a (λ v h. Among-cut_meets d a v h)

-- a cut by several atoms entails each
pub entails-cut_all : (d : Domains) (atoms : List Atomic) (a : Atomic) → Among a atoms → entails (cut_all d atoms) a ≡ true
entails-cut_all d [] a h = absurd h
entails-cut_all d (b ∷ atoms) a (inl e) = entails-within (cut d b) (cut_all (cut d b) atoms) a (IsWithin-cut_all (cut d b) atoms) (subst (λ c. entails (cut d c) a ≡ true) e (entails-cut d a))
entails-cut_all d (b ∷ atoms) a (inr h) = entails-cut_all (cut d b) atoms a h

-- a cut by an entailed atom changes nothing
pub cut-entailed : (d : Domains) (a : Atomic) → entails d a ≡ true → cut d a ≡ d
cut-entailed d a e = ap (λ ys. set d a.var ys) (filter-whole (meets a) (values d a.var) e) ∙ set-get_or d a.var []

-- ---- assignments within a state

-- an assignment within a state meets what the state entails
pub LiesIn-entails : (d : Domains) (s : ℕ → ℤ) (a : Atomic) → a.var < length d → LiesIn s d → entails d a ≡ true → meets a (s a.var) ≡ true
LiesIn-entails d s a h l e = entails-at d a (s a.var) e (l a.var h)

-- an assignment within a state that meets the atom is within the cut
pub LiesIn-cut : (d : Domains) (s : ℕ → ℤ) (a : Atomic) → LiesIn s d → meets a (s a.var) ≡ true → LiesIn s (cut d a)
LiesIn-cut d s a l m = λ x h. Among-cut_all d a x (s x) (l x (subst (λ n. x < n) (length-cut d a) h)) (λ e. subst (λ y. meets a (s y) ≡ true) (sym e) m)

-- an assignment within a smaller state is within the state
pub LiesIn-within : (d e : Domains) (s : ℕ → ℤ) → IsWithin e d → LiesIn s e → LiesIn s d
LiesIn-within d e s p l = λ x h. p.each x (s x) (l x (subst (λ n. x < n) (sym p.count) h))

-- an assignment that meets each of the atoms is within their cuts
pub LiesIn-cut_all : (d : Domains) (s : ℕ → ℤ) (atoms : List Atomic) → LiesIn s d → ((a : Atomic) → Among a atoms → meets a (s a.var) ≡ true) → LiesIn s (cut_all d atoms)
LiesIn-cut_all d s [] l m = l
LiesIn-cut_all d s (a ∷ atoms) l m = LiesIn-cut_all (cut d a) s atoms (LiesIn-cut d s a l (m a (inl refl))) (λ b h. m b (inr h))

-- of an assignment within a state, either it meets the atom or it is within the negation's cut
pub LiesIn-either : (d : Domains) (s : ℕ → ℤ) (a : Atomic) → LiesIn s d → (meets a (s a.var) ≡ true) ⊎ LiesIn s (cut d (negated a))
LiesIn-either d s a l = elim (cases_Bool (meets a (s a.var))) [ inl e ↦ inl e | inr e ↦ inr (LiesIn-cut d s (negated a) l (meets-from_not a (s a.var) e)) ]

-- ---- empty sets

-- the empty list has no value
pub nil-from_test : (xs : List ℤ) → is_nil xs ≡ true → xs ≡ []
nil-from_test [] e = refl
nil-from_test (x ∷ xs) e = absurd (false≢true e)

-- a list that is not empty has a value
pub value-from_test : (xs : List ℤ) → is_nil xs ≡ false → (v : ℤ) × Among v xs
value-from_test [] e = absurd (false≢true (sym e))
value-from_test (x ∷ xs) e = (x, inl refl)

-- a list with a value is not empty
pub is_nil-among : (xs : List ℤ) (v : ℤ) → Among v xs → is_nil xs ≡ false
is_nil-among [] v h = absurd h
is_nil-among (x ∷ xs) v h = refl

-- a list in which nothing stands is empty
pub is_nil-none : (xs : List ℤ) → ((v : ℤ) → Among v xs → ⊥) → is_nil xs ≡ true
is_nil-none [] h = refl
is_nil-none (x ∷ xs) h = absurd (h x (inl refl))

-- a state with an empty set is dead
pub dead-at : (d : Domains) (x : ℕ) → x < length d → values d x ≡ [] → is_dead d ≡ true
dead-at d x h e = list_any-at is_nil d (values d x) (Among-get_or d x [] h) (ap is_nil e)

dead_place : (d : Domains) (xs : List ℤ) → is_nil xs ≡ true → Among xs d → (x : ℕ) × (x < length d) × (values d x ≡ [])
dead_place d xs e h =
    let c = Contains-from_among xs d h in
    (c.0, c.1, get_or_default d c.0 [] xs c.1 ∙ c.2 ∙ nil-from_test xs e)

-- a dead state has an empty set
pub dead-some : (d : Domains) → is_dead d ≡ true → (x : ℕ) × (x < length d) × (values d x ≡ [])
dead-some d e = let r = list_any-some is_nil d e in dead_place d r.0 r.2 r.1

-- in a state that is not dead each variable has a value
pub alive-value : (d : Domains) (x : ℕ) → is_dead d ≡ false → x < length d → (v : ℤ) × Among v (values d x)
alive-value d x e h = value-from_test (values d x) (list_any-none is_nil d (values d x) e (Among-get_or d x [] h))

-- a state in which each variable has a value is not dead
pub alive-from : (d : Domains) → ((x : ℕ) → x < length d → (v : ℤ) × Among v (values d x)) → is_dead d ≡ false
alive-from d f = false_from_ne_true (is_dead d) (λ e. let r = dead-some d e in let m = f r.0 r.1 in subst (λ ys. Among m.0 ys) r.2 m.1)

-- a state smaller than a dead one is dead
pub dead-within : (d e : Domains) → IsWithin e d → is_dead d ≡ true → is_dead e ≡ true
dead-within d e p t = true_from_ne_false (is_dead e) (λ f.
    let r = dead-some d t in
    let m = alive-value e r.0 f (subst (λ n. r.0 < n) (sym p.count) r.1) in
    subst (λ ys. Among m.0 ys) r.2 (p.each r.0 m.0 m.1))

-- a state larger than one that is not dead is not dead
pub alive-within : (d e : Domains) → IsWithin e d → is_dead e ≡ false → is_dead d ≡ false
alive-within d e p f = false_from_ne_true (is_dead d) (λ t. both_ways (is_dead e) f (dead-within d e p t))

-- an assignment within a state shows that it is not dead
pub LiesIn-alive : (d : Domains) (s : ℕ → ℤ) → LiesIn s d → is_dead d ≡ false
LiesIn-alive d s l = alive-from d (λ x h. (s x, l x h))

-- a cut by an atom whose negation is entailed is dead
pub dead-cut : (d : Domains) (a : Atomic) → a.var < length d → entails d (negated a) ≡ true → is_dead (cut d a) ≡ true
dead-cut d a h e =
    dead-at (cut d a) a.var (subst (λ n. a.var < n) (sym (length-cut d a)) h)
    (nil-from_test (values (cut d a) a.var) (is_nil-none (values (cut d a) a.var) (λ v m.
    both_ways (meets a v)
    (not-from_meets a v (entails-at d (negated a) v e (Among-cut_only d a a.var v m)))
    (Among-cut_meets d a v m))))

dead_cut_value : (d : Domains) (a : Atomic) (x : ℕ) (v : ℤ) → values (cut d a) x ≡ [] → Among v (values d x) → (x ≡ a.var) × (meets a v ≡ false)
dead_cut_value d a x v e h = elim (cases_eq x a.var) [
  | inl k ↦ (k, false_from_ne_true (meets a v) (λ t. subst (λ ys. Among v ys) e (Among-cut_all d a x v h (λ _. t))))
  | inr n ↦ absurd (subst (λ ys. Among v ys) (sym (values-cut_other d a x n) ∙ e) h)
]

-- where a cut of a state that is not dead is dead, the state entails the negation
pub entails-from_dead_cut : (d : Domains) (a : Atomic) → is_dead d ≡ false → is_dead (cut d a) ≡ true → entails d (negated a) ≡ true
entails-from_dead_cut d a f t =
    let r = dead-some (cut d a) t in
    let h : r.0 < length d = subst (λ n. r.0 < n) (length-cut d a) r.1 in
    let m = alive-value d r.0 f h in
    let k = dead_cut_value d a r.0 m.0 r.2 m.1 in
    entails-from d (negated a) (λ v w.
    meets-from_not a v (dead_cut_value d a r.0 v r.2 (subst (λ y. Among v (values d y)) (sym k.0) w)).1)

-- a state that is not dead does not entail an atom and its negation
pub entails-apart : (d : Domains) (a : Atomic) → is_dead d ≡ false → a.var < length d → entails d a ≡ true → entails d (negated a) ≡ false
entails-apart d a f h e = let m = alive-value d a.var f h in
    entails-not d (negated a) m.0 m.1 (meets-negated a m.0 ∙ not_from_true (meets a m.0) (entails-at d a m.0 e m.1))

-- ---- cuts in any order

cut_twice : (d : Domains) (a b : Atomic) → a.var ≡ b.var → a.var < length d → cut (cut d a) b ≡ set d a.var (filter (meets b) (filter (meets a) (values d a.var)))
cut_twice d a b e h =
    ap (λ y. set (cut d a) y (filter (meets b) (values (cut d a) y))) (sym e)
    ∙ ap (λ ys. set (cut d a) a.var (filter (meets b) ys)) (values-cut_same d a h)
    ∙ set-set d a.var (filter (meets a) (values d a.var)) (filter (meets b) (filter (meets a) (values d a.var)))

cut_comm_same : (d : Domains) (a b : Atomic) → a.var ≡ b.var → a.var < length d → cut (cut d a) b ≡ cut (cut d b) a
cut_comm_same d a b e h =
    cut_twice d a b e h
    ∙ ap (λ ys. set d a.var ys) (filter-filter (meets b) (meets a) (values d a.var))
    ∙ ap (λ y. set d y (filter (meets a) (filter (meets b) (values d y)))) e
    ∙ sym (cut_twice d b a (sym e) (subst (λ y. y < length d) e h))

cut_comm_apart : (d : Domains) (a b : Atomic) → (a.var ≡ b.var → ⊥) → cut (cut d a) b ≡ cut (cut d b) a
cut_comm_apart d a b n =
    ap (λ ys. set (cut d a) b.var (filter (meets b) ys)) (values-cut_other d a b.var (λ e. n (sym e)))
    ∙ set_comm d a.var b.var (filter (meets a) (values d a.var)) (filter (meets b) (values d b.var)) n
    ∙ sym (ap (λ ys. set (cut d b) a.var (filter (meets a) ys)) (values-cut_other d b a.var n))

cut_comm_past : (d : Domains) (a b : Atomic) → length d ≤ a.var → cut (cut d a) b ≡ cut (cut d b) a
cut_comm_past d a b h = ap (λ e. cut e b) (cut-past d a h) ∙ sym (cut-past (cut d b) a (subst (λ n. n ≤ a.var) (sym (length-cut d b)) h))

-- two cuts give the same state in either order
pub cut_comm : (d : Domains) (a b : Atomic) → cut (cut d a) b ≡ cut (cut d b) a
cut_comm d a b = elim (cases_eq a.var b.var) [
  | inl e ↦ elim (cases_lt a.var (length d)) [ inl h ↦ cut_comm_same d a b e h | inr h ↦ cut_comm_past d a b h ]
  | inr n ↦ cut_comm_apart d a b n
]

-- a cut after several cuts is that cut before them
pub cut_all-cut : (d : Domains) (atoms : List Atomic) (a : Atomic) → cut (cut_all d atoms) a ≡ cut_all (cut d a) atoms
cut_all-cut d [] a = refl
cut_all-cut d (b ∷ atoms) a = cut_all-cut (cut d b) atoms a ∙ ap (λ e. cut_all e atoms) (cut_comm d b a)

-- ---- how many values there are

set_less : (n m k l : ℕ) → n + k ≡ m + l → l < k → n < m
set_less n m k l e h = omega arith

-- a cut by an atom that is not entailed leaves fewer values
pub total-cut : (d : Domains) (a : Atomic) → entails d a ≡ false → total (cut d a) < total d
total-cut d a e =
    let f = entails-fails d a e in
    let h = within-from_value d a.var f.0 f.1 in
    set_less (total (cut d a)) (total d) (length (values d a.var)) (length (filter (meets a) (values d a.var)))
    (sum_by-set (λ (xs : List ℤ). length xs) d a.var (filter (meets a) (values d a.var)) [] h)
    ((length-filter_cases (meets a) (values d a.var)).2 e)

-- ---- domains in a state

-- the values of a variable of a state of domains are a domain
pub IsDomain-values : (d : Domains) (x : ℕ) → Each IsDomain d → IsDomain (values d x)
IsDomain-values d x e = elim (cases_lt x (length d)) [
  | inl h ↦ Each-among IsDomain d e (values d x) (Among-get_or d x [] h)
  | inr h ↦ subst IsDomain (sym (values-past d x h)) (record { ascending = tt; small = tt })
]

-- a cut of a state of domains is one of domains
pub IsDomain-cut : (d : Domains) (a : Atomic) → Each IsDomain d → Each IsDomain (cut d a)
IsDomain-cut d a e = Each-set IsDomain d a.var (filter (meets a) (values d a.var)) e (IsDomain-filter (meets a) (values d a.var) (IsDomain-values d a.var e))

-- ---- how many variables have no value left

more_than_none : (n : ℕ) → nat_lt 0 (1 + n) ≡ true
more_than_none n = grind (arith, nat_tests)

nil_count-cons : (s : List ℤ) (d : Domains) → nil_count (s ∷ d) ≡ cond (is_nil s) 1 0 + nil_count d
nil_count-cons s d = sum_by-cons (λ (t : List ℤ). cond (is_nil t) 1 0) s d

-- whether there is one, by their number
pub dead-counted : (d : Domains) → is_dead d ≡ nat_lt 0 (nil_count d)
dead-counted [] = refl
dead-counted ([] ∷ d) = sym (more_than_none (nil_count d)) ∙ ap (λ n. nat_lt 0 n) (sym (nil_count-cons [] d))
dead-counted ((v ∷ vs) ∷ d) = dead-counted d ∙ ap (λ n. nat_lt 0 n) (sym (nil_count-cons (v ∷ vs) d ∙ zero-add (nil_count d)))
