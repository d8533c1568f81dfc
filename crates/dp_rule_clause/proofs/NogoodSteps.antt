-- The turn of a nogood, by where the atoms stand that are not entailed.
use Rattle.std.proofs.Common.{◌≡◌, ℕ, ◌<◌, Bool, true, false, cond, not, ◌&&◌, ◌||◌, ◌==◌, List, [], ◌∷◌, length, ℤ, ◌≤ℤ◌, Option, Some, None, option_map, refl, sym, ◌∙◌, ap, subst, inl, inr, arith}
use Rattle.std.proofs.lemmas.Int.{ints}
use Rattle.std.specs.List.{filter, flat_map}
use Rattle.std.proofs.lemmas.Bool.{and_from, and_parts, both_ways, false_from_ne_true, not-true, not_from_false, or_cases, or_from, or_parts, or_right, true_from_ne_false}
use Rattle.std.proofs.lemmas.Bool.Decides.{Decides-eqb}
use Rattle.dp_base.specs.Lists.{Among}
use Rattle.dp_base.proofs.Lists.{Among-filter_all, Among-filter_only, Each-among, list_all-from, list_all-not, list_any-at, list_any-some}
use Rattle.dp_domain.specs.Atoms.{Atomic, meets, negated}
use Rattle.dp_domain.specs.declared.atom.Op.TheVariants.{Eq}
use Rattle.dp_domain.specs.declared.found.Found.TheVariants.{Atom, Clash}
use Rattle.dp_domain.specs.Explanations.{IsOpen, explanation, suffices}
use Rattle.dp_domain.specs.Faces.{Covers}
use Rattle.dp_domain.specs.Sets.{IsDomain, is_among, least}
use Rattle.dp_domain.specs.States.{Domains, IsWithin, entails, entails_all, fails_one, is_dead, values}
use Rattle.dp_domain.specs.Turns.{other_than, turn_of}
use Rattle.dp_domain.proofs.AtomLaws.{same-from_tests}
use Rattle.dp_domain.proofs.SetLaws.{IsDomain-filter, least-is}
use Rattle.dp_domain.proofs.ShareLaws.{is_among-at, is_among-some}
use Rattle.dp_domain.proofs.StateLaws.{entails-at, entails-fails, entails-from, entails-not}
use Rattle.dp_domain.proofs.SupportLaws.{support-parts}
use Rattle.dp_rule_clause.specs.Clauses.{AreDomains, given_by, open_of, open_on, reasons_on, taken, takes}
use Rattle.dp_rule_clause.specs.declared.turns.Open.{Open}
use Rattle.dp_rule_clause.specs.declared.turns.Open.TheVariants.{Nowhere, On, Apart}
use Rattle.dp_rule_clause.specs.NogoodLaws.{atom_in_scope, nogood_lawful}
use Rattle.dp_rule_clause.specs.Nogoods.{face_nogood, point_nogood, same_op, scope_of}
use Rattle.dp_rule_clause.proofs.AtomSteps.{among-has, atoms_equal, has-among, op_where}
use Rattle.dp_rule_clause.proofs.ClauseLaws.{HasNone, HasOne, IsClause, clause-clash, clause-one, clause-several, clause-support, given_on-parts}
use Rattle.dp_rule_clause.proofs.ClauseReasons.{explanation-reasons}

-- ---- values that fail an atom

fails_at : (x : ℕ) (atoms : List Atomic) (a : Atomic) (v : ℤ) → Among a atoms → a.var ≡ x → meets a v ≡ false → fails_one x atoms v ≡ true
fails_at x atoms a v m e n = list_any-at (λ b. (b.var == x) && not (meets b v)) atoms a m (and_from (a.var == x) (not (meets a v)) ((Decides-eqb a.var x).1 e) (not_from_false (meets a v) n))

fails_some : (x : ℕ) (atoms : List Atomic) (v : ℤ) → fails_one x atoms v ≡ true → (a : Atomic) × Among a atoms × (a.var ≡ x) × (meets a v ≡ false)
fails_some x atoms v t =
    let r = list_any-some (λ b. (b.var == x) && not (meets b v)) atoms t in
    let a : Atomic = r.0 in
    let p = and_parts (a.var == x) (not (meets a v)) r.2 in
    (r.0, r.1, (Decides-eqb a.var x).0 p.0, not-true (meets a v) p.1)

-- a nogood is met as soon as a value fails one of the atoms on its variable
pub nogood-clause : (atoms : List Atomic) → IsClause (face_nogood atoms) (λ x. fails_one x atoms)
nogood-clause atoms = record {
  clash = λ d l h.
      or_right (is_dead d) (entails_all d atoms)
      (list_all-from (entails d) atoms (λ a m. entails-from d a (λ v k.
      true_from_ne_false (meets a v) (λ n. both_ways (fails_one a.var atoms v) (h a.var (atom_in_scope atoms a m) v k) (fails_at a.var atoms a v m refl n)))));
  safe = λ d l x s g.
      let r = fails_some x atoms g.0 g.2 in
      or_from (is_dead d) (entails_all d atoms) l (list_all-not (entails d) atoms r.0 r.1 (entails-not d r.0 g.0 (subst (λ y. Among g.0 (values d y)) (sym r.2) g.1) r.3));
}

-- ---- where the atoms stand that are not entailed

-- where the others stand, beside one on the variable
abbrev StandsOn : Domains → ℕ → List Atomic → Open → Type 0
StandsOn d x atoms Nowhere = ⊥
StandsOn d x atoms (On y) = (y ≡ x) × ((a : Atomic) → Among a atoms → (a.var ≡ x → ⊥) → entails d a ≡ true)
StandsOn d x atoms Apart = (a : Atomic) × Among a atoms × (a.var ≡ x → ⊥) × (entails d a ≡ false)

stands_on_more : (d : Domains) (x : ℕ) (atoms : List Atomic) (a : Atomic) (o : Open) → ((a.var ≡ x → ⊥) → entails d a ≡ true) → StandsOn d x atoms o → StandsOn d x (a ∷ atoms) o
stands_on_more d x atoms a Nowhere t s = s
stands_on_more d x atoms a (On y) t s = (s.0, λ b h n. elim h [ inl e ↦ subst (λ c. entails d c ≡ true) (sym e) (t (λ k. n (ap (λ (c : Atomic). c.var) e ∙ k))) | inr k ↦ s.1 b k n ])
stands_on_more d x atoms a Apart t s = (s.0, inr s.1, s.2, s.3)

stands_on_step : (d : Domains) (x : ℕ) (atoms : List Atomic) (a : Atomic) (t : Bool) → ((a.var == x) || entails d a) ≡ t → StandsOn d x atoms (open_on d x atoms) → StandsOn d x (a ∷ atoms) (cond t (open_on d x atoms) Apart)
stands_on_step d x atoms a true e s =
    stands_on_more d x atoms a (open_on d x atoms)
    (λ n. elim (or_cases (a.var == x) (entails d a) e) [ inl k ↦ absurd (n ((Decides-eqb a.var x).0 k)) | inr k ↦ k ])
    s
stands_on_step d x atoms a false e s =
    let p = or_parts (a.var == x) (entails d a) e in
    (a, inl refl, λ k. both_ways (a.var == x) p.0 ((Decides-eqb a.var x).1 k), p.1)

stands_on : (d : Domains) (x : ℕ) (atoms : List Atomic) → StandsOn d x atoms (open_on d x atoms)
stands_on d x [] = (refl, λ a h. absurd h)
stands_on d x (a ∷ atoms) = stands_on_step d x atoms a ((a.var == x) || entails d a) refl (stands_on d x atoms)

-- an atom on the variable that is not entailed
abbrev IsOpenOn : Domains → List Atomic → ℕ → Type 0
IsOpenOn d atoms x = (a : Atomic) × Among a atoms × (a.var ≡ x) × (entails d a ≡ false)

-- where the atoms stand
abbrev Stands : Domains → List Atomic → Open → Type 0
Stands d atoms Nowhere = (a : Atomic) → Among a atoms → entails d a ≡ true
Stands d atoms (On x) = IsOpenOn d atoms x × ((a : Atomic) → Among a atoms → (a.var ≡ x → ⊥) → entails d a ≡ true)
Stands d atoms Apart = (x y : ℕ) × (x ≡ y → ⊥) × IsOpenOn d atoms x × IsOpenOn d atoms y

open_more : (d : Domains) (atoms : List Atomic) (a : Atomic) (x : ℕ) → IsOpenOn d atoms x → IsOpenOn d (a ∷ atoms) x
open_more d atoms a x s = (s.0, inr s.1, s.2, s.3)

stands_more : (d : Domains) (atoms : List Atomic) (a : Atomic) (o : Open) → entails d a ≡ true → Stands d atoms o → Stands d (a ∷ atoms) o
stands_more d atoms a Nowhere t s = λ b h. elim h [ inl e ↦ subst (λ c. entails d c ≡ true) (sym e) t | inr k ↦ s b k ]
stands_more d atoms a (On x) t s = (open_more d atoms a x s.0, λ b h n. elim h [ inl e ↦ subst (λ c. entails d c ≡ true) (sym e) t | inr k ↦ s.1 b k n ])
stands_more d atoms a Apart t s = (s.0, s.1, s.2, open_more d atoms a s.0 s.3, open_more d atoms a s.1 s.4)

stands_first : (d : Domains) (atoms : List Atomic) (a : Atomic) (o : Open) → entails d a ≡ false → StandsOn d a.var atoms o → Stands d (a ∷ atoms) o
stands_first d atoms a Nowhere n s = absurd s
stands_first d atoms a (On x) n s = (
  (a, inl refl, sym s.0, n),
  λ b h k. elim h [ inl e ↦ absurd (k (ap (λ (c : Atomic). c.var) e ∙ sym s.0)) | inr m ↦ s.1 b m (λ q. k (q ∙ sym s.0)) ],
)
stands_first d atoms a Apart n s =
    let b : Atomic = s.0 in
    (a.var, b.var, λ e. s.2 (sym e), (a, inl refl, refl, n), (s.0, inr s.1, refl, s.3))

stands_step : (d : Domains) (atoms : List Atomic) (a : Atomic) (t : Bool) → entails d a ≡ t → Stands d atoms (open_of d atoms) → Stands d (a ∷ atoms) (cond t (open_of d atoms) (open_on d a.var atoms))
stands_step d atoms a true e s = stands_more d atoms a (open_of d atoms) e s
stands_step d atoms a false e s = stands_first d atoms a (open_on d a.var atoms) e (stands_on d a.var atoms)

stands : (d : Domains) (atoms : List Atomic) → Stands d atoms (open_of d atoms)
stands d [] = λ a h. absurd h
stands d (a ∷ atoms) = stands_step d atoms a (entails d a) refl (stands d atoms)

-- ---- turns

-- a variable with an atom that is not entailed has a value that fails it
has_one : (d : Domains) (atoms : List Atomic) (x : ℕ) → IsOpenOn d atoms x → HasOne (λ y. fails_one y atoms) d x
has_one d atoms x s =
    let w = entails-fails d s.0 s.3 in
    (w.0, subst (λ y. Among w.0 (values d y)) s.2 w.1, fails_at x atoms s.0 w.0 s.1 s.2 w.2)

in_scope : (d : Domains) (atoms : List Atomic) (x : ℕ) → IsOpenOn d atoms x → Among x (scope_of atoms)
in_scope d atoms x s = subst (λ y. Among y (scope_of atoms)) s.2 (atom_in_scope atoms s.0 s.1)

has_none : (d : Domains) (atoms : List Atomic) (y : ℕ) → ((a : Atomic) → Among a atoms → a.var ≡ y → entails d a ≡ true) → HasNone (λ z. fails_one z atoms) d y
has_none d atoms y t v h =
    false_from_ne_true (fails_one y atoms v) (λ k.
    let r = fails_some y atoms v k in
    both_ways (meets r.0 v) r.3 (entails-at d r.0 v (t r.0 r.1 r.2) (subst (λ z. Among v (values d z)) (sym r.2) h)))

-- a nogood whose atoms are all entailed clashes
pub turn_nowhere : (d : Domains) (atoms : List Atomic) → is_dead d ≡ false → open_of d atoms ≡ Nowhere → turn_of (face_nogood atoms) d ≡ Some Clash
turn_nowhere d atoms l e =
    let s = subst (Stands d atoms) e (stands d atoms) in
    clause-clash (face_nogood atoms) (λ x. fails_one x atoms) d (nogood-clause atoms) l (λ x m. has_none d atoms x (λ a h k. s a h))

-- where atoms on two variables are not entailed, it has no turn
pub turn_apart : (d : Domains) (atoms : List Atomic) → is_dead d ≡ false → open_of d atoms ≡ Apart → turn_of (face_nogood atoms) d ≡ None
turn_apart d atoms l e =
    let s = subst (Stands d atoms) e (stands d atoms) in
    clause-several (face_nogood atoms) (λ x. fails_one x atoms) d s.0 s.1 (nogood-clause atoms) l (in_scope d atoms s.0 s.3) (has_one d atoms s.0 s.3) (in_scope d atoms s.1 s.4) (has_one d atoms s.1 s.4) s.2

-- the variable of the atoms that are not entailed is one of the state
pub open_within : (d : Domains) (atoms : List Atomic) (x : ℕ) → Covers (scope_of atoms) d → open_of d atoms ≡ On x → x < length d
open_within d atoms x c e =
    let s = subst (Stands d atoms) e (stands d atoms) in
    Each-among (λ y. y < length d) (scope_of atoms) c x (in_scope d atoms x s.0)

-- ---- values that are taken out

-- the negation of one that takes out a value, or none does
abbrev IsTaken : ℕ → List ℤ → List ℤ → List Atomic → Option Atomic → Type 0
IsTaken x vs good atoms None = (a : Atomic) → Among a atoms → takes x vs good a ≡ false
IsTaken x vs good atoms (Some h) = (a : Atomic) × Among a atoms × (takes x vs good a ≡ true) × (h ≡ negated a)

taken_more : (x : ℕ) (vs good : List ℤ) (atoms : List Atomic) (a : Atomic) (o : Option Atomic) → takes x vs good a ≡ false → IsTaken x vs good atoms o → IsTaken x vs good (a ∷ atoms) o
taken_more x vs good atoms a None n s = λ b h. elim h [ inl e ↦ ap (takes x vs good) e ∙ n | inr k ↦ s b k ]
taken_more x vs good atoms a (Some g) n s = (s.0, inr s.1, s.2, s.3)

taken_step : (x : ℕ) (vs good : List ℤ) (atoms : List Atomic) (a : Atomic) (t : Bool) → takes x vs good a ≡ t → IsTaken x vs good atoms (taken x vs good atoms) → IsTaken x vs good (a ∷ atoms) (cond t (Some (negated a)) (taken x vs good atoms))
taken_step x vs good atoms a true e s = (a, inl refl, e, refl)
taken_step x vs good atoms a false e s = taken_more x vs good atoms a (taken x vs good atoms) e s

taken_is : (x : ℕ) (vs good : List ℤ) (atoms : List Atomic) → IsTaken x vs good atoms (taken x vs good atoms)
taken_is x vs good [] = λ a h. absurd h
taken_is x vs good (a ∷ atoms) = taken_step x vs good atoms a (takes x vs good a) refl (taken_is x vs good atoms)

-- whether the value is a point that is not supported
abbrev lacks : ℕ → List Atomic → List ℤ → ℤ → Bool
lacks x atoms good v = point_nogood atoms x v && not (is_among v good)

-- an atom that takes out a value is `==` of that value
takes_parts : (x : ℕ) (vs good : List ℤ) (a : Atomic) → takes x vs good a ≡ true → (a ≡ record { var = x; op = Eq; value = a.value }) × (is_among a.value vs ≡ true) × (is_among a.value good ≡ false)
takes_parts x vs good a t =
    let p = and_parts ((a.var == x) && same_op a.op Eq) (is_among a.value vs && not (is_among a.value good)) t in
    let q = and_parts (a.var == x) (same_op a.op Eq) p.0 in
    let r = and_parts (is_among a.value vs) (not (is_among a.value good)) p.1 in
    (atoms_equal a (record { var = x; op = Eq; value = a.value }) ((Decides-eqb a.var x).0 q.0) (op_where a.op Eq q.1) refl, r.0, not-true (is_among a.value good) r.1)

takes_from : (x : ℕ) (vs good : List ℤ) (v : ℤ) → Among v vs → is_among v good ≡ false → takes x vs good (record { var = x; op = Eq; value = v }) ≡ true
takes_from x vs good v h n =
    and_from ((x == x) && true) (is_among v vs && not (is_among v good))
    (and_from (x == x) true ((Decides-eqb x x).1 refl) refl)
    (and_from (is_among v vs) (not (is_among v good)) (is_among-at v vs h) (not_from_false (is_among v good) n))

-- a value that is not supported meets each atom on the variable
unsupported_meets : (x : ℕ) (atoms : List Atomic) (vs : List ℤ) (a : Atomic) (v : ℤ) → Among v vs → is_among v (filter (fails_one x atoms) vs) ≡ false → Among a atoms → a.var ≡ x → meets a v ≡ true
unsupported_meets x atoms vs a v h n m e =
    true_from_ne_false (meets a v) (λ k. both_ways (is_among v (filter (fails_one x atoms) vs)) n (is_among-at v (filter (fails_one x atoms) vs) (Among-filter_all (fails_one x atoms) vs v h (fails_at x atoms a v m e k))))

-- the only point that is not supported
only_point : (x : ℕ) (atoms : List Atomic) (vs : List ℤ) (u v : ℤ) → Among (record { var = x; op = Eq; value = u }) atoms → Among v (filter (lacks x atoms (filter (fails_one x atoms) vs)) vs) → v ≡ u
only_point x atoms vs u v m h =
    let r = Among-filter_only (lacks x atoms (filter (fails_one x atoms) vs)) vs v h in
    let p = and_parts (point_nogood atoms x v) (not (is_among v (filter (fails_one x atoms) vs))) r.1 in
    same-from_tests v u (unsupported_meets x atoms vs (record { var = x; op = Eq; value = u }) v r.0 (not-true (is_among v (filter (fails_one x atoms) vs)) p.1) m refl)

taken_by : (x : ℕ) (atoms : List Atomic) (vs : List ℤ) (o : Option Atomic) → IsTaken x vs (filter (fails_one x atoms) vs) atoms o → option_map (other_than x) (least (filter (lacks x atoms (filter (fails_one x atoms) vs)) vs)) ≡ o
taken_by x atoms vs None s =
    ap (λ ys. option_map (other_than x) (least ys)) (nothing_left (filter (lacks x atoms (filter (fails_one x atoms) vs)) vs) (λ v h.
    let r = Among-filter_only (lacks x atoms (filter (fails_one x atoms) vs)) vs v h in
    let p = and_parts (point_nogood atoms x v) (not (is_among v (filter (fails_one x atoms) vs))) r.1 in
    both_ways (takes x vs (filter (fails_one x atoms) vs) (record { var = x; op = Eq; value = v }))
    (s (record { var = x; op = Eq; value = v }) (among-has atoms (record { var = x; op = Eq; value = v }) p.0))
    (takes_from x vs (filter (fails_one x atoms) vs) v r.0 (not-true (is_among v (filter (fails_one x atoms) vs)) p.1))))
  where
    nothing_left : (xs : List ℤ) → ((v : ℤ) → Among v xs → ⊥) → xs ≡ []
    nothing_left [] h = refl
    nothing_left (y ∷ ys) h = absurd (h y (inl refl))
taken_by x atoms vs (Some g) s =
    let a : Atomic = s.0 in
    let p = takes_parts x vs (filter (fails_one x atoms) vs) a s.2 in
    let m : Among (record { var = x; op = Eq; value = a.value }) atoms = subst (λ b. Among b atoms) p.0 s.1 in
    let k : lacks x atoms (filter (fails_one x atoms) vs) a.value ≡ true = and_from (point_nogood atoms x a.value) (not (is_among a.value (filter (fails_one x atoms) vs))) (has-among atoms (record { var = x; op = Eq; value = a.value }) m) (not_from_false (is_among a.value (filter (fails_one x atoms) vs)) p.2) in
    let e = least-is (filter (lacks x atoms (filter (fails_one x atoms) vs)) vs) a.value
    (Among-filter_all (lacks x atoms (filter (fails_one x atoms) vs)) vs a.value (is_among-some a.value vs p.1) k)
    (λ v h. least_one a.value v (only_point x atoms vs a.value v m h)) in
    ap (option_map (other_than x)) e ∙ ap Some (sym (s.3 ∙ ap negated p.0))
  where
    least_one : (u v : ℤ) → v ≡ u → u ≤ℤ v
    least_one u v e = omega (arith, ints)

-- the value that is taken out is the least point that is not supported
pub taken-least : (x : ℕ) (atoms : List Atomic) (vs : List ℤ) → option_map (other_than x) (least (filter (λ v. point_nogood atoms x v && not (is_among v (filter (fails_one x atoms) vs))) vs)) ≡ taken x vs (filter (fails_one x atoms) vs) atoms
taken-least x atoms vs = taken_by x atoms vs (taken x vs (filter (fails_one x atoms) vs) atoms) (taken_is x vs (filter (fails_one x atoms) vs) atoms)

-- where the atoms that are not entailed are on one variable, the values that fail one give its turn
pub turn_on : (d : Domains) (atoms : List Atomic) (x : ℕ) → Covers (scope_of atoms) d → is_dead d ≡ false → IsDomain (values d x) → open_of d atoms ≡ On x
    → turn_of (face_nogood atoms) d ≡ option_map Atom (given_by x atoms (values d x) (filter (fails_one x atoms) (values d x)))
turn_on d atoms x c l o e =
    let s = subst (Stands d atoms) e (stands d atoms) in
    let i : x < length d = open_within d atoms x c e in
    let m = in_scope d atoms x s.0 in
    let g = has_one d atoms x s.0 in
    let support = clause-support (face_nogood atoms) (λ y. fails_one y atoms) d x (nogood-clause atoms) l i m (IsDomain-filter (fails_one x atoms) (values d x) o)
    (λ y k n. has_none d atoms y (λ a h q. s.1 a h (λ r. n (sym q ∙ r)))) in
    let parts = support-parts (face_nogood atoms) d x (filter (fails_one x atoms) (values d x)) i l ((nogood-clause atoms).safe d l x m g) support in
    clause-one (face_nogood atoms) (λ y. fails_one y atoms) d x (nogood-clause atoms) l m g
    ∙ ap (option_map Atom) (given_on-parts (face_nogood atoms) d x (filter (fails_one x atoms) (values d x)) (taken x (values d x) (filter (fails_one x atoms) (values d x)) atoms) parts.0 parts.1 (parts.2 ∙ taken-least x atoms (values d x)))

-- ---- explanations

-- what is needed of a description for the nogood, as the code has it
pub nogood_explained : (atoms : List Atomic) (initial now : Domains) (target : Option Atomic) (given : List Atomic) (scope : List ℕ) → given ≡ atoms → scope ≡ scope_of atoms → Covers (scope_of atoms) now → is_dead now ≡ false → IsWithin now initial → IsOpen now target → suffices (face_nogood atoms) now target [] ≡ true → AreDomains initial scope
    → flat_map (reasons_on (λ x. fails_one x given) target initial now) scope ≡ explanation (face_nogood atoms) initial now target
nogood_explained atoms initial now target given scope e g c l p o t s =
    ap (λ bs. flat_map (reasons_on (λ x. fails_one x bs) target initial now) scope) e
    ∙ ap (flat_map (reasons_on (λ x. fails_one x atoms) target initial now)) g
    ∙ sym (explanation-reasons (face_nogood atoms) (λ x. fails_one x atoms) initial now target (nogood-clause atoms) (nogood_lawful atoms).ordered (subst (AreDomains initial) g s) c l p o t)
