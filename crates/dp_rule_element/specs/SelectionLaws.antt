-- The laws of a selection.
use Rattle.std.specs.Prelude.{◌≡◌, ℕ, zero, suc, ◌+◌, Bool, true, false, not, ◌&&◌, ◌||◌, ◌↔◌, Some, None, slice_get, List, [], ◌∷◌, length, ℤ, pos}
use Rattle.std.specs.List.{enumerate_from, list_any}
use Rattle.std.proofs.Common.{refl, sym, ◌∙◌, ap, subst, inl, inr, arith}
use Rattle.std.proofs.lemmas.Bool.{false≢true, both_ways, and_from, and_parts, false_from_ne_true, not_from_false, or_cases, or_left, or_right}
use Rattle.std.proofs.lemmas.Bool.Decides.{Decides-eqb}
use Rattle.dp_base.specs.Lists.{Among}
use Rattle.dp_base.proofs.Lists.{Each-among, list_any-at, list_any-some}
use Rattle.dp_base.proofs.ScopeLaws.{climbs_in_order}
use Rattle.dp_domain.specs.Faces.{AgreesOn, Covers, Fixes, IsLawful}
use Rattle.dp_domain.specs.Sets.{is_among, share}
use Rattle.dp_domain.specs.States.{Domains, LiesIn, IsWithin, is_dead}
use Rattle.dp_domain.specs.Terms.{IsTermOf, term_at, term_values, term_variables}
use Rattle.dp_domain.specs.declared.term.Term.{Term}
use Rattle.dp_domain.specs.declared.term.Term.TheVariants.{Var, Const}
use Rattle.dp_domain.proofs.ShareLaws.{is_among-at, is_among-some, share-at, share-some}
use Rattle.dp_domain.proofs.StateLaws.{LiesIn-alive, dead-within}
use Rattle.dp_domain.proofs.TermLaws.{IsInScope, term_in_scope, term_values-fixed, term_values-local, term_values-sound, term_values-within, terms_covered}
use Rattle.dp_rule_element.specs.Selections.{ClashesElement, IsEntry, MeetsElement, NoneSelectable, Selection, any_selectable, face_element, is_selectable, is_variable, numbered, scope_of, terms_of, test_element}

-- ---- entries and their numbers

-- an entry that is numbered from n stands at its place
pub numbered_at : (n : ℕ) (xs : List Term) (e : ℕ × Term) → Among e (enumerate_from n xs) → (k : ℕ) × (e.0 ≡ n + k) × (slice_get xs k ≡ Some e.1)
numbered_at n [] e here = absurd here
numbered_at n (x ∷ xs) e (inl h) = (zero, ap (λ (f : ℕ × Term). f.0) h ∙ omega arith, sym (ap (λ (f : ℕ × Term). Some f.1) h))
numbered_at n (x ∷ xs) e (inr h) =
    let r = numbered_at (n + 1) xs e h in (suc r.0, omega (arith, r.1), r.2)

-- the term at a place is numbered so
pub among_numbered : (n : ℕ) (xs : List Term) (k : ℕ) (t : Term) → slice_get xs k ≡ Some t → Among (n + k, t) (enumerate_from n xs)
among_numbered n [] k t e = absurd (none_some t e)
  where
    none_some : (t : Term) → None ≡ Some t → ⊥
    none_some t e = cc
among_numbered n (x ∷ xs) zero t e = inl (same_pair (n + 0) n t x (omega arith) (sym (same_some x t e)))
  where
    same_some : (x t : Term) → Some x ≡ Some t → x ≡ t
    same_some x t e = cc

    same_pair : (a b : ℕ) (t x : Term) → a ≡ b → t ≡ x → ◌≡◌ {A = ℕ × Term} (a, t) (b, x)
    same_pair a b t x e f = ap (λ (n : ℕ). (n, t)) e ∙ ap (λ (u : Term). (b, u)) f
among_numbered n (x ∷ xs) (suc k) t e =
    inr (subst (λ m. Among (m, t) (enumerate_from (n + 1) xs)) (moved n k) (among_numbered (n + 1) xs k t e))
  where
    moved : (n k : ℕ) → n + 1 + k ≡ n + suc k
    moved n k = omega arith

-- an entry that can be selected: its place, the entry, and a number that it shares with the value
record Selectable (q : Selection) (d : Domains) : Type 0 where
  place : ℕ
  entry : Term
  shared : ℤ
  index : Among (pos (place + 1)) (term_values d q.index)
  found : slice_get q.array place ≡ Some entry
  first : Among shared (term_values d entry)
  second : Among shared (term_values d q.value)

selectable_where : (q : Selection) (d : Domains) → any_selectable q d ≡ true → Selectable q d
selectable_where q d e =
    let r = list_any-some (is_selectable d q.index q.value) (numbered q.array) e in
    let n = numbered_at 1 q.array r.0 r.1 in
    let both = and_parts (is_among (pos r.0.0) (term_values d q.index)) (share (term_values d r.0.1) (term_values d q.value)) r.2 in
    let v = share-some (term_values d r.0.1) (term_values d q.value) both.1 in
    let number : r.0.0 ≡ n.0 + 1 = omega (arith, n.1) in record {
      place = n.0;
      entry = r.0.1;
      shared = v.0;
      index = subst (λ m. Among (pos m) (term_values d q.index)) number (is_among-some (pos r.0.0) (term_values d q.index) both.0);
      found = n.2;
      first = v.1;
      second = v.2;
    }

true_at : (q : Selection) (d : Domains) → Selectable q d → any_selectable q d ≡ true
true_at q d h =
    let number : h.place + 1 ≡ 1 + h.place = omega arith in
    list_any-at (is_selectable d q.index q.value) (numbered q.array) (1 + h.place, h.entry) (among_numbered 1 q.array h.place h.entry h.found)
    (and_from (is_among (pos (1 + h.place)) (term_values d q.index)) (share (term_values d h.entry) (term_values d q.value))
    (is_among-at (pos (1 + h.place)) (term_values d q.index) (subst (λ m. Among (pos m) (term_values d q.index)) number h.index))
    (share-at (term_values d h.entry) (term_values d q.value) h.shared h.first h.second))

-- ---- the laws

apart : (b : Bool) → not b ≡ true → b ≡ false
apart true e = absurd (false≢true e)
apart false e = refl

none_where : (q : Selection) (d : Domains) → any_selectable q d ≡ false → NoneSelectable q d
none_where q d e i entry in_index there v first second =
    both_ways (any_selectable q d) e (true_at q d (record {
      place = there.0;
      entry = entry;
      shared = v;
      index = subst (λ j. Among j (term_values d q.index)) there.1 in_index;
      found = there.2;
      first = first;
      second = second;
    }))

false_where : (q : Selection) (d : Domains) → NoneSelectable q d → any_selectable q d ≡ false
false_where q d none = false_from_ne_true (any_selectable q d) (λ e.
    let h = selectable_where q d e in
    none (pos (h.place + 1)) h.entry h.index (h.place, refl, h.found) h.shared h.first h.second)

clashes_where : (q : Selection) (d : Domains) → test_element q d ≡ true → ClashesElement q d
clashes_where q d e = elim (or_cases (is_dead d) (not (any_selectable q d)) e) [
  | inl dead ↦ inl dead
  | inr none ↦ inr (none_where q d (apart (any_selectable q d) none))
]

true_where : (q : Selection) (d : Domains) → ClashesElement q d → test_element q d ≡ true
true_where q d (inl dead) = or_left (is_dead d) (not (any_selectable q d)) dead
true_where q d (inr none) =
    or_right (is_dead d) (not (any_selectable q d)) (not_from_false (any_selectable q d) (false_where q d none))

-- the test is true exactly where it clashes
pub element_exact : (q : Selection) (d : Domains) → (face_element q).test d ≡ true ↔ ClashesElement q d
element_exact q d = (clashes_where q d, true_where q d)

monotone : (q : Selection) (d e : Domains) → IsWithin e d → ClashesElement q d → ClashesElement q e
monotone q d e within (inl dead) = inl (dead-within d e within dead)
monotone q d e within (inr none) =
    inr (λ i entry in_index there v first second.
    none i entry (term_values-within d e q.index within i in_index) there v (term_values-within d e entry within v first) (term_values-within d e q.value within v second))

list_any-same : {A : Type 0} (p q : A → Bool) (xs : List A) → ((x : A) → Among x xs → p x ≡ q x) → list_any p xs ≡ list_any q xs
list_any-same p q [] each = refl
list_any-same p q (x ∷ xs) each = ap (λ b. b || list_any p xs) (each x (inl refl)) ∙ ap (λ b. q x || b) (list_any-same p q xs (λ y here. each y (inr here)))

pub among_at : (xs : List Term) (k : ℕ) (t : Term) → slice_get xs k ≡ Some t → Among t xs
among_at xs k t e = entry_of 1 xs (1 + k, t) (among_numbered 1 xs k t e)
  where
    entry_of : (n : ℕ) (xs : List Term) (e : ℕ × Term) → Among e (enumerate_from n xs) → Among e.1 xs
    entry_of n [] e here = here
    entry_of n (x ∷ xs) e (inl h) = inl (ap (λ (f : ℕ × Term). f.1) h)
    entry_of n (x ∷ xs) e (inr h) = inr (entry_of (n + 1) xs e h)

index_in_scope : (q : Selection) → IsInScope (scope_of q) q.index
index_in_scope q = term_in_scope (terms_of q) q.index (inl refl)

value_in_scope : (q : Selection) → IsInScope (scope_of q) q.value
value_in_scope q = term_in_scope (terms_of q) q.value (inr (inl refl))

entry_in_scope : (q : Selection) (place : ℕ) (entry : Term) → slice_get q.array place ≡ Some entry → IsInScope (scope_of q) entry
entry_in_scope q place entry e = term_in_scope (terms_of q) entry (inr (inr (among_at q.array place entry e)))

is_selectable-local : (q : Selection) (d e : Domains) → AgreesOn (scope_of q) d e → (p : ℕ × Term) → Among p (numbered q.array) → is_selectable d q.index q.value p ≡ is_selectable e q.index q.value p
is_selectable-local q d e agrees p here =
    let n = numbered_at 1 q.array p here in
    same_choice (pos p.0) (term_values d q.index) (term_values e q.index) (term_values d p.1) (term_values e p.1) (term_values d q.value) (term_values e q.value)
    (term_values-local (scope_of q) d e q.index agrees (index_in_scope q))
    (term_values-local (scope_of q) d e p.1 agrees (entry_in_scope q n.0 p.1 n.2))
    (term_values-local (scope_of q) d e q.value agrees (value_in_scope q))
  where
    same_choice : (i : ℤ) (a b f g h k : List ℤ) → a ≡ b → f ≡ g → h ≡ k → (is_among i a && share f h) ≡ (is_among i b && share g k)
    same_choice i a b f g h k p q r = ap (λ (xs : List ℤ). is_among i xs && share f h) p ∙ ap (λ (xs : List ℤ). is_among i b && share xs h) q ∙ ap (λ (xs : List ℤ). is_among i b && share g xs) r

same_test : (a b f g : Bool) → a ≡ b → f ≡ g → (a || not f) ≡ (b || not g)
same_test a b f g p q = cc

pub element_lawful : (q : Selection) → IsLawful (face_element q)
element_lawful q = record {
  ordered = climbs_in_order (term_variables (terms_of q));
  dead = λ d gone. true_where q d (inl gone);
  monotone = λ d e covers within h. true_where q e (monotone q d e within (clashes_where q d h));
  local = λ d e p r agrees. same_test (is_dead d) (is_dead e) (any_selectable q d) (any_selectable q e) (p ∙ sym r) (list_any-same (is_selectable d q.index q.value) (is_selectable e q.index q.value) (numbered q.array) (is_selectable-local q d e agrees));
}

sound_at : (q : Selection) (d : Domains) (s : ℕ → ℤ) (t : Term) → Covers (scope_of q) d → LiesIn s d → Among t (terms_of q) → Among (term_at s t) (term_values d t)
sound_at q d s t covers lies here = term_values-sound d s t lies (Each-among (IsTermOf (length d)) (terms_of q) (terms_covered d (terms_of q) covers) t here)

no_clash : (q : Selection) (d : Domains) (s : ℕ → ℤ) → Covers (scope_of q) d → LiesIn s d → MeetsElement q s → ClashesElement q d → ⊥
no_clash q d s covers lies met (inl dead) = both_ways (is_dead d) (LiesIn-alive d s lies) dead
no_clash q d s covers lies met (inr none) =
    none (term_at s q.index) met.0 (sound_at q d s q.index covers lies (inl refl)) met.1 (term_at s met.0)
    (sound_at q d s met.0 covers lies (inr (inr (among_at q.array met.1.0 met.0 met.1.2))))
    (subst (λ v. Among v (term_values d q.value)) (sym met.2) (sound_at q d s q.value covers lies (inr (inl refl))))

pub element_sound : (q : Selection) (d : Domains) (s : ℕ → ℤ) → Covers (face_element q).scope d → LiesIn s d → MeetsElement q s → (face_element q).test d ≡ false
element_sound q d s covers lies met =
    false_from_ne_true (test_element q d) (λ e. no_clash q d s covers lies met (clashes_where q d e))

-- where each variable of the scope has one value, a term has its value there, and no other
fixed_at : (q : Selection) (d : Domains) (s : ℕ → ℤ) (t : Term) → Fixes (scope_of q) s d → IsInScope (scope_of q) t → Among (term_at s t) (term_values d t)
fixed_at q d s t fixes here = subst (λ vs. Among (term_at s t) vs) (sym (term_values-fixed (scope_of q) s d t fixes here)) (inl refl)

fixed_only : (q : Selection) (d : Domains) (s : ℕ → ℤ) (t : Term) (v : ℤ) → Fixes (scope_of q) s d → IsInScope (scope_of q) t → Among v (term_values d t) → v ≡ term_at s t
fixed_only q d s t v fixes here there = only_value v (term_at s t) (subst (λ vs. Among v vs) (term_values-fixed (scope_of q) s d t fixes here) there)
  where
    only_value : (v w : ℤ) → Among v (w ∷ []) → v ≡ w
    only_value v w (inl e) = e
    only_value v w (inr none) = absurd none

not_met : (q : Selection) (d : Domains) (s : ℕ → ℤ) → is_dead d ≡ false → Fixes (scope_of q) s d → ClashesElement q d → MeetsElement q s → ⊥
not_met q d s alive fixes (inl dead) met = both_ways (is_dead d) alive dead
not_met q d s alive fixes (inr none) met =
    none (term_at s q.index) met.0 (fixed_at q d s q.index fixes (index_in_scope q)) met.1 (term_at s met.0)
    (fixed_at q d s met.0 fixes (entry_in_scope q met.1.0 met.0 met.1.2))
    (subst (λ v. Among v (term_values d q.value)) (sym met.2) (fixed_at q d s q.value fixes (value_in_scope q)))

clash_where_not_met : (q : Selection) (d : Domains) (s : ℕ → ℤ) → Fixes (scope_of q) s d → (MeetsElement q s → ⊥) → ClashesElement q d
clash_where_not_met q d s fixes fails =
    inr (λ i entry in_index there v first second. fails (
      entry,
      subst (λ j. IsEntry q.array j entry) (fixed_only q d s q.index i fixes (index_in_scope q) in_index) there,
      sym (fixed_only q d s entry v fixes (entry_in_scope q there.0 entry there.2) first) ∙ fixed_only q d s q.value v fixes (value_in_scope q) second,
    ))

pub element_deciding : (q : Selection) (d : Domains) (s : ℕ → ℤ) → is_dead d ≡ false → Fixes (face_element q).scope s d → ((face_element q).test d ≡ true) ↔ (MeetsElement q s → ⊥)
element_deciding q d s alive fixes =
    (λ e. not_met q d s alive fixes (clashes_where q d e), λ fails. true_where q d (clash_where_not_met q d s fixes fails))

same_var : (x y : ℕ) → Var x ≡ Var y → x ≡ y
same_var x y e = cc

const_or_var : (v : ℤ) (x : ℕ) → Const v ≡ Var x → ⊥
const_or_var v x e = cc

pub variable_exact : (t : Term) (x : ℕ) → is_variable t x ≡ true ↔ (t ≡ Var x)
variable_exact (Var y) x = (λ e. ap (λ (z : ℕ). Var z) ((Decides-eqb y x).0 e), λ e. (Decides-eqb y x).1 (same_var y x e))
variable_exact (Const v) x = (λ e. absurd (false≢true e), λ e. absurd (const_or_var v x e))

-- the values that it may take out are those of the index, where that is a variable
pub element_points : (q : Selection) (x : ℕ) (v : ℤ) → (face_element q).point x v ≡ true ↔ (q.index ≡ Var x)
element_points q x v = variable_exact q.index x
