-- The turn of a restriction, and what is needed of a description for it.
use Rattle.std.proofs.Common.{◌≡◌, ℕ, ◌<◌, Bool, true, false, cond, not, ◌&&◌, ◌==◌, nat_lt, ◌⊎◌, List, [], ◌∷◌, ◌++◌, length, ℤ, Option, Some, None, option_map, Result, Ok, Err, IfOk, refl, sym, ◌∙◌, ap, subst, inl, inr}
use Rattle.std.specs.declared.cmp.Ordering.TheVariants.{Less, Equal, Greater}
use Rattle.std.specs.List.{filter, flat_map}
use Rattle.std.specs.Ordering.{is_lt, nat_cmp}
use Rattle.std.proofs.lemmas.Bool.{and_left, and_right, both_ways, false_from_ne_true, not-false, not-true, not_from_false, not_from_true, or_from}
use Rattle.std.proofs.lemmas.Bool.Decides.{Decides-eqb}
use Rattle.std.proofs.lemmas.List.{append-nil}
use Rattle.std.proofs.lemmas.Option.{none-some, same_Some}
use Rattle.dp_base.specs.Lists.{Among}
use Rattle.dp_base.specs.Scopes.{in_order}
use Rattle.dp_base.proofs.Lists.{Among-filter_all, Among-filter_only, Each-among}
use Rattle.dp_base.proofs.ScopeLaws.{among_in_order, among_in_order_out, order_of, with_variable-after}
use Rattle.dp_domain.specs.Atoms.{Atomic, meets, negated}
use Rattle.dp_domain.specs.Conditions.{IsApart, in_force, with_condition}
use Rattle.dp_domain.specs.declared.found.Found.{Found}
use Rattle.dp_domain.specs.declared.found.Found.TheVariants.{Atom, Clash}
use Rattle.dp_domain.specs.Explanations.{IsOpen, described, explanation, suffices}
use Rattle.dp_domain.specs.Faces.{Covers}
use Rattle.dp_domain.specs.Sets.{IsDomain, is_among, share}
use Rattle.dp_domain.specs.States.{Domains, IsWithin, entails, is_dead, is_nil, values}
use Rattle.dp_domain.specs.Supports.{bound_by}
use Rattle.dp_domain.specs.Turns.{turn_of}
use Rattle.dp_domain.proofs.AtomLaws.{meets-negated}
use Rattle.dp_domain.proofs.ConditionLaws.{test_over}
use Rattle.dp_domain.proofs.SetLaws.{IsDomain-filter}
use Rattle.dp_domain.proofs.ShareLaws.{is_among-at, is_among-some, share-at, share-none, share-some}
use Rattle.dp_domain.proofs.StateLaws.{entails-at, entails-fails, entails-from, entails-not, is_nil-among, value-from_test}
use Rattle.dp_domain.proofs.SupportLaws.{support-bound}
use Rattle.dp_domain.proofs.TurnLaws.{filter-same}
use Rattle.dp_rule_clause.specs.Clauses.{AreDomains, failed_by, reasons_on, where_failing}
use Rattle.dp_rule_clause.specs.RestrictionLaws.{variable_in_scope, within_lawful}
use Rattle.dp_rule_clause.specs.Restrictions.{Restriction, escapes, face_within, fails_condition, open_condition, scope_of, turn_against, turn_within}
use Rattle.dp_rule_clause.proofs.ClauseLaws.{HasNone, HasOne, IsClause, clause-clash, clause-one, clause-several, clause-support}
use Rattle.dp_rule_clause.proofs.ClauseReasons.{explanation-reasons}

-- ---- values that meet the constraint

escapes_variable : (q : Restriction) (v : ℤ) → escapes q q.var v ≡ is_among v q.set
escapes_variable q v = ap (λ b. cond b (is_among v q.set) (fails_condition q.condition v)) ((Decides-eqb q.var q.var).1 refl)

escapes_other : (q : Restriction) (x : ℕ) (v : ℤ) → (q.var ≡ x → ⊥) → escapes q x v ≡ fails_condition q.condition v
escapes_other q x v n = ap (λ b. cond b (is_among v q.set) (fails_condition q.condition v)) (false_from_ne_true (q.var == x) (λ e. n ((Decides-eqb q.var x).0 e)))

-- the condition's variable is not the one that is restricted
condition_apart : (q : Restriction) (a : Atomic) → IsApart q.condition (q.var ∷ []) → q.condition ≡ Some a → q.var ≡ a.var → ⊥
condition_apart q a h e k = let n : IsApart (Some a) (q.var ∷ []) = subst (λ c. IsApart c (q.var ∷ [])) e h in n (inl (sym k))

escapes_condition : (q : Restriction) (a : Atomic) (v : ℤ) → IsApart q.condition (q.var ∷ []) → q.condition ≡ Some a → escapes q a.var v ≡ not (meets a v)
escapes_condition q a v h e = escapes_other q a.var v (condition_apart q a h e) ∙ ap (λ c. fails_condition c v) e

cond_cases : (c : Option Atomic) (y x : ℕ) → Among x (with_condition c (y ∷ [])) → (x ≡ y) ⊎ ((a : Atomic) × (c ≡ Some a) × (x ≡ a.var))
cond_cases None y x (inl e) = inl e
cond_cases None y x (inr n) = absurd n
cond_cases (Some a) y x (inl e) = inr (a, refl, e)
cond_cases (Some a) y x (inr (inl e)) = inl e
cond_cases (Some a) y x (inr (inr n)) = absurd n

-- a variable of the scope is the one that is restricted, or the condition's
scope_cases : (q : Restriction) (x : ℕ) → Among x (scope_of q) → (x ≡ q.var) ⊎ ((a : Atomic) × (q.condition ≡ Some a) × (x ≡ a.var))
scope_cases q x m = cond_cases q.condition q.var x (among_in_order_out x (with_condition q.condition (q.var ∷ [])) m)

condition_in_scope : (q : Restriction) (a : Atomic) → q.condition ≡ Some a → Among a.var (scope_of q)
condition_in_scope q a e = among_in_order a.var (with_condition q.condition (q.var ∷ [])) (subst (λ c. Among a.var (with_condition c (q.var ∷ []))) (sym e) (inl refl))

in_force_where : (c : Option Atomic) (d : Domains) → ((a : Atomic) → c ≡ Some a → entails d a ≡ true) → in_force d c ≡ true
in_force_where None d h = refl
in_force_where (Some a) d h = h a refl

in_force_not : (c : Option Atomic) (d : Domains) (a : Atomic) → c ≡ Some a → entails d a ≡ false → in_force d c ≡ false
in_force_not c d a e n = ap (in_force d) e ∙ n

-- no value of the condition's variable fails it where it is entailed
condition_none : (q : Restriction) (d : Domains) (a : Atomic) → IsApart q.condition (q.var ∷ []) → q.condition ≡ Some a → entails d a ≡ true → HasNone (escapes q) d a.var
condition_none q d a h e t v m = escapes_condition q a v h e ∙ not_from_true (meets a v) (entails-at d a v t m)

condition_one : (q : Restriction) (d : Domains) (a : Atomic) → IsApart q.condition (q.var ∷ []) → q.condition ≡ Some a → entails d a ≡ false → HasOne (escapes q) d a.var
condition_one q d a h e n =
    let w = entails-fails d a n in
    (w.0, w.1, escapes_condition q a w.0 h e ∙ not_from_false (meets a w.0) w.2)

variable_none : (q : Restriction) (d : Domains) → share (values d q.var) q.set ≡ false → HasNone (escapes q) d q.var
variable_none q d n v m =
    escapes_variable q v ∙ false_from_ne_true (is_among v q.set) (λ t. both_ways (share (values d q.var) q.set) n (share-at (values d q.var) q.set v m (is_among-some v q.set t)))

variable_one : (q : Restriction) (d : Domains) → share (values d q.var) q.set ≡ true → HasOne (escapes q) d q.var
variable_one q d t =
    let r = share-some (values d q.var) q.set t in
    (r.0, r.1, escapes_variable q r.0 ∙ is_among-at r.0 q.set r.2)

-- a restriction is met as soon as a value of the condition's variable fails the condition, or one of the variable lies in the set
pub within-clause : (q : Restriction) → IsApart q.condition (q.var ∷ []) → IsClause (face_within q) (escapes q)
within-clause q apart = record {
  clash = λ d l h.
      test_over (is_dead d) (in_force d q.condition) (not (share (values d q.var) q.set))
      (in_force_where q.condition d (λ a e. entails-from d a (λ v k. not-false (meets a v) (sym (escapes_condition q a v apart e) ∙ h a.var (condition_in_scope q a e) v k))))
      (not_from_false (share (values d q.var) q.set) (share-none (values d q.var) q.set (λ v m k.
      both_ways (is_among v q.set) (sym (escapes_variable q v) ∙ h q.var (variable_in_scope q) v m) (is_among-at v q.set k))));
  safe = λ d l x s g. elim (scope_cases q x s) [
    | inl e ↦
        let t : is_among g.0 q.set ≡ true = sym (escapes_variable q g.0) ∙ ap (λ y. escapes q y g.0) (sym e) ∙ g.2 in
        let m : Among g.0 (values d q.var) = subst (λ y. Among g.0 (values d y)) e g.1 in
        or_from (is_dead d) (in_force d q.condition && not (share (values d q.var) q.set)) l
        (and_right (in_force d q.condition) (not (share (values d q.var) q.set)) (not_from_true (share (values d q.var) q.set) (share-at (values d q.var) q.set g.0 m (is_among-some g.0 q.set t))))
    | inr r ↦
        let a : Atomic = r.0 in
        let t : not (meets a g.0) ≡ true = sym (escapes_condition q a g.0 apart r.1) ∙ ap (λ y. escapes q y g.0) (sym r.2) ∙ g.2 in
        let n : entails d a ≡ false = entails-not d a g.0 (subst (λ y. Among g.0 (values d y)) r.2 g.1) (not-true (meets a g.0) t) in
        or_from (is_dead d) (in_force d q.condition && not (share (values d q.var) q.set)) l
        (and_left (in_force d q.condition) (not (share (values d q.var) q.set)) (in_force_not q.condition d a r.1 n))
  ];
}

-- ---- the condition where it is not entailed

abbrev IsOpenCondition : Domains → Option Atomic → Option Atomic → Type 0
IsOpenCondition d c None = (a : Atomic) → c ≡ Some a → entails d a ≡ true
IsOpenCondition d c (Some b) = (c ≡ Some b) × (entails d b ≡ false)

open_step : (d : Domains) (b : Atomic) (t : Bool) → entails d b ≡ t → IsOpenCondition d (Some b) (cond t None (Some b))
open_step d b true e = λ a k. subst (λ c. entails d c ≡ true) (same_Some b a k) e
open_step d b false e = (refl, e)

open_is : (d : Domains) (c : Option Atomic) → IsOpenCondition d c (open_condition d c)
open_is d None = λ a e. absurd (none-some a e)
open_is d (Some b) = open_step d b (entails d b) refl

-- where the condition is absent or entailed
open_none : (d : Domains) (c : Option Atomic) → open_condition d c ≡ None → (a : Atomic) → c ≡ Some a → entails d a ≡ true
open_none d c e = subst (IsOpenCondition d c) e (open_is d c)

-- where it is neither
pub open_some : (d : Domains) (c : Option Atomic) (b : Atomic) → open_condition d c ≡ Some b → (c ≡ Some b) × (entails d b ≡ false)
open_some d c b e = subst (IsOpenCondition d c) e (open_is d c)

-- ---- turns

covered : (q : Restriction) (d : Domains) (x : ℕ) → Covers (scope_of q) d → Among x (scope_of q) → x < length d
covered q d x c m = Each-among (λ y. y < length d) (scope_of q) c x m

-- the restricted variable is one of the state
pub variable_covered : (q : Restriction) (d : Domains) → Covers (scope_of q) d → q.var < length d
variable_covered q d c = covered q d q.var c (variable_in_scope q)

-- the condition's variable too
pub condition_covered : (q : Restriction) (d : Domains) (a : Atomic) → Covers (scope_of q) d → q.condition ≡ Some a → a.var < length d
condition_covered q d a c e = covered q d a.var c (condition_in_scope q a e)

-- the same where it is not entailed
pub open_covered : (q : Restriction) (d : Domains) (a : Atomic) → Covers (scope_of q) d → open_condition d q.condition ≡ Some a → a.var < length d
open_covered q d a c e = condition_covered q d a c (open_some d q.condition a e).0

same_in_set : (q : Restriction) (vs : List ℤ) → filter (escapes q q.var) vs ≡ filter (λ v. is_among v q.set) vs
same_in_set q vs = filter-same (escapes q q.var) (λ v. is_among v q.set) vs (λ v h. escapes_variable q v)

same_against : (q : Restriction) (a : Atomic) (vs : List ℤ) → IsApart q.condition (q.var ∷ []) → q.condition ≡ Some a → filter (escapes q a.var) vs ≡ filter (meets (negated a)) vs
same_against q a vs apart e = filter-same (escapes q a.var) (meets (negated a)) vs (λ v h. escapes_condition q a v apart e ∙ sym (meets-negated a v))

within_step : (q : Restriction) (d : Domains) (b : Bool) → IsApart q.condition (q.var ∷ []) → Covers (scope_of q) d → is_dead d ≡ false → IsDomain (filter (λ v. is_among v q.set) (values d q.var)) → ((a : Atomic) → q.condition ≡ Some a → entails d a ≡ true) → is_nil (filter (λ v. is_among v q.set) (values d q.var)) ≡ b
    → turn_of (face_within q) d ≡ cond b (Some Clash) (option_map Atom (bound_by (values d q.var) (filter (λ v. is_among v q.set) (values d q.var)) q.var))
within_step q d true apart c l o f e =
    clause-clash (face_within q) (escapes q) d (within-clause q apart) l (λ x m. elim (scope_cases q x m) [
      | inl k ↦ subst (HasNone (escapes q) d) (sym k) (λ v h. escapes_variable q v ∙ false_from_ne_true (is_among v q.set) (λ t. both_ways (is_nil (filter (λ w. is_among w q.set) (values d q.var))) (is_nil-among (filter (λ w. is_among w q.set) (values d q.var)) v (Among-filter_all (λ w. is_among w q.set) (values d q.var) v h t)) e))
      | inr r ↦ subst (HasNone (escapes q) d) (sym r.2) (condition_none q d r.0 apart r.1 (f r.0 r.1))
    ])
within_step q d false apart c l o f e =
    let w = value-from_test (filter (λ v. is_among v q.set) (values d q.var)) e in
    let r = Among-filter_only (λ v. is_among v q.set) (values d q.var) w.0 w.1 in
    let g : HasOne (escapes q) d q.var = (w.0, r.0, escapes_variable q w.0 ∙ r.1) in
    let m = variable_in_scope q in
    let i = variable_covered q d c in
    let same = same_in_set q (values d q.var) in
    let support = clause-support (face_within q) (escapes q) d q.var (within-clause q apart) l i m (subst IsDomain (sym same) o) (λ y k n. elim (scope_cases q y k) [
      | inl p ↦ absurd (n p)
      | inr p ↦ subst (HasNone (escapes q) d) (sym p.2) (condition_none q d p.0 apart p.1 (f p.0 p.1))
    ]) in
    clause-one (face_within q) (escapes q) d q.var (within-clause q apart) l m g
    ∙ ap (option_map Atom) (support-bound (face_within q) d q.var (filter (escapes q q.var) (values d q.var)) i l ((within-clause q apart).safe d l q.var m g) support (λ v. refl) ∙ ap (λ vs. bound_by (values d q.var) vs q.var) same)

-- where the condition is absent or entailed
pub turn-within : (q : Restriction) (d : Domains) → IsApart q.condition (q.var ∷ []) → Covers (scope_of q) d → is_dead d ≡ false → IsDomain (filter (λ v. is_among v q.set) (values d q.var)) → open_condition d q.condition ≡ None → turn_of (face_within q) d ≡ turn_within q.var q.set (values d q.var)
turn-within q d apart c l o e = within_step q d (is_nil (filter (λ v. is_among v q.set) (values d q.var))) apart c l o (open_none d q.condition e) refl

-- where it is neither, and a value lies in the set
pub turn-free : (q : Restriction) (d : Domains) (a : Atomic) → IsApart q.condition (q.var ∷ []) → is_dead d ≡ false → open_condition d q.condition ≡ Some a → share (values d q.var) q.set ≡ true → turn_of (face_within q) d ≡ None
turn-free q d a apart l e t =
    let r = open_some d q.condition a e in
    clause-several (face_within q) (escapes q) d q.var a.var (within-clause q apart) l (variable_in_scope q) (variable_one q d t) (condition_in_scope q a r.0) (condition_one q d a apart r.0 r.1) (condition_apart q a apart r.0)

-- where it is neither, and none does
pub turn-against : (q : Restriction) (d : Domains) (a : Atomic) → IsApart q.condition (q.var ∷ []) → Covers (scope_of q) d → is_dead d ≡ false → IsDomain (values d a.var) → open_condition d q.condition ≡ Some a → share (values d q.var) q.set ≡ false → turn_of (face_within q) d ≡ turn_against a (values d a.var)
turn-against q d a apart c l o e t =
    let r = open_some d q.condition a e in
    let m = condition_in_scope q a r.0 in
    let i = covered q d a.var c m in
    let g = condition_one q d a apart r.0 r.1 in
    let same = same_against q a (values d a.var) apart r.0 in
    let support = clause-support (face_within q) (escapes q) d a.var (within-clause q apart) l i m (IsDomain-filter (escapes q a.var) (values d a.var) o) (λ y k n. elim (scope_cases q y k) [
      | inl p ↦ subst (HasNone (escapes q) d) (sym p) (variable_none q d t)
      | inr p ↦ absurd (n (p.2 ∙ ap (λ (b : Atomic). b.var) (same_Some p.0 a (sym p.1 ∙ r.0))))
    ]) in
    clause-one (face_within q) (escapes q) d a.var (within-clause q apart) l m g
    ∙ ap (option_map Atom) (support-bound (face_within q) d a.var (filter (escapes q a.var) (values d a.var)) i l ((within-clause q apart).safe d l a.var m g) support (λ v. refl) ∙ ap (λ vs. bound_by (values d a.var) vs a.var) same)

-- the first answer of the code
pub answer_within : {E : Type 0} (q : Restriction) (d : Domains) (r : Result (Option Found) E) → IsApart q.condition (q.var ∷ []) → Covers (scope_of q) d → is_dead d ≡ false → open_condition d q.condition ≡ None
    → IfOk r (λ turn. turn ≡ turn_within q.var q.set (values d q.var)) → IfOk r (λ turn. IsDomain (filter (λ v. is_among v q.set) (values d q.var))) → IfOk r (λ turn. turn ≡ turn_of (face_within q) d)
answer_within q d (Ok turn) apart c l e t o = t ∙ sym (turn-within q d apart c l o e)
answer_within q d (Err x) apart c l e t o = tt

-- and its last
pub answer_against : {E : Type 0} (q : Restriction) (d : Domains) (a : Atomic) (r : Result (Option Found) E) → IsApart q.condition (q.var ∷ []) → Covers (scope_of q) d → is_dead d ≡ false → open_condition d q.condition ≡ Some a → share (values d q.var) q.set ≡ false
    → IfOk r (λ turn. turn ≡ turn_against a (values d a.var)) → IfOk r (λ turn. IsDomain (values d a.var)) → IfOk r (λ turn. turn ≡ turn_of (face_within q) d)
answer_against q d a (Ok turn) apart c l e n t o = t ∙ sym (turn-against q d a apart c l o e n)
answer_against q d a (Err x) apart c l e n t o = tt

-- ---- what is needed of a description

reasons_variable : (q : Restriction) (target : Option Atomic) (initial now : Domains) → reasons_on (escapes q) target initial now q.var ≡ failed_by (filter (λ v. is_among v q.set) (where_failing target q.var (values initial q.var))) (described (values initial q.var) (values now q.var) q.var)
reasons_variable q target initial now = ap (λ ns. failed_by ns (described (values initial q.var) (values now q.var) q.var)) (same_in_set q (where_failing target q.var (values initial q.var)))

reasons_condition : (q : Restriction) (a : Atomic) (target : Option Atomic) (initial now : Domains) → IsApart q.condition (q.var ∷ []) → q.condition ≡ Some a → reasons_on (escapes q) target initial now a.var ≡ failed_by (filter (meets (negated a)) (where_failing target a.var (values initial a.var))) (described (values initial a.var) (values now a.var) a.var)
reasons_condition q a target initial now apart e = ap (λ ns. failed_by ns (described (values initial a.var) (values now a.var) a.var)) (same_against q a (where_failing target a.var (values initial a.var)) apart e)

scope_none : (q : Restriction) → q.condition ≡ None → scope_of q ≡ q.var ∷ []
scope_none q e = ap (λ c. in_order (with_condition c (q.var ∷ []))) e

scope_first : (q : Restriction) (a : Atomic) → q.condition ≡ Some a → nat_lt a.var q.var ≡ true → scope_of q ≡ a.var ∷ q.var ∷ []
scope_first q a e t = ap (λ c. in_order (with_condition c (q.var ∷ []))) e ∙ ap (λ b. cond b (a.var ∷ q.var ∷ []) (cond (nat_lt q.var a.var) (q.var ∷ a.var ∷ []) (q.var ∷ []))) t

scope_last : (q : Restriction) (a : Atomic) → q.condition ≡ Some a → nat_lt a.var q.var ≡ false → (q.var ≡ a.var → ⊥) → scope_of q ≡ q.var ∷ a.var ∷ []
scope_last q a e t n = ap (λ c. in_order (with_condition c (q.var ∷ []))) e ∙ elim (order_of a.var q.var) [
  | inl before ↦ absurd (both_ways (nat_lt a.var q.var) t before.test)
  | inr (inl after) ↦ with_variable-after a.var q.var [] after
  | inr (inr one) ↦ absurd (n (sym one.same))
]

less_by : (a e : Bool) → a ≡ is_lt (cond a Less (cond e Equal Greater))
less_by true e = refl
less_by false true = refl
less_by false false = refl

-- the order of two variables, as the code has it
pub before_by : (x y z : ℕ) (answer t : Bool) → z ≡ x → answer ≡ is_lt (nat_cmp z y) → answer ≡ t → nat_lt x y ≡ t
before_by x y z answer t e f g = less_by (nat_lt x y) (x == y) ∙ ap (λ w. is_lt (nat_cmp w y)) (sym e) ∙ sym f ∙ g

-- what is needed for the variable, and for the condition
abbrev for_variable : Restriction → Option Atomic → Domains → Domains → List Atomic
for_variable q target initial now = failed_by (filter (λ v. is_among v q.set) (where_failing target q.var (values initial q.var))) (described (values initial q.var) (values now q.var) q.var)

abbrev for_condition : Atomic → Option Atomic → Domains → Domains → List Atomic
for_condition a target initial now = failed_by (filter (meets (negated a)) (where_failing target a.var (values initial a.var))) (described (values initial a.var) (values now a.var) a.var)

same_two : (xs ys us ws : List Atomic) → xs ≡ us → ys ≡ ws → xs ++ ys ≡ us ++ (ws ++ [])
same_two xs ys us ws e f = ap (λ zs. zs ++ ys) e ∙ ap (λ zs. us ++ zs) (f ∙ sym (append-nil ws))

-- the reasons where there is no condition
pub reasons_alone : (q : Restriction) (target : Option Atomic) (initial now : Domains) (old why : List Atomic) → q.condition ≡ None → old ≡ [] → why ≡ old ++ for_variable q target initial now → why ≡ flat_map (reasons_on (escapes q) target initial now) (scope_of q)
reasons_alone q target initial now old why e f g =
    g ∙ ap (λ zs. zs ++ for_variable q target initial now) f ∙ sym (reasons_variable q target initial now) ∙ sym (append-nil (reasons_on (escapes q) target initial now q.var))
    ∙ sym (ap (flat_map (reasons_on (escapes q) target initial now)) (scope_none q e))

-- where the condition's variable comes first
pub reasons_after : (q : Restriction) (a : Atomic) (target : Option Atomic) (initial now : Domains) (old then why : List Atomic) → IsApart q.condition (q.var ∷ []) → q.condition ≡ Some a → nat_lt a.var q.var ≡ true → old ≡ [] → then ≡ old ++ for_condition a target initial now → why ≡ then ++ for_variable q target initial now
    → why ≡ flat_map (reasons_on (escapes q) target initial now) (scope_of q)
reasons_after q a target initial now old then why apart e t f g h =
    h ∙ ap (λ zs. zs ++ for_variable q target initial now) (g ∙ ap (λ zs. zs ++ for_condition a target initial now) f)
    ∙ same_two (for_condition a target initial now) (for_variable q target initial now) (reasons_on (escapes q) target initial now a.var) (reasons_on (escapes q) target initial now q.var) (sym (reasons_condition q a target initial now apart e)) (sym (reasons_variable q target initial now))
    ∙ sym (ap (flat_map (reasons_on (escapes q) target initial now)) (scope_first q a e t))

-- where it comes last
pub reasons_before : (q : Restriction) (a : Atomic) (target : Option Atomic) (initial now : Domains) (old then why : List Atomic) → IsApart q.condition (q.var ∷ []) → q.condition ≡ Some a → nat_lt a.var q.var ≡ false → old ≡ [] → then ≡ old ++ for_variable q target initial now → why ≡ then ++ for_condition a target initial now
    → why ≡ flat_map (reasons_on (escapes q) target initial now) (scope_of q)
reasons_before q a target initial now old then why apart e t f g h =
    h ∙ ap (λ zs. zs ++ for_condition a target initial now) (g ∙ ap (λ zs. zs ++ for_variable q target initial now) f)
    ∙ same_two (for_variable q target initial now) (for_condition a target initial now) (reasons_on (escapes q) target initial now q.var) (reasons_on (escapes q) target initial now a.var) (sym (reasons_variable q target initial now)) (sym (reasons_condition q a target initial now apart e))
    ∙ sym (ap (flat_map (reasons_on (escapes q) target initial now)) (scope_last q a e t (condition_apart q a apart e)))

-- what is needed of a description for the restriction, as the code has it
pub within_explained : (q p : Restriction) (initial now : Domains) (target : Option Atomic) → p ≡ q → IsApart p.condition (p.var ∷ []) → Covers (scope_of q) now → is_dead now ≡ false → IsWithin now initial → IsOpen now target → suffices (face_within q) now target [] ≡ true → AreDomains initial (scope_of p)
    → flat_map (reasons_on (escapes p) target initial now) (scope_of p) ≡ explanation (face_within q) initial now target
within_explained q p initial now target e apart c l w o t s =
    sym (explanation-reasons (face_within p) (escapes p) initial now target (within-clause p apart) (within_lawful p).ordered s (subst (λ r. Covers (scope_of r) now) (sym e) c) l w o (subst (λ r. suffices (face_within r) now target [] ≡ true) (sym e) t))
    ∙ ap (λ r. explanation (face_within r) initial now target) e
