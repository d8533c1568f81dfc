-- Where the variables of a scope stand.
use Rattle.std.proofs.Common.{◌≡◌, ℕ, zero, suc, ◌+◌, ◌-◌, ◌<◌, ◌≤◌, ◌==◌, true, false, ◌⊎◌, List, [], ◌∷◌, Some, None, length, get_or, ℤ, refl, sym, ◌∙◌, ap, subst, inl, inr, arith}
use Rattle.std.specs.List.{slice_get, list_any}
use Rattle.std.proofs.lemmas.Bool.{cases_eq, eq-eqb, ne_eqb}
use Rattle.std.proofs.lemmas.List.{get_or-map, get_or_default}
use Rattle.std.proofs.lemmas.Option.{slice_get-get_or, slice_get_within, get_or_from_slice_get}
use Rattle.dp_base.specs.Lists.{Among, Each, Climbs}
use Rattle.dp_base.proofs.Lists.{Among-get_or, Contains-from_among, list_any-at, list_any-not, Each-among, Each-from_among, Each-weaker}
use Rattle.dp_domain.specs.Atoms.{Atomic}
use Rattle.dp_domain.specs.Faces.{Covers}
use Rattle.dp_domain.specs.States.{Domains}
use Rattle.dp_domain.proofs.ConditionLaws.{condition_in_scope}
use Rattle.dp_rule_linear.specs.FormLaws.{variable_in_scope}
use Rattle.dp_domain.specs.Conditions.{IsApart, with_condition}
use Rattle.dp_rule_linear.specs.Forms.{IsGoodAt, IsProper, Linear, scope_of, term_at, variables}
use Rattle.dp_base.specs.Scopes.{in_order, with_variable}
use Rattle.dp_base.proofs.ScopeLaws.{IsBefore, IsSame, in_order-climbing, order_of, with_variable-after, with_variable-before}

-- ---- the variables of good terms

rising : (ts : List (ℤ × ℕ)) → ((j : ℕ) → suc j < length ts → (term_at ts j).1 < (term_at ts (suc j)).1) → Climbs (variables ts)
rising [] later = tt
rising (t ∷ []) later = (tt, tt)
rising (t ∷ u ∷ us) later =
    let rest : Climbs (variables (u ∷ us)) = rising (u ∷ us) (λ j h. later (suc j) (omega arith)) in
    let first : t.1 < u.1 = later 0 (omega arith) in
    ((first, Each-weaker (λ y. u.1 < y) (λ y. t.1 < y) (λ y h. omega arith) (variables us) rest.0), rest)

-- the variables of good terms are in order of declaration
pub climbs_good : (ts : List (ℤ × ℕ)) → ((k : ℕ) → k < length ts → IsGoodAt ts k) → Climbs (variables ts)
climbs_good ts good = rising ts (λ j h. (good (suc j) h).later j (omega arith))

-- a scope with a condition is the variables with its own
pub scope_with : (a : Atomic) (ts : List (ℤ × ℕ)) → Climbs (variables ts) → in_order (with_condition (Some a) (variables ts)) ≡ with_variable a.var (variables ts)
scope_with a ts climbs = ap (with_variable a.var) (in_order-climbing (variables ts) climbs)

-- a scope without is the variables
pub scope_without : (ts : List (ℤ × ℕ)) → Climbs (variables ts) → in_order (with_condition None (variables ts)) ≡ variables ts
scope_without ts climbs = in_order-climbing (variables ts) climbs

-- ---- an added variable among the others

-- it makes one more
pub length-with_variable : (x : ℕ) (ys : List ℕ) → ¬ (Among x ys) → length (with_variable x ys) ≡ suc (length ys)
length-with_variable x [] apart = refl
length-with_variable x (y ∷ ys) apart =
    elim (order_of x y) [
      | inl before ↦ ap length (with_variable-before x y ys before)
      | inr (inl after) ↦ ap length (with_variable-after x y ys after) ∙ ap suc (length-with_variable x ys (λ here. apart (inr here)))
      | inr (inr one) ↦ absurd (apart (inl one.same))
    ]

-- the one at the place, if any, is not less than the first
first_least : (y : ℕ) (ys : List ℕ) (k : ℕ) → Climbs (y ∷ ys) → k < length (y ∷ ys) → y ≤ get_or (y ∷ ys) k 0
first_least y ys zero climbs h = omega arith
first_least y ys (suc k) climbs h =
    let in_tail : k < length ys = omega arith in
    let more : y < get_or ys k 0 = Each-among (λ z. y < z) ys climbs.0 (get_or ys k 0) (Among-get_or ys k 0 in_tail) in
    omega arith

after_by : (x y z : ℕ) → y ≤ z → z < x → (IsBefore x y ⊎ (IsBefore y x ⊎ IsSame x y)) → IsBefore y x
after_by x y z h k (inl before) = absurd (let less : x < y = before.less in omega arith)
after_by x y z h k (inr (inl after)) = after
after_by x y z h k (inr (inr one)) = absurd (let e : x ≡ y = one.same in omega arith)

-- below the added one the others keep their places
pub place-before : (x : ℕ) (ys : List ℕ) (k : ℕ) → Climbs ys → k < length ys → get_or ys k 0 < x → slice_get (with_variable x ys) k ≡ Some (get_or ys k 0)
place-before x [] k climbs h less = absurd (omega arith)
place-before x (y ∷ ys) zero climbs h less = ap (λ zs. slice_get zs 0) (with_variable-after x y ys (after_by x y y (omega arith) less (order_of x y)))
place-before x (y ∷ ys) (suc k) climbs h less =
    ap (λ zs. slice_get zs (suc k)) (with_variable-after x y ys (after_by x y (get_or ys k 0) (first_least y ys (suc k) climbs h) less (order_of x y)))
    ∙ place-before x ys k climbs.1 (omega arith) less

-- the added one stands after those below it, and before those above it
pub place-added : (x : ℕ) (ys : List ℕ) (k : ℕ) → Climbs ys → ¬ (Among x ys) → k ≤ length ys → ((j : ℕ) → suc j ≡ k → get_or ys j 0 < x) → (k < length ys → x ≤ get_or ys k 0) → slice_get (with_variable x ys) k ≡ Some x
place-added x [] zero climbs apart h below above = refl
place-added x [] (suc k) climbs apart h below above = absurd (omega arith)
place-added x (y ∷ ys) zero climbs apart h below above =
    elim (order_of x y) [
      | inl before ↦ ap (λ zs. slice_get zs 0) (with_variable-before x y ys before)
      | inr (inl after) ↦ absurd (let less : y < x = after.less in let not : x ≤ y = above (omega arith) in omega arith)
      | inr (inr one) ↦ absurd (apart (inl one.same))
    ]
place-added x (y ∷ ys) (suc k) climbs apart h below above =
    ap (λ zs. slice_get zs (suc k)) (with_variable-after x y ys (after_by x y (get_or (y ∷ ys) k 0) (first_least y ys k climbs (omega arith)) (below k refl) (order_of x y)))
    ∙ place-added x ys k climbs.1 (λ here. apart (inr here)) (omega arith) (λ j e. below (suc j) (omega arith)) (λ l. above (omega arith))

-- above it they stand one place on
pub place-after : (x : ℕ) (ys : List ℕ) (k : ℕ) → Climbs ys → ¬ (Among x ys) → k < length ys → x ≤ get_or ys k 0 → slice_get (with_variable x ys) (suc k) ≡ Some (get_or ys k 0)
place-after x [] k climbs apart h above = absurd (omega arith)
place-after x (y ∷ ys) zero climbs apart h above =
    elim (order_of x y) [
      | inl before ↦ ap (λ zs. slice_get zs 1) (with_variable-before x y ys before)
      | inr (inl after) ↦ absurd (let less : y < x = after.less in omega arith)
      | inr (inr one) ↦ absurd (apart (inl one.same))
    ]
place-after x (y ∷ ys) (suc k) climbs apart h above =
    elim (order_of x y) [
      | inl before ↦ ap (λ zs. slice_get zs (suc (suc k))) (with_variable-before x y ys before) ∙ slice_get-get_or ys k 0 (omega arith)
      | inr (inl after) ↦ ap (λ zs. slice_get zs (suc (suc k))) (with_variable-after x y ys after) ∙ place-after x ys k climbs.1 (λ here. apart (inr here)) (omega arith) above
      | inr (inr one) ↦ absurd (apart (inl one.same))
    ]

-- ---- the same of terms, as the code reads them

pub length_variables : (ts : List (ℤ × ℕ)) → length (variables ts) ≡ length ts
length_variables [] = refl
length_variables (t ∷ ts) = ap suc (length_variables ts)

-- the variable of the term at a place is the variable there
pub variable_at : (ts : List (ℤ × ℕ)) (k : ℕ) (t : ℤ × ℕ) → k < length ts → get_or (variables ts) k 0 ≡ (get_or ts k t).1
variable_at ts k t h = get_or-map (λ u. u.1) ts k t 0 h

pub at_before : (x : ℕ) (ts : List (ℤ × ℕ)) (k : ℕ) (t : ℤ × ℕ) → Climbs (variables ts) → k < length ts → (get_or ts k t).1 < x → slice_get (with_variable x (variables ts)) k ≡ Some (get_or ts k t).1
at_before x ts k t climbs h less =
    let e : get_or (variables ts) k 0 ≡ (get_or ts k t).1 = variable_at ts k t h in
    let m : length (variables ts) ≡ length ts = length_variables ts in
    place-before x (variables ts) k climbs (omega arith) (omega arith) ∙ ap Some e

pub at_added : (x : ℕ) (ts : List (ℤ × ℕ)) (k : ℕ) (t : ℤ × ℕ) → Climbs (variables ts) → ¬ (Among x (variables ts)) → ¬ (k ≡ 0) → k ≤ length ts → (get_or ts (k - 1) t).1 < x → (k < length ts → x ≤ get_or (variables ts) k 0) → slice_get (with_variable x (variables ts)) k ≡ Some x
at_added x ts k t climbs apart some h below above =
    let m : length (variables ts) ≡ length ts = length_variables ts in
    place-added x (variables ts) k climbs apart (omega arith) (λ j e. below_at x ts j t (omega arith) (subst (λ n. (get_or ts n t).1 < x) (omega arith) below)) (λ l. above (omega arith))
  where
    below_at : (x : ℕ) (ts : List (ℤ × ℕ)) (j : ℕ) (t : ℤ × ℕ) → j < length ts → (get_or ts j t).1 < x → get_or (variables ts) j 0 < x
    below_at x ts j t h less = let e : get_or (variables ts) j 0 ≡ (get_or ts j t).1 = variable_at ts j t h in omega arith

pub above_at : (x : ℕ) (ts : List (ℤ × ℕ)) (k : ℕ) (t : ℤ × ℕ) → k < length ts → x ≤ (get_or ts k t).1 → x ≤ get_or (variables ts) k 0
above_at x ts k t h more = let e : get_or (variables ts) k 0 ≡ (get_or ts k t).1 = variable_at ts k t h in omega arith

after_suc : (x : ℕ) (ts : List (ℤ × ℕ)) (k : ℕ) (t : ℤ × ℕ) → Climbs (variables ts) → ¬ (Among x (variables ts)) → k < length ts → x ≤ (get_or ts k t).1 → slice_get (with_variable x (variables ts)) (suc k) ≡ Some (get_or ts k t).1
after_suc x ts k t climbs apart h above =
    let e : get_or (variables ts) k 0 ≡ (get_or ts k t).1 = variable_at ts k t h in
    let m : length (variables ts) ≡ length ts = length_variables ts in
    place-after x (variables ts) k climbs apart (omega arith) (omega arith) ∙ ap Some e

pub at_after : (x : ℕ) (ts : List (ℤ × ℕ)) (k : ℕ) (t : ℤ × ℕ) → Climbs (variables ts) → ¬ (Among x (variables ts)) → ¬ (k ≡ 0) → k ≤ length ts → x ≤ (get_or ts (k - 1) t).1 → slice_get (with_variable x (variables ts)) k ≡ Some (get_or ts (k - 1) t).1
at_after x ts zero t climbs apart some h above = absurd (some refl)
at_after x ts (suc k) t climbs apart some h above = after_suc x ts k t climbs apart (omega arith) (subst (λ j. x ≤ (get_or ts j t).1) (omega arith) above) ∙ ap (λ j. Some (get_or ts j t).1) (omega arith)

pub read_at : (ts : List (ℤ × ℕ)) (k : ℕ) (t : ℤ × ℕ) → k < length ts → t ≡ get_or ts k t → slice_get (variables ts) k ≡ Some t.1
read_at ts k t h e =
    let m : length (variables ts) ≡ length ts = length_variables ts in
    slice_get-get_or (variables ts) k 0 (omega arith) ∙ ap Some (variable_at ts k t h) ∙ ap (λ (u : ℤ × ℕ). Some u.1) (sym e)

-- ---- the scope of a form

pub scope_some : (q : Linear) (a : Atomic) → IsProper q → q.condition ≡ Some a → scope_of q ≡ with_variable a.var (variables q.terms)
scope_some q a proper e =
    ap (λ o. in_order (with_condition o (variables q.terms))) e ∙ scope_with a q.terms (climbs_good q.terms proper.good)

pub scope_none : (q : Linear) → IsProper q → q.condition ≡ None → scope_of q ≡ variables q.terms
scope_none q proper e =
    ap (λ o. in_order (with_condition o (variables q.terms))) e ∙ scope_without q.terms (climbs_good q.terms proper.good)

pub apart_some : (q : Linear) (a : Atomic) → IsProper q → q.condition ≡ Some a → ¬ (Among a.var (variables q.terms))
apart_some q a proper e = subst (λ o. IsApart o (variables q.terms)) e proper.apart

pub length-scope_some : (q : Linear) (a : Atomic) → IsProper q → q.condition ≡ Some a → length (scope_of q) ≡ suc (length q.terms)
length-scope_some q a proper e =
    ap length (scope_some q a proper e) ∙ length-with_variable a.var (variables q.terms) (apart_some q a proper e) ∙ ap suc (length_variables q.terms)

pub length-scope_none : (q : Linear) → IsProper q → q.condition ≡ None → length (scope_of q) ≡ length q.terms
length-scope_none q proper e = ap length (scope_none q proper e) ∙ length_variables q.terms

-- the condition's variable is covered
pub condition_covered : (q : Linear) (a : Atomic) (d : Domains) → q.condition ≡ Some a → Covers (scope_of q) d → a.var < length d
condition_covered q a d e covers =
    Each-among (λ x. x < length d) (scope_of q) covers a.var (subst (λ o. Among a.var (in_order (with_condition o (variables q.terms)))) (sym e) (condition_in_scope a (variables q.terms)))

-- and so are those of the terms
pub terms_covered : (q : Linear) (d : Domains) → Covers (scope_of q) d → Each (λ x. x < length d) (variables q.terms)
terms_covered q d covers = Each-from_among (λ x. x < length d) (variables q.terms) (λ x here. Each-among (λ y. y < length d) (scope_of q) covers x (variable_in_scope q x here))

-- what holds at each place holds of each
pub each_from_places : (P : ℕ → Type 0) (xs : List ℕ) → ((k : ℕ) → k < length xs → P (get_or xs k 0)) → Each P xs
each_from_places P [] f = tt
each_from_places P (x ∷ xs) f = (f 0 (omega arith), each_from_places P xs (λ k h. f (suc k) (omega arith)))

-- ---- a variable among the others

-- the variable at a place is found
pub has_here : (xs : List ℕ) (v i x : ℕ) → slice_get xs i ≡ Some x → x ≡ v → true ≡ list_any (λ y. v == y) xs
has_here xs v i x e f =
    let h : i < length xs = slice_get_within xs i x e in
    let m : Among x xs = subst (λ y. Among y xs) (get_or_from_slice_get xs i x x e) (Among-get_or xs i x h) in
    sym (list_any-at (λ y. v == y) xs x m (eq-eqb v x (sym f)))

-- nor is it at one place more
pub has_not_more : (xs : List ℕ) (v i x : ℕ) → slice_get xs i ≡ Some x → (x ≡ v → ⊥) → ((k : ℕ) → k < i → get_or xs k 0 ≡ v → ⊥) → (k : ℕ) → k < i + 1 → get_or xs k 0 ≡ v → ⊥
has_not_more xs v i x e n h k l f = elim (cases_eq k i) [
  | inl s ↦ n (sym (get_or_from_slice_get xs i x 0 e) ∙ ap (λ (j : ℕ). get_or xs j 0) (sym s) ∙ f)
  | inr s ↦ h k (omega arith) f
]

-- a variable at no place is not found
pub has_nowhere : (xs : List ℕ) (v : ℕ) → ((k : ℕ) → k < length xs → get_or xs k 0 ≡ v → ⊥) → false ≡ list_any (λ y. v == y) xs
has_nowhere xs v h = sym (list_any-not (λ y. v == y) xs (λ x m. let c = Contains-from_among x xs m in ne_eqb v x (λ e. h c.0 c.1 (get_or_default xs c.0 0 x c.1 ∙ c.2 ∙ sym e))))
