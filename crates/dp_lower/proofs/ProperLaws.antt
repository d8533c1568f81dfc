-- The forms of sums in their normal form are never refused.
use Rattle.std.proofs.Common.{◌≡◌, ◌≢◌, ℕ, suc, zero, ◌+◌, ◌*◌, ◌^◌, ◌<◌, ◌≤◌, inl, inr, Bool, true, false, List, [], ◌∷◌, length, get_or, Option, Some, None, Result, Ok, Err, ℤ, pos, ◌-ℤ◌, refl, sym, subst, arith}
use Rattle.std.specs.Prelude.{IfErr, IsOk, not}
use Rattle.std.specs.Ordering.{int_eq}
use Rattle.std.proofs.lemmas.Int.{ints}
use Rattle.std.proofs.lemmas.Bool.{both_ways, not-true}
use Rattle.std.proofs.lemmas.Bool.Decides.{Decides-int_eq}
use Rattle.dp_base.specs.Lists.{Among, Climbs, Each}
use Rattle.dp_base.proofs.Lists.{Among-filter_only, Among-get_or, Each-among, Each-filter, Each-from_among, Each-get_or, length-filter_cases}
use Rattle.dp_domain.specs.Atoms.{Atomic}
use Rattle.dp_domain.specs.Conditions.{IsApart}
use Rattle.dp_rule_linear.specs.Forms.{IsBounded, IsGoodAt, IsProper, form_of, term_at, variables}
use Rattle.dp_rule_linear.specs.Refusals.{IsRefused}
use Rattle.dp_rule_linear.specs.declared.refusal.LinRefusal.{LinRefusal}
use Rattle.dp_rule_linear.proofs.RefusalLaws.{never_refused}
use Rattle.dp_lower.specs.Merged.{IsMerged}
use Rattle.dp_lower.specs.Sums.{Sum, nonzero, opposite}
use Rattle.dp_lower.proofs.MergeLaws.{merged_words, same_variables}

-- ---- terms in order

climbs_next : (x : ℤ × ℕ) (ts : List (ℤ × ℕ)) (j : ℕ) → Climbs (variables (x ∷ ts)) → suc j < length (x ∷ ts) → (get_or (x ∷ ts) j (pos 0, 0)).1 < (get_or (x ∷ ts) (suc j) (pos 0, 0)).1
climbs_next x [] j climbs h = absurd (omega arith)
climbs_next x (y ∷ ts) zero climbs h = climbs.0.0
climbs_next x (y ∷ ts) (suc j) climbs h = climbs_next y ts j climbs.1 (omega arith)

climbs_at : (ts : List (ℤ × ℕ)) (j k : ℕ) → Climbs (variables ts) → j + 1 ≡ k → k < length ts → (term_at ts j).1 < (term_at ts k).1
climbs_at [] j k climbs e h = absurd (omega arith)
climbs_at (x ∷ ts) j k climbs e h =
    let is : suc j ≡ k = omega arith in
    subst (λ n. (term_at (x ∷ ts) j).1 < (term_at (x ∷ ts) n).1) is (climbs_next x ts j climbs (omega arith))

among_nonzero : (x : ℕ) (ts : List (ℤ × ℕ)) → Among x (variables (nonzero ts)) → Among x (variables ts)
among_nonzero x [] here = here
among_nonzero x (t ∷ ts) here = by (int_eq t.0 (pos 0)) refl (λ h. among_nonzero x ts h)
  where
    by : (b : Bool) → int_eq t.0 (pos 0) ≡ b → (Among x (variables (nonzero ts)) → Among x (variables ts)) → Among x (variables (t ∷ ts))
    by true e later = let h = rw e at here in inr (later h)
    by false e later = let h = rw e at here in first later h
      where
        first : (Among x (variables (nonzero ts)) → Among x (variables ts)) → Among x (t.1 ∷ variables (nonzero ts)) → Among x (variables (t ∷ ts))
        first later (inl same) = inl same
        first later (inr there) = inr (later there)

each_nonzero : (P : ℕ → Type 0) (ts : List (ℤ × ℕ)) → Each P (variables ts) → Each P (variables (nonzero ts))
each_nonzero P ts h = Each-from_among P (variables (nonzero ts)) (λ x here. Each-among P (variables ts) h x (among_nonzero x ts here))

climbs_nonzero : (ts : List (ℤ × ℕ)) → Climbs (variables ts) → Climbs (variables (nonzero ts))
climbs_nonzero [] climbs = tt
climbs_nonzero (t ∷ ts) climbs = by (int_eq t.0 (pos 0)) refl (climbs_nonzero ts climbs.1)
  where
    by : (b : Bool) → int_eq t.0 (pos 0) ≡ b → Climbs (variables (nonzero ts)) → Climbs (variables (nonzero (t ∷ ts)))
    by true e later = rw e later
    by false e later = rw e (each_nonzero (λ y. t.1 < y) ts climbs.0, later)

not_zero_at : (ts : List (ℤ × ℕ)) (k : ℕ) → k < length (nonzero ts) → (term_at (nonzero ts) k).0 ≢ pos 0
not_zero_at ts k h e =
    let r = Among-filter_only (λ (t : ℤ × ℕ). not (int_eq t.0 (pos 0))) ts (term_at (nonzero ts) k) (Among-get_or (nonzero ts) k (pos 0, 0) h) in
    both_ways (int_eq (term_at (nonzero ts) k).0 (pos 0)) (not-true (int_eq (term_at (nonzero ts) k).0 (pos 0)) r.1) ((Decides-int_eq (term_at (nonzero ts) k).0 (pos 0)).1 e)

good_at : (q : Sum) (k : ℕ) → IsMerged 2000000 q → k < length (nonzero q.terms) → IsGoodAt (nonzero q.terms) k
good_at q k m h = record {
  not_zero = not_zero_at q.terms k h;
  bounded = Each-get_or (λ (t : ℤ × ℕ). IsBounded (10 ^ 16) t.0) (nonzero q.terms) k (pos 0, 0) h (Each-filter (λ (t : ℤ × ℕ). IsBounded (10 ^ 16) t.0) (λ t. not (int_eq t.0 (pos 0))) q.terms (merged_words q m));
  later = λ j e. climbs_at (nonzero q.terms) j k (climbs_nonzero q.terms m.climbing) e h;
}

-- a condition apart from all variables is apart from those that are left
apart_nonzero : (c : Option Atomic) (ts : List (ℤ × ℕ)) → IsApart c (variables ts) → IsApart c (variables (nonzero ts))
apart_nonzero None ts apart = tt
apart_nonzero (Some a) ts apart = λ here. apart (among_nonzero a.var ts here)

-- and from those of the opposite
pub apart_opposite : (c : Option Atomic) (q : Sum) → IsApart c (variables q.terms) → IsApart c (variables (opposite q).terms)
apart_opposite c q apart = subst (IsApart c) (same_variables q.terms) apart

rhs_bounded : (k c n : ℤ) → IsBounded 100000000000000000000 k → IsBounded (2000000 * 100000000000000000000000000000) c → n ≡ k -ℤ c → IsBounded (10 ^ 36) n
rhs_bounded k c n h m e = let p = h.0 in let q = h.1 in let r = m.0 in let s = m.1 in (omega (arith, ints), omega (arith, ints))

proper : (q : Sum) (c : Option Atomic) (ts : List (ℤ × ℕ)) (k n : ℤ) → IsMerged 2000000 q → IsBounded 100000000000000000000 k → IsApart c (variables q.terms) → ts ≡ nonzero q.terms → n ≡ k -ℤ q.constant → IsProper (form_of c ts n)
proper q c ts k n m h apart e f = subst (λ us. IsProper (form_of c us n)) (sym e) (record {
  few = let few : length q.terms ≤ 2000000 = m.few in let fewer = (length-filter_cases (λ (t : ℤ × ℕ). not (int_eq t.0 (pos 0))) q.terms).0 in omega arith;
  good = λ j below. good_at q j m below;
  bounded = rhs_bounded k q.constant n h m.constant f;
  apart = apart_nonzero c q.terms apart;
})

ok_from : {T E : Type 0} (r : Result T E) (P : E → Type 0) → IfErr r P → ((e : E) → P e → ⊥) → IsOk r
ok_from (Ok x) P h never = refl
ok_from (Err e) P h never = absurd (never e h)

-- so it is made
pub made_of : {T : Type 0} (r : Result T LinRefusal) (q : Sum) (c : Option Atomic) (ts : List (ℤ × ℕ)) (k n : ℤ) → IfErr r (λ refusal. IsRefused refusal (form_of c ts n)) →
    IsMerged 2000000 q → IsBounded 100000000000000000000 k → IsApart c (variables q.terms) → ts ≡ nonzero q.terms → n ≡ k -ℤ q.constant → IsOk r
made_of r q c ts k n refused m h apart e f = ok_from r (λ refusal. IsRefused refusal (form_of c ts n)) refused (λ refusal is. never_refused refusal (form_of c ts n) (proper q c ts k n m h apart e f) is)
