-- Spans one position on, and spans in order.
use Rattle.std.proofs.Common.{◌≡◌, ℕ, suc, ◌+◌, ◌<◌, ◌≤◌, false, List, [], ◌∷◌, ◌++◌, length, get_or, take, ℤ, ◌≤ℤ◌, IsPermutation, sym, ◌∙◌, ap, subst, arith}
use Rattle.std.specs.List.Sorted.{IsSortedByKey}
use Rattle.std.specs.Ordering.{int_cmp, is_lt}
use Rattle.std.proofs.lemmas.Cmp.{int_cmp_total}
use Rattle.std.proofs.lemmas.Int.{ints}
use Rattle.std.proofs.lemmas.List.{take_more}
use Rattle.std.proofs.lemmas.List.Elements.{filter_map-append}
use Rattle.std.proofs.lemmas.List.Sorted.{All-permutation, ranks_by, sorted_far, sum_by-IsPermutation}
use Rattle.std.proofs.lemmas.List.Sums.{length-filter}
use Rattle.dp_base.specs.Lists.{Among, Each}
use Rattle.dp_base.proofs.Lists.{All-from_each, Among-get_or, Each-among, Each-from_all}
use Rattle.dp_domain.specs.States.{Domains}
use Rattle.dp_domain.specs.Terms.{AreTermsOf, IsTermOf, term_values}
use Rattle.dp_domain.specs.declared.term.Term.{Term}
use Rattle.std.specs.Cmp.{both_ways}
use Rattle.dp_rule_alldiff.specs.PigeonLaws.{exceeds_same}
use Rattle.dp_rule_alldiff.specs.SpanLaws.{crowd_at, crowd_some}
use Rattle.dp_rule_alldiff.specs.Spans.{AreInOrder, IsSpan, count_inside, has_crowd, is_inside, span_of, spans_of}

-- the term at a place is of the state
pub term_at_place : (n : ℕ) (terms : List Term) (i : ℕ) (t : Term) → AreTermsOf n terms → i < length terms → t ≡ get_or terms i t → IsTermOf n t
term_at_place n terms i t all h e = Each-among (IsTermOf n) terms all t (subst (λ u. Among u terms) (sym e) (Among-get_or terms i t h))

-- the spans of the positions before the next
pub spans_more : (d : Domains) (terms : List Term) (i : ℕ) (t : Term) → i < length terms → t ≡ get_or terms i t → spans_of d (take (i + 1) terms) ≡ spans_of d (take i terms) ++ spans_of d (t ∷ [])
spans_more d terms i t h e =
    ap (spans_of d) (take_more terms i t h ∙ ap (λ u. take i terms ++ u ∷ []) (sym e)) ∙ filter_map-append (λ u. span_of (term_values d u)) (take i terms) (t ∷ [])

-- ---- order

not_less : (x y : ℤ) → is_lt (int_cmp x y) ≡ false → y ≤ℤ x
not_less x y e = grind (arith, ints)

in_order_where : (ss : List (ℤ × ℤ)) → ((i j : ℕ) (s : ℤ × ℤ) → i ≤ j → j < length ss → is_lt (int_cmp (get_or ss j s).1 (get_or ss i s).1) ≡ false) → AreInOrder ss
in_order_where [] later = tt
in_order_where (s ∷ ss) later = (
  Each-from_all (λ (t : ℤ × ℤ). s.1 ≤ℤ t.1) ss (λ k t h. not_less (get_or ss k t).1 s.1 (later 0 (suc k) t (omega arith) (omega arith))),
  in_order_where ss (λ i j t h k. later (suc i) (suc j) t (omega arith) (omega arith)),
)

-- spans sorted by their last numbers are in order
pub sorted_in_order : (ss : List (ℤ × ℤ)) → IsSortedByKey (λ (s : ℤ × ℤ). s.1) int_cmp ss → AreInOrder ss
sorted_in_order ss sorted =
    in_order_where ss (λ i j s h k. sorted_far (λ (x y : ℤ × ℤ). is_lt (int_cmp x.1 y.1)) (ranks_by int_cmp_total (λ (t : ℤ × ℤ). t.1)) ss sorted i j s h k)

-- ---- the same spans

-- as many lie in an interval in any order
pub count_same : (ss ts : List (ℤ × ℤ)) → IsPermutation ss ts → (a b : ℤ) → count_inside ss a b ≡ count_inside ts a b
count_same ss ts same a b =
    length-filter (is_inside a b) ss ∙ sym (sum_by-IsPermutation _ ss ts same) ∙ sym (length-filter (is_inside a b) ts)

-- what holds of each span holds in any order
pub spans_same : (ss ts : List (ℤ × ℤ)) → IsPermutation ss ts → Each IsSpan ss → Each IsSpan ts
spans_same ss ts same each = Each-from_all IsSpan ts (All-permutation IsSpan ss ts same (All-from_each IsSpan ss each))

-- and a crowd is found in any order
pub has_crowd_same : (ss ts : List (ℤ × ℤ)) → IsPermutation ss ts → Each IsSpan ss → has_crowd ts ≡ has_crowd ss
has_crowd_same ss ts same each = both_ways (has_crowd ts) (has_crowd ss)
    (λ e. let r = crowd_some ts e in crowd_at ss r.0 r.1 each (exceeds_same r.0 r.1 (count_inside ts r.0 r.1) (count_inside ss r.0 r.1) (sym (count_same ss ts same r.0 r.1)) r.2))
    (λ e. let r = crowd_some ss e in crowd_at ts r.0 r.1 (spans_same ss ts same each) (exceeds_same r.0 r.1 (count_inside ss r.0 r.1) (count_inside ts r.0 r.1) (count_same ss ts same r.0 r.1) r.2))
