-- An assignment that cannot fail a part meets it.
use Rattle.std.proofs.Common.{◌≡◌, ℕ, zero, suc, ◌+◌, ◌<◌, ◌≤◌, false, ◌⊎◌, List, [], ◌∷◌, Option, Some, None, slice_get, ℤ, pos, negsuc, ◌*ℤ◌, ◌≤ℤ◌, ◌<ℤ◌, map, refl, sym, ◌∙◌, ap, inl, inr, arith}
use Rattle.std.specs.Int.{int_max, int_min}
use Rattle.std.specs.List.{list_all}
use Rattle.std.specs.Prelude.{unsigned_abs}
use Rattle.std.specs.Ordering.{int_eq}
use Rattle.std.proofs.lemmas.Bool.{both_ways, cases_Bool, cases_lt}
use Rattle.std.proofs.lemmas.Bool.Decides.{Decides-int_eq}
use Rattle.std.proofs.lemmas.Int.{ints}
use Rattle.dp_base.specs.Lists.{Among}
use Rattle.dp_base.proofs.Lists.{list_all-at, list_all-fails}
use Rattle.dp_domain.specs.Atoms.{Atomic, meets}
use Rattle.dp_domain.specs.Conditions.{Fails}
use Rattle.dp_domain.specs.Faces.{Fixes}
use Rattle.dp_domain.specs.Sets.{is_among}
use Rattle.dp_domain.specs.States.{Domains, is_dead}
use Rattle.dp_domain.specs.Terms.{term_at}
use Rattle.dp_domain.specs.declared.term.Term.{Term}
use Rattle.dp_domain.proofs.ShareLaws.{is_among-at, is_among-some}
use Rattle.dp_parts.specs.PartLaws.{part_deciding}
use Rattle.dp_parts.specs.Parts.{MeetsPart, face_of}
use Rattle.dp_parts.specs.declared.part.Part.{Part}
use Rattle.dp_parts.specs.declared.part.Part.TheVariants.{LinLe, LinNe, Nogood, Within, Element, Cumulative, AllDiff, Times, Greatest, Least, Absolute}
use Rattle.dp_rule_alldiff.specs.AllDifferent.{AreDistinct}
use Rattle.dp_rule_clause.specs.Nogoods.{MeetsNogood}
use Rattle.dp_rule_clause.specs.Restrictions.{MeetsWithin, Restriction}
use Rattle.dp_rule_cumulative.specs.Schedules.{Schedule, runs_at, usage_of}
use Rattle.dp_rule_cumulative.specs.TimeTable.{MeetsCumulative}
use Rattle.dp_rule_element.specs.Selections.{IsEntry, MeetsElement}
use Rattle.dp_rule_linear.specs.AtMost.{MeetsAtMost}
use Rattle.dp_rule_linear.specs.Differs.{MeetsDiffers}
use Rattle.dp_rule_linear.specs.Forms.{Linear, sum_at}
use Rattle.dp_rule_linear.specs.IntLaws.{order_of}

-- it holds, or it cannot
abbrev IsSettled : Type 0 → Type 0
IsSettled P = P ⊎ (P → ⊥)

-- it holds where it cannot fail
abbrev pub IsStable : Type 0 → Type 0
IsStable P = ((P → ⊥) → ⊥) → P

settled_stable : (P : Type 0) → IsSettled P → IsStable P
settled_stable P (inl h) f = h
settled_stable P (inr n) f = absurd (f n)

not_stable : (P : Type 0) → IsStable (P → ⊥)
not_stable P f h = f (λ n. n h)

either_stable : (P Q : Type 0) → IsSettled P → IsStable Q → IsStable (P ⊎ Q)
either_stable P Q (inl h) stable f = inl h
either_stable P Q (inr n) stable f = inr (stable (λ m. f (λ k. elim k [ inl h ↦ n h | inr h ↦ m h ])))

fails_settled : (s : ℕ → ℤ) (c : Option Atomic) → IsSettled (Fails s c)
fails_settled s None = inr (λ f. f)
fails_settled s (Some a) = elim (cases_Bool (meets a (s a.var))) [
  | inl e ↦ inr (λ f. both_ways (meets a (s a.var)) f e)
  | inr e ↦ inl e
]

-- ---- kind by kind

above_below : (x y : ℤ) → y <ℤ x → x ≤ℤ y → ⊥
above_below x y h k = omega (arith, ints)

most_settled : (x y : ℤ) → IsSettled (x ≤ℤ y)
most_settled x y = elim (order_of x y) [ inl h ↦ inl h | inr h ↦ inr (λ k. above_below x y h k) ]

at_most_stable : (q : Linear) (s : ℕ → ℤ) → IsStable (MeetsAtMost q s)
at_most_stable q s = either_stable (Fails s q.condition) (sum_at s q.terms ≤ℤ q.rhs) (fails_settled s q.condition)
    (settled_stable (sum_at s q.terms ≤ℤ q.rhs) (most_settled (sum_at s q.terms) q.rhs))

differs_stable : (q : Linear) (s : ℕ → ℤ) → IsStable (MeetsDiffers q s)
differs_stable q s = either_stable (Fails s q.condition) (sum_at s q.terms ≡ q.rhs → ⊥) (fails_settled s q.condition) (not_stable (sum_at s q.terms ≡ q.rhs))

nogood_settled : (atoms : List Atomic) (s : ℕ → ℤ) → IsSettled (MeetsNogood atoms s)
nogood_settled atoms s = elim (cases_Bool (list_all (λ (a : Atomic). meets a (s a.var)) atoms)) [
  | inl e ↦ inr (λ m. both_ways (meets m.0 (s m.0.var)) m.2 (list_all-at (λ (a : Atomic). meets a (s a.var)) atoms m.0 e m.1))
  | inr e ↦ inl (list_all-fails (λ (a : Atomic). meets a (s a.var)) atoms e)
]

among_settled : (v : ℤ) (xs : List ℤ) → IsSettled (Among v xs)
among_settled v xs = elim (cases_Bool (is_among v xs)) [
  | inl e ↦ inl (is_among-some v xs e)
  | inr e ↦ inr (λ h. both_ways (is_among v xs) e (is_among-at v xs h))
]

within_stable : (q : Restriction) (s : ℕ → ℤ) → IsStable (MeetsWithin q s)
within_stable q s = either_stable (Fails s q.condition) (Among (s q.var) q.set) (fails_settled s q.condition) (settled_stable (Among (s q.var) q.set) (among_settled (s q.var) q.set))

-- the array has an entry at the index, and the entry has this value
abbrev HasEntry : List Term → (ℕ → ℤ) → ℤ → ℤ → Type 0
HasEntry array s v i = (entry : Term) × IsEntry array i entry × (term_at s entry ≡ v)

no_place : (place : ℕ) → pos 0 ≡ pos (place + 1) → ⊥
no_place place e = omega (arith, ints)

no_place_below : (n place : ℕ) → negsuc n ≡ pos (place + 1) → ⊥
no_place_below n place e = omega (arith, ints)

same_place : (k place : ℕ) → pos (suc k) ≡ pos (place + 1) → k ≡ place
same_place k place e = omega (arith, ints)

next_place : (k : ℕ) → suc k ≡ k + 1
next_place k = omega arith

none_some : (t : Term) → ◌≡◌ {A = Option Term} None (Some t) → ⊥
none_some t e = cc

same_term : (t u : Term) → ◌≡◌ {A = Option Term} (Some t) (Some u) → t ≡ u
same_term t u e = cc

entry_settled : (array : List Term) (s : ℕ → ℤ) (v : ℤ) (k : ℕ) (o : Option Term) → slice_get array k ≡ o → IsSettled (HasEntry array s v (pos (suc k)))
entry_settled array s v k None e =
    inr (λ h. none_some h.0 (sym e ∙ ap (λ j. slice_get array j) (same_place k h.1.0 h.1.1) ∙ h.1.2))
entry_settled array s v k (Some t) e = elim (cases_Bool (int_eq (term_at s t) v)) [
  | inl b ↦ inl (t, (k, ap (λ (j : ℕ). pos j) (next_place k), e), (Decides-int_eq (term_at s t) v).0 b)
  | inr b ↦ inr (λ h. both_ways (int_eq (term_at s t) v) b ((Decides-int_eq (term_at s t) v).1
      (ap (term_at s) (same_term t h.0 (sym e ∙ ap (λ j. slice_get array j) (same_place k h.1.0 h.1.1) ∙ h.1.2)) ∙ h.2)))
]

element_settled : (array : List Term) (s : ℕ → ℤ) (v i : ℤ) → IsSettled (HasEntry array s v i)
element_settled array s v (pos zero) = inr (λ h. no_place h.1.0 h.1.1)
element_settled array s v (pos (suc k)) = entry_settled array s v k (slice_get array k) refl
element_settled array s v (negsuc n) = inr (λ h. no_place_below n h.1.0 h.1.1)

not_more : (c n : ℕ) → (c < n → ⊥) → n ≤ c
not_more c n h = elim (cases_lt c n) [ inl less ↦ absurd (h less) | inr most ↦ most ]

more_most : (c n : ℕ) → c < n → n ≤ c → ⊥
more_most c n h k = omega arith

cumulative_stable : (q : Schedule) (s : ℕ → ℤ) → IsStable (MeetsCumulative q s)
cumulative_stable q s f = λ t. not_more q.capacity (usage_of (runs_at s t) q.tasks) (λ h. f (λ m. more_most q.capacity (usage_of (runs_at s t) q.tasks) h (m t)))

distinct_stable : (vs : List ℤ) → IsStable (AreDistinct vs)
distinct_stable [] f = tt
distinct_stable (v ∷ vs) f = (λ h. f (λ m. m.0 h), distinct_stable vs (λ n. f (λ m. n m.1)))

equal_stable : (x y : ℤ) → IsStable (x ≡ y)
equal_stable x y f = elim (cases_Bool (int_eq x y)) [
  | inl b ↦ (Decides-int_eq x y).0 b
  | inr b ↦ absurd (f (λ e. both_ways (int_eq x y) b ((Decides-int_eq x y).1 e)))
]

-- ---- every part

part_stable : (q : Part) (s : ℕ → ℤ) → IsStable (MeetsPart q s)
part_stable (LinLe q) s = at_most_stable q s
part_stable (LinNe q) s = differs_stable q s
part_stable (Nogood q) s = settled_stable (MeetsNogood q s) (nogood_settled q s)
part_stable (Within q) s = within_stable q s
part_stable (Element q) s = settled_stable (MeetsElement q s) (element_settled q.array s (term_at s q.value) (term_at s q.index))
part_stable (Cumulative q) s = cumulative_stable q s
part_stable (AllDiff q) s = distinct_stable (map (term_at s) q)
part_stable (Times q) s = equal_stable (term_at s q.a *ℤ term_at s q.b) (term_at s q.c)
part_stable (Greatest q) s = equal_stable (int_max (term_at s q.a) (term_at s q.b)) (term_at s q.c)
part_stable (Least q) s = equal_stable (int_min (term_at s q.a) (term_at s q.b)) (term_at s q.c)
part_stable (Absolute q) s = equal_stable (pos (unsigned_abs (term_at s q.a))) (term_at s q.b)

-- where each variable of a part has one value and the part does not clash, these values meet it
pub calm-meets : (q : Part) (d : Domains) (s : ℕ → ℤ) → is_dead d ≡ false → Fixes (face_of q).scope s d → (face_of q).test d ≡ false → MeetsPart q s
calm-meets q d s alive fixes calm = part_stable q s (λ n. both_ways ((face_of q).test d) calm ((part_deciding q d s alive fixes).1 n))
