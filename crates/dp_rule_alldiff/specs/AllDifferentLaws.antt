-- The laws of all-different constraints.
use Rattle.std.specs.Prelude.{◌≡◌, ℕ, suc, ◌≤◌, ◌<◌, Bool, true, false, ◌||◌, ◌↔◌, List, [], ◌∷◌, length, filter, map, ℤ, pos, ◌+ℤ◌, ◌-ℤ◌, ◌<ℤ◌}
use Rattle.std.proofs.Common.{refl, sym, ◌∙◌, ap, subst, inl, inr, arith, cond}
use Rattle.std.proofs.lemmas.Int.{ints}
use Rattle.std.proofs.lemmas.Bool.{both_ways, false≢true, false_from_ne_true, or_cases, or_left, or_right}
use Rattle.dp_base.specs.Lists.{Among}
use Rattle.dp_base.proofs.Lists.{list_all-at, list_all-from}
use Rattle.dp_base.proofs.ScopeLaws.{climbs_in_order}
use Rattle.dp_domain.specs.Faces.{Covers, Fixes, IsLawful}
use Rattle.dp_domain.specs.States.{Domains, LiesIn, IsWithin, is_dead}
use Rattle.dp_domain.specs.Terms.{IsTermOf, term_at, term_scope, term_values, term_variables}
use Rattle.dp_domain.specs.declared.term.Term.{Term}
use Rattle.dp_domain.specs.declared.term.Term.TheVariants.{Var, Const}
use Rattle.dp_domain.proofs.StateLaws.{LiesIn-alive, alive-value, dead-within}
use Rattle.dp_domain.proofs.TermLaws.{term_covered, term_in_scope, term_values-fixed, term_values-sound, term_values-within}
use Rattle.dp_rule_alldiff.specs.AllDifferent.{ClashesAllDifferent, Exceeds, MeetsAllDifferent, face_all_different, is_between, lies_between, positions_between, test_all_different}
use Rattle.dp_rule_alldiff.specs.PigeonLaws.{distinct_or_twice, exceeds_more, exceeds_same, pigeonhole}
use Rattle.dp_rule_alldiff.specs.CountLaws.{count-within}
use Rattle.dp_rule_alldiff.specs.OrderLaws.{le_itself}
use Rattle.dp_rule_alldiff.specs.SpanLaws.{crowd_at, crowd_some, positions_inside, spans_local, spans_ordered}
use Rattle.dp_rule_alldiff.specs.Spans.{count_inside, has_crowd, spans_of}

-- ---- the test

clashes_where : (terms : List Term) (d : Domains) → test_all_different terms d ≡ true → ClashesAllDifferent terms d
clashes_where terms d e = elim (or_cases (is_dead d) (has_crowd (spans_of d terms)) e) [
  | inl dead ↦ inl dead
  | inr crowd ↦
      let r = crowd_some (spans_of d terms) crowd in
      inr (r.0, r.1, exceeds_same r.0 r.1 (count_inside (spans_of d terms) r.0 r.1) (positions_between d terms r.0 r.1) (sym (positions_inside d terms r.0 r.1)) r.2)
]

true_where : (terms : List Term) (d : Domains) → ClashesAllDifferent terms d → test_all_different terms d ≡ true
true_where terms d (inl dead) = or_left (is_dead d) (has_crowd (spans_of d terms)) dead
true_where terms d (inr crowd) =
    or_right (is_dead d) (has_crowd (spans_of d terms))
    (crowd_at (spans_of d terms) crowd.0 crowd.1 (spans_ordered d terms)
    (exceeds_same crowd.0 crowd.1 (positions_between d terms crowd.0 crowd.1) (count_inside (spans_of d terms) crowd.0 crowd.1) (positions_inside d terms crowd.0 crowd.1) crowd.2))

-- the test is true exactly where it clashes
pub all_different_exact : (terms : List Term) (d : Domains) → (face_all_different terms).test d ≡ true ↔ ClashesAllDifferent terms d
all_different_exact terms d = (clashes_where terms d, true_where terms d)

-- ---- smaller states

-- what passes the test in a set passes it in a smaller set with a value
lies_less : (a b : ℤ) (vs ws : List ℤ) (w : ℤ) → Among w ws → ((u : ℤ) → Among u ws → Among u vs) → lies_between a b vs ≡ true → lies_between a b ws ≡ true
lies_less a b vs [] w here within e = absurd here
lies_less a b [] (x ∷ ws) w here within e = absurd (false≢true e)
lies_less a b (v ∷ vs) (x ∷ ws) w here within e = list_all-from (is_between a b) (x ∷ ws) (λ u there. list_all-at (is_between a b) (v ∷ vs) u e (within u there))

-- where no variable is without a value, no term is
term_value : (d : Domains) (t : Term) → is_dead d ≡ false → IsTermOf (length d) t → (v : ℤ) × Among v (term_values d t)
term_value d (Var x) alive there = alive-value d x alive there
term_value d (Const v) alive there = (v, inl refl)

covered : (terms : List Term) (d : Domains) → Covers (term_scope terms) d → (t : Term) → Among t terms → IsTermOf (length d) t
covered terms d covers t here = term_covered (term_scope terms) d t covers (term_in_scope terms t here)

term_smaller : (d e : Domains) (t : Term) → IsWithin e d → IsTermOf (length d) t → IsTermOf (length e) t
term_smaller d e (Var x) within there = subst (λ n. x < n) (sym within.count) there
term_smaller d e (Const v) within there = tt

more_positions : (terms : List Term) (d e : Domains) (a b : ℤ) → Covers (term_scope terms) d → IsWithin e d → is_dead e ≡ false → positions_between d terms a b ≤ positions_between e terms a b
more_positions terms d e a b covers within alive =
    count-within (λ t. lies_between a b (term_values d t)) (λ t. lies_between a b (term_values e t)) terms (λ t here lies.
    let m = term_value e t alive (term_smaller d e t within (covered terms d covers t here)) in
    lies_less a b (term_values d t) (term_values e t) m.0 m.1 (λ u there. term_values-within d e t within u there) lies)

monotone : (terms : List Term) (d e : Domains) → Covers (term_scope terms) d → IsWithin e d → ClashesAllDifferent terms d → (b : Bool) → is_dead e ≡ b → ClashesAllDifferent terms e
monotone terms d e covers within clashes true dead = inl dead
monotone terms d e covers within (inl gone) false alive = absurd (both_ways (is_dead e) alive (dead-within d e within gone))
monotone terms d e covers within (inr crowd) false alive =
    inr (crowd.0, crowd.1, exceeds_more crowd.0 crowd.1 (positions_between d terms crowd.0 crowd.1) (positions_between e terms crowd.0 crowd.1) (more_positions terms d e crowd.0 crowd.1 covers within alive) crowd.2)

same_test : (a b f g : Bool) → a ≡ b → f ≡ g → (a || f) ≡ (b || g)
same_test a b f g p q = cc

pub all_different_lawful : (terms : List Term) → IsLawful (face_all_different terms)
all_different_lawful terms = record {
  ordered = climbs_in_order (term_variables terms);
  dead = λ d gone. true_where terms d (inl gone);
  monotone = λ d e covers within h. true_where terms e (monotone terms d e covers within (clashes_where terms d h) (is_dead e) refl);
  local = λ d e p r agrees. same_test (is_dead d) (is_dead e) (has_crowd (spans_of d terms)) (has_crowd (spans_of e terms)) (p ∙ sym r) (ap has_crowd (spans_local d e terms agrees));
}

-- ---- assignments

-- a set that lies in an interval has each of its numbers there
value_between : (a b : ℤ) (vs : List ℤ) (v : ℤ) → lies_between a b vs ≡ true → Among v vs → is_between a b v ≡ true
value_between a b [] v e here = absurd here
value_between a b (w ∷ vs) v e here = list_all-at (is_between a b) (w ∷ vs) v e here

count_values : (f : Term → ℤ) (p : ℤ → Bool) (terms : List Term) → length (filter (λ t. p (f t)) terms) ≡ length (filter p (map f terms))
count_values f p [] = refl
count_values f p (t ∷ terms) = one (p (f t)) t (f t) (filter (λ u. p (f u)) terms) (filter p (map f terms)) (count_values f p terms)
  where
    one : (b : Bool) (t : Term) (v : ℤ) (ts : List Term) (vs : List ℤ) → length ts ≡ length vs → length (cond b (t ∷ ts) ts) ≡ length (cond b (v ∷ vs) vs)
    one true t v ts vs e = ap suc e
    one false t v ts vs e = e

-- an assignment with a value for each position from its set has no fewer values in an interval
no_fewer : (terms : List Term) (d : Domains) (s : ℕ → ℤ) (a b : ℤ) → ((t : Term) → Among t terms → Among (term_at s t) (term_values d t)) → positions_between d terms a b ≤ length (filter (is_between a b) (map (term_at s) terms))
no_fewer terms d s a b each =
    subst (λ n. positions_between d terms a b ≤ n) (count_values (term_at s) (is_between a b) terms)
    (count-within (λ t. lies_between a b (term_values d t)) (λ t. is_between a b (term_at s t)) terms (λ t here lies. value_between a b (term_values d t) (term_at s t) lies (each t here)))

-- so it does not meet the constraint where that many exceed the interval
not_distinct : (terms : List Term) (d : Domains) (s : ℕ → ℤ) (a b : ℤ) → ((t : Term) → Among t terms → Among (term_at s t) (term_values d t)) → Exceeds a b (positions_between d terms a b) → ¬ (MeetsAllDifferent terms s)
not_distinct terms d s a b each exceeds =
    pigeonhole a b (map (term_at s) terms) (exceeds_more a b (positions_between d terms a b) (length (filter (is_between a b) (map (term_at s) terms))) (no_fewer terms d s a b each) exceeds)

no_clash : (terms : List Term) (d : Domains) (s : ℕ → ℤ) → Covers (term_scope terms) d → LiesIn s d → MeetsAllDifferent terms s → ClashesAllDifferent terms d → ⊥
no_clash terms d s covers lies meets (inl dead) = both_ways (is_dead d) (LiesIn-alive d s lies) dead
no_clash terms d s covers lies meets (inr crowd) =
    not_distinct terms d s crowd.0 crowd.1 (λ t here. term_values-sound d s t lies (covered terms d covers t here)) crowd.2 meets

pub all_different_sound : (terms : List Term) (d : Domains) (s : ℕ → ℤ) → Covers (face_all_different terms).scope d → LiesIn s d → MeetsAllDifferent terms s → (face_all_different terms).test d ≡ false
all_different_sound terms d s covers lies meets =
    false_from_ne_true (test_all_different terms d) (λ e. no_clash terms d s covers lies meets (clashes_where terms d e))

-- ---- one value each

fixed_values : (terms : List Term) (d : Domains) (s : ℕ → ℤ) → Fixes (term_scope terms) s d → (t : Term) → Among t terms → term_values d t ≡ term_at s t ∷ []
fixed_values terms d s fixes t here = term_values-fixed (term_scope terms) s d t fixes (term_in_scope terms t here)

not_met : (terms : List Term) (d : Domains) (s : ℕ → ℤ) → is_dead d ≡ false → Fixes (term_scope terms) s d → ClashesAllDifferent terms d → MeetsAllDifferent terms s → ⊥
not_met terms d s alive fixes (inl dead) meets = both_ways (is_dead d) alive dead
not_met terms d s alive fixes (inr crowd) meets =
    not_distinct terms d s crowd.0 crowd.1 (λ t here. subst (λ vs. Among (term_at s t) vs) (sym (fixed_values terms d s fixes t here)) (inl refl)) crowd.2 meets

only_between : (a b v : ℤ) (vs : List ℤ) → vs ≡ v ∷ [] → is_between a b v ≡ true → lies_between a b vs ≡ true
only_between a b v vs e h = subst (λ ws. lies_between a b ws ≡ true) (sym e) (list_all-from (is_between a b) (v ∷ []) (λ w here. elim here [ inl same ↦ subst (λ u. is_between a b u ≡ true) (sym same) h | inr none ↦ absurd none ]))

-- two positions with one number exceed the interval of that number
twice_exceeds : (terms : List Term) (d : Domains) (s : ℕ → ℤ) (v : ℤ) → Fixes (term_scope terms) s d → 2 ≤ length (filter (is_between v v) (map (term_at s) terms)) → Exceeds v v (positions_between d terms v v)
twice_exceeds terms d s v fixes twice =
    let more = count-within (λ t. is_between v v (term_at s t)) (λ t. lies_between v v (term_values d t)) terms (λ t here inside. only_between v v (term_at s t) (term_values d t) (fixed_values terms d s fixes t here) inside) in
    let same = count_values (term_at s) (is_between v v) terms in
    record {
      some = le_itself v;
      more = two v (length (filter (is_between v v) (map (term_at s) terms))) (length (filter (λ t. is_between v v (term_at s t)) terms)) (positions_between d terms v v) twice same more;
    }
  where
    two : (v : ℤ) (n m k : ℕ) → 2 ≤ n → m ≡ n → m ≤ k → ((v -ℤ v) +ℤ pos 1) <ℤ pos k
    two v n m k h e i = omega (arith, ints)

clash_where_not_met : (terms : List Term) (d : Domains) (s : ℕ → ℤ) → Fixes (term_scope terms) s d → (MeetsAllDifferent terms s → ⊥) → ClashesAllDifferent terms d
clash_where_not_met terms d s fixes fails = elim (distinct_or_twice (map (term_at s) terms)) [
  | inl distinct ↦ absurd (fails distinct)
  | inr twice ↦ inr (twice.0, twice.0, twice_exceeds terms d s twice.0 fixes twice.1)
]

pub all_different_deciding : (terms : List Term) (d : Domains) (s : ℕ → ℤ) → is_dead d ≡ false → Fixes (face_all_different terms).scope s d → ((face_all_different terms).test d ≡ true) ↔ (MeetsAllDifferent terms s → ⊥)
all_different_deciding terms d s alive fixes =
    (λ e. not_met terms d s alive fixes (clashes_where terms d e), λ fails. true_where terms d (clash_where_not_met terms d s fixes fails))
