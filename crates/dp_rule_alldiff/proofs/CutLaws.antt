-- A cut of a variable that stands at one position: it clashes where a tight interval that does not hold all its values holds those that are left.
use Rattle.std.proofs.Common.{◌≡◌, ℕ, suc, ◌+◌, ◌<◌, Bool, true, false, cond, List, [], ◌∷◌, length, set, ℤ, pos, ◌+ℤ◌, ◌-ℤ◌, ◌≤ℤ◌, ◌<ℤ◌, int_lt, refl, sym, ◌∙◌, ap, subst, inl, inr, arith}
use Rattle.std.specs.Prelude.{◌⊎◌}
use Rattle.std.proofs.lemmas.Bool.{false≢true, false_from_ne_true, both_ways, cases_Bool, cases_eq, or_cases, or_right}
use Rattle.std.proofs.lemmas.Int.{ints}
use Rattle.std.proofs.lemmas.List.{length-set, get_or-set_same, get_or-set_other}
use Rattle.dp_base.specs.Lists.{Among}
use Rattle.dp_base.proofs.Lists.{list_all-at, list_all-from}
use Rattle.dp_domain.specs.States.{Domains, is_dead, values}
use Rattle.dp_domain.specs.Terms.{term_values, term_variables}
use Rattle.dp_domain.specs.declared.term.Term.{Term}
use Rattle.dp_domain.specs.declared.term.Term.TheVariants.{Var, Const}
use Rattle.dp_domain.proofs.StateLaws.{alive-from, alive-value}
use Rattle.dp_rule_alldiff.specs.AllDifferent.{Exceeds, is_between, lies_between, positions_between, test_all_different}
use Rattle.dp_rule_alldiff.specs.CountLaws.{count_is}
use Rattle.dp_rule_alldiff.specs.Once.{AreOnce}
use Rattle.dp_rule_alldiff.specs.OrderLaws.{less_where, no_less_where}
use Rattle.dp_rule_alldiff.specs.PigeonLaws.{between_where, exceeds_same, is_between_where}
use Rattle.dp_rule_alldiff.specs.SpanLaws.{crowd_at, crowd_some, positions_inside, spans_ordered}
use Rattle.dp_rule_alldiff.specs.Spans.{count_inside, has_crowd, spans_of}
use Rattle.dp_rule_alldiff.specs.Tight.{IsTight}
use Rattle.dp_rule_alldiff.proofs.TightLaws.{no_more}

-- ---- sets in intervals

-- each value of a set that lies in an interval is there
pub lies_at : (a b : ℤ) (vs : List ℤ) (v : ℤ) → lies_between a b vs ≡ true → Among v vs → (a ≤ℤ v) × (v ≤ℤ b)
lies_at a b [] v e here = absurd here
lies_at a b (w ∷ vs) v e here = between_where a b v (list_all-at (is_between a b) (w ∷ vs) v e here)

-- a set with a value lies where each of its values is
pub lies_from : (a b : ℤ) (vs : List ℤ) (w : ℤ) → Among w vs → ((v : ℤ) → Among v vs → (a ≤ℤ v) × (v ≤ℤ b)) → lies_between a b vs ≡ true
lies_from a b [] w here each = absurd here
lies_from a b (x ∷ vs) w here each = list_all-from (is_between a b) (x ∷ vs) (λ v there. let r = each v there in is_between_where a b v r.0 r.1)

-- a set with a value beside the interval does not lie there
pub lies_not : (a b : ℤ) (vs : List ℤ) (v : ℤ) → Among v vs → ((a ≤ℤ v) × (v ≤ℤ b) → ⊥) → lies_between a b vs ≡ false
lies_not a b vs v here out = false_from_ne_true (lies_between a b vs) (λ e. out (lies_at a b vs v e here))

-- ---- one position

-- the variable stands at one position alone
abbrev pub StandsOnce : ℕ → List Term → Type 0
StandsOnce x [] = ⊥
StandsOnce x (t ∷ terms) = ((t ≡ Var x) × (Among (Var x) terms → ⊥)) ⊎ ((t ≡ Var x → ⊥) × StandsOnce x terms)

-- one for a set that lies in the interval
abbrev pub one_between : ℤ → ℤ → List ℤ → ℕ
one_between a b vs = cond (lies_between a b vs) 1 0

other_values : (d : Domains) (x : ℕ) (ws : List ℤ) (t : Term) → (t ≡ Var x → ⊥) → term_values (set d x ws) t ≡ term_values d t
other_values d x ws (Var y) apart = get_or-set_other d x y ws [] (λ e. apart (ap Var e))
other_values d x ws (Const v) apart = refl

counted_same : (a b : ℤ) (d e : Domains) (t : Term) (terms : List Term) → term_values e t ≡ term_values d t → positions_between e terms a b ≡ positions_between d terms a b → positions_between e (t ∷ terms) a b ≡ positions_between d (t ∷ terms) a b
counted_same a b d e t terms same rest =
    count_is (λ u. lies_between a b (term_values e u)) t terms (lies_between a b (term_values e t)) refl
    ∙ ap (λ vs. cond (lies_between a b vs) (suc (positions_between e terms a b)) (positions_between e terms a b)) same
    ∙ ap (λ n. cond (lies_between a b (term_values d t)) (suc n) n) rest
    ∙ sym (count_is (λ u. lies_between a b (term_values d u)) t terms (lies_between a b (term_values d t)) refl)

-- where the variable does not stand, nothing changes
counted_without : (a b : ℤ) (d : Domains) (x : ℕ) (ws : List ℤ) (terms : List Term) → (Among (Var x) terms → ⊥) → positions_between (set d x ws) terms a b ≡ positions_between d terms a b
counted_without a b d x ws [] none = refl
counted_without a b d x ws (t ∷ terms) none =
    counted_same a b d (set d x ws) t terms (other_values d x ws t (λ e. none (inl (sym e)))) (counted_without a b d x ws terms (λ here. none (inr here)))

counted_step : (b c : Bool) (n m k l : ℕ) → n ≡ cond b (suc k) k → m ≡ cond c (suc l) l → k ≡ l → n + cond c 1 0 ≡ m + cond b 1 0
counted_step true true n m k l e f g = omega arith
counted_step true false n m k l e f g = omega arith
counted_step false true n m k l e f g = omega arith
counted_step false false n m k l e f g = omega arith

counted_var : (a b : ℤ) (d : Domains) (x : ℕ) (ws : List ℤ) (terms : List Term) → x < length d → (Among (Var x) terms → ⊥) → positions_between (set d x ws) (Var x ∷ terms) a b + one_between a b (values d x) ≡ positions_between d (Var x ∷ terms) a b + one_between a b ws
counted_var a b d x ws terms there none =
    counted_step (lies_between a b ws) (lies_between a b (values d x))
    (positions_between (set d x ws) (Var x ∷ terms) a b) (positions_between d (Var x ∷ terms) a b)
    (positions_between (set d x ws) terms a b) (positions_between d terms a b)
    (count_is (λ u. lies_between a b (term_values (set d x ws) u)) (Var x) terms (lies_between a b ws) (ap (lies_between a b) (get_or-set_same d x ws [] there)))
    (count_is (λ u. lies_between a b (term_values d u)) (Var x) terms (lies_between a b (values d x)) refl)
    (counted_without a b d x ws terms none)

added : (e d n m k l : ℕ) → (e + n ≡ d + m) → (b : Bool) → k ≡ cond b (suc e) e → l ≡ cond b (suc d) d → k + n ≡ l + m
added e d n m k l h true f g = omega arith
added e d n m k l h false f g = omega arith

-- a cut of the variable counts its position by what is left
pub counted_once : (a b : ℤ) (d : Domains) (x : ℕ) (ws : List ℤ) (terms : List Term) → x < length d → StandsOnce x terms → positions_between (set d x ws) terms a b + one_between a b (values d x) ≡ positions_between d terms a b + one_between a b ws
counted_once a b d x ws [] there once = absurd once
counted_once a b d x ws (t ∷ terms) there (inl first) =
    subst (λ (u : Term). positions_between (set d x ws) (u ∷ terms) a b + one_between a b (values d x) ≡ positions_between d (u ∷ terms) a b + one_between a b ws) (sym first.0)
    (counted_var a b d x ws terms there first.1)
counted_once a b d x ws (t ∷ terms) there (inr later) =
    added (positions_between (set d x ws) terms a b) (positions_between d terms a b) (one_between a b (values d x)) (one_between a b ws)
    (positions_between (set d x ws) (t ∷ terms) a b) (positions_between d (t ∷ terms) a b) (counted_once a b d x ws terms there later.1)
    (lies_between a b (term_values d t))
    (count_is (λ u. lies_between a b (term_values (set d x ws) u)) t terms (lies_between a b (term_values d t)) (ap (lies_between a b) (other_values d x ws t later.0)))
    (count_is (λ u. lies_between a b (term_values d u)) t terms (lies_between a b (term_values d t)) refl)

-- ---- variables that stand once

variable_stands : (terms : List Term) (x : ℕ) → Among (Var x) terms → Among x (term_variables terms)
variable_stands [] x here = here
variable_stands (Var y ∷ terms) x (inl e) = inl (same_var x y e)
  where
    same_var : (x y : ℕ) → Var x ≡ Var y → x ≡ y
    same_var x y e = cc
variable_stands (Var y ∷ terms) x (inr here) = inr (variable_stands terms x here)
variable_stands (Const v ∷ terms) x (inl e) = absurd (apart x v e)
  where
    apart : (x : ℕ) (v : ℤ) → Var x ≡ Const v → ⊥
    apart x v e = cc
variable_stands (Const v ∷ terms) x (inr here) = variable_stands terms x here

-- where no variable stands again, each stands once
pub stands_once : (terms : List Term) (x : ℕ) → AreOnce (term_variables terms) → Among x (term_variables terms) → StandsOnce x terms
stands_once [] x once here = absurd here
stands_once (Var y ∷ terms) x once (inl e) = inl (ap Var (sym e), λ here. once.0 (subst (λ z. Among z (term_variables terms)) e (variable_stands terms x here)))
stands_once (Var y ∷ terms) x once (inr here) = inr (λ e. once.0 (subst (λ z. Among z (term_variables terms)) (same_var x y e) here), stands_once terms x once.1 here)
  where
    same_var : (x y : ℕ) → Var y ≡ Var x → x ≡ y
    same_var x y e = cc
stands_once (Const v ∷ terms) x once here = inr (apart x v, stands_once terms x once here)
  where
    apart : (x : ℕ) (v : ℤ) → Const v ≡ Var x → ⊥
    apart x v e = cc

-- ---- cuts

-- a nonempty state that does not clash, and a variable at one position of it
pub record IsCalm (terms : List Term) (d : Domains) (x : ℕ) : Type 0 where
  pub alive : is_dead d ≡ false
  pub calm : has_crowd (spans_of d terms) ≡ false
  pub there : x < length d
  pub once : StandsOnce x terms

-- a tight interval that holds what is left of the variable's values, and not all of them
pub record Blocks (terms : List Term) (d : Domains) (x : ℕ) (ws : List ℤ) (a b : ℤ) : Type 0 where
  pub tight : IsTight (spans_of d terms) a b
  pub holds : lies_between a b ws ≡ true
  pub not_all : lies_between a b (values d x) ≡ false

cut_alive : (d : Domains) (x : ℕ) (ws : List ℤ) (w : ℤ) → is_dead d ≡ false → Among w ws → is_dead (set d x ws) ≡ false
cut_alive d x ws w alive here = alive-from (set d x ws) (λ y h.
    let k : y < length d = subst (λ n. y < n) (length-set d x ws) h in
    elim (cases_eq y x) [
      | inl e ↦ (w, subst (λ vs. Among w vs) (sym (ap (λ z. values (set d x ws) z) e ∙ get_or-set_same d x ws [] (subst (λ z. z < length d) e k))) here)
      | inr n ↦ let m = alive-value d y alive k in (m.0, subst (λ vs. Among m.0 vs) (sym (get_or-set_other d x y ws [] n)) m.1)
    ])

-- one more than was there, at an interval that had no more than its size
blocked : (p q : Bool) (n m : ℕ) (z : ℤ) → n + cond p 1 0 ≡ m + cond q 1 0 → z <ℤ pos n → (z <ℤ pos m → ⊥) → (q ≡ true) × (p ≡ false) × (z ≡ pos m)
blocked true true n m z e h out = absurd (out (omega (arith, ints)))
blocked true false n m z e h out = absurd (out (omega (arith, ints)))
blocked false false n m z e h out = absurd (out (omega (arith, ints)))
blocked false true n m z e h out = (
  refl,
  refl,
  elim (cases_Bool (int_lt z (pos m))) [
    | inl l ↦ absurd (out (less_where z (pos m) l))
    | inr l ↦ same z n m e h (no_less_where z (pos m) l)
  ],
)
  where
    same : (z : ℤ) (n m : ℕ) → n + 0 ≡ m + 1 → z <ℤ pos n → pos m ≤ℤ z → z ≡ pos m
    same z n m e h k = omega (arith, ints)

crowd_blocks : (terms : List Term) (d : Domains) (x : ℕ) (ws : List ℤ) (a b : ℤ) → IsCalm terms d x → Exceeds a b (positions_between (set d x ws) terms a b) → Blocks terms d x ws a b
crowd_blocks terms d x ws a b calm exceeds =
    let r = blocked (lies_between a b (values d x)) (lies_between a b ws) (positions_between (set d x ws) terms a b) (positions_between d terms a b) ((b -ℤ a) +ℤ pos 1)
    (counted_once a b d x ws terms calm.there calm.once) exceeds.more
    (λ more. no_more (spans_of d terms) a b (spans_ordered d terms) calm.calm (exceeds_same a b (positions_between d terms a b) (count_inside (spans_of d terms) a b) (positions_inside d terms a b) (record { some = exceeds.some; more = more }))) in
    record {
      tight = record { some = exceeds.some; full = r.2 ∙ ap pos (positions_inside d terms a b) };
      holds = r.0;
      not_all = r.1;
    }

-- where a cut clashes, a tight interval blocks it
pub clash_blocks : (terms : List Term) (d : Domains) (x : ℕ) (ws : List ℤ) (w : ℤ) → IsCalm terms d x → Among w ws → test_all_different terms (set d x ws) ≡ true → (a : ℤ) × (b : ℤ) × Blocks terms d x ws a b
clash_blocks terms d x ws w calm here e = elim (or_cases (is_dead (set d x ws)) (has_crowd (spans_of (set d x ws) terms)) e) [
  | inl dead ↦ absurd (both_ways (is_dead (set d x ws)) (cut_alive d x ws w calm.alive here) dead)
  | inr crowd ↦
      let r = crowd_some (spans_of (set d x ws) terms) crowd in
      (r.0, r.1, crowd_blocks terms d x ws r.0 r.1 calm (exceeds_same r.0 r.1 (count_inside (spans_of (set d x ws) terms) r.0 r.1) (positions_between (set d x ws) terms r.0 r.1) (sym (positions_inside (set d x ws) terms r.0 r.1)) r.2))
]

one_more : (p q : Bool) (n m : ℕ) (z : ℤ) → n + cond p 1 0 ≡ m + cond q 1 0 → q ≡ true → p ≡ false → z ≡ pos m → z <ℤ pos n
one_more true q n m z e f g h = absurd (false≢true (sym g))
one_more false false n m z e f g h = absurd (false≢true f)
one_more false true n m z e f g h = omega (arith, ints)

-- and where one blocks it, it clashes
pub blocks_clash : (terms : List Term) (d : Domains) (x : ℕ) (ws : List ℤ) (a b : ℤ) → IsCalm terms d x → Blocks terms d x ws a b → test_all_different terms (set d x ws) ≡ true
blocks_clash terms d x ws a b calm blocks =
    or_right (is_dead (set d x ws)) (has_crowd (spans_of (set d x ws) terms))
    (crowd_at (spans_of (set d x ws) terms) a b (spans_ordered (set d x ws) terms)
    (exceeds_same a b (positions_between (set d x ws) terms a b) (count_inside (spans_of (set d x ws) terms) a b) (positions_inside (set d x ws) terms a b)
    (record {
      some = blocks.tight.some;
      more = one_more (lies_between a b (values d x)) (lies_between a b ws) (positions_between (set d x ws) terms a b) (positions_between d terms a b) ((b -ℤ a) +ℤ pos 1)
          (counted_once a b d x ws terms calm.there calm.once) blocks.holds blocks.not_all (blocks.tight.full ∙ sym (ap pos (positions_inside d terms a b)));
    })))
