-- A run that fails still fails from a smaller state and with more parts.
use Rattle.std.proofs.Common.{◌≡◌, ℕ, ◌<◌, true, false, ◌⊎◌, List, ◌++◌, length, Some, None, refl, sym, ◌∙◌, ap, subst, inl, inr}
use Rattle.std.proofs.lemmas.Bool.{both_ways, cases_Bool, false≢true}
use Rattle.dp_base.specs.Lists.{Among, Each}
use Rattle.dp_base.proofs.Lists.{Among-append_cases, Among-append_left, Among-append_right, Each-among}
use Rattle.dp_domain.specs.Atoms.{Atomic, negated}
use Rattle.dp_domain.specs.Faces.{Covers}
use Rattle.dp_domain.specs.States.{Domains, IsWithin, cut, entails, is_dead}
use Rattle.dp_domain.specs.Turns.{IsCandidate, IsTurn}
use Rattle.dp_domain.proofs.StateLaws.{IsWithin-cut, IsWithin-cut_both, IsWithin-into_cut, IsWithin-refl, IsWithin-trans, dead-within, length-cut}
use Rattle.dp_domain.proofs.TurnLaws.{gives-from, gives-parts}
use Rattle.dp_parts.specs.Posed.{Posed}
use Rattle.dp_engine.specs.declared.turn.Turn.{Turn}
use Rattle.dp_engine.specs.declared.turn.Turn.TheVariants.{Atom, Clash, Quiet, Empty}
use Rattle.dp_engine.specs.Placed.{AreSound, IsSound, Placed, of_constraints, of_nogoods, turn_order}
use Rattle.dp_engine.specs.Runs.{IsEnd, fails, is_failure, run, run_end, state_after}
use Rattle.dp_engine.specs.Turns.{IsTurnAt, after}
use Rattle.dp_engine.proofs.RunLaws.{end-is, run-induction}
use Rattle.dp_engine.proofs.SearchSteps.{order-parts}
use Rattle.dp_engine.proofs.TurnLaws.{first-among, first-before, first-turn, turn_at-is}

-- none of the parts has a turn at the state
abbrev AreQuiet : List Placed → Domains → Type 0
AreQuiet parts q = (p : Placed) → Among p parts → IsTurn p.face q None

covers_at : (n : ℕ) (p : Placed) (d : Domains) → IsSound n p → length d ≡ n → Covers p.face.scope d
covers_at n p d s l = subst (λ m. Each (λ x. x < m) p.face.scope) (sym l) s.covered

-- a part that clashes clashes at smaller states
clash_below : (n : ℕ) (p : Placed) (d q : Domains) → IsSound n p → length d ≡ n → IsWithin q d → p.face.test d ≡ true → IsTurn p.face q None → ⊥
clash_below n p d q s l w t none = both_ways (p.face.test q) none.0 (s.lawful.monotone d q (covers_at n p d s l) w t)

-- an atom that a part gives is entailed by each smaller state at which it gives nothing
entailed_below : (n : ℕ) (p : Placed) (d q : Domains) (a : Atomic) → IsSound n p → length d ≡ n → IsWithin q d → IsCandidate p.face d a → IsTurn p.face q None → entails q a ≡ true
entailed_below n p d q a s l w k none = elim (cases_Bool (entails q a)) [
  | inl e ↦ e
  | inr e ↦ absurd (none.1 a (record {
    of_scope = k.of_scope;
    permitted = k.permitted;
    given = gives-from p.face q a e
        (s.lawful.monotone (cut d (negated a)) (cut q (negated a)) (covers_at n p (cut d (negated a)) s (length-cut d (negated a) ∙ l)) (IsWithin-cut_both d q (negated a) w) (gives-parts p.face d a k.given).1);
  }))
]

-- around a state with values left at which all is quiet, no run fails
no_failure : (n : ℕ) (parts : List Placed) (q d : Domains) → AreSound n parts → is_dead q ≡ false → AreQuiet parts q → length d ≡ n → IsWithin q d → is_failure (run_end parts d) ≡ true → ⊥
no_failure n parts q d sound alive quiet = run-induction n parts (λ b ts e. length b ≡ n → IsWithin q b → is_failure e ≡ true → ⊥) sound (record {
  dead = λ b e l w f. both_ways (is_dead q) alive (dead-within b q w e);
  quiet = λ b e f l w g. false≢true g;
  clash = λ b t e f g l w h.
      let m = first-among parts b t f in
      clash_below n t.part b q (Each-among (IsSound n) parts sound t.part m) l w (subst (λ k. IsTurn t.part.face b (Some k)) g (first-turn n parts b t sound e f)) (quiet t.part m);
  atom = λ b t a ts end e f g h l w k.
      let m = first-among parts b t f in
      let turn = subst (λ x. IsTurn t.part.face b (Some x)) g (first-turn n parts b t sound e f) in
      h (length-cut b a ∙ l) (IsWithin-into_cut b q a w (entailed_below n t.part b q a (Each-among (IsSound n) parts sound t.part m) l w turn.1.candidate (quiet t.part m))) k;
}) d

-- a run ends within its start
pub run-within : (n : ℕ) (parts : List Placed) (d : Domains) → AreSound n parts → IsWithin (state_after d (run parts d)) d
run-within n parts d sound = run-induction n parts (λ b ts e. IsWithin (state_after b ts) b) sound (record {
  dead = λ b e. IsWithin-refl b;
  quiet = λ b e f. IsWithin-refl b;
  clash = λ b t e f g. subst (λ c. IsWithin c b) (sym (ap (λ k. after t.before k) g ∙ first-before parts b t f)) (IsWithin-refl b);
  atom = λ b t a ts end e f g h.
      subst (λ c. IsWithin (state_after c ts) b) (sym (ap (λ k. after t.before k) g ∙ ap (λ (c : Domains). cut c a) (first-before parts b t f)))
      (IsWithin-trans b (cut b a) (state_after (cut b a) ts) h (IsWithin-cut b a));
}) d

end_cases : (t : Turn) → IsEnd t → (is_failure t ≡ true) ⊎ (t ≡ Quiet)
end_cases (Atom id a) h = absurd h
end_cases (Clash id) h = inl refl
end_cases Quiet h = inr refl
end_cases Empty h = inl refl

-- a run that fails still fails from a smaller state and with more parts
pub failure-stays : (n : ℕ) (parts more : List Placed) (d e : Domains) → AreSound n parts → AreSound n more → ((p : Placed) → Among p parts → Among p more) → length d ≡ n → IsWithin e d → fails parts d ≡ true → fails more e ≡ true
failure-stays n parts more d e sound sounds all l w f = elim (end_cases (run_end more e) (end-is n more e sounds)) [
  | inl k ↦ k
  | inr k ↦
      let q : Domains = state_after e (run more e) in
      let quiet : (is_dead q ≡ false) × Each (λ (p : Placed). IsTurn p.face q None) more = subst (IsTurnAt more q) k (turn_at-is n more q sounds) in
      absurd (no_failure n parts q d sound quiet.0 (λ p m. Each-among (λ (r : Placed). IsTurn r.face q None) more quiet.1 p (all p m)) l
      (IsWithin-trans d e q (run-within n more e sounds) w) f)
]

-- with more nogoods behind them, the parts stand among all
pub order-more : (p : Posed) (ns ms : List (List Atomic)) (q : Placed) → Among q (turn_order p ns) → Among q (turn_order p (ns ++ ms))
order-more p ns ms q h = subst (Among q) (sym (order-parts p ns ms)) (elim (Among-append_cases q (of_constraints 0 p.constraints) (of_nogoods 0 ns) h) [
  | inl m ↦ Among-append_left q (of_constraints 0 p.constraints) (of_nogoods 0 ns ++ of_nogoods (length ns) ms) m
  | inr m ↦ Among-append_right q (of_constraints 0 p.constraints) (of_nogoods 0 ns ++ of_nogoods (length ns) ms) (Among-append_left q (of_nogoods 0 ns) (of_nogoods (length ns) ms) m)
])
