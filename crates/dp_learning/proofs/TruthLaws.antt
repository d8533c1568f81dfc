-- What is learned and claimed is true: no run takes a solution away.
use Rattle.std.proofs.Common.{◌≡◌, ℕ, ◌+◌, ◌<◌, true, List, [], ◌∷◌, ◌++◌, length, Some, ℤ, refl, sym, ◌∙◌, subst, inl, inr, append_assoc}
use Rattle.std.specs.List.{list_all}
use Rattle.std.proofs.lemmas.Bool.{both_ways, cases_Bool, false≢true}
use Rattle.std.proofs.lemmas.List.{append-nil}
use Rattle.dp_base.specs.Lists.{Among, Each}
use Rattle.dp_base.proofs.Lists.{Each-among, Each-append, list_all-at, list_all-fails}
use Rattle.dp_domain.specs.Atoms.{Atomic, meets, negated}
use Rattle.dp_domain.specs.Faces.{Covers}
use Rattle.dp_domain.specs.States.{AreOf, Domains, LiesIn, cut, cut_all, is_dead}
use Rattle.dp_domain.specs.Turns.{IsTurn, gives}
use Rattle.dp_domain.specs.declared.verdict.Verdict.TheVariants.{Unsat, Bound}
use Rattle.dp_domain.proofs.StateLaws.{LiesIn-alive, LiesIn-cut, LiesIn-cut_all, LiesIn-either, length-cut, length-cut_all}
use Rattle.dp_domain.proofs.TurnLaws.{gives-parts}
use Rattle.dp_parts.specs.Posed.{IsSoundlyPosed, Labelled, Passes, Posed, Solves}
use Rattle.dp_rule_clause.specs.NogoodLaws.{nogood_sound}
use Rattle.dp_rule_clause.specs.Nogoods.{MeetsNogood}
use Rattle.dp_engine.specs.Placed.{AreSound, IsSound, Placed, of_constraint, of_constraints, of_nogoods, turn_order}
use Rattle.dp_engine.specs.Runs.{fails, follows, is_failure}
use Rattle.dp_engine.proofs.PlacedLaws.{order-sound}
use Rattle.dp_engine.proofs.RunLaws.{run-induction}
use Rattle.dp_engine.proofs.TurnLaws.{first-among, first-turn}
use Rattle.dp_learning.specs.Learning.{AreLearned, Concludes, IsLearned}

-- ---- runs

-- the assignment passes the test of each part
abbrev pub PassesAll : (ℕ → ℤ) → List Placed → Type 0
PassesAll s parts = Each (λ (q : Placed). Passes s q.face) parts

covers_at : (n : ℕ) (q : Placed) (d : Domains) → IsSound n q → length d ≡ n → Covers q.face.scope d
covers_at n q d sound l = subst (λ m. Each (λ x. x < m) q.face.scope) (sym l) sound.covered

-- what a part gives is met by each assignment in the state that passes its test
given_met : (n : ℕ) (q : Placed) (d : Domains) (s : ℕ → ℤ) (a : Atomic) → IsSound n q → Passes s q.face → length d ≡ n → LiesIn s d → gives q.face d a ≡ true → meets a (s a.var) ≡ true
given_met n q d s a sound passes l lies g = elim (LiesIn-either d s a lies) [
  | inl e ↦ e
  | inr e ↦ absurd (both_ways (q.face.test (cut d (negated a)))
      (passes (cut d (negated a)) (covers_at n q (cut d (negated a)) sound (length-cut d (negated a) ∙ l)) e) (gives-parts q.face d a g).1)
]

-- no run fails from a state in which an assignment lies that passes the test of each part
pub survives : (n : ℕ) (parts : List Placed) (s : ℕ → ℤ) (d : Domains) → AreSound n parts → PassesAll s parts → length d ≡ n → LiesIn s d → fails parts d ≡ true → ⊥
survives n parts s d sound passes = run-induction n parts (λ b ts e. length b ≡ n → LiesIn s b → is_failure e ≡ true → ⊥) sound (record {
  dead = λ b e l lies f. both_ways (is_dead b) (LiesIn-alive b s lies) e;
  quiet = λ b e f l lies g. false≢true g;
  clash = λ b t e f g l lies h.
      let m = first-among parts b t f in
      let sounds : IsSound n t.part = Each-among (IsSound n) parts sound t.part m in
      let pass : Passes s t.part.face = Each-among (λ (q : Placed). Passes s q.face) parts passes t.part m in
      both_ways (t.part.face.test b) (pass b (covers_at n t.part b sounds l) lies) (subst (λ k. IsTurn t.part.face b (Some k)) g (first-turn n parts b t sound e f));
  atom = λ b t a ts end e f g h l lies k.
      let m = first-among parts b t f in
      let sounds : IsSound n t.part = Each-among (IsSound n) parts sound t.part m in
      let pass : Passes s t.part.face = Each-among (λ (q : Placed). Passes s q.face) parts passes t.part m in
      let turn = subst (λ x. IsTurn t.part.face b (Some x)) g (first-turn n parts b t sound e f) in
      h (length-cut b a ∙ l) (LiesIn-cut b s a lies (given_met n t.part b s a sounds pass l lies turn.1.candidate.given)) k;
}) d

-- ---- the parts of a problem and nogoods

constraint_passes : (s : ℕ → ℤ) (k i : ℕ) (qs : List Labelled) → Each (λ (part : Labelled). Passes s part.face) qs → PassesAll s (of_constraint k i qs)
constraint_passes s k i [] e = tt
constraint_passes s k i (q ∷ qs) e = (e.0, constraint_passes s k (i + 1) qs e.1)

constraints_pass : (s : ℕ → ℤ) (k : ℕ) (cs : List (List Labelled)) → Each (Each (λ (part : Labelled). Passes s part.face)) cs → PassesAll s (of_constraints k cs)
constraints_pass s k [] e = tt
constraints_pass s k (c ∷ cs) e =
    Each-append (λ (q : Placed). Passes s q.face) (of_constraint k 0 c) (of_constraints (k + 1) cs) (constraint_passes s k 0 c e.0) (constraints_pass s (k + 1) cs e.1)

-- of each nogood some atom fails
abbrev pub MeetsEach : (ℕ → ℤ) → List (List Atomic) → Type 0
MeetsEach s nogoods = Each (λ nogood. MeetsNogood nogood s) nogoods

nogoods_pass : (s : ℕ → ℤ) (j : ℕ) (nogoods : List (List Atomic)) → MeetsEach s nogoods → PassesAll s (of_nogoods j nogoods)
nogoods_pass s j [] e = tt
nogoods_pass s j (n ∷ nogoods) e = (λ d covers lies. nogood_sound n d s covers lies e.0, nogoods_pass s (j + 1) nogoods e.1)

-- a solution passes the tests of all parts and of the nogoods that it meets
pub order-passes : (p : Posed) (nogoods : List (List Atomic)) (s : ℕ → ℤ) → Solves s p → MeetsEach s nogoods → PassesAll s (turn_order p nogoods)
order-passes p nogoods s solves met =
    Each-append (λ (q : Placed). Passes s q.face) (of_constraints 0 p.constraints) (of_nogoods 0 nogoods) (constraints_pass s 0 p.constraints solves.passes) (nogoods_pass s 0 nogoods met)

-- no solution meets all atoms of what follows
pub met-follows : (p : Posed) (nogoods : List (List Atomic)) (s : ℕ → ℤ) (atoms : List Atomic) → IsSoundlyPosed p → Each (AreOf p.initial) nogoods → Solves s p → MeetsEach s nogoods → follows p nogoods atoms ≡ true
    → ((a : Atomic) → Among a atoms → meets a (s a.var) ≡ true) → ⊥
met-follows p nogoods s atoms sound of_it solves met e all =
    survives (length p.initial) (turn_order p nogoods) s (cut_all p.initial atoms) (order-sound p nogoods sound of_it) (order-passes p nogoods s solves met)
    (length-cut_all p.initial atoms) (LiesIn-cut_all p.initial s atoms solves.within all) e

-- ---- what is learned

some_fails : (s : ℕ → ℤ) (atoms : List Atomic) → (((a : Atomic) → Among a atoms → meets a (s a.var) ≡ true) → ⊥) → MeetsNogood atoms s
some_fails s atoms none = elim (cases_Bool (list_all (λ (a : Atomic). meets a (s a.var)) atoms)) [
  | inl e ↦ absurd (none (λ a h. list_all-at (λ (b : Atomic). meets b (s b.var)) atoms a e h))
  | inr e ↦ list_all-fails (λ (a : Atomic). meets a (s a.var)) atoms e
]

met_from : (p : Posed) (s : ℕ → ℤ) (before after : List (List Atomic)) → IsSoundlyPosed p → Solves s p → AreLearned p (before ++ after) → Each (AreOf p.initial) before → MeetsEach s before
    → Each (AreOf p.initial) (before ++ after) × MeetsEach s (before ++ after)
met_from p s before [] sound solves learned of_it met = subst (λ ns. Each (AreOf p.initial) ns × MeetsEach s ns) (sym (append-nil before)) (of_it, met)
met_from p s before (n ∷ after) sound solves learned of_it met =
    let step : IsLearned p before n = learned before after n refl in
    let same : (before ++ n ∷ []) ++ after ≡ before ++ n ∷ after = append_assoc before (n ∷ []) after in
    subst (λ ns. Each (AreOf p.initial) ns × MeetsEach s ns) same
    (met_from p s (before ++ n ∷ []) after sound solves (subst (AreLearned p) (sym same) learned)
    (Each-append (AreOf p.initial) before (n ∷ []) of_it (step.variables, tt))
    (Each-append (λ nogood. MeetsNogood nogood s) before (n ∷ []) met (some_fails s n (met-follows p before s n sound of_it solves met step.follows), tt)))

-- learned nogoods are on the problem's variables, and each solution meets them
pub learned-met : (p : Posed) (nogoods : List (List Atomic)) (s : ℕ → ℤ) → IsSoundlyPosed p → AreLearned p nogoods → Solves s p → Each (AreOf p.initial) nogoods × MeetsEach s nogoods
learned-met p nogoods s sound learned solves = met_from p s [] nogoods sound solves learned tt tt

-- ---- what is claimed

-- where it is claimed that there is no solution, there is none
pub concluded-none : (p : Posed) (nogoods : List (List Atomic)) (s : ℕ → ℤ) → IsSoundlyPosed p → AreLearned p nogoods → Concludes p nogoods Unsat → Solves s p → ⊥
concluded-none p nogoods s sound learned e solves =
    let met = learned-met p nogoods s sound learned solves in
    met-follows p nogoods s [] sound met.0 solves met.1 e (λ a h. absurd h)

-- each solution meets a bound that is claimed
pub concluded-bound : (p : Posed) (nogoods : List (List Atomic)) (s : ℕ → ℤ) (a : Atomic) → IsSoundlyPosed p → AreLearned p nogoods → Concludes p nogoods (Bound a) → Solves s p → meets a (s a.var) ≡ true
concluded-bound p nogoods s a sound learned e solves =
    let met = learned-met p nogoods s sound learned solves in
    elim (LiesIn-either p.initial s a solves.within) [
      | inl k ↦ k
      | inr k ↦ absurd (survives (length p.initial) (turn_order p nogoods) s (cut p.initial (negated a)) (order-sound p nogoods sound met.0) (order-passes p nogoods s solves met.1)
          (length-cut p.initial (negated a)) k e)
    ]
