-- Runs turn by turn: the bound on the number of turns is never met, and each run ends in a clash, quiet or empty.
use Rattle.std.proofs.Common.{◌≡◌, ℕ, zero, suc, ◌<◌, Bool, true, false, cond, ◌⊎◌, List, [], ◌∷◌, ◌++◌, Option, Some, None, refl, sym, ◌∙◌, ap, subst, inl, inr, arith}
use Rattle.std.proofs.lemmas.Bool.{both_ways, cases_Bool}
use Rattle.dp_base.specs.Lists.{Each}
use Rattle.dp_base.proofs.Lists.{Each-weaker}
use Rattle.dp_domain.specs.Atoms.{Atomic}
use Rattle.dp_domain.specs.declared.found.Found.{Found}
use Rattle.dp_domain.specs.declared.found.Found.TheVariants.{Clash as Clashes, Atom as Gives}
use Rattle.dp_domain.specs.States.{Domains, IsWithin, cut, is_dead, total}
use Rattle.dp_domain.proofs.StateLaws.{IsWithin-cut, IsWithin-refl, IsWithin-trans}
use Rattle.dp_engine.specs.declared.part_id.PartId.{PartId}
use Rattle.dp_engine.specs.declared.turn.Turn.{Turn}
use Rattle.dp_engine.specs.declared.turn.Turn.TheVariants.{Clash, Quiet, Empty}
use Rattle.dp_engine.specs.Placed.{AreSound, Placed}
use Rattle.dp_engine.specs.Turns.{Taken, after, first, told, told_or_quiet, turn_at}
use Rattle.dp_engine.specs.Runs.{IsEnd, IsRun, IsTakenIn, run, run_end, state_after, taken_after, taken_from, turns}
use Rattle.dp_engine.proofs.TurnLaws.{first-alive, first-before, first-less}

-- ---- one more turn

after_same : (d : Domains) (f : Found) (m n : Domains → List Taken) → ((a : Atomic) → f ≡ Gives a → m (cut d a) ≡ n (cut d a)) → taken_after d f m ≡ taken_after d f n
after_same d Clashes m n h = refl
after_same d (Gives a) m n h = h a refl

-- a turn's atom leaves less
less_at : (n : ℕ) (parts : List Placed) (d : Domains) (t : Taken) (a : Atomic) → AreSound n parts → is_dead d ≡ false → first parts d ≡ Some t → t.found ≡ Gives a → total (cut t.before a) < total d
less_at n parts d t a sound alive e g =
    subst (λ (b : Domains). total (cut b a) < total d) (sym (first-before parts d t e)) (first-less n parts d t a sound alive e g)

same_step : (n : ℕ) (parts : List Placed) (d : Domains) (j k : ℕ) (b : Bool) (o : Option Taken) → AreSound n parts → is_dead d ≡ b → first parts d ≡ o → ((e : Domains) → total e < total d → turns j parts e ≡ turns k parts e)
    → cond b [] (taken_from o (turns j parts)) ≡ cond b [] (taken_from o (turns k parts))
same_step n parts d j k true o sound e f h = refl
same_step n parts d j k false None sound e f h = refl
same_step n parts d j k false (Some t) sound e f h =
    ap (λ ts. t ∷ ts) (after_same t.before t.found (turns j parts) (turns k parts) (λ a g. h (cut t.before a) (less_at n parts d t a sound e f g)))

-- bounds above the number of values give the same turns
pub turns-enough : (n : ℕ) (parts : List Placed) (j k : ℕ) (d : Domains) → AreSound n parts → total d < j → total d < k → turns j parts d ≡ turns k parts d
turns-enough n parts zero k d sound h l = absurd (omega arith)
turns-enough n parts (suc j) zero d sound h l = absurd (omega arith)
turns-enough n parts (suc j) (suc k) d sound h l =
    same_step n parts d j k (is_dead d) (first parts d) sound refl refl (λ e m. turns-enough n parts j k e sound (omega arith) (omega arith))

-- ---- the run, case by case

-- what the run is at its first turn
run_opens : (parts : List Placed) (d : Domains) (b : Bool) (o : Option Taken) → is_dead d ≡ b → first parts d ≡ o → run parts d ≡ cond b [] (taken_from o (turns (total d) parts))
unfolding run
run_opens parts d b o e f =
    ap (λ c. cond c [] (taken_from (first parts d) (turns (total d) parts))) e ∙ ap (λ p. cond b [] (taken_from p (turns (total d) parts))) f

-- a run from a dead state has no turn
pub run-dead : (parts : List Placed) (d : Domains) → is_dead d ≡ true → run parts d ≡ []
run-dead parts d e = run_opens parts d true (first parts d) e refl

-- nor has one where no part has a turn
pub run-quiet : (parts : List Placed) (d : Domains) → is_dead d ≡ false → first parts d ≡ None → run parts d ≡ []
run-quiet parts d e f = run_opens parts d false None e f

-- a clash is the last turn
pub run-clash : (parts : List Placed) (d : Domains) (t : Taken) → is_dead d ≡ false → first parts d ≡ Some t → t.found ≡ Clashes → run parts d ≡ t ∷ []
run-clash parts d t e f g = run_opens parts d false (Some t) e f ∙ ap (λ h. t ∷ taken_after t.before h (turns (total d) parts)) g

-- after an atom the run goes on from the state that it cuts
pub run-atom : (n : ℕ) (parts : List Placed) (d : Domains) (t : Taken) (a : Atomic) → AreSound n parts → is_dead d ≡ false → first parts d ≡ Some t → t.found ≡ Gives a → run parts d ≡ t ∷ run parts (cut d a)
unfolding run
run-atom n parts d t a sound e f g =
    run_opens parts d false (Some t) e f
    ∙ ap (λ h. t ∷ taken_after t.before h (turns (total d) parts)) g
    ∙ ap (λ b. t ∷ turns (total d) parts (cut b a)) (first-before parts d t f)
    ∙ ap (λ ts. t ∷ ts) (let l = first-less n parts d t a sound e f g in turns-enough n parts (total d) (suc (total (cut d a))) (cut d a) sound l (omega arith))

-- ---- how it ends

-- the turn at a dead state is Empty
pub turn-dead : (parts : List Placed) (d : Domains) → is_dead d ≡ true → turn_at parts d ≡ Empty
turn-dead parts d e = ap (λ b. cond b Empty (told_or_quiet (first parts d))) e

turn_opens : (parts : List Placed) (d : Domains) (o : Option Taken) → is_dead d ≡ false → first parts d ≡ o → turn_at parts d ≡ told_or_quiet o
turn_opens parts d o e f = ap (λ b. cond b Empty (told_or_quiet (first parts d))) e ∙ ap told_or_quiet f

-- where no part has a turn it is Quiet
pub turn-quiet : (parts : List Placed) (d : Domains) → is_dead d ≡ false → first parts d ≡ None → turn_at parts d ≡ Quiet
turn-quiet parts d e f = turn_opens parts d None e f

-- else it is that of the first part that has one
pub turn-told : (parts : List Placed) (d : Domains) (t : Taken) (f : Found) → is_dead d ≡ false → first parts d ≡ Some t → t.found ≡ f → turn_at parts d ≡ told t.part.id f
turn-told parts d t f e s g = turn_opens parts d (Some t) e s ∙ ap (told t.part.id) g

end_at : (parts : List Placed) (d : Domains) (ts : List Taken) → run parts d ≡ ts → run_end parts d ≡ turn_at parts (state_after d ts)
end_at parts d ts e = ap (λ us. turn_at parts (state_after d us)) e

-- a run from a dead state ends Empty
pub end-dead : (parts : List Placed) (d : Domains) → is_dead d ≡ true → run_end parts d ≡ Empty
end-dead parts d e = end_at parts d [] (run-dead parts d e) ∙ turn-dead parts d e

-- one from a state where no part has a turn ends Quiet
pub end-quiet : (parts : List Placed) (d : Domains) → is_dead d ≡ false → first parts d ≡ None → run_end parts d ≡ Quiet
end-quiet parts d e f = end_at parts d [] (run-quiet parts d e f) ∙ turn-quiet parts d e f

-- where the first turn is a clash the run ends in it
pub end-clash : (parts : List Placed) (d : Domains) (t : Taken) → is_dead d ≡ false → first parts d ≡ Some t → t.found ≡ Clashes → run_end parts d ≡ Clash t.part.id
end-clash parts d t e f g =
    end_at parts d (t ∷ []) (run-clash parts d t e f g)
    ∙ ap (λ h. turn_at parts (after t.before h)) g
    ∙ ap (turn_at parts) (first-before parts d t f)
    ∙ turn-told parts d t Clashes e f g

-- after an atom the run ends as that from the state that it cuts
pub end-atom : (n : ℕ) (parts : List Placed) (d : Domains) (t : Taken) (a : Atomic) → AreSound n parts → is_dead d ≡ false → first parts d ≡ Some t → t.found ≡ Gives a → run_end parts d ≡ run_end parts (cut d a)
end-atom n parts d t a sound e f g =
    end_at parts d (t ∷ run parts (cut d a)) (run-atom n parts d t a sound e f g)
    ∙ ap (λ h. turn_at parts (state_after (after t.before h) (run parts (cut d a)))) g
    ∙ ap (λ b. turn_at parts (state_after (cut b a) (run parts (cut d a)))) (first-before parts d t f)

-- ---- induction over runs

-- what holds at dead and at quiet states and of a clash, and of each turn where it holds of what is taken after it
pub record Steps (n : ℕ) (parts : List Placed) (P : Domains → List Taken → Turn → Type 0) : Type 0 where
  pub dead : (d : Domains) → is_dead d ≡ true → P d [] Empty
  pub quiet : (d : Domains) → is_dead d ≡ false → first parts d ≡ None → P d [] Quiet
  pub clash : (d : Domains) (t : Taken) → is_dead d ≡ false → first parts d ≡ Some t → t.found ≡ Clashes → P d (t ∷ []) (Clash t.part.id)
  pub atom : (d : Domains) (t : Taken) (a : Atomic) (ts : List Taken) (e : Turn) → is_dead d ≡ false → first parts d ≡ Some t → t.found ≡ Gives a → P (cut d a) ts e → P d (t ∷ ts) e

along : (P : Domains → List Taken → Turn → Type 0) (d : Domains) (ts us : List Taken) (e f : Turn) → us ≡ ts → f ≡ e → P d ts e → P d us f
along P d ts us e f p q h = subst (λ vs. P d vs f) (sym p) (subst (λ g. P d ts g) (sym q) h)

-- each turn is a clash or an atom
pub found_cases : (f : Found) → (f ≡ Clashes) ⊎ ((a : Atomic) × (f ≡ Gives a))
found_cases Clashes = inl refl
found_cases (Gives a) = inr (a, refl)

run_step : (n : ℕ) (parts : List Placed) (P : Domains → List Taken → Turn → Type 0) (d : Domains) (b : Bool) (o : Option Taken) → AreSound n parts → Steps n parts P → is_dead d ≡ b → first parts d ≡ o
    → ((e : Domains) → total e < total d → P e (run parts e) (run_end parts e)) → P d (run parts d) (run_end parts d)
run_step n parts P d true o sound s e f h = along P d [] (run parts d) Empty (run_end parts d) (run-dead parts d e) (end-dead parts d e) (s.dead d e)
run_step n parts P d false None sound s e f h = along P d [] (run parts d) Quiet (run_end parts d) (run-quiet parts d e f) (end-quiet parts d e f) (s.quiet d e f)
run_step n parts P d false (Some t) sound s e f h = elim (found_cases t.found) [
  | inl g ↦ along P d (t ∷ []) (run parts d) (Clash t.part.id) (run_end parts d) (run-clash parts d t e f g) (end-clash parts d t e f g) (s.clash d t e f g)
  | inr g ↦ along P d (t ∷ run parts (cut d g.0)) (run parts d) (run_end parts (cut d g.0)) (run_end parts d)
      (run-atom n parts d t g.0 sound e f g.1) (end-atom n parts d t g.0 sound e f g.1)
      (s.atom d t g.0 (run parts (cut d g.0)) (run_end parts (cut d g.0)) e f g.1 (h (cut d g.0) (first-less n parts d t g.0 sound e f g.1)))
]

run_below : (n : ℕ) (parts : List Placed) (P : Domains → List Taken → Turn → Type 0) (k : ℕ) (d : Domains) → AreSound n parts → Steps n parts P → total d < k → P d (run parts d) (run_end parts d)
run_below n parts P zero d sound s h = absurd (omega arith)
run_below n parts P (suc k) d sound s h = run_step n parts P d (is_dead d) (first parts d) sound s refl refl (λ e l. run_below n parts P k e sound s (omega arith))

-- it holds of every run with its end
pub run-induction : (n : ℕ) (parts : List Placed) (P : Domains → List Taken → Turn → Type 0) → AreSound n parts → Steps n parts P → (d : Domains) → P d (run parts d) (run_end parts d)
run-induction n parts P sound s d = run_below n parts P (suc (total d)) d sound s (omega arith)

-- ---- the relation

clash_no_atom : (f : Found) (a : Atomic) → f ≡ Clashes → f ≡ Gives a → ⊥
clash_no_atom f a p q = cc

same_given : (a c : Atomic) → ◌≡◌ {A = Found} (Gives a) (Gives c) → a ≡ c
same_given a c e = cc

-- the run is a run
pub run-is : (n : ℕ) (parts : List Placed) (d : Domains) → AreSound n parts → IsRun parts d (run parts d)
run-is n parts d sound = run-induction n parts (λ b ts e. IsRun parts b ts) sound (record {
  dead = λ b e alive. absurd (both_ways (is_dead b) alive e);
  quiet = λ b alive e _. e;
  clash = λ b t alive e g. (alive, e, λ _. refl, λ a h. absurd (clash_no_atom t.found a g h));
  atom = λ b t a ts end alive e g h. (alive, e, λ k. absurd (clash_no_atom t.found a k g), λ c k. subst (λ x. IsRun parts (cut b x) ts) (same_given a c (sym g ∙ k)) h);
}) d

-- there is no other
pub run-only : (n : ℕ) (parts : List Placed) (d : Domains) (ts : List Taken) → AreSound n parts → IsRun parts d ts → ts ≡ run parts d
run-only n parts d [] sound h = elim (cases_Bool (is_dead d)) [
  | inl e ↦ sym (run-dead parts d e)
  | inr e ↦ sym (run-quiet parts d e (h e))
]
run-only n parts d (t ∷ ts) sound h = elim (found_cases t.found) [
  | inl g ↦ ap (λ us. t ∷ us) (h.2 g) ∙ sym (run-clash parts d t h.0 h.1 g)
  | inr g ↦ ap (λ us. t ∷ us) (run-only n parts (cut d g.0) ts sound (h.3 g.0 g.1)) ∙ sym (run-atom n parts d t g.0 sound h.0 h.1 g.1)
]

-- ---- what every run keeps

-- a run ends in a clash, Quiet or Empty
pub end-is : (n : ℕ) (parts : List Placed) (d : Domains) → AreSound n parts → IsEnd (run_end parts d)
end-is n parts d sound = run-induction n parts (λ b ts e. IsEnd e) sound (record {
  dead = λ b e. tt;
  quiet = λ b e f. tt;
  clash = λ b t e f g. tt;
  atom = λ b t a ts e alive f g h. h;
}) d

-- only a run from a dead state ends Empty, since no turn empties a set
pub end-empty : (n : ℕ) (parts : List Placed) (d : Domains) → AreSound n parts → is_dead d ≡ false → run_end parts d ≡ Empty → ⊥
end-empty n parts d sound = run-induction n parts (λ b ts e. is_dead b ≡ false → e ≡ Empty → ⊥) sound (record {
  dead = λ b e alive f. both_ways (is_dead b) alive e;
  quiet = λ b e f alive g. (cc);
  clash = λ b t e f g alive h. (cc);
  atom = λ b t a ts e alive f g h l k. h (first-alive n parts b t a sound alive f g) k;
}) d

-- it is one of a larger start's
wider : (parts : List Placed) (d e : Domains) (ts : List Taken) → IsWithin e d → Each (IsTakenIn parts e) ts → Each (IsTakenIn parts d) ts
wider parts d e ts within = Each-weaker (IsTakenIn parts e) (IsTakenIn parts d)
    (λ t k. record { within = IsWithin-trans d e t.before k.within within; alive = k.alive; first = k.first }) ts

taken_in : (parts : List Placed) (d : Domains) (t : Taken) → is_dead d ≡ false → first parts d ≡ Some t → IsTakenIn parts d t
taken_in parts d t alive f = let e = first-before parts d t f in record {
  within = subst (λ b. IsWithin b d) (sym e) (IsWithin-refl d);
  alive = ap is_dead e ∙ alive;
  first = ap (first parts) e ∙ f;
}

-- each turn of a run is taken in it
pub run-taken : (n : ℕ) (parts : List Placed) (d : Domains) → AreSound n parts → Each (IsTakenIn parts d) (run parts d)
run-taken n parts d sound = run-induction n parts (λ b ts e. Each (IsTakenIn parts b) ts) sound (record {
  dead = λ b e. tt;
  quiet = λ b e f. tt;
  clash = λ b t e f g. (taken_in parts b t e f, tt);
  atom = λ b t a ts e alive f g h. (taken_in parts b t alive f, wider parts b (cut b a) ts (IsWithin-cut b a) h);
}) d

same_clash : (i j : PartId) → ◌≡◌ {A = Turn} (Clash i) (Clash j) → i ≡ j
same_clash i j e = cc

-- where a run ends in a clash, that is its last turn
pub end-clashes : (n : ℕ) (parts : List Placed) (d : Domains) (id : PartId) → AreSound n parts → run_end parts d ≡ Clash id
    → (front : List Taken) × (t : Taken) × (run parts d ≡ front ++ t ∷ []) × (t.found ≡ Clashes) × (t.part.id ≡ id)
end-clashes n parts d id sound = run-induction n parts
    (λ b ts e. e ≡ Clash id → (front : List Taken) × (t : Taken) × (ts ≡ front ++ t ∷ []) × (t.found ≡ Clashes) × (t.part.id ≡ id)) sound (record {
      dead = λ b e h. (cc);
      quiet = λ b e f h. (cc);
      clash = λ b t e f g h. ([], t, refl, g, same_clash t.part.id id h);
      atom = λ b t a ts e alive f g h k. let r = h k in (t ∷ r.0, r.1, ap (λ us. t ∷ us) r.2, r.3, r.4);
    }) d

-- where no turn of a run clashes, it ends Quiet or Empty
pub end-no_clash : (n : ℕ) (parts : List Placed) (d : Domains) → AreSound n parts → Each (λ t. t.found ≡ Clashes → ⊥) (run parts d) → (id : PartId) → run_end parts d ≡ Clash id → ⊥
end-no_clash n parts d sound = run-induction n parts
    (λ b ts e. Each (λ t. t.found ≡ Clashes → ⊥) ts → (id : PartId) → e ≡ Clash id → ⊥) sound (record {
      dead = λ b e h id k. (cc);
      quiet = λ b e f h id k. (cc);
      clash = λ b t e f g h id k. h.0 g;
      atom = λ b t a ts e alive f g h k. h k.1;
    }) d
