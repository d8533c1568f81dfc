-- States at rest: a run from a state around one keeps all of its values, and ends at rest.
use Rattle.std.proofs.Common.{◌≡◌, ℕ, ◌<◌, true, false, cond, ◌⊎◌, List, [], ◌∷◌, ◌++◌, length, Option, Some, None, refl, sym, ◌∙◌, ap, subst, inl, inr}
use Rattle.std.proofs.lemmas.Bool.{and_parts, both_ways, cases_Bool}
use Rattle.dp_base.specs.Lists.{Among, Each}
use Rattle.dp_base.proofs.Lists.{Among-append_left, Among-append_right, Each-among, list_all-at, list_all-from}
use Rattle.dp_domain.specs.Atoms.{Atomic, negated}
use Rattle.dp_domain.specs.Faces.{Covers}
use Rattle.dp_domain.specs.States.{Domains, IsWithin, cut, cut_all, entails, entails_all, is_dead}
use Rattle.dp_domain.specs.Turns.{IsCandidate, IsTurn}
use Rattle.dp_domain.specs.declared.found.Found.{Found}
use Rattle.dp_domain.specs.declared.found.Found.TheVariants.{Clash as Clashes, Atom as Gives}
use Rattle.dp_domain.proofs.StateLaws.{IsWithin-cut_both, IsWithin-into_cut, entails-within, entails_all-within, length-cut}
use Rattle.dp_domain.proofs.TurnLaws.{gives-from, gives-parts}
use Rattle.dp_engine.specs.declared.part_id.PartId.{PartId}
use Rattle.dp_engine.specs.declared.turn.Turn.{Turn}
use Rattle.dp_engine.specs.declared.turn.Turn.TheVariants.{Atom, Clash, Quiet, Empty}
use Rattle.dp_engine.specs.Placed.{AreSound, IsSound, Placed}
use Rattle.dp_engine.specs.Runs.{IsEnd, fails, is_failure, run, run_end, state_after}
use Rattle.dp_engine.specs.Turns.{IsGiven, IsTurnAt, Taken, after, first, told, told_or_quiet, turn_at}
use Rattle.dp_engine.proofs.FailureLaws.{failure-stays, run-within}
use Rattle.dp_engine.proofs.RunLaws.{end-is, end-quiet, run-induction, run-quiet, turn-dead, turn-told}
use Rattle.dp_engine.proofs.TurnLaws.{first-before, turn_at-is}
use Rattle.dp_learning.specs.Learning.{IsAtRest}

-- ---- what entails atoms

-- a smaller state entails what the larger entails
pub fewer-entailed : (d e : Domains) (a : Atomic) → IsWithin e d → entails d a ≡ true → entails e a ≡ true
fewer-entailed d e a w t = entails-within d e a w t

-- the same of several atoms
pub fewer-entailed_all : (d e : Domains) (atoms : List Atomic) → IsWithin e d → entails_all d atoms ≡ true → entails_all e atoms ≡ true
fewer-entailed_all d e atoms w t = entails_all-within d e atoms w t

-- what entails atoms entails each list of some of them
pub entailed-some : (d : Domains) (some all : List Atomic) → ((a : Atomic) → Among a some → Among a all) → entails_all d all ≡ true → entails_all d some ≡ true
entailed-some d some all each t = list_all-from (entails d) some (λ a h. list_all-at (entails d) all a t (each a h))

-- what entails two lists of atoms together entails both
pub entailed-parts : (d : Domains) (before after : List Atomic) → entails_all d (before ++ after) ≡ true → (entails_all d before ≡ true) × (entails_all d after ≡ true)
entailed-parts d before after t =
    (entailed-some d before (before ++ after) (λ a h. Among-append_left a before after h) t, entailed-some d after (before ++ after) (λ a h. Among-append_right a before after h) t)

-- a state that entails an atom stays within a cut by it
pub cut-keeps : (d e : Domains) (a : Atomic) → IsWithin e d → entails e a ≡ true → IsWithin e (cut d a)
cut-keeps d e a w t = IsWithin-into_cut d e a w t

-- a state that entails each of the atoms stays within the cut by all
pub cuts-keep : (d e : Domains) (atoms : List Atomic) → IsWithin e d → entails_all e atoms ≡ true → IsWithin e (cut_all d atoms)
cuts-keep d e [] w t = w
cuts-keep d e (a ∷ atoms) w t =
    let r = and_parts (entails e a) (entails_all e atoms) t in cuts-keep (cut d a) e atoms (cut-keeps d e a w r.0) r.1

-- ---- a state at rest

quiet_empty : ◌≡◌ {A = Turn} Quiet Empty → ⊥
quiet_empty e = cc

clash_quiet : (id : PartId) → ◌≡◌ {A = Turn} (Clash id) Quiet → ⊥
clash_quiet id e = cc

atom_quiet : (id : PartId) (a : Atomic) → ◌≡◌ {A = Turn} (Atom id a) Quiet → ⊥
atom_quiet id a e = cc

told_quiet : (id : PartId) (f : Found) → told id f ≡ Quiet → ⊥
told_quiet id Clashes e = clash_quiet id e
told_quiet id (Gives a) e = atom_quiet id a e

none_told : (o : Option Taken) → told_or_quiet o ≡ Quiet → o ≡ None
none_told None e = refl
none_told (Some t) e = absurd (told_quiet t.part.id t.found e)

-- it has a value left for each variable
pub at-rest-alive : (parts : List Placed) (d : Domains) → IsAtRest parts d → is_dead d ≡ false
at-rest-alive parts d rest = elim (cases_Bool (is_dead d)) [
  | inl e ↦ absurd (quiet_empty (sym rest ∙ turn-dead parts d e))
  | inr e ↦ e
]

-- no part has a turn there
pub at-rest-quiet : (n : ℕ) (parts : List Placed) (d : Domains) → AreSound n parts → IsAtRest parts d → Each (λ (q : Placed). IsTurn q.face d None) parts
at-rest-quiet n parts d sound rest =
    let r : (is_dead d ≡ false) × Each (λ (q : Placed). IsTurn q.face d None) parts = subst (IsTurnAt parts d) rest (turn_at-is n parts d sound) in r.1

-- nor is one taken first
pub at-rest-first : (parts : List Placed) (d : Domains) → IsAtRest parts d → first parts d ≡ None
at-rest-first parts d rest =
    none_told (first parts d) (sym (ap (λ b. cond b Empty (told_or_quiet (first parts d))) (at-rest-alive parts d rest)) ∙ rest)

-- a run from it has no turn
pub at-rest-run : (parts : List Placed) (d : Domains) → IsAtRest parts d → run parts d ≡ []
at-rest-run parts d rest = run-quiet parts d (at-rest-alive parts d rest) (at-rest-first parts d rest)

-- and ends Quiet
pub at-rest-end : (parts : List Placed) (d : Domains) → IsAtRest parts d → run_end parts d ≡ Quiet
at-rest-end parts d rest = end-quiet parts d (at-rest-alive parts d rest) (at-rest-first parts d rest)

-- a run that ends Quiet leaves a state at rest
pub run-rests : (parts : List Placed) (d : Domains) → run_end parts d ≡ Quiet → IsAtRest parts (state_after d (run parts d))
run-rests parts d e = e

-- ---- turns and runs around a state at rest

covers_at : (n : ℕ) (q : Placed) (d : Domains) → IsSound n q → length d ≡ n → Covers q.face.scope d
covers_at n q d s l = subst (λ m. Each (λ x. x < m) q.face.scope) (sym l) s.covered

clash_below : (n : ℕ) (q : Placed) (d e : Domains) → IsSound n q → length d ≡ n → IsWithin e d → q.face.test d ≡ true → IsTurn q.face e None → ⊥
clash_below n q d e s l w t none = both_ways (q.face.test e) none.0 (s.lawful.monotone d e (covers_at n q d s l) w t)

entailed_below : (n : ℕ) (q : Placed) (d e : Domains) (a : Atomic) → IsSound n q → length d ≡ n → IsWithin e d → IsCandidate q.face d a → IsTurn q.face e None → entails e a ≡ true
entailed_below n q d e a s l w k none = elim (cases_Bool (entails e a)) [
  | inl t ↦ t
  | inr f ↦ absurd (none.1 a (record {
    of_scope = k.of_scope;
    permitted = k.permitted;
    given = gives-from q.face e a f
        (s.lawful.monotone (cut d (negated a)) (cut e (negated a)) (covers_at n q (cut d (negated a)) s (length-cut d (negated a) ∙ l)) (IsWithin-cut_both d e (negated a) w) (gives-parts q.face d a k.given).1);
  }))
]

given_at : (n : ℕ) (parts : List Placed) (d : Domains) (id : PartId) (f : Found) → AreSound n parts → turn_at parts d ≡ told id f → IsTurnAt parts d (told id f)
given_at n parts d id f sound t = subst (IsTurnAt parts d) t (turn_at-is n parts d sound)

among_given : (parts : List Placed) (d : Domains) (id : PartId) (f : Found) (g : IsGiven parts d id f) → Among g.part parts
among_given parts d id f g = subst (Among g.part) (sym g.order) (Among-append_right g.part g.earlier (g.part ∷ g.later) (inl refl))

quiet_part : (n : ℕ) (parts : List Placed) (e : Domains) (q : Placed) → AreSound n parts → IsAtRest parts e → Among q parts → IsTurn q.face e None
quiet_part n parts e q sound rest m = Each-among (λ (r : Placed). IsTurn r.face e None) parts (at-rest-quiet n parts e sound rest) q m

-- a state at rest within this one entails the atom of the turn here
pub step-entailed : (n : ℕ) (parts : List Placed) (d e : Domains) (id : PartId) (a : Atomic) → AreSound n parts → length d ≡ n → turn_at parts d ≡ Atom id a → IsAtRest parts e → IsWithin e d → entails e a ≡ true
step-entailed n parts d e id a sound l t rest w =
    let g : IsGiven parts d id (Gives a) = given_at n parts d id (Gives a) sound t in
    let m : Among g.part parts = among_given parts d id (Gives a) g in
    entailed_below n g.part d e a (Each-among (IsSound n) parts sound g.part m) l w g.turn.1.candidate (quiet_part n parts e g.part sound rest m)

-- so the turn keeps it
pub step-keeps : (n : ℕ) (parts : List Placed) (d e : Domains) (id : PartId) (a : Atomic) → AreSound n parts → length d ≡ n → turn_at parts d ≡ Atom id a → IsAtRest parts e → IsWithin e d → IsWithin e (cut d a)
step-keeps n parts d e id a sound l t rest w = cut-keeps d e a w (step-entailed n parts d e id a sound l t rest w)

-- around a state at rest no part clashes
pub step-no_clash : (n : ℕ) (parts : List Placed) (d e : Domains) (id : PartId) → AreSound n parts → length d ≡ n → turn_at parts d ≡ Clash id → IsAtRest parts e → IsWithin e d → ⊥
step-no_clash n parts d e id sound l t rest w =
    let g : IsGiven parts d id Clashes = given_at n parts d id Clashes sound t in
    let m : Among g.part parts = among_given parts d id Clashes g in
    clash_below n g.part d e (Each-among (IsSound n) parts sound g.part m) l w g.turn (quiet_part n parts e g.part sound rest m)

-- a state at rest within the start of a run stays within what the run leaves
pub rest-kept : (n : ℕ) (parts : List Placed) (d e : Domains) → AreSound n parts → length d ≡ n → IsAtRest parts e → IsWithin e d → IsWithin e (state_after d (run parts d))
rest-kept n parts d e sound l rest w = run-induction n parts (λ b ts end. length b ≡ n → IsWithin e b → IsWithin e (state_after b ts)) sound (record {
  dead = λ b k m v. v;
  quiet = λ b k f m v. v;
  clash = λ b t k f g m v. subst (λ c. IsWithin e c) (sym (ap (λ h. after t.before h) g ∙ first-before parts b t f)) v;
  atom = λ b t a ts end k f g h m v.
      subst (λ c. IsWithin e (state_after c ts)) (sym (ap (λ x. after t.before x) g ∙ ap (λ (c : Domains). cut c a) (first-before parts b t f)))
      (h (length-cut b a ∙ m) (step-keeps n parts b e t.part.id a sound m (turn-told parts b t (Gives a) k f g) rest v));
}) d l w

end_cases : (t : Turn) → IsEnd t → (is_failure t ≡ true) ⊎ (t ≡ Quiet)
end_cases (Atom id a) h = absurd h
end_cases (Clash id) h = inl refl
end_cases Quiet h = inr refl
end_cases Empty h = inl refl

-- a run fails, or ends Quiet
pub fails-or_rests : (n : ℕ) (parts : List Placed) (d : Domains) → AreSound n parts → (fails parts d ≡ true) ⊎ (run_end parts d ≡ Quiet)
fails-or_rests n parts d sound = end_cases (run_end parts d) (end-is n parts d sound)

-- from around a state at rest a run ends Quiet
pub rest-survives : (n : ℕ) (parts : List Placed) (d e : Domains) → AreSound n parts → length d ≡ n → IsAtRest parts e → IsWithin e d → run_end parts d ≡ Quiet
rest-survives n parts d e sound l rest w = elim (fails-or_rests n parts d sound) [
  | inl f ↦ absurd (both_ways (fails parts e) (ap is_failure (at-rest-end parts e rest)) (failure-stays n parts parts d e sound sound (λ q m. m) l w f))
  | inr q ↦ q
]

-- so it does not fail
pub rest-no_failure : (n : ℕ) (parts : List Placed) (d e : Domains) → AreSound n parts → length d ≡ n → IsAtRest parts e → IsWithin e d → fails parts d ≡ false
rest-no_failure n parts d e sound l rest w = ap is_failure (rest-survives n parts d e sound l rest w)

-- a run fails where propagation rests at no state within its start
pub none-fails : (n : ℕ) (parts : List Placed) (d : Domains) → AreSound n parts → length d ≡ n → ((e : Domains) → IsAtRest parts e → IsWithin e d → ⊥) → fails parts d ≡ true
none-fails n parts d sound l none = elim (fails-or_rests n parts d sound) [
  | inl f ↦ f
  | inr q ↦ absurd (none (state_after d (run parts d)) q (run-within n parts d sound))
]
