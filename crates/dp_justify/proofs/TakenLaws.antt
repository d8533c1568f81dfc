-- The turns of a run: each has an explanation, is a reason at the initial state, and takes out what has to be gone later.
use Rattle.std.proofs.Common.{◌≡◌, ℕ, ◌<◌, Bool, true, false, not, ◌&&◌, ◌==◌, Option, Some, if◌then◌else◌, List, [], ◌∷◌, length, map, ℤ, refl, sym, ◌∙◌, ap, subst, inl, inr}
use Rattle.std.proofs.lemmas.Bool.{false≢true, both_ways, cases_Bool, eqb-true, eq-eqb, and_from, and_parts, or_cases, not_from_false, not-true}
use Rattle.dp_base.specs.Lists.{Among, Each}
use Rattle.dp_base.proofs.Lists.{Each-among, list_any-some, list_any-none}
use Rattle.dp_domain.specs.Atoms.{Atomic, meets}
use Rattle.dp_domain.specs.Explanations.{Explains, IsOpen, description, explanation, has, suffices}
use Rattle.dp_domain.specs.Faces.{Face}
use Rattle.dp_domain.specs.States.{Domains, IsWithin, cut, entails, fails_one, is_dead, values}
use Rattle.dp_domain.specs.Turns.{IsTurn}
use Rattle.dp_domain.specs.declared.found.Found.{Found}
use Rattle.dp_domain.specs.declared.found.Found.TheVariants.{Clash, Atom}
use Rattle.dp_domain.proofs.ExplanationLaws.{explanation-explains}
use Rattle.dp_domain.proofs.StateLaws.{Among-cut_all, IsWithin-cut, IsWithin-trans, entails-at}
use Rattle.dp_domain.proofs.TurnLaws.{gives-parts}
use Rattle.dp_engine.specs.Placed.{AreSound, IsSound, Placed}
use Rattle.dp_engine.specs.Runs.{run, run_end}
use Rattle.dp_engine.specs.Turns.{Taken, first}
use Rattle.dp_engine.specs.declared.part_id.PartId.{PartId}
use Rattle.dp_engine.specs.declared.turn.Turn.{Turn}
use Rattle.dp_engine.specs.declared.turn.Turn.TheVariants.{Clash as Clashed, Quiet, Empty}
use Rattle.dp_engine.proofs.RunLaws.{run-induction}
use Rattle.dp_engine.proofs.TurnLaws.{first-among, first-before, first-turn}
use Rattle.dp_justify.proofs.NarrowLaws.{IsNarrowed, narrowed-cut, narrowed-describes}
use Rattle.dp_justify.specs.Explaining.{IsExplainable}
use Rattle.dp_justify.specs.Keeping.{Explained, before_kept, is_kept, left, takes_one, target_of}
use Rattle.dp_justify.specs.Pairs.{Pairs, excluded, excludes}
use Rattle.dp_justify.specs.Pieces.{explained}
use Rattle.dp_justify.specs.Replay.{EndsInClash, Lacks}

-- ---- explanations

open_at : (face : Face) (d : Domains) (f : Found) → IsTurn face d (Some f) → IsOpen d (target_of f)
open_at face d Clash turn = tt
open_at face d (Atom a) turn = (gives-parts face d a turn.1.candidate.given).0

clash_at : (face : Face) (d : Domains) (f : Found) → IsTurn face d (Some f) → suffices face d (target_of f) [] ≡ true
clash_at face d Clash turn = turn
clash_at face d (Atom a) turn = (gives-parts face d a turn.1.candidate.given).1

-- the first turn of sound parts has an explanation
pub first-explainable : (initial d : Domains) (parts : List Placed) (t : Taken) → AreSound (length initial) parts → IsWithin d initial → is_dead d ≡ false → first parts d ≡ Some t
    → IsExplainable t.part.face initial d (target_of t.found)
first-explainable initial d parts t sound within alive e =
    let part : IsSound (length initial) t.part = Each-among (IsSound (length initial)) parts sound t.part (first-among parts d t e) in
    let turn : IsTurn t.part.face d (Some t.found) = first-turn (length initial) parts d t sound alive e in
    record {
      lawful = part.lawful;
      covers = subst (λ (n : ℕ). Each (λ x. x < n) t.part.face.scope) (sym within.count) part.covered;
      alive = alive;
      within = within;
      new = open_at t.part.face d t.found turn;
      clash = clash_at t.part.face d t.found turn;
    }

-- and that explanation says what it is for
pub explainable-explains : (face : Face) (initial d : Domains) (target : Option Atomic) → IsNarrowed d initial → IsExplainable face initial d target
    → Explains face initial d target (explanation face initial d target)
explainable-explains face initial d target narrowed h =
    explanation-explains face initial d target (description initial d face.scope) h.lawful h.covers h.alive h.within h.new h.clash
    (narrowed-describes initial d face.scope h.covers h.alive h.within narrowed)

-- ---- the start of a run lacks what is left

-- a state has none of the pairs that atoms exclude which it entails
lacks_excluded : (base d : Domains) (atoms : List Atomic) → Each (λ a. entails d a ≡ true) atoms → Lacks d (excluded base atoms)
lacks_excluded base d atoms holds x v e here =
    let some = list_any-some (λ a. (a.var == x) && not (meets a v)) atoms (and_parts (has (values base x) v) (fails_one x atoms v) e).1 in
    let a : Atomic = some.0 in
    let so = and_parts (a.var == x) (not (meets a v)) some.2 in
    both_ways (meets a v) (not-true (meets a v) so.1)
    (entails-at d a v (Each-among (λ b. entails d b ≡ true) atoms holds a some.1) (subst (λ (y : ℕ). Among v (values d y)) (sym (eqb-true a.var x so.0)) here))

-- a pair of the state that the atom does not exclude is one of the state that it cuts
pub stays_in_cut : (d : Domains) (a : Atomic) (x : ℕ) (v : ℤ) → Among v (values d x) → excludes a x v ≡ false → Among v (values (cut d a) x)
stays_in_cut d a x v here stays = Among-cut_all d a x v here (λ on. elim (cases_Bool (meets a v)) [
  | inl m ↦ m
  | inr f ↦ absurd (both_ways (excludes a x v) stays (and_from (a.var == x) (not (meets a v)) (eq-eqb a.var x (sym on)) (not_from_false (meets a v) f)))
])

-- a kept atom
lacks_before_kept : (base d : Domains) (later : Pairs) (a : Atomic) (premises : List Atomic) → Each (λ b. entails d b ≡ true) premises → Lacks (cut d a) later
    → Lacks d (before_kept base later (Atom a) premises)
lacks_before_kept base d later a premises holds lacks x v e here = elim (or_cases (later x v && not (excludes a x v)) (excluded base premises x v) e) [
  | inl n ↦
      let so = and_parts (later x v) (not (excludes a x v)) n in
      lacks x v so.0 (stays_in_cut d a x v here (not-true (excludes a x v) so.1))
  | inr n ↦ lacks_excluded base d premises holds x v n here
]

-- an atom that is not kept excludes nothing that has to be gone and is there
lacks_before_passed : (d : Domains) (later : Pairs) (a : Atomic) → takes_one later d a ≡ false → Lacks (cut d a) later → Lacks d later
lacks_before_passed d later a passes lacks x v e here = elim (cases_Bool (excludes a x v)) [
  | inl out ↦
      let so = and_parts (a.var == x) (not (meets a v)) out in
      let on : x ≡ a.var = sym (eqb-true a.var x so.0) in
      both_ways (later a.var v && not (meets a v))
      (list_any-none (λ w. later a.var w && not (meets a w)) (values d a.var) v passes (subst (λ (y : ℕ). Among v (values d y)) on here))
      (and_from (later a.var v) (not (meets a v)) (ap (λ (y : ℕ). later y v) (sym on) ∙ e) so.1)
  | inr stays ↦ lacks x v e (stays_in_cut d a x v here stays)
]

choose : (d : Domains) (p q : Pairs) (b : Bool) → (b ≡ true → Lacks d p) → (b ≡ false → Lacks d q) → Lacks d (λ x v. if b then p x v else q x v)
choose d p q true f g = f refl
choose d p q false f g = g refl

lacks_nothing : (initial d : Domains) → Lacks d (left initial [])
lacks_nothing initial d x v e = absurd (false≢true e)

-- before a clash, which is the last
lacks_clash : (base : Domains) (e : Explained) → e.turn.found ≡ Clash → Each (λ b. entails e.turn.before b ≡ true) e.premises → Lacks e.turn.before (left base (e ∷ []))
lacks_clash base e k holds =
    choose e.turn.before (before_kept base (left base []) e.turn.found e.premises) (left base []) (is_kept (left base []) e.turn.before e.turn.found)
    (λ keeps. subst (λ (f : Found). Lacks e.turn.before (before_kept base (left base []) f e.premises)) (sym k) (lacks_excluded base e.turn.before e.premises holds))
    (λ passes. lacks_nothing base e.turn.before)

-- before an atom
lacks_atom : (base : Domains) (e : Explained) (es : List Explained) (a : Atomic) → e.turn.found ≡ Atom a → Each (λ b. entails e.turn.before b ≡ true) e.premises
    → Lacks (cut e.turn.before a) (left base es) → Lacks e.turn.before (left base (e ∷ es))
lacks_atom base e es a k holds lacks =
    choose e.turn.before (before_kept base (left base es) e.turn.found e.premises) (left base es) (is_kept (left base es) e.turn.before e.turn.found)
    (λ keeps. subst (λ (f : Found). Lacks e.turn.before (before_kept base (left base es) f e.premises)) (sym k) (lacks_before_kept base e.turn.before (left base es) a e.premises holds lacks))
    (λ passes. lacks_before_passed e.turn.before (left base es) a (sym (ap (is_kept (left base es) e.turn.before) k) ∙ passes) lacks)

-- ---- runs

-- what holds of the turns of a run that starts within the initial state
pub record AreTaken (initial d : Domains) (ts : List Taken) : Type 0 where
  pub explainable : Each (λ t. IsExplainable t.part.face initial t.before (target_of t.found)) ts
  pub explains : Each (λ t. Explains t.part.face initial t.before (target_of t.found) (explanation t.part.face initial t.before (target_of t.found))) ts
  pub lacks : Lacks d (left initial (map (explained initial) ts))

-- the premises of what is kept
abbrev IsGood : Domains → Domains → List Taken → Type 0
IsGood initial d ts = IsWithin d initial → IsNarrowed d initial → AreTaken initial d ts

no_turns : (initial d : Domains) → AreTaken initial d []
no_turns initial d = record { explainable = tt; explains = tt; lacks = lacks_nothing initial d }

-- one turn more
abbrev IsExplained : Domains → Taken → Type 0
IsExplained initial t = Explains t.part.face initial t.before (target_of t.found) (explanation t.part.face initial t.before (target_of t.found))

found_here : (initial d : Domains) (parts : List Placed) (t : Taken) → AreSound (length initial) parts → IsWithin d initial → is_dead d ≡ false → first parts d ≡ Some t
    → IsExplainable t.part.face initial t.before (target_of t.found)
found_here initial d parts t sound within alive e =
    subst (λ (b : Domains). IsExplainable t.part.face initial b (target_of t.found)) (sym (first-before parts d t e)) (first-explainable initial d parts t sound within alive e)

explained_here : (initial d : Domains) (parts : List Placed) (t : Taken) → AreSound (length initial) parts → IsNarrowed d initial → IsWithin d initial → is_dead d ≡ false → first parts d ≡ Some t
    → IsExplained initial t
explained_here initial d parts t sound narrowed within alive e =
    explainable-explains t.part.face initial t.before (target_of t.found) (subst (λ (b : Domains). IsNarrowed b initial) (sym (first-before parts d t e)) narrowed)
    (found_here initial d parts t sound within alive e)

at_clash : (initial d : Domains) (parts : List Placed) (t : Taken) → AreSound (length initial) parts → is_dead d ≡ false → first parts d ≡ Some t → t.found ≡ Clash → IsGood initial d (t ∷ [])
at_clash initial d parts t sound alive e k within q =
    let so : IsExplained initial t = explained_here initial d parts t sound q within alive e in
    record {
      explainable = (found_here initial d parts t sound within alive e, tt);
      explains = (so, tt);
      lacks = subst (λ (b : Domains). Lacks b (left initial (explained initial t ∷ []))) (first-before parts d t e) (lacks_clash initial (explained initial t) k so.entailed);
    }

at_atom : (initial d : Domains) (parts : List Placed) (t : Taken) (a : Atomic) (ts : List Taken) → AreSound (length initial) parts → is_dead d ≡ false → first parts d ≡ Some t → t.found ≡ Atom a
    → IsGood initial (cut d a) ts → IsGood initial d (t ∷ ts)
at_atom initial d parts t a ts sound alive e k later within q =
    let so : IsExplained initial t = explained_here initial d parts t sound q within alive e in
    let rest : AreTaken initial (cut d a) ts = later (IsWithin-trans initial d (cut d a) (IsWithin-cut d a) within) (narrowed-cut initial d a q) in
    let same : t.before ≡ d = first-before parts d t e in
    record {
      explainable = (found_here initial d parts t sound within alive e, rest.explainable);
      explains = (so, rest.explains);
      lacks = subst (λ (b : Domains). Lacks b (left initial (explained initial t ∷ map (explained initial) ts))) same
          (lacks_atom initial (explained initial t) (map (explained initial) ts) a k so.entailed
          (subst (λ (b : Domains). Lacks (cut b a) (left initial (map (explained initial) ts))) (sym same) rest.lacks));
    }

-- the turns of a run from a state within the initial one have explanations, and the state lacks what is left
pub run-good : (initial d : Domains) (parts : List Placed) → AreSound (length initial) parts → IsNarrowed d initial → IsWithin d initial → AreTaken initial d (run parts d)
run-good initial d parts sound q within =
    run-induction (length initial) parts (λ b ts e. IsGood initial b ts) sound (record {
      dead = λ b e w r. no_turns initial b;
      quiet = λ b alive e w r. no_turns initial b;
      clash = λ b t alive e k. at_clash initial b parts t sound alive e k;
      atom = λ b t a ts end alive e k h. at_atom initial b parts t a ts sound alive e k h;
    }) d within q

-- ---- the end

quiet_is_clash : (id : PartId) → ◌≡◌ {A = Turn} Quiet (Clashed id) → ⊥
quiet_is_clash id e = cc

empty_is_clash : (id : PartId) → ◌≡◌ {A = Turn} Empty (Clashed id) → ⊥
empty_is_clash id e = cc

ends_more : (initial : Domains) (t : Taken) (es : List Explained) → EndsInClash es → EndsInClash (explained initial t ∷ es)
ends_more initial t [] ends = absurd ends
ends_more initial t (e ∷ es) ends = ends

-- the turns of a run that ends in a clash end in it
pub run-ends : (initial d : Domains) (parts : List Placed) (id : PartId) → AreSound (length initial) parts → run_end parts d ≡ Clashed id → EndsInClash (map (explained initial) (run parts d))
run-ends initial d parts id sound =
    run-induction (length initial) parts (λ b ts e. e ≡ Clashed id → EndsInClash (map (explained initial) ts)) sound (record {
      dead = λ b e h. absurd (empty_is_clash id h);
      quiet = λ b alive e h. absurd (quiet_is_clash id h);
      clash = λ b t alive e k h. k;
      atom = λ b t a ts end alive e k h g. ends_more initial t (map (explained initial) ts) (h g);
    }) d
