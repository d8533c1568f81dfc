-- The justification of a nogood: its run's turns are explained, its steps hold, and they prove it.
use Rattle.std.proofs.Common.{◌≡◌, ℕ, ◌<◌, ◌≤◌, Bool, true, false, Some, cond, List, [], ◌∷◌, length, get_or, map, take, ◌⊎◌, refl, sym, ◌∙◌, ap, subst, inl, inr, arith}
use Rattle.std.proofs.lemmas.Bool.{cases_Bool}
use Rattle.std.proofs.lemmas.List.{get_or_default}
use Rattle.dp_base.specs.Lists.{Each}
use Rattle.dp_base.proofs.Lists.{Each-append, Each-weaker}
use Rattle.dp_domain.specs.Atoms.{Atomic}
use Rattle.dp_domain.specs.Explanations.{Explains, explanation, failing}
use Rattle.dp_domain.specs.Faces.{Face}
use Rattle.dp_domain.specs.States.{AreOf, Domains, IsWithin, cut_all, is_dead}
use Rattle.dp_domain.specs.declared.found.Found.{Found}
use Rattle.dp_domain.specs.declared.found.Found.TheVariants.{Clash, Atom}
use Rattle.dp_domain.proofs.ExplanationLaws.{failing-of}
use Rattle.dp_domain.proofs.StateLaws.{IsWithin-cut_all}
use Rattle.dp_engine.specs.Engines.{KeepsParts, Propagation, Starts, parts_of}
use Rattle.dp_engine.specs.Placed.{AreSound, Placed, face_at, turn_order}
use Rattle.dp_engine.specs.Runs.{IsEnd, IsTakenIn, run, run_end}
use Rattle.dp_engine.specs.Turns.{Taken}
use Rattle.dp_engine.specs.declared.part_id.PartId.{PartId}
use Rattle.dp_engine.specs.declared.turn.Turn.{Turn}
use Rattle.dp_engine.specs.declared.turn.Turn.TheVariants.{Atom as Gave, Clash as Clashed, Quiet, Empty}
use Rattle.dp_engine.proofs.PlacedLaws.{placed-face, problem-sound}
use Rattle.dp_engine.proofs.RunLaws.{end-empty, end-is, run-taken}
use Rattle.dp_engine.proofs.StateSteps.{Each-take}
use Rattle.dp_engine.proofs.TurnLaws.{first-among}
use Rattle.dp_parts.specs.Posed.{Posed}
use Rattle.dp_parts.specs.Problems.{Csp, IsProblem, posed}
use Rattle.dp_parts.specs.Rules.{proves}
use Rattle.dp_justify.specs.Explaining.{IsExplainable}
use Rattle.dp_justify.specs.Keeping.{Explained, is_kept, kept, left, target_of}
use Rattle.dp_justify.specs.Pieces.{answer_of, denial_of, end_of, explained, justification, kept_steps, nogood_at, parts_before, piece_of, start_of, step_of}
use Rattle.dp_justify.specs.Replay.{Holds, IsReason, SpeaksOf}
use Rattle.dp_justify.proofs.KeepLaws.{explanation-of}
use Rattle.dp_justify.specs.Taking.{IsRunTurn, SeenTurn, explained_of, face_or, found_of, seen, source_face}
use Rattle.dp_justify.specs.declared.kept.Kept.{Kept}
use Rattle.dp_justify.specs.declared.piece.Piece.{Piece}
use Rattle.dp_justify.proofs.NarrowLaws.{narrowed-cut_all, narrowed-refl}
use Rattle.dp_justify.proofs.ReplayLaws.{replays}
use Rattle.dp_justify.proofs.StepLaws.{nogood-before, step-holds}
use Rattle.dp_justify.proofs.TakenLaws.{AreTaken, run-ends, run-good}

-- ---- turns as they are seen

-- a turn's part stands at its place
abbrev pub Stands : Posed → List (List Atomic) → Taken → Type 0
Stands p nogoods t = face_at p nogoods t.part.id ≡ Some t.part.face

face_there : (p : Posed) (nogoods : List (List Atomic)) (t : Taken) → Stands p nogoods t → source_face p nogoods t.part.id ≡ t.part.face
face_there p nogoods t e = ap face_or e

-- such a turn is seen with what its explanation asks for
run_turn : (p : Posed) (nogoods : List (List Atomic)) (t : Taken) → Stands p nogoods t → IsExplainable t.part.face p.initial t.before (target_of t.found) → IsRunTurn p nogoods (seen t)
run_turn p nogoods t e h = record {
  stands = e ∙ ap Some (sym (face_there p nogoods t e));
  explainable = subst (λ (f : Face). IsExplainable f p.initial t.before (target_of t.found)) (sym (face_there p nogoods t e)) h;
}

pub run_turns_seen : (p : Posed) (nogoods : List (List Atomic)) (ts : List Taken) → Each (Stands p nogoods) ts → Each (λ t. IsExplainable t.part.face p.initial t.before (target_of t.found)) ts → Each (IsRunTurn p nogoods) (map seen ts)
run_turns_seen p nogoods [] e h = tt
run_turns_seen p nogoods (t ∷ ts) e h = (run_turn p nogoods t e.0 h.0, run_turns_seen p nogoods ts e.1 h.1)

found-target : (f : Found) → found_of (target_of f) ≡ f
found-target Clash = refl
found-target (Atom a) = refl

-- the turn with this face and this found, explained
abbrev explained_as : Posed → Taken → Face → Found → Explained
explained_as p t face found = record {
  turn = record { before = t.before; part = record { id = t.part.id; face = face }; found = found };
  premises = explanation face p.initial t.before (target_of t.found);
}

same_explained : (p : Posed) (nogoods : List (List Atomic)) (t : Taken) → Stands p nogoods t → explained_of p nogoods (seen t) ≡ explained p.initial t
same_explained p nogoods t e =
    ap (λ (face : Face). explained_as p t face (found_of (target_of t.found))) (face_there p nogoods t e)
    ∙ ap (explained_as p t t.part.face) (found-target t.found)

-- what is seen of turns is explained as they are
pub all_explained : (p : Posed) (nogoods : List (List Atomic)) (ts : List Taken) → Each (Stands p nogoods) ts → map (explained_of p nogoods) (map seen ts) ≡ map (explained p.initial) ts
all_explained p nogoods [] e = refl
all_explained p nogoods (t ∷ ts) e =
    ap (λ (x : Explained). x ∷ map (explained_of p nogoods) (map seen ts)) (same_explained p nogoods t e.0)
    ∙ ap (λ (es : List Explained). explained p.initial t ∷ es) (all_explained p nogoods ts e.1)

-- ---- what is kept is some of all

each_choice : (P : Explained → Type 0) (b : Bool) (e : Explained) (es : List Explained) → P e → Each P es → Each P (cond b (e ∷ es) es)
each_choice P true e es h k = (h, k)
each_choice P false e es h k = k

pub each_kept : (P : Explained → Type 0) (base : Domains) (es : List Explained) → Each P es → Each P (kept base es)
each_kept P base [] h = tt
each_kept P base (e ∷ es) h = each_choice P (is_kept (left base es) e.turn.before e.turn.found) e (kept base es) h.0 (each_kept P base es h.1)

each_mapped : {A B : Type 0} (P : B → Type 0) (f : A → B) (xs : List A) → Each (λ x. P (f x)) xs → Each P (map f xs)
each_mapped P f [] h = tt
each_mapped P f (x ∷ xs) h = (h.0, each_mapped P f xs h.1)

each_both : {A : Type 0} (P Q R : A → Type 0) (xs : List A) → ((x : A) → P x → Q x → R x) → Each P xs → Each Q xs → Each R xs
each_both P Q R [] f h k = tt
each_both P Q R (x ∷ xs) f h k = (f x h.0 k.0, each_both P Q R xs f h.1 k.1)

-- ---- the run of the nogood at a place

-- a problem, nogoods on its variables, and a place among them
pub record IsAsked (p : Csp) (nogoods : List (List Atomic)) (place : ℕ) : Type 0 where
  pub sound : IsProblem p
  pub below : Each (AreOf p.initial) nogoods
  pub within : place ≤ length nogoods

module _ (p : Csp) (nogoods : List (List Atomic)) (place : ℕ) (asked : IsAsked p nogoods place) where
  abbrev earlier : List (List Atomic)
  earlier = take place nogoods

  abbrev parts : List Placed
  parts = parts_before (posed p) nogoods place

  abbrev start : Domains
  start = start_of (posed p) nogoods place

  abbrev taken : List Taken
  taken = run parts start

  sound : AreSound (length p.initial) parts
  sound = problem-sound p earlier asked.sound (Each-take (AreOf p.initial) place nogoods asked.below)

  within : IsWithin start p.initial
  within = IsWithin-cut_all p.initial (nogood_at nogoods place)

  good : AreTaken p.initial start taken
  good = run-good p.initial start parts sound (narrowed-cut_all p.initial p.initial (nogood_at nogoods place) (narrowed-refl p.initial)) within

  stand : Each (Stands (posed p) earlier) taken
  stand = each_stands taken (run-taken (length p.initial) parts start sound)
    where
      each_stands : (ts : List Taken) → Each (IsTakenIn (parts_before (posed p) nogoods place) (start_of (posed p) nogoods place)) ts → Each (Stands (posed p) (take place nogoods)) ts
      each_stands [] h = tt
      each_stands (t ∷ ts) h = (placed-face (posed p) (take place nogoods) t.part (first-among (parts_before (posed p) nogoods place) t.before t h.0.first), each_stands ts h.1)

  -- its turns are seen with what their explanations ask for
  pub run-seen : Each (IsRunTurn (posed p) (take place nogoods)) (map seen (run (parts_before (posed p) nogoods place) (start_of (posed p) nogoods place)))
  run-seen = run_turns_seen (posed p) earlier taken stand good.explainable

  -- and so they are explained as they are
  pub run-explained : map step_of (kept p.initial (map (explained_of (posed p) (take place nogoods)) (map seen (run (parts_before (posed p) nogoods place) (start_of (posed p) nogoods place)))))
      ≡ kept_steps p.initial (run (parts_before (posed p) nogoods place) (start_of (posed p) nogoods place))
  run-explained = ap (λ (es : List Explained). map step_of (kept p.initial es)) (all_explained (posed p) earlier taken stand)

  abbrev IsGoodStep : Taken → Type 0
  IsGoodStep t = Holds (posed p) place (step_of (explained p.initial t))

  -- each kept step holds
  pub steps-hold : Each (Holds (posed p) place) (kept_steps p.initial (run (parts_before (posed p) nogoods place) (start_of (posed p) nogoods place)))
  steps-hold =
      each_mapped (Holds (posed p) place) step_of (kept p.initial (map (explained p.initial) taken))
      (each_kept (λ e. Holds (posed p) place (step_of e)) p.initial (map (explained p.initial) taken)
      (each_mapped (λ e. Holds (posed p) place (step_of e)) (explained p.initial) taken
      (each_both (Stands (posed p) earlier) (λ t. Explains t.part.face p.initial t.before (target_of t.found) (explanation t.part.face p.initial t.before (target_of t.found))) IsGoodStep taken
      (λ t e h. step-holds (posed p) nogoods place t.part.id t.part.face (explanation t.part.face p.initial t.before (target_of t.found)) (target_of t.found) asked.within e h.enough) stand good.explains)))

  speaks : (t : Taken) → IsExplainable t.part.face p.initial t.before (target_of t.found) → SpeaksOf p.initial (step_of (explained p.initial t))
  speaks t h = Each-append (λ (a : Atomic). a.var < length p.initial) (explanation t.part.face p.initial t.before (target_of t.found)) (failing (target_of t.found))
      (explanation-of t.part.face p.initial t.before (target_of t.found) h)
      (subst (λ (n : ℕ). Each (λ (a : Atomic). a.var < n) (failing (target_of t.found))) h.within.count (failing-of t.before (target_of t.found) h.new))

  -- and speaks of the problem's variables
  pub steps-speak : Each (SpeaksOf p.initial) (kept_steps p.initial (run (parts_before (posed p) nogoods place) (start_of (posed p) nogoods place)))
  steps-speak =
      each_mapped (SpeaksOf p.initial) step_of (kept p.initial (map (explained p.initial) taken))
      (each_kept (λ e. SpeaksOf p.initial (step_of e)) p.initial (map (explained p.initial) taken)
      (each_mapped (λ e. SpeaksOf p.initial (step_of e)) (explained p.initial) taken
      (Each-weaker (λ t. IsExplainable t.part.face p.initial t.before (target_of t.found)) (λ t. SpeaksOf p.initial (step_of (explained p.initial t))) speaks taken good.explainable)))

  reason : (t : Taken) → Stands (posed p) (take place nogoods) t → Explains t.part.face p.initial t.before (target_of t.found) (explanation t.part.face p.initial t.before (target_of t.found)) → IsReason p.initial nogoods (explained p.initial t)
  reason t e h = record {
    enough = h.enough;
    nogood = λ j k. (nogood-before (posed p) nogoods place j t.part.face asked.within (ap (face_at (posed p) (take place nogoods)) (sym k) ∙ e)).1;
  }

  -- the kept steps of a run that ends in a clash prove the nogood
  pub steps-prove : (id : PartId) → end_of (posed p) nogoods place ≡ Clashed id
      → proves (start_of (posed p) nogoods place) (map (denial_of nogoods) (kept_steps p.initial (run (parts_before (posed p) nogoods place) (start_of (posed p) nogoods place)))) ≡ true
  steps-prove id e =
      replays p.initial start nogoods (map (explained p.initial) taken) (run-ends p.initial start parts id sound e)
      (each_mapped (IsReason p.initial nogoods) (explained p.initial) taken
      (each_both (Stands (posed p) earlier) (λ t. Explains t.part.face p.initial t.before (target_of t.found) (explanation t.part.face p.initial t.before (target_of t.found)))
      (λ t. IsReason p.initial nogoods (explained p.initial t)) taken reason stand good.explains))
      within good.lacks

  -- a run that ends Empty starts at a state that proves it at once
  pub empty-proves : end_of (posed p) nogoods place ≡ Empty → proves (start_of (posed p) nogoods place) [] ≡ true
  empty-proves e = elim (cases_Bool (is_dead start)) [
    | inl dead ↦ dead
    | inr alive ↦ absurd (end-empty (length p.initial) parts start sound alive e)
  ]

  -- and no run ends with an atom
  pub no-atom : (id : PartId) (a : Atomic) → end_of (posed p) nogoods place ≡ Gave id a → ⊥
  no-atom id a e = subst IsEnd e (end-is (length p.initial) parts start sound)

-- ---- the engine

-- the engine has the parts of the nogood's run, and stands where it starts
pub record IsPrepared (p : Csp) (nogoods : List (List Atomic)) (place : ℕ) (e : Propagation) : Type 0 where
  pub parts : parts_of e ≡ parts_before (posed p) nogoods place
  pub present : e.present ≡ start_of (posed p) nogoods place

pub prepared : (p : Csp) (nogoods : List (List Atomic)) (place : ℕ) (before : List (List Atomic)) (first e : Propagation) (atoms nogood : List Atomic)
    → place < length nogoods → before ≡ take place nogoods → Starts p before first → KeepsParts first e → e.present ≡ cut_all first.present atoms → atoms ≡ nogood → nogood ≡ get_or nogoods place nogood
    → IsPrepared p nogoods place e
prepared p nogoods place before first e atoms nogood below h s k f g m = record {
  parts = ap (λ (q : Csp). turn_order (posed q) e.nogoods) (k.problem ∙ s.problem) ∙ ap (λ (ns : List (List Atomic)). turn_order (posed p) ns) (k.nogoods ∙ s.nogoods ∙ h);
  present = f ∙ ap (λ (d : Domains). cut_all d atoms) s.present ∙ ap (cut_all p.initial) (g ∙ m ∙ sym (get_or_default nogoods place [] nogood below));
}

-- what is asked, the nogoods before the place, and an engine that is prepared
pub record IsStarted (p : Csp) (nogoods : List (List Atomic)) (place : ℕ) (before : List (List Atomic)) (e : Propagation) : Type 0 where
  pub asked : IsAsked p nogoods place
  pub earlier : before ≡ take place nogoods
  pub ready : IsPrepared p nogoods place e

-- the engine with the nogoods before the place, after the atoms of the one that stands there
pub started : (p : Csp) (nogoods : List (List Atomic)) (place : ℕ) (before : List (List Atomic)) (first e : Propagation) (atoms nogood : List Atomic)
    → IsProblem p → Each (AreOf p.initial) nogoods → place < length nogoods → before ≡ take place nogoods → Starts p before first → KeepsParts first e → e.present ≡ cut_all first.present atoms → atoms ≡ nogood → nogood ≡ get_or nogoods place nogood
    → IsStarted p nogoods place before e
started p nogoods place before first e atoms nogood problem variables below h s k f g m = record {
  asked = record { sound = problem; below = variables; within = omega (arith, below) };
  earlier = h;
  ready = prepared p nogoods place before first e atoms nogood below h s k f g m;
}

module _ (p : Csp) (nogoods : List (List Atomic)) (place : ℕ) (before : List (List Atomic)) (e : Propagation) (h : IsStarted p nogoods place before e) where
  abbrev its_run : List Taken
  its_run = run (parts_before (posed p) nogoods place) (start_of (posed p) nogoods place)

  same_run : run (parts_of e) e.present ≡ its_run
  same_run = ap (λ (parts : List Placed). run parts e.present) h.ready.parts ∙ ap (run (parts_before (posed p) nogoods place)) h.ready.present

  same_end : (end : Turn) → end ≡ run_end (parts_of e) e.present → end_of (posed p) nogoods place ≡ end
  same_end end k = sym (k ∙ ap (λ (parts : List Placed). run_end parts e.present) h.ready.parts ∙ ap (run_end (parts_before (posed p) nogoods place)) h.ready.present)

  -- the turns as they are seen are those that an explanation is asked for
  pub turns-asked : (turns : List SeenTurn) → turns ≡ map seen (run (parts_of e) e.present) → Each (IsRunTurn (posed p) before) turns
  turns-asked turns f =
      subst (λ (ns : List (List Atomic)). Each (IsRunTurn (posed p) ns) turns) (sym h.earlier)
      (subst (λ (ts : List SeenTurn). Each (IsRunTurn (posed p) (take place nogoods)) ts) (sym (f ∙ ap (map seen) same_run)) (run-seen p nogoods place h.asked))

  -- what the code makes of the kept turns
  pub record IsMade (turns : List SeenTurn) (steps : List Kept) (piece : Piece) : Type 0 where
    pub turns_are : turns ≡ map seen (run (parts_of e) e.present)
    pub steps_are : steps ≡ map step_of (kept p.initial (map (explained_of (posed p) before) turns))
    pub piece_is : piece ≡ piece_of steps

  module _ (turns : List SeenTurn) (steps : List Kept) (piece : Piece) (made : IsMade turns steps piece) where
    -- it is that of the kept steps of the nogood's run
    piece_made : piece ≡ piece_of (kept_steps p.initial its_run)
    piece_made = made.piece_is ∙ ap piece_of (made.steps_are
        ∙ ap (λ (ns : List (List Atomic)). map step_of (kept p.initial (map (explained_of (posed p) ns) turns))) h.earlier
        ∙ ap (λ (ts : List SeenTurn). map step_of (kept p.initial (map (explained_of (posed p) (take place nogoods)) ts))) (made.turns_are ∙ ap (map seen) same_run)
        ∙ run-explained p nogoods place h.asked)

    pub clash-justification : (end : Turn) (id : PartId) → end ≡ run_end (parts_of e) e.present → end ≡ Clashed id → Some piece ≡ justification (posed p) nogoods place
    clash-justification end id f g =
        ap (λ (k : Piece). Some k) piece_made ∙ sym (ap (λ (turn : Turn). answer_of turn p.initial its_run) (same_end end f ∙ g))

    pub clash-steps : Each (Holds (posed p) place) piece.steps
    clash-steps = subst (λ (k : Piece). Each (Holds (posed p) place) k.steps) (sym piece_made) (steps-hold p nogoods place h.asked)

    pub clash-variables : Each (SpeaksOf p.initial) piece.steps
    clash-variables = subst (λ (k : Piece). Each (SpeaksOf p.initial) k.steps) (sym piece_made) (steps-speak p nogoods place h.asked)

    pub clash-replay : (end : Turn) (id : PartId) → end ≡ run_end (parts_of e) e.present → end ≡ Clashed id → proves (start_of (posed p) nogoods place) (map (denial_of nogoods) piece.steps) ≡ true
    clash-replay end id f g =
        subst (λ (k : Piece). proves (start_of (posed p) nogoods place) (map (denial_of nogoods) k.steps) ≡ true) (sym piece_made) (steps-prove p nogoods place h.asked id (same_end end f ∙ g))

  pub empty-replay : (end : Turn) (steps : List Kept) (piece : Piece) → end ≡ run_end (parts_of e) e.present → end ≡ Empty → steps ≡ [] → piece ≡ piece_of steps
      → proves (start_of (posed p) nogoods place) (map (denial_of nogoods) piece.steps) ≡ true
  empty-replay end steps piece f g k m =
      subst (λ (q : Piece). proves (start_of (posed p) nogoods place) (map (denial_of nogoods) q.steps) ≡ true) (sym (m ∙ ap piece_of k)) (empty-proves p nogoods place h.asked (same_end end f ∙ g))

  pub quiet-end : (end : Turn) → end ≡ run_end (parts_of e) e.present → ((id : PartId) × (a : Atomic) × (end ≡ Gave id a)) ⊎ (end ≡ Quiet) → end_of (posed p) nogoods place ≡ Quiet
  quiet-end end f (inl gave) = absurd (no-atom p nogoods place h.asked gave.0 gave.1 (same_end end f ∙ gave.2))
  quiet-end end f (inr quiet) = same_end end f ∙ quiet
