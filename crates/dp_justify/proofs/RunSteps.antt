-- The turns of a run, one by one, as they are seen.
use Rattle.std.proofs.Common.{◌≡◌, ℕ, ◌<◌, Bool, true, false, Option, Some, None, List, [], ◌∷◌, ◌++◌, map, refl, sym, ◌∙◌, ap, subst, append_assoc, inl, inr}
use Rattle.dp_domain.specs.Atoms.{Atomic}
use Rattle.dp_domain.specs.States.{Domains, cut, is_dead, total}
use Rattle.dp_domain.specs.declared.found.Found.{Found}
use Rattle.dp_domain.specs.declared.found.Found.TheVariants.{Clash, Atom}
use Rattle.dp_engine.specs.Placed.{AreSound, Placed}
use Rattle.dp_engine.specs.Runs.{run, run_end}
use Rattle.dp_engine.specs.Turns.{Taken, applied, first, told, turn_at}
use Rattle.dp_engine.specs.declared.turn.Turn.{Turn}
use Rattle.dp_engine.specs.declared.turn.Turn.TheVariants.{Atom as Gave, Clash as Clashed, Quiet, Empty}
use Rattle.dp_engine.proofs.RunLaws.{end-atom, end-clash, end-dead, end-quiet, found_cases, run-atom, run-clash, run-dead, run-quiet, turn-dead, turn-quiet, turn-told}
use Rattle.dp_engine.proofs.TurnLaws.{first-before, first-less}
use Rattle.dp_justify.specs.Keeping.{target_of}
use Rattle.dp_justify.specs.Taking.{SeenTurn, end_of_run, said, seen}

-- what a turn is at the head of a run: what is seen of it, and what comes after it
pub record Heads (parts : List Placed) (d : Domains) (turn : Turn) : Type 0 where
  pub more : end_of_run turn ≡ None → (map seen (run parts d) ≡ said d turn ++ map seen (run parts (applied d turn))) × (run_end parts d ≡ run_end parts (applied d turn)) × (total (applied d turn) < total d)
  pub last : (end : Turn) → end_of_run turn ≡ Some end → (map seen (run parts d) ≡ said d turn) × (run_end parts d ≡ end)

some_none : {A : Type 0} (x : A) (P : Type 0) → Some x ≡ None → P
some_none x P e = cc

some_same : {A : Type 0} (x y : A) → Some x ≡ Some y → x ≡ y
some_same x y e = cc

-- at the last turn
last_heads : (parts : List Placed) (d : Domains) (turn : Turn) → end_of_run turn ≡ Some turn → map seen (run parts d) ≡ said d turn → run_end parts d ≡ turn → Heads parts d turn
last_heads parts d turn e f g = record {
  more = λ k. some_none turn _ (sym e ∙ k);
  last = λ end k. (f, g ∙ some_same turn end (sym e ∙ k));
}

seen_as : (d : Domains) (t : Taken) (f : Found) → t.before ≡ d → t.found ≡ f → seen t ∷ [] ≡ said d (told t.part.id f)
seen_as d t Clash e g =
    ap (λ (b : Domains). let r : SeenTurn = record { before = b; source = t.part.id; target = target_of t.found } in r ∷ []) e
    ∙ ap (λ (f : Found). let r : SeenTurn = record { before = d; source = t.part.id; target = target_of f } in r ∷ []) g
seen_as d t (Atom a) e g =
    ap (λ (b : Domains). let r : SeenTurn = record { before = b; source = t.part.id; target = target_of t.found } in r ∷ []) e
    ∙ ap (λ (f : Found). let r : SeenTurn = record { before = d; source = t.part.id; target = target_of f } in r ∷ []) g

atom_heads : (n : ℕ) (parts : List Placed) (d : Domains) (t : Taken) (a : Atomic) → AreSound n parts → is_dead d ≡ false → first parts d ≡ Some t → t.found ≡ Atom a → Heads parts d (Gave t.part.id a)
atom_heads n parts d t a sound alive e g = record {
  more = λ k. (
    ap (map seen) (run-atom n parts d t a sound alive e g)
        ∙ ap (λ (ts : List SeenTurn). ts ++ map seen (run parts (cut d a))) (seen_as d t (Atom a) (first-before parts d t e) g),
    end-atom n parts d t a sound alive e g,
    first-less n parts d t a sound alive e g,
  );
  last = λ end k. some_none end _ (sym k);
}

head_step : (n : ℕ) (parts : List Placed) (d : Domains) (b : Bool) (o : Option Taken) → AreSound n parts → is_dead d ≡ b → first parts d ≡ o → Heads parts d (turn_at parts d)
head_step n parts d true o sound e f =
    subst (Heads parts d) (sym (turn-dead parts d e)) (last_heads parts d Empty refl (ap (map seen) (run-dead parts d e)) (end-dead parts d e))
head_step n parts d false None sound e f =
    subst (Heads parts d) (sym (turn-quiet parts d e f)) (last_heads parts d Quiet refl (ap (map seen) (run-quiet parts d e f)) (end-quiet parts d e f))
head_step n parts d false (Some t) sound e f = elim (found_cases t.found) [
  | inl g ↦
      subst (Heads parts d) (sym (turn-told parts d t Clash e f g))
      (last_heads parts d (Clashed t.part.id) refl (ap (map seen) (run-clash parts d t e f g) ∙ seen_as d t Clash (first-before parts d t f) g) (end-clash parts d t e f g))
  | inr g ↦ subst (Heads parts d) (sym (turn-told parts d t (Atom g.0) e f g.1)) (atom_heads n parts d t g.0 sound e f g.1)
]

-- the turn at a state heads the run from it
pub turn-heads : (n : ℕ) (parts : List Placed) (d : Domains) → AreSound n parts → Heads parts d (turn_at parts d)
turn-heads n parts d sound = head_step n parts d (is_dead d) (first parts d) sound refl refl

-- ---- the loop

-- the run from the first state is the turns so far and the run from the state
pub record IsAlong (parts : List Placed) (start : Domains) (turns : List SeenTurn) (d : Domains) : Type 0 where
  pub run : map seen (run parts start) ≡ turns ++ map seen (run parts d)
  pub end : run_end parts start ≡ run_end parts d

pub along-start : (parts : List Placed) (start : Domains) → IsAlong parts start [] start
along-start parts start = record { run = refl; end = refl }

pub along-more : (n : ℕ) (parts : List Placed) (start d next : Domains) (turns now : List SeenTurn) (end : Option Turn) → AreSound n parts → IsAlong parts start turns d → end ≡ end_of_run (turn_at parts d) → end ≡ None
    → next ≡ applied d (turn_at parts d) → now ≡ turns ++ said d (turn_at parts d) → IsAlong parts start now next × (total next < total d)
along-more n parts start d next turns now end sound h e none f g =
    let r = (turn-heads n parts d sound).more (sym e ∙ none) in (
      record {
        run = h.run ∙ ap (λ (ts : List SeenTurn). turns ++ ts) r.0 ∙ sym (append_assoc turns (said d (turn_at parts d)) (map seen (run parts (applied d (turn_at parts d)))))
            ∙ ap (λ (ts : List SeenTurn). ts ++ map seen (run parts (applied d (turn_at parts d)))) (sym g) ∙ ap (λ (b : Domains). now ++ map seen (run parts b)) (sym f);
        end = h.end ∙ r.1 ∙ ap (run_end parts) (sym f);
      },
      subst (λ (b : Domains). total b < total d) (sym f) r.2,
    )

pub along-end : (n : ℕ) (parts : List Placed) (start d : Domains) (turns now : List SeenTurn) (answer : Option Turn) (end : Turn) → AreSound n parts → IsAlong parts start turns d → answer ≡ end_of_run (turn_at parts d) → answer ≡ Some end
    → now ≡ turns ++ said d (turn_at parts d) → (now ≡ map seen (run parts start)) × (end ≡ run_end parts start)
along-end n parts start d turns now answer end sound h e some g =
    let r = (turn-heads n parts d sound).last end (sym e ∙ some) in
    (g ∙ ap (λ (ts : List SeenTurn). turns ++ ts) (sym r.0) ∙ sym h.run, sym (h.end ∙ r.1))
