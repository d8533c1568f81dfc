-- A run turn by turn, as the engine takes it, and the states that it leaves behind.
use Rattle.std.proofs.Common.{◌≡◌, ℕ, ◌<◌, Bool, true, false, List, [], ◌++◌, length, Option, Some, None, refl, sym, ◌∙◌, ap, subst, append_assoc, append-nil, inl, inr}
use Rattle.dp_domain.specs.Atoms.{Atomic}
use Rattle.dp_domain.specs.States.{Domains, cut, is_dead, total}
use Rattle.dp_domain.specs.declared.found.Found.{Found}
use Rattle.dp_domain.specs.declared.found.Found.TheVariants.{Clash as Clashes, Atom as Gives}
use Rattle.dp_engine.specs.Engines.{Begins, Extends, IsEngine, KeepsParts, Propagation, parts_of, states}
use Rattle.dp_engine.specs.Placed.{AreSound, Placed, turn_order}
use Rattle.dp_engine.specs.Runs.{fails, is_failure, run, run_end, state_after}
use Rattle.dp_engine.specs.Turns.{Taken, after, applied, first, turn_at}
use Rattle.dp_engine.specs.declared.part_id.PartId.{PartId}
use Rattle.dp_engine.specs.declared.turn.Turn.{Turn}
use Rattle.dp_engine.specs.declared.turn.Turn.TheVariants.{Atom, Clash, Quiet, Empty}
use Rattle.dp_engine.proofs.RunLaws.{end-atom, end-clash, end-dead, end-quiet, found_cases, run-atom, run-clash, run-dead, run-quiet, turn-dead, turn-quiet, turn-told}
use Rattle.dp_engine.proofs.PlacedLaws.{problem-sound}
use Rattle.dp_engine.proofs.TurnLaws.{first-before, first-less}
use Rattle.dp_parts.specs.Problems.{Csp, posed}

-- ---- one turn

-- the run from the first state ends as that from the second, and leaves the same state
pub record GoesOn (parts : List Placed) (d e : Domains) : Type 0 where
  pub end : run_end parts d ≡ run_end parts e
  pub state : state_after d (run parts d) ≡ state_after e (run parts e)

-- the run is at its end, whose turn is this
pub record StopsAt (parts : List Placed) (d : Domains) (turn : Turn) : Type 0 where
  pub end : run_end parts d ≡ turn
  pub state : state_after d (run parts d) ≡ d

-- where the turn leads: an atom on to a state with fewer values, and any other turn is the last
abbrev pub Leads : List Placed → Domains → Turn → Type 0
Leads parts d (Atom id a) = GoesOn parts d (cut d a) × (total (cut d a) < total d)
Leads parts d (Clash id) = StopsAt parts d (Clash id)
Leads parts d Quiet = StopsAt parts d Quiet
Leads parts d Empty = StopsAt parts d Empty

after_atom : (d : Domains) (t : Taken) (a : Atomic) → t.before ≡ d → t.found ≡ Gives a → after t.before t.found ≡ cut d a
after_atom d t a e g = ap (λ (b : Domains). after b t.found) e ∙ ap (λ (f : Found). after d f) g

after_clash : (d : Domains) (t : Taken) → t.before ≡ d → t.found ≡ Clashes → after t.before t.found ≡ d
after_clash d t e g = ap (λ (b : Domains). after b t.found) e ∙ ap (λ (f : Found). after d f) g

lead_step : (n : ℕ) (parts : List Placed) (d : Domains) (b : Bool) (o : Option Taken) → AreSound n parts → is_dead d ≡ b → first parts d ≡ o → Leads parts d (turn_at parts d)
lead_step n parts d true o sound e f =
    subst (Leads parts d) (sym (turn-dead parts d e)) (record { end = end-dead parts d e; state = ap (state_after d) (run-dead parts d e) })
lead_step n parts d false None sound e f =
    subst (Leads parts d) (sym (turn-quiet parts d e f)) (record { end = end-quiet parts d e f; state = ap (state_after d) (run-quiet parts d e f) })
lead_step n parts d false (Some t) sound e f = elim (found_cases t.found) [
  | inl g ↦
      subst (Leads parts d) (sym (turn-told parts d t Clashes e f g))
      (record { end = end-clash parts d t e f g; state = ap (state_after d) (run-clash parts d t e f g) ∙ after_clash d t (first-before parts d t f) g })
  | inr g ↦
      subst (Leads parts d) (sym (turn-told parts d t (Gives g.0) e f g.1)) (
        record {
          end = end-atom n parts d t g.0 sound e f g.1;
          state = ap (state_after d) (run-atom n parts d t g.0 sound e f g.1)
              ∙ ap (λ (c : Domains). state_after c (run parts (cut d g.0))) (after_atom d t g.0 (first-before parts d t f) g.1);
        },
        first-less n parts d t g.0 sound e f g.1,
      )
]

-- the turn at a state leads on in the run from there
pub leads : (n : ℕ) (parts : List Placed) (d : Domains) → AreSound n parts → Leads parts d (turn_at parts d)
leads n parts d sound = lead_step n parts d (is_dead d) (first parts d) sound refl refl

pub goes-trans : (parts : List Placed) (c d e : Domains) → GoesOn parts c d → GoesOn parts d e → GoesOn parts c e
goes-trans parts c d e g h = record { end = g.end ∙ h.end; state = g.state ∙ h.state }

-- an atom's turn leads on
pub leads_on : (parts : List Placed) (start d e : Domains) (turn : Turn) (id : PartId) (a : Atomic) → Leads parts d turn → turn ≡ Atom id a → e ≡ applied d turn → GoesOn parts start d → GoesOn parts start e × (total e < total d)
leads_on parts start d e turn id a l is now g =
    let m : GoesOn parts d (cut d a) × (total (cut d a) < total d) = subst (Leads parts d) is l in
    let at : e ≡ cut d a = now ∙ ap (applied d) is in
    (subst (GoesOn parts start) (sym at) (goes-trans parts start d (cut d a) g m.0), subst (λ (c : Domains). total c < total d) (sym at) m.1)

-- a turn that gives no atom
abbrev pub IsLast : Turn → Type 0
IsLast (Atom id a) = ⊥
IsLast (Clash id) = Unit {0}
IsLast Quiet = Unit {0}
IsLast Empty = Unit {0}

-- it is the last, and leaves the state as it is
pub leads_out : (parts : List Placed) (start d e : Domains) (turn : Turn) → Leads parts d turn → IsLast turn → e ≡ applied d turn → GoesOn parts start d → (fails parts start ≡ is_failure turn) × (state_after start (run parts start) ≡ e)
leads_out parts start d e (Atom id a) l last now g = absurd last
leads_out parts start d e (Clash id) l last now g = (ap is_failure (g.end ∙ l.end), g.state ∙ l.state ∙ sym now)
leads_out parts start d e Quiet l last now g = (ap is_failure (g.end ∙ l.end), g.state ∙ l.state ∙ sym now)
leads_out parts start d e Empty l last now g = (ap is_failure (g.end ∙ l.end), g.state ∙ l.state ∙ sym now)

-- ---- calls of an engine

pub keeps-refl : (e : Propagation) → KeepsParts e e
keeps-refl e = record { problem = refl; nogoods = refl }

pub keeps-trans : (first before now : Propagation) → KeepsParts first before → KeepsParts before now → KeepsParts first now
keeps-trans first before now h k = record { problem = k.problem ∙ h.problem; nogoods = k.nogoods ∙ h.nogoods }

-- an engine with the same problem and nogoods has the same parts
pub same-parts : (before now : Propagation) → KeepsParts before now → parts_of now ≡ parts_of before
same-parts before now k =
    ap (λ (p : Csp). turn_order (posed p) now.nogoods) k.problem ∙ ap (λ (ns : List (List Atomic)). turn_order (posed before.problem) ns) k.nogoods

pub begins-trans : (a b c : List Domains) → Begins a b → Begins b c → Begins a c
begins-trans a b c h k = (h.0 ++ k.0, k.1 ∙ ap (λ (ds : List Domains). ds ++ k.0) h.1 ∙ append_assoc a h.0 k.0)

pub extends-refl : (e : Propagation) → Extends e e
extends-refl e = ([], sym (append-nil (states e)))

pub extends-trans : (a b c : Propagation) → Extends a b → Extends b c → Extends a c
extends-trans a b c h k = begins-trans (states a) (states b) (states c) h k

-- ---- the loop

-- the parts of every engine are sound
pub engine-sound : (e : Propagation) → IsEngine e → AreSound (length e.problem.initial) (parts_of e)
engine-sound e h = problem-sound e.problem e.nogoods h.problem h.nogoods

told-first : (first engine : Propagation) (turn : Turn) → IsEngine first → KeepsParts first engine → turn ≡ turn_at (parts_of engine) engine.present → Leads (parts_of first) engine.present turn
told-first first engine turn h k is =
    subst (Leads (parts_of first) engine.present) (sym (is ∙ ap (λ (parts : List Placed). turn_at parts engine.present) (same-parts first engine k)))
    (leads (length first.problem.initial) (parts_of first) engine.present (engine-sound first h))

-- an atom's turn goes on in the run, to fewer values
pub step-goes : (first engine now : Propagation) (turn : Turn) (id : PartId) (a : Atomic) → IsEngine first → KeepsParts first engine → GoesOn (parts_of first) first.present engine.present → turn ≡ turn_at (parts_of engine) engine.present → turn ≡ Atom id a
    → now.present ≡ applied engine.present turn → GoesOn (parts_of first) first.present now.present × (total now.present < total engine.present)
step-goes first engine now turn id a h k along is at present =
    leads_on (parts_of first) first.present engine.present now.present turn id a (told-first first engine turn h k is) at present along

-- another turn is its end
pub step-ends : (first engine now : Propagation) (turn end : Turn) → IsEngine first → KeepsParts first engine → GoesOn (parts_of first) first.present engine.present → turn ≡ turn_at (parts_of engine) engine.present → turn ≡ end → IsLast end
    → now.present ≡ applied engine.present turn → (is_failure end ≡ fails (parts_of first) first.present) × (now.present ≡ state_after first.present (run (parts_of first) first.present))
step-ends first engine now turn end h k along is at last present =
    let out = leads_out (parts_of first) first.present engine.present now.present turn (told-first first engine turn h k is) (subst IsLast (sym at) last) present along in
    (sym (out.0 ∙ ap is_failure at), sym out.1)
