-- The first turn of parts, and that its atom takes out some value and leaves each variable one.
use Rattle.std.proofs.Common.{◌≡◌, ℕ, ◌<◌, Bool, true, false, cond, List, [], ◌∷◌, ◌++◌, Option, Some, None, option_map, refl, sym, ap, subst, inl}
use Rattle.dp_base.specs.Lists.{Among, Each}
use Rattle.dp_base.proofs.Lists.{Among-append_right, Each-among, Each-append_parts}
use Rattle.dp_domain.specs.Atoms.{Atomic}
use Rattle.dp_domain.specs.declared.found.Found.{Found}
use Rattle.dp_domain.specs.declared.found.Found.TheVariants.{Clash as Clashes, Atom as Gives}
use Rattle.dp_domain.specs.States.{Domains, cut, is_dead, total}
use Rattle.dp_domain.specs.Turns.{IsTurn, or_else, turn_of}
use Rattle.dp_domain.proofs.StateLaws.{total-cut}
use Rattle.dp_domain.proofs.TurnLaws.{gives-parts, turn_of-is}
use Rattle.dp_engine.specs.declared.part_id.PartId.{PartId}
use Rattle.dp_engine.specs.declared.turn.Turn.{Turn}
use Rattle.dp_engine.specs.declared.turn.Turn.TheVariants.{Atom, Clash, Quiet, Empty}
use Rattle.dp_engine.specs.Placed.{AreSound, IsSound, Placed}
use Rattle.dp_engine.specs.Turns.{IsGiven, IsTurnAt, Taken, atoms_of, first, told, told_or_quiet, turn_at}

-- the first of the parts that has a turn at the state, between those before it, which have none, and the others
pub record StandsFirst (parts : List Placed) (d : Domains) (t : Taken) : Type 0 where
  pub before : t.before ≡ d
  pub earlier : List Placed
  pub later : List Placed
  pub order : parts ≡ earlier ++ t.part ∷ later
  pub none : Each (λ q. turn_of q.face d ≡ None) earlier
  pub turn : turn_of t.part.face d ≡ Some t.found

-- it stands first; and there is none where no part has a turn
abbrev pub IsFirstTurn : List Placed → Domains → Option Taken → Type 0
IsFirstTurn parts d None = Each (λ q. turn_of q.face d ≡ None) parts
IsFirstTurn parts d (Some t) = StandsFirst parts d t

-- the turn of the part at the state
abbrev pub taking : Domains → Placed → Found → Taken
taking d q f = record { before = d; part = q; found = f }

first_step : (q : Placed) (qs : List Placed) (d : Domains) (o : Option Found) (r : Option Taken) → turn_of q.face d ≡ o → IsFirstTurn qs d r → IsFirstTurn (q ∷ qs) d (or_else (option_map (taking d q) o) r)
first_step q qs d (Some f) r e h = record { before = refl; earlier = []; later = qs; order = refl; none = tt; turn = e }
first_step q qs d None None e h = (e, h)
first_step q qs d None (Some t) e h = record {
  before = h.before;
  earlier = q ∷ h.earlier;
  later = h.later;
  order = ap (λ rest. q ∷ rest) h.order;
  none = (e, h.none);
  turn = h.turn;
}

-- what is taken first is the turn of the first part that has one
pub first-is : (parts : List Placed) (d : Domains) → IsFirstTurn parts d (first parts d)
first-is [] d = tt
first-is (q ∷ qs) d = first_step q qs d (turn_of q.face d) (first qs d) refl (first-is qs d)

-- a turn that is taken first stands first
pub first-stands : (parts : List Placed) (d : Domains) (t : Taken) → first parts d ≡ Some t → StandsFirst parts d t
first-stands parts d t e = subst (IsFirstTurn parts d) e (first-is parts d)

-- where none is taken no part has a turn
pub first-none : (parts : List Placed) (d : Domains) → first parts d ≡ None → Each (λ q. turn_of q.face d ≡ None) parts
first-none parts d e = subst (IsFirstTurn parts d) e (first-is parts d)

-- it is a turn at that state
pub first-before : (parts : List Placed) (d : Domains) (t : Taken) → first parts d ≡ Some t → t.before ≡ d
first-before parts d t e = (first-stands parts d t e).before

-- its part is one of the parts
pub first-among : (parts : List Placed) (d : Domains) (t : Taken) → first parts d ≡ Some t → Among t.part parts
first-among parts d t e =
    let s = first-stands parts d t e in
    subst (Among t.part) (sym s.order) (Among-append_right t.part s.earlier (t.part ∷ s.later) (inl refl))

-- in words of all integers: the turn of a sound part
pub sound-turn : (n : ℕ) (q : Placed) (d : Domains) → IsSound n q → is_dead d ≡ false → IsTurn q.face d (turn_of q.face d)
sound-turn n q d s alive = turn_of-is q.face d s.lawful.ordered alive

-- the turn that is taken first, in words of all integers
pub first-turn : (n : ℕ) (parts : List Placed) (d : Domains) (t : Taken) → AreSound n parts → is_dead d ≡ false → first parts d ≡ Some t → IsTurn t.part.face d (Some t.found)
first-turn n parts d t sound alive e =
    subst (IsTurn t.part.face d) (first-stands parts d t e).turn
    (sound-turn n t.part d (Each-among (IsSound n) parts sound t.part (first-among parts d t e)) alive)

-- its atom leaves each variable a value
pub first-alive : (n : ℕ) (parts : List Placed) (d : Domains) (t : Taken) (a : Atomic) → AreSound n parts → is_dead d ≡ false → first parts d ≡ Some t → t.found ≡ Gives a → is_dead (cut d a) ≡ false
first-alive n parts d t a sound alive e g =
    let turn = subst (λ f. IsTurn t.part.face d (Some f)) g (first-turn n parts d t sound alive e) in turn.1.alive

-- its atom takes out some value
pub first-less : (n : ℕ) (parts : List Placed) (d : Domains) (t : Taken) (a : Atomic) → AreSound n parts → is_dead d ≡ false → first parts d ≡ Some t → t.found ≡ Gives a → total (cut d a) < total d
first-less n parts d t a sound alive e g =
    let turn = subst (λ f. IsTurn t.part.face d (Some f)) g (first-turn n parts d t sound alive e) in
    total-cut d a (gives-parts t.part.face d a turn.1.candidate.given).0

-- ---- the turn at a state

nothing_given : (n : ℕ) (parts : List Placed) (d : Domains) → AreSound n parts → is_dead d ≡ false → Each (λ q. turn_of q.face d ≡ None) parts → Each (λ q. IsTurn q.face d None) parts
nothing_given n [] d s alive e = tt
nothing_given n (q ∷ qs) d s alive e = (subst (IsTurn q.face d) e.0 (sound-turn n q d s.0 alive), nothing_given n qs d s.1 alive e.1)

given : (n : ℕ) (parts : List Placed) (d : Domains) (t : Taken) (f : Found) → AreSound n parts → is_dead d ≡ false → StandsFirst parts d t → IsTurn t.part.face d (Some t.found) → t.found ≡ f → IsGiven parts d t.part.id f
given n parts d t f sound alive s turn e = record {
  alive = alive;
  earlier = s.earlier;
  part = t.part;
  later = s.later;
  order = s.order;
  place = refl;
  none = nothing_given n s.earlier d (Each-append_parts (IsSound n) s.earlier (t.part ∷ s.later) (subst (AreSound n) s.order sound)).0 alive s.none;
  turn = subst (λ g. IsTurn t.part.face d (Some g)) e turn;
}

told_is : (parts : List Placed) (d : Domains) (id : PartId) (f g : Found) → f ≡ g → ((h : Found) → f ≡ h → IsGiven parts d id h) → IsTurnAt parts d (told id g)
told_is parts d id f Clashes e h = h Clashes e
told_is parts d id f (Gives a) e h = h (Gives a) e

turn_step : (n : ℕ) (parts : List Placed) (d : Domains) (b : Bool) (o : Option Taken) → AreSound n parts → is_dead d ≡ b → first parts d ≡ o → IsTurnAt parts d (cond b Empty (told_or_quiet o))
turn_step n parts d true o sound e f = e
turn_step n parts d false None sound e f = (e, nothing_given n parts d sound e (first-none parts d f))
turn_step n parts d false (Some t) sound e f =
    told_is parts d t.part.id t.found t.found refl
    (λ h k. given n parts d t h sound e (first-stands parts d t f) (first-turn n parts d t sound e f) k)

-- the turn at a state is its turn in words of all integers
pub turn_at-is : (n : ℕ) (parts : List Placed) (d : Domains) → AreSound n parts → IsTurnAt parts d (turn_at parts d)
turn_at-is n parts d sound = turn_step n parts d (is_dead d) (first parts d) sound refl refl

turn_facts : (n : ℕ) (parts : List Placed) (d : Domains) (id : PartId) (a : Atomic) → AreSound n parts → turn_at parts d ≡ Atom id a → IsGiven parts d id (Gives a)
turn_facts n parts d id a sound e = subst (IsTurnAt parts d) e (turn_at-is n parts d sound)

-- a turn's atom takes out some value
pub turn-less : (n : ℕ) (parts : List Placed) (d : Domains) (id : PartId) (a : Atomic) → AreSound n parts → turn_at parts d ≡ Atom id a → total (cut d a) < total d
turn-less n parts d id a sound e =
    let g = turn_facts n parts d id a sound e in total-cut d a (gives-parts g.part.face d a g.turn.1.candidate.given).0

-- a turn's atom leaves each variable a value
pub turn-alive : (n : ℕ) (parts : List Placed) (d : Domains) (id : PartId) (a : Atomic) → AreSound n parts → turn_at parts d ≡ Atom id a → is_dead (cut d a) ≡ false
turn-alive n parts d id a sound e = (turn_facts n parts d id a sound e).turn.1.alive

-- a turn's atom is on one of the variables
pub turn-var : (n : ℕ) (parts : List Placed) (d : Domains) (id : PartId) (a : Atomic) → AreSound n parts → turn_at parts d ≡ Atom id a → a.var < n
turn-var n parts d id a sound e =
    let g = turn_facts n parts d id a sound e in
    let s : IsSound n g.part = Each-among (IsSound n) parts sound g.part
    (subst (Among g.part) (sym g.order) (Among-append_right g.part g.earlier (g.part ∷ g.later) (inl refl))) in
    Each-among (λ x. x < n) g.part.face.scope s.covered a.var g.turn.1.candidate.of_scope

-- each atom that a turn gives is on one of the variables
pub turn-atoms : (n : ℕ) (parts : List Placed) (d : Domains) (t : Turn) → AreSound n parts → t ≡ turn_at parts d → Each (λ (a : Atomic). a.var < n) (atoms_of t)
turn-atoms n parts d (Atom id a) sound e = (turn-var n parts d id a sound (sym e), tt)
turn-atoms n parts d (Clash id) sound e = tt
turn-atoms n parts d Quiet sound e = tt
turn-atoms n parts d Empty sound e = tt
