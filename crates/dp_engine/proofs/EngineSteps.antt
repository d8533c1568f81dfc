-- Steps of the engine's calls.
use Rattle.std.proofs.Common.{◌≡◌, ◌^◌, ◌-◌, ◌<◌, List, [], ◌∷◌, ◌++◌, length, append_assoc, sym, ◌∙◌, ap, subst, arith, length-append}
use Rattle.dp_base.specs.Lists.{Each}
use Rattle.dp_domain.specs.Atoms.{Atomic}
use Rattle.dp_domain.specs.States.{AreOf, Domains}
use Rattle.dp_parts.specs.Problems.{Csp, IsProblem, posed}
use Rattle.dp_engine.specs.declared.turn.Turn.{Turn}
use Rattle.dp_engine.specs.Placed.{turn_order}
use Rattle.dp_engine.specs.Turns.{IsTurnAt, atoms_of, turn_at}
use Rattle.dp_engine.proofs.PlacedLaws.{problem-sound}
use Rattle.dp_engine.proofs.StateSteps.{Each-push, atoms-moved}
use Rattle.dp_engine.proofs.TurnLaws.{turn-atoms, turn_at-is}

pub few-more : (ns ks : List (List Atomic)) (n : List Atomic) → ks ≡ ns ++ n ∷ [] → length ns < 2 ^ 32 - 1 → length ks < 2 ^ 32
few-more ns ks n e h = omega (arith, simp length-append at (ap (λ (xs : List (List Atomic)). length xs) e))

pub all-more : (d : Domains) (ns ks : List (List Atomic)) (n : List Atomic) → ks ≡ ns ++ n ∷ [] → Each (AreOf d) ns → AreOf d n → Each (AreOf d) ks
all-more d ns ks n e h k = subst (Each (AreOf d)) (sym e) (Each-push (AreOf d) ns n h k)

-- the turn at the present state is on the problem's variables
pub turn-of_problem : (p : Csp) (ns : List (List Atomic)) (d : Domains) (t : Turn) → IsProblem p → Each (AreOf p.initial) ns → length d ≡ length p.initial → t ≡ turn_at (turn_order (posed p) ns) d → AreOf d (atoms_of t)
turn-of_problem p ns d t kept h l e =
    atoms-moved (atoms_of t) (length p.initial) (length d) l (turn-atoms (length p.initial) (turn_order (posed p) ns) d t (problem-sound p ns kept h) e)

-- the turn at a state in words of all integers
pub turn-meant : (p : Csp) (ns : List (List Atomic)) (d : Domains) (t : Turn) → IsProblem p → Each (AreOf p.initial) ns → t ≡ turn_at (turn_order (posed p) ns) d → IsTurnAt (turn_order (posed p) ns) d t
turn-meant p ns d t kept h e =
    subst (IsTurnAt (turn_order (posed p) ns) d) (sym e) (turn_at-is (length p.initial) (turn_order (posed p) ns) d (problem-sound p ns kept h))
