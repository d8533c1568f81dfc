-- What a solver learns: nogoods that follow from those before them, and are new.
use Rattle.std.specs.Prelude.{◌≡◌, true, false, List, [], ◌∷◌, ◌++◌}
use Rattle.dp_domain.specs.Atoms.{Atomic, negated}
use Rattle.dp_domain.specs.States.{AreOf, Domains, cut_all, entails}
use Rattle.dp_domain.specs.declared.verdict.Verdict.{Verdict}
use Rattle.dp_domain.specs.declared.verdict.Verdict.TheVariants.{Unsat, Bound}
use Rattle.dp_engine.specs.Placed.{Placed, turn_order}
use Rattle.dp_engine.specs.Runs.{follows, run, run_end, state_after}
use Rattle.dp_engine.specs.Turns.{turn_at}
use Rattle.dp_engine.specs.declared.turn.Turn.{Turn}
use Rattle.dp_engine.specs.declared.turn.Turn.TheVariants.{Quiet}
use Rattle.dp_parts.specs.Posed.{Posed}

-- a state at which propagation rests: each variable has a value left, and no part has a turn
abbrev pub IsAtRest : List Placed → Domains → Type 0
IsAtRest parts d = turn_at parts d ≡ Quiet

-- how propagation of the atoms ends, by the parts and these nogoods
abbrev pub end_after : Posed → List (List Atomic) → List Atomic → Turn
end_after p nogoods atoms = run_end (turn_order p nogoods) (cut_all p.initial atoms)

-- the state that it leaves
abbrev pub left_after : Posed → List (List Atomic) → List Atomic → Domains
left_after p nogoods atoms = state_after (cut_all p.initial atoms) (run (turn_order p nogoods) (cut_all p.initial atoms))

-- A nogood is new behind these: propagation of its atoms but the last comes to rest, and leaves a value that meets the last.
pub record IsNew (p : Posed) (before : List (List Atomic)) (nogood : List Atomic) : Type 0 where
  pub others : List Atomic
  pub last : Atomic
  pub split : nogood ≡ others ++ last ∷ []
  pub rests : end_after p before others ≡ Quiet
  pub leaves : entails (left_after p before others) (negated last) ≡ false

-- it is on the problem's variables, follows from those before it, and is new
pub record IsLearned (p : Posed) (before : List (List Atomic)) (nogood : List Atomic) : Type 0 where
  pub variables : AreOf p.initial nogood
  pub follows : follows p before nogood ≡ true
  pub new : IsNew p before nogood

-- each of the nogoods is learned behind those before it
abbrev pub AreLearned : Posed → List (List Atomic) → Type 0
AreLearned p nogoods = (before after : List (List Atomic)) (nogood : List Atomic) → nogoods ≡ before ++ nogood ∷ after → IsLearned p before nogood

-- the atoms that deny a claim: none for UNSAT, the bound's negation for a bound
abbrev pub denial_of : Verdict → List Atomic
denial_of Unsat = []
denial_of (Bound a) = negated a ∷ []

-- the claim follows from the nogoods: propagation of its denial fails
abbrev pub Concludes : Posed → List (List Atomic) → Verdict → Type 0
Concludes p nogoods claim = follows p nogoods (denial_of claim) ≡ true
