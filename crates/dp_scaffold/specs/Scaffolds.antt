-- What contracts see of a scaffold: nogoods in order, with their lines and numbers, and what they are to conclude.
use Rattle.std.specs.Prelude.{◌≡◌, ◌<◌, ◌^◌, ℕ, List, [], ◌∷◌, ◌++◌, length}
use Rattle.dp_base.specs.Lists.{Each}
use Rattle.dp_domain.specs.Atoms.{Atomic, negated}
use Rattle.dp_domain.specs.States.{AreOf}
use Rattle.dp_domain.specs.declared.verdict.Verdict.{Verdict}
use Rattle.dp_domain.specs.declared.verdict.Verdict.TheVariants.{Unsat, Bound}
use Rattle.dp_parts.specs.Problems.{Csp}
use Rattle.dp_checker.specs.Goals.{IsOfGoal}

-- the nogood that a conclusion is: none of the atoms of UNSAT, which has none, and not the bound's negation
abbrev pub nogood_of : Verdict → List Atomic
nogood_of Unsat = []
nogood_of (Bound a) = negated a ∷ []

-- the nogoods in order, the line and the number of each, and the claim; the conclusion is the last of them
pub record Learned : Type 0 where
  pub nogoods : List (List Atomic)
  pub lines : List ℕ
  pub ids : List ℕ
  pub claim : Verdict

-- what every scaffold keeps: each nogood has its line and its number, and the last is the conclusion's
pub record IsScaffold (s : Learned) : Type 0 where
  pub lines : length s.lines ≡ length s.nogoods
  pub ids : length s.ids ≡ length s.nogoods
  pub last : (earlier : List (List Atomic)) × (s.nogoods ≡ earlier ++ nogood_of s.claim ∷ [])
  pub few : length s.nogoods < 2 ^ 32

-- it speaks of the problem's variables alone, and a bound that it claims is on the goal's variable and side
pub record IsScaffoldOf (p : Csp) (s : Learned) : Type 0 where
  pub nogoods : Each (AreOf p.initial) s.nogoods
  pub claim : IsOfGoal p s.claim
