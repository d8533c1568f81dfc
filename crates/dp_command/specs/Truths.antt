-- What a claim says of a model, in words that know no parts and no steps.
use Rattle.std.specs.Prelude.{◌≡◌, ℕ, true, Some, ℤ}
use Rattle.dp_domain.specs.Atoms.{compares}
use Rattle.dp_domain.specs.declared.atom.Op.{Op}
use Rattle.dp_domain.specs.declared.atom.Op.TheVariants.{Ge, Le}
use Rattle.fz_model.specs.Models.{Plan}
use Rattle.fz_model.specs.declared.model.ModelGoal.{ModelGoal}
use Rattle.fz_model.specs.declared.model.ModelGoal.TheVariants.{Satisfy, Minimize, Maximize}
use Rattle.fz_sat.specs.Satisfies.{Satisfies, objective_of}
use Rattle.fz_solve.specs.Solved.{IsUnsatisfiable}
use Rattle.dp_command.specs.declared.reply.Claim.{Claim}
use Rattle.dp_command.specs.declared.reply.Claim.TheVariants.{Unsat, Bound}

-- a bound from below is wanted where the least is, and one from above where the greatest is
abbrev pub IsSideOf : ModelGoal → Op → Type 0
IsSideOf Satisfy op = ⊥
IsSideOf (Minimize place) op = op ≡ Ge
IsSideOf (Maximize place) op = op ≡ Le

-- no assignment that satisfies the model beats the bound
pub record IsBest (m : Plan) (op : Op) (value : ℤ) : Type 0 where
  pub side : IsSideOf m.goal op
  pub none : (s : ℕ → ℤ) (v : ℤ) → Satisfies m s → objective_of m s ≡ Some v → compares op v value ≡ true

-- the claim is true of the model
abbrev pub IsTrueOf : Plan → Claim → Type 0
IsTrueOf m Unsat = IsUnsatisfiable m
IsTrueOf m (Bound name op value) = IsBest m op value
