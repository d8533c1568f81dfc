-- What proving a model ends with, by the own names of variables.
use Rattle.std.specs.Prelude.{◌≡◌, ℕ, ◌≤◌, ◌^◌}
use Rattle.dp_judge.specs.Logs.{IsOfGoal}
use Rattle.dp_learning.specs.Sorts.{sort_count}
use Rattle.dp_parts.specs.Problems.{Csp}
use Rattle.dp_solver.specs.Outcomes.{IsDecided}
use Rattle.fz_model.specs.Models.{Plan}
use Rattle.fz_prove.specs.Proofs.{Proves}
use Rattle.fz_prove.specs.declared.proof.Proof.{Proof}
use Rattle.fz_prove.specs.declared.proof.Proof.TheVariants as proof
use Rattle.dp_command.specs.Named.{claim_of}
use Rattle.dp_command.specs.Truths.{IsTrueOf}
use Rattle.dp_command.specs.declared.proving.Proving.{Proving}
use Rattle.dp_command.specs.declared.proving.Proving.TheVariants.{Solved, Unknown, Accepted, Unread, ScaffoldRefused, NotFollowing, LogRefused}

-- what a proof of the problem ends with
abbrev pub proving_of : Csp → Proof → Proving
proving_of p (proof.Solved text) = Solved text
proving_of p (proof.Unknown text) = Unknown text
proving_of p (proof.Accepted text verdict) = Accepted text (claim_of p verdict)
proving_of p (proof.ScaffoldUnread refusal) = Unread refusal
proving_of p (proof.ScaffoldRefused refusal text) = ScaffoldRefused refusal text
proving_of p (proof.NotFollowing place number id) = NotFollowing number id
proving_of p (proof.LogUnread refusal) = Unread refusal
proving_of p (proof.LogRefused refusal text) = LogRefused refusal text

-- a verdict that is accepted is on the problem's goal
abbrev pub IsAimed : Csp → Proof → Type 0
IsAimed p (proof.Accepted text verdict) = IsOfGoal p verdict
IsAimed p end = Unit {0}

-- a claim that is accepted is true of the model
abbrev pub IsTrueProving : Plan → Proving → Type 0
IsTrueProving m (Accepted text claim) = IsTrueOf m claim
IsTrueProving m proving = Unit {0}

-- The model, with this problem, is solved with at most so many nogoods, and the scaffold is processed and checked; it ends so,
-- and what is accepted is true of the model. With room for as many nogoods as there are sets of sorts of atoms the outcome is known.
pub record IsProving (m : Plan) (p : Csp) (most : ℕ) (proving : Proving) : Type 0 where
  pub end : Proof
  pub proves : Proves m p most end
  pub told : proving ≡ proving_of p end
  pub holds : IsTrueProving m proving
  pub decided : 2 ^ sort_count p.initial ≤ most → IsDecided proves.outcome
