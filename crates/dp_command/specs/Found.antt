-- What is found where a model is read.
use Rattle.std.specs.Prelude.{◌≡◌, ◌↔◌, ℕ, Option, Ok, Err, List, ℤ}
use Rattle.dp_desk.specs.Channel.{Files}
use Rattle.dp_domain.specs.declared.verdict.Verdict.{Verdict}
use Rattle.dp_judge.specs.Logs.{IsOfGoal}
use Rattle.dp_checker.specs.Kept.{IsRight}
use Rattle.dp_lower.specs.Problem.{problem_of}
use Rattle.dp_parts.specs.Problems.{Csp, IsProblem, IsSolution}
use Rattle.fz_items.specs.Answers.{model_text}
use Rattle.fz_model.specs.Models.{Plan}
use Rattle.fz_sat.specs.Satisfies.{Satisfies}
use Rattle.dp_command.specs.Inputs.{IsRead}
use Rattle.dp_command.specs.Truths.{IsTrueOf}
use Rattle.dp_command.specs.Named.{claim_of}
use Rattle.dp_command.specs.Replies.{most_of_model}
use Rattle.dp_command.specs.declared.finding.Found.{Found}
use Rattle.dp_command.specs.declared.finding.Found.TheVariants.{Problem, Refusal}

-- the problem is the model's, is lawful and has its solutions, and what is right of it, as a conclusion on the goal, is true of the model
pub record IsProblemOf (m : Plan) (p : Csp) : Type 0 where
  pub posed : p ≡ problem_of m
  pub sound : IsProblem p
  pub same : (s : ℕ → ℤ) → Satisfies m s ↔ IsSolution s p
  pub true_of : (v : Verdict) → IsRight p v → IsOfGoal p v → IsTrueOf m (claim_of p v)

-- the text spells this model, whose problem this is
pub record Poses (text : List ℕ) (m : Plan) (p : Csp) : Type 0 where
  pub spelled : model_text text ≡ Ok m
  pub problem : IsProblemOf m p

-- the model that the text spells with its problem, or the refusal of the text
abbrev pub IsFoundIn : List ℕ → Found → Type 0
IsFoundIn text (Problem m p) = Poses text m p
IsFoundIn text (Refusal refusal) = model_text text ≡ Err refusal

-- this is found in the bytes that are read of the model of this name
pub record IsFound (names : Option Files) (name : List ℕ) (what : Found) : Type 0 where
  pub text : List ℕ
  pub read : IsRead most_of_model names name text
  pub found : IsFoundIn text what

abbrev pub IsProblemFound : Found → Type 0
IsProblemFound (Problem m p) = Unit {0}
IsProblemFound (Refusal refusal) = ⊥
