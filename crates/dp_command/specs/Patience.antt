-- Which lines were read before a read fault.
use Rattle.std.specs.Prelude.{◌≡◌, Option, List, ℕ}
use Rattle.dp_desk.specs.Channel.{Channel, Files}
use Rattle.dp_judge.specs.Logs.{has_no_refusal}
use Rattle.dp_lower.specs.Problem.{problem_of}
use Rattle.dp_parts.specs.Problems.{posed}
use Rattle.dp_scaffold.specs.Texts as texts
use Rattle.dp_show.specs.Logs as logs
use Rattle.fz_model.specs.Models.{Plan}
use Rattle.dp_command.specs.Pieces.{IsPatient}
use Rattle.dp_command.specs.Replies.{IsGiven}
use Rattle.dp_command.specs.Words.{Request, Check, Show, Process, Solve, Prove, Gen, Spells}

-- The log or scaffold that is asked for was not opened, or none of its lines that were read whole is refused; one that is not asked for is as it was, and where no input is asked for there is no read fault.
abbrev pub HasPatience : Option Files → Request → Channel → Channel → Type 0
HasPatience names (Check model log) was now = (m : Plan) → IsGiven names model m → IsPatient (has_no_refusal (posed (problem_of m))) names log was now
HasPatience names (Show log) was now = IsPatient logs.has_no_refusal names log was now
HasPatience names (Process model scaffold out workers) was now = (m : Plan) → IsGiven names model m → IsPatient (texts.has_no_refusal (posed (problem_of m))) names scaffold was now
HasPatience names (Solve model out most) was now = now ≡ was
HasPatience names (Prove model workers most) was now = now ≡ was
HasPatience names (Gen n model scaffold) was now = ⊥

-- the words are a command, and this holds of the log or scaffold that it asks for
pub record WasPatient (names : Option Files) (words : List (List ℕ)) (was now : Channel) : Type 0 where
  pub request : Request
  pub asked : Spells request words
  pub patience : HasPatience names request was now
