-- When lines and bytes are accepted, with what they conclude.
use Rattle.std.specs.Prelude.{◌≡◌, ◌≤◌, ◌^◌, ℕ, Option, Some, None, Ok, List, [], ◌∷◌, ◌++◌, length, map}
use Rattle.dp_base.specs.Lists.{Each}
use Rattle.dp_domain.specs.declared.verdict.Verdict.{Verdict}
use Rattle.dp_domain.specs.declared.verdict.Verdict.TheVariants.{Unsat, Bound}
use Rattle.dp_lines.specs.Allowed.{IsAllowed}
use Rattle.dp_lines.specs.Spelling.{fields_text}
use Rattle.dp_lines.specs.declared.line.Line.{Line}
use Rattle.dp_parts.specs.Posed.{Posed}
use Rattle.dp_checker.specs.Judged.{judge_all}
use Rattle.dp_checker.specs.Known.{Known, nothing}
use Rattle.dp_judge.specs.Logs.{judged_log}
use Rattle.dp_judge.specs.declared.answer.LogAnswer.TheVariants.{Accepted}
use Rattle.dp_writer.specs.Atoms.{Named}
use Rattle.dp_writer.specs.Steps.{Step, lines, text_of}
use Rattle.dp_writer.specs.Steps.Step.{Conclusion}
use Rattle.dp_replay.specs.Judging.{IsReplayed}

-- the verdict of a conclusion
abbrev pub verdict_of : Option Named → Verdict
verdict_of None = Unsat
verdict_of (Some bound) = Bound bound.atom

-- no test refuses a line, however they are numbered, and this is concluded
abbrev pub IsAccepted : Posed → List Line → Verdict → Type 0
IsAccepted p ls verdict =
    (given : List (ℕ × Line)) → map (λ line. line.1) given ≡ ls → (known : Known) × (judge_all p (Ok nothing) given ≡ Ok known) × (known.conclusion ≡ Some verdict)

-- the lines have no byte too many for a log, alone and together
pub record AreShort (ls : List Line) (bytes : List ℕ) : Type 0 where
  pub lines : Each (λ line. length (fields_text line) ≤ 2 ^ 24) ls
  pub text : length bytes ≤ 2 ^ 40

-- where each step passes, the lines of the log are accepted with its conclusion
abbrev pub Replays : Type 0
Replays = (p : Posed) (steps : List Step) (bound : Option Named) → IsReplayed p steps bound
    → IsAccepted p (lines (steps ++ Conclusion bound ∷ [])) (verdict_of bound)

-- and so are its bytes, where no line is too long
abbrev pub ReplaysText : Type 0
ReplaysText = (p : Posed) (steps : List Step) (bound : Option Named) → IsReplayed p steps bound
    → Each IsAllowed (lines (steps ++ Conclusion bound ∷ [])) → AreShort (lines (steps ++ Conclusion bound ∷ [])) (text_of (steps ++ Conclusion bound ∷ []))
    → judged_log p (text_of (steps ++ Conclusion bound ∷ [])) ≡ Accepted (verdict_of bound)
