-- The bytes of lines are read as the lines.
use Rattle.std.proofs.Common.{◌≡◌, ℕ, ◌+◌, ◌≤◌, ◌^◌, Option, None, Ok, List, [], ◌∷◌, ◌++◌, length, length-append, map, ap, ◌∙◌, refl, arith}
use Rattle.std.specs.List.{flat_map}
use Rattle.dp_base.specs.Lists.{Each}
use Rattle.dp_lines.specs.Allowed.{IsAllowed}
use Rattle.dp_lines.specs.Lines.{Lines, lines as lines_in, lines_behind, with_line}
use Rattle.dp_lines.specs.RawLines.{raw_lines}
use Rattle.dp_lines.specs.Spelling.{fields_text, line_text}
use Rattle.dp_lines.specs.declared.line.Line.{Line}
use Rattle.dp_lines.proofs.RoundTrip.{log_again}
use Rattle.dp_parts.specs.Posed.{Posed}
use Rattle.dp_checker.specs.Judged.{judge_all, verdict_of as verdict_behind}
use Rattle.dp_checker.specs.Known.{nothing}
use Rattle.dp_judge.specs.Logs.{answer_after, conclude, judged_log, limits}
use Rattle.dp_judge.specs.declared.answer.LogAnswer.TheVariants.{Accepted}
use Rattle.dp_domain.specs.declared.verdict.Verdict.{Verdict}
use Rattle.dp_writer.specs.Atoms.{Named}
use Rattle.dp_writer.specs.Steps.{Step, lines, text_of}
use Rattle.dp_writer.specs.Steps.Step.{Conclusion}
use Rattle.dp_replay.specs.Accepting.{AreShort, IsAccepted, verdict_of}
use Rattle.dp_replay.specs.Judging.{IsReplayed}
use Rattle.dp_replay.proofs.EntryLemmas.{entries}
use Rattle.dp_replay.proofs.ReplayLemmas.{replays}

abbrev IsShort : Line → Type 0
IsShort line = length (fields_text line) ≤ 2 ^ 24

-- the lines with these numbers, and no refusal
abbrev read_as : ℕ → List Line → Lines
read_as count ls = record { given = entries count ls; refusal = None }

lines_again : (count passed : ℕ) (ls : List Line) → Each IsAllowed ls → Each IsShort ls → passed + length (flat_map line_text ls) ≤ 2 ^ 40
    → lines_behind limits count passed (raw_lines (flat_map line_text ls)) ≡ read_as count ls
lines_again count passed [] allowed short few = refl
lines_again count passed (line ∷ ls) allowed short few =
    let rest : List ℕ = flat_map line_text ls in
    let size : length (line_text line ++ rest) ≡ length (line_text line) + length rest = length-append (line_text line) rest in
    log_again limits count passed line rest allowed.0 short.0 (omega arith)
    ∙ ap (with_line (count + 1) line) (lines_again (count + 1) (passed + length (line_text line)) ls allowed.1 short.1 (omega arith))

numbers_gone : (count : ℕ) (ls : List Line) → map (λ line. line.1) (entries count ls) ≡ ls
numbers_gone count [] = refl
numbers_gone count (line ∷ ls) = ap (λ l. line ∷ l) (numbers_gone (count + 1) ls)

-- so the bytes are accepted where the lines are
text_accepted : (p : Posed) (ls : List Line) (verdict : Verdict) → Each IsAllowed ls → AreShort ls (flat_map line_text ls) → IsAccepted p ls verdict
    → judged_log p (flat_map line_text ls) ≡ Accepted verdict
text_accepted p ls verdict allowed short accepted =
    let text : List ℕ = flat_map line_text ls in
    let count : ℕ = length (raw_lines text) in
    let read : lines_in limits text ≡ read_as 0 ls = lines_again 0 0 ls allowed short.lines (omega (arith, short.text)) in
    let known = accepted (entries 0 ls) (numbers_gone 0 ls) in
    ap (λ (l : Lines). answer_after (judge_all p (Ok nothing) l.given) l count) read
    ∙ ap (λ r. answer_after r (read_as 0 ls) count) known.1
    ∙ ap (λ c. conclude (verdict_behind count c)) known.2

pub replays_text : (p : Posed) (steps : List Step) (bound : Option Named) → IsReplayed p steps bound
    → Each IsAllowed (lines (steps ++ Conclusion bound ∷ [])) → AreShort (lines (steps ++ Conclusion bound ∷ [])) (text_of (steps ++ Conclusion bound ∷ []))
    → judged_log p (text_of (steps ++ Conclusion bound ∷ [])) ≡ Accepted (verdict_of bound)
replays_text p steps bound h allowed short = text_accepted p (lines (steps ++ Conclusion bound ∷ [])) (verdict_of bound) allowed short (replays p steps bound h)
