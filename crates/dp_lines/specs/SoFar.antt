-- The lines of a text that is still coming.
use Rattle.std.specs.Prelude.{ℕ, List, [], ◌∷◌, filter}
use Rattle.dp_lines.specs.Lines.{Lines, lines_behind}
use Rattle.dp_lines.specs.RawLines.{Raw, raw_lines}
use Rattle.dp_lines.specs.Readers.{State, left_unless, standing}
use Rattle.dp_lines.specs.Runs.{Call, Feed, End, Ask}
use Rattle.dp_lines.specs.declared.refusal.Limits.{Limits}

-- the lines whose end has come
abbrev pub whole_lines : List ℕ → List Raw
whole_lines text = filter (λ raw. raw.fed) (raw_lines text)

-- the lines of a text so far: those whose end has come, up to the first refusal
abbrev pub lines_so_far : Limits → List ℕ → Lines
lines_so_far limits text = lines_behind limits 0 0 (whole_lines text)

-- those that a reader has not given yet
abbrev pub left_so_far : State → Lines
left_so_far s = left_unless s.refusal (lines_behind s.limits s.count s.passed (whole_lines (standing s)))

-- calls by which the text does not end
abbrev pub HasNoEnd : List Call → Type 0
HasNoEnd [] = Unit {0}
HasNoEnd (Feed piece ∷ calls) = HasNoEnd calls
HasNoEnd (End ∷ calls) = ⊥
HasNoEnd (Ask ∷ calls) = HasNoEnd calls
