-- The scaffold that a solver writes: the nogoods that it learned, in order, then its claim, if any.
use Rattle.std.specs.Prelude.{ℕ, List, [], ◌++◌, map, Option}
use Rattle.std.specs.Option.{option_to_list}
use Rattle.dp_domain.specs.Atoms.{Atomic}
use Rattle.dp_domain.specs.declared.verdict.Verdict.{Verdict}
use Rattle.dp_parts.specs.Problems.{Csp}
use Rattle.dp_writer.specs.Steps.{Step, text_of}
use Rattle.dp_writer.specs.Written.{conclusion, nogood}

-- its steps; the nogoods have no hints
abbrev pub steps_of : Csp → List (List Atomic) → Option Verdict → List Step
steps_of p nogoods claim = map (λ atoms. nogood p atoms []) nogoods ++ map (conclusion p) (option_to_list claim)

-- its text
abbrev pub scaffold_of : Csp → List (List Atomic) → Option Verdict → List ℕ
scaffold_of p nogoods claim = text_of (steps_of p nogoods claim)
