-- A model whose problem is found was read to its end.
use Rattle.std.specs.Prelude.{◌<◌, ℕ, List, length}
use Rattle.std.proofs.Common.{subst}
use Rattle.dp_command.proofs.Checks.{found_ended}
use Rattle.dp_command.proofs.finding.read_problem.Goals as goal

pub returns-clause-ended : goal.returns-clause-ended
returns-clause-ended g c =
    found_ended c.in_ok-find_problem.field-0 c.as_slice.result.now (g.D.Desk.sight c.read_whole.new.desk).model c.in_ok-find_problem.ensures.found
    (λ k. c.in_ok-text.ensures.end (subst (λ (t : List ℕ). length t < 67108865) c.as_slice.ensures.value k))
