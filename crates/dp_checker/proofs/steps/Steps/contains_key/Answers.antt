use Rattle.std.proofs.Common.{List, ℕ, is_some, ◌∙◌, ap}
use Rattle.dp_domain.specs.Atoms.{Atomic}
use Rattle.dp_checker.specs.Known.{found}
use Rattle.dp_checker.proofs.StoredLaws.{some-where}
use Rattle.dp_checker.proofs.steps.Steps.contains_key.Goals as goal

pub returns : goal.returns
returns c =
    c.contains_key.ensures ∙ some-where c.self.inside.atoms.items c.self.inside.runs.entries c.args.id
    ∙ ap (λ (steps : List (ℕ × List Atomic)). is_some (found c.args.id steps)) c.self.view_is
