-- The text is that of the model, which is read as it.
use Rattle.std.specs.Prelude.{◌≡◌, ◌≤◌, ℕ, List, Ok, length}
use Rattle.std.proofs.Common.{sym, subst}
use Rattle.fz_items.specs.Answers.{max_bytes, model_text}
use Rattle.fz_print.proofs.RoundTrip.{round_trip}
use Rattle.fz_print.proofs.models.print_model.Goals as goal

pub returns-clause-read : goal.returns-clause-read
returns-clause-read c =
    subst (λ (t : List ℕ). length t ≤ max_bytes → model_text t ≡ Ok c.args.model.now) (sym c.in_ok-text.ensures) (round_trip c.args.model.now c.goal-goal.ensures.model)
