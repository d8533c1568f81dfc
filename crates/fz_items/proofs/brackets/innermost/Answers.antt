use Rattle.std.proofs.Common.{List, ◌∷◌, ap, sym, ◌∙◌}
use Rattle.fz_model.specs.Words.{Bracket}
use Rattle.fz_items.specs.Notes.{bracket_of, brackets_of, closing_all}
use Rattle.fz_items.proofs.Balance.{brackets_pushed}
use Rattle.fz_items.proofs.brackets.innermost.Goals as goal

pub returns-in_ok-push-in-Opens-clause-ok : goal.returns-in_ok-push-in-Opens-clause-ok
returns-in_ok-push-in-Opens-clause-ok c =
    λ left rest. rw c.in-Opens.is (ap (λ (bs : List Bracket). closing_all (bracket_of c.in-Opens.shape ∷ bs) rest) (sym (ap brackets_of c.in_ok-push-in-Opens.ensures.items ∙ brackets_pushed c.args.below.now.items c.args.top)))
