use Rattle.std.proofs.Common.{Option, sym, ap, ◌∙◌}
use Rattle.fz_items.specs.Notes.{closing_all, opened}
use Rattle.fz_items.specs.declared.brackets.Shape.{Shape}
use Rattle.fz_items.proofs.Balance.{all_closed}
use Rattle.fz_items.proofs.brackets.pass_over.Goals as goal

pub returns-clause-reads : goal.returns-clause-reads
returns-clause-reads c =
    sym c.words.invariant.0 ∙ ap (λ (top : Option Shape). closing_all (opened top c.words.below.items) c.words.source.left) c.in_default.is ∙ all_closed c.words.source.left
