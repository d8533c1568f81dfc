use Rattle.std.proofs.Common.{◌∙◌}
use Rattle.dp_gen.proofs.TextLemmas.{model_pushed}
use Rattle.dp_gen.proofs.model.model_of.Goals as goal

pub returns : goal.returns
returns c =
    c.new.ensures
    ∙ model_pushed c.args.n c.new-text.result.items c.push_declarations.new.text.items c.push_clauses.new.text.items c.extend_from_slice.new.self.items
    c.new-text.ensures.items c.in_ok-push_declarations.ensures c.in_ok-push_clauses.ensures c.in_ok-extend_from_slice.ensures.items
