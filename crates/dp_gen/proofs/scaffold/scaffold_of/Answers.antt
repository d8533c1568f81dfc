use Rattle.std.proofs.Common.{◌∙◌}
use Rattle.dp_gen.proofs.TextLemmas.{scaffold_pushed}
use Rattle.dp_gen.proofs.scaffold.scaffold_of.Goals as goal

pub returns : goal.returns
returns c =
    c.new.ensures
    ∙ scaffold_pushed c.args.n c.new-text.result.items c.extend_from_slice.new.self.items c.push_blocks.new.text.items c.extend_from_slice-2.new.self.items
    c.new-text.ensures.items c.in_ok-extend_from_slice.ensures.items c.in_ok-push_blocks.ensures c.in_ok-extend_from_slice-2.ensures.items
