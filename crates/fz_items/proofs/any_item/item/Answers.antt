use Rattle.std.proofs.Common.{sym, subst}
use Rattle.dp_grammar.specs.Grammar.{Reading}
use Rattle.fz_model.specs.Words.{Word}
use Rattle.fz_model.specs.declared.fault.Fault.{Fault}
use Rattle.fz_items.specs.Gives.{Gives}
use Rattle.fz_items.specs.States.{State}
use Rattle.fz_items.proofs.ItemLaws.{item_reads}
use Rattle.fz_items.proofs.any_item.item.Goals as goal

pub returns-clause-reads : goal.returns-clause-reads
returns-clause-reads c =
    subst (λ (r : Reading Word Fault State). Gives {X = State} {Y = State} (λ d. d) r c.told.result c.told.new.source.left)
    (sym (item_reads c.args.declared c.told.ensures.named c.args.source.now.left)) c.told.ensures.reads
