use Rattle.dp_grammar.specs.Grammar.{Takes, Stops}
use Rattle.fz_items.specs.Gives.{cause_of}
use Rattle.fz_items.specs.Notes.{notes, notes_of}
use Rattle.fz_items.proofs.Closings.{end_behind, end_stop}
use Rattle.fz_items.proofs.Exits.{gives_refused, gives_stop}
use Rattle.fz_items.proofs.constraint.end_item.Goals as goal

pub returns-in_err-annotations-clause-reads : goal.returns-in_err-annotations-clause-reads
returns-in_err-annotations-clause-reads c =
    gives_stop notes_of _ (notes c.args.source.now.left) _ _ c.in_err-annotations.field-0.0 c.annotations.new.source.left c.from_residual.ensures.1
    (λ cause e. end_stop c.args.source.now.left cause c.annotations.new.source.left e) c.in_err-annotations.ensures.reads

pub returns-in_err-mark-clause-reads : goal.returns-in_err-mark-clause-reads
returns-in_err-mark-clause-reads c =
    gives_refused _ _ _ c.in_err-mark.field-0.0 _ c.from_residual-in_err-mark.ensures.1
    (end_behind c.args.source.now.left (notes_of c.in_ok-annotations.field-0) c.annotations.new.source.left (Stops (cause_of c.in_err-mark.field-0.0) c.mark.new.self.left) c.in_ok-annotations.ensures.reads c.in_err-mark.ensures.reads)

pub returns-clause-reads : goal.returns-clause-reads
returns-clause-reads c =
    end_behind c.args.source.now.left (notes_of c.in_ok-annotations.field-0) c.annotations.new.source.left (Takes tt c.mark.new.self.left) c.in_ok-annotations.ensures.reads c.in_ok-mark.ensures.reads
