use Rattle.std.proofs.Common.{map, Vec, Global}
use Rattle.fz_items.specs.declared.argument.ArgWords.{ArgWords}
use Rattle.dp_grammar.specs.Grammar.{Takes, Stops}
use Rattle.fz_model.specs.Constraints.{arguments}
use Rattle.fz_items.specs.Arguments.{arg_words}
use Rattle.fz_items.specs.ConstraintItems.{item_end}
use Rattle.dp_grammar.specs.Chain.{mapped}
use Rattle.fz_items.proofs.ConstraintReads.{words_end, words_stop}
use Rattle.fz_items.proofs.Exits.{gives_stop}
use Rattle.fz_items.proofs.constraint.constraint_words.Goals as goal

pub returns-in_err-args-clause-reads : goal.returns-in_err-args-clause-reads
returns-in_err-args-clause-reads c =
    gives_stop {Y = Vec ArgWords Global} (λ v. map arg_words v.items) _ ((arguments c.args.names.now c.in_ok-name.kind).read c.constraint_name.new.source.left) _ _ c.in_err-args.field-0.0 c.arguments.new.source.left
    c.from_residual-in_err-args.ensures.1
    (λ cause e. words_stop c.args.names.now c.args.count c.args.source.now.left c.constraint_keyword.new.source.left c.constraint_name.new.source.left c.in_ok-name.name.now c.in_ok-name.kind cause c.arguments.new.source.left
    c.in_ok-constraint_keyword.ensures.reads c.in_ok-name.ensures.reads c.in_ok-name.ensures.kind e)
    c.in_err-args.ensures.reads

pub returns-in_err-end_item-clause-reads : goal.returns-in_err-end_item-clause-reads
returns-in_err-end_item-clause-reads c =
    gives_stop {Y = Unit {0}} (λ u. u) _ (mapped (λ notes. tt {0}) (item_end.read c.arguments.new.source.left)) _ _ c.in_err-end_item.field-0.0 c.end_item.new.source.left
    c.from_residual-in_err-end_item.ensures.1
    (λ cause e. words_end c.args.names.now c.args.count c.args.source.now.left c.constraint_keyword.new.source.left c.constraint_name.new.source.left c.arguments.new.source.left c.in_ok-name.name.now c.in_ok-name.kind (map arg_words c.in_ok-args.args.items)
    c.in_ok-constraint_keyword.ensures.reads c.in_ok-name.ensures.reads c.in_ok-name.ensures.kind c.in_ok-args.ensures.reads (Stops cause c.end_item.new.source.left) e)
    c.in_err-end_item.ensures.reads

pub returns-clause-reads : goal.returns-clause-reads
returns-clause-reads c =
    words_end c.args.names.now c.args.count c.args.source.now.left c.constraint_keyword.new.source.left c.constraint_name.new.source.left c.arguments.new.source.left c.in_ok-name.name.now c.in_ok-name.kind (map arg_words c.in_ok-args.args.items)
    c.in_ok-constraint_keyword.ensures.reads c.in_ok-name.ensures.reads c.in_ok-name.ensures.kind c.in_ok-args.ensures.reads (Takes tt c.end_item.new.source.left) c.in_ok-end_item.ensures.reads
