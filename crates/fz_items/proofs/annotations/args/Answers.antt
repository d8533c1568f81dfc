use Rattle.std.proofs.Common.{ap, rules, ◌∙◌, None}
use Rattle.dp_grammar.specs.Chain.{mapped}
use Rattle.fz_items.proofs.Exits.{gives_stop}
use Rattle.fz_items.proofs.NoteLaws.{args_over}
use Rattle.fz_items.proofs.annotations.args.Goals as goal

pub returns-in_err-balanced-clause-reads : goal.returns-in_err-balanced-clause-reads
returns-in_err-balanced-clause-reads c =
    gives_stop {Y = Unit {0}} _ _ _ _ _ c.in_err-balanced.field-0.0 _ c.from_residual-in_err-balanced.ensures.1
    (λ cause e. args_over c.args.counts c.args.source.now.left c.mark.new.self.left tt c.if-counts.false (search rules) c.in_ok-mark.ensures.reads ∙ ap (mapped (λ u. None)) e) c.in_err-balanced.ensures.reads

pub returns-clause-reads : goal.returns-clause-reads
returns-clause-reads c =
    args_over c.args.counts c.args.source.now.left c.mark.new.self.left tt c.if-counts.false (search rules) c.in_ok-mark.ensures.reads ∙ ap (mapped (λ u. None)) c.in_ok-balanced.ensures.reads
