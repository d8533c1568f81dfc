use Rattle.std.proofs.Common.{rules, sym, ◌∙◌}
use Rattle.fz_items.proofs.WholeReads.{one_read, one_shortens, stopped_read}
use Rattle.fz_items.proofs.items.items.Goals as goal

pub returns-in_err-declared-clause-reads : goal.returns-in_err-declared-clause-reads
returns-in_err-declared-clause-reads c =
    stopped_read c.args.source.now.left c.items.source.left c.item.new.source.left c.items.declared _ c.in_err-declared.field-0.0 c.from_residual.ensures.1
    (sym c.is_item.ensures ∙ c.items-test.true) c.items.invariant.0 c.in_err-declared.ensures.reads

pub items-smaller : goal.items-smaller
items-smaller c = one_shortens c.args.source.now.left c.items.source.left c.item.new.source.left c.items.declared c.in_ok-declared.declared c.in_ok-declared.ensures.reads c.items.invariant.0

pub items-preserved : goal.items-preserved
items-preserved c = (
  one_read c.args.source.now.left c.items.source.left c.item.new.source.left c.items.declared c.in_ok-declared.declared (sym c.is_item.ensures ∙ c.items-test.true) c.in_ok-declared.ensures.reads c.items.invariant.0,
  search rules,
)
