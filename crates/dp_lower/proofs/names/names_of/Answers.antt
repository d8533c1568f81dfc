use Rattle.dp_lower.proofs.NameLaws.{fresh_here, named_more}
use Rattle.dp_lower.proofs.names.names_of.Goals as goal

pub add_item-requires-clause-fresh : goal.add_item-requires-clause-fresh
add_item-requires-clause-fresh c = fresh_here c.args.items.now c.loop-item.item-index c.item-item.result c.loop-item.names.entries c.loop-item.own.items c.loop-item-test.true c.item-item.is c.loop-item.invariant c.requires.apart

pub loop-item-preserved : goal.loop-item-preserved
loop-item-preserved c = named_more c.args.items.now c.loop-item.item-index c.item-item.result c.loop-item.names.entries c.add_item.new.names.entries c.loop-item.own.items c.add_item.new.own.items c.loop-item-test.true c.item-item.is c.in_ok-add_item.ensures.names c.in_ok-add_item.ensures.own c.loop-item.invariant
