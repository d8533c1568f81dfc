use Rattle.dp_lower.specs.Cuts.{own_sets}
use Rattle.dp_lower.proofs.CutLaws.{below_here, count_here, items_all, items_more, items_none}
use Rattle.dp_lower.proofs.domains.domains_of.Goals as goal

pub loop-item-init : goal.loop-item-init
loop-item-init c = items_none c.args.items.now c.in_ok-sets.sets.items (own_sets c.args.items.now c.args.items.now) c.in_ok-sets.ensures

pub cut_by-requires-clause-count : goal.cut_by-requires-clause-count
cut_by-requires-clause-count c = count_here c.args.items.now c.loop-item.item-index c.loop-item.sets.items c.loop-item.invariant

pub cut_by-requires-clause-below : goal.cut_by-requires-clause-below
cut_by-requires-clause-below c = below_here c.args.items.now c.loop-item.item-index c.item-item.result c.loop-item.sets.items c.requires.numbered c.loop-item-test.true c.item-item.is c.loop-item.invariant

pub loop-item-preserved : goal.loop-item-preserved
loop-item-preserved c = items_more c.args.items.now c.loop-item.item-index c.item-item.result (own_sets c.args.items.now c.args.items.now) c.loop-item.sets.items c.cut_by.new.sets.items c.loop-item-test.true c.item-item.is c.loop-item.invariant c.in_ok-cut_by.ensures

pub returns : goal.returns
returns c = items_all c.args.items.now c.loop-item.item-index c.loop-item.sets.items c.requires.numbered c.loop-item-test.false c.loop-item.invariant
