use Rattle.dp_lower.proofs.CutLaws.{any_default, elements_more, elements_none}
use Rattle.dp_lower.proofs.domains.cut_elements.Goals as goal

pub loop-element-init : goal.loop-element-init
loop-element-init c = elements_none c.args.items.now c.args.elements.now c.args.kind.now c.args.sets.now.items

pub loop-element-preserved : goal.loop-element-preserved
loop-element-preserved c = elements_more c.args.items.now c.args.elements.now c.loop-element.element-index _ c.args.kind.now c.args.sets.now.items c.loop-element.sets.items c.cut_element.new.sets.items c.loop-element-test.true (any_default c.args.elements.now c.loop-element.element-index _ _ c.loop-element-test.true) c.loop-element.invariant c.in_ok-cut_element.ensures
