-- The mirrored spans are spans, of which none are crowded, in any order.
use Rattle.dp_rule_alldiff.proofs.TightLaws.{mirrored_calm, mirrored_longest, mirrored_spans}
use Rattle.dp_rule_alldiff.proofs.tight.tight_intervals.Goals as goal

pub longest-requires-2-clause-spans : goal.longest-requires-2-clause-spans
longest-requires-2-clause-spans c = mirrored_spans c.args.spans.now _ _ _ c.in_ok-mirrored.ensures c.in_order-reversed.ensures.same c.deref.ensures.value c.requires.spans

pub longest-requires-2-clause-calm : goal.longest-requires-2-clause-calm
longest-requires-2-clause-calm c = mirrored_calm c.args.spans.now _ _ _ c.in_ok-mirrored.ensures c.in_order-reversed.ensures.same c.deref.ensures.value c.requires.spans c.requires.calm

pub returns-clause-to : goal.returns-clause-to
returns-clause-to c = mirrored_longest c.args.spans.now _ _ _ c.in_ok-to.to.items c.in_ok-mirrored.ensures c.in_order-reversed.ensures.same c.deref.ensures.value c.in_ok-to.ensures
