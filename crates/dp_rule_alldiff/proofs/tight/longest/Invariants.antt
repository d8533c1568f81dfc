-- The longest from the spans so far.
use Rattle.std.proofs.Common.{take}
use Rattle.dp_rule_alldiff.proofs.TightLaws.{AreLongestFrom}
use Rattle.dp_rule_alldiff.proofs.tight.longest.Given as goal

abbrev pub invariant-loop-span : goal.invariant-loop-span
invariant-loop-span l = AreLongestFrom l.spans (take l.span-index l.spans) l.intervals.items
