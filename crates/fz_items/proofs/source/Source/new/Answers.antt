use Rattle.std.proofs.Common.{rules}
use Rattle.fz_items.specs.Standing.{left_of}
use Rattle.fz_items.proofs.Streams.{all_left, none_behind}
use Rattle.fz_items.proofs.source.Source.new.Goals as goal

pub invariant_of-result : goal.invariant_of-result
invariant_of-result c = (
  search rules,
  all_left c.args.text.now (left_of c.next-present.result c.next-ahead.result c.next-ahead.new.self) (search rules) c.new-tokens.ensures.in_order,
  none_behind c.args.text.now (left_of c.next-present.result c.next-ahead.result c.next-ahead.new.self) (search rules),
)
