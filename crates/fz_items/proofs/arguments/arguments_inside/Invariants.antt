use Rattle.std.proofs.Common.{◌≡◌, ◌≤◌, length, map}
use Rattle.dp_grammar.specs.Listed.{listed}
use Rattle.fz_model.specs.Constraints.{behind}
use Rattle.fz_model.specs.Limits.{max_elements}
use Rattle.fz_items.specs.Arguments.{arg_words, args_listing}
use Rattle.fz_items.proofs.Lists.{IsListed}
use Rattle.fz_items.proofs.arguments.arguments_inside.Given as goal

abbrev pub invariant-items : goal.invariant-items
invariant-items l =
    let listing = args_listing l.fn.names l.kind in
    record {
      listed : IsListed listing ((listed listing).read l.fn.source.left) (map arg_words l.args.items) l.source.left;
      text : l.source.text ≡ l.fn.source.text;
      counted : l.names ≡ behind l.fn.names (map arg_words l.args.items);
      room : l.names.elements ≤ max_elements;
    }

abbrev pub decreases-items : goal.decreases-items
decreases-items l = length l.source.left
