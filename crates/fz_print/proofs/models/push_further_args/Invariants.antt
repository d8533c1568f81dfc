use Rattle.std.proofs.Common.{◌≡◌, ◌++◌, drop}
use Rattle.fz_print.specs.Printed.{further_text, expr_text}
use Rattle.fz_print.proofs.models.push_further_args.Given as goal

abbrev pub invariant-loop-arg : goal.invariant-loop-arg
invariant-loop-arg l =
    l.text.items ++ further_text (expr_text l.items) (drop l.arg-index l.args)
    ≡ l.fn.text.items ++ further_text (expr_text l.items) l.args
