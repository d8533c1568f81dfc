use Rattle.std.proofs.Common.{◌++◌, ◌∙◌, ap}
use Rattle.std.specs.Prelude.{codes}
use Rattle.fz_print.specs.Printed.{arguments_text}
use Rattle.fz_print.proofs.Pieces.{behind_two}
use Rattle.fz_print.proofs.models.push_constraint.Goals as goal

pub returns : goal.returns
returns c =
    behind_two c.args.text.now.items (codes "constraint ") c.args.constraint.now.name (arguments_text c.args.items.now c.args.constraint.now.args) _ _
    c.in_ok-push_required.ensures (c.in_ok-push_arguments.ensures ∙ ap (λ args. c.push_required.new.text.items ++ arguments_text c.args.items.now args) c.as_slice.ensures)
