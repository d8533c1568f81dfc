-- No constant is refused where there is no test of it.
use Rattle.std.specs.Prelude.{is_none, List, Option, ℤ}
use Rattle.std.specs.List.{list_any}
use Rattle.std.proofs.Common.{◌∙◌, ap, sym}
use Rattle.fz_model.proofs.LimitLaws.{nothing_refused}
use Rattle.fz_model.proofs.constants.Integers.refuses_variable.Goals as goal

pub returns-else-self : goal.returns-else-self
returns-else-self c =
    nothing_refused c.args.self.now c.args.fault
    (ap (λ (es : List (Option ℤ)). list_any is_none es) (sym c.self.view_is) ∙ sym c.self.invariant.0 ∙ c.if-self.false)
