-- There is no number exactly where there is no interval.
use Rattle.std.proofs.Common.{◌∙◌, ap, arith}
use Rattle.dp_domain.specs.States.{is_nil}
use Rattle.dp_domain.proofs.ExpandLaws.{is_nil-expand}
use Rattle.dp_domain.proofs.dom.Dom.is_empty.Goals as goal

pub returns : goal.returns
returns c = c.is_empty.ensures ∙ is_nil-expand c.self.inside.intervals.items _ c.self.invariant.apart (omega arith) ∙ ap is_nil c.self.view_is
