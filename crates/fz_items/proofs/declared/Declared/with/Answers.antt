use Rattle.std.proofs.Common.{sym, ◌∙◌}
use Rattle.fz_items.proofs.States.{kept_other}
use Rattle.fz_items.proofs.declared.Declared.with.Goals as goal

pub invariant_of-result : goal.invariant_of-result
invariant_of-result c =
    rw (c.in_ok-declare.ensures.declared, c.in_ok-push.ensures.items) (kept_other c.self.inside.names c.self.inside.items.items c.self.inside.own c.in_ok-copied.field-0 c.args.meant c.args.item c.self.invariant (c.requires.named ∙ sym c.in_ok-copied.ensures) c.requires.other)
