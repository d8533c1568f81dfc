-- A variable of its own adds the set of its type and definition.
use Rattle.dp_lower.proofs.CutLaws.{own_more}
use Rattle.dp_lower.proofs.domains.push_own.Goals as goal

pub returns-in_ok-push-in-Var : goal.returns-in_ok-push-in-Var
returns-in_ok-push-in-Var c =
    own_more c.args.items.now c.args.item.now c.in-Var.name c.in-Var.kind c.in-Var.output c.in-Var.value c.in-Var.var c.is_alias.result c.args.sets.now.items c.push.new.self.items
    c.in_ok-first_domain-in-Var.field-0 c.in-Var.is c.is_alias.ensures c.if-is_alias.false c.in_ok-first_domain-in-Var.ensures c.in_ok-push-in-Var.ensures.items
