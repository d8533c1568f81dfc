use Rattle.std.proofs.Common.{rules, ◌∙◌, ap}
use Rattle.fz_items.specs.States.{State, variable_effect}
use Rattle.fz_items.specs.Variables.{variable_text}
use Rattle.fz_items.proofs.States.{kept_with_variable, variable_stands}
use Rattle.fz_items.proofs.declared.Declared.with_variable.Goals as goal

pub invariant_of-result : goal.invariant_of-result
invariant_of-result c =
    rw (c.count_variable.ensures, c.count_elements.ensures, c.in_ok-declare.ensures.declared, c.in_ok-push.ensures.items)
    (kept_with_variable c.self.inside.names c.self.inside.items.items c.self.inside.own c.in_ok-name.name c.variable_meant.result c.listed.result c.in_ok-item.item c.in_ok-item.own (variable_text c.args.text) c.self.invariant
    (search rules) (search rules) (search rules) (search rules) (search rules) (search rules))

pub returns : goal.returns
returns c =
    rw (c.count_variable.ensures, c.count_elements.ensures, c.in_ok-declare.ensures.declared, c.in_ok-push.ensures.items)
    (variable_stands c.self.inside.names c.self.inside.items.items c.self.inside.own c.in_ok-name.name c.variable_meant.result c.listed.result c.in_ok-item.item (variable_text c.args.text) c.self.invariant.counted
    (search rules) (search rules) (search rules) (search rules)
    ∙ ap (λ (s : State). variable_effect s (variable_text c.args.text)) c.self.view_is)
