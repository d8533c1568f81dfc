use Rattle.std.proofs.Common.{rules, true, length, map, ap, ◌∙◌}
use Rattle.fz_model.specs.Context.{Context}
use Rattle.fz_model.specs.ModelText.{array_of}
use Rattle.fz_items.specs.Seen.{basic_text}
use Rattle.fz_items.specs.States.{State, consts_kept, with_count}
use Rattle.fz_items.proofs.States.{stands}
use Rattle.fz_items.proofs.arrayed.with_consts.Goals as goal

pub returns : goal.returns
returns c =
    let text = c.args.text.now in
    let words = map basic_text text.elements.items in
    c.counted.ensures ∙ ap (λ (d : State). with_count d c.count.result) c.in_ok-declared.ensures
    ∙ stands c.args.declared c.names.result.now text.name.now (λ (context : Context). consts_kept context text.bools text.name.now words) (λ (context : Context). array_of context text.bools true words) c.count.result (length words) c.in_ok-item.item c.in_ok-item.meant
    (search rules) (search rules) (search rules) (search rules)
