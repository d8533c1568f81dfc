-- The arguments make a schedule.
use mir.Syntax.{w64}
use mir.Val.{SFits}
use Rattle.std.proofs.Common.{List, ◌∙◌, ap, rules}
use Rattle.std.proofs.lemmas.Int.{to_z-of_z}
use Rattle.fz_model.specs.declared.model.Basic.{Basic}
use Rattle.fz_sat.specs.Args.{terms_of}
use Rattle.dp_lower.specs.Globals.{numbers_in}
use Rattle.dp_lower.proofs.GlobalLaws.{proper_args}
use Rattle.dp_lower.proofs.globals.scheduled.Goals as goal

pub schedule-requires : goal.schedule-requires
schedule-requires c =
    let fits : SFits w64 c.arg_number.result = search rules in
    proper_args c.args.items.now c.args.args.now _ _ _ _ c.requires.fit c.requires.paired c.in_ok-starts.ensures
    (c.in_ok-durations.ensures ∙ ap (λ (elements : List Basic). numbers_in (terms_of c.args.items.now elements)) c.arg_elements.ensures)
    (c.in_ok-uses.ensures ∙ ap (λ (elements : List Basic). numbers_in (terms_of c.args.items.now elements)) c.arg_elements-2.ensures)
    (to_z-of_z w64 c.arg_number.result fits ∙ c.arg_number.ensures.number)
