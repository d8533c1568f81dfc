-- The tasks of the values are those of the elements.
use Rattle.std.proofs.Common.{◌≡◌, of_z, to_z, map, sym, ◌∙◌, ap, arith}
use Rattle.std.proofs.lemmas.Int.{ints}
use mir.Syntax.{w64}
use Rattle.dp_domain.specs.Terms.{term_at}
use Rattle.fz_sat.specs.Args.{arg_elements, terms_of}
use Rattle.fz_sat.specs.Globals.{keeps_capacity, tasks_of}
use Rattle.fz_sat.specs.Satisfies.{valuation}
use Rattle.fz_sat.specs.Schedules.{element_tasks}
use Rattle.fz_sat.proofs.Usages.{tasks-elements}
use Rattle.fz_sat.proofs.schedule.schedule_holds.Goals as goal

pub returns : goal.returns
returns c =
    let row = c.args.row.now in
    let s = valuation row.values.now in
    let starts = arg_elements row.items.now row.args.now 0 in
    let durations = arg_elements row.items.now row.args.now 1 in
    let uses = arg_elements row.items.now row.args.now 2 in
    let arrays = ap (λ bs. element_tasks row.items.now s bs c.elements-2.result.now c.elements-3.result.now) c.elements.ensures ∙ ap (λ bs. element_tasks row.items.now s starts bs c.elements-3.result.now) c.elements-2.ensures ∙ ap (element_tasks row.items.now s starts durations) c.elements-3.ensures in
    let tasks = arrays ∙ sym (tasks-elements row.items.now s starts durations uses) in
    let read : to_z w64 (of_z w64 c.number.result) ≡ c.number.result = omega (arith, ints, c.number.type_inv) in
    c.keeps.ensures ∙ ap (keeps_capacity (element_tasks row.items.now s c.elements.result.now c.elements-2.result.now c.elements-3.result.now)) read ∙ ap (λ ts. keeps_capacity ts c.number.result) tasks ∙ ap (keeps_capacity (tasks_of (map (term_at s) (terms_of row.items.now starts)) (map (term_at s) (terms_of row.items.now durations)) (map (term_at s) (terms_of row.items.now uses)))) c.number.ensures
