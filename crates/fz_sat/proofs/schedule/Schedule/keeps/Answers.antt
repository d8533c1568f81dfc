-- All keep the capacity where those that are left do.
use Rattle.std.proofs.Common.{◌<◌, ◌≤◌, ◌+◌, ◌&&◌, sym, ◌∙◌, ap, subst, arith}
use Rattle.std.proofs.lemmas.Int.{ints}
use Rattle.std.specs.List.{list_all}
use Rattle.fz_sat.specs.Globals.{keeps_around}
use Rattle.fz_sat.specs.Satisfies.{valuation}
use Rattle.fz_sat.specs.Schedules.{element_tasks}
use Rattle.fz_sat.proofs.Usages.{all_more, all_none, kept, tasks_from}
use Rattle.fz_sat.proofs.schedule.Schedule.keeps.Goals as goal

pub returns-then-not-keeps_around : goal.returns-then-not-keeps_around
returns-then-not-keeps_around c =
    let self = c.args.self.now in
    let s = valuation self.values.now in
    let i = c.loop-place.place in
    let tasks = element_tasks self.items.now s self.starts.now self.durations.now self.uses.now in
    let p = keeps_around tasks self.capacity in
    let step = all_more p self.items.now s self.starts.now self.durations.now self.uses.now i c.keeps_around.result (subst (λ n. i < n) c.len-place-end.ensures c.loop-place-test.true) c.keeps_around.ensures in
    let rest = list_all p (tasks_from self.items.now s self.starts.now self.durations.now self.uses.now (i + 1)) in
    kept tasks self.capacity _ (omega (arith, ints, c.if-self-lt0.false)) (sym (sym c.loop-place.invariant ∙ step ∙ ap (λ b. b && rest) c.if-not-keeps_around.true))

pub loop-place-preserved : goal.loop-place-preserved
loop-place-preserved c =
    let self = c.args.self.now in
    let s = valuation self.values.now in
    let i = c.loop-place.place in
    let tasks = element_tasks self.items.now s self.starts.now self.durations.now self.uses.now in
    let p = keeps_around tasks self.capacity in
    let step = all_more p self.items.now s self.starts.now self.durations.now self.uses.now i c.keeps_around.result (subst (λ n. i < n) c.len-place-end.ensures c.loop-place-test.true) c.keeps_around.ensures in
    let rest = list_all p (tasks_from self.items.now s self.starts.now self.durations.now self.uses.now (i + 1)) in
    sym (sym c.loop-place.invariant ∙ step ∙ ap (λ b. b && rest) c.if-not-keeps_around.false)

pub returns : goal.returns
returns c =
    let self = c.args.self.now in
    let s = valuation self.values.now in
    let i = c.loop-place.place in
    let tasks = element_tasks self.items.now s self.starts.now self.durations.now self.uses.now in
    let p = keeps_around tasks self.capacity in
    let none = all_none p self.items.now s self.starts.now self.durations.now self.uses.now i (subst (λ n. n ≤ i) c.len-place-end.ensures c.loop-place-test.false) in
    kept tasks self.capacity _ (omega (arith, ints, c.if-self-lt0.false)) (sym (sym c.loop-place.invariant ∙ none))
