-- Each task adds what it uses at the time.
use Rattle.std.proofs.Common.{◌≡◌, ◌<◌, ◌≤◌, ◌^◌, ◌+◌, ◌+ℤ◌, of_z, to_z, sym, subst, rules, arith}
use Rattle.std.proofs.lemmas.Int.{ints}
use mir.Syntax.{w128}
use Rattle.fz_sat.specs.Satisfies.{valuation}
use Rattle.fz_sat.proofs.Usages.{IsUsedSoFar, used_all, used_more}
use Rattle.fz_sat.proofs.schedule.Schedule.usage_at.Goals as goal

pub loop-place-preserved : goal.loop-place-preserved
loop-place-preserved c =
    let self = c.args.self.now in
    let s = valuation self.values.now in
    let t = to_z w128 (of_z w128 c.args.time) in
    let used = to_z w128 c.loop-place.usage-bits in
    let p = c.used_by.result in
    let same : c.from-usage.result ≡ p = omega (arith, ints, c.from-usage.ensures, c.used_by.type_inv) in
    let small : c.loop-place.place < 2 ^ 63 = search rules in
    let read : to_z w128 (of_z w128 (used +ℤ to_z w128 (of_z w128 c.from-usage.result))) ≡ used +ℤ p = omega (arith, ints, same, small, c.used_by.type_inv, c.loop-place.invariant.bounded.0, c.loop-place.invariant.bounded.1) in
    subst (IsUsedSoFar self.items.now s self.starts.now self.durations.now self.uses.now t (c.loop-place.place + 1)) (sym read)
    (used_more self.items.now s self.starts.now self.durations.now self.uses.now t c.loop-place.place used p (subst (λ n. c.loop-place.place < n) c.len-place-end.ensures c.loop-place-test.true) c.used_by.ensures (omega (arith, ints, c.used_by.type_inv), omega (arith, ints, c.used_by.type_inv)) c.loop-place.invariant)

pub returns : goal.returns
returns c =
    let self = c.args.self.now in
    let s = valuation self.values.now in
    let used = to_z w128 c.loop-place.usage-bits in
    let read : to_z w128 (of_z w128 c.args.time) ≡ c.args.time = search rules in
    used_all self.items.now s self.starts.now self.durations.now self.uses.now c.args.time c.loop-place.place used (subst (λ n. n ≤ c.loop-place.place) c.len-place-end.ensures c.loop-place-test.false)
    (subst (λ t. IsUsedSoFar self.items.now s self.starts.now self.durations.now self.uses.now t c.loop-place.place used) read c.loop-place.invariant)
