use Rattle.std.proofs.Common.{◌≡◌, ◌<◌, List, Bool, [], length, get_or, sym, ◌∙◌, ap, subst, arith}
use Rattle.dp_domain.specs.States.{Domains}
use Rattle.dp_domain.proofs.StateLaws.{length-cut}
use Rattle.dp_engine.specs.Trails.{all_of}
use Rattle.dp_engine.specs.Woken.{ArePlaces, IsIndex}
use Rattle.dp_engine.proofs.StateSteps.{begins-then, cut-step}
use Rattle.dp_engine.proofs.WokenLaws.{with_woken-length}
use Rattle.dp_engine.proofs.engine.cut_each.Goals as goal

pub go_on-requires-clause-places : goal.go_on-requires-clause-places
go_on-requires-clause-places c = subst (λ n. ArePlaces n c.args.occurrences.now) (sym c.loop-atom.invariant.bits) c.requires.places

pub returns-in_err-go_on-clause-counts : goal.returns-in_err-go_on-clause-counts
returns-in_err-go_on-clause-counts c = λ n h. c.go_on.ensures.counts n (c.loop-atom.invariant.counts n h)

pub loop-atom-preserved : goal.loop-atom-preserved
loop-atom-preserved c =
    let there : c.loop-atom.atom-index < length c.args.atoms.now = omega (arith, c.loop-atom-test.true) in
    let present = c.in_ok-go_on.ensures.present in
    record {
      kept = λ parts i k. c.in_ok-go_on.ensures.kept parts (subst (λ n. IsIndex n parts c.args.occurrences.now) (sym c.loop-atom.invariant.sets) i) (c.loop-atom.invariant.kept parts i k);
      bits = ap (λ (ws : List Bool). length ws) c.in_ok-go_on.ensures.woken ∙ with_woken-length c.loop-atom.debts.now (get_or c.args.occurrences.now c.atom-item.result.var []) ∙ c.loop-atom.invariant.bits;
      lasting = c.go_on.ensures.lasting ∙ c.loop-atom.invariant.lasting;
      counts = λ n h. c.go_on.ensures.counts n (c.loop-atom.invariant.counts n h);
      states = begins-then (all_of c.args.trail.now) (all_of c.loop-atom.trail) (all_of c.go_on.new.trail) c.loop-atom.invariant.states c.go_on.ensures.states;
      sets = ap (λ (d : Domains). length d) present ∙ length-cut c.loop-atom.trail.present c.atom-item.result ∙ c.loop-atom.invariant.sets;
      cut = cut-step c.loop-atom.trail.present c.go_on.new.trail.present c.args.atoms.now c.loop-atom.atom-index c.atom-item.result there c.atom-item.is present ∙ c.loop-atom.invariant.cut;
    }
