use Rattle.std.proofs.Common.{◌≡◌, ◌+◌, ◌<◌, [], ◌∷◌, length, refl, sym, ◌∙◌, ap, arith, length-append}
use Rattle.dp_engine.specs.Debts.{History}
use Rattle.dp_engine.specs.Trails.{all_of}
use Rattle.dp_engine.proofs.DebtLaws.{gone-lasting, gone-length, kept-back}
use Rattle.dp_engine.proofs.StateSteps.{take-all}
use Rattle.dp_engine.proofs.TrailLaws.{take-back}
use Rattle.dp_engine.proofs.engine.go_back.Goals as goal

pub loop-trail-preserved : goal.loop-trail-preserved
loop-trail-preserved c =
    let one = length-append c.back-var.new.self.past (c.back-var.new.self.present ∷ []) in
    let less : length c.loop-trail.trail.past ≡ length c.back-var.new.self.past + 1 = ap (λ ds. length ds) c.back-var.ensures.past ∙ one in
    let before : c.args.mark < length c.loop-trail.trail.past = omega arith in
    record {
      mark = omega arith;
      kept = λ parts k. kept-back parts c.loop-trail.debts c.back.new.self c.loop-trail.trail c.back-var.new.self c.back.ensures c.back-var.ensures.past (c.loop-trail.invariant.kept parts k);
      bits = ap (λ (h : History). length h.now) c.back.ensures ∙ gone-length c.loop-trail.debts.lasting c.loop-trail.debts.notes c.loop-trail.debts.now ∙ c.loop-trail.invariant.bits;
      lasting = ap (λ (h : History). h.lasting) c.back.ensures ∙ gone-lasting c.loop-trail.debts.lasting c.loop-trail.debts.notes c.loop-trail.debts.now ∙ c.loop-trail.invariant.lasting;
      states = sym (take-back (all_of c.loop-trail.trail) c.loop-trail.trail.past c.back-var.new.self.past c.loop-trail.trail.present c.back-var.new.self.present c.args.mark refl c.back-var.ensures.past before)
          ∙ c.loop-trail.invariant.states;
    }

pub returns-clause-states : goal.returns-clause-states
returns-clause-states c =
    let one = length-append c.loop-trail.trail.past (c.loop-trail.trail.present ∷ []) in
    let least = c.loop-trail.invariant.mark in
    let count : c.args.mark + 1 ≡ length (all_of c.loop-trail.trail) = omega arith in
    sym (take-all (all_of c.loop-trail.trail) (c.args.mark + 1) count) ∙ c.loop-trail.invariant.states
