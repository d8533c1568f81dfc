-- One set more is put back.
use Rattle.std.proofs.Common.{◌≡◌, ◌<◌, ℕ, length, ◌∙◌, ap, subst, sym}
use Rattle.std.proofs.lemmas.List.{length-set}
use Rattle.dp_base.specs.Lists.{Each}
use Rattle.dp_domain.specs.States.{Domains}
use Rattle.dp_domain.specs.declared.scratch.Replaced.{Replaced}
use Rattle.dp_domain.proofs.ScratchLaws.{put_back-popped, variables-popped}
use Rattle.dp_domain.proofs.scratch.undo.Goals as goal

pub loop-last-preserved : goal.loop-last-preserved
loop-last-preserved c =
    let count : length c.give_back.new.present ≡ length c.loop-last.present =
    ap (λ (d : Domains). length d) c.give_back.ensures ∙ length-set c.loop-last.present c.in-Some.last.var c.in-Some.last.set in
    record {
      variables = subst (λ (n : ℕ). Each (λ (r : Replaced). r.var < n) c.pop.new.self.items) (sym count)
          (variables-popped c.pop.new.self.items c.loop-last.replaced.items c.in-Some.last (length c.loop-last.present) c.in-Some.ensures.items c.loop-last.invariant.variables).0;
      same = put_back-popped c.pop.new.self.items c.loop-last.replaced.items c.in-Some.last c.loop-last.present c.give_back.new.present c.in-Some.ensures.items c.give_back.ensures ∙ c.loop-last.invariant.same;
    }
