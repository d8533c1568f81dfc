use Rattle.std.proofs.Common.{◌≡◌, ℕ, ◌+◌, refl, subst, arith}
use Rattle.dp_writer.specs.Steps.{Step}
use Rattle.dp_writer.specs.Written.{Adds, Written, conclusion}
use Rattle.dp_writer.proofs.WrittenLemmas.{adds_lines, on_both}
use Rattle.dp_writer.proofs.writer.Writer.conclude.Goals as goal

same_count : (n : ℕ) → n ≡ n + 0
same_count n = omega arith

pub returns-clause-written : goal.returns-clause-written
returns-clause-written c =
    let step : Step = conclusion c.args.problem.now c.args.claim in
    let old : Written = record { atoms = c.self.inside.atoms.keys; count = c.self.inside.count; text = c.self.inside.text.items } in
    let new : Written = record { atoms = c.settle.new.atoms.keys; count = c.self.inside.count; text = c.settle.new.text.items } in
    on_both c.settle.result
    (λ kept spelled. subst (λ (w : Written). Adds w step new) c.self.view_is
    (adds_lines (λ v. v.items) c.conclusion_lines-lines.result old new c.conclusion_lines-lines.new.atoms.keys 0 step
    c.conclusion_lines-lines.ensures.writes kept spelled (λ n e. refl) (same_count c.self.inside.count)))
    c.settle.ensures.atoms c.settle.ensures.text
