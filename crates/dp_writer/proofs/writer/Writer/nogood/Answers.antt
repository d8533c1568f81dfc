use Rattle.std.proofs.Common.{ℕ, ◌+◌, ◌∙◌, ap, subst}
use Rattle.dp_writer.specs.Numbering.{step_lines}
use Rattle.dp_writer.specs.Steps.{Step}
use Rattle.dp_writer.specs.Written.{Adds, Written, nogood}
use Rattle.dp_writer.proofs.WrittenLemmas.{adds_lines}
use Rattle.dp_writer.proofs.writer.Writer.nogood.Goals as goal

pub returns-clause-written : goal.returns-clause-written
returns-clause-written c =
    let step : Step = nogood c.args.problem.now c.args.atoms.now c.args.hints.now in
    let old : Written = record { atoms = c.self.inside.atoms.keys; count = c.self.inside.count; text = c.self.inside.text.items } in
    let new : Written = record { atoms = c.settle.new.atoms.keys; count = c.in_ok-number.number; text = c.settle.new.text.items } in
    subst (λ (w : Written). Adds w step new) c.self.view_is
    (adds_lines (λ v. v.items) c.nogood_lines-lines.result old new c.nogood_lines-lines.new.atoms.keys c.in_ok-number.number step
    c.nogood_lines-lines.ensures.writes c.in_ok-settle.ensures.atoms c.in_ok-settle.ensures.text
    (λ n e. ap (λ (k : ℕ). step_lines old.atoms k step) (c.in_ok-number.ensures.0 ∙ ap (λ (k : ℕ). k + 1) e))
    c.in_ok-number.ensures.0)
