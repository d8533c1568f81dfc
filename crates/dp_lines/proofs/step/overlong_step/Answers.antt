use Rattle.std.proofs.Common.{◌≡◌, ℕ, ◌≤◌, List, sym, ◌∙◌, ap, arith, length, take, true}
use Rattle.dp_lines.specs.Kept.{has_no_feed}
use Rattle.dp_lines.specs.Readers.{IsFull}
use Rattle.dp_lines.specs.declared.step.First.{First}
use Rattle.dp_lines.specs.declared.step.First.TheVariants.{Refusal}
use Rattle.dp_lines.specs.declared.refusal.LineRefusal.{LineRefusal}
use Rattle.dp_lines.specs.declared.step.Step.{Step}
use Rattle.dp_lines.proofs.OverlongLaws.{over_ended, over_fed, over_open}
use Rattle.dp_lines.proofs.RawLaws.{prefix_whole}
use Rattle.dp_lines.proofs.step.overlong_step.Goals as goal
use Rattle.dp_lines.proofs.step.overlong_step.Goals.{then-len-held, else-len-held+then-ended, else-len-held+else-ended}

full : (limit clear : ℕ) (held : List ℕ) → clear ≡ limit → clear ≤ length held → has_no_feed (take clear held) ≡ true → IsFull limit held
full limit clear held e le h = record { full = omega (arith, e, le); unfed = sym (ap (λ (n : ℕ). has_no_feed (take n held)) e) ∙ h }

-- a step that passes nothing, by what comes first
abbrev stays : ℕ → First → Step
stays count first = record { first = first; count = count; used = 0 }

pub returns-clause-step : goal.returns-clause-step
returns-clause-step c =
    let is = full c.args.limits.line c.args.clear c.args.held.now c.requires.full c.requires.cleared c.requires.no_feed in
    elim c.if-len-held.branch [
      | then-len-held w ↦
          ap (stays c.args.count) (w.first-is ∙ ap (λ (r : LineRefusal). Refusal r) w.by_length.ensures)
          ∙ sym (over_fed c.args.limits c.args.ended c.args.passed c.args.count c.args.beyond c.first_len-len.result c.args.held.now is c.requires.counted c.first_len-len.ensures.value w.if-len-held.true)
      | else-len-held+then-ended w ↦
          ap (stays c.args.count) (w.first-is ∙ ap (λ (r : LineRefusal). Refusal r) w.by_length-then-ended.ensures)
          ∙ rw w.if-ended.true (sym (over_ended c.args.limits c.args.passed c.args.count c.args.beyond c.first_len-len.result c.args.held.now is c.requires.counted c.first_len-len.ensures.value c.first_len-len.ensures.within w.if-len-held.false))
      | else-len-held+else-ended w ↦
          ap (stays c.args.count) w.first-is
          ∙ rw w.if-ended.false (sym (over_open c.args.limits c.args.passed c.args.count c.args.beyond c.first_len-len.result c.args.held.now is c.requires.counted c.first_len-len.ensures.value w.if-len-held.false))
    ]

pub returns-clause-nothing : goal.returns-clause-nothing
returns-clause-nothing c =
    elim c.if-len-held.branch [
      | then-len-held w ↦ λ e. (let f = sym w.first-is ∙ e in absurd cc)
      | else-len-held+then-ended w ↦ λ e. (let f = sym w.first-is ∙ e in absurd cc)
      | else-len-held+else-ended w ↦ λ e. prefix_whole c.args.held.now (omega (arith, c.first_len-len.ensures.value, w.if-len-held.false))
    ]
