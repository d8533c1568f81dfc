use mir.Syntax.{w64}
use mir.Val.{SFits}
use Rattle.std.proofs.Common.{◌∙◌, arith, sym}
use Rattle.std.proofs.lemmas.Int.{ints, to_z-of_z}
use Rattle.dp_lines.specs.Fields.{literals}
use Rattle.dp_lines.specs.Figures.{is_nought, literal_at}
use Rattle.dp_lines.proofs.AllowedLaws.{literal_read}
use Rattle.dp_lines.proofs.ManyLaws.{goes_on}
use Rattle.dp_lines.proofs.fields.literals.Goals as goal

pub loop-literals-preserved : goal.loop-literals-preserved
loop-literals-preserved c =
    let large = literal_read c.loop-literals.words.end c.loop-literals.words.words c.literal.new.words.words c.in_ok-literal.field-0 c.in_ok-literal.ensures.0 in
    let fits : SFits w64 c.in_ok-literal.field-0 = omega (arith, ints, large.0, large.1) in
    rw (c.in_ok-push.ensures.items, to_z-of_z w64 c.in_ok-literal.field-0 fits) (
      goes_on is_nought literal_at c.loop-literals.words.end c.loop-literals.words.words c.literal.new.words.words c.loop-literals.literals.items c.in_ok-literal.field-0 (literals c.args.words.now.words)
          (sym c.stops_at_nought.ensures ∙ c.loop-literals-test.true) c.in_ok-literal.ensures.0 c.loop-literals.invariant.0,
      c.in_ok-literal.ensures.1 ∙ c.loop-literals.invariant.1,
    )
