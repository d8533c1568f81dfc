use mir.Syntax.{w64}
use mir.Val.{SFits}
use Rattle.std.proofs.Common.{rules, sym, ◌∙◌}
use Rattle.std.proofs.lemmas.Int.{to_z-of_z}
use Rattle.fz_sat.specs.Args.{term_of}
use Rattle.dp_lower.specs.Small.{small_numbers}
use Rattle.dp_lower.proofs.CutLaws.{first_const}
use Rattle.dp_lower.proofs.domains.first_domain.Goals as goal

pub returns-in_ok-cut-in-Const : goal.returns-in_ok-cut-in-Const
returns-in_ok-cut-in-Const c =
    let fits : SFits w64 c.in-Const.number = search rules in
    let one = rw (to_z-of_z w64 c.in-Const.number fits) at c.in_ok-set-in-Const.ensures in
    rw c.in-Some.is (first_const c.args.kind.now (term_of c.args.items.now c.in-Some.basic) c.in-Const.number c.in_ok-set-in-Const.set c.cut.new.set small_numbers (sym c.term_of.ensures ∙ c.in-Const.is) one c.in_ok-cut-in-Const.ensures)
