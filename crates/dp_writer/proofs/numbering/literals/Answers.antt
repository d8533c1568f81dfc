use Rattle.std.proofs.Common.{ℕ, ◌<◌, length, List, [], ◌∷◌, ◌++◌, ℤ, ap, ◌∙◌, arith, rules, w64}
use Rattle.std.proofs.lemmas.Int.{to_z-of_z}
use mir.Val.{SFits}
use Rattle.dp_domain.specs.Atoms.{Atomic}
use Rattle.dp_writer.proofs.OrderLemmas.{kept_on, literals_more, defines_more}
use Rattle.dp_writer.proofs.numbering.literals.Goals as goal

pub loop-atom-preserved : goal.loop-atom-preserved
loop-atom-preserved c =
    let i : ℕ = c.loop-atom.atom-index in
    let used : List Atomic = c.args.used.now in
    let within : i < length used = omega arith in
    let old : List Atomic = c.args.atoms.now.keys in
    let mid : List Atomic = c.loop-atom.atoms.keys in
    let fits : SFits w64 c.in_ok-literal.literal = search rules in
    record {
      kept = kept_on old mid c.literal.new.atoms.keys c.loop-atom.invariant.kept c.in_ok-literal.ensures.kept;
      literals = c.in_ok-push.ensures.items ∙ ap (λ (x : ℤ). c.loop-atom.literals.items ++ x ∷ []) (to_z-of_z w64 c.in_ok-literal.literal fits) ∙ literals_more c.args.problem.now used i c.atom-item.result old mid c.loop-atom.literals.items c.in_ok-literal.literal within c.atom-item.is
          c.loop-atom.invariant.defines.table c.loop-atom.invariant.literals c.in_ok-literal.ensures.literal;
      defines = defines_more c.args.problem.now used i c.atom-item.result old mid c.literal.new.atoms.keys c.args.text.now.items c.loop-atom.text.items c.literal.new.text.items within c.atom-item.is
          c.loop-atom.invariant.defines c.in_ok-literal.ensures.defines;
    }
