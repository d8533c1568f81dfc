use Rattle.std.proofs.Common.{List, length, sym, ◌∙◌, ap, subst}
use Rattle.dp_domain.specs.Atoms.{Atomic}
use Rattle.dp_domain.specs.States.{Domains}
use Rattle.dp_domain.proofs.StateLaws.{length-cut_all}
use Rattle.dp_checker.specs.Kept.{AreBelow}
use Rattle.dp_checker.proofs.Below.{below_base, literals_below}
use Rattle.dp_checker.proofs.Loops.{each_below}
use Rattle.dp_checker.proofs.nogood.judge_nogood.Goals as goal

pub start_with-requires : goal.start_with-requires
start_with-requires c =
    subst (λ (atoms : List Atomic). AreBelow (length c.args.scratch.now.base) atoms) (sym (c.as_slice.ensures ∙ c.in_ok-denial.ensures))
    (below_base c.args.scratch.now.base c.args.problem.now.initial _ c.requires.base
    (literals_below (length c.args.problem.now.initial) c.args.facts.now.atoms.entries c.requires.kept.atoms c.args.atoms.now))

pub prove-requires : goal.prove-requires
prove-requires c =
    each_below _ (length c.args.problem.now.initial) c.args.facts.now.steps
    (ap (λ (d : Domains). length d) c.in_ok-start_with.ensures.start ∙ length-cut_all c.args.scratch.now.base c.as_slice.result.now ∙ ap (λ (d : Domains). length d) c.requires.base) c.requires.kept.steps
