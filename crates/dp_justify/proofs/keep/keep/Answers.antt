-- The premises speak of variables of the initial state.
use Rattle.std.proofs.Common.{List, ◌∙◌, subst, sym}
use Rattle.dp_domain.specs.Atoms.{Atomic}
use Rattle.dp_domain.specs.States.{AreOf, Domains}
use Rattle.dp_parts.specs.Problems.{posed}
use Rattle.dp_justify.specs.Taking.{source_face}
use Rattle.dp_justify.proofs.KeepLaws.{explanation-of}
use Rattle.dp_justify.proofs.keep.keep.Goals as goal

pub enter-requires-clause-premises : goal.enter-requires-clause-premises
enter-requires-clause-premises c =
    subst (λ (d : Domains). AreOf d c.as_slice-2.result.now) (sym c.initial.ensures.state)
    (subst (λ (atoms : List Atomic). AreOf c.args.problem.now.initial atoms) (sym (c.as_slice-2.ensures.value ∙ c.in_ok-premises.ensures.explanation))
    (explanation-of (source_face (posed c.args.problem.now) c.args.nogoods.now c.args.turn.now.source) c.args.problem.now.initial c.args.before.now c.args.turn.now.target c.requires.turn.explainable))
