use Rattle.std.proofs.Common.{◌≡◌, [], ◌∙◌, sym, subst}
use Rattle.std.proofs.lemmas.Result.{IfOk-weaker}
use Rattle.dp_domain.specs.Explanations.{Explains, needed}
use Rattle.dp_domain.proofs.ScopeLaws.{Covers-count}
use Rattle.dp_domain.proofs.ExplanationSteps.{described_as, of_scope_of}
use Rattle.dp_domain.proofs.ExplanationLaws.{explanation-explains}
use Rattle.dp_domain.proofs.explanation.search_explanation.Goals as goal

pub needed-requires-clause-atoms : goal.needed-requires-clause-atoms
needed-requires-clause-atoms g c =
    let s = described_as c.args.initial.now c.args.now.now (g.R.Test.face c.args.rule.now).scope _ _ _ (c.as_slice.ensures.value ∙ c.in_ok-scope.ensures) c.as_slice-2.ensures.value c.in_ok-description.ensures.meaning in
    of_scope_of (g.R.Test.face c.args.rule.now).scope c.args.initial.now c.as_slice-2.result.now
    (Covers-count (g.R.Test.face c.args.rule.now).scope c.args.now.now c.args.initial.now (sym c.requires.within.count) c.requires.covers) s.of_scope

pub returns-clause-meaning : goal.returns-clause-meaning
returns-clause-meaning g c =
    let s = described_as c.args.initial.now c.args.now.now (g.R.Test.face c.args.rule.now).scope _ _ _ (c.as_slice.ensures.value ∙ c.in_ok-scope.ensures) c.as_slice-2.ensures.value c.in_ok-description.ensures.meaning in
    IfOk-weaker c.needed.result (λ kept. kept.items ≡ needed (g.R.Test.face c.args.rule.now) c.args.initial.now c.args.target [] c.as_slice-2.result.now) (λ atoms. Explains (g.R.Test.face c.args.rule.now) c.args.initial.now c.args.now.now c.args.target atoms.items)
    (λ kept e. subst (Explains (g.R.Test.face c.args.rule.now) c.args.initial.now c.args.now.now c.args.target) (sym e)
    (explanation-explains (g.R.Test.face c.args.rule.now) c.args.initial.now c.args.now.now c.args.target c.as_slice-2.result.now (g.met.R.Test.lawful c.args.rule.now) c.requires.covers c.requires.alive c.requires.within c.requires.open c.requires.clash s))
    c.needed.ensures.kept
