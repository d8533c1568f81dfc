use Rattle.std.proofs.Common.{◌≡◌, take}
use Rattle.dp_domain.specs.Explanations.{description}
use Rattle.dp_domain.proofs.ExplanationSteps.{AreSets}
use Rattle.dp_domain.proofs.description.describe.Given as goal

-- the description of the variables so far, whose values ascend
abbrev pub invariant-loop-var : goal.invariant-loop-var
invariant-loop-var l = record {
  atoms : l.atoms.items ≡ description l.fn.initial l.now (take l.var-index l.scope);
  sets : AreSets l.fn.initial l.now (take l.var-index l.scope);
}
