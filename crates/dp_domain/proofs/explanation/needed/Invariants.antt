use Rattle.std.proofs.Common.{◌≡◌, [], ◌++◌, drop}
use Rattle.dp_domain.specs.Explanations.{failing, needed}
use Rattle.dp_domain.specs.States.{cut_all}
use Rattle.dp_domain.proofs.explanation.needed.Given as goal

-- what is needed of the atoms that are left, with those kept, is what is needed of all, and the state is cut by these
abbrev pub invariant-loop-place : goal.invariant-loop-place
invariant-loop-place g l = record {
  same : needed (g.R.Test.face l.rule) l.fn.initial l.target l.kept.items (drop l.place l.atoms) ≡ needed (g.R.Test.face l.rule) l.fn.initial l.target [] l.atoms;
  base : l.work.base ≡ l.fn.initial;
  state : l.work.present ≡ cut_all l.fn.initial ((l.kept.items ++ drop l.place l.atoms) ++ failing l.target);
}
