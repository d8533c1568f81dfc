-- No more atoms are kept than there are.
use Rattle.std.proofs.Common.{◌↔◌, List, length, ap, arith, subst, sym, ◌∙◌}
use Rattle.std.proofs.lemmas.Bool.{false≢true}
use Rattle.dp_base.specs.Lists.{Among}
use Rattle.dp_domain.specs.Atoms.{Atomic}
use Rattle.dp_rule_clause.specs.Nogoods.{IsOnce}
use Rattle.dp_rule_clause.proofs.AtomSteps.{length-once, once_each, once_same}
use Rattle.dp_rule_clause.proofs.nogood.Nogood.new.Goals as goal

pub returns-in_err-scope-clause-few : goal.returns-in_err-scope-clause-few
returns-in_err-scope-clause-few c = λ few. absurd (false≢true (c.in_err-scope.ensures.few (let a = length-once c.args.atoms.now in omega (arith, a, few, ap length (c.as_slice.ensures ∙ c.in_ok-atoms.ensures.atoms)))))

pub returns-clause-once : goal.returns-clause-once
returns-clause-once c = subst IsOnce (sym c.in_ok-atoms.ensures.atoms) (once_each c.args.atoms.now)

pub returns-clause-same : goal.returns-clause-same
returns-clause-same c = subst (λ (kept : List Atomic). (a : Atomic) → Among a kept ↔ Among a c.args.atoms.now) (sym c.in_ok-atoms.ensures.atoms) (once_same c.args.atoms.now)
