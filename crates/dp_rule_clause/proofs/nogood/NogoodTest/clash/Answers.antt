-- The variables of the atoms are of the scope.
use Rattle.std.proofs.Common.{◌<◌, length, sym, subst, ◌∙◌}
use Rattle.dp_base.specs.Lists.{Each}
use Rattle.dp_rule_clause.proofs.AtomSteps.{atoms_covered}
use Rattle.dp_rule_clause.proofs.nogood.NogoodTest.clash.Goals as goal

pub are_entailed-requires : goal.are_entailed-requires
are_entailed-requires c =
    subst (λ atoms. Each (λ a. a.var < length c.args.state.now) atoms) (sym (c.as_slice.ensures ∙ c.self.view_is)) (atoms_covered c.args.self.now c.args.state.now c.requires)
