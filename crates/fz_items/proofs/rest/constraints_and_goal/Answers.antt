use Rattle.std.proofs.Common.{rules, sym, ◌∙◌}
use Rattle.dp_grammar.specs.Chain.{mapped}
use Rattle.fz_model.specs.ModelText.{solve_item}
use Rattle.fz_model.specs.declared.model.Constraint.{Constraint}
use Rattle.fz_model.specs.declared.model.ModelGoal.{ModelGoal}
use Rattle.fz_items.specs.ConstraintItems.{constraint_behind, told_of}
use Rattle.fz_items.specs.Places.{names_in}
use Rattle.fz_items.specs.Rests.{closing_goal}
use Rattle.fz_items.proofs.Exits.{gives_stop}
use Rattle.fz_items.proofs.RestReads.{kept_closed, kept_refused, kept_shortens, kept_unclosed, one_kept}
use Rattle.fz_items.proofs.rest.constraints_and_goal.Goals as goal

pub returns-in_err-constraint-clause-reads : goal.returns-in_err-constraint-clause-reads
returns-in_err-constraint-clause-reads c =
    let rest = c.constraint_item.new.source.left in
    gives_stop {Y = Constraint} (λ x. (x, c.constraint_item.new.names)) _ (told_of c.constraints.names ((constraint_behind c.constraints.names c.len.result).read c.constraints.source.left)) _ _ c.in_err-constraint.field-0.0 rest c.from_residual.ensures.1
    (λ cause e. kept_refused c.args.names.now c.args.source.now.left c.constraints.constraints.items c.constraints.names c.len.result c.constraints.source.left rest cause
    (search rules) (sym c.is_keyword.ensures ∙ c.constraints-test.true) e c.constraints.invariant.kept)
    c.in_err-constraint.ensures.reads

pub constraints-smaller : goal.constraints-smaller
constraints-smaller c =
    kept_shortens c.args.names.now c.args.source.now.left c.constraints.constraints.items c.constraints.names c.constraint_item.new.names c.len.result c.constraints.source.left c.constraint_item.new.source.left c.in_ok-constraint.constraint
    (search rules) c.in_ok-constraint.ensures.reads c.constraints.invariant.kept

pub constraints-preserved : goal.constraints-preserved
constraints-preserved c = record {
  kept = one_kept c.args.names.now c.args.source.now.left c.constraints.constraints.items _ c.constraints.names c.constraint_item.new.names c.len.result c.constraints.source.left c.constraint_item.new.source.left c.in_ok-constraint.constraint
      c.in_ok-push.ensures.items (search rules) (sym c.is_keyword.ensures ∙ c.constraints-test.true) c.in_ok-constraint.ensures.reads c.constraints.invariant.kept;
  text = search rules;
  room = c.in_ok-constraint.ensures.room;
}

pub returns-in_err-goal-clause-reads : goal.returns-in_err-goal-clause-reads
returns-in_err-goal-clause-reads c =
    let rest = c.solve_item.new.source.left in
    gives_stop {Y = ModelGoal} (λ g. g) _ (mapped (closing_goal (names_in c.constraints.names)) ((solve_item c.constraints.names).read c.constraints.source.left)) _ _ c.in_err-goal.field-0.0 rest c.from_residual-in_err-goal.ensures.1
    (λ cause e. kept_unclosed c.args.names.now c.args.source.now.left c.constraints.constraints.items c.constraints.names c.constraints.source.left rest cause
    (sym c.is_keyword.ensures ∙ c.constraints-test.false) e c.constraints.invariant.kept)
    c.in_err-goal.ensures.reads

pub returns-clause-reads : goal.returns-clause-reads
returns-clause-reads c =
    kept_closed c.args.names.now c.args.source.now.left c.constraints.constraints.items c.constraints.names c.constraints.source.left c.solve_item.new.source.left c.in_ok-goal.goal
    (sym c.is_keyword.ensures ∙ c.constraints-test.false) c.in_ok-goal.ensures.reads c.constraints.invariant.kept
