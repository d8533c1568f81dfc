use Rattle.std.proofs.Common.{◌≡◌, List, Vec, Global, sym, subst}
use Rattle.dp_grammar.specs.Chain.{mapped}
use Rattle.dp_grammar.specs.Grammar.{Takes, Stops}
use Rattle.fz_model.specs.Context.{Context}
use Rattle.fz_model.specs.Models.{model_of}
use Rattle.fz_model.specs.ModelText as grammar
use Rattle.fz_model.specs.ModelText.{model}
use Rattle.fz_model.specs.declared.model.Constraint.{Constraint}
use Rattle.fz_model.specs.declared.model.Item.{Item}
use Rattle.fz_model.specs.declared.model.ModelGoal.{ModelGoal}
use Rattle.fz_items.specs.Places.{names_in}
use Rattle.fz_items.specs.Rests.{rest_in, rest_of}
use Rattle.fz_items.proofs.Exits.{gives_stop}
use Rattle.fz_items.proofs.WholeReads.{plan_at, whole_refused, whole_taken}
use Rattle.fz_items.proofs.whole.read_parts.Goals as goal

pub returns-in_err-constraints-clause-reads : goal.returns-in_err-constraints-clause-reads
returns-in_err-constraints-clause-reads c =
    let names = c.into_parts-names.result.0 in
    let left = c.items.new.source.left in
    let rest = c.constraints_and_goal.new.source.left in
    gives_stop {Y = Vec Constraint Global × ModelGoal} rest_of _ (mapped (rest_in (names_in names)) ((grammar.rest_of names).read left)) _ _ c.in_err-constraints.field-0.0 rest c.from_residual-in_err-constraints.ensures.1
    (λ cause e. whole_refused c.args.source.now.left c.in_ok-items.field-0.context c.in_ok-items.field-0.items left rest cause c.in_ok-items.ensures.reads.0 c.in_ok-items.ensures.reads.1
    (subst (λ (k : Context). mapped (rest_in (names_in k)) ((grammar.rest_of k).read left) ≡ Stops cause rest) c.into_parts-names.ensures.names e))
    c.in_err-constraints.ensures.reads

pub returns-clause-reads : goal.returns-clause-reads
returns-clause-reads c =
    let left = c.items.new.source.left in
    let rest = c.constraints_and_goal.new.source.left in
    let p : List Constraint × ModelGoal = (c.in_ok-constraints.constraints.items, c.in_ok-constraints.goal) in
    subst (λ (is : List Item). mapped model_of (model.read c.args.source.now.left) ≡ Takes (plan_at is p) rest) (sym c.into_parts-names.ensures.items)
    (whole_taken c.args.source.now.left c.in_ok-items.field-0.context c.in_ok-items.field-0.items left rest p c.in_ok-items.ensures.reads.0 c.in_ok-items.ensures.reads.1
    (subst (λ (k : Context). mapped (rest_in (names_in k)) ((grammar.rest_of k).read left) ≡ Takes p rest) c.into_parts-names.ensures.names c.in_ok-constraints.ensures.reads))
