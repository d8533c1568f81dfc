-- What is given on the index, on the value, on an entry.
use Rattle.std.proofs.Common.{◌≡◌, subst, sym, ◌∙◌}
use Rattle.std.proofs.lemmas.Result.{IfOk-weaker}
use Rattle.dp_base.specs.Lists.{Among}
use Rattle.dp_domain.specs.Sets.{IsDomain}
use Rattle.dp_domain.specs.Supports.{bound_by}
use Rattle.dp_domain.specs.Terms.{term_values}
use Rattle.dp_domain.specs.Turns.{given_on}
use Rattle.dp_rule_element.specs.Choices.{IsGivenBy, IsOffered, IsSelectable, atom_by, selection}
use Rattle.dp_rule_element.specs.Selections.{Selection, face_element}
use Rattle.dp_rule_element.proofs.GivenLaws.{entry_given, free_given, index_domain, index_given, value_given}
use Rattle.dp_rule_element.proofs.turn.given_on.Goals as goal

pub on_index-requires-clause-small : goal.on_index-requires-clause-small
on_index-requires-clause-small c = index_domain c.args.state.now c.args.index.now c.args.var (sym c.is_variable.ensures ∙ c.if-is_variable.true) c.set_of-set.ensures.domain

pub on_value-requires-clause-small : goal.on_value-requires-clause-small
on_value-requires-clause-small c = subst IsDomain (sym c.set_of-set.ensures.values) c.set_of-set.ensures.domain

pub on_entry-requires-clause-small : goal.on_entry-requires-clause-small
on_entry-requires-clause-small c = subst IsDomain (sym c.set_of-set.ensures.values) c.set_of-set.ensures.domain

pub returns-then-is_variable : goal.returns-then-is_variable
returns-then-is_variable c =
    let q : Selection = selection c.args.index.now c.args.array.now c.args.value.now in
    IfOk-weaker c.on_index.result (IsGivenBy (λ good. atom_by c.set_of-set.result.now good c.args.var) (IsSelectable q c.args.state.now)) (λ o. o ≡ given_on (face_element q) c.args.state.now c.args.var)
    (λ o k. index_given q c.args.state.now c.args.var c.set_of-set.result.now o c.set_of-set.ensures.values c.requires.var c.requires.alive c.requires.some c.requires.apart (sym c.is_variable.ensures ∙ c.if-is_variable.true) k)
    c.on_index.ensures

pub returns-then-is_variable-2 : goal.returns-then-is_variable-2
returns-then-is_variable-2 c =
    let q : Selection = selection c.args.index.now c.args.array.now c.args.value.now in
    IfOk-weaker c.on_value.result (IsGivenBy (λ good. bound_by c.set_of-set.result.now good c.args.var) (λ v. Among v c.set_of-set.result.now × IsOffered c.args.state.now c.args.index.now c.args.array.now v)) (λ o. o ≡ given_on (face_element q) c.args.state.now c.args.var)
    (λ o k. value_given q c.args.state.now c.args.var c.set_of-set.result.now o c.set_of-set.ensures.values c.requires.var c.requires.alive c.requires.some c.requires.apart (sym c.is_variable.ensures ∙ c.if-is_variable.false) (sym c.is_variable-else-is_variable.ensures ∙ c.if-is_variable-2.true) k)
    c.on_value.ensures

pub returns-then-is_only : goal.returns-then-is_only
returns-then-is_only c =
    let q : Selection = selection c.args.index.now c.args.array.now c.args.value.now in
    IfOk-weaker c.on_entry.result (IsGivenBy (λ good. bound_by c.set_of-set.result.now good c.args.var) (λ v. Among v c.set_of-set.result.now × Among v (term_values c.args.state.now c.args.value.now))) (λ o. o ≡ given_on (face_element q) c.args.state.now c.args.var)
    (λ o k. entry_given q c.args.state.now c.args.var c.set_of-set.result.now o c.args.choice.now c.set_of-set.ensures.values c.requires.var c.requires.alive c.requires.some (sym c.is_variable.ensures ∙ c.if-is_variable.false) (sym c.is_variable-else-is_variable.ensures ∙ c.if-is_variable-2.false) c.requires.choice (sym c.is_only.ensures ∙ c.if-is_only.true) k)
    c.on_entry.ensures

pub returns-else-is_only : goal.returns-else-is_only
returns-else-is_only c =
    let q : Selection = selection c.args.index.now c.args.array.now c.args.value.now in
    free_given q c.args.state.now c.args.var c.args.choice.now c.set_of-set.ensures.domain c.requires.var c.requires.alive c.requires.some (sym c.is_variable.ensures ∙ c.if-is_variable.false) (sym c.is_variable-else-is_variable.ensures ∙ c.if-is_variable-2.false) c.requires.choice (sym c.is_only.ensures ∙ c.if-is_only.false)
