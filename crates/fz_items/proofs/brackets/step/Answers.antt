use Rattle.std.proofs.Common.{List, ◌≡◌, ap, sym, ◌∙◌, rules}
use Rattle.dp_grammar.specs.Grammar.{Stops}
use Rattle.fz_model.specs.Words.{Word}
use Rattle.fz_items.specs.Gives.{cause_of}
use Rattle.fz_items.specs.Notes.{bracket_of, brackets_of, closing_all, opened, stepped}
use Rattle.fz_items.specs.Standing.{behind}
use Rattle.fz_items.specs.declared.brackets.Class.{Class}
use Rattle.fz_items.proofs.Balance.{stepped_at, never_closed}
use Rattle.fz_items.proofs.Exits.{refused_on}
use Rattle.fz_items.proofs.brackets.step.Goals as goal

pub returns-clause-goes_on : goal.returns-clause-goes_on
returns-clause-goes_on c =
    let left = c.args.source.now.left in
    stepped_at _ _ c.in-Some.seen.kind c.args.top (brackets_of c.args.below.now.items) left (behind left) c.in-Some.ensures
    ∙ ap (λ (k : Class). stepped k c.args.top (brackets_of c.args.below.now.items) left (behind left)) (sym c.classed.ensures)
    ∙ c.in_ok-next.ensures.ok left (behind left)
    ∙ ap (closing_all (opened c.in_ok-next.next c.innermost.new.below.items)) (sym c.advance.ensures.left)

pub returns-in_err-next-clause-refused : goal.returns-in_err-next-clause-refused
returns-in_err-next-clause-refused c =
    let left = c.args.source.now.left in
    refused_on c.from_residual.result c.in_err-next.field-0.0
    (λ cause. (left rest : List Word) → stepped c.classed.result c.args.top (brackets_of c.args.below.now.items) left rest ≡ Stops (cause_of cause) left)
    _ c.from_residual.ensures.1
    (λ cause h. stepped_at _ _ c.in-Some.seen.kind c.args.top (brackets_of c.args.below.now.items) left (behind left) c.in-Some.ensures
    ∙ ap (λ (k : Class). stepped k c.args.top (brackets_of c.args.below.now.items) left (behind left)) (sym c.classed.ensures) ∙ h left (behind left))
    c.in_err-next.ensures.refused

pub returns-in_default-clause-refused : goal.returns-in_default-clause-refused
returns-in_default-clause-refused c = never_closed (bracket_of c.args.top) (brackets_of c.args.below.now.items) c.args.source.now.left (search rules)
