use Rattle.dp_grammar.specs.Grammar.{Takes, Stops}
use Rattle.fz_items.specs.Gives.{cause_of}
use Rattle.fz_items.specs.Goals.{goal_words}
use Rattle.fz_items.specs.Notes.{notes, notes_of}
use Rattle.fz_items.proofs.Closings.{solve_behind, solve_stop}
use Rattle.fz_items.proofs.Exits.{gives_refused, gives_stop}
use Rattle.fz_items.proofs.rest.solve_words.Goals as goal

pub returns-in_err-annotations-clause-reads : goal.returns-in_err-annotations-clause-reads
returns-in_err-annotations-clause-reads c =
    gives_stop notes_of _ (notes c.keyword.new.self.left) _ _ c.in_err-annotations.field-0.0 c.annotations.new.source.left c.from_residual-in_err-annotations.ensures.1
    (λ cause e. solve_stop c.args.names.now c.args.source.now.left c.keyword.new.self.left cause c.annotations.new.source.left c.in_ok-keyword.ensures.reads e) c.in_err-annotations.ensures.reads

pub returns-in_err-goal-clause-reads : goal.returns-in_err-goal-clause-reads
returns-in_err-goal-clause-reads c =
    gives_refused _ _ _ c.in_err-goal.field-0.0 _ c.from_residual-in_err-goal.ensures.1
    (solve_behind c.args.names.now c.args.source.now.left c.keyword.new.self.left (notes_of c.in_ok-annotations.field-0) c.annotations.new.source.left (Stops (cause_of c.in_err-goal.field-0.0) c.goal.new.source.left)
    c.in_ok-keyword.ensures.reads c.in_ok-annotations.ensures.reads c.in_err-goal.ensures.reads)

pub returns-clause-reads : goal.returns-clause-reads
returns-clause-reads c =
    solve_behind c.args.names.now c.args.source.now.left c.keyword.new.self.left (notes_of c.in_ok-annotations.field-0) c.annotations.new.source.left (Takes (goal_words c.in_ok-goal.field-0) c.goal.new.source.left)
    c.in_ok-keyword.ensures.reads c.in_ok-annotations.ensures.reads c.in_ok-goal.ensures.reads
