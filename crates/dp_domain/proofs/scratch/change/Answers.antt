-- With the old set kept, or the last that was kept on the variable, all goes back to the same.
use Rattle.std.proofs.Common.{List, [], ◌∷◌, ◌++◌, ◌∙◌, ap, sym}
use Rattle.dp_domain.specs.declared.scratch.Replaced.{Replaced}
use Rattle.dp_domain.proofs.ScratchLaws.{put_back-changed, put_back-over, variables-changed, variables-over}
use Rattle.dp_domain.proofs.scratch.change.Goals as goal

pub returns-clause-base : goal.returns-clause-base
returns-clause-base c =
    put_back-changed c.args.replaced.now.items c.push_reserved.new.replaced.items c.args.var c.args.set c.replace-set.result c.args.present.now c.replace-set.new.self
    (c.push_reserved.ensures ∙ ap (λ (rs : List Replaced). rs ++ record { var = c.args.var; set = c.replace-set.result } ∷ []) c.reserve.ensures.items)
    c.replace-set.ensures.set c.replace-set.ensures.state

pub returns-clause-variables : goal.returns-clause-variables
returns-clause-variables c =
    variables-changed c.args.replaced.now.items c.push_reserved.new.replaced.items c.args.var c.args.set c.replace-set.result c.args.present.now c.replace-set.new.self
    (c.push_reserved.ensures ∙ ap (λ (rs : List Replaced). rs ++ record { var = c.args.var; set = c.replace-set.result } ∷ []) c.reserve.ensures.items)
    c.replace-set.ensures.state c.requires.var c.requires.variables

pub returns-then-ends_with-clause-base : goal.returns-then-ends_with-clause-base
returns-then-ends_with-clause-base c =
    put_back-over c.args.replaced.now.items c.args.var c.args.set c.args.present.now c.replace.new.self (sym c.ends_with.ensures ∙ c.if-ends_with.true) c.replace.ensures.state

pub returns-then-ends_with-clause-variables : goal.returns-then-ends_with-clause-variables
returns-then-ends_with-clause-variables c = variables-over c.args.replaced.now.items c.args.var c.args.set c.args.present.now c.replace.new.self c.replace.ensures.state c.requires.variables
