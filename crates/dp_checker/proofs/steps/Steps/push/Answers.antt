-- Atoms that are no step's change nothing, and those of a new one come last.
use Rattle.std.proofs.Common.{◌∙◌, ◌++◌, [], ◌∷◌, List, ℕ, Result, Ok, Err, ap}
use Rattle.std.specs.Prelude.{OnErr}
use Rattle.dp_domain.specs.Atoms.{Atomic}
use Rattle.dp_checker.proofs.StoredLaws.{found-none, stored-added, stored-same, steps-added, steps-same}
use Rattle.dp_checker.proofs.steps.Steps.push.Goals as goal

on_err : {T E : Type 0} (r : Result T E) (P : Type 0) → P → OnErr r P
on_err (Ok x) P p = tt
on_err (Err e) P p = p

pub add_run-requires : goal.add_run-requires
add_run-requires c = found-none c.self.inside.atoms.items c.self.inside.runs.entries c.args.self.now c.args.id c.self.view_is c.requires

pub invariant_of-self-in_err-add_run : goal.invariant_of-self-in_err-add_run
invariant_of-self-in_err-add_run c =
    stored-same c.self.inside.atoms.items c.extend_from_slice.new.self.items c.args.denial.now c.self.inside.runs.entries c.add_run.new.runs.entries
    c.in_ok-extend_from_slice.ensures.items c.in_err-add_run.ensures.err c.self.invariant

pub returns-in_err-add_run-clause-err : goal.returns-in_err-add_run-clause-err
returns-in_err-add_run-clause-err c =
    on_err c.from_residual-in_err-add_run.result _
    (steps-same c.self.inside.atoms.items c.extend_from_slice.new.self.items c.args.denial.now c.self.inside.runs.entries c.add_run.new.runs.entries
    c.in_ok-extend_from_slice.ensures.items c.in_err-add_run.ensures.err c.self.invariant ∙ c.self.view_is)

pub invariant_of-self-2 : goal.invariant_of-self-2
invariant_of-self-2 c =
    stored-added c.self.inside.atoms.items c.extend_from_slice.new.self.items c.args.denial.now c.self.inside.runs.entries c.add_run.new.runs.entries
    c.args.id (record { start = c.count-start.result; end = c.count-end.result }) c.in_ok-extend_from_slice.ensures.items c.count-start.ensures c.count-end.ensures c.in_ok-add_run.ensures.added c.self.invariant

pub returns-clause-added : goal.returns-clause-added
returns-clause-added c =
    steps-added c.self.inside.atoms.items c.extend_from_slice.new.self.items c.args.denial.now c.self.inside.runs.entries c.add_run.new.runs.entries
    c.args.id (record { start = c.count-start.result; end = c.count-end.result }) c.in_ok-extend_from_slice.ensures.items c.count-start.ensures c.count-end.ensures c.in_ok-add_run.ensures.added c.self.invariant
    ∙ ap (λ (steps : List (ℕ × List Atomic)). steps ++ (c.args.id, c.args.denial.now) ∷ []) c.self.view_is
