use Rattle.std.proofs.Common.{◌≤◌, ◌-◌, Some, None, List, ℕ, length, take, drop, ◌∙◌, ap, subst, sym}
use Rattle.dp_domain.specs.Atoms.{Atomic}
use Rattle.dp_checker.specs.Known.{found}
use Rattle.dp_checker.proofs.StoredLaws.{found-stored, found-where}
use Rattle.dp_checker.proofs.steps.Steps.get.Goals as goal

pub run_in-requires-clause-order : goal.run_in-requires-clause-order
run_in-requires-clause-order c =
    (found-stored c.self.inside.atoms.items c.self.inside.runs.entries c.args.id c.in-Some.run'.now c.self.invariant (sym c.in-Some.ensures.value)).order

pub run_in-requires-clause-within : goal.run_in-requires-clause-within
run_in-requires-clause-within c =
    subst (λ (xs : List Atomic). c.in-Some.run'.now.end ≤ length xs) (sym c.as_slice.ensures.value)
    (found-stored c.self.inside.atoms.items c.self.inside.runs.entries c.args.id c.in-Some.run'.now c.self.invariant (sym c.in-Some.ensures.value)).within

pub returns-in-Some : goal.returns-in-Some
returns-in-Some c =
    ap (λ (steps : List (ℕ × List Atomic)). found c.args.id steps) (sym c.self.view_is)
    ∙ found-where c.self.inside.atoms.items c.self.inside.runs.entries c.args.id (Some c.in-Some.run'.now) (sym c.in-Some.ensures.value)
    ∙ ap (λ (xs : List Atomic). Some xs) (sym (c.run_in.ensures ∙ ap (λ (xs : List Atomic). take (c.in-Some.run'.now.end - c.in-Some.run'.now.start) (drop c.in-Some.run'.now.start xs)) c.as_slice.ensures.value))

pub returns-in-None : goal.returns-in-None
returns-in-None c =
    ap (λ (steps : List (ℕ × List Atomic)). found c.args.id steps) (sym c.self.view_is)
    ∙ found-where c.self.inside.atoms.items c.self.inside.runs.entries c.args.id None (sym c.in-None.ensures.value)
