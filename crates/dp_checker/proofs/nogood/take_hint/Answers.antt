use Rattle.std.proofs.Common.{◌≡◌, ◌||◌, List, sym, ◌∙◌, ap, subst, length, ◌<◌}
use Rattle.dp_base.proofs.Lists.{Each-among}
use Rattle.dp_domain.specs.Atoms.{Atomic}
use Rattle.dp_domain.specs.States.{Domains, entails_all, is_dead, refuted}
use Rattle.dp_parts.specs.Rules.{cut_hint, proves}
use Rattle.dp_checker.proofs.Below.{below_base}
use Rattle.dp_checker.proofs.Loops.{turn_passed, turn_refuted}
use Rattle.dp_checker.proofs.nogood.take_hint.Goals as goal

-- what follows from a hint at one state, at the same state
same_turn : (d e next : Domains) (denial : List Atomic) → d ≡ e
    → ((hints : List (List Atomic)) → (is_dead d || entails_all d denial || proves (cut_hint d denial) hints) ≡ proves next hints)
    → (hints : List (List Atomic)) → (is_dead e || entails_all e denial || proves (cut_hint e denial) hints) ≡ proves next hints
same_turn d e next denial same turn =
    subst (λ (s : Domains). (hints : List (List Atomic)) → (is_dead s || entails_all s denial || proves (cut_hint s denial) hints) ≡ proves next hints) same turn

pub returns-in_ok-refute-clause-turn : goal.returns-in_ok-refute-clause-turn
returns-in_ok-refute-clause-turn c =
    let d : Domains = c.state-state.result.now in
    let same : d ≡ c.args.scratch.now.present = c.state-state.ensures.present in
    same_turn d c.args.scratch.now.present c.refute.new.self.present c.args.denial.now same
    (turn_refuted d c.refute.new.self.present c.args.denial.now c.in-Some.«open» c.var.result c.var-then-rests_on.result
    (sym c.dead.ensures ∙ c.if-dead.false) c.in-Some.ensures.none c.in-Some.ensures.open.0 c.in-Some.ensures.open.1
    (Each-among (λ a. a.var < length d) c.args.denial.now (below_base d c.args.scratch.now.present c.args.denial.now same c.requires) c.in-Some.«open» c.in-Some.ensures.open.0)
    c.var.ensures (sym c.rests_on.ensures ∙ c.if-rests_on.true) c.var-then-rests_on.ensures
    (c.in_ok-refute.ensures.kept ∙ ap (λ (s : Domains). refuted s c.var-then-rests_on.result c.args.denial.now) (sym same)))

pub returns-else-rests_on-clause-turn : goal.returns-else-rests_on-clause-turn
returns-else-rests_on-clause-turn c =
    let d : Domains = c.state-state.result.now in
    let same : d ≡ c.args.scratch.now.present = c.state-state.ensures.present in
    same_turn d c.args.scratch.now.present c.args.scratch.now.present c.args.denial.now same
    (subst (λ (s : Domains). (hints : List (List Atomic)) → (is_dead d || entails_all d c.args.denial.now || proves (cut_hint d c.args.denial.now) hints) ≡ proves s hints) same
    (turn_passed d c.args.denial.now c.in-Some.«open» c.var.result
    (sym c.dead.ensures ∙ c.if-dead.false) c.in-Some.ensures.none c.in-Some.ensures.open.0 c.in-Some.ensures.open.1
    c.var.ensures (sym c.rests_on.ensures ∙ c.if-rests_on.false)))
