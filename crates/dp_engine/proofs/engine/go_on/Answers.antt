-- The point is left, the parts on the variable are touched, and the state is cut; or all is as it was.
use Rattle.std.proofs.Common.{◌≡◌, false, [], List, ℕ, get_or, sym, ◌∙◌, ap}
use Rattle.dp_engine.specs.Debts.{History, left, touched_each}
use Rattle.dp_engine.proofs.DebtLaws.{back-touched, err-any, kept-on, ok-any, touched_each-lasting, touched_each-now}
use Rattle.dp_engine.proofs.StepLaws.{ok-part}
use Rattle.dp_engine.proofs.engine.go_on.Goals as goal

pub returns-then-is_err-clause-lasting : goal.returns-then-is_err-clause-lasting
returns-then-is_err-clause-lasting c =
    let ks : List ℕ = c.wake_and_cut-gone_on.ensures.touched.0 in
    ap (λ (h : History). h.lasting) (c.back.ensures ∙ back-touched c.args.debts.now c.wake_and_cut-gone_on.new.debts ks (c.wake_and_cut-gone_on.ensures.touched.1 ∙ ap (λ (h : History). touched_each h ks) c.in_ok-leave.ensures.left))

pub returns-then-is_err-clause-debts_stay : goal.returns-then-is_err-clause-debts_stay
returns-then-is_err-clause-debts_stay c =
    let ks : List ℕ = c.wake_and_cut-gone_on.ensures.touched.0 in
    err-any c.wake_and_cut-gone_on.result (c.back.ensures ∙ back-touched c.args.debts.now c.wake_and_cut-gone_on.new.debts ks (c.wake_and_cut-gone_on.ensures.touched.1 ∙ ap (λ (h : History). touched_each h ks) c.in_ok-leave.ensures.left))

pub returns-else-is_err-clause-kept : goal.returns-else-is_err-clause-kept
returns-else-is_err-clause-kept c =
    let ks : List ℕ = c.wake_and_cut-gone_on.ensures.touched.0 in
    let fine = sym c.is_err.ensures.value ∙ c.if-is_err.false in
    let all : ks ≡ get_or c.args.occurrences.now c.args.atom.var [] = ok-part c.wake_and_cut-gone_on.result fine c.wake_and_cut-gone_on.ensures.touched.2 in
    let on : c.wake_and_cut-gone_on.new.debts ≡ touched_each (left c.args.debts.now) (get_or c.args.occurrences.now c.args.atom.var []) =
    c.wake_and_cut-gone_on.ensures.touched.1 ∙ ap (λ (h : History). touched_each h ks) c.in_ok-leave.ensures.left ∙ ap (touched_each (left c.args.debts.now)) all in
    ok-any c.wake_and_cut-gone_on.result (λ parts index kept. kept-on parts c.args.occurrences.now c.args.debts.now c.wake_and_cut-gone_on.new.debts c.args.trail.now c.wake_and_cut-gone_on.new.trail c.args.atom index c.requires.there
    (c.requires.places c.args.atom.var) on (ok-part c.wake_and_cut-gone_on.result fine c.wake_and_cut-gone_on.ensures.past) (ok-part c.wake_and_cut-gone_on.result fine c.wake_and_cut-gone_on.ensures.present) kept)

pub returns-else-is_err-clause-woken : goal.returns-else-is_err-clause-woken
returns-else-is_err-clause-woken c =
    let ks : List ℕ = c.wake_and_cut-gone_on.ensures.touched.0 in
    let fine = sym c.is_err.ensures.value ∙ c.if-is_err.false in
    let all : ks ≡ get_or c.args.occurrences.now c.args.atom.var [] = ok-part c.wake_and_cut-gone_on.result fine c.wake_and_cut-gone_on.ensures.touched.2 in
    let on : c.wake_and_cut-gone_on.new.debts ≡ touched_each (left c.args.debts.now) (get_or c.args.occurrences.now c.args.atom.var []) =
    c.wake_and_cut-gone_on.ensures.touched.1 ∙ ap (λ (h : History). touched_each h ks) c.in_ok-leave.ensures.left ∙ ap (touched_each (left c.args.debts.now)) all in
    ok-any c.wake_and_cut-gone_on.result (ap (λ (h : History). h.now) on ∙ touched_each-now (left c.args.debts.now) (get_or c.args.occurrences.now c.args.atom.var []))

pub returns-else-is_err-clause-lasting : goal.returns-else-is_err-clause-lasting
returns-else-is_err-clause-lasting c =
    let ks : List ℕ = c.wake_and_cut-gone_on.ensures.touched.0 in
    ap (λ (h : History). h.lasting) (c.wake_and_cut-gone_on.ensures.touched.1 ∙ ap (λ (h : History). touched_each h ks) c.in_ok-leave.ensures.left) ∙ touched_each-lasting (left c.args.debts.now) ks
