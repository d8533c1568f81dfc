-- With the set that the other atoms leave its variable, the state says whether they suffice.
use Rattle.std.proofs.Common.{ℕ, ◌<◌, length, List, ◌++◌, ◌∷◌, [], ◌∙◌, refl, subst, sym, ap}
use Rattle.dp_domain.specs.Atoms.{Atomic}
use Rattle.dp_domain.specs.Explanations.{failing, suffices}
use Rattle.dp_domain.specs.States.{Domains, cut_all, values}
use Rattle.dp_domain.proofs.ExplanationSteps.{length_cut}
use Rattle.dp_domain.proofs.ScopeLaws.{Covers-count}
use Rattle.dp_domain.proofs.WorkingLaws.{count-set, kept-more, kept-unless, kept-when, one-less, put-back, test-suffices, var-of_cut}
use Rattle.dp_domain.proofs.explanation.keep_needed.Goals as goal

pub replace-requires : goal.replace-requires
replace-requires g c = var-of_cut c.args.initial.now c.args.work.now.present ((c.args.kept.now.items ++ c.args.atom ∷ c.args.rest.now) ++ failing c.args.target.now) c.var-3.result c.args.atom.var c.var-3.ensures c.requires.state c.requires.var

pub clash-requires : goal.clash-requires
clash-requires g c =
    Covers-count (g.R.Test.face c.args.rule.now).scope c.args.initial.now c.state-2.result.now
    (ap (λ (d : Domains). length d) c.state-2.ensures.present ∙ count-set c.args.work.now.present c.replace.new.self.present _ _ c.in_ok-replace.ensures.present ∙ length_cut c.args.initial.now c.args.work.now.present ((c.args.kept.now.items ++ c.args.atom ∷ c.args.rest.now) ++ failing c.args.target.now) c.requires.state) c.requires.covers

pub keep-requires : goal.keep-requires
keep-requires g c =
    subst (λ n. c.args.atom.var < n) (sym (count-set c.args.work.now.present c.replace.new.self.present _ _ c.in_ok-replace.ensures.present))
    (var-of_cut c.args.initial.now c.args.work.now.present ((c.args.kept.now.items ++ c.args.atom ∷ c.args.rest.now) ++ failing c.args.target.now) c.args.atom.var c.args.atom.var refl c.requires.state c.requires.var)

pub returns-in_ok-keep-clause-kept : goal.returns-in_ok-keep-clause-kept
returns-in_ok-keep-clause-kept g c =
    let at = one-less c.args.initial.now c.args.work.now.present c.replace.new.self.present c.var-3.result c.args.kept.now.items c.args.rest.now (failing c.args.target.now) c.args.atom c.in_ok-set.set c.var-3.ensures c.requires.state
    (c.in_ok-set.ensures
    ∙ ap (λ (ys : List Atomic). values (cut_all c.args.initial.now ((ys ++ c.args.rest.now) ++ failing c.args.target.now)) c.var.result) c.as_slice.ensures.value
    ∙ ap (λ (y : ℕ). values (cut_all c.args.initial.now ((c.args.kept.now.items ++ c.args.rest.now) ++ failing c.args.target.now)) y) (c.var.ensures ∙ sym c.var-3.ensures)) c.in_ok-replace.ensures.present in
    let answer = test-suffices (g.R.Test.face c.args.rule.now) c.args.initial.now c.replace.new.self.present c.args.target.now (c.args.kept.now.items ++ c.args.rest.now) c.in_ok-enough.enough at (c.in_ok-enough.ensures ∙ ap (g.R.Test.face c.args.rule.now).test c.state-2.ensures.present) in
    kept-unless (suffices (g.R.Test.face c.args.rule.now) c.args.initial.now c.args.target.now (c.args.kept.now.items ++ c.args.rest.now)) c.in_ok-enough.enough c.keep.new.kept.items c.args.kept.now.items (c.args.kept.now.items ++ c.args.atom ∷ []) answer c.if-not-enough.true c.in_ok-keep.ensures.kept

pub returns-in_ok-keep-clause-state : goal.returns-in_ok-keep-clause-state
returns-in_ok-keep-clause-state g c =
    put-back c.args.work.now.present c.replace.new.self.present c.keep.new.work.present c.var-3.result c.args.atom.var c.in_ok-set.set c.in_ok-old.old (sym c.var-3.ensures) c.in_ok-replace.ensures.present
    (c.in_ok-old.ensures ∙ c.set.ensures ∙ ap (λ (d : Domains). values d c.var-2.result) c.state.ensures.present ∙ ap (λ (y : ℕ). values c.args.work.now.present y) (c.var-2.ensures ∙ sym c.var-3.ensures))
    c.in_ok-keep.ensures.state
    ∙ kept-more c.args.initial.now c.args.work.now.present c.args.kept.now.items c.keep.new.kept.items c.args.rest.now (failing c.args.target.now) c.args.atom c.requires.state c.in_ok-keep.ensures.kept

pub returns-else-not-enough-clause-kept : goal.returns-else-not-enough-clause-kept
returns-else-not-enough-clause-kept g c =
    let at = one-less c.args.initial.now c.args.work.now.present c.replace.new.self.present c.var-3.result c.args.kept.now.items c.args.rest.now (failing c.args.target.now) c.args.atom c.in_ok-set.set c.var-3.ensures c.requires.state
    (c.in_ok-set.ensures
    ∙ ap (λ (ys : List Atomic). values (cut_all c.args.initial.now ((ys ++ c.args.rest.now) ++ failing c.args.target.now)) c.var.result) c.as_slice.ensures.value
    ∙ ap (λ (y : ℕ). values (cut_all c.args.initial.now ((c.args.kept.now.items ++ c.args.rest.now) ++ failing c.args.target.now)) y) (c.var.ensures ∙ sym c.var-3.ensures)) c.in_ok-replace.ensures.present in
    let answer = test-suffices (g.R.Test.face c.args.rule.now) c.args.initial.now c.replace.new.self.present c.args.target.now (c.args.kept.now.items ++ c.args.rest.now) c.in_ok-enough.enough at (c.in_ok-enough.ensures ∙ ap (g.R.Test.face c.args.rule.now).test c.state-2.ensures.present) in
    kept-when (suffices (g.R.Test.face c.args.rule.now) c.args.initial.now c.args.target.now (c.args.kept.now.items ++ c.args.rest.now)) c.in_ok-enough.enough c.args.kept.now.items c.args.kept.now.items (c.args.kept.now.items ++ c.args.atom ∷ []) answer c.if-not-enough.false refl

pub returns-else-not-enough-clause-state : goal.returns-else-not-enough-clause-state
returns-else-not-enough-clause-state g c = one-less c.args.initial.now c.args.work.now.present c.replace.new.self.present c.var-3.result c.args.kept.now.items c.args.rest.now (failing c.args.target.now) c.args.atom c.in_ok-set.set c.var-3.ensures c.requires.state
    (c.in_ok-set.ensures
    ∙ ap (λ (ys : List Atomic). values (cut_all c.args.initial.now ((ys ++ c.args.rest.now) ++ failing c.args.target.now)) c.var.result) c.as_slice.ensures.value
    ∙ ap (λ (y : ℕ). values (cut_all c.args.initial.now ((c.args.kept.now.items ++ c.args.rest.now) ++ failing c.args.target.now)) y) (c.var.ensures ∙ sym c.var-3.ensures)) c.in_ok-replace.ensures.present
