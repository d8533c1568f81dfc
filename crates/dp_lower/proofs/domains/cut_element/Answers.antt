use Rattle.std.proofs.Common.{◌≡◌, ℕ, ◌<◌, [], ◌∷◌, filter, length, sym, ◌∙◌, ap, subst}
use Rattle.std.specs.Prelude.{slice_set}
use Rattle.dp_domain.specs.States.{values}
use Rattle.dp_domain.specs.declared.term.Term.TheVariants.{Var}
use Rattle.fz_sat.specs.Args.{term_of}
use Rattle.fz_sat.specs.Satisfies.{is_of_type}
use Rattle.dp_lower.specs.Cuts.{IsCutBy, typed_in}
use Rattle.fz_facts.specs.Facts.{IsElement}
use Rattle.dp_lower.proofs.CutLaws.{element_const, element_cut, on_map}
use Rattle.dp_lower.proofs.domains.cut_element.Goals as goal

pub returns-in-Var : goal.returns-in-Var
returns-in-Var c =
    let old = c.args.sets.now.items in
    let e : term_of c.args.items.now c.args.element ≡ Var c.var.inside.0 = sym c.term_of.ensures ∙ c.in-Var.is ∙ ap (λ (x : ℕ). Var x) (sym c.var.view_is) in
    let below : c.var.inside.0 < length old = subst (IsElement (length old) c.args.kind.now) e c.requires.below in
    on_map c.cut_at.result (c.cut_at.new.sets.items ≡ slice_set old c.var.inside.0 (filter (is_of_type c.args.kind.now) (values old c.var.inside.0))) (IsCutBy (typed_in c.args.items.now (c.args.element ∷ []) c.args.kind.now) old c.cut_at.new.sets.items)
    (λ f. element_cut c.args.items.now c.args.element c.args.kind.now c.var.inside.0 old c.cut_at.new.sets.items e below f) c.cut_at.ensures

pub returns-in-Const : goal.returns-in-Const
returns-in-Const c = element_const c.args.items.now c.args.element c.args.kind.now _ c.args.sets.now.items (sym c.term_of.ensures ∙ c.in-Const.is)
