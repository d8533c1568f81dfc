use Rattle.std.proofs.Common.{◌≡◌, true, filter, length}
use Rattle.std.specs.Prelude.{◌&&◌, slice_set}
use Rattle.std.specs.Option.{option_map_or}
use Rattle.dp_domain.specs.States.{values}
use Rattle.fz_sat.specs.Args.{term_of}
use Rattle.fz_sat.specs.Satisfies.{is_of_type}
use Rattle.dp_lower.specs.Cuts.{IsCutBy}
use Rattle.dp_lower.specs.Problem.{allows, fits}
use Rattle.dp_lower.proofs.CutLaws.{cut_none, item_cut, on_map, var_below_by}
use Rattle.dp_lower.proofs.domains.cut_by.Goals as goal

pub returns-in-Var : goal.returns-in-Var
returns-in-Var c =
    let old = c.args.sets.now.items in
    on_map c.cut_declared_at.result (c.cut_declared_at.new.sets.items ≡ slice_set old c.in-Var.var (filter (λ v. is_of_type c.in-Var.kind v && option_map_or (λ b. fits v (term_of c.args.items.now b)) c.in-Var.value true) (values old c.in-Var.var)))
    (IsCutBy (λ x v. allows c.args.items.now x v c.args.item.now) old c.cut_declared_at.new.sets.items)
    (λ f. item_cut c.args.items.now c.args.item.now c.in-Var.name c.in-Var.kind c.in-Var.output c.in-Var.value c.in-Var.var old c.cut_declared_at.new.sets.items c.in-Var.is
    (var_below_by c.args.item.now c.in-Var.name c.in-Var.kind c.in-Var.output c.in-Var.value c.in-Var.var (length old) c.in-Var.is c.requires.below) f) c.cut_declared_at.ensures

pub returns-in-Int : goal.returns-in-Int
returns-in-Int c = rw c.in-Int.is (cut_none c.args.sets.now.items)

pub returns-in-Bool : goal.returns-in-Bool
returns-in-Bool c = rw c.in-Bool.is (cut_none c.args.sets.now.items)

pub returns-in-Set : goal.returns-in-Set
returns-in-Set c = rw c.in-Set.is (cut_none c.args.sets.now.items)

pub returns-in-Consts : goal.returns-in-Consts
returns-in-Consts c = rw c.in-Consts.is (cut_none c.args.sets.now.items)
