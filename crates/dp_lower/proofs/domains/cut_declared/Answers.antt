use Rattle.std.proofs.Common.{◌≡◌, true, filter, ◌∙◌, ap}
use Rattle.std.specs.Prelude.{◌&&◌}
use Rattle.std.specs.Option.{option_map_or}
use Rattle.fz_sat.specs.Args.{term_of}
use Rattle.fz_sat.specs.Satisfies.{is_of_type}
use Rattle.dp_lower.specs.Problem.{fits}
use Rattle.dp_lower.proofs.CutLaws.{on_map}
use Rattle.dp_lower.proofs.TypeLaws.{filter_both}
use Rattle.dp_lower.proofs.domains.cut_declared.Goals as goal

pub returns : goal.returns
returns c =
    on_map c.cut_defined.result (c.cut_defined.new.set ≡ filter (λ v. option_map_or (λ b. fits v (term_of c.args.items.now b)) c.args.value true) c.cut.new.set)
    (c.cut_defined.new.set ≡ filter (λ v. is_of_type c.args.kind.now v && option_map_or (λ b. fits v (term_of c.args.items.now b)) c.args.value true) c.args.set.now)
    (λ e. e ∙ ap (filter (λ v. option_map_or (λ b. fits v (term_of c.args.items.now b)) c.args.value true)) c.in_ok-cut.ensures ∙ filter_both (is_of_type c.args.kind.now) (λ v. option_map_or (λ b. fits v (term_of c.args.items.now b)) c.args.value true) c.args.set.now)
    c.cut_defined.ensures
