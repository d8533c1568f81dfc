-- The conclusion is met at first; no place is pending at the end.
use Rattle.std.proofs.Common.{◌≡◌, length, rules, arith, sym, ◌∙◌, ap}
use Rattle.std.proofs.lemmas.List.{nil_from_length}
use Rattle.dp_parts.specs.Problems.{posed}
use Rattle.dp_process.specs.Waves.{wave}
use Rattle.dp_process.proofs.EndLaws.{nothing-found, told}
use Rattle.dp_process.proofs.waves.go_on.Goals as goal

pub waves-init : goal.waves-init
waves-init g c =
    let at : length c.nogoods.result.now ≡ length c.args.index.now.nogoods = ap length c.nogoods.ensures.nogoods in
    record {
      over = c.requires.over;
      found = nothing-found (posed c.args.index.now.problem) c.args.index.now.nogoods c.in_ok-found.found (length c.nogoods.result.now) at (omega (arith, c.requires.some))
          c.in_ok-found.ensures.count c.in_ok-found.ensures.marks c.in_ok-found.ensures.pieces c.in_ok-found.ensures.from;
      places = c.in_ok-places.ensures ∙ ap (wave c.in_ok-found.found) (c.in_ok-found.ensures.count ∙ at);
    }

pub returns : goal.returns
returns g c =
    told c.args.index.now.problem c.args.index.now.nogoods c.waves.found
    (record { problem = c.nogoods.ensures.index.problem; variables = c.nogoods.ensures.index.nogoods; some = c.requires.some })
    c.waves.invariant.found (sym c.waves.invariant.places ∙ nil_from_length c.waves.places.items (search rules)) c.in_all.result c.in_all.ensures
