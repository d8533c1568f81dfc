use Rattle.std.proofs.Common.{◌≡◌, List, length, rules, sym, subst}
use Rattle.std.specs.List.{list_any}
use Rattle.std.specs.Map.{values_of}
use Rattle.dp_domain.specs.States.{entails_all}
use Rattle.dp_checker.specs.Stored.{steps_of}
use Rattle.dp_checker.specs.declared.steps.Run.{Run}
use Rattle.dp_checker.proofs.StoredLaws.{AreRunsBelow, entails_one, runs-below, runs-entailed}
use Rattle.dp_checker.proofs.steps.any_entailed.Goals as goal

pub loop-run-init : goal.loop-run-init
loop-run-init c =
    let all : c.into_iter-run-iterator.result ≡ values_of c.args.runs.now.entries = search rules in
    subst (λ (rs : List Run). AreRunsBelow (length c.args.state.now) c.args.atoms.now rs
    × (entails_one c.args.state.now c.args.atoms.now rs ≡ list_any (λ step. entails_all c.args.state.now step.1) (steps_of c.args.atoms.now c.args.runs.now.entries))) (sym all)
    (runs-below (length c.args.state.now) c.args.atoms.now c.args.runs.now.entries c.requires.stored c.requires.below, runs-entailed c.args.state.now c.args.atoms.now c.args.runs.now.entries)
