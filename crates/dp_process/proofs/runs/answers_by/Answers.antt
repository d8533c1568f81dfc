-- What the workers answer run by run are the answers for all places.
use Rattle.std.proofs.Common.{◌<◌, ℕ, List, length, sym, ◌∙◌, ap, subst, map, Bor}
use Rattle.std.specs.List.{flat_map}
use Rattle.std.proofs.lemmas.Result.{IfOk-weaker}
use Rattle.dp_base.specs.Lists.{Each}
use Rattle.dp_justify.specs.Pieces.{justification}
use Rattle.dp_parts.specs.Problems.{posed}
use Rattle.dp_process.proofs.WaveSteps.{each-flat, flat-mapped}
use Rattle.dp_process.proofs.runs.answers_by.Goals as goal

pub answers_apart-requires-clause-places : goal.answers_apart-requires-clause-places
answers_apart-requires-clause-places g c κs within =
    let below = λ (place : ℕ). place < length c.args.index.now.nogoods in
    subst (λ (runs : List (Bor (List ℕ))). Each (λ run. Each below run.now) runs) (sym c.as_slice.ensures.value)
    (each-flat below (λ run. run.now) c.in_ok-runs.runs.items (subst (λ (places : List ℕ). Each below places) (sym c.in_ok-runs.ensures) c.requires.places))

pub returns : goal.returns
returns g c =
    let justify = justification (posed c.args.index.now.problem) c.args.index.now.nogoods in
    IfOk-weaker c.joined.result _ _
    (λ answers e. e ∙ flat-mapped justify (λ run. run.now) (λ found. found.items) c.as_slice.result.now c.in_ok-answers.answers.items c.in_ok-answers.ensures
    ∙ ap (λ (runs : List (Bor (List ℕ))). map justify (flat_map (λ run. run.now) runs)) c.as_slice.ensures.value ∙ ap (map justify) c.in_ok-runs.ensures)
    c.joined.ensures
