-- What a call answers are the justifications of its run.
use Rattle.std.proofs.Common.{◌≡◌, rules}
use Rattle.std.specs.Prelude.{map}
use Rattle.std.proofs.lemmas.Result.{IfOk-weaker}
use Rattle.dp_justify.specs.Pieces.{justification}
use Rattle.dp_parts.specs.Problems.{posed}
use Rattle.dp_process.proofs.WaveSteps.{AllZip-weaker}
use Rattle.dp_process.proofs.runs.answers_apart.Goals as goal

pub returns : goal.returns
returns g c =
    IfOk-weaker c.map_all.result _ _
    (λ answers h. AllZip-weaker _ (λ run found. found.items ≡ map (justification (posed c.args.index.now.problem) c.args.index.now.nogoods) run.now)
    (λ run found r. search rules) c.args.runs.now answers.items h)
    c.map_all.ensures
