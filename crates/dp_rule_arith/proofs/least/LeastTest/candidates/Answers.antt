-- No value is a point.
use Rattle.std.proofs.lemmas.Bool.{false≢true}
use Rattle.std.proofs.lemmas.Result.{IfOk-weaker}
use Rattle.dp_domain.specs.Sets.{IsDomain}
use Rattle.dp_domain.specs.Turns.{HoldsHoles}
use Rattle.dp_rule_arith.specs.Operations.{face_least}
use Rattle.dp_rule_arith.proofs.least.LeastTest.candidates.Goals as goal

pub returns : goal.returns
returns c = IfOk-weaker c.range.result IsDomain (HoldsHoles (face_least c.args.self.now) c.args.state.now c.args._var) (λ d e v p t. absurd (false≢true p)) c.range.ensures.domain
