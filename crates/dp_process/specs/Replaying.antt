-- That the processed log passes the tests of a log.
use Rattle.dp_parts.specs.Problems.{Csp, IsProblem, LeadBack, posed}
use Rattle.dp_writer.specs.Written.{bound_of}
use Rattle.dp_replay.specs.Judging.{IsReplayed}
use Rattle.dp_scaffold.specs.Scaffolds.{IsScaffold, IsScaffoldOf, Learned}
use Rattle.dp_process.specs.Met.{EachMetFollows}
use Rattle.dp_process.specs.Processed.{steps_of}

-- where each nogood that is met follows, each step of the processed log passes behind those before it
abbrev pub LogPasses : Type 0
LogPasses = (p : Csp) (s : Learned) → IsProblem p → LeadBack p.names → IsScaffold s → IsScaffoldOf p s → EachMetFollows (posed p) s.nogoods
    → IsReplayed (posed p) (steps_of p s) (bound_of p s.claim)
