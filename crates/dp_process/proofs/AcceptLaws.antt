-- The processed log is accepted, with the scaffold's claim.
use Rattle.std.proofs.Common.{◌≡◌, refl, subst, ap, ◌∙◌}
use Rattle.dp_base.specs.Lists.{Each}
use Rattle.dp_domain.specs.declared.verdict.Verdict.{Verdict}
use Rattle.dp_domain.specs.declared.verdict.Verdict.TheVariants.{Unsat, Bound}
use Rattle.dp_judge.specs.Logs.{judged_log}
use Rattle.dp_judge.specs.declared.answer.LogAnswer.TheVariants.{Accepted}
use Rattle.dp_lines.specs.Allowed.{IsAllowed}
use Rattle.dp_parts.specs.Problems.{Csp, IsProblem, LeadBack, posed}
use Rattle.dp_replay.proofs.ReplayLemmas.{replays}
use Rattle.dp_replay.proofs.TextLemmas.{replays_text}
use Rattle.dp_replay.specs.Accepting.{AreShort, IsAccepted, verdict_of}
use Rattle.dp_scaffold.specs.Scaffolds.{IsScaffold, IsScaffoldOf, Learned}
use Rattle.dp_writer.specs.Steps.{lines, text_of}
use Rattle.dp_writer.specs.Written.{bound_of}
use Rattle.dp_process.proofs.PassLaws.{log_passes}
use Rattle.dp_process.specs.Met.{EachMetFollows}
use Rattle.dp_process.specs.Processed.{log_of, steps_of}

-- a claim under names is the claim
named_claim : (p : Csp) (claim : Verdict) → verdict_of (bound_of p claim) ≡ claim
named_claim p Unsat = refl
named_claim p (Bound a) = refl

module _ (p : Csp) (s : Learned) (problem : IsProblem p) (names : LeadBack p.names) (kept : IsScaffold s) (of : IsScaffoldOf p s) (follows : EachMetFollows (posed p) s.nogoods) where
  -- no test refuses a line of it, and it concludes the claim
  pub log_accepted : IsAccepted (posed p) (lines (log_of p s)) s.claim
  log_accepted =
      subst (IsAccepted (posed p) (lines (log_of p s))) (named_claim p s.claim)
      (replays (posed p) (steps_of p s) (bound_of p s.claim) (log_passes p s problem names kept of follows))

  -- its bytes are accepted too, where no line is too long
  pub text_accepted : Each IsAllowed (lines (log_of p s)) → AreShort (lines (log_of p s)) (text_of (log_of p s)) → judged_log (posed p) (text_of (log_of p s)) ≡ Accepted s.claim
  text_accepted allowed short =
      replays_text (posed p) (steps_of p s) (bound_of p s.claim) (log_passes p s problem names kept of follows) allowed short
      ∙ ap Accepted (named_claim p s.claim)
