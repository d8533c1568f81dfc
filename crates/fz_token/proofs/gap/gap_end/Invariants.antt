use Rattle.std.proofs.Common.{◌≡◌, false, drop}
use Rattle.fz_token.specs.Gap.{gap_end}
use Rattle.fz_token.proofs.gap.gap_end.Given as goal

abbrev pub invariant-loop-at : goal.invariant-loop-at
invariant-loop-at l = gap_end l.at l.in_comment (drop l.at l.text) ≡ gap_end l.from false (drop l.from l.text)
