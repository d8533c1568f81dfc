use Rattle.std.proofs.Common.{◌≡◌, false, drop}
use Rattle.fz_token.specs.Quoted.{closed_len}
use Rattle.fz_token.proofs.quoted.closed_len.Given as goal

abbrev pub invariant-loop-i : goal.invariant-loop-i
invariant-loop-i l = closed_len l.i l.taken (drop l.i l.body) ≡ closed_len 0 false l.body
