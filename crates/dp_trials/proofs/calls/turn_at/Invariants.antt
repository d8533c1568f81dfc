-- The counter is of the ledger that the blank names.
use Rattle.dp_trials.proofs.calls.turn_at.Given as goal

abbrev pub ghosts-counted : goal.ghosts-counted
ghosts-counted g a = record { name = a.blank.name; parts = a.blank.parts }
