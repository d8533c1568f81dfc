-- The counter is of the ledger that the blank names.
use Rattle.dp_justify.proofs.turns.run_turns.Given as goal

abbrev pub ghosts-counted_turns : goal.ghosts-counted_turns
ghosts-counted_turns a = record { name = a.blank.name; parts = a.blank.parts }
