-- The counter is of the ledger that the blank names.
use Rattle.dp_solver.proofs.rest.run_to_rest.Given as goal

abbrev pub ghosts-counted_run : goal.ghosts-counted_run
ghosts-counted_run a = record { name = a.blank.name; parts = a.blank.parts }
