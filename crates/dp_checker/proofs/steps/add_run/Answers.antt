use Rattle.std.proofs.Common.{nat_eq, ◌∙◌}
use Rattle.indexmap.proofs.CallerLemmas.{insert_entry-new}
use Rattle.dp_checker.proofs.steps.add_run.Goals as goal

pub returns-clause-added : goal.returns-clause-added
returns-clause-added c = c.in_ok-insert.ensures.entries ∙ insert_entry-new nat_eq c.args.runs.now c.args.id c.args.run c.requires
