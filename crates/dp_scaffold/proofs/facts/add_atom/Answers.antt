use Rattle.std.proofs.Common.{nat_eq, ◌∙◌}
use Rattle.indexmap.proofs.CallerLemmas.{insert_entry-new}
use Rattle.dp_scaffold.proofs.facts.add_atom.Goals as goal

pub returns-clause-added : goal.returns-clause-added
returns-clause-added c = c.in_ok-insert.ensures.entries ∙ insert_entry-new nat_eq c.args.atoms.now c.args.id c.args.atom c.requires
