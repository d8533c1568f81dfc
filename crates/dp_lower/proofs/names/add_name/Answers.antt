use Rattle.std.proofs.Common.{◌∙◌}
use Rattle.std.specs.Str.{bytes_eq}
use Rattle.indexmap.proofs.CallerLemmas.{insert_entry-new}
use Rattle.dp_lower.proofs.NameLaws.{fresh_lookup}
use Rattle.dp_lower.proofs.names.add_name.Goals as goal

pub returns : goal.returns
returns c = c.in_ok-insert.ensures.entries ∙ insert_entry-new bytes_eq c.args.names.now c.args.name c.args.var (fresh_lookup c.args.names.now.entries c.args.name c.requires)
