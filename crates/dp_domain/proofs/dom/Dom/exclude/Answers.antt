-- A set whose numbers all meet the atom stays.
use Rattle.std.proofs.Common.{◌∙◌, sym}
use Rattle.dp_base.proofs.Lists.{filter-whole}
use Rattle.dp_domain.specs.Atoms.{meets}
use Rattle.dp_domain.proofs.dom.Dom.exclude.Goals as goal

pub returns-then-entails-clause-kept : goal.returns-then-entails-clause-kept
returns-then-entails-clause-kept c = sym (filter-whole (meets c.args.atom) c.args.self.now (sym c.entails.ensures ∙ c.if-entails.true))
