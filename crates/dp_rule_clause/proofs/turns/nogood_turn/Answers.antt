-- The turn by where the atoms stand that are not entailed.
use Rattle.std.proofs.Common.{option_map, ap, sym, ◌∙◌}
use Rattle.dp_domain.specs.declared.found.Found.TheVariants.{Atom}
use Rattle.dp_rule_clause.proofs.AtomSteps.{atoms_covered}
use Rattle.dp_rule_clause.proofs.NogoodSteps.{open_within, turn_apart, turn_nowhere, turn_on}
use Rattle.dp_rule_clause.proofs.turns.nogood_turn.Goals as goal

pub open_of-requires : goal.open_of-requires
open_of-requires c = atoms_covered c.args.atoms.now c.args.state.now c.requires.covers

pub given_on-requires : goal.given_on-requires
given_on-requires c = open_within c.args.state.now c.args.atoms.now c.in-On.var c.requires.covers (sym c.open_of.ensures ∙ c.in-On.is)

pub returns-in-Nowhere : goal.returns-in-Nowhere
returns-in-Nowhere c = sym (turn_nowhere c.args.state.now c.args.atoms.now c.requires.alive (sym c.open_of.ensures ∙ c.in-Nowhere.is))

pub returns-in-Apart : goal.returns-in-Apart
returns-in-Apart c = sym (turn_apart c.args.state.now c.args.atoms.now c.requires.alive (sym c.open_of.ensures ∙ c.in-Apart.is))

pub returns-in_ok-given_on-in-On : goal.returns-in_ok-given_on-in-On
returns-in_ok-given_on-in-On c =
    c.found.ensures ∙ ap (option_map Atom) c.in_ok-given_on-in-On.ensures.given
    ∙ sym (turn_on c.args.state.now c.args.atoms.now c.in-On.var c.requires.covers c.requires.alive c.in_ok-given_on-in-On.ensures.domain (sym c.open_of.ensures ∙ c.in-On.is))
