-- Defined atoms stand under the names of those that are used.
use Rattle.std.proofs.Common.{List, [], ◌∷◌, map, not, sym, ap, ◌∙◌}
use Rattle.std.specs.List.{flat_map}
use Rattle.dp_base.specs.Lists.{Each}
use Rattle.dp_base.proofs.Lists.{Each-append, Each-append_parts, Each-filter}
use Rattle.dp_parts.specs.Problems.{Csp}
use Rattle.dp_writer.specs.Atoms.{Named, firsts, named_defined, same}
use Rattle.dp_writer.specs.Steps.{Step, atoms_of, table, uses}
use Rattle.dp_writer.specs.Written.{IsNamedIn, own_name}
use Rattle.dp_writer.proofs.OrderLemmas.{defined_var}

firsts_each : (P : Named → Type 0) (atoms : List Named) → Each P atoms → Each P (firsts atoms)
firsts_each P [] all = tt
firsts_each P (a ∷ atoms) all = (all.0, Each-filter P (λ b. not (same a.atom b.atom)) (firsts atoms) (firsts_each P atoms all.1))

defined_named : (p : Csp) (a : Named) → IsNamedIn p a → IsNamedIn p (named_defined a)
defined_named p a h = h ∙ ap (own_name p) (sym (defined_var a.atom))

defined_each : (p : Csp) (atoms : List Named) → Each (IsNamedIn p) atoms → Each (IsNamedIn p) (map named_defined atoms)
defined_each p [] all = tt
defined_each p (a ∷ atoms) all = (defined_named p a all.0, defined_each p atoms all.1)

uses_each : (p : Csp) (steps : List Step) → Each (IsNamedIn p) (flat_map atoms_of steps) → Each (IsNamedIn p) (uses steps)
uses_each p [] all = tt
uses_each p (step ∷ steps) all =
    let parts = Each-append_parts (IsNamedIn p) (atoms_of step) (flat_map atoms_of steps) all in
    Each-append (IsNamedIn p) (map named_defined (atoms_of step)) (uses steps) (defined_each p (atoms_of step) parts.0) (uses_each p steps parts.1)

pub table_each : (p : Csp) (steps : List Step) → Each (IsNamedIn p) (flat_map atoms_of steps) → Each (IsNamedIn p) (table steps)
table_each p steps all = firsts_each (IsNamedIn p) (uses steps) (uses_each p steps all)
