-- A new name goes last.
use Rattle.std.specs.Prelude.{◌≡◌, nat_eq, bytes_eq, None}
use Rattle.std.specs.Cmp.Lexicographic.{pointwise}
use Rattle.std.specs.Map.{lookup}
use Rattle.std.proofs.Common.{◌∙◌, ap, sym, subst}
use Rattle.indexmap.proofs.CallerLemmas.{insert_entry-new}
use Rattle.fz_model.specs.Context.{Context, fresh}
use Rattle.fz_model.specs.ModelText.{declares}
use Rattle.fz_model.specs.declared.fault.Fault.TheVariants.{Declared}
use Rattle.fz_names.proofs.NameLaws.{none_told}
use Rattle.fz_names.proofs.names.Names.declare.Goals as goal

pub returns-clause-declared : goal.returns-clause-declared
returns-clause-declared c =
    ap (λ es. record { entries = es; elements = c.self.inside.elements; variables = c.self.inside.variables })
    (c.in_ok-insert.ensures.entries
    ∙ insert_entry-new (pointwise nat_eq) c.self.inside.entries c.args.name c.args.meant
    (none_told Declared (lookup (bytes_eq c.args.name) c.self.inside.entries.entries) (subst (λ (k : Context). fresh k c.args.name ≡ None) (sym c.self.view_is) c.requires)))
    ∙ ap (λ (k : Context). declares k c.args.name c.args.meant) c.self.view_is
