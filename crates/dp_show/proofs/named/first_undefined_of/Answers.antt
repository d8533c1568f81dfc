use Rattle.std.proofs.Common.{◌≡◌, true, false, is_some, Option, ℤ, sym, ◌∙◌, ap}
use Rattle.dp_show.proofs.Literals.{undefined_after, undefined_first}
use Rattle.dp_show.specs.Named.{first_undefined}
use Rattle.dp_show.proofs.named.first_undefined_of.Goals as goal

pub returns-then-is_some : goal.returns-then-is_some
returns-then-is_some c =
    let some : is_some (first_undefined c.args.atoms.now.entries c.args.premises.now) ≡ true =
    ap (λ (o : Option ℤ). is_some o) (sym c.first_undefined-first.ensures) ∙ sym c.is_some.ensures ∙ c.if-is_some.true in
    c.first_undefined-first.ensures ∙ undefined_first c.args.atoms.now.entries c.args.premises.now c.args.consequent some

pub returns-else-is_some : goal.returns-else-is_some
returns-else-is_some c =
    let none : is_some (first_undefined c.args.atoms.now.entries c.args.premises.now) ≡ false =
    ap (λ (o : Option ℤ). is_some o) (sym c.first_undefined-first.ensures) ∙ sym c.is_some.ensures ∙ c.if-is_some.false in
    c.undefined_last.ensures ∙ undefined_after c.args.atoms.now.entries c.args.premises.now c.args.consequent none
