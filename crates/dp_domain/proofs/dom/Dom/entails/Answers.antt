-- Each number meets the atom where the ends do, or where its number is none of them.
use mir.Syntax.{w64}
use mir.Val.{SFits, of_z, to_z}
use Rattle.std.proofs.Common.{◌≡◌, true, ℤ, int_le, refl, sym, ◌∙◌, ap, rules}
use Rattle.std.specs.Option.{option_map_or}
use Rattle.std.proofs.lemmas.Int.{to_z-of_z}
use Rattle.dp_domain.specs.declared.atom.Op.TheVariants.{Ge, Le, Eq, Ne}
use Rattle.dp_domain.specs.Sets.{greatest}
use Rattle.dp_domain.proofs.TestLaws.{all_by, all_eq, all_ge, all_le, all_ne, and_unless, and_when}
use Rattle.dp_domain.proofs.dom.Dom.entails.Goals as goal

pub returns-in-Ge : goal.returns-in-Ge
returns-in-Ge c =
    let fits : SFits w64 c.value-value.result = search rules in
    let same = to_z-of_z w64 c.value-value.result fits ∙ c.value-value.ensures.value in
    c.is_from.ensures ∙ ap (λ (v : ℤ). option_map_or (λ (m : ℤ). int_le v m) c.lower.result true) same
    ∙ all_ge c.lower.result c.args.atom.value c.args.self.now c.lower.ensures.least
    ∙ all_by c.args.atom Ge c.args.self.now c.args.self.now (sym c.op.ensures ∙ c.in-Ge.is) refl

pub returns-in-Le : goal.returns-in-Le
returns-in-Le c =
    let fits : SFits w64 c.value-value.result = search rules in
    let same = to_z-of_z w64 c.value-value.result fits ∙ c.value-value.ensures.value in
    c.is_up_to.ensures ∙ ap (λ (v : ℤ). option_map_or (λ (m : ℤ). int_le m v) c.upper.result true) same
    ∙ all_le c.upper.result c.args.atom.value c.args.self.now c.upper.ensures.greatest
    ∙ all_by c.args.atom Le c.args.self.now c.args.self.now (sym c.op.ensures ∙ c.in-Le.is) refl

pub returns-then-is_from : goal.returns-then-is_from
returns-then-is_from c =
    let fits : SFits w64 c.value-value.result = search rules in
    let same = to_z-of_z w64 c.value-value.result fits ∙ c.value-value.ensures.value in
    let low = option_map_or (λ (m : ℤ). int_le c.args.atom.value m) c.lower-in-Eq.result true in
    let high = option_map_or (λ (m : ℤ). int_le m c.args.atom.value) c.upper-then-is_from.result true in
    let low_is : c.is_from-in-Eq.result ≡ low = c.is_from-in-Eq.ensures ∙ ap (λ (v : ℤ). option_map_or (λ (m : ℤ). int_le v m) c.lower-in-Eq.result true) same in
    c.is_up_to-then-is_from.ensures ∙ ap (λ (v : ℤ). option_map_or (λ (m : ℤ). int_le m v) c.upper-then-is_from.result true) same
    ∙ and_when low high (sym low_is ∙ c.if-is_from.true)
    ∙ all_eq c.lower-in-Eq.result c.upper-then-is_from.result c.args.atom.value c.args.self.now c.lower-in-Eq.ensures.least c.upper-then-is_from.ensures.greatest
    ∙ all_by c.args.atom Eq c.args.self.now c.args.self.now (sym c.op.ensures ∙ c.in-Eq.is) refl

pub returns-else-is_from : goal.returns-else-is_from
returns-else-is_from c =
    let fits : SFits w64 c.value-value.result = search rules in
    let same = to_z-of_z w64 c.value-value.result fits ∙ c.value-value.ensures.value in
    let low = option_map_or (λ (m : ℤ). int_le c.args.atom.value m) c.lower-in-Eq.result true in
    let high = option_map_or (λ (m : ℤ). int_le m c.args.atom.value) (greatest c.args.self.now) true in
    let low_is : c.is_from-in-Eq.result ≡ low = c.is_from-in-Eq.ensures ∙ ap (λ (v : ℤ). option_map_or (λ (m : ℤ). int_le v m) c.lower-in-Eq.result true) same in
    low_is ∙ and_unless low high (sym low_is ∙ c.if-is_from.false)
    ∙ all_eq c.lower-in-Eq.result (greatest c.args.self.now) c.args.atom.value c.args.self.now c.lower-in-Eq.ensures.least refl
    ∙ all_by c.args.atom Eq c.args.self.now c.args.self.now (sym c.op.ensures ∙ c.in-Eq.is) refl

pub returns-in-Ne : goal.returns-in-Ne
returns-in-Ne c =
    let fits : SFits w64 c.value-value.result = search rules in
    let same = to_z-of_z w64 c.value-value.result fits ∙ c.value-value.ensures.value in
    all_ne c.has.result c.args.atom.value (to_z w64 (of_z w64 c.value-value.result)) c.args.self.now same c.has.ensures.0 c.has.ensures.1
    ∙ all_by c.args.atom Ne c.args.self.now c.args.self.now (sym c.op.ensures ∙ c.in-Ne.is) refl
