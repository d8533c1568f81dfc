use Rattle.std.proofs.Common.{◌≡◌, ℕ, ◌+◌, Bool, true, false, not, List, refl, sym, ap, ◌∙◌}
use Rattle.std.specs.List.{list_any, position_or_len}
use Rattle.dp_domain.specs.Atoms.{Atomic}
use Rattle.dp_writer.specs.Atoms.{same, number_in}
use Rattle.dp_writer.specs.Numbering.{with_atom}
use Rattle.dp_writer.specs.Written.{named}
use Rattle.dp_writer.proofs.TableLemmas.{new_few, new_text, new_allowed}
use Rattle.dp_writer.proofs.numbering.number.Goals as goal

absent_from : (table : List Atomic) (k a : Atomic) → k ≡ a → (b : Bool) → b ≡ not (list_any (same k) table) → b ≡ true → list_any (same a) table ≡ false
absent_from table k a e b added new = here (list_any (same a) table) (ap (λ x. not (list_any (same x) table)) (sym e) ∙ sym added ∙ new)
  where
    here : (q : Bool) → not q ≡ true → q ≡ false
    here true h = sym h
    here false h = refl

number_from : (table : List Atomic) (k a : Atomic) → k ≡ a → (place n : ℕ) → place ≡ position_or_len (same k) table → n ≡ place + 1 → n ≡ number_in table a
number_from table k a e place n at is = is ∙ ap (λ p. p + 1) (at ∙ ap (λ x. position_or_len (same x) table) e)

pub returns-in_ok-push_definition-clause-few : goal.returns-in_ok-push_definition-clause-few
returns-in_ok-push_definition-clause-few c =
    let table : List Atomic = c.args.atoms.now.keys in
    let absent = absent_from table c.new.result c.args.atom c.new.ensures c.in_ok-place.is_new c.in_ok-place.ensures.added c.if-is_new.true in
    let is = number_from table c.new.result c.args.atom c.new.ensures c.in_ok-place.place c.in_ok-number.number c.in_ok-place.ensures.index c.in_ok-number.ensures.0 in
    new_few table (named c.args.problem.now c.args.atom) absent c.insert_full.new.self.keys c.in_ok-number.number (c.in_ok-place.ensures.keys ∙ ap (with_atom table) c.new.ensures) is c.in_ok-number.ensures.1.1

pub returns-in_ok-push_definition-clause-text : goal.returns-in_ok-push_definition-clause-text
returns-in_ok-push_definition-clause-text c =
    let table : List Atomic = c.args.atoms.now.keys in
    let absent = absent_from table c.new.result c.args.atom c.new.ensures c.in_ok-place.is_new c.in_ok-place.ensures.added c.if-is_new.true in
    let is = number_from table c.new.result c.args.atom c.new.ensures c.in_ok-place.place c.in_ok-number.number c.in_ok-place.ensures.index c.in_ok-number.ensures.0 in
    new_text table (named c.args.problem.now c.args.atom) absent c.in_ok-number.number is
    c.args.text.now.items c.push_definition.new.text.items c.in_ok-push_definition.ensures.text

pub returns-in_ok-push_definition-clause-allowed :
    goal.returns-in_ok-push_definition-clause-allowed
returns-in_ok-push_definition-clause-allowed c =
    let table : List Atomic = c.args.atoms.now.keys in
    let absent = absent_from table c.new.result c.args.atom c.new.ensures c.in_ok-place.is_new c.in_ok-place.ensures.added c.if-is_new.true in
    let is = number_from table c.new.result c.args.atom c.new.ensures c.in_ok-place.place c.in_ok-number.number c.in_ok-place.ensures.index c.in_ok-number.ensures.0 in
    new_allowed table (named c.args.problem.now c.args.atom) absent c.in_ok-number.number is
    c.in_ok-push_definition.ensures.allowed
