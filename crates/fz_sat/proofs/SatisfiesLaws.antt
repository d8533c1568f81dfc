-- The test of a model is true exactly where an assignment satisfies it.
use Rattle.std.proofs.Common.{◌≡◌, ℕ, Bool, false, ◌&&◌, ◌↔◌, IsTrue, MatchOption, Option, Some, None, List, ℤ, refl, sym, ◌∙◌, ap}
use Rattle.std.specs.List.{list_all}
use Rattle.std.specs.Option.{option_map_or}
use Rattle.std.proofs.lemmas.Bool.{false≢true, and_from, and_parts}
use Rattle.dp_base.specs.Lists.{Each}
use Rattle.dp_base.proofs.Lists.{Each-among, Each-from_among, list_all-at, list_all-from}
use Rattle.fz_model.specs.Models.{Plan}
use Rattle.fz_model.specs.Table.{constraint_of}
use Rattle.fz_model.specs.declared.kinds.ConstraintKind.{ConstraintKind}
use Rattle.fz_model.specs.declared.model.Constraint.{Constraint}
use Rattle.fz_model.specs.declared.model.Item.{Item}
use Rattle.fz_sat.specs.Meaning.{Given, Meaning, given, holds}
use Rattle.fz_sat.specs.Satisfies.{IsMet, Satisfies, is_kept, valuation}
use Rattle.fz_sat.specs.Tests.{is_met}
use Rattle.fz_sat.proofs.MeaningLaws.{meaning_exact}

met_by : (o : Option ConstraintKind) (g : Given) → IsTrue (option_map_or (λ kind. holds kind g) o false) ↔ MatchOption o ⊥ (λ kind. Meaning kind g)
met_by None g = (λ e. false≢true e, λ none. absurd none)
met_by (Some kind) g = meaning_exact kind g

pub met_exact : (items : List Item) (s : ℕ → ℤ) (c : Constraint) → IsTrue (is_met items s c) ↔ IsMet items s c
met_exact items s c = met_by (constraint_of c.name) (given items c.args s)

each_exact : {A : Type 0} (p : A → Bool) (P : A → Type 0) → ((x : A) → IsTrue (p x) ↔ P x) → (xs : List A) → IsTrue (list_all p xs) ↔ Each P xs
each_exact p P exact xs = (
  λ all. Each-from_among P xs (λ x here. (exact x).0 (list_all-at p xs x all here)),
  λ each. list_all-from p xs (λ x here. (exact x).1 (Each-among P xs each x here)),
)

pub satisfies_exact : (m : Plan) (s : ℕ → ℤ) (kept met r : Bool) → kept ≡ list_all (is_kept m.items s) m.items → met ≡ list_all (is_met m.items s) m.constraints → r ≡ (kept && met) → IsTrue r ↔ Satisfies m s
satisfies_exact m s kept met r e f g = (
  λ t.
      let both = and_parts kept met (sym g ∙ t) in
      record { kept = (each_exact (is_kept m.items s) (λ i. IsTrue (is_kept m.items s i)) (λ i. (λ h. h, λ h. h)) m.items).0 (sym e ∙ both.0); met = (each_exact (is_met m.items s) (IsMet m.items s) (met_exact m.items s) m.constraints).0 (sym f ∙ both.1) },
  λ sat.
      g ∙ and_from kept met
      (e ∙ (each_exact (is_kept m.items s) (λ i. IsTrue (is_kept m.items s i)) (λ i. (λ h. h, λ h. h)) m.items).1 sat.kept)
      (f ∙ (each_exact (is_met m.items s) (IsMet m.items s) (met_exact m.items s) m.constraints).1 sat.met),
)

-- the same of the items, numbers and constraints as they are read
pub satisfies_read : (m : Plan) (vs : List ℤ) (items : List Item) (values : List ℤ) (constraints : List Constraint) (kept met r : Bool) → items ≡ m.items → values ≡ vs → constraints ≡ m.constraints → kept ≡ list_all (is_kept items (valuation values)) items → met ≡ list_all (is_met items (valuation values)) constraints → r ≡ (kept && met) → IsTrue r ↔ Satisfies m (valuation vs)
satisfies_read m vs items values constraints kept met r e f g h k same =
    satisfies_exact m (valuation vs) kept met r
    (h ∙ ap (λ is. list_all (is_kept is (valuation values)) is) e ∙ ap (λ v. list_all (is_kept m.items (valuation v)) m.items) f)
    (k ∙ ap (λ is. list_all (is_met is (valuation values)) constraints) e ∙ ap (λ v. list_all (is_met m.items (valuation v)) constraints) f ∙ ap (list_all (is_met m.items (valuation vs))) g)
    same

-- declarations that are not kept
pub not_satisfied : (m : Plan) (vs : List ℤ) (items : List Item) (values : List ℤ) (kept : Bool) → items ≡ m.items → values ≡ vs → kept ≡ list_all (is_kept items (valuation values)) items → kept ≡ false → IsTrue kept ↔ Satisfies m (valuation vs)
not_satisfied m vs items values kept e f h none =
    satisfies_read m vs items values m.constraints kept (list_all (is_met items (valuation values)) m.constraints) kept e f refl h refl (none ∙ sym (ap (λ b. b && list_all (is_met items (valuation values)) m.constraints) none))
