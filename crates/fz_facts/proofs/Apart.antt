-- A name that the context lacks is no variable's, and stands apart from their names.
use Rattle.std.proofs.Common.{◌≡◌, ℕ, Bool, true, false, cond, Option, Some, None, List, [], ◌∷◌, ◌++◌, map, bytes_eq, refl, sym, ◌∙◌, subst, inl, inr}
use Rattle.std.specs.Map.{lookup}
use Rattle.std.proofs.lemmas.Bool.{false≢true}
use Rattle.std.proofs.lemmas.Slice.Eq.{bytes_eq-Decides}
use Rattle.dp_base.specs.Lists.{Among}
use Rattle.dp_base.proofs.Lists.{Among-append_cases}
use Rattle.fz_model.specs.Models.{name_of_item}
use Rattle.fz_model.specs.declared.meant.Meant.{Meant}
use Rattle.fz_model.specs.declared.model.Item.{Item}
use Rattle.fz_model.specs.declared.model.Item.TheVariants as item
use Rattle.fz_facts.specs.Declared.{names_of}
use Rattle.fz_facts.specs.Facts.{AreApart}
use Rattle.fz_facts.proofs.Pairs.{Pairs}

-- one more name
pub apart-push : (names : List (List ℕ)) (name : List ℕ) → AreApart names → ¬ (Among name names) → AreApart (names ++ name ∷ [])
apart-push [] name a new = ((λ h. h), tt)
apart-push (n ∷ names) name a new = (
  (λ h. elim (Among-append_cases n names (name ∷ []) h) [
    | inl k ↦ a.0 k
    | inr (inl e) ↦ new (inl (sym e))
    | inr (inr k) ↦ k
  ]),
  apart-push names name a.1 (λ h. new (inr h)),
)

-- ---- names that the context lacks

first_step : (b : Bool) (m : Meant) (o : Option Meant) → cond b (Some m) o ≡ None → (b ≡ false) × (o ≡ None)
first_step true m o e = absurd cc
first_step false m o e = (refl, e)

abbrev var_names : List Item → List (List ℕ)
var_names items = map (λ e. e.0) (names_of items)

-- a variable among them has one of the names
names_step : (bytes : List ℕ) (i : Item) (items : List Item) → bytes_eq bytes (name_of_item i) ≡ false → ¬ (Among bytes (var_names items)) → ¬ (Among bytes (var_names (i ∷ items)))
names_step bytes (item.Var name kind output value var) items is new (inl e) = false≢true (sym is ∙ (bytes_eq-Decides bytes name).1 e)
names_step bytes (item.Var name kind output value var) items is new (inr h) = new h
names_step bytes i items is new h = new h

pub no_variable : (R : (List ℕ × Meant) → Item → Type 0) → ((e : List ℕ × Meant) (i : Item) → R e i → e.0 ≡ name_of_item i) → (bytes : List ℕ) (es : List (List ℕ × Meant)) (items : List Item)
    → Pairs R es items → lookup (bytes_eq bytes) es ≡ None → ¬ (Among bytes (var_names items))
no_variable R named bytes [] [] p h = λ k. k
no_variable R named bytes [] (i ∷ items) p h = absurd p
no_variable R named bytes (e ∷ es) [] p h = absurd p
no_variable R named bytes (e ∷ es) (i ∷ items) p h =
    let parts = first_step (bytes_eq bytes e.0) e.1 (lookup (bytes_eq bytes) es) h in
    names_step bytes i items (subst (λ name. bytes_eq bytes name ≡ false) (named e i p.0) parts.0) (no_variable R named bytes es items p.1 parts.1)
