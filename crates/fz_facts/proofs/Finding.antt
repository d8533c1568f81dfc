-- What the context says of a name holds of the item at the name's place.
use Rattle.std.proofs.Common.{◌≡◌, ℕ, ◌+◌, ◌<◌, Bool, true, false, cond, not, nat_lt, Option, Some, None, List, [], ◌∷◌, length, map, bytes_eq, unwrap_or, slice_get, pos, refl, sym, ap, subst, ◌∙◌, one-add, arith}
use Rattle.std.specs.List.{position_or_len}
use Rattle.std.specs.Map.{lookup}
use Rattle.std.specs.Option.{option_map_or}
use Rattle.std.proofs.lemmas.List.{length-map}
use Rattle.std.proofs.lemmas.Bool.Decides.{nat_tests}
use Rattle.std.proofs.lemmas.Option.{slice_get_within}
use Rattle.dp_domain.specs.declared.term.Term.TheVariants.{Const}
use Rattle.fz_model.specs.Context.{BasicText, Truth, Whole, Name, Context, meaning}
use Rattle.fz_model.specs.Models.{basic_of_text, name_of_item, place_of, variable_of_item}
use Rattle.fz_model.specs.declared.meant.Meant.{Meant}
use Rattle.fz_model.specs.declared.meant.Meant.TheVariants.{IntConst, BoolConst}
use Rattle.fz_model.specs.declared.model.Basic.TheVariants as basic
use Rattle.fz_model.specs.declared.model.Item.{Item}
use Rattle.fz_sat.specs.Args.{elements_of_item, term_of_item}
use Rattle.fz_facts.proofs.Pairs.{Pairs}
use Rattle.fz_facts.proofs.Shown.{IsFine, IsRight, Means, Shows, Stands, Stated}

abbrev Entry : Type 0
Entry = List ℕ × Meant

-- the first place of the name
abbrev first_place : List ℕ → List Item → ℕ
first_place bytes items = position_or_len (bytes_eq bytes) (map name_of_item items)

abbrev Found : (Entry → Item → Type 0) → List ℕ → Meant → List Item → Type 0
Found R bytes m items = (e : Entry) × (i : Item) × (slice_get items (first_place bytes items) ≡ Some i) × (e.1 ≡ m) × R e i

found_step : (R : Entry → Item → Type 0) (bytes : List ℕ) (m : Meant) (e : Entry) (o : Option Meant) (i : Item) (items : List Item) (b : Bool)
    → bytes_eq bytes (name_of_item i) ≡ b → cond b (Some e.1) o ≡ Some m → R e i → (o ≡ Some m → Found R bytes m items) → Found R bytes m (i ∷ items)
found_step R bytes m e o i items true is h r more =
    let q = first_place bytes items in
    let same : e.1 ≡ m = cc in
    (e, i, ap (λ t. slice_get (i ∷ items) (cond (not t) (1 + q) 0)) is, same, r)
found_step R bytes m e o i items false is h r more =
    let q = first_place bytes items in
    let f = more h in
    (f.0, f.1, ap (λ t. slice_get (i ∷ items) (cond (not t) (1 + q) 0)) is ∙ ap (λ k. slice_get (i ∷ items) k) (one-add q) ∙ f.2, f.3, f.4)

found : (R : Entry → Item → Type 0) → ((e : Entry) (i : Item) → R e i → e.0 ≡ name_of_item i) → (bytes : List ℕ) (m : Meant) (es : List Entry) (items : List Item)
    → Pairs R es items → lookup (bytes_eq bytes) es ≡ Some m → Found R bytes m items
found R named bytes m [] [] p h = absurd cc
found R named bytes m [] (i ∷ items) p h = absurd p
found R named bytes m (e ∷ es) [] p h = absurd p
found R named bytes m (e ∷ es) (i ∷ items) p h =
    found_step R bytes m e (lookup (bytes_eq bytes) es) i items (bytes_eq bytes e.0) (ap (bytes_eq bytes) (sym (named e i p.0))) h p.0
    (λ k. found R named bytes m es items p.1 k)

-- ---- the place of a name

place_step : (q n : ℕ) → q < n → unwrap_or (cond (nat_lt q n) (Some q) None) 0 ≡ q
place_step q n h =
    let is : nat_lt q n ≡ true = grind (arith, nat_tests) in
    ap (λ t. unwrap_or (cond t (Some q) None) 0) is

place_is : (bytes : List ℕ) (items : List Item) (i : Item) → slice_get items (first_place bytes items) ≡ Some i → place_of items bytes ≡ first_place bytes items
place_is bytes items i h =
    place_step (first_place bytes items) (length (map name_of_item items))
    (subst (λ n. first_place bytes items < n) (sym (length-map items name_of_item)) (slice_get_within items (first_place bytes items) i h))

stated_at : (items : List Item) (m : Meant) (k : ℕ) (i : Item) → slice_get items k ≡ Some i → Means items m i → Stated items m (basic.Item k)
stated_at items m k i h means =
    subst (λ o. Shows items m (option_map_or term_of_item o (Const (pos 0))) (variable_of_item o) (option_map_or elements_of_item o [])) (sym h) means

stated_name : (c : Context) (items : List Item) → IsRight c items → (bytes : List ℕ) (m : Meant) → lookup (bytes_eq bytes) c.entries ≡ Some m
    → Stands items (basic.Item (place_of items bytes)) × Stated items m (basic.Item (place_of items bytes))
stated_name c items right bytes m h =
    let f = found (IsFine items) (λ e i fine. fine.name) bytes m c.entries items right.fine h in
    let k = first_place bytes items in
    subst (λ p. Stands items (basic.Item p) × Stated items m (basic.Item p)) (sym (place_is bytes items f.1 f.2))
    (slice_get_within items k f.1 f.2, stated_at items m k f.1 f.2 (subst (λ n. Means items n f.1) f.3 f.4.means))

-- what is known stands among the items, and is what is meant
pub stated : (c : Context) (items : List Item) → IsRight c items → (text : BasicText) (m : Meant) → meaning c text ≡ Some m
    → Stands items (basic_of_text items text) × Stated items m (basic_of_text items text)
stated c items right (Truth v) m h =
    let same : BoolConst v ≡ m = cc in
    subst (λ n. Stands items (basic.Bool v) × Stated items n (basic.Bool v)) same (tt, (refl, refl))
stated c items right (Whole v dotted) m h =
    let same : IntConst v ≡ m = cc in
    subst (λ n. Stands items (basic.Int v) × Stated items n (basic.Int v)) same (tt, (refl, refl))
stated c items right (Name bytes) m h = stated_name c items right bytes m h
