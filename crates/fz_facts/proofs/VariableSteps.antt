-- A variable or an alias behind the items.
use Rattle.std.proofs.Common.{◌≡◌, ℕ, ◌+◌, ◌<◌, ◌≤◌, ◌==◌, Bool, true, false, ◌&&◌, ◌||◌, if◌then◌else◌, is_none, unwrap_or, Option, Some, None, List, [], ◌∷◌, ◌++◌, length, map, bytes_eq, refl, sym, ap, subst, ◌∙◌, length-append, arith}
use Rattle.std.specs.Map.{lookup}
use Rattle.std.specs.Prelude.{MatchOption}
use Rattle.std.proofs.Math.Bool.{or-false, or_self}
use Rattle.std.proofs.lemmas.Bool.Decides.{nat_tests}
use Rattle.std.proofs.lemmas.List.{map-append}
use Rattle.std.proofs.lemmas.List.Elements.{filter_map-append}
use Rattle.dp_base.proofs.Lists.{Each-weaker}
use Rattle.dp_base.specs.Names.{is_name}
use Rattle.fz_model.specs.Context.{Context}
use Rattle.fz_model.specs.Models.{count_variables, named_variable, number_of}
use Rattle.fz_model.specs.declared.meant.Meant.{Meant}
use Rattle.fz_model.specs.declared.meant.Meant.TheVariants.{IntVar, BoolVar}
use Rattle.fz_model.specs.declared.model.Basic.{Basic}
use Rattle.fz_model.specs.declared.model.Item.{Item}
use Rattle.fz_model.specs.declared.model.Item.TheVariants as item
use Rattle.fz_model.specs.declared.model.VarType.{VarType}
use Rattle.fz_facts.specs.Declared.{is_bool_type, is_boolean, name_of, names_of}
use Rattle.fz_facts.specs.Facts.{AreApart, IsBounded, IsNumbered, IsSmallType}
use Rattle.fz_facts.proofs.Apart.{apart-push, no_variable}
use Rattle.fz_facts.proofs.Counting.{IsPlaced, boolean-push, count-push, named_later, one_if}
use Rattle.fz_facts.proofs.Later.{Extends, declared_later, stands_later}
use Rattle.fz_facts.proofs.Pairs.{slice_get-append}
use Rattle.fz_facts.proofs.Shown.{IsFine, IsRight, Means, Stands, basics_of}
use Rattle.fz_facts.proofs.Steps.{all_placed, fine-push, numbers-push}

-- ---- one number more, in plain numbers: f says which variables are Boolean, o is the variable that is named

-- a variable that is named is one of these, and of the kind
abbrev pub IsAlias : (ℕ → Bool) → ℕ → Bool → Option ℕ → Type 0
IsAlias f count k o = MatchOption o (Unit {0}) (λ y. (y < count) × (f y ≡ k))

number_below : (f : ℕ → Bool) (count : ℕ) (k : Bool) (o : Option ℕ) → IsAlias f count k o → unwrap_or o count < count + one_if (is_none o)
number_below f count k None a = omega arith
number_below f count k (Some y) a = omega (arith, a.0)

not_equal : (a b : ℕ) → b < a → (a == b) ≡ false
not_equal a b h = grind (arith, nat_tests)

not_equal_above : (a b : ℕ) → a < b → (a == b) ≡ false
not_equal_above a b h = grind (arith, nat_tests)

equal_itself : (a : ℕ) → (a == a) ≡ true
equal_itself a = grind (arith, nat_tests)

equal_is : (a b : ℕ) → (a == b) ≡ true → a ≡ b
equal_is a b e = grind (arith, nat_tests)

same_kind : (f : ℕ → Bool) (k : Bool) (x y : ℕ) (b : Bool) → (y == x) ≡ b → f y ≡ k → (f x || (b && k)) ≡ f x
same_kind f k x y true e h =
    let is : f x ≡ k = ap f (sym (equal_is y x e)) ∙ h in
    ap (λ t. t || k) is ∙ or_self k ∙ sym is
same_kind f k x y false e h = or-false (f x)

kinds_stay : (f : ℕ → Bool) (count : ℕ) (k : Bool) (o : Option ℕ) → IsAlias f count k o → (x : ℕ) → x < count → (f x || ((unwrap_or o count == x) && k)) ≡ f x
kinds_stay f count k None a x h = ap (λ t. f x || (t && k)) (not_equal count x h) ∙ or-false (f x)
kinds_stay f count k (Some y) a x h = same_kind f k x y (y == x) refl a.1

own_kind : (f : ℕ → Bool) (count : ℕ) (k : Bool) (o : Option ℕ) → IsAlias f count k o → ((x : ℕ) → count ≤ x → f x ≡ false)
    → (f (unwrap_or o count) || ((unwrap_or o count == unwrap_or o count) && k)) ≡ k
own_kind f count k None a unused = ap (λ t. f count || (t && k)) (equal_itself count) ∙ ap (λ t. t || k) (unused count (omega arith))
own_kind f count k (Some y) a unused = ap (λ t. f y || (t && k)) (equal_itself y) ∙ ap (λ t. t || k) a.1 ∙ or_self k

number_is : (f : ℕ → Bool) (count : ℕ) (k : Bool) (o : Option ℕ) → IsAlias f count k o → MatchOption o (unwrap_or o count ≡ count) (λ y. (unwrap_or o count ≡ y) × (y < count))
number_is f count k None a = refl
number_is f count k (Some y) a = (refl, a.0)

-- ---- the item

-- what the tests of a variable have shown behind the items
pub record IsNew (c : Context) (items : List Item) (name : List ℕ) (kind : VarType) (value : Option Basic) : Type 0 where
  pub spelled : is_name name ≡ true
  pub fresh : lookup (bytes_eq name) c.entries ≡ None
  pub fewer : c.variables < 200000
  pub small : IsSmallType kind
  pub bounded : IsBounded items kind value
  pub placed : (output : Bool) (var : ℕ) → IsPlaced items (item.Var name kind output value var)
  pub alias : IsAlias (is_boolean items) (count_variables items) (is_bool_type kind) (named_variable items value)

-- what its name means
abbrev pub meant_of : Bool → Meant
meant_of bools = if bools then BoolVar else IntVar

module _ (c : Context) (items : List Item) (right : IsRight c items) (name : List ℕ) (kind : VarType) (output : Bool) (value : Option Basic) (new : IsNew c items name kind value) where
  abbrev variable : Item
  variable = item.Var name kind output value (number_of items value)

  abbrev after : List Item
  after = items ++ variable ∷ []

  named : named_variable after value ≡ named_variable items value
  named = named_later items (variable ∷ []) name kind output value (number_of items value) (new.placed output (number_of items value))

  counted_after : count_variables after ≡ count_variables items + one_if (is_none (named_variable items value))
  counted_after = count-push items variable (all_placed c items right) ∙ ap (λ o. count_variables items + one_if (is_none o)) named

  boolean_after : (x : ℕ) → is_boolean after x ≡ (is_boolean items x || ((number_of items value == x) && is_bool_type kind))
  boolean_after x = boolean-push items variable x

  extends : Extends items after
  extends =
      record {
        places = λ k h. slice_get-append items (variable ∷ []) k h;
        longer = simp length-append (omega arith);
        counts = omega (arith, counted_after);
        bools = λ x h. boolean_after x ∙ kinds_stay (is_boolean items) (count_variables items) (is_bool_type kind) (named_variable items value) new.alias x h;
      }

  below_count : number_of items value < count_variables after
  below_count = omega (arith, counted_after, number_below (is_boolean items) (count_variables items) (is_bool_type kind) (named_variable items value) new.alias)

  kind_after : is_boolean after (number_of items value) ≡ is_bool_type kind
  kind_after = boolean_after (number_of items value) ∙ own_kind (is_boolean items) (count_variables items) (is_bool_type kind) (named_variable items value) new.alias right.unused

  means_kind : (b : Bool) → is_boolean after (number_of items value) ≡ b → Means after (meant_of b) variable
  means_kind true e = (number_of items value, refl, below_count, e, refl)
  means_kind false e = (number_of items value, refl, below_count, e, refl)

  fine : IsFine after (name, meant_of (is_bool_type kind)) variable
  fine =
      record {
        name = refl;
        spelled = new.spelled;
        placed = Each-weaker (Stands items) (Stands after) (stands_later items after extends) (basics_of variable) (new.placed output (number_of items value));
        means = means_kind (is_bool_type kind) kind_after;
        declared = declared_later items after extends variable (new.placed output (number_of items value)) (new.small, new.bounded);
      }

  unused_after : (x : ℕ) → count_variables after ≤ x → is_boolean after x ≡ false
  unused_after x h =
      let less : number_of items value < x = omega (arith, h, below_count) in
      let old : count_variables items ≤ x = omega (arith, h, counted_after) in
      boolean_after x ∙ ap (λ t. is_boolean items x || (t && is_bool_type kind)) (not_equal_above (number_of items value) x less)
      ∙ or-false (is_boolean items x) ∙ right.unused x old

  numbered_after : IsNumbered after (count_variables items) variable
  numbered_after =
      subst (λ o. MatchOption o (number_of items value ≡ count_variables items) (λ y. (number_of items value ≡ y) × (y < count_variables items))) (sym named)
      (number_is (is_boolean items) (count_variables items) (is_bool_type kind) (named_variable items value) new.alias)

  names_after : names_of after ≡ names_of items ++ (name, number_of items value) ∷ []
  names_after = filter_map-append name_of items (variable ∷ [])

  apart_after : AreApart (map (λ e. e.0) (names_of after))
  apart_after =
      subst (λ (ns : List (List ℕ × ℕ)). AreApart (map (λ e. e.0) ns)) (sym names_after)
      (subst AreApart (sym (map-append (λ (e : List ℕ × ℕ). e.0) (names_of items) ((name, number_of items value) ∷ [])))
      (apart-push (map (λ e. e.0) (names_of items)) name right.apart (no_variable (IsFine items) (λ e i f. f.name) name c.entries items right.fine new.fresh)))

  length_after : length (names_of after) ≡ c.variables + 1
  length_after = ap (λ (ns : List (List ℕ × ℕ)). length ns) names_after ∙ length-append (names_of items) ((name, number_of items value) ∷ []) ∙ ap (λ n. n + 1) (sym right.counted)

  -- the variable behind the items
  pub variable_step : (elements : ℕ)
      → IsRight (record { entries = c.entries ++ (name, meant_of (is_bool_type kind)) ∷ []; elements = elements; variables = c.variables + 1 }) after
  variable_step elements =
      record {
        fine = fine-push c items variable (meant_of (is_bool_type kind)) right extends fine;
        unused = unused_after;
        apart = apart_after;
        numbered = numbers-push c items variable right extends numbered_after;
        counted = sym length_after;
        few = omega (arith, length_after, new.fewer);
      }
