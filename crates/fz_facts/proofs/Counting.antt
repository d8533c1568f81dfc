-- One item more: how many variables there are, which are Boolean, and how they are numbered.
use Rattle.std.proofs.Common.{◌≡◌, ℕ, ◌+◌, Bool, true, false, cond, ◌||◌, if◌then◌else◌, Option, Some, None, List, [], ◌∷◌, ◌++◌, length, filter, refl, ap, subst, ◌∙◌, length-append, is_none, add-zero, arith}
use Rattle.std.proofs.Math.Bool.{or-false}
use Rattle.std.proofs.lemmas.List.Elements.{filter-append}
use Rattle.std.proofs.lemmas.List.Folds.{list_any-append}
use Rattle.dp_base.specs.Lists.{Each}
use Rattle.fz_model.specs.Models.{count_variables, is_own, named_variable, variable_of_item}
use Rattle.fz_model.specs.declared.model.Basic.{Basic}
use Rattle.fz_model.specs.declared.model.Basic.TheVariants as basic
use Rattle.fz_model.specs.declared.model.Item.{Item}
use Rattle.fz_model.specs.declared.model.Item.TheVariants as item
use Rattle.fz_model.specs.declared.model.VarType.{VarType}
use Rattle.fz_facts.specs.Declared.{declares_bool, is_boolean}
use Rattle.fz_facts.specs.Facts.{AreNumbered, IsNumbered}
use Rattle.fz_facts.proofs.Pairs.{slice_get-append}
use Rattle.fz_facts.proofs.Shown.{basics_of, Stands}

-- what defines an item stands among the items
abbrev pub IsPlaced : List Item → Item → Type 0
IsPlaced items i = Each (Stands items) (basics_of i)

-- ---- how many

named_at : (items more : List Item) (b : Basic) → Stands items b → named_variable (items ++ more) (Some b) ≡ named_variable items (Some b)
named_at items more (basic.Item place) h = ap variable_of_item (slice_get-append items more place h)
named_at items more (basic.Bool v) h = refl
named_at items more (basic.Int v) h = refl

pub named_later : (items more : List Item) (name : List ℕ) (kind : VarType) (output : Bool) (value : Option Basic) (var : ℕ)
    → IsPlaced items (item.Var name kind output value var) → named_variable (items ++ more) value ≡ named_variable items value
named_later items more name kind output None var h = refl
named_later items more name kind output (Some b) var h = named_at items more b h.0

pub own_later : (items more : List Item) (i : Item) → IsPlaced items i → is_own (items ++ more) i ≡ is_own items i
own_later items more (item.Var name kind output value var) h = ap is_none (named_later items more name kind output value var h)
own_later items more i h = refl

filter_same : (p q : Item → Bool) (xs : List Item) → Each (λ x. p x ≡ q x) xs → filter p xs ≡ filter q xs
filter_same p q [] h = refl
filter_same p q (x ∷ xs) h = ap (λ b. cond b (x ∷ filter p xs) (filter p xs)) h.0 ∙ ap (λ ys. cond (q x) (x ∷ ys) ys) (filter_same p q xs h.1)

owns_later : (items more xs : List Item) → Each (IsPlaced items) xs → Each (λ i. is_own (items ++ more) i ≡ is_own items i) xs
owns_later items more [] h = tt
owns_later items more (x ∷ xs) h = (own_later items more x h.0, owns_later items more xs h.1)

-- so many are variables of their own, with more items too
pub owns_same : (items more xs : List Item) → Each (IsPlaced items) xs → length (filter (is_own (items ++ more)) xs) ≡ length (filter (is_own items) xs)
owns_same items more xs h = ap (λ (ys : List Item). length ys) (filter_same (is_own (items ++ more)) (is_own items) xs (owns_later items more xs h))

-- one or none
abbrev pub one_if : Bool → ℕ
one_if b = if b then 1 else 0

length_if : (b : Bool) (i : Item) → length (cond b (i ∷ []) []) ≡ one_if b
length_if true i = refl
length_if false i = refl

pub count-push : (items : List Item) (i : Item) → Each (IsPlaced items) items → count_variables (items ++ i ∷ []) ≡ count_variables items + one_if (is_own (items ++ i ∷ []) i)
count-push items i h =
    let own = is_own (items ++ i ∷ []) in
    ap (λ (xs : List Item). length xs) (filter-append own items (i ∷ []))
    ∙ length-append (filter own items) (filter own (i ∷ []))
    ∙ ap (λ n. n + length (filter own (i ∷ []))) (owns_same items (i ∷ []) items h)
    ∙ ap (λ n. count_variables items + n) (length_if (own i) i)

-- ---- which are Boolean

pub boolean-push : (items : List Item) (i : Item) (x : ℕ) → is_boolean (items ++ i ∷ []) x ≡ (is_boolean items x || declares_bool x i)
boolean-push items i x = list_any-append (declares_bool x) items (i ∷ []) ∙ ap (λ b. is_boolean items x || b) (or-false (declares_bool x i))

-- ---- their numbers

-- the number of variables behind one more
abbrev next : Bool → ℕ → ℕ
next b n = if b then n + 1 else n

next_own : (b : Bool) (n : ℕ) (i : Item) (xs : List Item) → n + length (cond b (i ∷ xs) xs) ≡ next b n + length xs
next_own true n i xs = omega arith
next_own false n i xs = refl

pub numbered-push : (items : List Item) (n : ℕ) (xs : List Item) (i : Item) → AreNumbered items n xs → IsNumbered items (n + length (filter (is_own items) xs)) i
    → AreNumbered items n (xs ++ i ∷ [])
numbered-push items n [] i h k = (subst (λ m. IsNumbered items m i) (add-zero n) k, tt)
numbered-push items n (x ∷ xs) i h k = (
  h.0,
  numbered-push items (next (is_own items x) n) xs i h.1
      (subst (λ m. IsNumbered items m i) (next_own (is_own items x) n x (filter (is_own items) xs)) k),
)
