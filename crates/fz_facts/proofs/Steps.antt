-- Items that declare no variable leave all as it is.
use Rattle.std.proofs.Common.{◌≡◌, ℕ, ◌+◌, ◌≤◌, false, ◌||◌, None, List, [], ◌∷◌, ◌++◌, length, map, sym, ap, subst, ◌∙◌, append-nil, length-append, le_of_eq, filter, add-zero, zero-add, if◌then◌else◌, arith}
use Rattle.std.specs.List.{cons_option}
use Rattle.std.proofs.Math.Bool.{or-false}
use Rattle.std.proofs.lemmas.List.Elements.{filter_map-append}
use Rattle.dp_base.specs.Lists.{Each}
use Rattle.fz_model.specs.Context.{Context}
use Rattle.fz_model.specs.Models.{count_variables, is_own, name_of_item}
use Rattle.fz_model.specs.declared.meant.Meant.{Meant}
use Rattle.fz_model.specs.declared.model.Item.{Item}
use Rattle.fz_facts.specs.Declared.{declares_bool, is_boolean, name_of, names_of}
use Rattle.fz_facts.specs.Facts.{AreApart, AreNumbered, IsNumbered}
use Rattle.fz_facts.proofs.Counting.{IsPlaced, boolean-push, count-push, numbered-push, one_if, own_later, owns_same}
use Rattle.fz_facts.proofs.Later.{Extends, fine_later, numbered_later}
use Rattle.fz_facts.proofs.Pairs.{Pairs, Pairs-each, Pairs-push, Pairs-weaker, slice_get-append}
use Rattle.fz_facts.proofs.Shown.{IsFine, IsRight}

-- what defines the items stands among them
pub all_placed : (c : Context) (items : List Item) → IsRight c items → Each (IsPlaced items) items
all_placed c items right = Pairs-each (IsFine items) (IsPlaced items) (λ e i f. f.placed) c.entries items right.fine

-- numbers stay
numbers_later : (items : List Item) (i : Item) → Extends items (items ++ i ∷ []) → (n : ℕ) (xs : List Item) → Each (IsPlaced items) xs → AreNumbered items n xs → AreNumbered (items ++ i ∷ []) n xs
numbers_later items i x n [] h k = tt
numbers_later items i x n (y ∷ ys) h k = (
  numbered_later items (items ++ i ∷ []) x n y h.0 k.0,
  subst (λ b. AreNumbered (items ++ i ∷ []) (if b then n + 1 else n) ys) (sym (own_later items (i ∷ []) y h.0))
      (numbers_later items i x (if is_own items y then n + 1 else n) ys h.1 k.1),
)

-- all numbers behind one more item
pub numbers-push : (c : Context) (items : List Item) (i : Item) → IsRight c items → Extends items (items ++ i ∷ []) → IsNumbered (items ++ i ∷ []) (count_variables items) i
    → AreNumbered (items ++ i ∷ []) 0 (items ++ i ∷ [])
numbers-push c items i right x h =
    let after = items ++ i ∷ [] in
    let placed = all_placed c items right in
    numbered-push after 0 items i (numbers_later items i x 0 items placed right.numbered)
    (subst (λ n. IsNumbered after n i) (sym (zero-add (length (filter (is_own after) items)) ∙ owns_same items (i ∷ []) items placed)) h)

-- all items behind one more
pub fine-push : (c : Context) (items : List Item) (i : Item) (m : Meant) → IsRight c items → Extends items (items ++ i ∷ []) → IsFine (items ++ i ∷ []) (name_of_item i, m) i
    → Pairs (IsFine (items ++ i ∷ [])) (c.entries ++ (name_of_item i, m) ∷ []) (items ++ i ∷ [])
fine-push c items i m right x f =
    let after = items ++ i ∷ [] in
    Pairs-push (IsFine after) c.entries items (name_of_item i, m) i
    (Pairs-weaker (IsFine items) (IsFine after) (fine_later items after x) c.entries items right.fine) f

-- ---- no variable

pub record IsPlain (i : Item) : Type 0 where
  pub own : (items : List Item) → is_own items i ≡ false
  pub declares : (x : ℕ) → declares_bool x i ≡ false
  pub nameless : name_of i ≡ None
  pub numbered : (items : List Item) (n : ℕ) → IsNumbered items n i

same_count : (c : Context) (items : List Item) (i : Item) → IsPlain i → IsRight c items → count_variables (items ++ i ∷ []) ≡ count_variables items
same_count c items i plain right =
    count-push items i (all_placed c items right) ∙ ap (λ b. count_variables items + one_if b) (plain.own (items ++ i ∷ [])) ∙ add-zero (count_variables items)

same_boolean : (items : List Item) (i : Item) → IsPlain i → (x : ℕ) → is_boolean (items ++ i ∷ []) x ≡ is_boolean items x
same_boolean items i plain x = boolean-push items i x ∙ ap (λ b. is_boolean items x || b) (plain.declares x) ∙ or-false (is_boolean items x)

same_names : (items : List Item) (i : Item) → IsPlain i → names_of (items ++ i ∷ []) ≡ names_of items
same_names items i plain =
    filter_map-append name_of items (i ∷ []) ∙ ap (λ o. names_of items ++ cons_option o []) plain.nameless ∙ append-nil (names_of items)

plain_extends : (c : Context) (items : List Item) (i : Item) → IsPlain i → IsRight c items → Extends items (items ++ i ∷ [])
plain_extends c items i plain right =
    record {
      places = λ k h. slice_get-append items (i ∷ []) k h;
      longer = simp length-append (omega arith);
      counts = le_of_eq (sym (same_count c items i plain right));
      bools = λ x h. same_boolean items i plain x;
    }

-- such an item behind the items
pub plain_step : (c : Context) (items : List Item) (i : Item) (m : Meant) (elements : ℕ) → IsPlain i → IsRight c items → IsFine items (name_of_item i, m) i
    → IsRight (record { entries = c.entries ++ (name_of_item i, m) ∷ []; elements = elements; variables = c.variables }) (items ++ i ∷ [])
plain_step c items i m elements plain right f =
    let after = items ++ i ∷ [] in
    let x = plain_extends c items i plain right in
    let names = sym (same_names items i plain) in
    record {
      fine = fine-push c items i m right x (fine_later items after x (name_of_item i, m) i f);
      unused = λ y h. same_boolean items i plain y ∙ right.unused y (subst (λ n. n ≤ y) (same_count c items i plain right) h);
      apart = subst (λ ns. AreApart (map (λ e. e.0) ns)) names right.apart;
      numbered = numbers-push c items i right x (plain.numbered after (count_variables items));
      counted = subst (λ (ns : List (List ℕ × ℕ)). c.variables ≡ length ns) names right.counted;
      few = subst (λ (ns : List (List ℕ × ℕ)). length ns ≤ 200000) names right.few;
    }
