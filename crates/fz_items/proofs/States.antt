-- What always holds of what items declare.
use Rattle.std.proofs.Common.{◌≡◌, ℕ, zero, suc, ◌+◌, ◌≤◌, ◌<◌, Bool, true, false, cond, if◌then◌else◌, List, [], ◌∷◌, ◌++◌, length, map, Option, Some, None, is_none, refl, ap, subst, sym, ◌∙◌, arith, length-append}
use Rattle.std.specs.Prelude.{slice_get, filter}
use Rattle.std.proofs.lemmas.List.{map-append}
use Rattle.std.proofs.lemmas.List.Elements.{filter-append}
use Rattle.fz_model.specs.Context.{Context}
use Rattle.fz_model.specs.ModelText.{declares}
use Rattle.fz_model.specs.Models.{count_variables, is_own, name_of_item, named_variable, type_of, variable_of_item}
use Rattle.fz_model.specs.Items.{is_bool_type, type_elements}
use Rattle.fz_items.specs.Variables.{Variable}
use Rattle.fz_model.specs.declared.meant.Meant.TheVariants.{BoolVar, IntVar}
use Rattle.fz_model.specs.declared.meant.Meant.{Meant}
use Rattle.fz_model.specs.declared.model.Basic.{Basic}
use Rattle.fz_model.specs.declared.model.Basic.TheVariants as basic
use Rattle.fz_model.specs.declared.model.Item.{Item}
use Rattle.fz_model.specs.declared.model.Item.TheVariants as item
use Rattle.fz_model.specs.declared.model.VarType.{VarType}
use Rattle.fz_model.specs.Context.{with_elements}
use Rattle.fz_model.specs.Limits.{max_elements, max_variables}
use Rattle.fz_names.specs.Counts.{with_variable}
use Rattle.fz_items.specs.Places.{names_in}
use Rattle.fz_items.specs.States.{State, ArePlaced, IsKept, IsNoVariable, IsPlacedIn, IsPlacedValue, definition_in, number_behind, own_behind, variable_behind, variable_effect, with_count, with_item}

get_front : {A : Type 0} (xs ys : List A) (k : ℕ) → k < length xs → slice_get (xs ++ ys) k ≡ slice_get xs k
get_front [] ys k h = absurd (omega arith)
get_front (x ∷ xs) ys zero h = refl
get_front (x ∷ xs) ys (suc k) h = get_front xs ys k (omega arith)

own_same : (items more : List Item) (i : Item) → IsPlacedIn (length items) i → is_own (items ++ more) i ≡ is_own items i
own_same items more (item.Var name kind output (Some (basic.Item place)) var) h = ap (λ (i : Option Item). is_none (variable_of_item i)) (get_front items more place h)
own_same items more (item.Var name kind output (Some (basic.Bool value)) var) h = refl
own_same items more (item.Var name kind output (Some (basic.Int value)) var) h = refl
own_same items more (item.Var name kind output None var) h = refl
own_same items more (item.Int name value) h = refl
own_same items more (item.Bool name value) h = refl
own_same items more (item.Set name set) h = refl
own_same items more (item.Consts name bools elements) h = refl
own_same items more (item.Vars name kind output elements) h = refl

own_kept : (items more some : List Item) → ArePlaced (length items) some → filter (is_own (items ++ more)) some ≡ filter (is_own items) some
own_kept items more [] h = refl
own_kept items more (i ∷ some) h =
    ap (λ (b : Bool). cond b (i ∷ filter (is_own (items ++ more)) some) (filter (is_own (items ++ more)) some)) (own_same items more i h.0)
    ∙ ap (λ (is : List Item). cond (is_own items i) (i ∷ is) is) (own_kept items more some h.1)

-- how many of these are variables of their own
abbrev pub own_in : List Item → List Item → ℕ
own_in items some = length (filter (is_own items) some)

own_more : (items : List Item) (i : Item) → ArePlaced (length items) items → IsPlacedIn (length items) i → count_variables (items ++ i ∷ []) ≡ count_variables items + own_in items (i ∷ [])
own_more items i placed here =
    ap length (filter-append (is_own (items ++ i ∷ [])) items (i ∷ [])
    ∙ ap (λ (is : List Item). is ++ filter (is_own (items ++ i ∷ [])) (i ∷ [])) (own_kept items (i ∷ []) items placed)
    ∙ ap (λ (is : List Item). filter (is_own items) items ++ is) (own_kept items (i ∷ []) (i ∷ []) (here, tt)))
    ∙ length-append (filter (is_own items) items) (filter (is_own items) (i ∷ []))

placed_more : (n m : ℕ) (i : Item) → n ≤ m → IsPlacedIn n i → IsPlacedIn m i
placed_more n m (item.Var name kind output (Some (basic.Item place)) var) h p = omega arith
placed_more n m (item.Var name kind output (Some (basic.Bool value)) var) h p = tt
placed_more n m (item.Var name kind output (Some (basic.Int value)) var) h p = tt
placed_more n m (item.Var name kind output None var) h p = tt
placed_more n m (item.Int name value) h p = tt
placed_more n m (item.Bool name value) h p = tt
placed_more n m (item.Set name set) h p = tt
placed_more n m (item.Consts name bools elements) h p = tt
placed_more n m (item.Vars name kind output elements) h p = tt

all_placed : (n m : ℕ) (some : List Item) (i : Item) → n ≤ m → ArePlaced n some → IsPlacedIn n i → ArePlaced m (some ++ i ∷ [])
all_placed n m [] i h placed here = (placed_more n m i h here, tt)
all_placed n m (j ∷ some) i h placed here = (placed_more n m j h placed.0, all_placed n m some i h placed.1 here)

-- an item more
pub kept_more : (context : Context) (items : List Item) (own : ℕ) (bytes : List ℕ) (meant : Meant) (i : Item) → IsKept context items own → name_of_item i ≡ bytes → IsPlacedIn (length items) i
    → IsKept (declares context bytes meant) (items ++ i ∷ []) (own + own_in items (i ∷ []))
kept_more context items own bytes meant i kept named here = record {
  named = map-append (λ (e : List ℕ × Meant). e.0) context.entries ((bytes, meant) ∷ [])
      ∙ ap (λ (names : List (List ℕ)). names ++ bytes ∷ []) kept.named
      ∙ ap (λ (name : List ℕ). map name_of_item items ++ name ∷ []) (sym named)
      ∙ sym (map-append name_of_item items (i ∷ []));
  elements = kept.elements;
  variables = kept.variables;
  counted = ap (λ (n : ℕ). n + own_in items (i ∷ [])) kept.counted ∙ sym (own_more items i kept.placed here);
  placed = let longer = length-append items (i ∷ []) in all_placed (length items) (length (items ++ i ∷ [])) items i (omega (arith, longer)) kept.placed here;
}

no_variable : (items : List Item) (i : Item) → IsNoVariable i → IsPlacedIn (length items) i × (own_in items (i ∷ []) ≡ 0)
no_variable items (item.Var name kind output value var) h = absurd h
no_variable items (item.Int name value) h = (tt, refl)
no_variable items (item.Bool name value) h = (tt, refl)
no_variable items (item.Set name set) h = (tt, refl)
no_variable items (item.Consts name bools elements) h = (tt, refl)
no_variable items (item.Vars name kind output elements) h = (tt, refl)

own_so : (b : Bool) (own : ℕ) (i : Item) → own + length (cond b (i ∷ []) []) ≡ (if b then own + 1 else own)
own_so true own i = omega arith
own_so false own i = omega arith

-- a variable more
pub kept_variable : (context : Context) (items : List Item) (own : ℕ) (bytes name : List ℕ) (meant : Meant) (kind : VarType) (output : Bool) (value : Option Basic) (var : ℕ) → IsKept context items own → name ≡ bytes → IsPlacedValue (length items) value
    → IsKept (declares context bytes meant) (items ++ item.Var name kind output value var ∷ []) (own_behind items own value)
kept_variable context items own bytes name meant kind output value var kept named here =
    let i = item.Var name kind output value var in
    subst (IsKept (declares context bytes meant) (items ++ i ∷ [])) (own_so (is_none (named_variable items value)) own i) (kept_more context items own bytes meant i kept named here)

-- an item more that is no variable
pub kept_other : (context : Context) (items : List Item) (own : ℕ) (bytes : List ℕ) (meant : Meant) (i : Item) → IsKept context items own → name_of_item i ≡ bytes → IsNoVariable i
    → IsKept (declares context bytes meant) (items ++ i ∷ []) own
kept_other context items own bytes meant i kept named other =
    let no = no_variable items i other in
    let same : own + own_in items (i ∷ []) ≡ own = omega (arith, no.1) in
    subst (IsKept (declares context bytes meant) (items ++ i ∷ [])) same (kept_more context items own bytes meant i kept named no.0)

-- with what is counted of a variable
pub kept_counted : (context : Context) (items : List Item) (own n : ℕ) → IsKept context items own → context.elements + n ≤ max_elements → context.variables < max_variables → IsKept (with_variable (with_elements context n)) items own
kept_counted context items own n kept room few = record {
  named = kept.named;
  elements = room;
  variables = omega (arith, few);
  counted = kept.counted;
  placed = kept.placed;
}

pub kept_with_variable : (context : Context) (items : List Item) (own : ℕ) (name : List ℕ) (meant : Meant) (n : ℕ) (i : Item) (later : ℕ) (v : Variable) → IsKept context items own
    → name ≡ v.1.0 → i ≡ variable_behind context items own v → later ≡ own_behind items own (definition_in (names_in context) v.1.1.1) → IsPlacedValue (length items) (definition_in (names_in context) v.1.1.1)
    → context.elements + n ≤ max_elements → context.variables < max_variables → IsKept (with_variable (with_elements (declares context name meant) n)) (items ++ i ∷ []) later
kept_with_variable context items own name meant n i later v kept named is counts placed room few =
    let value = definition_in (names_in context) v.1.1.1 in
    let one = kept_variable context items own name v.1.0 meant (type_of v.0) v.1.1.0 value (number_behind items own value) kept (sym named) placed in
    let two = subst (λ (j : Item). IsKept (declares context name meant) (items ++ j ∷ []) (own_behind items own value)) (sym is) one in
    kept_counted (declares context name meant) (items ++ i ∷ []) later n (subst (IsKept (declares context name meant) (items ++ i ∷ [])) (sym counts) two) room few

pub variable_stands : (context : Context) (items : List Item) (own : ℕ) (name : List ℕ) (meant : Meant) (n : ℕ) (i : Item) (v : Variable) → own ≡ count_variables items
    → name ≡ v.1.0 → meant ≡ (if is_bool_type v.0 then BoolVar else IntVar) → n ≡ type_elements v.0 → i ≡ variable_behind context items own v
    → (let s : State = record { context = with_variable (with_elements (declares context name meant) n); items = items ++ i ∷ [] } in s) ≡ variable_effect (record { context = context; items = items }) v
variable_stands context items own name meant n i v counted named means counts is =
    let made : List ℕ → Meant → ℕ → Item → State = λ name meant n i. record { context = with_variable (with_elements (declares context name meant) n); items = items ++ i ∷ [] } in
    let value = definition_in (names_in context) v.1.1.1 in
    ap (λ (name : List ℕ). made name meant n i) named
    ∙ ap (λ (meant : Meant). made v.1.0 meant n i) means
    ∙ ap (λ (n : ℕ). made v.1.0 (if is_bool_type v.0 then BoolVar else IntVar) n i) counts
    ∙ ap (λ (i : Item). made v.1.0 (if is_bool_type v.0 then BoolVar else IntVar) (type_elements v.0) i) (is ∙ ap (λ (own : ℕ). item.Var v.1.0 (type_of v.0) v.1.1.0 value (number_behind items own value)) counted)

-- an item that is made with the names of the state
pub stands : (s : State) (context : Context) (name : List ℕ) (i : Context → Item) (meant : Context → Meant) (n m : ℕ) (kept : Item) (means : Meant) → context ≡ s.context → kept ≡ i context → means ≡ meant context → n ≡ m
    → with_count (with_item s name means kept) n ≡ with_count (with_item s name (meant s.context) (i s.context)) m
stands s context name i meant n m kept means same is stood counts =
    ap (λ (means : Meant). with_count (with_item s name means kept) n) (stood ∙ ap meant same)
    ∙ ap (λ (kept : Item). with_count (with_item s name (meant s.context) kept) n) (is ∙ ap i same)
    ∙ ap (λ (n : ℕ). with_count (with_item s name (meant s.context) (i s.context)) n) counts
