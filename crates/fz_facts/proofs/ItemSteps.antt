-- The items behind all words are what the context behind them says.
use Rattle.std.proofs.Common.{◌≡◌, ◌+◌, inl, inr, None, List, [], ◌∷◌, ◌++◌, refl, sym, ap, subst, ◌∙◌, append-nil, codes, arith}
use Rattle.dp_base.specs.Lists.{Each}
use Rattle.fz_model.specs.Context.{Context}
use Rattle.fz_model.specs.Items.{set_elements, type_elements, variable_item}
use Rattle.fz_model.specs.ModelText.{ItemWords, VariableWords, after_item, after_items, after_variable, closing, context_of, item, nothing}
use Rattle.fz_model.specs.Models.{definition_of, is_noted, item_of, items_behind, items_of, notes_of, set_of, type_of, variable_item_of}
use Rattle.fz_model.specs.Words.{IsSpelled}
use Rattle.fz_model.specs.declared.meant.Meant.TheVariants.{IntConst, BoolConst, SetConst}
use Rattle.fz_model.specs.declared.model.Item.{Item}
use Rattle.fz_model.specs.declared.model.Item.TheVariants as kind
use Rattle.fz_facts.proofs.ArraySteps.{array_step}
use Rattle.fz_facts.proofs.Faults.{EachBehind}
use Rattle.fz_facts.proofs.Shown.{IsRight}
use Rattle.fz_facts.proofs.Steps.{plain_step}
use Rattle.fz_facts.proofs.Typed.{bool_type}
use Rattle.fz_facts.proofs.VariableFacts.{new_variable}
use Rattle.fz_facts.proofs.VariableSteps.{meant_of, variable_step}

abbrev IsFree : Context → ItemWords → Type 0
IsFree c w = ((item c).fault w ≡ None) × Each IsSpelled ((item c).spell w)

variable_more : (c : Context) (items : List Item) → IsRight c items → (v : VariableWords) → (variable_item c).fault v ≡ None → Each IsSpelled ((variable_item c).spell v)
    → IsRight (after_variable c v) (items ++ variable_item_of items v ∷ [])
variable_more c items right v e h =
    let more = variable_step c items right v.1.0 (type_of v.0) (is_noted (codes "output_var") (notes_of v.1.1)) (definition_of items (closing v.1.1))
    (new_variable c items right v e h) (c.elements + type_elements v.0) in
    subst (λ b. IsRight (record { entries = c.entries ++ (v.1.0, meant_of b) ∷ []; elements = c.elements + type_elements v.0; variables = c.variables + 1 })
    (items ++ variable_item_of items v ∷ [])) (bool_type v.0) more

item_step : (c : Context) (items : List Item) → IsRight c items → (w : ItemWords) → IsFree c w → IsRight (after_item c w) (items ++ item_of items w)
item_step c items right (inl predicate) f = subst (IsRight c) (sym (append-nil items)) right
item_step c items right (inr (inl i)) f =
    plain_step c items (kind.Int i.0 (closing i.1).0) (IntConst (closing i.1).0) c.elements (record { own = λ items. refl; declares = λ x. refl; nameless = refl; numbered = λ items n. tt }) right
    (record { name = refl; spelled = tt; placed = tt; means = (refl, refl); declared = tt })
item_step c items right (inr (inr (inl b))) f =
    plain_step c items (kind.Bool b.0 (closing b.1)) (BoolConst (closing b.1)) c.elements (record { own = λ items. refl; declares = λ x. refl; nameless = refl; numbered = λ items n. tt }) right
    (record { name = refl; spelled = tt; placed = tt; means = (refl, refl); declared = tt })
item_step c items right (inr (inr (inr (inl s)))) f =
    plain_step c items (kind.Set s.0 (set_of (closing s.1))) SetConst (c.elements + set_elements (closing s.1))
    (record { own = λ items. refl; declares = λ x. refl; nameless = refl; numbered = λ items n. tt }) right
    (record { name = refl; spelled = tt; placed = tt; means = tt; declared = tt })
item_step c items right (inr (inr (inr (inr (inl a))))) f = array_step c items right a f.0
item_step c items right (inr (inr (inr (inr (inr v))))) f = variable_more c items right v f.0 f.1

-- ---- all words

after_one : (c : Context) (kept : List ItemWords) (w : ItemWords) → after_items c (kept ++ w ∷ []) ≡ after_item (after_items c kept) w
after_one c [] w = refl
after_one c (k ∷ kept) w = after_one (after_item c k) kept w

after_all : (c : Context) (items : List Item) (kept ws : List ItemWords) → context_of kept ≡ c → IsRight c items
    → EachBehind (λ before w. (item (context_of before)).fault w ≡ None) kept ws → EachBehind (λ before w. Each IsSpelled ((item (context_of before)).spell w)) kept ws
    → IsRight (after_items c ws) (items_behind items ws)
after_all c items kept [] e right f h = right
after_all c items kept (w ∷ ws) e right f h =
    let free : IsFree c w = subst (λ d. IsFree d w) e (f.0, h.0) in
    after_all (after_item c w) (items ++ item_of items w) (kept ++ w ∷ []) ws
    (after_one nothing kept w ∙ ap (λ d. after_item d w) e) (item_step c items right w free) f.1 h.1

none_right : IsRight nothing []
none_right = record { fine = tt; unused = λ x h. refl; apart = tt; numbered = tt; counted = refl; few = omega arith }

-- the items of words without fault
pub items_right : (ws : List ItemWords) → EachBehind (λ before w. (item (context_of before)).fault w ≡ None) [] ws
    → EachBehind (λ before w. Each IsSpelled ((item (context_of before)).spell w)) [] ws → IsRight (context_of ws) (items_of ws)
items_right ws f h = after_all nothing [] [] ws refl none_right f h
