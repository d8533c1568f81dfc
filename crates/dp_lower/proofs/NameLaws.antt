-- The names of items, one item on.
use Rattle.std.proofs.Common.{◌≡◌, ℕ, ◌+◌, ◌<◌, ◌≤◌, Bool, true, false, List, [], ◌∷◌, ◌++◌, length, map, drop, get_or, Option, None, refl, sym, ◌∙◌, ap, subst, inl, inr, arith}
use Rattle.std.specs.Prelude.{is_none}
use Rattle.std.specs.Map.{lookup}
use Rattle.std.specs.Str.{bytes_eq}
use Rattle.std.proofs.lemmas.List.{append-nil, append_assoc, drop_all, drop_more, length-append}
use Rattle.std.proofs.lemmas.Slice.Eq.{bytes_eq-Decides}
use Rattle.dp_base.specs.Lists.{Among}
use Rattle.fz_model.specs.Models.{named_variable}
use Rattle.fz_model.specs.declared.model.Basic.{Basic}
use Rattle.fz_model.specs.declared.model.VarType.{VarType}
use Rattle.fz_model.specs.declared.model.Item.{Item}
use Rattle.fz_model.specs.declared.model.Item.TheVariants as item
use Rattle.fz_facts.specs.Facts.{AreApart}
use Rattle.fz_facts.specs.Declared.{names_of, own_places}

-- ---- one item

cons_names : (i : Item) (rest : List Item) → names_of (i ∷ rest) ≡ names_of (i ∷ []) ++ names_of rest
cons_names (item.Int name value) rest = refl
cons_names (item.Bool name value) rest = refl
cons_names (item.Set name set) rest = refl
cons_names (item.Consts name bools elements) rest = refl
cons_names (item.Var name kind output value var) rest = refl
cons_names (item.Vars name kind output elements) rest = refl

none_more : (n : ℕ) → n ≡ n + 0
none_more n = omega arith

cons_own : (items : List Item) (n : ℕ) (i : Item) (rest : List Item) → own_places items n (i ∷ rest) ≡ own_places items n (i ∷ []) ++ own_places items (n + length (names_of (i ∷ []))) rest
cons_own items n (item.Int name value) rest = ap (λ m. own_places items m rest) (none_more n)
cons_own items n (item.Bool name value) rest = ap (λ m. own_places items m rest) (none_more n)
cons_own items n (item.Set name set) rest = ap (λ m. own_places items m rest) (none_more n)
cons_own items n (item.Consts name bools elements) rest = ap (λ m. own_places items m rest) (none_more n)
cons_own items n (item.Vars name kind output elements) rest = ap (λ m. own_places items m rest) (none_more n)
cons_own items n (item.Var name kind output value var) rest = by (is_none (named_variable items value)) refl
  where
    by : (b : Bool) → is_none (named_variable items value) ≡ b → own_places items n (item.Var name kind output value var ∷ rest)
        ≡ own_places items n (item.Var name kind output value var ∷ []) ++ own_places items (n + 1) rest
    by true e = rw e refl
    by false e = rw e refl

-- ---- the loop

-- what was named so far, with what is left, is the whole
pub record AreNamed (items : List Item) (i : ℕ) (entries : List (List ℕ × ℕ)) (own : List ℕ) : Type 0 where
  pub named : entries ++ names_of (drop i items) ≡ names_of items
  pub placed : own ++ own_places items (length entries) (drop i items) ≡ own_places items 0 items

pub named_none : (items : List Item) → AreNamed items 0 [] []
named_none items = record { named = refl; placed = refl }

pub left_of : (items : List Item) (i : ℕ) (j : Item) → i < length items → j ≡ get_or items i j → drop i items ≡ j ∷ drop (i + 1) items
left_of items i j h e = drop_more items i j h ∙ ap (λ k. k ∷ drop (i + 1) items) (sym e)

pub named_more : (items : List Item) (i : ℕ) (j : Item) (entries entries' : List (List ℕ × ℕ)) (own own' : List ℕ) → i < length items → j ≡ get_or items i j →
    entries' ≡ entries ++ names_of (j ∷ []) → own' ≡ own ++ own_places items (length entries) (j ∷ []) → AreNamed items i entries own → AreNamed items (i + 1) entries' own'
named_more items i j entries entries' own own' h e f g so_far = record {
  named = ap (λ es. es ++ names_of (drop (i + 1) items)) f ∙ append_assoc entries (names_of (j ∷ [])) (names_of (drop (i + 1) items)) ∙ ap (λ es. entries ++ es) (sym (cons_names j (drop (i + 1) items)))
      ∙ ap (λ is. entries ++ names_of is) (sym (left_of items i j h e)) ∙ so_far.named;
  placed = ap (λ os. os ++ own_places items (length entries') (drop (i + 1) items)) g
      ∙ ap (λ es. (own ++ own_places items (length entries) (j ∷ [])) ++ own_places items es (drop (i + 1) items)) (ap length f ∙ length-append entries (names_of (j ∷ [])))
      ∙ append_assoc own (own_places items (length entries) (j ∷ [])) (own_places items (length entries + length (names_of (j ∷ []))) (drop (i + 1) items))
      ∙ ap (λ os. own ++ os) (sym (cons_own items (length entries) j (drop (i + 1) items)))
      ∙ ap (λ is. own ++ own_places items (length entries) is) (sym (left_of items i j h e)) ∙ so_far.placed;
}

pub named_all_names : (items : List Item) (i : ℕ) (entries : List (List ℕ × ℕ)) (own : List ℕ) → length items ≤ i → AreNamed items i entries own → entries ≡ names_of items
named_all_names items i entries own h so_far = sym (append-nil entries) ∙ ap (λ is. entries ++ names_of is) (sym (drop_all i items h)) ∙ so_far.named

pub named_all_own : (items : List Item) (i : ℕ) (entries : List (List ℕ × ℕ)) (own : List ℕ) → length items ≤ i → AreNamed items i entries own → own ≡ own_places items 0 items
named_all_own items i entries own h so_far = sym (append-nil own) ∙ ap (λ is. own ++ own_places items (length entries) is) (sym (drop_all i items h)) ∙ so_far.placed

-- ---- names that are apart

front_not : (f : List ℕ × ℕ → List ℕ) (name : List ℕ) (xs ys : List (List ℕ × ℕ)) → Among name (map f xs) → Among name (map f (xs ++ ys))
front_not f name [] ys here = absurd here
front_not f name (x ∷ xs) ys (inl e) = inl e
front_not f name (x ∷ xs) ys (inr here) = inr (front_not f name xs ys here)

front_apart : (f : List ℕ × ℕ → List ℕ) (xs ys : List (List ℕ × ℕ)) → AreApart (map f (xs ++ ys)) → AreApart (map f xs)
front_apart f [] ys h = tt
front_apart f (x ∷ xs) ys h = (λ here. h.0 (front_not f (f x) xs ys here), front_apart f xs ys h.1)

whole_of : (items : List Item) (i : ℕ) (j : Item) (entries : List (List ℕ × ℕ)) (own : List ℕ) → i < length items → j ≡ get_or items i j → AreNamed items i entries own →
    (entries ++ names_of (j ∷ [])) ++ names_of (drop (i + 1) items) ≡ names_of items
whole_of items i j entries own h e so_far =
    append_assoc entries (names_of (j ∷ [])) (names_of (drop (i + 1) items)) ∙ ap (λ es. entries ++ es) (sym (cons_names j (drop (i + 1) items)))
    ∙ ap (λ is. entries ++ names_of is) (sym (left_of items i j h e)) ∙ so_far.named

pub fresh_here : (items : List Item) (i : ℕ) (j : Item) (entries : List (List ℕ × ℕ)) (own : List ℕ) → i < length items → j ≡ get_or items i j → AreNamed items i entries own →
    AreApart (map (λ e. e.0) (names_of items)) → AreApart (map (λ e. e.0) (entries ++ names_of (j ∷ [])))
fresh_here items i j entries own h e so_far apart =
    front_apart (λ e. e.0) (entries ++ names_of (j ∷ [])) (names_of (drop (i + 1) items)) (subst (λ (es : List (List ℕ × ℕ)). AreApart (map (λ e. e.0) es)) (sym (whole_of items i j entries own h e so_far)) apart)

pub few_here : (items : List Item) (i : ℕ) (entries : List (List ℕ × ℕ)) (own : List ℕ) → AreNamed items i entries own → length (names_of items) ≤ 200000 → length entries ≤ 200000
few_here items i entries own so_far few =
    let e : length (names_of items) ≡ length entries + length (names_of (drop i items)) = ap length (sym so_far.named) ∙ length-append entries (names_of (drop i items)) in omega arith

-- a name behind others that are apart is none of them
pub last_fresh : (xs : List (List ℕ × ℕ)) (name : List ℕ) (var : ℕ) → AreApart (map (λ e. e.0) (xs ++ (name, var) ∷ [])) → ¬ (Among name (map (λ e. e.0) xs))
last_fresh [] name var h = λ here. here
last_fresh (x ∷ xs) name var h = by (last_fresh xs name var h.1)
  where
    there : (ys : List (List ℕ × ℕ)) → Among name (map (λ e. e.0) (ys ++ (name, var) ∷ []))
    there [] = inl refl
    there (y ∷ ys) = inr (there ys)

    by : (Among name (map (λ e. e.0) xs) → ⊥) → Among name (map (λ e. e.0) (x ∷ xs)) → ⊥
    by later (inl e) = h.0 (subst (λ n. Among n (map (λ e. e.0) (xs ++ (name, var) ∷ []))) e (there xs))
    by later (inr here) = later here

pub fresh_lookup : (xs : List (List ℕ × ℕ)) (name : List ℕ) → ¬ (Among name (map (λ e. e.0) xs)) → lookup (bytes_eq name) xs ≡ None
fresh_lookup [] name h = refl
fresh_lookup (x ∷ xs) name h = by (bytes_eq name x.0) refl (fresh_lookup xs name (λ here. h (inr here)))
  where
    by : (b : Bool) → bytes_eq name x.0 ≡ b → lookup (bytes_eq name) xs ≡ None → lookup (bytes_eq name) (x ∷ xs) ≡ None
    by true e later = absurd (h (inl ((bytes_eq-Decides name x.0).0 e)))
    by false e later = rw e later

pub fresh_var : (es : List (List ℕ × ℕ)) (i : Item) (name : List ℕ) (kind : VarType) (output : Bool) (value : Option Basic) (var : ℕ) → i ≡ item.Var name kind output value var →
    AreApart (map (λ e. e.0) (es ++ names_of (i ∷ []))) → ¬ (Among name (map (λ e. e.0) es))
fresh_var es i name kind output value var e h = last_fresh es name var (subst (λ (j : Item). AreApart (map (λ e. e.0) (es ++ names_of (j ∷ [])))) e h)
