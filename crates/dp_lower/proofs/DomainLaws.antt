-- An assignment lies in the initial domains exactly where it keeps every declaration.
use Rattle.std.proofs.Common.{◌≡◌, ℕ, suc, ◌+◌, ◌<◌, ◌≤◌, Bool, true, false, List, [], ◌∷◌, length, filter, Option, Some, None, ℤ, pos, refl, sym, ◌∙◌, ap, subst, inl, inr, arith}
use Rattle.std.specs.Prelude.{not, ◌&&◌, ◌||◌, ◌⊎◌, ◌==◌, if◌then◌else◌, IsTrue, MatchOption, int_le, is_none, slice_get}
use Rattle.std.specs.List.{list_any}
use Rattle.std.specs.Option.{option_map_or}
use Rattle.std.specs.Ordering.{int_eq}
use Rattle.std.proofs.lemmas.Int.{ints}
use Rattle.std.proofs.lemmas.Bool.{and_parts, both_ways, cases_eq, cases_lt, eq-eqb, eqb-true, not-true, or_cases, or_right}
use Rattle.std.proofs.lemmas.Bool.Decides.{Decides-int_eq}
use Rattle.std.proofs.lemmas.List.FromFn.{get_or-map-range_with_len, length-map-range_with_len}
use Rattle.dp_base.specs.Lists.{Among, Each}
use Rattle.dp_base.proofs.Lists.{Each-among, Each-from_among, list_all-at, list_all-from, list_any-at, list_any-some}
use Rattle.dp_domain.specs.Sets.{IsSmall, is_among}
use Rattle.dp_domain.specs.States.{LiesIn, values}
use Rattle.dp_domain.specs.Terms.{term_at}
use Rattle.dp_domain.specs.declared.term.Term.{Term}
use Rattle.dp_domain.specs.declared.term.Term.TheVariants.{Var, Const}
use Rattle.dp_domain.proofs.AtomLaws.{le-from_test, same-from_tests}
use Rattle.fz_model.specs.Models.{count_variables, is_own, named_variable, variable_of_item}
use Rattle.fz_model.specs.declared.model.Basic.{Basic}
use Rattle.fz_model.specs.declared.model.Basic.TheVariants as basic
use Rattle.fz_model.specs.declared.model.Item.{Item}
use Rattle.fz_model.specs.declared.model.Item.TheVariants as item
use Rattle.fz_model.specs.declared.model.VarType.{VarType}
use Rattle.fz_model.specs.declared.model.VarType.TheVariants as type
use Rattle.fz_sat.specs.Args.{number_of, term_of, term_of_item}
use Rattle.fz_sat.specs.Satisfies.{is_kept, is_of_type, value_of}
use Rattle.fz_facts.specs.Facts.{AreNumbered, IsBounded, IsBounding, IsDeclared, IsElement, IsNumbered, IsSmallConst, IsSmallType}
use Rattle.dp_lower.specs.Problem.{allows, domain_of, domains_of, fits, is_variable, may_be}
use Rattle.dp_lower.proofs.SmallLaws.{passing_all, passing_only}

-- ---- numbers of variables

-- how many of these items, of a model's items, declare a variable of their own
abbrev pub own_count : List Item → List Item → ℕ
own_count items rest = length (filter (is_own items) rest)

count_first : (items : List Item) (i : Item) (rest : List Item) (n : ℕ) (b : Bool) → is_own items i ≡ b → n + own_count items (i ∷ rest) ≡ (if b then n + 1 else n) + own_count items rest
count_first items i rest n true e = rw e (omega arith)
count_first items i rest n false e = rw e refl

count_first-own : (items : List Item) (i : Item) (rest : List Item) (n : ℕ) → n + own_count items (i ∷ rest) ≡ (if is_own items i then n + 1 else n) + own_count items rest
count_first-own items i rest n = by (is_own items i) refl
  where
    by : (b : Bool) → is_own items i ≡ b → n + own_count items (i ∷ rest) ≡ (if b then n + 1 else n) + own_count items rest
    by b e = count_first items i rest n b e

-- a variable's number, behind n variables
number_below : (items : List Item) (n : ℕ) (name : List ℕ) (kind : VarType) (output : Bool) (value : Option Basic) (var : ℕ) (rest : List Item) (o : Option ℕ) → named_variable items value ≡ o →
    IsNumbered items n (item.Var name kind output value var) → var < n + own_count items (item.Var name kind output value var ∷ rest)
number_below items n name kind output value var rest None e h =
    let h' : var ≡ n = subst (λ (o : Option ℕ). MatchOption o (var ≡ n) (λ y. (var ≡ y) × (y < n))) e h in
    rw e (omega arith)
number_below items n name kind output value var rest (Some y) e h =
    let h' : (var ≡ y) × (y < n) = subst (λ (o : Option ℕ). MatchOption o (var ≡ n) (λ y. (var ≡ y) × (y < n))) e h in
    let a = h'.0 in let b = h'.1 in omega arith

-- every variable's number is below how many there are
pub var_below : (items : List Item) (n : ℕ) (rest : List Item) (name : List ℕ) (kind : VarType) (output : Bool) (value : Option Basic) (var : ℕ) → AreNumbered items n rest →
    Among (item.Var name kind output value var) rest → var < n + own_count items rest
var_below items n [] name kind output value var h here = absurd here
var_below items n (i ∷ rest) name kind output value var h (inl e) =
    subst (λ (j : Item). IsNumbered items n j → var < n + own_count items (j ∷ rest)) e
    (λ k. number_below items n name kind output value var rest (named_variable items value) refl k) h.0
var_below items n (i ∷ rest) name kind output value var h (inr here) =
    let below = var_below items (if is_own items i then n + 1 else n) rest name kind output value var h.1 here in
    rw (count_first-own items i rest n) below

-- an alias has the number of the variable that it names
pub alias_number : (items : List Item) (n : ℕ) (rest : List Item) (name : List ℕ) (kind : VarType) (output : Bool) (value : Option Basic) (var y : ℕ) → AreNumbered items n rest →
    Among (item.Var name kind output value var) rest → named_variable items value ≡ Some y → var ≡ y
alias_number items n [] name kind output value var y h here e = absurd here
alias_number items n (i ∷ rest) name kind output value var y h (inl is) e =
    let k : IsNumbered items n (item.Var name kind output value var) = subst (IsNumbered items n) (sym is) h.0 in
    let r : (var ≡ y) × (y < n) = subst (λ (o : Option ℕ). MatchOption o (var ≡ n) (λ y. (var ≡ y) × (y < n))) e k in r.0
alias_number items n (i ∷ rest) name kind output value var y h (inr here) e =
    alias_number items (if is_own items i then n + 1 else n) rest name kind output value var y h.1 here e

-- an item that declares the variable as its own
pub record Declares (items : List Item) (rest : List Item) (x : ℕ) : Type 0 where
  pub name : List ℕ
  pub kind : VarType
  pub output : Bool
  pub value : Option Basic
  pub own : named_variable items value ≡ None
  pub here : Among (item.Var name kind output value x) rest

later_declares : (items : List Item) (i : Item) (rest : List Item) (x : ℕ) → Declares items rest x → Declares items (i ∷ rest) x
later_declares items i rest x d = record { name = d.name; kind = d.kind; output = d.output; value = d.value; own = d.own; here = inr d.here }

first_declares : (items : List Item) (rest : List Item) (x : ℕ) (name : List ℕ) (kind : VarType) (output : Bool) (value : Option Basic) (var : ℕ) →
    named_variable items value ≡ None → x ≡ var → Declares items (item.Var name kind output value var ∷ rest) x
first_declares items rest x name kind output value var own e =
    record { name = name; kind = kind; output = output; value = value; own = own; here = inl (ap (λ v. item.Var name kind output value v) e) }

next_or_later : (n x : ℕ) → n ≤ x → (x ≡ n) ⊎ (n + 1 ≤ x)
next_or_later n x h = elim (cases_eq x n) [
  | inl e ↦ inl e
  | inr apart ↦ inr (later apart)
]
  where
    later : (x ≡ n → ⊥) → n + 1 ≤ x
    later apart = elim (cases_lt n x) [
      | inl k ↦ omega arith
      | inr k ↦ absurd (apart (omega arith))
    ]

own_variable : (items : List Item) (n : ℕ) (rest : List Item) (x : ℕ) (name : List ℕ) (kind : VarType) (output : Bool) (value : Option Basic) (var : ℕ) (o : Option ℕ) → named_variable items value ≡ o →
    MatchOption o (var ≡ n) (λ y. (var ≡ y) × (y < n)) → n ≤ x → x < n + own_count items (item.Var name kind output value var ∷ rest) →
    (n + 1 ≤ x → x < (n + 1) + own_count items rest → o ≡ None → Declares items rest x) → (x < n + own_count items rest → is_none o ≡ false → Declares items rest x) →
    Declares items (item.Var name kind output value var ∷ rest) x
own_variable items n rest x name kind output value var None e h low high later same =
    let high' : x < n + suc (own_count items rest) = rw e at high in
    elim (next_or_later n x low) [
      | inl is ↦ first_declares items rest x name kind output value var e (is ∙ sym h)
      | inr more ↦ later_declares items (item.Var name kind output value var) rest x (later more (omega arith) refl)
    ]
own_variable items n rest x name kind output value var (Some y) e h low high later same =
    let high' : x < n + own_count items rest = rw e at high in
    later_declares items (item.Var name kind output value var) rest x (same high' refl)

-- every number from n on has a variable of its own
pub own_item : (items : List Item) (n : ℕ) (rest : List Item) (x : ℕ) → AreNumbered items n rest → n ≤ x → x < n + own_count items rest → Declares items rest x
own_item items n [] x h low high = absurd (omega arith)
own_item items n (item.Var name kind output value var ∷ rest) x h low high =
    own_variable items n rest x name kind output value var (named_variable items value) refl h.0 low high
    (λ more below none. own_item items (n + 1) rest x (own_next none) more below)
    (λ below some. own_item items n rest x (own_same some) low below)
  where
    own_next : named_variable items value ≡ None → AreNumbered items (n + 1) rest
    own_next none = let k = h.1 in rw none at k

    own_same : is_none (named_variable items value) ≡ false → AreNumbered items n rest
    own_same some = let k = h.1 in rw some at k
own_item items n (item.Int name value ∷ rest) x h low high = later_declares items (item.Int name value) rest x (own_item items n rest x h.1 low high)
own_item items n (item.Bool name value ∷ rest) x h low high = later_declares items (item.Bool name value) rest x (own_item items n rest x h.1 low high)
own_item items n (item.Set name set ∷ rest) x h low high = later_declares items (item.Set name set) rest x (own_item items n rest x h.1 low high)
own_item items n (item.Consts name bools elements ∷ rest) x h low high = later_declares items (item.Consts name bools elements) rest x (own_item items n rest x h.1 low high)
own_item items n (item.Vars name kind output elements ∷ rest) x h low high = later_declares items (item.Vars name kind output elements) rest x (own_item items n rest x h.1 low high)

-- ---- definitions

const_is_no_variable : (v : ℤ) (y : ℕ) → Const v ≡ Var y → ⊥
const_is_no_variable v y e = cc

item_variable : (i : Item) (y : ℕ) → term_of_item i ≡ Var y → variable_of_item (Some i) ≡ Some y
item_variable (item.Int name value) y e = absurd (const_is_no_variable value y e)
item_variable (item.Bool name value) y e = absurd (const_is_no_variable (number_of value) y e)
item_variable (item.Set name set) y e = absurd (const_is_no_variable (pos 0) y e)
item_variable (item.Consts name bools elements) y e = absurd (const_is_no_variable (pos 0) y e)
item_variable (item.Var name kind output value var) y e = cc
item_variable (item.Vars name kind output elements) y e = absurd (const_is_no_variable (pos 0) y e)

place_variable : (o : Option Item) (y : ℕ) → option_map_or term_of_item o (Const (pos 0)) ≡ Var y → variable_of_item o ≡ Some y
place_variable None y e = absurd (const_is_no_variable (pos 0) y e)
place_variable (Some i) y e = item_variable i y e

-- what is defined as a variable names it
pub term_named : (items : List Item) (b : Basic) (y : ℕ) → term_of items b ≡ Var y → named_variable items (Some b) ≡ Some y
term_named items (basic.Bool value) y e = absurd (const_is_no_variable (number_of value) y e)
term_named items (basic.Int value) y e = absurd (const_is_no_variable value y e)
term_named items (basic.Item place) y e = place_variable (slice_get items place) y e

fits_term : (s : ℕ → ℤ) (x : ℕ) (t : Term) → ((y : ℕ) → t ≡ Var y → x ≡ y) → fits (s x) t ≡ int_eq (s x) (term_at s t)
fits_term s x (Const v) same = refl
fits_term s x (Var y) same = sym ((Decides-int_eq (s x) (s y)).1 (ap s (same y refl)))

-- a definition is kept exactly where the domain's test of it passes
pub fits_defined : (items : List Item) (s : ℕ → ℤ) (x : ℕ) (value : Option Basic) → ((y : ℕ) → named_variable items value ≡ Some y → x ≡ y) →
    option_map_or (λ b. fits (s x) (term_of items b)) value true ≡ option_map_or (λ b. int_eq (s x) (value_of items s b)) value true
fits_defined items s x None same = refl
fits_defined items s x (Some b) same = fits_term s x (term_of items b) (λ y e. same y (term_named items b y e))

-- ---- small values

among_list : (v : ℤ) (numbers : List ℤ) → is_among v numbers ≡ true → Among v numbers
among_list v numbers e = let r = list_any-some (λ w. int_le v w && int_le w v) numbers e in subst (λ w. Among w numbers) (sym (same-from_tests v r.0 r.2)) r.1

-- a value of a type with bounds is within ±10^9
of_type_small : (kind : VarType) (v : ℤ) → IsSmallType kind → IsBounding kind → is_of_type kind v ≡ true → IsSmall v
of_type_small type.Bool v small bounding e =
    let both = and_parts (int_le (pos 0) v) (int_le v (pos 1)) e in
    let low = le-from_test (pos 0) v both.0 in let high = le-from_test v (pos 1) both.1 in (omega (arith, ints), omega (arith, ints))
of_type_small type.Int v small bounding e = absurd bounding
of_type_small (type.Range first last) v small bounding e =
    let both = and_parts (int_le first v) (int_le v last) e in
    let low = le-from_test first v both.0 in let high = le-from_test v last both.1 in
    let a = small.0.0 in let b = small.1.1 in (omega (arith, ints), omega (arith, ints))
of_type_small (type.List numbers) v small bounding e = Each-among IsSmall numbers small v (among_list v numbers e)

small_value : (s : ℕ → ℤ) (x : ℕ) (t : Term) → IsSmallConst t → int_eq (s x) (term_at s t) ≡ true → IsSmall (s x)
small_value s x (Const v) small e = subst IsSmall (sym ((Decides-int_eq (s x) v).0 e)) small
small_value s x (Var y) small e = absurd small

small_defined : (items : List Item) (s : ℕ → ℤ) (x : ℕ) (kind : VarType) (value : Option Basic) → IsSmallType kind → MatchOption value (IsBounding kind) (λ b. IsSmallConst (term_of items b)) →
    is_of_type kind (s x) ≡ true → option_map_or (λ b. int_eq (s x) (value_of items s b)) value true ≡ true → IsSmall (s x)
small_defined items s x kind None small bounded typed defined = of_type_small kind (s x) small bounded typed
small_defined items s x kind (Some b) small bounded typed defined = small_value s x (term_of items b) bounded defined

-- where the declaration of a variable of its own is kept, its value is within ±10^9
pub small_kept : (items : List Item) (s : ℕ → ℤ) (x : ℕ) (kind : VarType) (value : Option Basic) → named_variable items value ≡ None → IsSmallType kind → IsBounded items kind value →
    (is_of_type kind (s x) && option_map_or (λ b. int_eq (s x) (value_of items s b)) value true) ≡ true → IsSmall (s x)
small_kept items s x kind value own small bounded kept =
    let both = and_parts (is_of_type kind (s x)) (option_map_or (λ b. int_eq (s x) (value_of items s b)) value true) kept in
    let bounded' : MatchOption value (IsBounding kind) (λ b. IsSmallConst (term_of items b)) =
    subst (λ (o : Option ℕ). MatchOption o (MatchOption value (IsBounding kind) (λ b. IsSmallConst (term_of items b))) (λ y. Unit {0})) own bounded in
    small_defined items s x kind value small bounded' both.0 both.1

-- ---- one variable of a state

-- the variable's values at first
pub values-domains_of : (items : List Item) (x : ℕ) → x < count_variables items → values (domains_of items) x ≡ domain_of items x
values-domains_of items x h = get_or-map-range_with_len (domain_of items) 0 (count_variables items) x x [] h (omega arith)

pub length-domains_of : (items : List Item) → length (domains_of items) ≡ count_variables items
length-domains_of items = length-map-range_with_len (domain_of items) 0 (count_variables items)

-- the assignment gives the variable a number within ±10^9 that every item allows
pub record IsAllowed (items : List Item) (s : ℕ → ℤ) (x : ℕ) : Type 0 where
  pub small : IsSmall (s x)
  pub allowed : may_be items x (s x) ≡ true

-- the assignment lies in the initial domains exactly where each variable is allowed its value
pub allowed_within : (items : List Item) (s : ℕ → ℤ) → LiesIn s (domains_of items) → (x : ℕ) → x < count_variables items → IsAllowed items s x
allowed_within items s lies x h =
    let here : Among (s x) (values (domains_of items) x) = lies x (subst (λ n. x < n) (sym (length-domains_of items)) h) in
    let r = passing_only (may_be items x) (s x) (subst (λ vs. Among (s x) vs) (values-domains_of items x h) here) in
    record { small = r.0; allowed = r.1 }

pub within_allowed : (items : List Item) (s : ℕ → ℤ) → ((x : ℕ) → x < count_variables items → IsAllowed items s x) → LiesIn s (domains_of items)
within_allowed items s each x below =
    let h : x < count_variables items = subst (λ n. x < n) (length-domains_of items) below in
    let allowed = each x h in
    subst (λ vs. Among (s x) vs) (sym (values-domains_of items x h)) (passing_all (may_be items x) (s x) allowed.small allowed.allowed)

-- ---- one item

-- what a model's declarations have
pub record AreDeclared (items : List Item) : Type 0 where
  pub numbered : AreNumbered items 0 items
  pub declared : Each (IsDeclared items) items

below_count : (items : List Item) (name : List ℕ) (kind : VarType) (output : Bool) (value : Option Basic) (var : ℕ) → AreDeclared items → Among (item.Var name kind output value var) items → var < count_variables items
below_count items name kind output value var h here = let k : var < 0 + count_variables items = var_below items 0 items name kind output value var h.numbered here in omega arith

-- a declaration is kept exactly where the domain's test of it passes
kept_fits : (items : List Item) (s : ℕ → ℤ) (name : List ℕ) (kind : VarType) (output : Bool) (value : Option Basic) (var : ℕ) → AreDeclared items → Among (item.Var name kind output value var) items →
    (is_of_type kind (s var) && option_map_or (λ b. fits (s var) (term_of items b)) value true) ≡ is_kept items s (item.Var name kind output value var)
kept_fits items s name kind output value var h here =
    ap (λ c. is_of_type kind (s var) && c) (fits_defined items s var value (λ y e. alias_number items 0 items name kind output value var y h.numbered here e))

not_same : (x : ℕ) (b : Bool) → (not (x == x) || b) ≡ b
not_same x b = rw (eq-eqb x x refl) refl

var_kept : (items : List Item) (s : ℕ → ℤ) (name : List ℕ) (kind : VarType) (output : Bool) (value : Option Basic) (var : ℕ) → AreDeclared items → Among (item.Var name kind output value var) items →
    IsAllowed items s var → is_kept items s (item.Var name kind output value var) ≡ true
var_kept items s name kind output value var h here allowed =
    sym (kept_fits items s name kind output value var h here)
    ∙ sym (not_same var (is_of_type kind (s var) && option_map_or (λ b. fits (s var) (term_of items b)) value true))
    ∙ list_all-at (allows items var (s var)) items (item.Var name kind output value var) allowed.allowed here

element_kept : (items : List Item) (s : ℕ → ℤ) (name : List ℕ) (kind : VarType) (output : Option (List (ℤ × ℤ))) (elements : List Basic) (b : Basic) (t : Term) → term_of items b ≡ t → Among b elements →
    IsElement (count_variables items) kind t → Among (item.Vars name kind output elements) items → ((x : ℕ) → x < count_variables items → IsAllowed items s x) → is_of_type kind (term_at s t) ≡ true
element_kept items s name kind output elements b (Const v) e here element there each = element
element_kept items s name kind output elements b (Var y) e here element there each =
    let allowed = list_all-at (allows items y (s y)) items (item.Vars name kind output elements) (each y element).allowed there in
    let is : is_variable y (term_of items b) ≡ true = ap (is_variable y) e ∙ eq-eqb y y refl in
    let found = list_any-at (λ c. is_variable y (term_of items c)) elements b here is in
    elim (or_cases (not (list_any (λ c. is_variable y (term_of items c)) elements)) (is_of_type kind (s y)) allowed) [
      | inl none ↦ absurd (both_ways (list_any (λ c. is_variable y (term_of items c)) elements) (not-true (list_any (λ c. is_variable y (term_of items c)) elements) none) found)
      | inr typed ↦ typed
    ]

-- where each variable is allowed its value, each item is kept
item_kept : (items : List Item) (s : ℕ → ℤ) → AreDeclared items → ((x : ℕ) → x < count_variables items → IsAllowed items s x) → (i : Item) → Among i items → is_kept items s i ≡ true
item_kept items s h each (item.Int name value) here = refl
item_kept items s h each (item.Bool name value) here = refl
item_kept items s h each (item.Set name set) here = refl
item_kept items s h each (item.Consts name bools elements) here = refl
item_kept items s h each (item.Var name kind output value var) here =
    var_kept items s name kind output value var h here (each var (below_count items name kind output value var h here))
item_kept items s h each (item.Vars name kind output elements) here =
    let declared = Each-among (IsDeclared items) items h.declared (item.Vars name kind output elements) here in
    list_all-from (λ b. is_of_type kind (value_of items s b)) elements
    (λ b among. element_kept items s name kind output elements b (term_of items b) refl among (Each-among (λ c. IsElement (count_variables items) kind (term_of items c)) elements declared.1 b among) here each)

-- ---- and back

var_allowed : (items : List Item) (s : ℕ → ℤ) (x : ℕ) (name : List ℕ) (kind : VarType) (output : Bool) (value : Option Basic) (var : ℕ) → AreDeclared items → Among (item.Var name kind output value var) items →
    is_kept items s (item.Var name kind output value var) ≡ true → (b : Bool) → (var == x) ≡ b → allows items x (s x) (item.Var name kind output value var) ≡ true
var_allowed items s x name kind output value var h here kept false e = rw e refl
var_allowed items s x name kind output value var h here kept true e =
    subst (λ y. allows items y (s y) (item.Var name kind output value var) ≡ true) (eqb-true var x e)
    (not_same var (is_of_type kind (s var) && option_map_or (λ b. fits (s var) (term_of items b)) value true) ∙ kept_fits items s name kind output value var h here ∙ kept)

value_at_variable : (s : ℕ → ℤ) (x : ℕ) (t : Term) → is_variable x t ≡ true → term_at s t ≡ s x
value_at_variable s x (Var y) e = ap s (eqb-true y x e)
value_at_variable s x (Const v) e = absurd (both_ways false refl e)

vars_allowed : (items : List Item) (s : ℕ → ℤ) (x : ℕ) (name : List ℕ) (kind : VarType) (output : Option (List (ℤ × ℤ))) (elements : List Basic) →
    is_kept items s (item.Vars name kind output elements) ≡ true → (b : Bool) → list_any (λ c. is_variable x (term_of items c)) elements ≡ b → allows items x (s x) (item.Vars name kind output elements) ≡ true
vars_allowed items s x name kind output elements kept false e = rw e refl
vars_allowed items s x name kind output elements kept true e =
    let r = list_any-some (λ c. is_variable x (term_of items c)) elements e in
    let typed = list_all-at (λ b. is_of_type kind (value_of items s b)) elements r.0 kept r.1 in
    or_right (not (list_any (λ c. is_variable x (term_of items c)) elements)) (is_of_type kind (s x)) (ap (is_of_type kind) (sym (value_at_variable s x (term_of items r.0) r.2)) ∙ typed)

item_allows : (items : List Item) (s : ℕ → ℤ) (x : ℕ) → AreDeclared items → (i : Item) → Among i items → is_kept items s i ≡ true → allows items x (s x) i ≡ true
item_allows items s x h (item.Int name value) here kept = refl
item_allows items s x h (item.Bool name value) here kept = refl
item_allows items s x h (item.Set name set) here kept = refl
item_allows items s x h (item.Consts name bools elements) here kept = refl
item_allows items s x h (item.Var name kind output value var) here kept = var_allowed items s x name kind output value var h here kept (var == x) refl
item_allows items s x h (item.Vars name kind output elements) here kept = vars_allowed items s x name kind output elements kept (list_any (λ c. is_variable x (term_of items c)) elements) refl

small_own : (items : List Item) (s : ℕ → ℤ) (x : ℕ) → AreDeclared items → Each (λ i. IsTrue (is_kept items s i)) items → Declares items items x → IsSmall (s x)
small_own items s x h kept d =
    let i = item.Var d.name d.kind d.output d.value x in
    let declared = Each-among (IsDeclared items) items h.declared i d.here in
    small_kept items s x d.kind d.value d.own declared.0 declared.1 (Each-among (λ j. IsTrue (is_kept items s j)) items kept i d.here)

variable_allowed : (items : List Item) (s : ℕ → ℤ) → AreDeclared items → Each (λ i. IsTrue (is_kept items s i)) items → (x : ℕ) → x < count_variables items → IsAllowed items s x
variable_allowed items s h kept x below = record {
  small = small_own items s x h kept (own_item items 0 items x h.numbered (omega arith) (omega arith));
  allowed = list_all-from (allows items x (s x)) items (λ i here. item_allows items s x h i here (Each-among (λ j. IsTrue (is_kept items s j)) items kept i here));
}

-- ---- the law

-- where it lies in the initial domains it keeps every declaration
pub kept_within : (items : List Item) (s : ℕ → ℤ) → AreDeclared items → LiesIn s (domains_of items) → Each (λ i. IsTrue (is_kept items s i)) items
kept_within items s h lies = Each-from_among (λ i. IsTrue (is_kept items s i)) items (item_kept items s h (allowed_within items s lies))

-- and where it keeps every declaration it lies there
pub within_kept : (items : List Item) (s : ℕ → ℤ) → AreDeclared items → Each (λ i. IsTrue (is_kept items s i)) items → LiesIn s (domains_of items)
within_kept items s h kept = within_allowed items s (variable_allowed items s h kept)

-- there each variable is within ±10^9
pub small_within : (items : List Item) (s : ℕ → ℤ) → LiesIn s (domains_of items) → (x : ℕ) → x < count_variables items → IsSmall (s x)
small_within items s lies x below = (allowed_within items s lies x below).small
