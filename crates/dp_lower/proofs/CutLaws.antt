-- Sets that are cut item by item are the initial domains.
use Rattle.std.proofs.Common.{◌≡◌, ℕ, suc, zero, ◌+◌, ◌<◌, ◌≤◌, Bool, true, false, List, [], ◌∷◌, ◌++◌, length, filter, get_or, take, drop, Option, Some, None, Result, Ok, Err, ℤ, refl, sym, ◌∙◌, ap, subst, inl, inr, arith}
use Rattle.std.specs.Prelude.{if◌then◌else◌, not, ◌&&◌, ◌||◌, ◌⊎◌, ◌==◌, is_none, MatchOption, OnOk, int_le, slice_get, slice_set}
use Rattle.std.specs.List.{list_all, list_any}
use Rattle.std.specs.Option.{option_map_or}
use Rattle.std.specs.Ordering.{int_eq}
use Rattle.std.proofs.lemmas.Bool.{cases_eq, eq-eqb, false≢true, ne_eqb}
use Rattle.std.proofs.lemmas.Bool.Decides.{Decides-int_eq, same_from_decides}
use Rattle.std.proofs.lemmas.List.{append-nil, append_assoc, drop_all, get_or-set_other, get_or-set_same, length-set, take_all, take_more}
use Rattle.std.proofs.lemmas.List.Folds.{list_any-append}
use Rattle.std.proofs.lemmas.List.FromFn.{fill_by_all}
use Rattle.dp_base.specs.Lists.{Among, Each}
use Rattle.dp_base.proofs.Lists.{Among-get_or, Each-get_or, list_all-at}
use Rattle.dp_domain.specs.States.{Domains, values}
use Rattle.dp_domain.specs.declared.term.Term.{Term}
use Rattle.dp_domain.specs.declared.term.Term.TheVariants.{Var, Const}
use Rattle.dp_domain.proofs.AtomLaws.{same-from_tests, tests-from_same}
use Rattle.fz_model.specs.Models.{count_variables, named_variable, variable_of_item}
use Rattle.fz_model.specs.declared.model.Basic.{Basic}
use Rattle.fz_model.specs.declared.model.Basic.TheVariants as basic
use Rattle.fz_model.specs.declared.model.Item.{Item}
use Rattle.fz_model.specs.declared.model.Item.TheVariants as item
use Rattle.fz_model.specs.declared.model.VarType.{VarType}
use Rattle.fz_sat.specs.Args.{term_of, term_of_item}
use Rattle.fz_sat.specs.Satisfies.{is_of_type}
use Rattle.dp_lower.specs.Cuts.{IsCutBy, IsSmallOrVar, IsWithVar, own_sets, typed_in}
use Rattle.fz_facts.specs.Facts.{AreNumbered, IsBounded, IsDeclared, IsElement, IsSmallConst}
use Rattle.dp_lower.specs.Problem.{allows, domain_of, domains_of, fits, is_variable, may_be}
use Rattle.dp_lower.specs.Small.{small_numbers}
use Rattle.dp_lower.proofs.DomainLaws.{own_count, var_below}
use Rattle.dp_lower.proofs.NameLaws.{left_of}
use Rattle.dp_lower.proofs.TypeLaws.{filter_both, filter_same, filter_true}

-- ---- cuts

pub cut_none : (d : Domains) → IsCutBy (λ x v. true) d d
cut_none d = record { count = refl; each = λ x h. sym (filter_true (values d x)) }

pub cut_same : (p q : ℕ → ℤ → Bool) (a b : Domains) → ((x : ℕ) (v : ℤ) → p x v ≡ q x v) → IsCutBy p a b → IsCutBy q a b
cut_same p q a b same cut = record { count = cut.count; each = λ x h. cut.each x h ∙ filter_same (p x) (q x) (values a x) (same x) }

pub cut_then : (p q r : ℕ → ℤ → Bool) (a b c : Domains) → ((x : ℕ) (v : ℤ) → (p x v && q x v) ≡ r x v) → IsCutBy p a b → IsCutBy q b c → IsCutBy r a c
cut_then p q r a b c same first second = record {
  count = second.count ∙ first.count;
  each = λ x h. second.each x (subst (λ n. x < n) (sym first.count) h) ∙ ap (filter (q x)) (first.each x h) ∙ filter_both (p x) (q x) (values a x)
      ∙ filter_same (λ v. p x v && q x v) (r x) (values a x) (same x);
}

pub cut_set : (old : Domains) (k : ℕ) (test : ℤ → Bool) → k < length old → IsCutBy (λ x v. not (k == x) || test v) old (slice_set old k (filter test (values old k)))
cut_set old k test h = record { count = length-set old k (filter test (values old k)); each = λ x below. at x below (cases_eq k x) }
  where
    at : (x : ℕ) → x < length old → (k ≡ x) ⊎ (k ≡ x → ⊥) → values (slice_set old k (filter test (values old k))) x ≡ filter (λ v. not (k == x) || test v) (values old x)
    at x below (inl e) =
        subst (λ y. values (slice_set old k (filter test (values old k))) y ≡ filter (λ v. not (k == y) || test v) (values old y)) e
        (get_or-set_same old k (filter test (values old k)) [] h ∙ filter_same test (λ v. not (k == k) || test v) (values old k) (λ v. rw (eq-eqb k k refl) refl))
    at x below (inr apart) =
        get_or-set_other old k x (filter test (values old k)) [] (λ e. apart (sym e)) ∙ sym (filter_same (λ v. not (k == x) || test v) (λ v. true) (values old x) (λ v. rw (ne_eqb k x apart) refl) ∙ filter_true (values old x))

pub on_map : {T E : Type 0} (r : Result T E) (P Q : Type 0) → (P → Q) → OnOk r P → OnOk r Q
on_map (Ok x) P Q f h = f h
on_map (Err e) P Q f h = tt

-- ---- one element

pub element_cut : (items : List Item) (b : Basic) (kind : VarType) (k : ℕ) (old new : Domains) → term_of items b ≡ Var k → k < length old → new ≡ slice_set old k (filter (is_of_type kind) (values old k)) → IsCutBy (typed_in items (b ∷ []) kind) old new
element_cut items b kind k old new e h f =
    subst (λ (d : Domains). IsCutBy (typed_in items (b ∷ []) kind) old d) (sym f)
    (cut_same (λ x v. not (k == x) || is_of_type kind v) (typed_in items (b ∷ []) kind) old (slice_set old k (filter (is_of_type kind) (values old k))) (λ x v. rw e (by (k == x) (is_of_type kind v)))
    (cut_set old k (is_of_type kind) h))
  where
    by : (c t : Bool) → (not c || t) ≡ (not (c || false) || t)
    by true t = refl
    by false t = refl

pub element_const : (items : List Item) (b : Basic) (kind : VarType) (n : ℤ) (d : Domains) → term_of items b ≡ Const n → IsCutBy (typed_in items (b ∷ []) kind) d d
element_const items b kind n d e = cut_same (λ x v. true) (typed_in items (b ∷ []) kind) d d (λ x v. rw e refl) (cut_none d)

typed_more : (a b t : Bool) → ((not a || t) && (not (b || false) || t)) ≡ (not (a || (b || false)) || t)
typed_more true true true = refl
typed_more true true false = refl
typed_more true false true = refl
typed_more true false false = refl
typed_more false true true = refl
typed_more false true false = refl
typed_more false false t = refl

-- one element on
pub elements_more : (items : List Item) (elements : List Basic) (j : ℕ) (b : Basic) (kind : VarType) (first mid new : Domains) → j < length elements → b ≡ get_or elements j b → IsCutBy (typed_in items (take j elements) kind) first mid → IsCutBy (typed_in items (b ∷ []) kind) mid new →
    IsCutBy (typed_in items (take (j + 1) elements) kind) first new
elements_more items elements j b kind first mid new h e so_far here =
    subst (λ (bs : List Basic). IsCutBy (typed_in items bs kind) first new) (sym (take_more elements j b h ∙ ap (λ c. take j elements ++ c ∷ []) (sym e)))
    (cut_then (typed_in items (take j elements) kind) (typed_in items (b ∷ []) kind) (typed_in items (take j elements ++ b ∷ []) kind) first mid new
    (λ x v. typed_more (list_any (λ c. is_variable x (term_of items c)) (take j elements)) (is_variable x (term_of items b)) (is_of_type kind v)
    ∙ ap (λ c. not c || is_of_type kind v) (sym (list_any-append (λ c. is_variable x (term_of items c)) (take j elements) (b ∷ [])))) so_far here)

pub elements_all : (items : List Item) (elements : List Basic) (j : ℕ) (kind : VarType) (first new : Domains) → length elements ≤ j → IsCutBy (typed_in items (take j elements) kind) first new → IsCutBy (typed_in items elements kind) first new
elements_all items elements j kind first new h cut = subst (λ (bs : List Basic). IsCutBy (typed_in items bs kind) first new) (take_all j elements h) cut

pub elements_none : (items : List Item) (elements : List Basic) (kind : VarType) (d : Domains) → IsCutBy (typed_in items (take 0 elements) kind) d d
elements_none items elements kind d = cut_same (λ x v. true) (typed_in items (take 0 elements) kind) d d (λ x v. refl) (cut_none d)

pub element_below : (items : List Item) (elements : List Basic) (j : ℕ) (b : Basic) (kind : VarType) (first mid : Domains) → j < length elements → b ≡ get_or elements j b → Each (λ c. IsElement (length first) kind (term_of items c)) elements →
    IsCutBy (typed_in items (take j elements) kind) first mid → IsElement (length mid) kind (term_of items b)
element_below items elements j b kind first mid h e each cut =
    subst (λ n. IsElement n kind (term_of items b)) (sym cut.count) (subst (λ c. IsElement (length first) kind (term_of items c)) (sym e) (Each-get_or (λ c. IsElement (length first) kind (term_of items c)) elements j b h each))

-- ---- definitions

eq_tests : (n v : ℤ) → (int_le n v && int_le v n) ≡ int_eq v n
eq_tests n v = same_from_decides (int_le n v && int_le v n) (int_eq v n) (λ e. sym (same-from_tests n v e), λ e. tests-from_same n v (sym e)) (Decides-int_eq v n)

-- a set cut to a number keeps what is that number
pub fitting_const : (t : Term) (n : ℤ) (old new : List ℤ) → t ≡ Const n → new ≡ filter (λ v. int_le n v && int_le v n) old → new ≡ filter (λ v. fits v t) old
fitting_const t n old new e f = f ∙ filter_same (λ v. int_le n v && int_le v n) (λ v. fits v t) old (λ v. rw e (eq_tests n v))

pub fitting_var : (t : Term) (x : ℕ) (d : List ℤ) → t ≡ Var x → d ≡ filter (λ v. fits v t) d
fitting_var t x d e = sym (filter_same (λ v. fits v t) (λ v. true) d (λ v. rw e refl) ∙ filter_true d)

and_true : (b : Bool) → b ≡ (b && true)
and_true true = refl
and_true false = refl

pub first_none : (kind : VarType) (d xs : List ℤ) → d ≡ filter (is_of_type kind) xs → d ≡ filter (λ v. is_of_type kind v && true) xs
first_none kind d xs e = e ∙ filter_same (is_of_type kind) (λ v. is_of_type kind v && true) xs (λ v. and_true (is_of_type kind v))

pub first_var : (kind : VarType) (t : Term) (x : ℕ) (d xs : List ℤ) → t ≡ Var x → d ≡ filter (is_of_type kind) xs → d ≡ filter (λ v. is_of_type kind v && fits v t) xs
first_var kind t x d xs f e = e ∙ filter_same (is_of_type kind) (λ v. is_of_type kind v && fits v t) xs (λ v. rw f (and_true (is_of_type kind v)))

swap_and : (a b : Bool) → (a && b) ≡ (b && a)
swap_and true true = refl
swap_and true false = refl
swap_and false true = refl
swap_and false false = refl

pub first_const : (kind : VarType) (t : Term) (n : ℤ) (one d xs : List ℤ) → t ≡ Const n → one ≡ filter (λ v. int_le n v && int_le v n) xs → d ≡ filter (is_of_type kind) one → d ≡ filter (λ v. is_of_type kind v && fits v t) xs
first_const kind t n one d xs f e g =
    g ∙ ap (filter (is_of_type kind)) e ∙ filter_both (λ v. int_le n v && int_le v n) (is_of_type kind) xs
    ∙ filter_same (λ v. (int_le n v && int_le v n) && is_of_type kind v) (λ v. is_of_type kind v && fits v t) xs
    (λ v. rw f (ap (λ b. b && is_of_type kind v) (eq_tests n v) ∙ swap_and (int_eq v n) (is_of_type kind v)))

small_or : (t : Term) → IsSmallConst t → IsSmallOrVar t
small_or (Const v) h = h
small_or (Var x) h = tt

some_is : (x y : ℕ) → Some x ≡ Some y → x ≡ y
some_is x y e = cc

none_some : (y : ℕ) → None ≡ Some y → ⊥
none_some y e = cc

item_term : (i : Item) (y : ℕ) → variable_of_item (Some i) ≡ Some y → IsSmallOrVar (term_of_item i)
item_term (item.Int name value) y e = absurd (none_some y e)
item_term (item.Bool name value) y e = absurd (none_some y e)
item_term (item.Set name set) y e = absurd (none_some y e)
item_term (item.Consts name bools elements) y e = absurd (none_some y e)
item_term (item.Var name kind output value var) y e = tt
item_term (item.Vars name kind output elements) y e = absurd (none_some y e)

named_term : (items : List Item) (b : Basic) (y : ℕ) → named_variable items (Some b) ≡ Some y → IsSmallOrVar (term_of items b)
named_term items (basic.Bool value) y e = absurd (none_some y e)
named_term items (basic.Int value) y e = absurd (none_some y e)
named_term items (basic.Item place) y e = by (slice_get items place) refl
  where
    by : (o : Option Item) → slice_get items place ≡ o → IsSmallOrVar (term_of items (basic.Item place))
    by None f = absurd (none_some y (rw f at e))
    by (Some i) f = rw f (item_term i y (rw f at e))

-- what defines a variable or an alias is a small number or a variable
pub defined_small : (items : List Item) (kind : VarType) (value : Option Basic) → IsBounded items kind value → MatchOption value (Unit {0}) (λ b. IsSmallOrVar (term_of items b))
defined_small items kind None h = tt
defined_small items kind (Some b) h = by (named_variable items (Some b)) refl
  where
    by : (o : Option ℕ) → named_variable items (Some b) ≡ o → IsSmallOrVar (term_of items b)
    by None e = small_or (term_of items b) (let k = rw e at h in k)
    by (Some y) e = named_term items b y e

-- ---- all items

pub length-own_sets : (items rest : List Item) → length (own_sets items rest) ≡ own_count items rest
length-own_sets items [] = refl
length-own_sets items (item.Int name value ∷ rest) = length-own_sets items rest
length-own_sets items (item.Bool name value ∷ rest) = length-own_sets items rest
length-own_sets items (item.Set name set ∷ rest) = length-own_sets items rest
length-own_sets items (item.Consts name bools elements ∷ rest) = length-own_sets items rest
length-own_sets items (item.Vars name kind output elements ∷ rest) = length-own_sets items rest
length-own_sets items (item.Var name kind output value var ∷ rest) = by (is_none (named_variable items value)) refl (length-own_sets items rest)
  where
    by : (b : Bool) → is_none (named_variable items value) ≡ b → length (own_sets items rest) ≡ own_count items rest → length (own_sets items (item.Var name kind output value var ∷ rest)) ≡ own_count items (item.Var name kind output value var ∷ rest)
    by true e h = rw e (ap suc h)
    by false e h = rw e h

-- an item among these lets the variable be what its set has
pub record IsBegun (items rest : List Item) (x : ℕ) (set : List ℤ) : Type 0 where
  pub declaring : Item
  pub here : Among declaring rest
  pub begun : set ≡ filter (λ v. allows items x v declaring) small_numbers

later_begun : (items : List Item) (i : Item) (rest : List Item) (x : ℕ) (set : List ℤ) → IsBegun items rest x set → IsBegun items (i ∷ rest) x set
later_begun items i rest x set h = record { declaring = h.declaring; here = inr h.here; begun = h.begun }

own_allows : (items : List Item) (name : List ℕ) (kind : VarType) (output : Bool) (value : Option Basic) (var x : ℕ) → var ≡ x →
    filter (λ v. is_of_type kind v && option_map_or (λ b. fits v (term_of items b)) value true) small_numbers ≡ filter (λ v. allows items x v (item.Var name kind output value var)) small_numbers
own_allows items name kind output value var x e =
    filter_same (λ v. is_of_type kind v && option_map_or (λ b. fits v (term_of items b)) value true) (λ v. allows items x v (item.Var name kind output value var)) small_numbers (λ v. rw (eq-eqb var x e) refl)

begun_at : (items : List Item) (n : ℕ) (rest : List Item) (k : ℕ) → AreNumbered items n rest → k < own_count items rest → IsBegun items rest (n + k) (get_or (own_sets items rest) k [])
begun_at items n [] k h below = absurd (omega arith)
begun_at items n (item.Int name value ∷ rest) k h below = later_begun items (item.Int name value) rest (n + k) (get_or (own_sets items rest) k []) (begun_at items n rest k h.1 below)
begun_at items n (item.Bool name value ∷ rest) k h below = later_begun items (item.Bool name value) rest (n + k) (get_or (own_sets items rest) k []) (begun_at items n rest k h.1 below)
begun_at items n (item.Set name set ∷ rest) k h below = later_begun items (item.Set name set) rest (n + k) (get_or (own_sets items rest) k []) (begun_at items n rest k h.1 below)
begun_at items n (item.Consts name bools elements ∷ rest) k h below = later_begun items (item.Consts name bools elements) rest (n + k) (get_or (own_sets items rest) k []) (begun_at items n rest k h.1 below)
begun_at items n (item.Vars name kind output elements ∷ rest) k h below = later_begun items (item.Vars name kind output elements) rest (n + k) (get_or (own_sets items rest) k []) (begun_at items n rest k h.1 below)
begun_at items n (item.Var name kind output value var ∷ rest) k h below =
    by (named_variable items value) refl (λ j numbered less. begun_at items (n + 1) rest j numbered less) (λ numbered less. begun_at items n rest k numbered less)
  where
    first : named_variable items value ≡ None → (j : ℕ) → k ≡ j → ((j : ℕ) → AreNumbered items (n + 1) rest → j < own_count items rest → IsBegun items rest ((n + 1) + j) (get_or (own_sets items rest) j [])) →
        IsBegun items (item.Var name kind output value var ∷ rest) (n + k) (get_or (filter (λ v. is_of_type kind v && option_map_or (λ b. fits v (term_of items b)) value true) small_numbers ∷ own_sets items rest) k [])
    first e zero same later =
        let is : var ≡ n = let q = h.0 in rw e at q in
        rw same (record { declaring = item.Var name kind output value var; here = inl refl; begun = own_allows items name kind output value var (n + 0) (is ∙ none_more n) })
      where
        none_more : (m : ℕ) → m ≡ m + 0
        none_more m = omega arith
    first e (suc j) same later =
        let less : k < suc (own_count items rest) = rw e at below in
        let numbered : AreNumbered items (n + 1) rest = let q = h.1 in rw e at q in
        rw same (subst (λ m. IsBegun items (item.Var name kind output value var ∷ rest) m (get_or (own_sets items rest) j [])) (moved n j)
        (later_begun items (item.Var name kind output value var) rest ((n + 1) + j) (get_or (own_sets items rest) j []) (later j numbered (omega arith))))
      where
        moved : (m j : ℕ) → (m + 1) + j ≡ m + suc j
        moved m j = omega arith

    by : (o : Option ℕ) → named_variable items value ≡ o → ((j : ℕ) → AreNumbered items (n + 1) rest → j < own_count items rest → IsBegun items rest ((n + 1) + j) (get_or (own_sets items rest) j [])) →
        (AreNumbered items n rest → k < own_count items rest → IsBegun items rest (n + k) (get_or (own_sets items rest) k [])) → IsBegun items (item.Var name kind output value var ∷ rest) (n + k) (get_or (own_sets items (item.Var name kind output value var ∷ rest)) k [])
    by None e own same = rw e (first e k refl own)
    by (Some y) e own same =
        let less : k < own_count items rest = rw e at below in
        let numbered : AreNumbered items n rest = let q = h.1 in rw e at q in
        rw e (later_begun items (item.Var name kind output value var) rest (n + k) (get_or (own_sets items rest) k []) (same numbered less))

implied : (a all : Bool) → (all ≡ true → a ≡ true) → (a && all) ≡ all
implied true all h = refl
implied false true h = h refl
implied false false h = refl

pub cut_all_items : (items : List Item) (sets : Domains) → AreNumbered items 0 items → IsCutBy (λ x v. list_all (allows items x v) items) (own_sets items items) sets → sets ≡ domains_of items
cut_all_items items sets numbered cut =
    fill_by_all (domain_of items) sets (count_variables items) [] (cut.count ∙ length-own_sets items items) (λ k below. at k below)
  where
    at : (k : ℕ) → k < count_variables items → get_or sets k [] ≡ domain_of items k
    at k below =
        let b = begun_at items 0 items k numbered below in
        let start : get_or (own_sets items items) k [] ≡ filter (λ v. allows items k v b.declaring) small_numbers = subst (λ n. get_or (own_sets items items) k [] ≡ filter (λ v. allows items n v b.declaring) small_numbers) (zero_more k) b.begun in
        cut.each k (subst (λ n. k < n) (sym (length-own_sets items items)) below) ∙ ap (filter (λ v. list_all (allows items k v) items)) start
        ∙ filter_both (λ v. allows items k v b.declaring) (λ v. list_all (allows items k v) items) small_numbers
        ∙ filter_same (λ v. allows items k v b.declaring && list_all (allows items k v) items) (may_be items k) small_numbers
        (λ v. implied (allows items k v b.declaring) (list_all (allows items k v) items) (λ all. list_all-at (allows items k v) items b.declaring all b.here))
      where
        zero_more : (m : ℕ) → 0 + m ≡ m
        zero_more m = omega arith

-- ---- the loop over items

pub items_none : (items : List Item) (d e : Domains) → d ≡ e → IsCutBy (λ x v. list_all (allows items x v) (take 0 items)) e d
items_none items d e same = subst (λ (f : Domains). IsCutBy (λ x v. list_all (allows items x v) (take 0 items)) e f) (sym same) (cut_none e)

all_more : (items : List Item) (x : ℕ) (v : ℤ) (is : List Item) (i : Item) → (list_all (allows items x v) is && allows items x v i) ≡ list_all (allows items x v) (is ++ i ∷ [])
all_more items x v [] i = and_true (allows items x v i)
all_more items x v (j ∷ is) i = and_assoc (allows items x v j) (list_all (allows items x v) is) (allows items x v i) ∙ ap (λ b. allows items x v j && b) (all_more items x v is i)
  where
    and_assoc : (a b c : Bool) → ((a && b) && c) ≡ (a && (b && c))
    and_assoc true b c = refl
    and_assoc false b c = refl

pub items_more : (items : List Item) (k : ℕ) (i : Item) (first mid new : Domains) → k < length items → i ≡ get_or items k i → IsCutBy (λ x v. list_all (allows items x v) (take k items)) first mid → IsCutBy (λ x v. allows items x v i) mid new →
    IsCutBy (λ x v. list_all (allows items x v) (take (k + 1) items)) first new
items_more items k i first mid new h e so_far here =
    subst (λ (is : List Item). IsCutBy (λ x v. list_all (allows items x v) is) first new) (sym (take_more items k i h ∙ ap (λ j. take k items ++ j ∷ []) (sym e)))
    (cut_then (λ x v. list_all (allows items x v) (take k items)) (λ x v. allows items x v i) (λ x v. list_all (allows items x v) (take k items ++ i ∷ [])) first mid new (λ x v. all_more items x v (take k items) i) so_far here)

pub items_all : (items : List Item) (k : ℕ) (sets : Domains) → AreNumbered items 0 items → length items ≤ k → IsCutBy (λ x v. list_all (allows items x v) (take k items)) (own_sets items items) sets → sets ≡ domains_of items
items_all items k sets numbered h cut =
    cut_all_items items sets numbered (subst (λ (is : List Item). IsCutBy (λ x v. list_all (allows items x v) is) (own_sets items items) sets) (take_all k items h) cut)

pub count_here : (items : List Item) (k : ℕ) (sets : Domains) → IsCutBy (λ x v. list_all (allows items x v) (take k items)) (own_sets items items) sets → length sets ≡ count_variables items
count_here items k sets cut = cut.count ∙ length-own_sets items items

below_by : (items : List Item) (i : Item) (n : ℕ) → n ≡ count_variables items → AreNumbered items 0 items → Among i items → IsWithVar (λ x. x < n) i
below_by items (item.Int name value) n e h here = tt
below_by items (item.Bool name value) n e h here = tt
below_by items (item.Set name set) n e h here = tt
below_by items (item.Consts name bools elements) n e h here = tt
below_by items (item.Vars name kind output elements) n e h here = tt
below_by items (item.Var name kind output value var) n e h here = let k = var_below items 0 items name kind output value var h here in omega arith

pub below_here : (items : List Item) (k : ℕ) (i : Item) (sets : Domains) → AreNumbered items 0 items → k < length items → i ≡ get_or items k i → IsCutBy (λ x v. list_all (allows items x v) (take k items)) (own_sets items items) sets →
    IsWithVar (λ x. x < length sets) i
below_here items k i sets numbered h e cut = below_by items i (length sets) (count_here items k sets cut) numbered (subst (λ j. Among j items) (sym e) (Among-get_or items k i h))

pub declared_here : (items : List Item) (k : ℕ) (i : Item) → k < length items → i ≡ get_or items k i → Each (IsDeclared items) items → IsDeclared items i
declared_here items k i h e each = subst (IsDeclared items) (sym e) (Each-get_or (IsDeclared items) items k i h each)

-- ---- the sets at first

pub cons_sets : (items : List Item) (i : Item) (rest : List Item) → own_sets items (i ∷ rest) ≡ own_sets items (i ∷ []) ++ own_sets items rest
cons_sets items (item.Int name value) rest = refl
cons_sets items (item.Bool name value) rest = refl
cons_sets items (item.Set name set) rest = refl
cons_sets items (item.Consts name bools elements) rest = refl
cons_sets items (item.Vars name kind output elements) rest = refl
cons_sets items (item.Var name kind output value var) rest = by (is_none (named_variable items value)) refl
  where
    by : (b : Bool) → is_none (named_variable items value) ≡ b → own_sets items (item.Var name kind output value var ∷ rest) ≡ own_sets items (item.Var name kind output value var ∷ []) ++ own_sets items rest
    by true e = rw e refl
    by false e = rw e refl

pub begun_more : (items : List Item) (k : ℕ) (i : Item) (sets sets' whole : Domains) → k < length items → i ≡ get_or items k i → sets' ≡ sets ++ own_sets items (i ∷ []) → sets ++ own_sets items (drop k items) ≡ whole → sets' ++ own_sets items (drop (k + 1) items) ≡ whole
begun_more items k i sets sets' whole h e f so_far =
    ap (λ d. d ++ own_sets items (drop (k + 1) items)) f ∙ append_assoc sets (own_sets items (i ∷ [])) (own_sets items (drop (k + 1) items))
    ∙ ap (λ d. sets ++ d) (sym (cons_sets items i (drop (k + 1) items))) ∙ ap (λ is. sets ++ own_sets items is) (sym (left_of items k i h e)) ∙ so_far

pub begun_all : (items : List Item) (k : ℕ) (sets whole : Domains) → length items ≤ k → sets ++ own_sets items (drop k items) ≡ whole → sets ≡ whole
begun_all items k sets whole h so_far = sym (append-nil sets) ∙ ap (λ is. sets ++ own_sets items is) (sym (drop_all k items h)) ∙ so_far

-- ---- one item

pub item_cut : (items : List Item) (i : Item) (name : List ℕ) (kind : VarType) (output : Bool) (value : Option Basic) (var : ℕ) (old new : Domains) → i ≡ item.Var name kind output value var → var < length old →
    new ≡ slice_set old var (filter (λ v. is_of_type kind v && option_map_or (λ b. fits v (term_of items b)) value true) (values old var)) → IsCutBy (λ x v. allows items x v i) old new
item_cut items i name kind output value var old new e h f =
    rw e (subst (λ (d : Domains). IsCutBy (λ x v. allows items x v (item.Var name kind output value var)) old d) (sym f)
    (cut_set old var (λ v. is_of_type kind v && option_map_or (λ b. fits v (term_of items b)) value true) h))

pub var_below_by : (i : Item) (name : List ℕ) (kind : VarType) (output : Bool) (value : Option Basic) (var n : ℕ) → i ≡ item.Var name kind output value var → IsWithVar (λ x. x < n) i → var < n
var_below_by i name kind output value var n e h = subst (IsWithVar (λ x. x < n)) e h

-- which default stands behind the end does not matter before it
pub any_default : (xs : List Basic) (i : ℕ) (d e : Basic) → i < length xs → get_or xs i d ≡ get_or xs i e
any_default [] i d e h = absurd (omega arith)
any_default (x ∷ xs) zero d e h = refl
any_default (x ∷ xs) (suc i) d e h = any_default xs i d e (omega arith)

own_test : (b : Bool) → not b ≡ false → b ≡ true
own_test true e = refl
own_test false e = absurd (false≢true (sym e))

-- the set of one more variable of its own
pub own_more : (items : List Item) (i : Item) (name : List ℕ) (kind : VarType) (output : Bool) (value : Option Basic) (var : ℕ) (alias : Bool) (old now : Domains) (d : List ℤ) → i ≡ item.Var name kind output value var
    → alias ≡ not (is_none (named_variable items value)) → alias ≡ false → d ≡ filter (λ v. is_of_type kind v && option_map_or (λ b. fits v (term_of items b)) value true) small_numbers → now ≡ old ++ d ∷ []
    → now ≡ old ++ own_sets items (i ∷ [])
own_more items i name kind output value var alias old now d e f g h k =
    let own = filter (λ v. is_of_type kind v && option_map_or (λ b. fits v (term_of items b)) value true) small_numbers in
    k ∙ ap (λ (xs : List ℤ). old ++ xs ∷ []) h
    ∙ ap (λ (c : Bool). old ++ (if c then own ∷ [] else [])) (sym (own_test (is_none (named_variable items value)) (sym f ∙ g)))
    ∙ ap (λ (j : Item). old ++ own_sets items (j ∷ [])) (sym e)
