-- The words of the canonical spelling of sets, types and elements pass the tests that other words of the same pass.
use Rattle.std.proofs.Common.{◌≡◌, ℕ, ◌==◌, Bool, true, false, not, ◌&&◌, ◌||◌, inl, inr, List, [], ◌∷◌, map, length, Option, Some, None, ℤ, refl, sym, ◌∙◌, ap, subst}
use Rattle.std.specs.List.{list_any}
use Rattle.std.specs.Int.Signed.{lt_z}
use Rattle.std.proofs.lemmas.Bool.{eqb-true, not-false}
use Rattle.std.proofs.lemmas.List.{length-map}
use Rattle.dp_base.specs.Lists.{Each}
use Rattle.dp_grammar.specs.Brackets.{Plain, Closes}
use Rattle.dp_grammar.specs.Chain.{behind_mark}
use Rattle.dp_grammar.specs.Leaf.{tested_mark}
use Rattle.dp_grammar.specs.Listed.{Listing, listed}
use Rattle.fz_model.specs.Arrays.{type_test}
use Rattle.fz_model.specs.Context.{BasicText, Context, Truth, Whole, Name, known, meaning, one_more}
use Rattle.fz_model.specs.Items.{IntText, SetWords, TypeWords, array_literal, basic, basic_word, is_bool_type, is_int_type, set_elements, type_elements}
use Rattle.fz_model.specs.Limits.{or_else, refuse_if}
use Rattle.fz_model.specs.Literals.{integer, range, set_literal, var_type}
use Rattle.fz_model.specs.Marks.{closes, is_close, is_stop, stop}
use Rattle.fz_model.specs.Models.{basic_of_text, elements_of, set_of, type_of}
use Rattle.fz_model.specs.Words.{Square, Curly, Comma, DoubleDot, Number, Stop, Word}
use Rattle.fz_model.specs.declared.fault.Fault.{Fault}
use Rattle.fz_model.specs.declared.fault.Fault.TheVariants.{Kind}
use Rattle.fz_model.specs.declared.meant.Meant.{Meant}
use Rattle.fz_model.specs.declared.model.Item.{Item}
use Rattle.fz_model.specs.declared.meant.Meant.TheVariants as meant
use Rattle.fz_model.specs.declared.model.SetText.{SetText}
use Rattle.fz_model.specs.declared.model.SetText.TheVariants as set
use Rattle.fz_model.specs.declared.model.VarType.{VarType}
use Rattle.fz_model.specs.declared.model.VarType.TheVariants as type
use Rattle.fz_facts.proofs.Faults.{chain_parts, listed_parts, test_passes}
use Rattle.fz_facts.proofs.Passes.{is_known, neither, not_refused}
use Rattle.fz_print.specs.Canonical.{number_words, set_words, type_words}
use Rattle.fz_print.proofs.Unrefused.{EachBehind-each, at_none, chain_none, listed_map}

pub or_none : (a b : Option Fault) → a ≡ None → b ≡ None → or_else a b ≡ None
or_none None b e f = f
or_none (Some fault) b e f = absurd cc

-- ---- numbers

-- the same number, which no `..` follows
abbrev pub plain_number : IntText → IntText
plain_number n = (n.0, false)

pub same_numbers : (ns : List IntText) → map number_words (map (λ n. n.0) ns) ≡ map plain_number ns
same_numbers [] = refl
same_numbers (n ∷ ns) = ap (λ l. (n.0, false) ∷ l) (same_numbers ns)

pub same_values : (ns : List ℤ) → map (λ n. n.0) (map number_words ns) ≡ ns
same_values [] = refl
same_values (n ∷ ns) = ap (λ l. n ∷ l) (same_values ns)

integer_none : (test : ℤ → Option Fault) (v : ℤ) (d e : Bool) → (integer test).fault (v, d) ≡ None → (integer test).fault (v, e) ≡ None
integer_none test v d e h = at_none (test v) (Plain (Number v e) ∷ []) (test_passes (test v) (Plain (Number v d) ∷ []) h)

-- ---- sets and types, whose tests look at how many numbers stand before

abbrev pub numbers_listing : (ℕ → ℤ → Option Fault) → Listing Word Fault IntText
numbers_listing test = record {
  is_separator = is_stop Comma;
  separator = Plain (Stop Comma);
  is_close = is_close Curly;
  item = λ kept. integer (test (length kept));
  close = λ kept. closes Curly;
}

pub numbers_none : (test : ℕ → ℤ → Option Fault) (ns : List IntText) → (listed (numbers_listing test)).fault ns ≡ None → (listed (numbers_listing test)).fault (map plain_number ns) ≡ None
numbers_none test ns e =
    listed_map (numbers_listing test) (numbers_listing test) plain_number
    (λ kept n h. integer_none (test (length (map plain_number kept))) n.0 n.1 false (subst (λ k. (integer (test k)).fault n ≡ None) (sym (length-map kept plain_number)) h))
    (λ xs h. refl) ns e

range_none : (bound : ℤ → Option Fault) (b : IntText × IntText) → (range bound).fault b ≡ None → (range bound).fault ((b.0.0, true), (b.1.0, false)) ≡ None
range_none bound b e =
    let p = chain_parts (integer bound) (λ low. behind_mark (stop DoubleDot) (integer bound)) b e in
    chain_none (integer bound) (λ low. behind_mark (stop DoubleDot) (integer bound)) ((b.0.0, true), (b.1.0, false))
    (integer_none bound b.0.0 b.0.1 true p.0) (integer_none bound b.1.0 b.1.1 false p.1)

pub set_none : (test : ℕ → ℤ → Option Fault) (bound : ℤ → Option Fault) (s : SetWords) → (set_literal (λ kept v. test (length kept) v) bound).fault s ≡ None
    → (set_literal (λ kept v. test (length kept) v) bound).fault (set_words (set_of s)) ≡ None
set_none test bound (inl ns) e = subst (λ l. (listed (numbers_listing test)).fault l ≡ None) (sym (same_numbers ns)) (numbers_none test ns e)
set_none test bound (inr b) e = range_none bound b e

pub type_none : (test : ℕ → ℤ → Option Fault) (bound : ℤ → Option Fault) (t : TypeWords) → (var_type (λ kept v. test (length kept) v) bound).fault t ≡ None
    → (var_type (λ kept v. test (length kept) v) bound).fault (type_words (type_of t)) ≡ None
type_none test bound (inl bool) e = refl
type_none test bound (inr (inl int)) e = refl
type_none test bound (inr (inr (inl ns))) e = subst (λ l. (listed (numbers_listing test)).fault l ≡ None) (sym (same_numbers ns)) (numbers_none test ns e)
type_none test bound (inr (inr (inr b))) e = range_none bound b e

-- the tests of a type see the same

pub same_bool_type : (t : TypeWords) → is_bool_type (type_words (type_of t)) ≡ is_bool_type t
same_bool_type (inl bool) = refl
same_bool_type (inr (inl int)) = refl
same_bool_type (inr (inr (inl ns))) = refl
same_bool_type (inr (inr (inr b))) = refl

pub same_int_type : (t : TypeWords) → is_int_type (type_words (type_of t)) ≡ is_int_type t
same_int_type (inl bool) = refl
same_int_type (inr (inl int)) = refl
same_int_type (inr (inr (inl ns))) = refl
same_int_type (inr (inr (inr b))) = refl

same_count : (ns : List IntText) → length (map number_words (map (λ n. n.0) ns)) ≡ length ns
same_count ns = ap length (same_numbers ns) ∙ length-map ns plain_number

pub same_type_elements : (t : TypeWords) → type_elements (type_words (type_of t)) ≡ type_elements t
same_type_elements (inl bool) = refl
same_type_elements (inr (inl int)) = refl
same_type_elements (inr (inr (inl ns))) = same_count ns
same_type_elements (inr (inr (inr b))) = refl

pub same_set_elements : (s : SetWords) → set_elements (set_words (set_of s)) ≡ set_elements s
same_set_elements (inl ns) = same_count ns
same_set_elements (inr b) = refl

abbrev is_value : ℤ → IntText → Bool
is_value v p = not (lt_z p.0 v) && not (lt_z v p.0)

any_plain : (v : ℤ) (ns : List IntText) → list_any (is_value v) (map number_words (map (λ n. n.0) ns)) ≡ list_any (is_value v) ns
any_plain v [] = refl
any_plain v (n ∷ ns) = ap (λ b. is_value v n || b) (any_plain v ns)

same_list_test : (ns : List IntText) (m : Meant) → type_test (inr (inr (inl (map number_words (map (λ n. n.0) ns))))) m ≡ type_test (inr (inr (inl ns))) m
same_list_test ns (meant.IntConst v) = ap (λ b. refuse_if (not b) Kind) (any_plain v ns)
same_list_test ns (meant.BoolConst v) = refl
same_list_test ns meant.SetConst = refl
same_list_test ns meant.IntVar = refl
same_list_test ns meant.BoolVar = refl
same_list_test ns (meant.IntArray parameter elements) = refl
same_list_test ns (meant.BoolArray parameter elements) = refl

pub same_type_test : (t : TypeWords) (m : Meant) → type_test (type_words (type_of t)) m ≡ type_test t m
same_type_test (inl bool) m = refl
same_type_test (inr (inl int)) m = refl
same_type_test (inr (inr (inl ns))) m = same_list_test ns m
same_type_test (inr (inr (inr b))) m = refl

-- ---- the same sets and types

pub set_again : (x : SetText) → set_of (set_words x) ≡ x
set_again (set.List ns) = ap (λ l. set.List l) (same_values ns)
set_again (set.Range a b) = refl

pub type_again : (x : VarType) → type_of (type_words x) ≡ x
type_again type.Bool = refl
type_again type.Int = refl
type_again (type.List ns) = ap (λ l. type.List l) (same_values ns)
type_again (type.Range a b) = refl

-- ---- literals and names

-- the same literal or name, which no `..` follows
abbrev pub plain_text : BasicText → BasicText
plain_text (Truth v) = Truth v
plain_text (Whole v dotted) = Whole v false
plain_text (Name bytes) = Name bytes

pub same_meaning : (c : Context) (t : BasicText) → meaning c (plain_text t) ≡ meaning c t
same_meaning c (Truth v) = refl
same_meaning c (Whole v dotted) = refl
same_meaning c (Name bytes) = refl

pub same_basic : (items : List Item) (t : BasicText) → basic_of_text items (plain_text t) ≡ basic_of_text items t
same_basic items (Truth v) = refl
same_basic items (Whole v dotted) = refl
same_basic items (Name bytes) = refl

pub same_elements : (items : List Item) (ts : List BasicText) → elements_of items (map plain_text ts) ≡ elements_of items ts
same_elements items [] = refl
same_elements items (t ∷ ts) = ap (λ b. b ∷ elements_of items (map plain_text ts)) (same_basic items t) ∙ ap (λ l. basic_of_text items t ∷ l) (same_elements items ts)

-- what it stands for is known
abbrev pub IsKnown : Context → BasicText → Type 0
IsKnown c t = (m : Meant) × (meaning c t ≡ Some m)

known_none : (o : Option Meant) (S T : Meant → Option Fault) → ((m : Meant) → S m ≡ None → T m ≡ None) → known o S ≡ None → known o T ≡ None
known_none o S T weaker e = let k = is_known o S e in subst (λ q. known q T ≡ None) (sym k.1) (weaker k.0 k.2)

-- a literal or name passes the test, where another spelling of it does
pub basic_none : (c : Context) (S T : Meant → Option Fault) → ((m : Meant) → S m ≡ None → T m ≡ None) → (t : BasicText) → known (meaning c t) S ≡ None → known (meaning c (plain_text t)) T ≡ None
basic_none c S T weaker t e = subst (λ o. known o T ≡ None) (sym (same_meaning c t)) (known_none (meaning c t) S T weaker e)

-- an element that means what the test wants, behind so many others
abbrev pub element_of : Context → Context → (Meant → Option Fault) → List BasicText → BasicText → Option Fault
element_of c d test kept text = or_else (known (meaning c text) test) (one_more d (length kept))

abbrev pub elements_listing : (List BasicText → BasicText → Option Fault) → (List BasicText → Option Fault) → Listing Word Fault BasicText
elements_listing element close = record {
  is_separator = is_stop Comma;
  separator = Plain (Stop Comma);
  is_close = is_close Square;
  item = λ kept. basic (element kept);
  close = λ kept. tested_mark (is_close Square) (Closes Square) (close kept);
}

pub element_none : (c d : Context) (S T : Meant → Option Fault) → ((m : Meant) → S m ≡ None → T m ≡ None) → (kept : List BasicText) (t : BasicText)
    → (basic (element_of c d S kept)).fault t ≡ None → (basic (element_of c d T (map plain_text kept))).fault (plain_text t) ≡ None
element_none c d S T weaker kept t e =
    let p = neither (known (meaning c t) S) (one_more d (length kept)) (test_passes (element_of c d S kept t) (basic_word t ∷ []) e) in
    at_none (element_of c d T (map plain_text kept) (plain_text t)) (basic_word (plain_text t) ∷ [])
    (or_none (known (meaning c (plain_text t)) T) (one_more d (length (map plain_text kept))) (basic_none c S T weaker t p.0)
    (subst (λ k. one_more d k ≡ None) (sym (length-map kept plain_text)) p.1))

-- the elements are of this number
abbrev pub are_so_many : ℕ → List BasicText → Option Fault
are_so_many n kept = refuse_if (not (length kept == n)) Kind

pub so_many : (element : List BasicText → BasicText → Option Fault) (n : ℕ) (ts : List BasicText) → (array_literal element (are_so_many n)).fault ts ≡ None → length ts ≡ n
so_many element n ts e =
    let p = listed_parts (elements_listing element (are_so_many n)) ts e in
    eqb-true (length ts) n (not-false (length ts == n) (not_refused (not (length ts == n)) Kind (test_passes (are_so_many n ts) (Closes Square ∷ []) p.1)))

pub elements_none : (c d : Context) (S T : Meant → Option Fault) → ((m : Meant) → S m ≡ None → T m ≡ None) → (n : ℕ) (ts : List BasicText)
    → (array_literal (element_of c d S) (are_so_many n)).fault ts ≡ None → (array_literal (element_of c d T) (are_so_many (length ts))).fault (map plain_text ts) ≡ None
elements_none c d S T weaker n ts e =
    subst (λ k. (array_literal (element_of c d T) (are_so_many k)).fault (map plain_text ts) ≡ None) (sym (so_many (element_of c d S) n ts e))
    (listed_map (elements_listing (element_of c d S) (are_so_many n)) (elements_listing (element_of c d T) (are_so_many n)) plain_text
    (element_none c d S T weaker)
    (λ xs h. at_none (are_so_many n (map plain_text xs)) (Closes Square ∷ [])
    (subst (λ k. refuse_if (not (k == n)) Kind ≡ None) (sym (length-map xs plain_text)) (test_passes (are_so_many n xs) (Closes Square ∷ []) h)))
    ts e)

pub elements_known : (c d : Context) (S : Meant → Option Fault) (close : List BasicText → Option Fault) (ts : List BasicText)
    → (array_literal (element_of c d S) close).fault ts ≡ None → Each (IsKnown c) ts
elements_known c d S close ts e =
    let p = listed_parts (elements_listing (element_of c d S) close) ts e in
    EachBehind-each (λ before t. (basic (element_of c d S before)).fault t ≡ None) (IsKnown c)
    (λ kept t h. (let k = is_known (meaning c t) S (neither (known (meaning c t) S) (one_more d (length kept)) (test_passes (element_of c d S kept t) (basic_word t ∷ []) h)).0 in (k.0, k.1)))
    [] ts p.0
