-- The arguments of a constraint: a lawful list, its tests, and what it counts.
use Rattle.std.proofs.Common.{◌≡◌, ℕ, ◌+◌, ◌<◌, ◌≤◌, ◌==◌, Bool, true, false, not, ◌&&◌, inl, inr, List, [], ◌∷◌, ◌++◌, length, map, drop, get_or, Option, refl, sym, ap, subst, ◌∙◌, arith}
use Rattle.std.specs.Prelude.{sum, slice_get, nat_lt}
use Rattle.std.specs.List.{list_all, list_any, filter_map, cons_option}
use Rattle.std.proofs.lemmas.List.{length-map}
use Rattle.dp_grammar.specs.Brackets.{Closes}
use Rattle.dp_grammar.specs.Choice.{IsLed}
use Rattle.dp_grammar.specs.Listed.{IsListing}
use Rattle.dp_grammar.proofs.Leaves.{tested_mark_lawful}
use Rattle.fz_model.specs.Constraints.{ArgText, ArgTruth, ArgWhole, ArgName, ArgWords, all_equal, argument, array_length, behind, close_test, elements_in, pairs_arrays, text_arg}
use Rattle.fz_model.specs.Context.{Context, with_elements}
use Rattle.fz_model.specs.Limits.{or_else, refuse_if}
use Rattle.fz_model.specs.Marks.{is_close}
use Rattle.fz_model.specs.Table.{args_of, least_args}
use Rattle.fz_model.specs.Words.{Round, Comma}
use Rattle.fz_model.specs.declared.fault.Fault.TheVariants.{Kind}
use Rattle.fz_model.specs.declared.kinds.ArgKind.{ArgKind}
use Rattle.fz_model.specs.declared.kinds.ConstraintKind.{ConstraintKind}
use Rattle.fz_model.proofs.ConstraintLaws.{argument_lawful}
use Rattle.fz_model.proofs.MarkLaws.{stop_is_only, close_is_only}
use Rattle.std.proofs.lemmas.List.{map-append}
use Rattle.std.proofs.lemmas.List.Sums.{sum_by-append}
use Rattle.std.proofs.lemmas.Bool.{le-ltb}
use Rattle.dp_grammar.specs.Grammar.{Grammar, Reading}
use Rattle.dp_grammar.specs.Leaf.{tested_mark}
use Rattle.fz_model.specs.Words.{Word}
use Rattle.fz_model.specs.declared.fault.Fault.{Fault}
use Rattle.fz_items.specs.Seen.{number_of, basic_text}
use Rattle.fz_items.specs.Arguments.{arg_count, arg_words, args_listing}
use Rattle.fz_items.specs.declared.argument.ArgWords as words
use Rattle.fz_items.specs.declared.argument.ArgWords.TheVariants as arg

-- ---- an argument begins with no bracket that closes

text_no_close : (context : Context) (wanted : Option ArgKind) (x : ArgText) → IsLed (is_close Round) false ((text_arg context wanted).spell x)
text_no_close context wanted (ArgName bytes) = refl
text_no_close context wanted (ArgWhole value) = refl
text_no_close context wanted (ArgTruth true) = refl
text_no_close context wanted (ArgTruth false) = refl

argument_no_close : (context : Context) (wanted : Option ArgKind) (x : ArgWords) → IsLed (is_close Round) false ((argument context wanted).spell x)
argument_no_close context wanted (inl numbers) = refl
argument_no_close context wanted (inr (inl elements)) = refl
argument_no_close context wanted (inr (inr (inl bounds))) = refl
argument_no_close context wanted (inr (inr (inr x))) = text_no_close context wanted x

pub args_listing_is : (context : Context) (kind : ConstraintKind) → IsListing (args_listing context kind)
args_listing_is context kind = record {
  separates = stop_is_only Comma;
  item = λ kept. argument_lawful (behind context kept) (slice_get (args_of kind) (length kept));
  close = λ kept. tested_mark_lawful (is_close Round) (Closes Round) (close_test context kind kept) (close_is_only Round);
  begins = λ kept x. argument_no_close (behind context kept) (slice_get (args_of kind) (length kept)) x;
  closes = λ kept u. refl;
  apart = λ kept u. refl;
}

-- ---- the test at the close

pub filter_mapped : {X Y Z : Type 0} (g : Y → Option Z) (h : X → Y) (xs : List X) → filter_map (λ x. g (h x)) xs ≡ filter_map g (map h xs)
filter_mapped g h [] = refl
filter_mapped g h (x ∷ xs) = ap (cons_option (g (h x))) (filter_mapped g h xs)

pub all_equal_as : (ns : List ℕ) → 0 < length ns → all_equal ns ≡ list_all (λ n. n == get_or ns 0 0) (drop 1 ns)
all_equal_as [] h = absurd (omega arith)
all_equal_as (n ∷ ns) h = refl

pub not_few : (args : List words.ArgWords) (kind : ConstraintKind) (least : ℕ) → least ≡ least_args kind → least ≤ length args → nat_lt (length (map arg_words args)) (least_args kind) ≡ false
not_few args kind least e h =
    ap (λ (n : ℕ). nat_lt n (least_args kind)) (length-map args arg_words) ∙ le-ltb (length args) (least_args kind) (subst (λ (n : ℕ). n ≤ length args) e h)

pub close_by : (context : Context) (kind : ConstraintKind) (args : List ArgWords) (few pairs equal : Bool)
    → nat_lt (length args) (least_args kind) ≡ few → list_any pairs_arrays (args_of kind) ≡ pairs → all_equal (filter_map (array_length context) args) ≡ equal
    → close_test context kind args ≡ or_else (refuse_if few Kind) (refuse_if (pairs && not equal) Kind)
close_by context kind args few pairs equal e f g =
    ap (λ (b : Bool). or_else (refuse_if b Kind) (refuse_if (list_any pairs_arrays (args_of kind) && not (all_equal (filter_map (array_length context) args))) Kind)) e
    ∙ ap (λ (b : Bool). or_else (refuse_if few Kind) (refuse_if (b && not (all_equal (filter_map (array_length context) args))) Kind)) f
    ∙ ap (λ (b : Bool). or_else (refuse_if few Kind) (refuse_if (pairs && not b) Kind)) g

-- ---- what is counted

pub count_is : (a : words.ArgWords) → arg_count a ≡ elements_in (arg_words a)
count_is (arg.Set numbers) = sym (length-map numbers.items number_of)
count_is (arg.Array elements) = sym (length-map elements.items basic_text)
count_is (arg.Range low high) = refl
count_is (arg.Basic word) = refl

pub behind_none : (context : Context) → behind context [] ≡ context
behind_none context = ap (λ (n : ℕ). record context { elements = n }) (omega arith)

one_sum : (n : ℕ) → sum (n ∷ []) ≡ n
one_sum n = omega arith

pub behind_more : (context : Context) (kept : List words.ArgWords) (more : List words.ArgWords) (a : words.ArgWords)
    → more ≡ kept ++ a ∷ [] → with_elements (behind context (map arg_words kept)) (arg_count a) ≡ behind context (map arg_words more)
behind_more context kept more a e =
    let counted : sum (map elements_in (map arg_words more)) ≡ sum (map elements_in (map arg_words kept)) + elements_in (arg_words a) =
    ap (λ (xs : List words.ArgWords). sum (map elements_in (map arg_words xs))) e
    ∙ ap (λ (xs : List ArgWords). sum (map elements_in xs)) (map-append arg_words kept (a ∷ []))
    ∙ ap (λ (xs : List ℕ). sum xs) (map-append elements_in (map arg_words kept) (arg_words a ∷ []))
    ∙ sum_by-append (λ n. n) (map elements_in (map arg_words kept)) (elements_in (arg_words a) ∷ [])
    ∙ ap (λ (n : ℕ). sum (map elements_in (map arg_words kept)) + n) (one_sum (elements_in (arg_words a))) in
    ap (λ (n : ℕ). record context { elements = n }) (omega (arith, counted, count_is a))

-- ---- an argument of the list, and its close

item_at : (context : Context) (kind : ConstraintKind) (kept : List ArgWords) (names : Context) (wanted : Option ArgKind)
    → names ≡ behind context kept → wanted ≡ slice_get (args_of kind) (length kept) → argument names wanted ≡ (args_listing context kind).item kept
item_at context kind kept names wanted e f = ap (λ (k : Context). argument k wanted) e ∙ ap (argument (behind context kept)) f

pub item_reads : (context : Context) (kind : ConstraintKind) (kept : List words.ArgWords) (count : ℕ) (names : Context) (wanted : Option ArgKind) (left text : List Word) (r : Reading Word Fault ArgWords)
    → names ≡ behind context (map arg_words kept) → count ≡ length kept → wanted ≡ slice_get (args_of kind) count → left ≡ text
    → (argument names wanted).read left ≡ r → ((args_listing context kind).item (map arg_words kept)).read text ≡ r
item_reads context kind kept count names wanted left text r n k w t e =
    let wanted_is : wanted ≡ slice_get (args_of kind) (length (map arg_words kept)) = w ∙ ap (slice_get (args_of kind)) (k ∙ sym (length-map kept arg_words)) in
    ap (λ (g : Grammar Word Fault ArgWords). g.read text) (sym (item_at context kind (map arg_words kept) names wanted n wanted_is))
    ∙ ap (λ (s : List Word). (argument names wanted).read s) (sym t) ∙ e

-- the names are those before the arguments
length_same : (context : Context) (kept : List ArgWords) (a : ArgWords) → array_length (behind context kept) a ≡ array_length context a
length_same context kept (inl numbers) = refl
length_same context kept (inr (inl elements)) = refl
length_same context kept (inr (inr (inl bounds))) = refl
length_same context kept (inr (inr (inr (ArgTruth value)))) = refl
length_same context kept (inr (inr (inr (ArgWhole value)))) = refl
length_same context kept (inr (inr (inr (ArgName bytes)))) = refl

lengths_same : (context : Context) (kept args : List ArgWords) → filter_map (array_length (behind context kept)) args ≡ filter_map (array_length context) args
lengths_same context kept [] = refl
lengths_same context kept (a ∷ args) =
    ap (λ (o : Option ℕ). cons_option o (filter_map (array_length (behind context kept)) args)) (length_same context kept a)
    ∙ ap (cons_option (array_length context a)) (lengths_same context kept args)

close_same : (context : Context) (kind : ConstraintKind) (kept args : List ArgWords) → close_test (behind context kept) kind args ≡ close_test context kind args
close_same context kind kept args =
    ap (λ (ns : List ℕ). or_else (refuse_if (nat_lt (length args) (least_args kind)) Kind) (refuse_if (list_any pairs_arrays (args_of kind) && not (all_equal ns)) Kind)) (lengths_same context kept args)

pub close_reads : (context : Context) (kind : ConstraintKind) (kept slice : List words.ArgWords) (names : Context) (refused : Option Fault) (text : List Word) (r : Reading Word Fault (Unit {0}))
    → names ≡ behind context (map arg_words kept) → slice ≡ kept → refused ≡ close_test names kind (map arg_words slice)
    → (tested_mark (is_close Round) (Closes Round) refused).read text ≡ r → ((args_listing context kind).close (map arg_words kept)).read text ≡ r
close_reads context kind kept slice names refused text r n s f e =
    let refused_is : refused ≡ close_test context kind (map arg_words kept) =
    f ∙ ap (λ (k : Context). close_test k kind (map arg_words slice)) n ∙ close_same context kind (map arg_words kept) (map arg_words slice)
    ∙ ap (λ (xs : List words.ArgWords). close_test context kind (map arg_words xs)) s in
    ap (λ (o : Option Fault). (tested_mark {F = Fault} (is_close Round) (Closes Round) o).read text) (sym refused_is) ∙ e
