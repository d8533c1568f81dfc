-- A constraint without fault is known, and its arguments are what its kind wants.
use Rattle.std.proofs.Common.{◌≡◌, ℕ, zero, suc, ◌+◌, ◌<◌, ◌≤◌, Bool, true, false, not, ◌&&◌, if◌then◌else◌, is_none, nat_le, nat_lt, unwrap_or, Option, Some, None, List, [], ◌∷◌, length, map, filter_map, slice_get, option_map, pos, refl, sym, ap, subst, ◌∙◌, add-zero, zero-add, arith}
use Rattle.std.specs.List.{list_any}
use Rattle.std.specs.Option.{option_map_or}
use Rattle.std.specs.Prelude.{MatchOption}
use Rattle.std.proofs.lemmas.Option.{slice_get-map, slice_get_within}
use Rattle.dp_base.specs.Lists.{Among, Each}
use Rattle.dp_domain.specs.declared.term.Term.TheVariants.{Const}
use Rattle.fz_token.specs.declared.Keyword.TheVariants as key
use Rattle.dp_grammar.specs.Brackets.{Plain, Closes}
use Rattle.dp_grammar.specs.Chain.{chain}
use Rattle.dp_grammar.specs.Leaf.{tested_mark}
use Rattle.dp_grammar.specs.Listed.{Listing}
use Rattle.fz_model.specs.Annotations.{annotated}
use Rattle.fz_model.specs.Constraints.{ArgWords, ConstraintWords, all_equal, argument, arguments, array_length, behind, behind_constraints, close_test, constraint_item, kind_named, pairs_arrays, wants_array}
use Rattle.fz_model.specs.Context.{Context}
use Rattle.fz_model.specs.Limits.{max_constraints, refuse_if}
use Rattle.fz_model.specs.Literals.{name}
use Rattle.fz_model.specs.Marks.{is_close, is_key, is_stop, stop}
use Rattle.fz_model.specs.Models.{constraint_of_words, expr_of}
use Rattle.fz_model.specs.Table.{args_of, constraint_of, least_args}
use Rattle.fz_model.specs.Words.{Comma, Key, Named, Round, Semicolon, Stop, Word}
use Rattle.fz_model.specs.declared.fault.Fault.{Fault}
use Rattle.fz_model.specs.declared.fault.Fault.TheVariants.{Kind, Limit, Unsupported}
use Rattle.fz_model.specs.declared.kinds.ArgKind.{ArgKind}
use Rattle.fz_model.specs.declared.kinds.ConstraintKind.{ConstraintKind}
use Rattle.fz_model.specs.declared.kinds.ConstraintKind.TheVariants as of
use Rattle.fz_model.specs.declared.model.Expr.{Expr}
use Rattle.fz_model.specs.declared.model.Item.{Item}
use Rattle.fz_sat.specs.Args.{arg_terms, elements_of_expr, term_of_expr, terms_of}
use Rattle.fz_facts.specs.Facts.{AreFit, ArePaired, IsFit, IsFitted, IsPaired, array_lengths}
use Rattle.fz_facts.proofs.Arguments.{IsGood, good}
use Rattle.fz_facts.proofs.Faults.{chain_parts, listed_parts, test_passes}
use Rattle.fz_facts.proofs.Fits.{Fits, fit_from, fits_nothing}
use Rattle.fz_facts.proofs.Passes.{below_limit, neither, not_above, not_refused}
use Rattle.fz_facts.proofs.Places.{Among-filter_map, behind_at, equal_among}
use Rattle.fz_facts.proofs.Shown.{IsRight}

-- what stands at a place
stands : {X : Type 0} (xs : List X) (k : ℕ) → k < length xs → (x : X) × (slice_get xs k ≡ Some x)
stands [] k h = absurd (omega arith)
stands (x ∷ xs) zero h = (x, refl)
stands (x ∷ xs) (suc k) h = stands xs k (omega arith)

-- ---- from places to all arguments

all_fit : (items : List Item) (args : List Expr) (k : ℕ) (wanted : List ArgKind) → ((j : ℕ) (kind : ArgKind) → slice_get wanted j ≡ Some kind → IsFit items args (k + j) kind) → AreFit items args k wanted
all_fit items args k [] h = tt
all_fit items args k (kind ∷ wanted) h = (
  subst (λ n. IsFit items args n kind) (add-zero k) (h zero kind refl),
  all_fit items args (k + 1) wanted (λ j other at.
      let same : k + suc j ≡ (k + 1) + j = omega arith in
      subst (λ n. IsFit items args n other) same (h (suc j) other at)),
)

lengths_step : (l : List ℕ) (n : ℕ) (ns : List ℕ) (b : Bool) → (b ≡ true → Among n l) → Each (λ m. Among m l) ns → Each (λ m. Among m l) (if b then n ∷ ns else ns)
lengths_step l n ns true h each = (h refl, each)
lengths_step l n ns false h each = each

all_lengths : (items : List Item) (args : List Expr) (l : List ℕ) (k : ℕ) (wanted : List ArgKind)
    → ((j : ℕ) (kind : ArgKind) → slice_get wanted j ≡ Some kind → wants_array (Some kind) ≡ true → Among (length (arg_terms items args (k + j))) l)
    → Each (λ m. Among m l) (array_lengths items args k wanted)
all_lengths items args l k [] h = tt
all_lengths items args l k (kind ∷ wanted) h =
    lengths_step l (length (arg_terms items args k)) (array_lengths items args (k + 1) wanted) (wants_array (Some kind))
    (λ w. subst (λ n. Among (length (arg_terms items args n)) l) (add-zero k) (h zero kind refl w))
    (all_lengths items args l (k + 1) wanted (λ j other at w.
    let same : k + suc j ≡ (k + 1) + j = omega arith in
    subst (λ n. Among (length (arg_terms items args n)) l) same (h (suc j) other at w)))

-- ---- the arguments

-- a kind that pairs arrays has all its arguments
all_needed : (kind : ConstraintKind) → list_any pairs_arrays (args_of kind) ≡ true → least_args kind ≡ length (args_of kind)
all_needed of.BoolXor e = absurd cc
all_needed kind e = refl

paired : (a b : Bool) → (a && not b) ≡ false → a ≡ true → b ≡ true
paired true true e h = refl
paired true false e h = absurd cc
paired false b e h = absurd cc

module _ (c : Context) (items : List Item) (right : IsRight c items) (kept : List ConstraintWords) (kind : ConstraintKind) where
  abbrev context : Context
  context = behind_constraints c kept

  abbrev listing : Listing Word Fault ArgWords
  listing = record {
    is_separator = is_stop Comma;
    separator = Plain (Stop Comma);
    is_close = is_close Round;
    item = λ before. argument (behind context before) (slice_get (args_of kind) (length before));
    close = λ before. tested_mark (is_close Round) (Closes Round) (close_test context kind before);
  }

  module _ (args : List ArgWords) (free : (arguments context kind).fault args ≡ None) where
    abbrev exprs : List Expr
    exprs = map (expr_of items) args

    good_at : (k : ℕ) (want : ArgKind) (a : ArgWords) → slice_get (args_of kind) k ≡ Some want → slice_get args k ≡ Some a → IsGood c items want a
    good_at k want a wanted at =
        let r = behind_at (λ before x. (argument (behind context before) (slice_get (args_of kind) (length before))).fault x ≡ None) [] args k a (listed_parts listing args free).0 at in
        let place : length r.0 ≡ k = r.1 ∙ zero-add k in
        let e = subst (λ o. (argument (behind context r.0) o).fault a ≡ None) (ap (slice_get (args_of kind)) place ∙ wanted) r.2 in
        good c items right (behind context r.0).elements want a e

    abbrev FitsBy : ArgKind → Option Expr → Type 0
    FitsBy want o = Fits items want (option_map_or (term_of_expr items) o (Const (pos 0))) (terms_of items (option_map_or (elements_of_expr items) o []))

    fits_by : (k : ℕ) (want : ArgKind) → slice_get (args_of kind) k ≡ Some want → (o : Option ArgWords) → slice_get args k ≡ o → FitsBy want (option_map (expr_of items) o)
    fits_by k want wanted None at = fits_nothing items want
    fits_by k want wanted (Some a) at = (good_at k want a wanted at).fits

    fits_at : (k : ℕ) (want : ArgKind) → slice_get (args_of kind) k ≡ Some want → IsFit items exprs k want
    fits_at k want wanted =
        fit_from items exprs k want (subst (FitsBy want) (sym (slice_get-map (expr_of items) args k)) (fits_by k want wanted (slice_get args k) refl))

    closed : (nat_lt (length args) (least_args kind) ≡ false) × ((list_any pairs_arrays (args_of kind) && not (all_equal (filter_map (array_length context) args))) ≡ false)
    closed =
        let few = refuse_if (nat_lt (length args) (least_args kind)) Kind in
        let other = refuse_if (list_any pairs_arrays (args_of kind) && not (all_equal (filter_map (array_length context) args))) Kind in
        let p = neither few other (test_passes (close_test context kind args) (Closes Round ∷ []) (listed_parts listing args free).1) in
        (not_refused _ Kind p.0, not_refused _ Kind p.1)

    long_by : (k : ℕ) (want : ArgKind) → slice_get (args_of kind) k ≡ Some want → wants_array (Some want) ≡ true → (a : ArgWords) → slice_get args k ≡ Some a
        → Among (length (arg_terms items exprs k)) (filter_map (array_length context) args)
    long_by k want wanted w a at =
        let g = good_at k want a wanted at in
        let h : slice_get exprs k ≡ Some (expr_of items a) = slice_get-map (expr_of items) args k ∙ ap (option_map (expr_of items)) at in
        let n = length (terms_of items (elements_of_expr items (expr_of items a))) in
        subst (λ (o : Option Expr). Among (length (terms_of items (option_map_or (elements_of_expr items) o []))) (filter_map (array_length context) args)) (sym h)
        (Among-filter_map (array_length context) args k a n at (g.long w context.elements))

    pairs_fit : ArePaired items exprs (args_of kind)
    pairs_fit pairs =
        let l = filter_map (array_length context) args in
        let same : all_equal l ≡ true = paired (list_any pairs_arrays (args_of kind)) (all_equal l) closed.1 pairs in
        let many : least_args kind ≤ length args = not_above (length args) (least_args kind) closed.0 in
        equal_among l same (array_lengths items exprs 0 (args_of kind))
        (all_lengths items exprs l 0 (args_of kind) (λ j want wanted w.
        let less : j < length args = omega (arith, slice_get_within (args_of kind) j want wanted, all_needed kind pairs, many) in
        let found = stands args j less in
        subst (λ n. Among (length (arg_terms items exprs n)) l) (sym (zero-add j)) (long_by j want wanted w found.0 found.1)))

    args_fit : AreFit items exprs 0 (args_of kind)
    args_fit = all_fit items exprs 0 (args_of kind) (λ j want wanted. subst (λ n. IsFit items exprs n want) (sym (zero-add j)) (fits_at j want wanted))

-- ---- the item

known_kind : (P : ConstraintKind → Type 0) (o : Option ConstraintKind) → is_none o ≡ false → P (unwrap_or o of.IntLe) → MatchOption o ⊥ P
known_kind P None e h = absurd cc
known_kind P (Some kind) e h = h

abbrev IsFree : Context → List ConstraintWords → ConstraintWords → Type 0
IsFree c kept w = (constraint_item c kept).fault w ≡ None

-- behind fewer constraints than there may be; fitted, and paired
pub record IsAllowed (items : List Item) (kept : List ConstraintWords) (w : ConstraintWords) : Type 0 where
  pub fewer : length kept < 200000
  pub fitted : IsFitted items (constraint_of_words items w)
  pub paired : IsPaired items (constraint_of_words items w)

-- a constraint without fault is so
pub constraint_facts : (c : Context) (items : List Item) → IsRight c items → (kept : List ConstraintWords) (w : ConstraintWords) → IsFree c kept w
    → IsAllowed items kept w
constraint_facts c items right kept w e =
    let many = refuse_if (nat_le max_constraints (length kept)) Limit in
    let unknown = λ (bytes : List ℕ). refuse_if (is_none (constraint_of bytes)) Unsupported in
    let ending = λ (args : List ArgWords). annotated (λ notes. stop Semicolon) in
    let args = λ (bytes : List ℕ). chain (arguments (behind_constraints c kept) (kind_named bytes)) ending in
    let p = chain_parts (tested_mark (is_key key.Constraint) (Plain (Key key.Constraint)) many) (λ _. chain (name unknown) args) (tt, w) e in
    let q = chain_parts (name unknown) args w p.1 in
    let r = chain_parts (arguments (behind_constraints c kept) (kind_named w.0)) ending w.1 q.1 in
    let is_known = not_refused (is_none (constraint_of w.0)) Unsupported (test_passes (unknown w.0) (Plain (Named w.0) ∷ []) q.0) in
    record {
      fewer = below_limit max_constraints (length kept) Limit (test_passes many (Plain (Key key.Constraint) ∷ []) p.0);
      fitted = known_kind (λ kind. AreFit items (map (expr_of items) w.1.0) 0 (args_of kind)) (constraint_of w.0) is_known (args_fit c items right kept (kind_named w.0) w.1.0 r.0);
      paired = known_kind (λ kind. ArePaired items (map (expr_of items) w.1.0) (args_of kind)) (constraint_of w.0) is_known (pairs_fit c items right kept (kind_named w.0) w.1.0 r.0);
    }
