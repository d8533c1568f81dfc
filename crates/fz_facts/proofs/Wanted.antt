-- What is named where an argument or an element is wanted fits.
use Rattle.std.proofs.Common.{◌≡◌, Bool, true, false, Option, Some, None, List, [], ◌∷◌, ◌≤◌, length, ℤ, is_none, sym, ap, subst, ◌∙◌}
use Rattle.std.specs.List.{list_any}
use Rattle.std.proofs.lemmas.List.{length-map}
use Rattle.dp_base.specs.Lists.{Each}
use Rattle.dp_domain.specs.declared.term.Term.{Term}
use Rattle.dp_domain.specs.declared.term.Term.TheVariants.{Const}
use Rattle.fz_model.specs.Constraints.{amount_test, bool_consts_test, bools_test, constants_test, element_test, ints_test, meant_length, wanted_test, wants_array, wants_set}
use Rattle.fz_model.specs.Context.{bool_const_test, bool_test, const_test, int_test}
use Rattle.fz_model.specs.Limits.{amount_limit, beyond_small, no_test}
use Rattle.fz_model.specs.ModelText.{bool_constant, int_constant}
use Rattle.fz_model.specs.declared.fault.Fault.{Fault}
use Rattle.fz_model.specs.declared.fault.Fault.TheVariants.{Kind, Unsupported}
use Rattle.fz_model.specs.declared.kinds.ArgKind.{ArgKind}
use Rattle.fz_model.specs.declared.kinds.ArgKind.TheVariants as arg
use Rattle.fz_model.specs.declared.meant.Meant.{Meant}
use Rattle.fz_model.specs.declared.meant.Meant.TheVariants.{IntConst, IntArray, BoolArray}
use Rattle.fz_model.specs.declared.model.Basic.{Basic}
use Rattle.fz_model.specs.declared.model.Item.{Item}
use Rattle.fz_sat.specs.Args.{elements_of_basic, term_of, terms_of}
use Rattle.fz_facts.specs.Facts.{AreFew, IsAmountConst, IsBoolTerm, IsConst, IsIntTerm, IsSmallConst}
use Rattle.fz_facts.proofs.Fits.{Fits, bool_term, const_terms, few_terms, int_term, meant_terms}
use Rattle.fz_facts.proofs.Pairs.{Pairs, Pairs-length}
use Rattle.fz_facts.proofs.Passes.{amount_number, not_refused, small_number}
use Rattle.fz_facts.proofs.Shown.{AreMeant, IsBoolOf, IsIntOf, Stated}
use Rattle.fz_facts.proofs.Tested.{bool_const_stated, bool_stated, const_stated, int_stated}

each_mapped : (items : List Item) (P : Term → Type 0) (elements : List Basic) → Each (λ b. P (term_of items b)) elements → Each P (terms_of items elements)
each_mapped items P [] h = tt
each_mapped items P (b ∷ bs) h = (h.0, each_mapped items P bs h.1)

any_const : (v : ℤ) → no_test v ≡ None → IsConst (Const v)
any_const v e = tt

module _ (items : List Item) where
  -- ---- one value

  int_fits : (test : ℤ → Option Fault) (m : Meant) (b : Basic) → int_test test m ≡ None → Stated items m b → IsIntTerm items (term_of items b)
  int_fits test m b e s = int_term items (int_constant (Some m)) b (int_stated items b test m e s)

  bool_fits : (m : Meant) (b : Basic) → bool_test m ≡ None → Stated items m b → IsBoolTerm items (term_of items b)
  bool_fits m b e s = bool_term items (bool_constant (Some m)) b (bool_stated items b m e s)

  const_fits : (test : ℤ → Option Fault) (P : Term → Type 0) → ((v : ℤ) → test v ≡ None → P (Const v)) → (m : Meant) (b : Basic) → const_test test m ≡ None → Stated items m b → P (term_of items b)
  const_fits test P h m b e s =
      let k = const_stated items b test m e s in
      subst P (sym k.3) (h k.0 k.2)

  bool_const_fits : (m : Meant) (b : Basic) → bool_const_test m ≡ None → Stated items m b → IsConst (term_of items b)
  bool_const_fits m b e s =
      let k = bool_const_stated items b m e s in
      subst IsConst (sym k.2) tt

  amount_fits : (m : Meant) (b : Basic) → amount_test m ≡ None → Stated items m b → IsAmountConst (term_of items b)
  amount_fits (IntConst v) b e s = subst IsAmountConst (sym s.0) (amount_number v e)
  amount_fits m b e s = absurd cc

  -- ---- arrays that are named

  ints_fit : (m : Meant) (b : Basic) → ints_test m ≡ None → Stated items m b → AreFew (IsIntTerm items) (terms_of items (elements_of_basic items b))
  ints_fit (IntArray parameter meant) b e s = meant_terms items (IsIntOf items) (IsIntTerm items) (int_term items) meant (elements_of_basic items b) s
  ints_fit m b e s = absurd cc

  bools_fit : (m : Meant) (b : Basic) → bools_test m ≡ None → Stated items m b → AreFew (IsBoolTerm items) (terms_of items (elements_of_basic items b))
  bools_fit (BoolArray parameter meant) b e s = meant_terms items (IsBoolOf items) (IsBoolTerm items) (bool_term items) meant (elements_of_basic items b) s
  bools_fit m b e s = absurd cc

  bool_constants : (meant : List (Option Bool)) (elements : List Basic) → list_any is_none meant ≡ false → Pairs (IsBoolOf items) meant elements → Each IsConst (terms_of items elements)
  bool_constants [] [] n p = tt
  bool_constants [] (b ∷ bs) n p = absurd p
  bool_constants (o ∷ os) [] n p = absurd p
  bool_constants (None ∷ os) (b ∷ bs) n p = absurd cc
  bool_constants (Some v ∷ os) (b ∷ bs) n p = (subst IsConst (sym p.0) tt, bool_constants os bs n p.1)

  bool_consts_fit : (m : Meant) (b : Basic) → bool_consts_test m ≡ None → Stated items m b → AreFew IsConst (terms_of items (elements_of_basic items b))
  bool_consts_fit (BoolArray parameter meant) b e s =
      few_terms items IsConst (elements_of_basic items b) s.few (bool_constants meant (elements_of_basic items b) (not_refused (list_any is_none meant) Kind e) s.each)
  bool_consts_fit m b e s = absurd cc

  -- a literal or a name where this is wanted
  pub wanted_fits : (kind : ArgKind) (m : Meant) (b : Basic) → wanted_test kind m ≡ None → Stated items m b → Fits items kind (term_of items b) (terms_of items (elements_of_basic items b))
  wanted_fits arg.Int m b e s = int_fits no_test m b e s
  wanted_fits arg.Bool m b e s = bool_fits m b e s
  wanted_fits arg.Ints m b e s = ints_fit m b e s
  wanted_fits arg.Bools m b e s = bools_fit m b e s
  wanted_fits arg.Consts m b e s = const_terms items Kind no_test IsConst any_const m b e s
  wanted_fits arg.BoolConsts m b e s = bool_consts_fit m b e s
  wanted_fits arg.Coefficients m b e s = const_terms items Kind beyond_small IsSmallConst small_number m b e s
  wanted_fits arg.Set m b e s = tt
  wanted_fits arg.Const m b e s = const_fits no_test IsConst any_const m b e s
  wanted_fits arg.Amounts m b e s = const_terms items Unsupported amount_limit IsAmountConst amount_number m b e s
  wanted_fits arg.Amount m b e s = amount_fits m b e s

  -- ---- arrays that are written out

  pub elements_fit : (kind : ArgKind) → wants_array (Some kind) ≡ true → (t : Term) (elements : List Basic) → length elements ≤ 2000000
      → ((P : Basic → Type 0) → ((m : Meant) (b : Basic) → element_test (Some kind) m ≡ None → Stated items m b → P b) → Each P elements) → Fits items kind t (terms_of items elements)
  elements_fit arg.Ints w t elements few each = few_terms items (IsIntTerm items) elements few (each_mapped items (IsIntTerm items) elements (each (λ b. IsIntTerm items (term_of items b)) (int_fits no_test)))
  elements_fit arg.Bools w t elements few each = few_terms items (IsBoolTerm items) elements few (each_mapped items (IsBoolTerm items) elements (each (λ b. IsBoolTerm items (term_of items b)) bool_fits))
  elements_fit arg.Consts w t elements few each = few_terms items IsConst elements few (each_mapped items IsConst elements (each (λ b. IsConst (term_of items b)) (const_fits no_test IsConst any_const)))
  elements_fit arg.BoolConsts w t elements few each = few_terms items IsConst elements few (each_mapped items IsConst elements (each (λ b. IsConst (term_of items b)) bool_const_fits))
  elements_fit arg.Coefficients w t elements few each =
      few_terms items IsSmallConst elements few (each_mapped items IsSmallConst elements (each (λ b. IsSmallConst (term_of items b)) (const_fits beyond_small IsSmallConst small_number)))
  elements_fit arg.Amounts w t elements few each = few_terms items IsAmountConst elements few (each_mapped items IsAmountConst elements (each (λ b. IsAmountConst (term_of items b)) amount_fits))
  elements_fit kind w t elements few each = absurd cc

  -- ---- sets

  pub set_fits : (kind : ArgKind) → wants_set (Some kind) ≡ true → (t : Term) (ts : List Term) → Fits items kind t ts
  set_fits arg.Set w t ts = tt
  set_fits kind w t ts = absurd cc

  -- ---- lengths

  meant_few : {A : Type 0} (R : A → Basic → Type 0) (meant : List A) (b : Basic) → AreMeant R meant (elements_of_basic items b) → length meant ≡ length (terms_of items (elements_of_basic items b))
  meant_few R meant b a =
      Pairs-length R meant (elements_of_basic items b) a.each ∙ sym (length-map (elements_of_basic items b) (term_of items))

  abbrev Long : Meant → Basic → Type 0
  Long m b = meant_length (Some m) ≡ Some (length (terms_of items (elements_of_basic items b)))

  ints_long : (variable : Fault) (test : ℤ → Option Fault) (m : Meant) (b : Basic) → constants_test variable test m ≡ None → Stated items m b → Long m b
  ints_long variable test (IntArray parameter meant) b e s = ap (λ n. Some n) (meant_few (IsIntOf items) meant b s)
  ints_long variable test m b e s = absurd cc

  -- an array that is named has a length
  pub wanted_long : (kind : ArgKind) (m : Meant) (b : Basic) → wants_array (Some kind) ≡ true → wanted_test kind m ≡ None → Stated items m b → Long m b
  wanted_long arg.Ints (IntArray parameter meant) b w e s = ap (λ n. Some n) (meant_few (IsIntOf items) meant b s)
  wanted_long arg.Ints m b w e s = absurd cc
  wanted_long arg.Bools (BoolArray parameter meant) b w e s = ap (λ n. Some n) (meant_few (IsBoolOf items) meant b s)
  wanted_long arg.Bools m b w e s = absurd cc
  wanted_long arg.BoolConsts (BoolArray parameter meant) b w e s = ap (λ n. Some n) (meant_few (IsBoolOf items) meant b s)
  wanted_long arg.BoolConsts m b w e s = absurd cc
  wanted_long arg.Consts m b w e s = ints_long Kind no_test m b e s
  wanted_long arg.Coefficients m b w e s = ints_long Kind beyond_small m b e s
  wanted_long arg.Amounts m b w e s = ints_long Unsupported amount_limit m b e s
  wanted_long kind m b w e s = absurd cc
