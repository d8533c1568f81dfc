-- A literal or a name whose meaning passes the test of an argument fits it.
use Rattle.std.proofs.Common.{◌≡◌, ℕ, ◌≤◌, Bool, true, false, inl, inr, Option, Some, None, is_none, not, List, [], ◌∷◌, length, ℤ, pos, refl, sym, subst, arith}
use Rattle.std.specs.List.{list_any}
use Rattle.std.proofs.lemmas.Bool.{or_parts}
use Rattle.std.proofs.lemmas.Int.{ints}
use Rattle.std.proofs.lemmas.List.{length-map}
use Rattle.dp_base.specs.Lists.{Each}
use Rattle.dp_domain.specs.declared.term.Term.{Term}
use Rattle.dp_domain.specs.declared.term.Term.TheVariants.{Const}
use Rattle.fz_model.specs.Constraints.{constants_test}
use Rattle.fz_model.specs.Limits.{each_test, is_refused, refuse_if}
use Rattle.fz_model.specs.declared.fault.Fault.{Fault}
use Rattle.fz_model.specs.declared.fault.Fault.TheVariants.{Limit}
use Rattle.fz_model.specs.declared.kinds.ArgKind.{ArgKind}
use Rattle.fz_model.specs.declared.kinds.ArgKind.TheVariants as arg
use Rattle.fz_model.specs.declared.meant.Meant.{Meant}
use Rattle.fz_model.specs.declared.meant.Meant.TheVariants.{IntArray}
use Rattle.fz_model.specs.declared.model.Basic.{Basic}
use Rattle.fz_model.specs.declared.model.Expr.{Expr}
use Rattle.fz_model.specs.declared.model.Item.{Item}
use Rattle.fz_sat.specs.Args.{arg_term, arg_terms, elements_of_basic, number_of, term_of, terms_of}
use Rattle.fz_facts.specs.Facts.{AreFew, IsAmountConst, IsBoolTerm, IsConst, IsFit, IsIntTerm, IsSmallConst}
use Rattle.fz_facts.proofs.Pairs.{Pairs}
use Rattle.fz_facts.proofs.Passes.{neither, not_refused}
use Rattle.fz_facts.proofs.Shown.{AreMeant, IsBoolOf, IsIntOf, Stated}

-- the term or the terms are what is wanted
abbrev pub Fits : List Item → ArgKind → Term → List Term → Type 0
Fits items arg.Int t ts = IsIntTerm items t
Fits items arg.Bool t ts = IsBoolTerm items t
Fits items arg.Ints t ts = AreFew (IsIntTerm items) ts
Fits items arg.Bools t ts = AreFew (IsBoolTerm items) ts
Fits items arg.Consts t ts = AreFew IsConst ts
Fits items arg.BoolConsts t ts = AreFew IsConst ts
Fits items arg.Coefficients t ts = AreFew IsSmallConst ts
Fits items arg.Set t ts = Unit {0}
Fits items arg.Const t ts = IsConst t
Fits items arg.Amounts t ts = AreFew IsAmountConst ts
Fits items arg.Amount t ts = IsAmountConst t

pub fit_from : (items : List Item) (args : List Expr) (k : ℕ) (kind : ArgKind) → Fits items kind (arg_term items args k) (arg_terms items args k) → IsFit items args k kind
fit_from items args k arg.Int f = f
fit_from items args k arg.Bool f = f
fit_from items args k arg.Ints f = f
fit_from items args k arg.Bools f = f
fit_from items args k arg.Consts f = f
fit_from items args k arg.BoolConsts f = f
fit_from items args k arg.Coefficients f = f
fit_from items args k arg.Set f = f
fit_from items args k arg.Const f = f
fit_from items args k arg.Amounts f = f
fit_from items args k arg.Amount f = f

no_terms : (P : Term → Type 0) → AreFew P []
no_terms P = record { few = omega arith; each = tt }

-- an argument that is left out reads as 0 or as no elements
pub fits_nothing : (items : List Item) (kind : ArgKind) → Fits items kind (Const (pos 0)) []
fits_nothing items arg.Int = tt
fits_nothing items arg.Bool = inl refl
fits_nothing items arg.Ints = no_terms (IsIntTerm items)
fits_nothing items arg.Bools = no_terms (IsBoolTerm items)
fits_nothing items arg.Consts = no_terms IsConst
fits_nothing items arg.BoolConsts = no_terms IsConst
fits_nothing items arg.Coefficients = no_terms IsSmallConst
fits_nothing items arg.Set = tt
fits_nothing items arg.Const = tt
fits_nothing items arg.Amounts = no_terms IsAmountConst
fits_nothing items arg.Amount = (omega (arith, ints), omega (arith, ints))

-- ---- terms

module _ (items : List Item) where
  pub int_term : (o : Option ℤ) (b : Basic) → IsIntOf items o b → IsIntTerm items (term_of items b)
  int_term (Some v) b e = subst (IsIntTerm items) (sym e) tt
  int_term None b v = subst (IsIntTerm items) (sym v.1) (v.2, v.3)

  bool_number : (v : Bool) → IsBoolTerm items (Const (number_of v))
  bool_number true = inr refl
  bool_number false = inl refl

  pub bool_term : (o : Option Bool) (b : Basic) → IsBoolOf items o b → IsBoolTerm items (term_of items b)
  bool_term (Some v) b e = subst (IsBoolTerm items) (sym e) (bool_number v)
  bool_term None b v = subst (IsBoolTerm items) (sym v.1) (v.2, v.3)

  each_term : {A : Type 0} (R : A → Basic → Type 0) (P : Term → Type 0) → ((x : A) (b : Basic) → R x b → P (term_of items b))
      → (meant : List A) (elements : List Basic) → Pairs R meant elements → Each P (terms_of items elements)
  each_term R P h [] [] p = tt
  each_term R P h [] (b ∷ bs) p = absurd p
  each_term R P h (x ∷ xs) [] p = absurd p
  each_term R P h (x ∷ xs) (b ∷ bs) p = (h x b p.0, each_term R P h xs bs p.1)

  pub few_terms : (P : Term → Type 0) (elements : List Basic) → length elements ≤ 2000000 → Each P (terms_of items elements) → AreFew P (terms_of items elements)
  few_terms P elements few h =
      let same : length (terms_of items elements) ≡ length elements = length-map elements (term_of items) in
      record { few = omega (arith, few, same); each = h }

  pub meant_terms : {A : Type 0} (R : A → Basic → Type 0) (P : Term → Type 0) → ((x : A) (b : Basic) → R x b → P (term_of items b))
      → (meant : List A) (elements : List Basic) → AreMeant R meant elements → AreFew P (terms_of items elements)
  meant_terms R P h meant elements a = few_terms P elements a.few (each_term R P h meant elements a.each)

  -- ---- constants

  passes : (o : Option Fault) → not (is_none o) ≡ false → o ≡ None
  passes None e = refl
  passes (Some fault) e = absurd cc

  passed_consts : (test : ℤ → Option Fault) (P : Term → Type 0) → ((v : ℤ) → test v ≡ None → P (Const v)) → (meant : List (Option ℤ)) (elements : List Basic)
      → list_any is_none meant ≡ false → list_any (is_refused test) meant ≡ false → Pairs (IsIntOf items) meant elements → Each P (terms_of items elements)
  passed_consts test P h [] [] n r p = tt
  passed_consts test P h [] (b ∷ bs) n r p = absurd p
  passed_consts test P h (o ∷ os) [] n r p = absurd p
  passed_consts test P h (None ∷ os) (b ∷ bs) n r p = absurd cc
  passed_consts test P h (Some v ∷ os) (b ∷ bs) n r p =
      let q = or_parts (not (is_none (test v))) (list_any (is_refused test) os) r in
      (subst P (sym p.0) (h v (passes (test v) q.0)), passed_consts test P h os bs n q.1 p.1)

  pub const_terms : (variable : Fault) (test : ℤ → Option Fault) (P : Term → Type 0) → ((v : ℤ) → test v ≡ None → P (Const v)) → (m : Meant) (b : Basic)
      → constants_test variable test m ≡ None → Stated items m b → AreFew P (terms_of items (elements_of_basic items b))
  const_terms variable test P h (IntArray parameter meant) b e s =
      let p = neither (refuse_if (list_any is_none meant) variable) (each_test test meant) e in
      few_terms P (elements_of_basic items b) s.few
      (passed_consts test P h meant (elements_of_basic items b) (not_refused _ variable p.0) (not_refused _ Limit p.1) s.each)
  const_terms variable test P h m b e s = absurd cc
