-- What the test of a meaning shows of the literal or name that is meant.
use Rattle.std.proofs.Common.{◌≡◌, ℕ, ◌<◌, Bool, true, false, not, if◌then◌else◌, inl, inr, Option, Some, None, List, ℤ, refl, sym, subst, arith}
use Rattle.std.specs.Prelude.{MatchOption}
use Rattle.std.proofs.lemmas.Int.{ints}
use Rattle.dp_domain.specs.Sets.{IsSmall}
use Rattle.dp_domain.specs.declared.term.Term.TheVariants.{Var, Const}
use Rattle.fz_model.specs.Arrays.{is_in, type_test}
use Rattle.fz_model.specs.Context.{bool_const_test, bool_test, const_test, int_test}
use Rattle.fz_model.specs.Items.{TypeWords}
use Rattle.fz_model.specs.Limits.{beyond_small, no_test, refuse_if}
use Rattle.fz_model.specs.ModelText.{bool_constant, int_constant}
use Rattle.fz_model.specs.Models.{count_variables, named_variable, type_of}
use Rattle.fz_model.specs.declared.fault.Fault.{Fault}
use Rattle.fz_model.specs.declared.fault.Fault.TheVariants.{Kind}
use Rattle.fz_model.specs.declared.meant.Meant.{Meant}
use Rattle.fz_model.specs.declared.meant.Meant.TheVariants.{IntConst, BoolConst, IntVar, BoolVar}
use Rattle.fz_model.specs.declared.model.Basic.{Basic}
use Rattle.fz_model.specs.declared.model.Item.{Item}
use Rattle.fz_model.specs.declared.model.VarType.{VarType}
use Rattle.fz_sat.specs.Args.{number_of, term_of}
use Rattle.fz_sat.specs.Satisfies.{is_of_type}
use Rattle.fz_facts.specs.Declared.{is_boolean}
use Rattle.fz_facts.specs.Facts.{IsBounded, IsElement, IsSmallConst}
use Rattle.fz_facts.proofs.Passes.{small_number}
use Rattle.fz_facts.proofs.Shown.{IsBoolOf, IsIntOf, Stated}
use Rattle.fz_facts.proofs.Typed.{in_type}

module _ (items : List Item) (b : Basic) where
  -- ---- one value

  pub int_stated : (test : ℤ → Option Fault) (m : Meant) → int_test test m ≡ None → Stated items m b → IsIntOf items (int_constant (Some m)) b
  int_stated test (IntConst v) e s = s.0
  int_stated test IntVar e s = (s.0, s.1, s.2, s.3)
  int_stated test m e s = absurd cc

  pub bool_stated : (m : Meant) → bool_test m ≡ None → Stated items m b → IsBoolOf items (bool_constant (Some m)) b
  bool_stated (BoolConst v) e s = s.0
  bool_stated BoolVar e s = (s.0, s.1, s.2, s.3)
  bool_stated m e s = absurd cc

  -- ---- constants

  pub const_stated : (test : ℤ → Option Fault) (m : Meant) → const_test test m ≡ None → Stated items m b → (v : ℤ) × (m ≡ IntConst v) × (test v ≡ None) × (term_of items b ≡ Const v)
  const_stated test (IntConst v) e s = (v, refl, e, s.0)
  const_stated test m e s = absurd cc

  pub bool_const_stated : (m : Meant) → bool_const_test m ≡ None → Stated items m b → (v : Bool) × (m ≡ BoolConst v) × (term_of items b ≡ Const (number_of v))
  bool_const_stated (BoolConst v) e s = (v, refl, s.0)
  bool_const_stated m e s = absurd cc

  -- ---- what defines a variable

  -- it gives bounds; and where it names a variable, that is one of the kind
  pub record IsDefinition (bools : Bool) : Type 0 where
    pub bounded : (kind : VarType) → IsBounded items kind (Some b)
    pub alias : MatchOption (named_variable items (Some b)) (Unit {0}) (λ y. (y < count_variables items) × (is_boolean items y ≡ bools))

  defined_const : (bools : Bool) (v : ℤ) → term_of items b ≡ Const v → named_variable items (Some b) ≡ None → IsSmall v → IsDefinition bools
  defined_const bools v t n small =
      record {
        bounded = λ kind. subst (λ o. MatchOption o (IsSmallConst (term_of items b)) (λ y. Unit {0})) (sym n) (subst IsSmallConst (sym t) small);
        alias = subst (λ o. MatchOption o (Unit {0}) (λ y. (y < count_variables items) × (is_boolean items y ≡ bools))) (sym n) tt;
      }

  defined_variable : (bools : Bool) (x : ℕ) → named_variable items (Some b) ≡ Some x → x < count_variables items → is_boolean items x ≡ bools → IsDefinition bools
  defined_variable bools x n below is =
      record {
        bounded = λ kind. subst (λ o. MatchOption o (IsSmallConst (term_of items b)) (λ y. Unit {0})) (sym n) tt;
        alias = subst (λ o. MatchOption o (Unit {0}) (λ y. (y < count_variables items) × (is_boolean items y ≡ bools))) (sym n) (below, is);
      }

  bool_small : (v : Bool) → IsSmall (number_of v)
  bool_small true = (omega (arith, ints), omega (arith, ints))
  bool_small false = (omega (arith, ints), omega (arith, ints))

  int_defines : (m : Meant) → int_test beyond_small m ≡ None → Stated items m b → IsDefinition false
  int_defines (IntConst v) e s = defined_const false v s.0 s.1 (small_number v e)
  int_defines IntVar e s = defined_variable false s.0 s.4 s.2 s.3
  int_defines m e s = absurd cc

  bool_defines : (m : Meant) → bool_test m ≡ None → Stated items m b → IsDefinition true
  bool_defines (BoolConst v) e s = defined_const true (number_of v) s.0 s.1 (bool_small v)
  bool_defines BoolVar e s = defined_variable true s.0 s.4 s.2 s.3
  bool_defines m e s = absurd cc

  pub defines : (bools : Bool) (m : Meant) → (if bools then bool_test else int_test beyond_small) m ≡ None → Stated items m b → IsDefinition bools
  defines true m e s = bool_defines m e s
  defines false m e s = int_defines m e s

  -- ---- an element of an array of variables

  bool_of_type : (v : Bool) → is_of_type (type_of (inl tt)) (number_of v) ≡ true
  bool_of_type true = refl
  bool_of_type false = refl

  abbrev IsOne : VarType → Type 0
  IsOne kind = IsElement (count_variables items) kind (term_of items b)

  const_element : (kind : VarType) (v : ℤ) → term_of items b ≡ Const v → is_of_type kind v ≡ true → IsOne kind
  const_element kind v t is = subst (IsElement (count_variables items) kind) (sym t) is

  variable_element : (kind : VarType) (x : ℕ) → term_of items b ≡ Var x → x < count_variables items → IsOne kind
  variable_element kind x t below = subst (IsElement (count_variables items) kind) (sym t) below

  bool_element : (m : Meant) → bool_test m ≡ None → Stated items m b → IsOne (type_of (inl tt))
  bool_element (BoolConst v) e s = const_element (type_of (inl tt)) (number_of v) s.0 (bool_of_type v)
  bool_element BoolVar e s = variable_element (type_of (inl tt)) s.0 s.1 s.2
  bool_element m e s = absurd cc

  int_element : (kind : VarType) (test : ℤ → Option Fault) → ((v : ℤ) → test v ≡ None → is_of_type kind v ≡ true) → (m : Meant) → int_test test m ≡ None → Stated items m b → IsOne kind
  int_element kind test is (IntConst v) e s = const_element kind v s.0 (is v e)
  int_element kind test is IntVar e s = variable_element kind s.0 s.1 s.2
  int_element kind test is m e s = absurd cc

  in_set : (c : Bool) → refuse_if (not c) Kind ≡ None → c ≡ true
  in_set true e = refl
  in_set false e = absurd cc

  pub element : (t : TypeWords) (m : Meant) → type_test t m ≡ None → Stated items m b → IsOne (type_of t)
  element (inl bool) m e s = bool_element m e s
  element (inr (inl int)) m e s = int_element (type_of (inr (inl int))) no_test (λ v h. refl) m e s
  element (inr (inr set)) m e s = int_element (type_of (inr (inr set))) (λ v. refuse_if (not (is_in set v)) Kind) (λ v h. in_type set v (in_set (is_in set v) h)) m e s
