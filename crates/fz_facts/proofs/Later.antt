-- What holds behind some items holds behind more.
use Rattle.std.proofs.Common.{◌≡◌, ℕ, ◌<◌, ◌≤◌, Bool, true, false, Option, Some, None, List, [], ◌∷◌, length, ℤ, pos, slice_get, refl, sym, ap, subst, ◌∙◌, option_to_list, lt_of_lt_of_le}
use Rattle.std.specs.Option.{option_map_or}
use Rattle.std.specs.Prelude.{MatchOption}
use Rattle.dp_base.specs.Lists.{Each}
use Rattle.dp_base.proofs.Lists.{Each-weaker}
use Rattle.dp_domain.specs.declared.term.Term.{Term}
use Rattle.dp_domain.specs.declared.term.Term.TheVariants.{Var, Const}
use Rattle.fz_model.specs.Models.{count_variables, named_variable, variable_of_item}
use Rattle.fz_model.specs.declared.meant.Meant.{Meant}
use Rattle.fz_model.specs.declared.meant.Meant.TheVariants.{IntConst, BoolConst, SetConst, IntVar, BoolVar, IntArray, BoolArray}
use Rattle.fz_model.specs.declared.model.Basic.{Basic}
use Rattle.fz_model.specs.declared.model.Basic.TheVariants as basic
use Rattle.fz_model.specs.declared.model.Item.{Item}
use Rattle.fz_model.specs.declared.model.Item.TheVariants as item
use Rattle.fz_model.specs.declared.model.VarType.{VarType}
use Rattle.fz_sat.specs.Args.{elements_of_item, term_of, term_of_item}
use Rattle.fz_facts.specs.Declared.{is_boolean}
use Rattle.fz_facts.specs.Facts.{IsBounding, IsDeclared, IsElement, IsNumbered, IsSmallConst}
use Rattle.fz_facts.proofs.Pairs.{Pairs-weaker_each}
use Rattle.fz_facts.proofs.Shown.{basics_of, IsBoolOf, IsFine, IsIntOf, IsVarTerm, Shows, Stands}

-- the items before keep their places, and the variables before their numbers and kinds
pub record Extends (before after : List Item) : Type 0 where
  pub places : (k : ℕ) → k < length before → slice_get after k ≡ slice_get before k
  pub longer : length before ≤ length after
  pub counts : count_variables before ≤ count_variables after
  pub bools : (x : ℕ) → x < count_variables before → is_boolean after x ≡ is_boolean before x

module _ (before after : List Item) (x : Extends before after) where
  pub stands_later : (b : Basic) → Stands before b → Stands after b
  stands_later (basic.Item place) h = lt_of_lt_of_le h x.longer
  stands_later (basic.Bool v) h = tt
  stands_later (basic.Int v) h = tt

  term_later : (b : Basic) → Stands before b → term_of after b ≡ term_of before b
  term_later (basic.Item place) h = ap (λ o. option_map_or term_of_item o (Const (pos 0))) (x.places place h)
  term_later (basic.Bool v) h = refl
  term_later (basic.Int v) h = refl

  named_later_at : (b : Basic) → Stands before b → named_variable after (Some b) ≡ named_variable before (Some b)
  named_later_at (basic.Item place) h = ap variable_of_item (x.places place h)
  named_later_at (basic.Bool v) h = refl
  named_later_at (basic.Int v) h = refl

  pub named_later : (name : List ℕ) (kind : VarType) (output : Bool) (value : Option Basic) (var : ℕ)
      → Each (Stands before) (basics_of (item.Var name kind output value var)) → named_variable after value ≡ named_variable before value
  named_later name kind output None var h = refl
  named_later name kind output (Some b) var h = named_later_at b h.0

  var_later : (bools : Bool) (t : Term) → IsVarTerm before bools t → IsVarTerm after bools t
  var_later bools t v = (v.0, v.1, lt_of_lt_of_le v.2 x.counts, x.bools v.0 v.2 ∙ v.3)

  int_later : (o : Option ℤ) (b : Basic) → Stands before b → IsIntOf before o b → IsIntOf after o b
  int_later (Some v) b h e = term_later b h ∙ e
  int_later None b h v = subst (IsVarTerm after false) (sym (term_later b h)) (var_later false (term_of before b) v)

  bool_later : (o : Option Bool) (b : Basic) → Stands before b → IsBoolOf before o b → IsBoolOf after o b
  bool_later (Some v) b h e = term_later b h ∙ e
  bool_later None b h v = subst (IsVarTerm after true) (sym (term_later b h)) (var_later true (term_of before b) v)

  shows_later : (m : Meant) (t : Term) (n : Option ℕ) (elements : List Basic) → Each (Stands before) elements → Shows before m t n elements → Shows after m t n elements
  shows_later (IntConst v) t n elements h s = s
  shows_later (BoolConst v) t n elements h s = s
  shows_later SetConst t n elements h s = s
  shows_later IntVar t n elements h s = (s.0, s.1, lt_of_lt_of_le s.2 x.counts, x.bools s.0 s.2 ∙ s.3, s.4)
  shows_later BoolVar t n elements h s = (s.0, s.1, lt_of_lt_of_le s.2 x.counts, x.bools s.0 s.2 ∙ s.3, s.4)
  shows_later (IntArray parameter meant) t n elements h s =
      record { few = s.few; each = Pairs-weaker_each (IsIntOf before) (IsIntOf after) (Stands before) int_later meant elements h s.each }
  shows_later (BoolArray parameter meant) t n elements h s =
      record { few = s.few; each = Pairs-weaker_each (IsBoolOf before) (IsBoolOf after) (Stands before) bool_later meant elements h s.each }

  elements_placed : (i : Item) → Each (Stands before) (basics_of i) → Each (Stands before) (elements_of_item i)
  elements_placed (item.Consts name bools elements) h = h
  elements_placed (item.Vars name kind output elements) h = h
  elements_placed i h = tt

  element_later : (kind : VarType) (t : Term) → IsElement (count_variables before) kind t → IsElement (count_variables after) kind t
  element_later kind (Const v) e = e
  element_later kind (Var y) h = lt_of_lt_of_le h x.counts

  elements_later : (kind : VarType) (elements : List Basic) → Each (Stands before) elements
      → Each (λ b. IsElement (count_variables before) kind (term_of before b)) elements → Each (λ b. IsElement (count_variables after) kind (term_of after b)) elements
  elements_later kind [] h e = tt
  elements_later kind (b ∷ bs) h e =
      (subst (IsElement (count_variables after) kind) (sym (term_later b h.0)) (element_later kind (term_of before b) e.0), elements_later kind bs h.1 e.1)

  bounded_later : (kind : VarType) (value : Option Basic) (o : Option ℕ) → Each (Stands before) (option_to_list value)
      → MatchOption o (MatchOption value (IsBounding kind) (λ b. IsSmallConst (term_of before b))) (λ y. Unit {0})
      → MatchOption o (MatchOption value (IsBounding kind) (λ b. IsSmallConst (term_of after b))) (λ y. Unit {0})
  bounded_later kind value (Some y) h e = tt
  bounded_later kind None None h e = e
  bounded_later kind (Some b) None h e = subst IsSmallConst (sym (term_later b h.0)) e

  defined : (name : List ℕ) (kind : VarType) (output : Bool) (value : Option Basic) (var : ℕ)
      → Each (Stands before) (basics_of (item.Var name kind output value var)) → Each (Stands before) (option_to_list value)
  defined name kind output None var h = tt
  defined name kind output (Some b) var h = h

  pub declared_later : (i : Item) → Each (Stands before) (basics_of i) → IsDeclared before i → IsDeclared after i
  declared_later (item.Var name kind output value var) h d = (
    d.0,
    subst (λ o. MatchOption o (MatchOption value (IsBounding kind) (λ b. IsSmallConst (term_of after b))) (λ y. Unit {0}))
        (sym (named_later name kind output value var h)) (bounded_later kind value (named_variable before value) (defined name kind output value var h) d.1),
  )
  declared_later (item.Vars name kind output elements) h d = (d.0, elements_later kind elements h d.1)
  declared_later i h d = tt

  pub fine_later : (e : List ℕ × Meant) (i : Item) → IsFine before e i → IsFine after e i
  fine_later e i f =
      record {
        name = f.name;
        spelled = f.spelled;
        placed = Each-weaker (Stands before) (Stands after) stands_later (basics_of i) f.placed;
        means = shows_later e.1 (term_of_item i) (variable_of_item (Some i)) (elements_of_item i) (elements_placed i f.placed) f.means;
        declared = declared_later i f.placed f.declared;
      }

  pub numbered_later : (n : ℕ) (i : Item) → Each (Stands before) (basics_of i) → IsNumbered before n i → IsNumbered after n i
  numbered_later n (item.Var name kind output value var) h d =
      subst (λ o. MatchOption o (var ≡ n) (λ y. (var ≡ y) × (y < n))) (sym (named_later name kind output value var h)) d
  numbered_later n i h d = tt
