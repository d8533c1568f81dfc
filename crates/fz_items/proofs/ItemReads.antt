-- Items of constants are read as the code reads them.
use Rattle.std.proofs.Common.{◌≡◌, ℕ, Bool, true, false, ◌⊎◌, inl, inr, List, length, refl, ap, ◌∙◌}
use Rattle.fz_token.specs.declared.Keyword.TheVariants as key
use Rattle.dp_grammar.specs.Chain.{behind_mark, before_mark, chain, followed, mapped}
use Rattle.dp_grammar.specs.Choice.{begins, either, read_either}
use Rattle.dp_grammar.specs.Grammar.{IsLawful, Reading, Takes, Stops}
use Rattle.fz_model.specs.Annotations.{Annotated, annotated}
use Rattle.fz_model.specs.Arrays.{array_item}
use Rattle.fz_model.specs.Context.{Context, fresh, one_more}
use Rattle.fz_model.specs.Items.{IntText, SetWords, bool_item, defined, int_item, parameter, set_item, truth, variable_item}
use Rattle.fz_model.specs.Limits.{no_test}
use Rattle.fz_model.specs.Literals.{integer, name, set_literal}
use Rattle.fz_model.specs.Marks.{Production, is_key, keyword, stop}
use Rattle.fz_model.specs.ModelText.{ArrayWords, VariableWords, closing, item, predicate_item}
use Rattle.fz_model.specs.Words.{Colon, Equals, Semicolon, Word}
use Rattle.fz_model.specs.declared.fault.Fault.{Fault}
use Rattle.fz_model.proofs.AnnotationLaws.{IsClose}
use Rattle.fz_model.proofs.ItemLaws.{defined_lawful, truth_lawful}
use Rattle.fz_model.proofs.LiteralLaws.{integer_lawful, set_literal_lawful}
use Rattle.fz_items.specs.Notes.{Seen, notes}
use Rattle.fz_items.specs.Parameters.{parameter_read, set_read}
use Rattle.fz_items.specs.States.{State, bool_effect, effect, int_effect, set_effect}
use Rattle.fz_items.proofs.Closings.{closed_reads}

-- ---- behind a mark

unmarked : {X : Type 0} (u : Unit {0}) (r : Reading Word Fault X) → mapped (λ p. p.1) (mapped (λ y. let p : Unit {0} × X = (u, y) in p) r) ≡ r
unmarked u (Takes x rest) = refl
unmarked u (Stops cause rest) = refl

marked : {X : Type 0} (g : Production X) (r : Reading Word Fault (Unit {0})) → mapped (λ p. p.1) (followed r (λ x rest. mapped (λ y. let p : Unit {0} × X = (x, y) in p) (g.read rest))) ≡ followed r (λ u left. g.read left)
marked g (Takes u left) = unmarked u (g.read left)
marked g (Stops cause rest) = refl

marked_reads : {X : Type 0} (m : Production (Unit {0})) (g : Production X) (left : List Word) → (behind_mark m g).read left ≡ followed (m.read left) (λ u left. g.read left)
marked_reads m g left = marked g (m.read left)

-- ---- parameters

abbrev pub named_closing : {C : Type 0} → List ℕ × Annotated C → List ℕ × C
named_closing p = (p.0, closing p.1)

abbrev named : {C : Type 0} → List ℕ → C → List ℕ × C
named bytes c = (bytes, c)

abbrev value_at : {C : Type 0} → Production C → List ℕ → List Word → Reading Word Fault (List ℕ × C)
value_at g bytes left = mapped (named bytes) ((before_mark g (stop Semicolon)).read left)

pair_closing : {C : Type 0} (bytes : List ℕ) (r : Reading Word Fault (Annotated C)) → mapped named_closing (mapped (λ y. let p : List ℕ × Annotated C = (bytes, y) in p) r) ≡ mapped (named bytes) (mapped closing r)
pair_closing bytes (Takes c rest) = refl
pair_closing bytes (Stops cause rest) = refl

at_equals : {C : Type 0} (g : Production C) (bytes : List ℕ) (r : Reading Word Fault (Unit {0}))
    → mapped (named bytes) (followed r (λ u left. (before_mark g (stop Semicolon)).read left)) ≡ followed (mapped (λ u. bytes) r) (value_at g)
at_equals g bytes (Takes u left) = refl
at_equals g bytes (Stops cause rest) = refl

at_notes : {C : Type 0} (g : Production C) (bytes : List ℕ) (r : Reading Word Fault Seen)
    → mapped (named bytes) (followed r (λ seen left. (defined g).read left)) ≡ followed (followed r (λ seen left. mapped (λ u. bytes) ((stop Equals).read left))) (value_at g)
at_notes g bytes (Takes seen left) = ap (mapped (named bytes)) (marked_reads (stop Equals) (before_mark g (stop Semicolon)) left) ∙ at_equals g bytes ((stop Equals).read left)
at_notes g bytes (Stops cause rest) = refl

at_name : {C : Type 0} (g : Production C) → IsClose (λ notes. defined g) → (r : Reading Word Fault (List ℕ))
    → mapped named_closing (followed r (λ bytes left. mapped (λ y. let p : List ℕ × Annotated C = (bytes, y) in p) ((annotated (λ notes. defined g)).read left)))
    ≡ followed (followed r (λ bytes left. followed (notes left) (λ seen left. mapped (λ u. bytes) ((stop Equals).read left)))) (value_at g)
at_name g is (Takes bytes left) =
    pair_closing bytes ((annotated (λ notes. defined g)).read left) ∙ ap (mapped (named bytes)) (closed_reads (defined g) is left) ∙ at_notes g bytes (notes left)
at_name g is (Stops cause rest) = refl

at_colon : {C : Type 0} (context : Context) (g : Production C) → IsClose (λ notes. defined g) → (r : Reading Word Fault (Unit {0}))
    → mapped named_closing (followed r (λ u left. (chain (name (fresh context)) (λ bytes. annotated (λ notes. defined g))).read left))
    ≡ followed (followed r (λ u left. followed ((name (fresh context)).read left) (λ bytes left. followed (notes left) (λ seen left. mapped (λ u. bytes) ((stop Equals).read left))))) (value_at g)
at_colon context g is (Takes u left) = at_name g is ((name (fresh context)).read left)
at_colon context g is (Stops cause rest) = refl

pub parameter_reads : {C : Type 0} (context : Context) (g : Production C) → IsClose (λ notes. defined g) → (left : List Word) → mapped named_closing ((parameter context g).read left) ≡ parameter_read context g left
parameter_reads context g is left =
    ap (mapped named_closing) (marked_reads (stop Colon) (chain (name (fresh context)) (λ bytes. annotated (λ notes. defined g))) left)
    ∙ at_colon context g is ((stop Colon).read left)

-- ---- behind keywords

behind_followed : {X Y : Type 0} (g : Production X) (view : X → Y) (target : List Word → Reading Word Fault Y) → ((left : List Word) → mapped view (g.read left) ≡ target left)
    → (r : Reading Word Fault (Unit {0})) → mapped view (followed r (λ u left. g.read left)) ≡ followed r (λ u left. target left)
behind_followed g view target e (Takes u left) = e left
behind_followed g view target e (Stops cause rest) = refl

-- what is read behind a mark, seen otherwise
pub behind_reads : {X Y : Type 0} (m : Production (Unit {0})) (g : Production X) (view : X → Y) (target : List Word → Reading Word Fault Y) → ((left : List Word) → mapped view (g.read left) ≡ target left)
    → (left : List Word) → mapped view ((behind_mark m g).read left) ≡ followed (m.read left) (λ u left. target left)
behind_reads m g view target e left = ap (mapped view) (marked_reads m g left) ∙ behind_followed g view target e (m.read left)

pub defined_closes : {C : Type 0} (g : Production C) → IsLawful g → IsClose (λ notes. defined g)
defined_closes g is = record { lawful = λ notes. defined_lawful g is; no_more = λ notes c. refl; no_args = λ notes c. refl }

int_reads : (context : Context) (left : List Word) → mapped named_closing ((int_item context).read left) ≡ followed ((keyword key.Int).read left) (λ u left. parameter_read context (integer no_test) left)
int_reads context left =
    behind_reads (keyword key.Int) (parameter context (integer no_test)) named_closing (parameter_read context (integer no_test))
    (parameter_reads context (integer no_test) (defined_closes (integer no_test) (integer_lawful no_test))) left

bool_reads : (context : Context) (left : List Word) → mapped named_closing ((bool_item context).read left) ≡ followed ((keyword key.Bool).read left) (λ u left. parameter_read context truth left)
bool_reads context left =
    behind_reads (keyword key.Bool) (parameter context truth) named_closing (parameter_read context truth) (parameter_reads context truth (defined_closes truth truth_lawful)) left

set_reads : (context : Context) (left : List Word) → mapped named_closing ((set_item context).read left) ≡ set_read context left
set_reads context left =
    let set : Production SetWords = set_literal (λ kept value. one_more context (length kept)) no_test in
    let int = behind_mark (keyword key.Int) (parameter context set) in
    behind_reads (keyword key.Set) (behind_mark (keyword key.Of) int) named_closing (λ left. followed ((keyword key.Of).read left) (λ u left. followed ((keyword key.Int).read left) (λ u left. parameter_read context set left)))
    (behind_reads (keyword key.Of) int named_closing (λ left. followed ((keyword key.Int).read left) (λ u left. parameter_read context set left))
    (behind_reads (keyword key.Int) (parameter context set) named_closing (parameter_read context set)
    (parameter_reads context set (defined_closes set (set_literal_lawful (λ kept value. one_more context (length kept)) no_test))))) left

-- ---- which item it is

abbrev pub from_array : Context → Production (ArrayWords ⊎ VariableWords)
from_array context = either (is_key key.Array) (array_item context) (variable_item context)

abbrev pub from_set : Context → Production ((List ℕ × Annotated SetWords) ⊎ (ArrayWords ⊎ VariableWords))
from_set context = either (is_key key.Set) (set_item context) (from_array context)

abbrev pub from_bool : Context → Production ((List ℕ × Annotated Bool) ⊎ ((List ℕ × Annotated SetWords) ⊎ (ArrayWords ⊎ VariableWords)))
from_bool context = either (is_key key.Bool) (bool_item context) (from_set context)

abbrev pub from_int : Context → Production ((List ℕ × Annotated IntText) ⊎ ((List ℕ × Annotated Bool) ⊎ ((List ℕ × Annotated SetWords) ⊎ (ArrayWords ⊎ VariableWords))))
from_int context = either (is_key key.Int) (int_item context) (from_bool context)

pub first_is : {X Y : Type 0} (test : Word → Bool) (g : Production X) (h : Production Y) (left : List Word) → begins test left ≡ true → (either test g h).read left ≡ mapped inl (g.read left)
first_is test g h left b = ap (λ (b : Bool). read_either b g h left) b

pub second_is : {X Y : Type 0} (test : Word → Bool) (g : Production X) (h : Production Y) (left : List Word) → begins test left ≡ false → (either test g h).read left ≡ mapped inr (h.read left)
second_is test g h left b = ap (λ (b : Bool). read_either b g h left) b

int_seen : (s : State) (r : Reading Word Fault (List ℕ × Annotated IntText)) → mapped (effect s) (mapped inr (mapped inl r)) ≡ mapped (int_effect s) (mapped named_closing r)
int_seen s (Takes p rest) = refl
int_seen s (Stops cause rest) = refl

bool_seen : (s : State) (r : Reading Word Fault (List ℕ × Annotated Bool)) → mapped (effect s) (mapped inr (mapped inr (mapped inl r))) ≡ mapped (bool_effect s) (mapped named_closing r)
bool_seen s (Takes p rest) = refl
bool_seen s (Stops cause rest) = refl

set_seen : (s : State) (r : Reading Word Fault (List ℕ × Annotated SetWords)) → mapped (effect s) (mapped inr (mapped inr (mapped inr (mapped inl r)))) ≡ mapped (set_effect s) (mapped named_closing r)
set_seen s (Takes p rest) = refl
set_seen s (Stops cause rest) = refl

pub int_item_reads : (s : State) (left : List Word) → begins (is_key key.Predicate) left ≡ false → begins (is_key key.Int) left ≡ true
    → mapped (effect s) ((item s.context).read left) ≡ mapped (int_effect s) (followed ((keyword key.Int).read left) (λ u left. parameter_read s.context (integer no_test) left))
int_item_reads s left p i =
    ap (mapped (effect s)) (second_is (is_key key.Predicate) predicate_item (from_int s.context) left p ∙ ap (mapped inr) (first_is (is_key key.Int) (int_item s.context) (from_bool s.context) left i))
    ∙ int_seen s ((int_item s.context).read left) ∙ ap (mapped (int_effect s)) (int_reads s.context left)

pub bool_item_reads : (s : State) (left : List Word) → begins (is_key key.Predicate) left ≡ false → begins (is_key key.Int) left ≡ false → begins (is_key key.Bool) left ≡ true
    → mapped (effect s) ((item s.context).read left) ≡ mapped (bool_effect s) (followed ((keyword key.Bool).read left) (λ u left. parameter_read s.context truth left))
bool_item_reads s left p i b =
    ap (mapped (effect s)) (second_is (is_key key.Predicate) predicate_item (from_int s.context) left p
    ∙ ap (mapped inr) (second_is (is_key key.Int) (int_item s.context) (from_bool s.context) left i ∙ ap (mapped inr) (first_is (is_key key.Bool) (bool_item s.context) (from_set s.context) left b)))
    ∙ bool_seen s ((bool_item s.context).read left) ∙ ap (mapped (bool_effect s)) (bool_reads s.context left)

pub set_item_reads : (s : State) (left : List Word) → begins (is_key key.Predicate) left ≡ false → begins (is_key key.Int) left ≡ false → begins (is_key key.Bool) left ≡ false → begins (is_key key.Set) left ≡ true
    → mapped (effect s) ((item s.context).read left) ≡ mapped (set_effect s) (set_read s.context left)
set_item_reads s left p i b t =
    ap (mapped (effect s)) (second_is (is_key key.Predicate) predicate_item (from_int s.context) left p
    ∙ ap (mapped inr) (second_is (is_key key.Int) (int_item s.context) (from_bool s.context) left i
    ∙ ap (mapped inr) (second_is (is_key key.Bool) (bool_item s.context) (from_set s.context) left b ∙ ap (mapped inr) (first_is (is_key key.Set) (set_item s.context) (from_array s.context) left t))))
    ∙ set_seen s ((set_item s.context).read left) ∙ ap (mapped (set_effect s)) (set_reads s.context left)
