-- The elements of an array literal, each of which passes a test of its meaning.
use Rattle.std.proofs.Common.{◌≡◌, ℕ, ◌+◌, ◌<◌, ◌≤◌, Option, Some, None, List, [], ◌∷◌, ◌++◌, length, map, refl, sym, subst, arith}
use Rattle.std.proofs.lemmas.List.{length-map}
use Rattle.dp_base.specs.Lists.{Each}
use Rattle.fz_model.specs.Context.{BasicText, Truth, Whole, Name, Context, known, meaning, one_more}
use Rattle.fz_model.specs.Items.{basic, basic_word}
use Rattle.fz_model.specs.Limits.{or_else}
use Rattle.fz_model.specs.Models.{basic_of_text, elements_of}
use Rattle.fz_model.specs.declared.fault.Fault.{Fault}
use Rattle.fz_model.specs.declared.meant.Meant.{Meant}
use Rattle.fz_model.specs.declared.model.Basic.{Basic}
use Rattle.fz_model.specs.declared.model.Item.{Item}
use Rattle.fz_facts.proofs.Faults.{EachBehind, test_passes}
use Rattle.fz_facts.proofs.Finding.{stated}
use Rattle.fz_facts.proofs.Pairs.{Pairs}
use Rattle.fz_facts.proofs.Passes.{fewer, is_known, neither}
use Rattle.fz_facts.proofs.Places.{EachBehind-weaker, few_behind}
use Rattle.fz_facts.proofs.Shown.{AreMeant, IsRight, Stands, Stated}

-- ---- lists

pairs_from : {A X Y : Type 0} (R : X → Y → Type 0) (g : A → X) (h : A → Y) (Q : A → Type 0) → ((a : A) → Q a → R (g a) (h a)) → (us : List A) → Each Q us → Pairs R (map g us) (map h us)
pairs_from R g h Q r [] q = tt
pairs_from R g h Q r (a ∷ us) q = (r a q.0, pairs_from R g h Q r us q.1)

each_from : {A Y : Type 0} (P : Y → Type 0) (h : A → Y) (Q : A → Type 0) → ((a : A) → Q a → P (h a)) → (us : List A) → Each Q us → Each P (map h us)
each_from P h Q p [] q = tt
each_from P h Q p (a ∷ us) q = (p a q.0, each_from P h Q p us q.1)

-- ---- texts that pass

-- the text is known and its meaning passes
abbrev pub IsPassed : Context → (Meant → Option Fault) → BasicText → Type 0
IsPassed c test text = known (meaning c text) test ≡ None

-- the context with so many elements
abbrev pub counting : Context → ℕ → Context
counting c n = record c { elements = n }

-- how an element is tested behind those before it
abbrev pub element_fault : Context → (Meant → Option Fault) → List BasicText → BasicText → Option Fault
element_fault c test before text = or_else (known (meaning c text) test) (one_more c (length before))

abbrev pub AreFree : Context → ℕ → (Meant → Option Fault) → List BasicText → List BasicText → Type 0
AreFree c n test kept texts = EachBehind (λ before text. (basic (element_fault (counting c n) test before)).fault text ≡ None) kept texts

-- the number of elements does not matter to a meaning
pub same_meaning : (c : Context) (n : ℕ) (text : BasicText) → meaning (counting c n) text ≡ meaning c text
same_meaning c n (Truth v) = refl
same_meaning c n (Whole v dotted) = refl
same_meaning c n (Name bytes) = refl

parts : (c : Context) (n : ℕ) (test : Meant → Option Fault) (kept : List BasicText) (text : BasicText)
    → (basic (element_fault (counting c n) test kept)).fault text ≡ None → IsPassed c test text × (length kept < 2000000)
parts c n test kept text e =
    let counts = counting c n in
    let p = neither (known (meaning counts text) test) (one_more counts (length kept)) (test_passes (element_fault counts test kept text) (basic_word text ∷ []) e) in
    (subst (λ o. known o test ≡ None) (same_meaning c n text) p.0, fewer counts (length kept) p.1)

all_pass : (c : Context) (n : ℕ) (test : Meant → Option Fault) (kept texts : List BasicText) → AreFree c n test kept texts → Each (IsPassed c test) texts
all_pass c n test kept [] h = tt
all_pass c n test kept (text ∷ texts) h = ((parts c n test kept text h.0).0, all_pass c n test (kept ++ text ∷ []) texts h.1)

-- ---- their literals and names

module _ (c : Context) (items : List Item) (right : IsRight c items) (n : ℕ) (test : Meant → Option Fault) (texts : List BasicText) (free : AreFree c n test [] texts) where
  passed : Each (IsPassed c test) texts
  passed = all_pass c n test [] texts free

  pub placed_elements : Each (Stands items) (elements_of items texts)
  placed_elements =
      each_from (Stands items) (basic_of_text items) (IsPassed c test)
      (λ text e. let k = is_known (meaning c text) test e in (stated c items right text k.0 k.1).0) texts passed

  pub few_elements : length (elements_of items texts) ≤ 2000000
  few_elements =
      let few : 0 + length texts ≤ 2000000 =
      few_behind 2000000 [] texts (omega arith) (EachBehind-weaker (λ before text. (basic (element_fault (counting c n) test before)).fault text ≡ None)
      (λ before text. length before < 2000000) (λ before text e. (parts c n test before text e).1) [] texts free) in
      let same : length (elements_of items texts) ≡ length texts = length-map texts (basic_of_text items) in
      omega (arith, few, same)

  pub each_element : (P : Basic → Type 0) → ((m : Meant) (b : Basic) → test m ≡ None → Stated items m b → P b) → Each P (elements_of items texts)
  each_element P p =
      each_from P (basic_of_text items) (IsPassed c test)
      (λ text e. let k = is_known (meaning c text) test e in p k.0 (basic_of_text items text) k.2 (stated c items right text k.0 k.1).1) texts passed

  pub meant_elements : {A : Type 0} (R : Option A → Basic → Type 0) (f : Option Meant → Option A) → ((m : Meant) (b : Basic) → test m ≡ None → Stated items m b → R (f (Some m)) b)
      → AreMeant R (map (λ text. f (meaning c text)) texts) (elements_of items texts)
  meant_elements {A} R f r =
      record {
        few = few_elements;
        each = pairs_from R (λ text. f (meaning c text)) (basic_of_text items) (IsPassed c test)
            (λ text e. let k = is_known (meaning c text) test e in
            subst (λ (o : Option Meant). R (f o) (basic_of_text items text)) (sym k.1) (r k.0 (basic_of_text items text) k.2 (stated c items right text k.0 k.1).1)) texts passed;
      }
