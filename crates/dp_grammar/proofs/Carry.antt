-- What is said of a part of a text is said of the whole.
use Rattle.std.proofs.Common.{◌≡◌, List, [], ◌∷◌, ◌++◌, Option, Some, None, refl, sym, ap, ◌∙◌, append_assoc}
use Rattle.dp_grammar.specs.Grammar.{Cause, Test, Reading, Takes, Stops, Grammar, head, allowed, verdict, IsRefused, Tells}
use Rattle.dp_grammar.specs.Chain.{followed, mapped, first_fault}

pub head-append : {T : Type 0} (front a b : List T) → head a ≡ head b → head (front ++ a) ≡ head (front ++ b)
head-append [] a b e = e
head-append (t ∷ front) a b e = refl

regroup : {T : Type 0} (a b c d : List T) → (a ++ (b ++ c)) ++ d ≡ a ++ (b ++ (c ++ d))
regroup a b c d = append_assoc a (b ++ c) d ∙ ap (λ s. a ++ s) (append_assoc b c d)

pub mapped_verdict : {T F X Y : Type 0} (make : X → Y) (o : Option (F × List T)) (x : X) (rest : List T) → mapped make (verdict o x rest) ≡ verdict o (make x) rest
mapped_verdict make None x rest = refl
mapped_verdict make (Some fault) x rest = refl

pub no_first_fault : {T F : Type 0} (o : Option (F × List T)) (behind : List T) (second : Option (F × List T)) → o ≡ None → second ≡ None → first_fault o behind second ≡ None
no_first_fault o behind second first e = ap (λ o. first_fault o behind second) first ∙ e

-- a first part's verdict goes on as the second part's
pub chained : {T F X Z : Type 0} (o : Option (F × List T)) (x : X) (s rest : List T) (next : X → List T → Reading T F Z) (second : Option (F × List T)) (z : Z)
    → next x (s ++ rest) ≡ verdict second z rest → followed (verdict o x (s ++ rest)) next ≡ verdict (first_fault o s second) z rest
chained None x s rest next second z e = e
chained {T} (Some fault) x s rest next second z e = ap (λ (l : List T). Stops (Test fault.0) l) (sym (append_assoc fault.1 s rest))

-- what a grammar says of the text behind a lead, another says of the whole
pub behind : {T F Y Z : Type 0} (h : Grammar T F Y) (k : Grammar T F Z) (make : Y → Z) (lead text mid : List T)
    → (text ≡ lead ++ mid)
    → ((y : Y) → k.spell (make y) ≡ lead ++ h.spell y)
    → ((y : Y) → h.fault y ≡ None → k.fault (make y) ≡ None)
    → ((other : List T) → head other ≡ head mid → k.read (lead ++ other) ≡ mapped make (h.read other))
    → (r : Reading T F Y) → Tells h mid r → Tells k text (mapped make r)
behind {T} h k make lead text mid parts spell_is fault_is read_is (Takes y rest) t =
    (parts ∙ ap (λ (s : List T). lead ++ s) t.0 ∙ sym (append_assoc lead (h.spell y) rest) ∙ ap (λ (s : List T). s ++ rest) (sym (spell_is y)), fault_is y t.1)
behind {T} h k make lead text mid parts spell_is fault_is read_is (Stops cause rest) r =
    record {
      front = lead ++ r.front;
      parts = parts ∙ ap (λ (s : List T). lead ++ s) r.parts ∙ sym (append_assoc lead r.front rest);
      stands = r.stands;
      firm = λ other same.
          ap k.read (append_assoc lead r.front other)
          ∙ read_is (r.front ++ other) (head-append r.front other rest same ∙ ap (λ (s : List T). head s) (sym r.parts))
          ∙ ap (mapped make) (r.firm other same);
      value = make r.value;
      more = r.more;
      spelled = spell_is r.value ∙ ap (λ (s : List T). lead ++ s) r.spelled ∙ sym (append_assoc lead r.front (allowed cause rest ++ r.more));
    }

-- a refusal in the first part is one of the whole
pub within : {T F X Z : Type 0} (g : Grammar T F X) (k : Grammar T F Z) (make : X → Z) (tail : X → List T) (text : List T) (cause : Cause F) (rest : List T)
    → ((x : X) → k.spell (make x) ≡ g.spell x ++ tail x)
    → ((other left : List T) → head other ≡ head text → g.read other ≡ Stops cause left → k.read other ≡ Stops cause left)
    → IsRefused g text cause rest → IsRefused k text cause rest
within {T} g k make tail text cause rest spell_is read_is r =
    record {
      front = r.front;
      parts = r.parts;
      stands = r.stands;
      firm = λ other same. read_is (r.front ++ other) other (head-append r.front other rest same ∙ ap (λ (s : List T). head s) (sym r.parts)) (r.firm other same);
      value = make r.value;
      more = r.more ++ tail r.value;
      spelled = spell_is r.value ∙ ap (λ (s : List T). s ++ tail r.value) r.spelled ∙ regroup r.front (allowed cause rest) r.more (tail r.value);
    }
