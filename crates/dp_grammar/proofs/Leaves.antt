-- A leaf is lawful.
use Rattle.std.proofs.Common.{◌≡◌, Bool, true, false, List, [], ◌∷◌, Option, Some, None, cond, refl, sym, ap, ◌∙◌}
use Rattle.dp_grammar.specs.Grammar.{Cause, Syntax, Test, Stops, head, verdict, Tells, IsLawful}
use Rattle.dp_grammar.specs.Leaf.{Leaf, IsLeaf, fault_at, tested, valued, leaf, only, IsOnly, mark, tested_mark}

tested_verdict : {T F X : Type 0} (o : Option F) (x : X) (t : T) (rest : List T) → tested o x t rest ≡ verdict (fault_at o (t ∷ [])) x rest
tested_verdict None x t rest = refl
tested_verdict (Some f) x t rest = refl

-- what has the same first token is refused as the leaf refuses that token
firm_at : {T F X : Type 0} (l : Leaf T F X) (cause : Cause F) (t : T) → ((after : List T) → valued l (l.value t) t after ≡ Stops cause (t ∷ after))
    → (rest other : List T) → head other ≡ head (t ∷ rest) → (leaf l).read other ≡ Stops cause other
firm_at l cause t stops rest [] same = absurd cc
firm_at {T} l cause t stops rest (u ∷ other) same =
    let is_t : u ≡ t = cc in
    ap (λ (v : T). valued l (l.value v) v other) is_t ∙ stops other ∙ ap (λ (v : T). Stops cause (v ∷ other)) (sym is_t)

firm_end : {T F X : Type 0} (l : Leaf T F X) (other : List T) → head other ≡ None → (leaf l).read other ≡ Stops Syntax other
firm_end l [] same = refl
firm_end l (u ∷ other) same = absurd cc

leaf_tested : {T F X : Type 0} (l : Leaf T F X) → IsLeaf l → (t : T) (rest : List T) (x : X) → l.value t ≡ Some x → (o : Option F) → l.test x ≡ o → Tells (leaf l) (t ∷ rest) (tested o x t rest)
leaf_tested {T} {F} {X} l is t rest x e None passed =
    (ap (λ (u : T). u ∷ rest) (sym (is.token_is t x e)), ap (λ (o : Option F). fault_at o (l.token x ∷ [])) passed)
leaf_tested {T} {F} {X} l is t rest x e (Some f) refused =
    record {
      front = [];
      parts = refl;
      stands = tt;
      firm = firm_at l (Test f) t (λ after. ap (λ (v : Option X). valued l v t after) e ∙ ap (λ (o : Option F). tested o x t after) refused) rest;
      value = x;
      more = [];
      spelled = ap (λ (u : T). u ∷ []) (is.token_is t x e);
    }

leaf_valued : {T F X : Type 0} (l : Leaf T F X) → IsLeaf l → (t : T) (rest : List T) (v : Option X) → l.value t ≡ v → Tells (leaf l) (t ∷ rest) (valued l v t rest)
leaf_valued {T} {F} {X} l is t rest None e =
    record {
      front = [];
      parts = refl;
      stands = tt;
      firm = firm_at l Syntax t (λ after. ap (λ (v : Option X). valued l v t after) e) rest;
      value = is.some;
      more = l.token is.some ∷ [];
      spelled = refl;
    }
leaf_valued l is t rest (Some x) e = leaf_tested l is t rest x e (l.test x) refl

leaf_tells : {T F X : Type 0} (l : Leaf T F X) → IsLeaf l → (text : List T) → Tells (leaf l) text ((leaf l).read text)
leaf_tells l is [] =
    record {
      front = [];
      parts = refl;
      stands = tt;
      firm = firm_end l;
      value = is.some;
      more = l.token is.some ∷ [];
      spelled = refl;
    }
leaf_tells l is (t ∷ rest) = leaf_valued l is t rest (l.value t) refl

pub leaf_lawful : {T F X : Type 0} (l : Leaf T F X) → IsLeaf l → IsLawful (leaf l)
leaf_lawful {T} {F} {X} l is =
    record {
      some = is.some;
      again = λ x rest. ap (λ (v : Option X). valued l v (l.token x) rest) (is.value_is x) ∙ tested_verdict (l.test x) x (l.token x) rest;
      tells = leaf_tells l is;
    }

-- ---- one token and no other

only_token : {T : Type 0} (is : T → Bool) (t u : T) → IsOnly is t → (b : Bool) → is u ≡ b → (x : Unit {0}) → cond b (Some tt) None ≡ Some x → t ≡ u
only_token is t u h true e x v = h.no_other u e
only_token is t u h false e x v = absurd cc

pub tested_mark_lawful : {T F : Type 0} (is : T → Bool) (t : T) (refusal : Option F) → IsOnly is t → IsLawful (tested_mark is t refusal)
tested_mark_lawful {T} {F} is t refusal h =
    leaf_lawful (only is t refusal) (record {
      some = tt;
      value_is = λ x. ap (λ (b : Bool). cond b (Some tt) None) h.itself;
      token_is = λ u x e. only_token is t u h (is u) refl x e;
    })

pub mark_lawful : {T F : Type 0} (is : T → Bool) (t : T) → IsOnly is t → IsLawful (mark {T = T} {F = F} is t)
mark_lawful is t h = tested_mark_lawful is t None h
