-- What stands inside brackets is lawful.
use Rattle.std.proofs.Common.{◌≡◌, Bool, true, false, List, [], ◌∷◌, ◌++◌, None, cond, refl, sym, ap, ◌∙◌}
use Rattle.dp_grammar.specs.Grammar.{Syntax, Takes, Stops, head, Tells, IsLawful}
use Rattle.dp_grammar.specs.Chain.{mapped}
use Rattle.dp_grammar.specs.Brackets.{Class, Plain, Opens, Closes, Bracketing, IsBracketing, Inside, Out, Token, Open, Close, spell_inside, read_class, read_inside, inside}
use Rattle.dp_grammar.proofs.Carry.{behind}

-- nothing but what closes the brackets
some_inside : {P K : Type 0} (opened : List K) → Inside P K opened
some_inside [] = Out
some_inside (j ∷ opened) = Close j (some_inside opened)

-- reading goes by the class of the first token
by_class : {T F P K : Type 0} (b : Bracketing T P K) (j : K) (opened : List K) (t : T) (rest : List T) (c : Class P K) → b.class t ≡ c
    → read_inside {F = F} b (j ∷ opened) (t ∷ rest) ≡ read_class b j opened t rest c (λ other. read_inside b other rest)
by_class {T} {F} {P} {K} b j opened t rest c e = ap (λ (c : Class P K). read_class {F = F} b j opened t rest c (λ other. read_inside b other rest)) e

by_close : {T F P K : Type 0} (b : Bracketing T P K) (j : K) (opened : List K) (t : T) (rest : List T) (k : K) (same : Bool) → b.class t ≡ Closes k → b.same j k ≡ same
    → read_inside {F = F} b (j ∷ opened) (t ∷ rest) ≡ cond same (mapped (Close j) (read_inside b opened rest)) (Stops Syntax (t ∷ rest))
by_close {T} {F} {P} {K} b j opened t rest k same e is_same =
    by_class b j opened t rest (Closes k) e
    ∙ ap (λ (s : Bool). cond s (mapped (Close j) (read_inside {F = F} b opened rest)) (Stops Syntax (t ∷ rest))) is_same

inside_again : {T F P K : Type 0} (b : Bracketing T P K) → IsBracketing b → (opened : List K) (x : Inside P K opened) (rest : List T)
    → read_inside {F = F} b opened (spell_inside b opened x ++ rest) ≡ Takes x rest
inside_again b is [] Out rest = refl
inside_again b is (j ∷ opened) (Token p x) rest =
    by_class b j opened (b.token (Plain p)) (spell_inside b (j ∷ opened) x ++ rest) (Plain p) (is.class_is (Plain p))
    ∙ ap (mapped (Token p)) (inside_again b is (j ∷ opened) x rest)
inside_again b is (j ∷ opened) (Open k x) rest =
    by_class b j opened (b.token (Opens k)) (spell_inside b (k ∷ (j ∷ opened)) x ++ rest) (Opens k) (is.class_is (Opens k))
    ∙ ap (mapped (Open k)) (inside_again b is (k ∷ (j ∷ opened)) x rest)
inside_again b is (j ∷ opened) (Close _ x) rest =
    by_close b j opened (b.token (Closes j)) (spell_inside b opened x ++ rest) j true (is.class_is (Closes j)) (is.same_itself j)
    ∙ ap (mapped (Close j)) (inside_again b is opened x rest)

-- ---- refusals

end_firm : {T F P K : Type 0} (b : Bracketing T P K) (j : K) (opened : List K) (other : List T) → head other ≡ None → read_inside {F = F} b (j ∷ opened) other ≡ Stops Syntax other
end_firm b j opened [] same = refl
end_firm b j opened (u ∷ other) same = absurd cc

close_firm : {T F P K : Type 0} (b : Bracketing T P K) (j : K) (opened : List K) (t : T) (rest : List T) (k : K) → b.class t ≡ Closes k → b.same j k ≡ false
    → (other : List T) → head other ≡ head (t ∷ rest) → read_inside {F = F} b (j ∷ opened) other ≡ Stops Syntax other
close_firm b j opened t rest k e differs [] same = absurd cc
close_firm {T} {F} {P} {K} b j opened t rest k e differs (u ∷ other) same =
    let is_t : u ≡ t = cc in
    by_close b j opened u other k false (ap b.class is_t ∙ e) differs

close_tells : {T P K : Type 0} (F : Type 0) (b : Bracketing T P K) → IsBracketing b → (j : K) (opened : List K) (t : T) (rest : List T) (k : K) → b.class t ≡ Closes k → (same : Bool) → b.same j k ≡ same
    → Tells (inside {F = F} b opened) rest (read_inside b opened rest)
    → Tells (inside {F = F} b (j ∷ opened)) (t ∷ rest) (cond same (mapped (Close j) (read_inside b opened rest)) (Stops Syntax (t ∷ rest)))
close_tells {T} {P} {K} F b is j opened t rest k e true same tell =
    let token_is : b.token (Closes j) ≡ t = ap (λ (i : K). b.token (Closes i)) (is.same_is j k same) ∙ ap b.token (sym e) ∙ is.token_is t in
    behind (inside {F = F} b opened) (inside {F = F} b (j ∷ opened)) (Close j) (t ∷ []) (t ∷ rest) rest refl
    (λ y. ap (λ (u : T). u ∷ spell_inside b opened y) token_is)
    (λ y none. refl)
    (λ other _. by_close b j opened t other k true e same)
    (read_inside b opened rest) tell
close_tells {T} {P} {K} F b is j opened t rest k e false differs tell =
    record {
      front = [];
      parts = refl;
      stands = tt;
      firm = close_firm b j opened t rest k e differs;
      value = some_inside (j ∷ opened);
      more = spell_inside b (j ∷ opened) (some_inside (j ∷ opened));
      spelled = refl;
    }

class_tells : {T P K : Type 0} (F : Type 0) (b : Bracketing T P K) → IsBracketing b → (j : K) (opened : List K) (t : T) (rest : List T) (c : Class P K) → b.class t ≡ c
    → ((other : List K) → Tells (inside {F = F} b other) rest (read_inside b other rest))
    → Tells (inside {F = F} b (j ∷ opened)) (t ∷ rest) (read_class b j opened t rest c (λ other. read_inside b other rest))
class_tells {T} {P} {K} F b is j opened t rest (Plain p) e tells =
    let token_is : b.token (Plain p) ≡ t = ap b.token (sym e) ∙ is.token_is t in
    behind (inside {F = F} b (j ∷ opened)) (inside {F = F} b (j ∷ opened)) (Token p) (t ∷ []) (t ∷ rest) rest refl
    (λ y. ap (λ (u : T). u ∷ spell_inside b (j ∷ opened) y) token_is)
    (λ y none. refl)
    (λ other _. by_class b j opened t other (Plain p) e)
    (read_inside b (j ∷ opened) rest) (tells (j ∷ opened))
class_tells {T} {P} {K} F b is j opened t rest (Opens k) e tells =
    let token_is : b.token (Opens k) ≡ t = ap b.token (sym e) ∙ is.token_is t in
    behind (inside {F = F} b (k ∷ (j ∷ opened))) (inside {F = F} b (j ∷ opened)) (Open k) (t ∷ []) (t ∷ rest) rest refl
    (λ y. ap (λ (u : T). u ∷ spell_inside b (k ∷ (j ∷ opened)) y) token_is)
    (λ y none. refl)
    (λ other _. by_class b j opened t other (Opens k) e)
    (read_inside b (k ∷ (j ∷ opened)) rest) (tells (k ∷ (j ∷ opened)))
class_tells F b is j opened t rest (Closes k) e tells = close_tells F b is j opened t rest k e (b.same j k) refl (tells opened)

inside_tells : {T P K : Type 0} (F : Type 0) (b : Bracketing T P K) → IsBracketing b → (text : List T) (opened : List K) → Tells (inside {F = F} b opened) text (read_inside b opened text)
inside_tells F b is text [] = (refl, refl)
inside_tells F b is [] (j ∷ opened) =
    record {
      front = [];
      parts = refl;
      stands = tt;
      firm = end_firm b j opened;
      value = some_inside (j ∷ opened);
      more = spell_inside b (j ∷ opened) (some_inside (j ∷ opened));
      spelled = refl;
    }
inside_tells F b is (t ∷ rest) (j ∷ opened) = class_tells F b is j opened t rest (b.class t) refl (λ other. inside_tells F b is rest other)

pub inside_lawful : {T P K : Type 0} (F : Type 0) (b : Bracketing T P K) → IsBracketing b → (opened : List K) → IsLawful (inside {F = F} b opened)
inside_lawful F b is opened =
    record {
      some = some_inside opened;
      again = inside_again b is opened;
      tells = λ text. inside_tells F b is text opened;
    }
