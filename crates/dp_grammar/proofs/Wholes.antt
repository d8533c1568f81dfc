-- Reading a whole text answers what the grammar says.
use Rattle.std.proofs.Common.{◌≡◌, suc, ◌<◌, ◌≤◌, inl, inr, List, [], ◌∷◌, ◌++◌, length, Option, Some, None, refl, sym, ap, subst, ◌∙◌, append_assoc, length-append, arith}
use Rattle.std.proofs.lemmas.List.{append-nil}
use Rattle.std.proofs.lemmas.Bool.{cases_lt}
use Rattle.dp_grammar.specs.Grammar.{Syntax, Test, Reading, Takes, Stops, Grammar, head, verdict, IsRefused, Tells, IsLawful}
use Rattle.dp_grammar.specs.Whole.{IsStuck, IsSyntax, IsTested, Says, finished, whole}

-- ---- what a spelling is read as

-- a value's spelling alone is read so
pub alone : {T F X : Type 0} (g : Grammar T F X) → IsLawful g → (y : X) (text : List T) → g.spell y ≡ text → g.read text ≡ verdict (g.fault y) y []
alone {T} g l y text e = ap g.read (sym e ∙ sym (append-nil (g.spell y))) ∙ l.again y []

fault_if_tested : {T F X : Type 0} (o : Option (F × List T)) (y : X) (f : F) (at : List T) → verdict o y [] ≡ Stops (Test f) at → o ≡ Some (f, at)
fault_if_tested None y f at e = absurd cc
fault_if_tested {T} {F} (Some p) y f at e =
    let is_f : p.0 ≡ f = cc in
    let is_at : p.1 ++ [] ≡ at = cc in
    ap (λ (q : F). Some (q, p.1)) is_f ∙ ap (λ (q : List T). Some (f, q)) (sym (append-nil p.1) ∙ is_at)

no_syntax : {T F X : Type 0} (o : Option (F × List T)) (y : X) (rest : List T) → verdict o y [] ≡ Stops Syntax rest → ⊥
no_syntax None y rest e = absurd cc
no_syntax (Some p) y rest e = absurd cc

-- no value's spelling goes on behind a value
no_more : {T F X : Type 0} (o : Option (F × List T)) (y x : X) (t : T) (rest : List T) → verdict o y [] ≡ Takes x (t ∷ rest) → ⊥
no_more None y x t rest e = absurd cc
no_more (Some p) y x t rest e = absurd cc

no_fault : {T F X : Type 0} (o : Option (F × List T)) (y x : X) (rest : List T) (f : F) (at : List T) → verdict o y [] ≡ Takes x rest → o ≡ Some (f, at) → ⊥
no_fault None y x rest f at e fault = absurd cc
no_fault (Some p) y x rest f at e fault = absurd cc

-- ---- parts of one text

-- Of two cuts of a text, that with the longer rest comes first.
pub earlier : {T : Type 0} (front rest other left : List T) → front ++ rest ≡ other ++ left → length rest < length left
    → (u : T) × (m : List T) × (front ≡ other ++ u ∷ m) × (left ≡ u ∷ (m ++ rest))
earlier [] rest [] left e lt =
    let len : length rest ≡ length left = ap length e in
    absurd (omega (arith, len, lt))
earlier (u ∷ m) rest [] left e lt = (u, m, refl, sym e)
earlier {T} [] rest (v ∷ other) left e lt =
    let len : length rest ≡ suc (length (other ++ left)) = ap (λ (q : List T). length q) e in
    absurd (omega (arith, len, length-append other left, lt))
earlier {T} (u ∷ front) rest (v ∷ other) left e lt =
    let first : u ≡ v = cc in
    let others : front ++ rest ≡ other ++ left = cc in
    let found = earlier front rest other left others lt in
    (found.0, found.1, ap (λ (q : List T). u ∷ q) found.2 ∙ ap (λ (w : T). w ∷ (other ++ found.0 ∷ found.1)) first, found.3)

-- ---- what reading refuses

-- a token behind a value
behind_value : {T F X : Type 0} (g : Grammar T F X) → IsLawful g → (text : List T) (x : X) (t : T) (rest : List T) → Tells g text (Takes x (t ∷ rest)) → IsSyntax g text (t ∷ rest)
behind_value {T} {F} {X} g l text x t rest tell =
    let takes : (more : List T) → g.read (g.spell x ++ more) ≡ Takes x more = λ more. l.again x more ∙ ap (λ (o : Option (F × List T)). verdict o x more) tell.1 in
    record {
      front = g.spell x;
      parts = tell.0;
      begins = (x, [], sym (append-nil (g.spell x)));
      stuck = λ c.
          let read = alone g l c.0 (g.spell x ++ t ∷ c.1) (c.2 ∙ append_assoc (g.spell x) (t ∷ []) c.1) in
          no_more (g.fault c.0) c.0 x t c.1 (sym read ∙ takes (t ∷ c.1));
      passes = λ y more f at e fault. absurd (no_fault (g.fault y) y x more f at (sym (alone g l y (g.spell x ++ more) e) ∙ takes more) fault);
    }

stuck_at : {T F X : Type 0} (g : Grammar T F X) → IsLawful g → (text rest : List T) (r : IsRefused g text Syntax rest) → IsStuck g r.front rest
stuck_at {T} g l text [] r = λ y e.
    no_syntax (g.fault y) y [] (sym (alone g l y (r.front ++ []) (e ∙ sym (append-nil r.front))) ∙ r.firm [] refl)
stuck_at {T} g l text (t ∷ rest) r = λ c.
    no_syntax (g.fault c.0) c.0 (t ∷ c.1) (sym (alone g l c.0 (r.front ++ t ∷ c.1) (c.2 ∙ append_assoc r.front (t ∷ []) c.1)) ∙ r.firm (t ∷ c.1) refl)

differ : {T F X : Type 0} (f : F) (a b : List T) (read : Reading T F X) → read ≡ Stops (Test f) a → read ≡ Stops Syntax b → ⊥
differ f a b read e d = absurd cc

-- A value with a fault is read up to it, whatever follows the token.
pub refused_value : {T F X : Type 0} (g : Grammar T F X) → IsLawful g → (y : X) (f : F) (at : List T) → g.fault y ≡ Some (f, at) → IsRefused g (g.spell y) (Test f) at
refused_value {T} {F} {X} g l y f at fault =
    let read : g.read (g.spell y) ≡ Stops (Test f) (at ++ []) = alone g l y (g.spell y) refl ∙ ap (λ (o : Option (F × List T)). verdict o y []) fault in
    subst (λ (q : List T). IsRefused g (g.spell y) (Test f) q) (append-nil at) (subst (Tells g (g.spell y)) read (l.tells (g.spell y)))

-- no test refuses a token before a refusal by syntax
passes_front : {T F X : Type 0} (g : Grammar T F X) → IsLawful g → (text rest : List T) (r : IsRefused g text Syntax rest)
    → (y : X) (more : List T) (f : F) (at : List T) → g.spell y ≡ r.front ++ more → g.fault y ≡ Some (f, at) → length at ≤ length more
passes_front {T} g l text rest r y more f at e fault =
    elim (cases_lt (length more) (length at)) [
      | inr le ↦ le
      | inl lt ↦
          let q = refused_value g l y f at fault in
          let cut = earlier r.front more q.front at (sym e ∙ q.parts) lt in
          let same : q.front ++ (cut.0 ∷ (cut.1 ++ rest)) ≡ r.front ++ rest = sym (append_assoc q.front (cut.0 ∷ cut.1) rest) ∙ ap (λ (s : List T). s ++ rest) (sym cut.2) in
          absurd (differ f (cut.0 ∷ (cut.1 ++ rest)) rest (g.read (r.front ++ rest))
          (ap g.read (sym same) ∙ q.firm (cut.0 ∷ (cut.1 ++ rest)) (sym (ap (λ (s : List T). head s) cut.3)))
          (r.firm rest refl))
    ]

by_syntax : {T F X : Type 0} (g : Grammar T F X) → IsLawful g → (text rest : List T) → IsRefused g text Syntax rest → IsSyntax g text rest
by_syntax g l text rest r =
    record {
      front = r.front;
      parts = r.parts;
      begins = (r.value, r.more, r.spelled);
      stuck = stuck_at g l text rest r;
      passes = passes_front g l text rest r;
    }

by_test : {T F X : Type 0} (g : Grammar T F X) → IsLawful g → (text : List T) (f : F) (rest : List T) → IsRefused g text (Test f) rest → IsTested g f text rest
by_test g l text f [] r = absurd r.stands
by_test {T} g l text f (t ∷ rest) r =
    record {
      front = r.front;
      token = t;
      after = rest;
      at = refl;
      parts = r.parts;
      begins = (r.value, r.more, r.spelled ∙ sym (append_assoc r.front (t ∷ []) r.more));
      each = λ y more e. fault_if_tested (g.fault y) y f (t ∷ more) (sym (alone g l y (r.front ++ t ∷ more) e) ∙ r.firm (t ∷ more) refl);
    }

-- ---- both together

finished_says : {T F X : Type 0} (g : Grammar T F X) → IsLawful g → (text : List T) (read : Reading T F X) → Tells g text read → Says g text (finished read)
finished_says g l text (Takes x []) tell = (tell.0 ∙ append-nil (g.spell x), tell.1)
finished_says g l text (Takes x (t ∷ rest)) tell = behind_value g l text x t rest tell
finished_says g l text (Stops Syntax rest) tell = by_syntax g l text rest tell
finished_says g l text (Stops (Test f) rest) tell = by_test g l text f rest tell

pub whole_says : {T F X : Type 0} (g : Grammar T F X) → IsLawful g → (text : List T) → Says g text (whole g text)
whole_says g l text = finished_says g l text (g.read text) (l.tells text)
