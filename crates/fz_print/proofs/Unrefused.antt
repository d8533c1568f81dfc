-- What has parts without faults has none.
use Rattle.std.proofs.Common.{◌≡◌, List, [], ◌∷◌, ◌++◌, map, inl, inr, Option, Some, None, refl, sym, subst, append_assoc, append-nil}
use Rattle.std.proofs.lemmas.List.{map-append}
use Rattle.dp_base.specs.Lists.{Each}
use Rattle.dp_grammar.specs.Chain.{first_fault, chain, before_mark}
use Rattle.dp_grammar.specs.Choice.{either}
use Rattle.dp_grammar.specs.Grammar.{Grammar}
use Rattle.dp_grammar.specs.Leaf.{fault_at}
use Rattle.dp_grammar.specs.Listed.{Listing, further, listed}
use Rattle.dp_grammar.specs.Many.{Link, fault_behind, spell_behind, Repeat, many}
use Rattle.fz_facts.proofs.Faults.{EachBehind, listed_parts}

pub none_first : {T F : Type 0} (a : Option (F × List T)) (behind : List T) (b : Option (F × List T)) → a ≡ None → b ≡ None → first_fault a behind b ≡ None
none_first None behind b e f = f
none_first (Some fault) behind b e f = absurd cc

pub chain_none : {T F X Y : Type 0} (g : Grammar T F X) (next : X → Grammar T F Y) (p : X × Y) → g.fault p.0 ≡ None → (next p.0).fault p.1 ≡ None → (chain g next).fault p ≡ None
chain_none g next p e f = none_first (g.fault p.0) ((next p.0).spell p.1) ((next p.0).fault p.1) e f

pub before_none : {T F X : Type 0} (g : Grammar T F X) (m : Grammar T F (Unit {0})) (x : X) → g.fault x ≡ None → m.fault tt ≡ None → (before_mark g m).fault x ≡ None
before_none g m x e f = none_first (g.fault x) (m.spell tt) (m.fault tt) e f

pub at_none : {T F : Type 0} (o : Option F) (text : List T) → o ≡ None → fault_at o text ≡ None
at_none None text e = refl
at_none (Some fault) text e = absurd cc

-- ---- lists

both_none : {T F : Type 0} (a : Option (F × List T)) (behind : List T) (b : Option (F × List T)) → first_fault a behind b ≡ None → (a ≡ None) × (b ≡ None)
both_none None behind b e = (refl, e)
both_none (Some fault) behind b e = absurd cc

-- the end behind all items has no fault
pub links_end : {T F X C : Type 0} (link : Link T F X C) (kept xs : List X) (c : C) → fault_behind link kept xs c ≡ None → (link (kept ++ xs)).fault (inr c) ≡ None
links_end link kept [] c e = subst (λ k. (link k).fault (inr c) ≡ None) (sym (append-nil kept)) e
links_end link kept (x ∷ xs) c e =
    let p = both_none ((link kept).fault (inl x)) (spell_behind link (kept ++ x ∷ []) xs c) (fault_behind link (kept ++ x ∷ []) xs c) e in
    subst (λ k. (link k).fault (inr c) ≡ None) (append_assoc kept (x ∷ []) xs) (links_end link (kept ++ x ∷ []) xs c p.1)

links_none : {T F X C : Type 0} (link : Link T F X C) (kept xs : List X) (c : C) → EachBehind (λ before x. (link before).fault (inl x) ≡ None) kept xs → (link (kept ++ xs)).fault (inr c) ≡ None
    → fault_behind link kept xs c ≡ None
links_none link kept [] c h e = subst (λ k. (link k).fault (inr c) ≡ None) (append-nil kept) e
links_none link kept (x ∷ xs) c h e =
    none_first ((link kept).fault (inl x)) (spell_behind link (kept ++ x ∷ []) xs c) (fault_behind link (kept ++ x ∷ []) xs c) h.0
    (links_none link (kept ++ x ∷ []) xs c h.1 (subst (λ k. (link k).fault (inr c) ≡ None) (sym (append_assoc kept (x ∷ []) xs)) e))

pub many_none : {T F X C : Type 0} (r : Repeat T F X C) (p : List X × C) → EachBehind (λ before x. (r.item before).fault x ≡ None) [] p.0 → (r.close p.0).fault p.1 ≡ None → (many r).fault p ≡ None
many_none r p h e = links_none (λ kept. either r.goes_on (r.item kept) (r.close kept)) [] p.0 p.1 h e

EachBehind-uncons : {X : Type 0} (P : List X → X → Type 0) (x : X) (kept xs : List X) → EachBehind P (x ∷ kept) xs → EachBehind (λ more y. P (x ∷ more) y) kept xs
EachBehind-uncons P x kept [] h = tt
EachBehind-uncons P x kept (y ∷ ys) h = (h.0, EachBehind-uncons P x (kept ++ y ∷ []) ys h.1)

pub listed_none : {T F X : Type 0} (l : Listing T F X) (xs : List X) → EachBehind (λ before x. (l.item before).fault x ≡ None) [] xs → (l.close xs).fault tt ≡ None → (listed l).fault xs ≡ None
listed_none l [] h e = e
listed_none l (x ∷ xs) h e =
    chain_none (l.item []) (λ y. many (further l y)) (x, (xs, tt)) h.0
    (many_none (further l x) (xs, tt) (EachBehind-uncons (λ before y. (l.item before).fault y ≡ None) x [] xs h.1) e)

-- ---- other items in the places of those

pub EachBehind-map : {X Y : Type 0} (P : List X → X → Type 0) (Q : List Y → Y → Type 0) (f : X → Y) → ((kept : List X) (x : X) → P kept x → Q (map f kept) (f x))
    → (kept xs : List X) → EachBehind P kept xs → EachBehind Q (map f kept) (map f xs)
EachBehind-map P Q f step kept [] h = tt
EachBehind-map P Q f step kept (x ∷ xs) h =
    (step kept x h.0, subst (λ k. EachBehind Q k (map f xs)) (map-append f kept (x ∷ [])) (EachBehind-map P Q f step (kept ++ x ∷ []) xs h.1))

pub listed_map : {T F X Y : Type 0} (l : Listing T F X) (m : Listing T F Y) (f : X → Y)
    → ((kept : List X) (x : X) → (l.item kept).fault x ≡ None → (m.item (map f kept)).fault (f x) ≡ None)
    → ((xs : List X) → (l.close xs).fault tt ≡ None → (m.close (map f xs)).fault tt ≡ None)
    → (xs : List X) → (listed l).fault xs ≡ None → (listed m).fault (map f xs) ≡ None
listed_map l m f item close xs e =
    let p = listed_parts l xs e in
    listed_none m (map f xs)
    (EachBehind-map (λ before x. (l.item before).fault x ≡ None) (λ before y. (m.item before).fault y ≡ None) f item [] xs p.0) (close xs p.1)

pub EachBehind-each : {X : Type 0} (P : List X → X → Type 0) (Q : X → Type 0) → ((kept : List X) (x : X) → P kept x → Q x) → (kept xs : List X) → EachBehind P kept xs → Each Q xs
EachBehind-each P Q step kept [] h = tt
EachBehind-each P Q step kept (x ∷ xs) h = (step kept x h.0, EachBehind-each P Q step (kept ++ x ∷ []) xs h.1)
