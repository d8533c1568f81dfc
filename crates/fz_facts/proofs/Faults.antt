-- What has no fault has parts that have none: chains, leaves, lists, and what stands behind annotations.
use Rattle.std.proofs.Common.{◌≡◌, inl, inr, List, [], ◌∷◌, ◌++◌, ℕ, Option, Some, None, refl, sym, subst, append_assoc, append-nil}
use Rattle.dp_base.specs.Lists.{Each}
use Rattle.dp_base.proofs.Lists.{Each-append_parts}
use Rattle.dp_grammar.specs.Chain.{first_fault, chain, before_mark}
use Rattle.dp_grammar.specs.Choice.{either}
use Rattle.dp_grammar.specs.Grammar.{Grammar}
use Rattle.dp_grammar.specs.Leaf.{fault_at}
use Rattle.dp_grammar.specs.Listed.{Listing, further, listed}
use Rattle.dp_grammar.specs.Many.{Link, fault_behind, spell_behind, Repeat, many}
use Rattle.fz_model.specs.Annotations.{Annotation, Annotated, Balanced, Close, annotated, annotation_link, link_parts, parts_with}
use Rattle.fz_model.specs.ModelText.{closing}

-- ---- one after another

-- there is no first fault
no_faults : {T F : Type 0} (a : Option (F × List T)) (behind : List T) (b : Option (F × List T)) → first_fault a behind b ≡ None → (a ≡ None) × (b ≡ None)
no_faults None behind b e = (refl, e)
no_faults (Some fault) behind b e = absurd cc

pub chain_parts : {T F X Y : Type 0} (g : Grammar T F X) (next : X → Grammar T F Y) (p : X × Y) → (chain g next).fault p ≡ None → (g.fault p.0 ≡ None) × ((next p.0).fault p.1 ≡ None)
chain_parts g next p e = no_faults (g.fault p.0) ((next p.0).spell p.1) ((next p.0).fault p.1) e

pub before_parts : {T F X : Type 0} (g : Grammar T F X) (m : Grammar T F (Unit {0})) (x : X) → (before_mark g m).fault x ≡ None → (g.fault x ≡ None) × (m.fault tt ≡ None)
before_parts g m x e = no_faults (g.fault x) (m.spell tt) (m.fault tt) e

-- a leaf's value passes its test
pub test_passes : {T F : Type 0} (o : Option F) (text : List T) → fault_at o text ≡ None → o ≡ None
test_passes None text e = refl
test_passes (Some fault) text e = absurd cc

-- ---- lists

-- each item, behind those before it
abbrev pub EachBehind : {X : Type 0} → (List X → X → Type 0) → List X → List X → Type 0
EachBehind P kept [] = Unit {0}
EachBehind P kept (x ∷ xs) = P kept x × EachBehind P (kept ++ x ∷ []) xs

EachBehind-cons : {X : Type 0} (P : List X → X → Type 0) (x : X) (kept xs : List X) → EachBehind (λ more y. P (x ∷ more) y) kept xs → EachBehind P (x ∷ kept) xs
EachBehind-cons P x kept [] e = tt
EachBehind-cons P x kept (y ∷ ys) e = (e.0, EachBehind-cons P x (kept ++ y ∷ []) ys e.1)

links_parts : {T F X C : Type 0} (link : Link T F X C) (kept xs : List X) (c : C) → fault_behind link kept xs c ≡ None
    → EachBehind (λ before x. (link before).fault (inl x) ≡ None) kept xs × ((link (kept ++ xs)).fault (inr c) ≡ None)
links_parts link kept [] c e = (tt, subst (λ k. (link k).fault (inr c) ≡ None) (sym (append-nil kept)) e)
links_parts link kept (x ∷ xs) c e =
    let p = no_faults ((link kept).fault (inl x)) (spell_behind link (kept ++ x ∷ []) xs c) (fault_behind link (kept ++ x ∷ []) xs c) e in
    let rest = links_parts link (kept ++ x ∷ []) xs c p.1 in
    ((p.0, rest.0), subst (λ k. (link k).fault (inr c) ≡ None) (append_assoc kept (x ∷ []) xs) rest.1)

pub many_parts : {T F X C : Type 0} (r : Repeat T F X C) (p : List X × C) → (many r).fault p ≡ None
    → EachBehind (λ before x. (r.item before).fault x ≡ None) [] p.0 × ((r.close p.0).fault p.1 ≡ None)
many_parts r p e = links_parts (λ kept. either r.goes_on (r.item kept) (r.close kept)) [] p.0 p.1 e

pub listed_parts : {T F X : Type 0} (l : Listing T F X) (xs : List X) → (listed l).fault xs ≡ None
    → EachBehind (λ before x. (l.item before).fault x ≡ None) [] xs × ((l.close xs).fault tt ≡ None)
listed_parts l [] e = (tt, e)
listed_parts l (x ∷ xs) e =
    let p = chain_parts (l.item []) (λ y. many (further l y)) (x, (xs, tt)) e in
    let q = many_parts (further l x) (xs, tt) p.1 in
    ((p.0, EachBehind-cons (λ before y. (l.item before).fault y ≡ None) x [] xs q.0), q.1)

-- ---- annotations

link_end : {C : Type 0} (close : Close C) (kept : List Annotation) (bytes : List ℕ) (args : Option Balanced) (c : C)
    → (link_parts close kept).fault (parts_with bytes args (inr c)) ≡ None → (notes : List Annotation) × ((close notes).fault c ≡ None)
link_end close kept bytes None c e = (kept ++ record { name = bytes; args = None } ∷ [], e)
link_end close kept bytes (Some args) c e = (kept ++ record { name = bytes; args = Some args } ∷ [], e)

-- what closes annotations has no fault behind them
pub annotated_end : {C : Type 0} (close : Close C) (a : Annotated C) → (annotated close).fault a ≡ None → (notes : List Annotation) × ((close notes).fault (closing a) ≡ None)
annotated_end close (inl p) e =
    let q = links_parts (annotation_link close) [] p.0 p.1 e in
    link_end close p.0 p.1.0.name p.1.0.args p.1.1 q.1
annotated_end close (inr c) e = ([], e)

-- ---- spellings

spelled_links : {T F X C : Type 0} (P : T → Type 0) (link : Link T F X C) (kept xs : List X) (c : C) → Each P (spell_behind link kept xs c)
    → EachBehind (λ before x. Each P ((link before).spell (inl x))) kept xs
spelled_links P link kept [] c h = tt
spelled_links P link kept (x ∷ xs) c h =
    let p = Each-append_parts P ((link kept).spell (inl x)) (spell_behind link (kept ++ x ∷ []) xs c) h in
    (p.0, spelled_links P link (kept ++ x ∷ []) xs c p.1)

-- what holds of each token of a spelling holds of those of each item
pub many_spelled : {T F X C : Type 0} (P : T → Type 0) (r : Repeat T F X C) (p : List X × C) → Each P ((many r).spell p) → EachBehind (λ before x. Each P ((r.item before).spell x)) [] p.0
many_spelled P r p h = spelled_links P (λ kept. either r.goes_on (r.item kept) (r.close kept)) [] p.0 p.1 h
