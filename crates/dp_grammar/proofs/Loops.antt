-- What a loop that reads links keeps: the items so far stand before what is read behind them.
use Rattle.std.proofs.Common.{◌≡◌, ◌<◌, Bool, true, false, ◌⊎◌, inl, inr, List, [], ◌∷◌, ◌++◌, length, refl, sym, ap, subst, ◌∙◌, append_assoc, arith}
use Rattle.std.proofs.lemmas.List.{append-nil}
use Rattle.dp_grammar.specs.Grammar.{Cause, Reading, Takes, Stops, Grammar, Tells}
use Rattle.dp_grammar.specs.Chain.{followed, mapped}
use Rattle.dp_grammar.specs.Choice.{begins, read_either, either}
use Rattle.dp_grammar.specs.Many.{Link, with_item, linked, links_behind, IsLink, Repeat, IsRepeat}
use Rattle.dp_grammar.proofs.Manys.{unrolled, many_links, shorter, led_at_all}

-- these items, and then those that are read
abbrev pub with_front : {T F X C : Type 0} → List X → Reading T F (List X × C) → Reading T F (List X × C)
with_front front read = mapped (λ p. (front ++ p.0, p.1)) read

-- before the first item
pub no_front : {T F X C : Type 0} (read : Reading T F (List X × C)) → with_front [] read ≡ read
no_front (Takes p rest) = refl
no_front (Stops cause rest) = refl

front_item : {T F X C : Type 0} (front : List X) (x : X) (read : Reading T F (List X × C)) → with_front front (mapped (with_item x) read) ≡ with_front (front ++ x ∷ []) read
front_item {T} {F} {X} {C} front x (Takes p rest) =
    ap (λ (xs : List X). let q : List X × C = (xs, p.1) in Takes q rest) (sym (append_assoc front (x ∷ []) p.0))
front_item front x (Stops cause rest) = refl

-- ---- links

unrolled_front : {T F X C : Type 0} (link : Link T F X C) → IsLink link → (kept : List X) (text : List T) (read : Reading T F (X ⊎ C)) → (link kept).read text ≡ read
    → with_front kept ((links_behind link kept).read text) ≡ with_front kept (followed read (linked (λ x rest. (links_behind link (kept ++ x ∷ [])).read rest)))
unrolled_front {T} {F} {X} {C} link is kept text read e =
    ap (with_front kept) (unrolled link is kept text ∙ ap (λ (r : Reading T F (X ⊎ C)). followed r (linked (λ x rest. (links_behind link (kept ++ x ∷ [])).read rest))) e)

-- an item goes to the items so far
pub link_item : {T F X C : Type 0} (link : Link T F X C) → IsLink link → (kept : List X) (text : List T) (total : Reading T F (List X × C)) (x : X) (rest : List T)
    → (link kept).read text ≡ Takes (inl x) rest → with_front kept ((links_behind link kept).read text) ≡ total
    → with_front (kept ++ x ∷ []) ((links_behind link (kept ++ x ∷ [])).read rest) ≡ total
link_item link is kept text total x rest e so_far =
    sym (front_item kept x ((links_behind link (kept ++ x ∷ [])).read rest)) ∙ sym (unrolled_front link is kept text (Takes (inl x) rest) e) ∙ so_far

-- the end gives all items
pub link_end : {T F X C : Type 0} (link : Link T F X C) → IsLink link → (kept : List X) (text : List T) (total : Reading T F (List X × C)) (c : C) (rest : List T)
    → (link kept).read text ≡ Takes (inr c) rest → with_front kept ((links_behind link kept).read text) ≡ total → total ≡ Takes (kept, c) rest
link_end {T} {F} {X} {C} link is kept text total c rest e so_far =
    sym so_far ∙ unrolled_front link is kept text (Takes (inr c) rest) e ∙ ap (λ (xs : List X). let q : List X × C = (xs, c) in Takes q rest) (append-nil kept)

-- a refusal refuses all
pub link_stop : {T F X C : Type 0} (link : Link T F X C) → IsLink link → (kept : List X) (text : List T) (total : Reading T F (List X × C)) (cause : Cause F) (rest : List T)
    → (link kept).read text ≡ Stops cause rest → with_front kept ((links_behind link kept).read text) ≡ total → total ≡ Stops cause rest
link_stop link is kept text total cause rest e so_far = sym so_far ∙ unrolled_front link is kept text (Stops cause rest) e

-- ---- items up to a close

as_item : {T F X Y : Type 0} (test : T → Bool) (g : Grammar T F X) (h : Grammar T F Y) (text : List T) (read : Reading T F X) → begins test text ≡ true → g.read text ≡ read → (either test g h).read text ≡ mapped inl read
as_item test g h text read b e = ap (λ (b : Bool). read_either b g h text) b ∙ ap (mapped inl) e

as_close : {T F X Y : Type 0} (test : T → Bool) (g : Grammar T F X) (h : Grammar T F Y) (text : List T) (read : Reading T F Y) → begins test text ≡ false → h.read text ≡ read → (either test g h).read text ≡ mapped inr read
as_close test g h text read b e = ap (λ (b : Bool). read_either b g h text) b ∙ ap (mapped inr) e

-- what is read behind these items
abbrev pub behind_items : {T F X C : Type 0} → Repeat T F X C → List X → List T → Reading T F (List X × C)
behind_items r kept text = (links_behind (λ kept. either r.goes_on (r.item kept) (r.close kept)) kept).read text

pub item_taken : {T F X C : Type 0} (r : Repeat T F X C) → IsRepeat r → (kept : List X) (text : List T) (total : Reading T F (List X × C)) (x : X) (rest : List T)
    → begins r.goes_on text ≡ true → (r.item kept).read text ≡ Takes x rest → with_front kept (behind_items r kept text) ≡ total
    → with_front (kept ++ x ∷ []) (behind_items r (kept ++ x ∷ []) rest) ≡ total
item_taken r is kept text total x rest b e so_far =
    link_item (λ kept. either r.goes_on (r.item kept) (r.close kept)) (many_links r is) kept text total x rest (as_item r.goes_on (r.item kept) (r.close kept) text (Takes x rest) b e) so_far

pub item_refused : {T F X C : Type 0} (r : Repeat T F X C) → IsRepeat r → (kept : List X) (text : List T) (total : Reading T F (List X × C)) (cause : Cause F) (rest : List T)
    → begins r.goes_on text ≡ true → (r.item kept).read text ≡ Stops cause rest → with_front kept (behind_items r kept text) ≡ total → total ≡ Stops cause rest
item_refused r is kept text total cause rest b e so_far =
    link_stop (λ kept. either r.goes_on (r.item kept) (r.close kept)) (many_links r is) kept text total cause rest (as_item r.goes_on (r.item kept) (r.close kept) text (Stops cause rest) b e) so_far

pub close_taken : {T F X C : Type 0} (r : Repeat T F X C) → IsRepeat r → (kept : List X) (text : List T) (total : Reading T F (List X × C)) (c : C) (rest : List T)
    → begins r.goes_on text ≡ false → (r.close kept).read text ≡ Takes c rest → with_front kept (behind_items r kept text) ≡ total → total ≡ Takes (kept, c) rest
close_taken r is kept text total c rest b e so_far =
    link_end (λ kept. either r.goes_on (r.item kept) (r.close kept)) (many_links r is) kept text total c rest (as_close r.goes_on (r.item kept) (r.close kept) text (Takes c rest) b e) so_far

pub close_refused : {T F X C : Type 0} (r : Repeat T F X C) → IsRepeat r → (kept : List X) (text : List T) (total : Reading T F (List X × C)) (cause : Cause F) (rest : List T)
    → begins r.goes_on text ≡ false → (r.close kept).read text ≡ Stops cause rest → with_front kept (behind_items r kept text) ≡ total → total ≡ Stops cause rest
close_refused r is kept text total cause rest b e so_far =
    link_stop (λ kept. either r.goes_on (r.item kept) (r.close kept)) (many_links r is) kept text total cause rest (as_close r.goes_on (r.item kept) (r.close kept) text (Stops cause rest) b e) so_far

-- an item leaves fewer tokens, so the loop ends
pub item_shortens : {T F X C : Type 0} (r : Repeat T F X C) → IsRepeat r → (kept : List X) (text : List T) (x : X) (rest : List T) → (r.item kept).read text ≡ Takes x rest → length rest < length text
item_shortens {T} {F} {X} {C} r is kept text x rest e =
    let tell = subst (Tells (r.item kept) text) e ((is.item kept).tells text) in
    shorter text ((r.item kept).spell x) rest (length text) (led_at_all r.goes_on true ((r.item kept).spell x) (is.begins kept x)) tell.0 (omega arith)
