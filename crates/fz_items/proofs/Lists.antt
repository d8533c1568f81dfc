-- What a loop that reads a list keeps: the list is read as the items so far and what is read behind them.
use Rattle.std.proofs.Common.{◌≡◌, ℕ, ◌+◌, ◌<◌, ◌≤◌, ◌||◌, Bool, true, false, inr, List, [], ◌∷◌, ◌++◌, length, Some, None, if◌then◌else◌, map, refl, sym, ap, subst, ◌∙◌, arith, length-append}
use Rattle.std.specs.List.{list_any}
use Rattle.std.proofs.lemmas.List.{map-append}
use Rattle.dp_grammar.specs.Grammar.{Cause, Reading, Takes, Stops, Grammar}
use Rattle.dp_grammar.specs.Leaf.{mark, valued, only}
use Rattle.dp_grammar.specs.Chain.{followed, mapped, chain, behind_mark}
use Rattle.dp_grammar.specs.Choice.{begins, read_either}
use Rattle.dp_grammar.specs.Listed.{Listing, further, list_of, listed, IsListing}
use Rattle.dp_grammar.specs.Many.{many, IsRepeat}
use Rattle.dp_grammar.proofs.Chains.{behind_mark_lawful}
use Rattle.dp_grammar.proofs.Leaves.{mark_lawful}
use Rattle.dp_grammar.proofs.Loops.{with_front, behind_items, item_taken, item_refused, close_taken, close_refused, item_shortens}
use Rattle.fz_items.specs.Standing.{behind}

further_is : {T F X : Type 0} (l : Listing T F X) → IsListing l → (x : X) → IsRepeat (further l x)
further_is l is x = record {
  item = λ more. behind_mark_lawful (mark l.is_separator l.separator) (l.item (x ∷ more)) (mark_lawful l.is_separator l.separator is.separates) (is.item (x ∷ more));
  close = λ more. is.close (x ∷ more);
  begins = λ more y. is.separates.itself;
  ends = λ more c. is.apart (x ∷ more) c;
}

-- the list's reading `total` is that of the items so far, which are not none, and of what is behind them
pub record IsListed {T F X : Type 0} (l : Listing T F X) (total : Reading T F (List X)) (kept : List X) (text : List T) : Type 0 where
  pub first : X
  pub more : List X
  pub kept_is : kept ≡ first ∷ more
  pub so_far : mapped (λ p. first ∷ p.0) (with_front more (behind_items (further l first) more text)) ≡ total

-- ---- behind a separator

unmapped : {T F X : Type 0} (r : Reading T F X) → mapped (λ p. p.1) (mapped (λ y. let p : Unit {0} × X = (tt, y) in p) r) ≡ r
unmapped (Takes x rest) = refl
unmapped (Stops cause rest) = refl

pub separated : {T F X : Type 0} (is : T → Bool) (t : T) (g : Grammar T F X) (text : List T) (r : Reading T F X) → begins is text ≡ true → g.read (behind text) ≡ r → (behind_mark (mark is t) g).read text ≡ r
separated is t g [] r b e = absurd cc
separated {T} {F} {X} is t g (u ∷ rest) r b e =
    ap (λ (b : Bool). mapped (λ p. p.1) (followed (valued (only {T = T} {F = F} is t None) (if b then Some tt else None) u rest) (λ x rest. mapped (λ y. let p : Unit {0} × X = (x, y) in p) (g.read rest)))) b
    ∙ unmapped (g.read rest) ∙ e

-- ---- at the first item

begun : {T F X : Type 0} (x : X) (r : Reading T F (List X × Unit {0})) → mapped list_of (mapped inr (mapped (λ y. let p : X × (List X × Unit {0}) = (x, y) in p) r)) ≡ mapped (λ p. x ∷ p.0) (with_front [] r)
begun x (Takes p rest) = refl
begun x (Stops cause rest) = refl

at_first : {T F X : Type 0} (l : Listing T F X) (text : List T) (r : Reading T F X) → begins l.is_close text ≡ false → (l.item []).read text ≡ r
    → (listed l).read text ≡ mapped list_of (mapped inr (followed r (λ x rest. mapped (λ y. let p : X × (List X × Unit {0}) = (x, y) in p) ((many (further l x)).read rest))))
at_first {T} {F} {X} l text r b e =
    ap (λ (b : Bool). mapped list_of (read_either b (l.close []) (chain (l.item []) (λ x. many (further l x))) text)) b
    ∙ ap (λ (r : Reading T F X). mapped list_of (mapped inr (followed r (λ x rest. mapped (λ y. let p : X × (List X × Unit {0}) = (x, y) in p) ((many (further l x)).read rest))))) e

pub listed_first : {T F X : Type 0} (l : Listing T F X) (text : List T) (x : X) (rest : List T) → begins l.is_close text ≡ false → (l.item []).read text ≡ Takes x rest → IsListed l ((listed l).read text) (x ∷ []) rest
listed_first l text x rest b e = record {
  first = x;
  more = [];
  kept_is = refl;
  so_far = sym (begun x ((many (further l x)).read rest)) ∙ sym (at_first l text (Takes x rest) b e);
}

pub listed_refused_first : {T F X : Type 0} (l : Listing T F X) (text : List T) (cause : Cause F) (rest : List T) → begins l.is_close text ≡ false → (l.item []).read text ≡ Stops cause rest → (listed l).read text ≡ Stops cause rest
listed_refused_first l text cause rest b e = at_first l text (Stops cause rest) b e

-- ---- at a further item, or the close

pub listed_more : {T F X : Type 0} (l : Listing T F X) → IsListing l → (total : Reading T F (List X)) (kept : List X) (text : List T) (x : X) (rest : List T)
    → begins l.is_separator text ≡ true → (l.item kept).read (behind text) ≡ Takes x rest → IsListed l total kept text → IsListed l total (kept ++ x ∷ []) rest
listed_more {T} {F} {X} l is total kept text x rest b e h =
    let item : (l.item (h.first ∷ h.more)).read (behind text) ≡ Takes x rest = subst (λ (xs : List X). (l.item xs).read (behind text) ≡ Takes x rest) h.kept_is e in
    record {
      first = h.first;
      more = h.more ++ x ∷ [];
      kept_is = ap (λ (xs : List X). xs ++ x ∷ []) h.kept_is;
      so_far = ap (λ (r : Reading T F (List X × Unit {0})). mapped (λ p. h.first ∷ p.0) r)
          (item_taken (further l h.first) (further_is l is h.first) h.more text (with_front h.more (behind_items (further l h.first) h.more text)) x rest b
          (separated l.is_separator l.separator (l.item (h.first ∷ h.more)) text (Takes x rest) b item) refl)
          ∙ h.so_far;
    }

pub listed_refused : {T F X : Type 0} (l : Listing T F X) → IsListing l → (total : Reading T F (List X)) (kept : List X) (text : List T) (cause : Cause F) (rest : List T)
    → begins l.is_separator text ≡ true → (l.item kept).read (behind text) ≡ Stops cause rest → IsListed l total kept text → total ≡ Stops cause rest
listed_refused {T} {F} {X} l is total kept text cause rest b e h =
    let item : (l.item (h.first ∷ h.more)).read (behind text) ≡ Stops cause rest = subst (λ (xs : List X). (l.item xs).read (behind text) ≡ Stops cause rest) h.kept_is e in
    sym h.so_far ∙ ap (λ (r : Reading T F (List X × Unit {0})). mapped (λ p. h.first ∷ p.0) r)
    (item_refused (further l h.first) (further_is l is h.first) h.more text (with_front h.more (behind_items (further l h.first) h.more text)) cause rest b
    (separated l.is_separator l.separator (l.item (h.first ∷ h.more)) text (Stops cause rest) b item) refl)

pub listed_closed : {T F X : Type 0} (l : Listing T F X) → IsListing l → (total : Reading T F (List X)) (kept : List X) (text : List T) (u : Unit {0}) (rest : List T)
    → begins l.is_separator text ≡ false → (l.close kept).read text ≡ Takes u rest → IsListed l total kept text → total ≡ Takes kept rest
listed_closed {T} {F} {X} l is total kept text u rest b e h =
    let close : (l.close (h.first ∷ h.more)).read text ≡ Takes u rest = subst (λ (xs : List X). (l.close xs).read text ≡ Takes u rest) h.kept_is e in
    sym h.so_far ∙ ap (λ (r : Reading T F (List X × Unit {0})). mapped (λ p. h.first ∷ p.0) r)
    (close_taken (further l h.first) (further_is l is h.first) h.more text (with_front h.more (behind_items (further l h.first) h.more text)) u rest b close refl)
    ∙ ap (λ (xs : List X). let r : Reading T F (List X) = Takes xs rest in r) (sym h.kept_is)

pub listed_unclosed : {T F X : Type 0} (l : Listing T F X) → IsListing l → (total : Reading T F (List X)) (kept : List X) (text : List T) (cause : Cause F) (rest : List T)
    → begins l.is_separator text ≡ false → (l.close kept).read text ≡ Stops cause rest → IsListed l total kept text → total ≡ Stops cause rest
listed_unclosed {T} {F} {X} l is total kept text cause rest b e h =
    let close : (l.close (h.first ∷ h.more)).read text ≡ Stops cause rest = subst (λ (xs : List X). (l.close xs).read text ≡ Stops cause rest) h.kept_is e in
    sym h.so_far ∙ ap (λ (r : Reading T F (List X × Unit {0})). mapped (λ p. h.first ∷ p.0) r)
    (close_refused (further l h.first) (further_is l is h.first) h.more text (with_front h.more (behind_items (further l h.first) h.more text)) cause rest b close refl)

-- ---- the loop ends

pub listed_shortens : {T F X : Type 0} (l : Listing T F X) → IsListing l → (total : Reading T F (List X)) (kept : List X) (text : List T) (x : X) (rest : List T)
    → begins l.is_separator text ≡ true → (l.item kept).read (behind text) ≡ Takes x rest → IsListed l total kept text → length rest < length text
listed_shortens {T} {F} {X} l is total kept text x rest b e h =
    let item : (l.item (h.first ∷ h.more)).read (behind text) ≡ Takes x rest = subst (λ (xs : List X). (l.item xs).read (behind text) ≡ Takes x rest) h.kept_is e in
    item_shortens (further l h.first) (further_is l is h.first) h.more text x rest (separated l.is_separator l.separator (l.item (h.first ∷ h.more)) text (Takes x rest) b item)

-- ---- items of the code, seen as items

pub listed_pushed : {T F X Y : Type 0} (l : Listing T F X) → IsListing l → (view : Y → X) (total : Reading T F (List X)) (ys pushed : List Y) (text : List T) (y : Y) (rest : List T)
    → pushed ≡ ys ++ y ∷ [] → begins l.is_separator text ≡ true → (l.item (map view ys)).read (behind text) ≡ Takes (view y) rest → IsListed l total (map view ys) text → IsListed l total (map view pushed) rest
listed_pushed {T} {F} {X} l is view total ys pushed text y rest p b e h =
    subst (λ (xs : List X). IsListed l total xs rest) (sym (map-append view ys (y ∷ [])) ∙ ap (map view) (sym p)) (listed_more l is total (map view ys) text (view y) rest b e h)

-- a test of the items of the code
pub any_mapped : {X Y : Type 0} (p : Y → Bool) (f : X → Y) (xs : List X) → list_any (λ x. p (f x)) xs ≡ list_any p (map f xs)
any_mapped p f [] = refl
any_mapped p f (x ∷ xs) = ap (λ b. p (f x) || b) (any_mapped p f xs)

-- there is room for one more
pub room_kept : {Y : Type 0} (n most : ℕ) (ys pushed : List Y) (y : Y) → pushed ≡ ys ++ y ∷ [] → n + length ys < most → n + length pushed ≤ most
room_kept n most ys pushed y p h = let e = ap length p ∙ length-append ys (y ∷ []) in omega (arith, e, h)
