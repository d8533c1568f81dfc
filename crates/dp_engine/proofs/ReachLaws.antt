-- The places of the parts on each variable, below a bound and behind it.
use Rattle.std.proofs.Common.{◌≡◌, ℕ, zero, suc, ◌+◌, ◌<◌, ◌≤◌, Bool, true, false, cond, List, [], ◌∷◌, ◌++◌, length, drop, take, get_or, set, nat_lt, Option, Some, None, Result, Ok, Err, OnOk, OnErr, IsSomeAnd, refl, sym, ◌∙◌, ap, subst, inl, inr, arith, append-nil, append_assoc}
use Rattle.std.specs.List.{filter}
use Rattle.std.proofs.lemmas.Bool.{cases_lt, le-ltb, lt-ltb}
use Rattle.std.proofs.lemmas.List.{get_or_past, length-set}
use Rattle.std.specs.List.Sorted.{IsPartitionPoint, IsPartitionedBy}
use Rattle.std.proofs.lemmas.List.Sorted.{IsPartitionedBy-ltb}
use Rattle.dp_base.specs.Lists.{Climbs, Each}
use Rattle.dp_base.proofs.Lists.{Each-among, Each-from_among, Each-get_or}
use Rattle.dp_engine.specs.Placed.{Placed}
use Rattle.dp_engine.specs.Reaches.{below, joined, own_lists}
use Rattle.dp_engine.specs.Woken.{IsIndex, entered, is_of, places_on, with_woken}
use Rattle.dp_engine.proofs.WokenLaws.{entered-length}

-- ---- places below a bound

-- places one after the other
pub with_woken-append : (ws : List Bool) (ks js : List ℕ) → with_woken ws (ks ++ js) ≡ with_woken (with_woken ws ks) js
with_woken-append ws [] js = refl
with_woken-append ws (k ∷ ks) js = with_woken-append (set ws k true) ks js

take_filter : (p : ℕ → Bool) (ks : List ℕ) (i d : ℕ) → i ≤ length ks → ((k : ℕ) → k < i → p (get_or ks k d) ≡ true) → ((k : ℕ) → i ≤ k → k < length ks → p (get_or ks k d) ≡ false) → take i ks ≡ filter p ks
take_filter p [] zero d h t f = refl
take_filter p [] (suc i) d h t f = refl
take_filter p (k ∷ ks) zero d h t f =
    take_filter p ks zero d (omega arith) (λ j l. absurd (omega arith)) (λ j l m. f (suc j) (omega arith) (omega arith))
    ∙ sym (ap (λ c. cond c (k ∷ filter p ks) (filter p ks)) (f zero (omega arith) (omega arith)))
take_filter p (k ∷ ks) (suc i) d h t f =
    ap (λ js. k ∷ js) (take_filter p ks i d (omega arith) (λ j l. t (suc j) (omega arith)) (λ j l m. f (suc j) (omega arith) (omega arith)))
    ∙ sym (ap (λ c. cond c (k ∷ filter p ks) (filter p ks)) (t zero (omega arith)))

climbs_rise : (ks : List ℕ) → Climbs ks → (i j d : ℕ) → i ≤ j → j < length ks → get_or ks i d ≤ get_or ks j d
climbs_rise [] c i j d h l = absurd (omega arith)
climbs_rise (k ∷ ks) c zero zero d h l = omega arith
climbs_rise (k ∷ ks) c zero (suc j) d h l = let less : k < get_or ks j d = Each-get_or (λ y. k < y) ks j d (omega arith) c.0 in omega arith
climbs_rise (k ∷ ks) c (suc i) zero d h l = absurd (omega arith)
climbs_rise (k ∷ ks) c (suc i) (suc j) d h l = climbs_rise ks c.1 i j d (omega arith) (omega arith)

-- of places that ascend those below a bound come first
pub below-parted : (b : ℕ) (ks : List ℕ) → Climbs ks → IsPartitionedBy (λ k. nat_lt k b) ks
below-parted b ks c = IsPartitionedBy-ltb (λ k. k) ks b (λ i j d h l. climbs_rise ks c i j d h l)

-- and they are all before the first that is not below it
pub below-first : (b : ℕ) (ks : List ℕ) (i : ℕ) → i ≤ length ks → IsPartitionPoint (λ k. nat_lt k b ≡ true) (λ k. nat_lt k b ≡ false) ks i → take i ks ≡ below b ks
below-first b ks i h p = take_filter (λ k. nat_lt k b) ks i 0 h (λ k l. p.0 k 0 (omega arith) l) (λ k l m. p.1 k 0 l m)

-- a fact of each place of two lists is one of each list's
pub each-both : (n : ℕ) (ks js : List ℕ) → Each (λ j. j < n) (ks ++ js) → Each (λ j. j < n) ks × Each (λ j. j < n) js
each-both n [] js h = (tt, h)
each-both n (k ∷ ks) js h = let r = each-both n ks js h.1 in ((h.0, r.0), r.1)

abbrev one_if : Bool → ℕ → List ℕ
one_if c k = cond c (k ∷ []) []

none_step : (c : Bool) (b k : ℕ) (ks : List ℕ) → b ≤ k → below b (one_if c k ++ ks) ≡ below b ks
none_step true b k ks l = ap (λ t. cond t (k ∷ below b ks) (below b ks)) (le-ltb k b l)
none_step false b k ks l = refl

here_step : (c : Bool) (b k : ℕ) (ks : List ℕ) → k < b → below b (one_if c k ++ ks) ≡ one_if c k ++ below b ks
here_step true b k ks l = ap (λ t. cond t (k ∷ below b ks) (below b ks)) (lt-ltb k b l)
here_step false b k ks l = refl

none_below : (x k b : ℕ) (parts : List Placed) → b ≤ k → below b (places_on x k parts) ≡ []
none_below x k b [] l = refl
none_below x k b (q ∷ qs) l = none_step (is_of x q.face.scope) b k (places_on x (k + 1) qs) l ∙ none_below x (k + 1) b qs (omega arith)

-- of all parts on a variable those before the bound are those of the first parts
pub below-places : (x k b : ℕ) (parts more : List Placed) → b ≡ k + length parts → below b (places_on x k (parts ++ more)) ≡ places_on x k parts
below-places x k b [] more e = none_below x k b more (omega arith)
below-places x k b (q ∷ qs) more e =
    here_step (is_of x q.face.scope) b k (places_on x (k + 1) (qs ++ more)) (omega arith)
    ∙ ap (λ ks. one_if (is_of x q.face.scope) k ++ ks) (below-places x (k + 1) b qs more (omega arith))

from_head : (c : Bool) (k : ℕ) (js : List ℕ) → Each (λ j. k + 1 ≤ j) js → Each (λ j. k ≤ j) (one_if c k ++ js)
from_head true k js h = (omega arith, Each-from_among (λ j. k ≤ j) js (λ j m. let l : k + 1 ≤ j = Each-among (λ i. k + 1 ≤ i) js h j m in omega arith))
from_head false k js h = Each-from_among (λ j. k ≤ j) js (λ j m. let l : k + 1 ≤ j = Each-among (λ i. k + 1 ≤ i) js h j m in omega arith)

places_on-from : (x k : ℕ) (parts : List Placed) → Each (λ j. k ≤ j) (places_on x k parts)
places_on-from x k [] = tt
places_on-from x k (q ∷ qs) = from_head (is_of x q.face.scope) k (places_on x (k + 1) qs) (places_on-from x (k + 1) qs)

climb_head : (c : Bool) (k : ℕ) (js : List ℕ) → Each (λ j. k + 1 ≤ j) js → Climbs js → Climbs (one_if c k ++ js)
climb_head true k js h c = (Each-from_among (λ j. k < j) js (λ j m. let l : k + 1 ≤ j = Each-among (λ i. k + 1 ≤ i) js h j m in omega arith), c)
climb_head false k js h c = c

places_on-climb : (x k : ℕ) (parts : List Placed) → Climbs (places_on x k parts)
places_on-climb x k [] = tt
places_on-climb x k (q ∷ qs) = climb_head (is_of x q.face.scope) k (places_on x (k + 1) qs) (places_on-from x (k + 1) qs) (places_on-climb x (k + 1) qs)

-- the places in an index ascend
pub index-climbs : (n : ℕ) (parts : List Placed) (lists : List (List ℕ)) → IsIndex n parts lists → (x : ℕ) → Climbs (get_or lists x [])
index-climbs n parts lists i x = elim (cases_lt x n) [
  | inl l ↦ subst Climbs (sym (i.each x l)) (places_on-climb x 0 parts)
  | inr l ↦ let c = i.count in subst Climbs (sym (get_or_past lists x [] (omega arith))) tt
]

-- ---- joined lists

get_drop : (lists : List (List ℕ)) (x : ℕ) → get_or (drop 1 lists) x [] ≡ get_or lists (suc x) []
get_drop [] x = refl
get_drop (ks ∷ lists) x = refl

pub length-joined : (b : ℕ) (lists own : List (List ℕ)) → length (joined b lists own) ≡ length lists
length-joined b [] own = refl
length-joined b (ks ∷ lists) own = ap suc (length-joined b lists (drop 1 own))

pub get-joined : (b : ℕ) (lists own : List (List ℕ)) (x : ℕ) → x < length lists → get_or (joined b lists own) x [] ≡ below b (get_or lists x []) ++ get_or own x []
get-joined b [] own x l = absurd (omega arith)
get-joined b (ks ∷ lists) own zero l = refl
get-joined b (ks ∷ lists) own (suc x) l = get-joined b lists (drop 1 own) x (omega arith) ∙ ap (λ js. below b (get_or lists x []) ++ js) (get_drop own x)

-- the same of lists that are known as the joined ones
pub joined-count : (b : ℕ) (lists own view : List (List ℕ)) → joined b lists own ≡ view → length view ≡ length lists
joined-count b lists own view v = ap (λ (ls : List (List ℕ)). length ls) (sym v) ∙ length-joined b lists own

pub joined-at : (b : ℕ) (lists own view : List (List ℕ)) (x : ℕ) → joined b lists own ≡ view → x < length view → get_or view x [] ≡ below b (get_or lists x []) ++ get_or own x []
joined-at b lists own view x v l =
    ap (λ (ls : List (List ℕ)). get_or ls x []) (sym v) ∙ get-joined b lists own x (subst (λ n. x < n) (joined-count b lists own view v) l)

-- own lists with the same places join to the same
pub joined-same : (b : ℕ) (lists own other : List (List ℕ)) → ((x : ℕ) → get_or own x [] ≡ get_or other x []) → joined b lists own ≡ joined b lists other
joined-same b [] own other h = refl
joined-same b (ks ∷ lists) own other h =
    ap (λ js. (below b ks ++ js) ∷ joined b lists (drop 1 own)) (h zero)
    ∙ ap (λ (ls : List (List ℕ)). (below b ks ++ get_or other 0 []) ∷ ls) (joined-same b lists (drop 1 own) (drop 1 other) (λ x. get_drop own x ∙ h (suc x) ∙ sym (get_drop other x)))

joined_set : (b : ℕ) (lists own : List (List ℕ)) (x k : ℕ) → x < length lists → length own ≡ length lists
    → joined b lists (set own x (get_or own x [] ++ k ∷ [])) ≡ set (joined b lists own) x (get_or (joined b lists own) x [] ++ k ∷ [])
joined_set b [] own x k l e = absurd (omega arith)
joined_set b (ks ∷ lists) [] x k l e = absurd (omega arith)
joined_set b (ks ∷ lists) (js ∷ own) zero k l e = ap (λ is. is ∷ joined b lists own) (sym (append_assoc (below b ks) js (k ∷ [])))
joined_set b (ks ∷ lists) (js ∷ own) (suc x) k l e = ap (λ (ls : List (List ℕ)). (below b ks ++ js) ∷ ls) (joined_set b lists own x k (omega arith) (omega arith))

-- a place that is entered among the own lists is entered among the joined ones
pub joined-entered : (b : ℕ) (lists own : List (List ℕ)) (k : ℕ) (xs : List ℕ) → Each (λ x. x < length lists) xs → length own ≡ length lists → joined b lists (entered own k xs) ≡ entered (joined b lists own) k xs
joined-entered b lists own k [] h e = refl
joined-entered b lists own k (x ∷ xs) h e =
    joined-entered b lists (set own x (get_or own x [] ++ k ∷ [])) k xs h.1 (length-set own x (get_or own x [] ++ k ∷ []) ∙ e)
    ∙ ap (λ (ls : List (List ℕ)). entered ls k xs) (joined_set b lists own x k h.0 e)

-- the index below the bound is that of the first parts
pub joined-index : (n b : ℕ) (parts more : List Placed) (lists : List (List ℕ)) → b ≡ length parts → IsIndex n (parts ++ more) lists → IsIndex n parts (joined b lists [])
joined-index n b parts more lists e i = record {
  count = length-joined b lists [] ∙ i.count;
  each = λ x l. get-joined b lists [] x (subst (λ m. x < m) (sym i.count) l)
      ∙ append-nil (below b (get_or lists x []))
      ∙ ap (below b) (i.each x l)
      ∙ below-places x 0 b parts more (omega arith);
}

-- ---- own lists that may not be there

pub entered-count : {T E : Type 0} (r : Result T E) (now before : List (List ℕ)) (k : ℕ) (xs : List ℕ) → OnOk r (now ≡ entered before k xs) → OnErr r (now ≡ before) → length now ≡ length before
entered-count (Ok x) now before k xs h e = ap (λ (ls : List (List ℕ)). length ls) h ∙ entered-length before k xs
entered-count (Err x) now before k xs h e = ap (λ (ls : List (List ℕ)). length ls) e

pub some-each : (o : Option (List (List ℕ))) (n : ℕ) (xs : List ℕ) → IsSomeAnd o (λ ls. length ls ≡ n) → Each (λ x. x < n) xs → IsSomeAnd o (λ ls. Each (λ x. x < length ls) xs)
some-each None n xs h e = h
some-each (Some ls) n xs h e = subst (λ m. Each (λ x. x < m) xs) (sym h) e

pub some-count : (o : Option (List (List ℕ))) (n : ℕ) → IsSomeAnd o (λ ls. length ls ≡ n) → length (own_lists o) ≡ n
some-count None n h = absurd h
some-count (Some ls) n h = h

pub on-ok : {T E P Q : Type 0} (r : Result T E) → (P → Q) → OnOk r P → OnOk r Q
on-ok (Ok x) f h = f h
on-ok (Err x) f h = h

pub on-err : {T E P Q : Type 0} (r : Result T E) → (P → Q) → OnErr r P → OnErr r Q
on-err (Ok x) f h = h
on-err (Err x) f h = f h

-- a nogood is entered among own lists that were made for it
pub joined-made : (b n : ℕ) (lists : List (List ℕ)) (old made now : Option (List (List ℕ))) (view : List (List ℕ)) (k : ℕ) (xs : List ℕ) → joined b lists (own_lists old) ≡ view → IsSomeAnd made (λ ls. length ls ≡ n) → n ≡ length lists
    → ((x : ℕ) → get_or (own_lists made) x [] ≡ get_or (own_lists old) x []) → Each (λ x. x < length view) xs → own_lists now ≡ entered (own_lists made) k xs → joined b lists (own_lists now) ≡ entered view k xs
joined-made b n lists old made now view k xs v there e same on h =
    let count : length view ≡ length lists = ap (λ (ls : List (List ℕ)). length ls) (sym v) ∙ length-joined b lists (own_lists old) in
    ap (joined b lists) h
    ∙ joined-entered b lists (own_lists made) k xs (subst (λ m. Each (λ x. x < m) xs) count on) (some-count made n there ∙ e)
    ∙ ap (λ (ls : List (List ℕ)). entered ls k xs) (joined-same b lists (own_lists made) (own_lists old) same ∙ v)
