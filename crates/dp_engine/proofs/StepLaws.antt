-- Steps of the engine over woken parts: what a search finds, and what is kept and counted after a turn.
use Rattle.std.proofs.Common.{◌≡◌, ℕ, zero, suc, ◌+◌, ◌-◌, ◌<◌, ◌≤◌, Bool, true, false, cond, ◌⊎◌, List, [], ◌∷◌, ◌++◌, length, get_or, set, take, Option, Some, None, option_map, Result, Ok, Err, OnOk, slice_get, refl, sym, ◌∙◌, ap, subst, inl, inr, arith}
use Rattle.std.specs.Result.{MatchResult, IsErrAnd, is_err}
use Rattle.std.proofs.lemmas.Bool.{cases_Bool, false≢true, both_ways}
use Rattle.std.proofs.lemmas.List.{get_or-set_same, length-set}
use Rattle.std.proofs.lemmas.Option.{slice_get_within}
use Rattle.std.proofs.lemmas.Result.{err_from_is_err_and}
use Rattle.dp_base.specs.Lists.{Among, Each}
use Rattle.dp_base.proofs.Lists.{Each-from_among, length-filter_cases}
use Rattle.dp_domain.specs.Atoms.{Atomic}
use Rattle.dp_domain.specs.States.{AreOf, Domains, cut, cut_all, is_dead}
use Rattle.dp_domain.specs.Turns.{IsTurn, or_else, turn_of}
use Rattle.dp_domain.specs.declared.found.Found.{Found}
use Rattle.dp_domain.specs.declared.found.Found.TheVariants.{Clash as Clashes, Atom as Gives}
use Rattle.dp_engine.specs.declared.part_id.PartId.{PartId}
use Rattle.dp_engine.specs.declared.turn.Turn.{Turn}
use Rattle.dp_engine.specs.declared.turn.Turn.TheVariants.{Atom, Clash, Quiet, Empty}
use Rattle.dp_engine.specs.Placed.{AreSound, IsSound, Placed}
use Rattle.dp_engine.specs.Rests.{Rest}
use Rattle.dp_engine.specs.Turns.{applied, atoms_of, first, told, told_or_quiet, turn_at}
use Rattle.dp_engine.specs.Woken.{ArePlaces, IsCounted, IsFirstWoken, IsFound, IsIndex, IsSearched, entered, owed_of, places_on, touch, with_woken, woken_after}
use Rattle.dp_engine.proofs.SearchSteps.{Each-at}
use Rattle.dp_engine.proofs.TurnLaws.{sound-turn, taking, turn-alive}
use Rattle.dp_engine.proofs.WokenLaws.{entered-length, in-index, index-push, is_of-there, length-places_on, owed-rest, places_on-below, with_woken-length, with_woken-one}

item_same : {A : Type 0} (x y : A) → ◌≡◌ {A = Option A} (Some x) (Some y) → x ≡ y
item_same x y e = cc

-- what a call that did not fail ensures
pub ok-part : {T E P : Type 0} (r : Result T E) → is_err r ≡ false → OnOk r P → P
ok-part (Ok x) e h = h
ok-part (Err x) e h = absurd (false≢true (sym e))

-- what is read at a place does not depend on what is read past the end
pub read-at : {A : Type 0} (xs : List A) (i : ℕ) (d e : A) → i < length xs → get_or xs i d ≡ get_or xs i e
read-at [] i d e h = absurd (omega arith)
read-at (x ∷ xs) zero d e h = refl
read-at (x ∷ xs) (suc i) d e h = read-at xs i d e (omega arith)

-- ---- places

-- a part stands at each place
pub part-there : (parts : List Placed) (k : ℕ) → k < length parts → (q : Placed) × (slice_get parts k ≡ Some q)
part-there [] k h = absurd (omega arith)
part-there (q ∷ qs) zero h = (q, refl)
part-there (q ∷ qs) (suc k) h = part-there qs k (omega arith)

in_list : (ws : List Bool) (k : ℕ) → k < length ws → get_or ws k false ≡ false → get_or ws k true ≡ false
in_list [] k h e = absurd (omega arith)
in_list (w ∷ ws) zero h e = e
in_list (w ∷ ws) (suc k) h e = in_list ws k (omega arith) e

get_past : {A : Type 0} (xs : List (List A)) (x : ℕ) → length xs ≤ x → get_or xs x [] ≡ []
get_past [] x h = refl
get_past (y ∷ xs) zero h = absurd (omega arith)
get_past (y ∷ xs) (suc x) h = get_past xs x (omega arith)

listed_cases : (x n : ℕ) → (x < n) ⊎ (n ≤ x)
listed_cases x n = grind arith

listed_below : (n : ℕ) (parts : List Placed) (lists : List (List ℕ)) → IsIndex n parts lists → (x k : ℕ) → Among k (get_or lists x []) → k < length parts
listed_below n parts lists index x k m = elim (listed_cases x n) [
  | inl l ↦ let b = places_on-below x 0 parts k (subst (λ ks. Among k ks) (index.each x l) m) in omega arith
  | inr g ↦ let c = index.count in absurd (subst (λ ks. Among k ks) (get_past lists x (omega arith)) m)
]

-- each place that is listed has its part
pub places-below : (n : ℕ) (parts : List Placed) (lists : List (List ℕ)) → IsIndex n parts lists → ArePlaces (length parts) lists
places-below n parts lists index = λ x. Each-from_among (λ k. k < length parts) (get_or lists x []) (λ k m. listed_below n parts lists index x k m)

-- ---- the index, part by part

-- the items up to a place and the one there
pub take-next : {A : Type 0} (xs : List A) (k : ℕ) (x : A) → slice_get xs k ≡ Some x → take (k + 1) xs ≡ take k xs ++ x ∷ []
take-next [] k x e = (cc)
take-next (y ∷ ys) zero x e = ap (λ z. z ∷ []) (item_same y x e)
take-next (y ∷ ys) (suc k) x e =
    let next : suc k + 1 ≡ suc (k + 1) = omega arith in
    ap (λ n. take n (y ∷ ys)) next ∙ ap (λ zs. y ∷ zs) (take-next ys k x e)

take_count : (parts : List Placed) (k : ℕ) → k < length parts → length (take k parts) ≡ k
take_count [] k h = absurd (omega arith)
take_count (p ∷ parts) zero h = refl
take_count (p ∷ parts) (suc k) h = ap suc (take_count parts k (omega arith))

-- the index with the part at the next place entered
pub index-next : (n : ℕ) (parts : List Placed) (lists now : List (List ℕ)) (k : ℕ) (q : Placed) → IsIndex n (take k parts) lists → AreSound n parts → slice_get parts k ≡ Some q → now ≡ entered lists k q.face.scope
    → IsIndex n (take (k + 1) parts) now
index-next n parts lists now k q i s e h =
    subst (λ (qs : List Placed). IsIndex n qs now) (sym (take-next parts k q e))
    (subst (IsIndex n (take k parts ++ q ∷ [])) (sym (h ∙ ap (λ m. entered lists m q.face.scope) (sym (take_count parts k (slice_get_within parts k q e)))))
    (index-push n (take k parts) lists q i (Each-at (IsSound n) parts k q s e)))

-- ---- entering a part, variable by variable

entered_last : (lists : List (List ℕ)) (k : ℕ) (xs : List ℕ) (x : ℕ) → entered lists k (xs ++ x ∷ []) ≡ set (entered lists k xs) x (get_or (entered lists k xs) x [] ++ k ∷ [])
entered_last lists k [] x = refl
entered_last lists k (y ∷ ys) x = entered_last (set lists y (get_or lists y [] ++ k ∷ [])) k ys x

-- the place is in the list of the next variable too
pub enter-step : (lists now : List (List ℕ)) (k at x : ℕ) (scope pushed : List ℕ) → now ≡ entered lists k (take at scope) → slice_get scope at ≡ Some x → pushed ≡ get_or now x [] ++ k ∷ []
    → set now x pushed ≡ entered lists k (take (at + 1) scope)
enter-step lists now k at x scope pushed e h p =
    ap (λ ks. set now x ks) p
    ∙ ap (λ (ls : List (List ℕ)). set ls x (get_or ls x [] ++ k ∷ [])) e
    ∙ sym (entered_last lists k (take at scope) x)
    ∙ ap (entered lists k) (sym (take-next scope at x h))

set_back : (lists : List (List ℕ)) (x : ℕ) (ks : List ℕ) → set (set lists x ks) x (get_or lists x []) ≡ lists
set_back [] x ks = refl
set_back (l ∷ lists) zero ks = refl
set_back (l ∷ lists) (suc x) ks = ap (λ ls. l ∷ ls) (set_back lists x ks)

-- and it is taken out again
pub leave-step : (lists now : List (List ℕ)) (k at x : ℕ) (scope popped : List ℕ) → x < length lists → now ≡ entered lists k (take (at + 1) scope) → slice_get scope at ≡ Some x
    → ((ks : List ℕ) (j : ℕ) → get_or now x [] ≡ ks ++ j ∷ [] → popped ≡ ks) → set now x popped ≡ entered lists k (take at scope)
leave-step lists now k at x scope popped l e h p =
    let before : List (List ℕ) = entered lists k (take at scope) in
    let there : x < length before = let c = entered-length lists k (take at scope) in omega arith in
    let with : now ≡ set before x (get_or before x [] ++ k ∷ []) = e ∙ ap (entered lists k) (take-next scope at x h) ∙ entered_last lists k (take at scope) x in
    let old : popped ≡ get_or before x [] = p (get_or before x []) k (ap (λ (ls : List (List ℕ)). get_or ls x []) with ∙ get_or-set_same before x (get_or before x [] ++ k ∷ []) [] there) in
    ap (λ (ls : List (List ℕ)). set ls x popped) with
    ∙ ap (λ ks. set (set before x (get_or before x [] ++ k ∷ [])) x ks) old
    ∙ set_back before x (get_or before x [] ++ k ∷ [])

-- one empty list more
pub empty-next : (lists : List (List ℕ)) → ((x : ℕ) → get_or lists x [] ≡ []) → (x : ℕ) → get_or (lists ++ [] ∷ []) x [] ≡ []
empty-next [] h zero = refl
empty-next [] h (suc x) = refl
empty-next (l ∷ lists) h zero = h zero
empty-next (l ∷ lists) h (suc x) = empty-next lists (λ y. h (suc y)) x

-- ---- what is found

first_nowhere : (parts : List Placed) (d : Domains) → ((k : ℕ) (q : Placed) → slice_get parts k ≡ Some q → turn_of q.face d ≡ None) → first parts d ≡ None
first_nowhere [] d h = refl
first_nowhere (q ∷ qs) d h = ap (λ o. or_else (option_map (taking d q) o) (first qs d)) (h zero q refl) ∙ first_nowhere qs d (λ k p e. h (suc k) p e)

first_at : (parts : List Placed) (d : Domains) (place : ℕ) (q : Placed) (f : Found) → slice_get parts place ≡ Some q → turn_of q.face d ≡ Some f
    → ((k : ℕ) (p : Placed) → k < place → slice_get parts k ≡ Some p → turn_of p.face d ≡ None) → first parts d ≡ Some (taking d q f)
first_at [] d place q f e g h = (cc)
first_at (p ∷ ps) d zero q f e g h =
    let same : p ≡ q = item_same p q e in
    ap (λ (r : Placed). first (r ∷ ps) d) same ∙ ap (λ o. or_else (option_map (taking d q) o) (first ps d)) g
first_at (p ∷ ps) d (suc i) q f e g h =
    let start : 0 < suc i = omega arith in
    ap (λ o. or_else (option_map (taking d p) o) (first ps d)) (h zero p start refl)
    ∙ first_at ps d i q f e g (λ k r l m. let next : suc k < suc i = omega arith in h (suc k) r next m)

resting : (parts : List Placed) (ws : List Bool) (d : Domains) (k : ℕ) (q : Placed) → length ws ≡ length parts → is_dead d ≡ false → Rest parts ws d → slice_get parts k ≡ Some q → get_or ws k false ≡ false → turn_of q.face d ≡ None
resting parts ws d k q l alive r e w =
    let there : k < length ws = let h = slice_get_within parts k q e in omega arith in
    r k q e (in_list ws k there w) d refl alive (λ x m. refl)

-- where all parts rest, all is quiet
pub all-quiet : (parts : List Placed) (ws : List Bool) (d : Domains) → length ws ≡ length parts → is_dead d ≡ false → Rest parts ws d → ((k : ℕ) → get_or ws k false ≡ false) → Quiet ≡ turn_at parts d
all-quiet parts ws d l alive r none =
    sym (ap (λ b. cond b Empty (told_or_quiet (first parts d))) alive
    ∙ ap told_or_quiet (first_nowhere parts d (λ k q e. resting parts ws d k q l alive r e (none k))))

found_by : (parts : List Placed) (ws : List Bool) (d : Domains) (place : ℕ) (q : Placed) (t : Turn) → length ws ≡ length parts → is_dead d ≡ false → Rest parts ws d → IsFirstWoken ws place
    → slice_get parts place ≡ Some q → (o : Option Found) → turn_of q.face d ≡ o → Some t ≡ option_map (told q.id) o → IsFound parts d ws place t
found_by parts ws d place q t l alive r w e None g h = (cc)
found_by parts ws d place q t l alive r w e (Some f) g h =
    let so : t ≡ told q.id f = item_same t (told q.id f) h in
    record {
      part = q;
      found = f;
      there = e;
      gives = g;
      told_so = so;
      first = so ∙ sym (ap (λ b. cond b Empty (told_or_quiet (first parts d))) alive
          ∙ ap told_or_quiet (first_at parts d place q f e g (λ k p m i. resting parts ws d k p l alive r i (w.before k m))));
      awake = w.woken_there;
    }

-- the first of the woken parts has the first turn, if it has one
pub is-found : (parts : List Placed) (ws : List Bool) (d : Domains) (place : ℕ) (q : Placed) (t : Turn) → length ws ≡ length parts → is_dead d ≡ false → Rest parts ws d → IsFirstWoken ws place
    → slice_get parts place ≡ Some q → Some t ≡ option_map (told q.id) (turn_of q.face d) → IsFound parts d ws place t
is-found parts ws d place q t l alive r w e h = found_by parts ws d place q t l alive r w e (turn_of q.face d) refl h

-- a part without a turn, by whichever name it is known
pub no-turn : (id : PartId) (o : Option Found) → None ≡ option_map (told id) o → o ≡ None
no-turn id None e = refl
no-turn id (Some f) e = (cc)

-- ---- after a turn

not_quiet : (id : PartId) (f : Found) → Quiet ≡ told id f → ⊥
not_quiet id Clashes e = (cc)
not_quiet id (Gives a) e = (cc)

not_empty : (id : PartId) (f : Found) → Empty ≡ told id f → ⊥
not_empty id Clashes e = (cc)
not_empty id (Gives a) e = (cc)

given_atom : (id i : PartId) (a : Atomic) (f : Found) → Atom i a ≡ told id f → f ≡ Gives a
given_atom id i a Clashes e = (cc)
given_atom id i a (Gives b) e = (cc)

-- a turn's atom leaves each variable a value
pub applied-alive : (n : ℕ) (parts : List Placed) (d : Domains) (t : Turn) → AreSound n parts → is_dead d ≡ false → t ≡ turn_at parts d → is_dead (applied d t) ≡ false
applied-alive n parts d (Atom id a) sound alive e = turn-alive n parts d id a sound (sym e)
applied-alive n parts d (Clash id) sound alive e = alive
applied-alive n parts d Quiet sound alive e = alive
applied-alive n parts d Empty sound alive e = alive

pub woken_after-length : (ws : List Bool) (lists : List (List ℕ)) (t : Turn) → length (woken_after ws lists t) ≡ length ws
woken_after-length ws lists (Atom id a) = with_woken-length ws (get_or lists a.var [])
woken_after-length ws lists (Clash id) = refl
woken_after-length ws lists Quiet = refl
woken_after-length ws lists Empty = refl

-- the searches of a step and the parts that are woken after its turn are within the bound
pub counted-after : (n : ℕ) (parts : List Placed) (lists : List (List ℕ)) (ws : List Bool) (d : Domains) (place : ℕ) (t : Turn) (before searches : ℕ) → AreSound n parts → is_dead d ≡ false → IsIndex n parts lists
    → Each (λ (a : Atomic). a.var < n) (atoms_of t) → IsFound parts d ws place t → searches + owed_of ws ≤ before + 1 → IsCounted parts before searches (owed_of (woken_after ws lists t)) t
counted-after n parts lists ws d place (Atom id a) before searches sound alive index on found h =
    let s : IsSound n found.part = Each-at (IsSound n) parts place found.part sound found.there in
    let gives : turn_of found.part.face d ≡ Some (Gives a) = found.gives ∙ ap Some (given_atom found.part.id id a found.found found.told_so) in
    let turn = subst (IsTurn found.part.face d) gives (sound-turn n found.part d s alive) in
    let own = in-index n parts lists place a.var found.part index on.0 found.there (is_of-there a.var found.part.face.scope turn.1.candidate.of_scope) in
    let more : owed_of (with_woken ws (get_or lists a.var [])) + 1 ≤ owed_of ws + length (get_or lists a.var []) = with_woken-one ws (get_or lists a.var []) place own found.awake in
    let count : length (get_or lists a.var []) ≡ touch a.var parts = ap (λ (ks : List ℕ). length ks) (index.each a.var on.0) ∙ length-places_on a.var 0 parts in
    omega arith
counted-after n parts lists ws d place (Clash id) before searches sound alive index on found h =
    let less : owed_of (set ws place false) + 1 ≡ owed_of ws = owed-rest ws place found.awake in (h, omega arith)
counted-after n parts lists ws d place Quiet before searches sound alive index on found h = absurd (not_quiet found.part.id found.found found.told_so)
counted-after n parts lists ws d place Empty before searches sound alive index on found h = absurd (not_empty found.part.id found.found found.told_so)

-- no more are owed than there are parts
pub owed-few : (ws : List Bool) (parts : List Placed) → length ws ≡ length parts → owed_of ws ≤ length parts
owed-few ws parts e = let h = (length-filter_cases (λ (w : Bool). w) ws).0 in omega arith

-- ---- the clause of the count, at each end of a step

-- what a search found, among the parts in order
pub found-facts : (listed parts : List Placed) (b d : Domains) (ws : List Bool) (before now : ℕ) (o : Option (ℕ × Turn)) (place : ℕ) (t : Turn) → listed ≡ parts → b ≡ d → o ≡ Some (place, t)
    → IsSearched listed b ws before now o → (now ≤ before + 1) × IsFound parts d ws place t
found-facts listed parts b d ws before now o place t e g f h =
    subst (λ (ps : List Placed). (now ≤ before + 1) × IsFound ps d ws place t) e
    (subst (λ (c : Domains). (now ≤ before + 1) × IsFound listed c ws place t) g (subst (IsSearched listed b ws before now) f h))

-- where it found nothing
pub quiet-facts : (listed parts : List Placed) (b d : Domains) (ws : List Bool) (before now : ℕ) (o : Option (ℕ × Turn)) → listed ≡ parts → b ≡ d → o ≡ None
    → IsSearched listed b ws before now o → (now ≤ before) × (Quiet ≡ turn_at parts d)
quiet-facts listed parts b d ws before now o e g f h =
    subst (λ (ps : List Placed). (now ≤ before) × (Quiet ≡ turn_at ps d)) e
    (subst (λ (c : Domains). (now ≤ before) × (Quiet ≡ turn_at listed c)) g (subst (IsSearched listed b ws before now) f h))

-- after a turn
pub counted-step : (n : ℕ) (parts : List Placed) (lists : List (List ℕ)) (ws vs : List Bool) (d : Domains) (place : ℕ) (t : Turn) (before old now : ℕ) → AreSound n parts → is_dead d ≡ false → IsIndex n parts lists
    → Each (λ (a : Atomic). a.var < n) (atoms_of t) → IsFound parts d ws place t → old ≤ now → now + owed_of ws ≤ (old + before) + 1 → vs ≡ woken_after ws lists t
    → (searches : ℕ) × (now ≡ old + searches) × IsCounted parts before searches (owed_of vs) t
counted-step n parts lists ws vs d place t before old now sound alive index on found more h e =
    let sum : (now - old) + owed_of ws ≤ before + 1 = omega arith in
    (now - old, omega arith, subst (λ us. IsCounted parts before (now - old) (owed_of us) t) (sym e) (counted-after n parts lists ws d place t before (now - old) sound alive index on found sum))

-- where all is quiet
pub counted-quiet : (before old now owed : ℕ) → old ≤ now → now + owed ≤ old + before → (searches : ℕ) × (now ≡ old + searches) × (searches + owed ≤ before)
counted-quiet before old now owed more h = (now - old, omega arith, omega arith)

-- where memory was wanted
pub counted-err : {E : Type 0} (Q : E → Type 0) (r : Result Turn E) (parts : List Placed) (before old now owed : ℕ) → IsErrAnd r Q → old ≤ now → now + owed ≤ (old + before) + 1
    → (searches : ℕ) × (now ≡ old + searches) × MatchResult r (IsCounted parts before searches owed) (λ e. searches + owed ≤ before + 1)
counted-err Q r parts before old now owed is more h =
    let p = err_from_is_err_and {Q = Q} r is in
    let sum : (now - old) + owed ≤ before + 1 = omega arith in
    (now - old, omega arith, subst (λ q. MatchResult q (IsCounted parts before (now - old) owed) (λ e. (now - old) + owed ≤ before + 1)) (sym p.1) sum)
