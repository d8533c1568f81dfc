-- Woken parts now and at earlier points: what stays kept.
use Rattle.std.proofs.Common.{◌≡◌, ℕ, zero, suc, ◌+◌, ◌<◌, ◌≤◌, nat_lt, Bool, true, false, cond, ◌⊎◌, List, [], ◌∷◌, ◌++◌, length, get_or, set, take, slice_get, Some, None, Result, Ok, Err, OnOk, OnErr, refl, sym, ◌∙◌, ap, subst, inl, inr, arith}
use Rattle.std.specs.Prelude.{reverse}
use Rattle.std.proofs.lemmas.Bool.{cases_eq, cases_lt, false≢true, le-ltb, lt-ltb}
use Rattle.std.proofs.lemmas.List.{get_or-set_other, get_or-set_same, length-set, reverse-append}
use Rattle.dp_base.specs.Lists.{Among, Each}
use Rattle.dp_base.proofs.Lists.{Among-append_left}
use Rattle.dp_domain.specs.Atoms.{Atomic}
use Rattle.dp_domain.specs.Faces.{AgreesOn}
use Rattle.dp_domain.specs.States.{Domains, cut, is_dead, values}
use Rattle.dp_domain.specs.Turns.{turn_of}
use Rattle.dp_domain.proofs.StateLaws.{length-cut}
use Rattle.dp_engine.specs.Debts.{AreKept, History, IsKept, IsStep, gone, left, rested, touched, touched_each}
use Rattle.dp_engine.specs.declared.debts.Note.{Note}
use Rattle.dp_engine.specs.declared.debts.Note.TheVariants.{Left, Was}
use Rattle.dp_engine.specs.Placed.{Placed}
use Rattle.dp_engine.specs.Rests.{Rest}
use Rattle.dp_engine.specs.Trails.{Course}
use Rattle.dp_engine.specs.Woken.{IsIndex, with_woken}
use Rattle.dp_engine.proofs.WokenLaws.{agree-off, get-before, off-index, rest-changed, rest-push, with_woken-length, with_woken-not}

-- ---- bits

-- a bit set and set back
pub set-back : (ws : List Bool) (k : ℕ) (c : Bool) → set (set ws k c) k (get_or ws k false) ≡ ws
set-back [] k c = refl
set-back (w ∷ ws) zero c = refl
set-back (w ∷ ws) (suc k) c = ap (λ vs. w ∷ vs) (set-back ws k c)

set_over : (ws : List Bool) (k : ℕ) (b c : Bool) → set (set ws k c) k b ≡ set ws k b
set_over [] k b c = refl
set_over (w ∷ ws) zero b c = refl
set_over (w ∷ ws) (suc k) b c = ap (λ vs. w ∷ vs) (set_over ws k b c)

pub set-same : (ws : List Bool) (k : ℕ) → get_or ws k false ≡ true → set ws k true ≡ ws
set-same ws k e = sym (ap (set ws k) e) ∙ sym (ap (λ b. set ws k b) refl) ∙ again ws k
  where
    again : (vs : List Bool) (j : ℕ) → set vs j (get_or vs j false) ≡ vs
    again [] j = refl
    again (v ∷ vs) zero = refl
    again (v ∷ vs) (suc j) = ap (λ us. v ∷ us) (again vs j)

set_pushed : (ws : List Bool) (k : ℕ) (b : Bool) → k < length ws → set (ws ++ true ∷ []) k b ≡ set ws k b ++ true ∷ []
set_pushed [] k b h = absurd (omega arith)
set_pushed (w ∷ ws) zero b h = refl
set_pushed (w ∷ ws) (suc k) b h = ap (λ vs. w ∷ vs) (set_pushed ws k b (omega arith))

-- ---- touches

pub touched_each-now : (h : History) (ks : List ℕ) → (touched_each h ks).now ≡ with_woken h.now ks
touched_each-now h [] = refl
touched_each-now h (k ∷ ks) = touched_each-now (touched h k) ks

pub touched_each-lasting : (h : History) (ks : List ℕ) → (touched_each h ks).lasting ≡ h.lasting
touched_each-lasting h [] = refl
touched_each-lasting h (k ∷ ks) = touched_each-lasting (touched h k) ks

pub touched_each-push : (h : History) (ks : List ℕ) (k : ℕ) → touched_each h (ks ++ k ∷ []) ≡ touched (touched_each h ks) k
touched_each-push h [] k = refl
touched_each-push h (j ∷ ks) k = touched_each-push (touched h j) ks k

pub touched_each-append : (h : History) (ks js : List ℕ) → touched_each h (ks ++ js) ≡ touched_each (touched_each h ks) js
touched_each-append h [] js = refl
touched_each-append h (k ∷ ks) js = touched_each-append (touched h k) ks js

pub touched_each-count : (h : History) (ks : List ℕ) → length (touched_each h ks).now ≡ length h.now
touched_each-count h ks = ap (λ (ws : List Bool). length ws) (touched_each-now h ks) ∙ with_woken-length h.now ks

-- notes with one more, the last one first
pub notes-push : (es now : List Note) (x : Note) → now ≡ es ++ x ∷ [] → reverse now ≡ x ∷ reverse es
notes-push es now x e = ap (λ (fs : List Note). reverse fs) e ∙ reverse-append es (x ∷ [])

take_at : (ks : List ℕ) (i d : ℕ) → i < length ks → take (i + 1) ks ≡ take i ks ++ get_or ks i d ∷ []
take_at [] i d h = absurd (omega arith)
take_at (k ∷ ks) zero d h = refl
take_at (k ∷ ks) (suc i) d h = let next : suc i + 1 ≡ suc (i + 1) = omega arith in ap (λ n. take n (k ∷ ks)) next ∙ ap (λ js. k ∷ js) (take_at ks i d (omega arith))

-- the next of the places touched
pub touch-next : (h g f : History) (places : List ℕ) (i k d : ℕ) → i < length places → k ≡ get_or places i d → g ≡ touched_each h (take i places) → f ≡ touched g k → f ≡ touched_each h (take (i + 1) places)
touch-next h g f places i k d l e p q =
    q ∙ ap (λ (x : History). touched x k) p ∙ sym (touched_each-push h (take i places) k)
    ∙ ap (λ j. touched_each h (take i places ++ j ∷ [])) e ∙ ap (touched_each h) (sym (take_at places i d l))

-- touches are undone by going back
pub gone-touched : (h : History) (ks : List ℕ) (n : ℕ) → gone n (touched_each h ks).notes (touched_each h ks).now ≡ gone n h.notes h.now
gone-touched h [] n = refl
gone-touched h (k ∷ ks) n = gone-touched (touched h k) ks n ∙ ap (gone n h.notes) (set-back h.now k true)

-- the point left and parts touched, and back again
pub back-touched : (h g : History) (ks : List ℕ) → g ≡ touched_each (left h) ks → gone g.lasting g.notes g.now ≡ h
back-touched h g ks e =
    ap (λ (k : History). gone k.lasting k.notes k.now) e ∙ gone-touched (left h) ks (touched_each (left h) ks).lasting
    ∙ ap (λ n. record { notes = h.notes; now = h.now; lasting = n }) (touched_each-lasting (left h) ks)

pub err-any : {T E P : Type 0} (r : Result T E) → P → OnErr r P
err-any (Ok x) p = tt
err-any (Err x) p = p

pub ok-any : {T E P : Type 0} (r : Result T E) → P → OnOk r P
ok-any (Ok x) p = p
ok-any (Err x) p = tt

pub gone-length : (n : ℕ) (es : List Note) (w : List Bool) → length (gone n es w).now ≡ length w
gone-length n [] w = refl
gone-length n (Left ∷ es) w = refl
gone-length n (Was k b ∷ es) w = gone-length n es (set w k b) ∙ length-set w k b

pub gone-lasting : (n : ℕ) (es : List Note) (w : List Bool) → (gone n es w).lasting ≡ n
gone-lasting n [] w = refl
gone-lasting n (Left ∷ es) w = refl
gone-lasting n (Was k b ∷ es) w = gone-lasting n es (set w k b)

-- ---- what stays kept

-- with more touches
pub kept-more : (parts : List Placed) (n : ℕ) (es : List Note) (ts us : List ℕ) (w : List Bool) (e : Domains) (past : List Domains) → ((k : ℕ) → Among k ts → Among k us) → AreKept parts n es ts w e past → AreKept parts n es us w e past
kept-more parts n [] ts us w e past f h = h
kept-more parts n (Was k b ∷ es) ts us w e past f h =
    (h.0, kept-more parts n es (k ∷ ts) (k ∷ us) (set w k b) e past (λ j m. elim m [ inl i ↦ inl i | inr i ↦ inr (f j i) ]) h.1)
kept-more parts n (Left ∷ es) ts us w e [] f h = h
kept-more parts n (Left ∷ es) ts us w e (d ∷ past) f h = (h.0, (h.1.0, λ k q l s out. h.1.1 k q l s (λ m. out (f k m))), h.2)

-- after touches
pub kept-touched : (parts : List Placed) (g : History) (ks ts : List ℕ) (e : Domains) (past : List Domains) → Each (λ k. k < length g.now) ks → AreKept parts g.lasting g.notes (ks ++ ts) g.now e past
    → AreKept parts g.lasting (touched_each g ks).notes ts (touched_each g ks).now e past
kept-touched parts g [] ts e past l h = h
kept-touched parts g (k ∷ ks) ts e past l h =
    kept-touched parts (touched g k) ks ts e past (subst (λ n. Each (λ j. j < n) ks) (sym (length-set g.now k true)) l.1) (
      subst (λ n. k < n) (sym (length-set g.now k true)) l.0,
      kept-more parts g.lasting g.notes (k ∷ (ks ++ ts)) (k ∷ (ks ++ ts)) (set (set g.now k true) k (get_or g.now k false)) e past (λ j m. m)
          (subst (λ w. AreKept parts g.lasting g.notes (k ∷ (ks ++ ts)) w e past) (sym (set-back g.now k true)) h),
    )

-- a bit that is not set in the one list is not set in the other, or its part rests and was not touched
abbrev Rests : List Placed → ℕ → List ℕ → List Bool → List Bool → Domains → Type 0
Rests parts n ts w v e = (j : ℕ) (q : Placed) → slice_get parts j ≡ Some q → get_or v j true ≡ false → (get_or w j true ≡ false) ⊎ ((j < n) × (Among j ts → ⊥)
    × ((f : Domains) → length f ≡ length e → is_dead f ≡ false → AgreesOn q.face.scope e f → turn_of q.face f ≡ None))

set_alike : (w v : List Bool) (k j : ℕ) (b : Bool) → length v ≡ length w → j ≡ k → get_or (set v k b) j true ≡ get_or (set w k b) j true
set_alike [] [] k j b l e = refl
set_alike [] (x ∷ v) k j b l e = absurd (omega arith)
set_alike (y ∷ w) [] k j b l e = absurd (omega arith)
set_alike (y ∷ w) (x ∷ v) zero zero b l e = refl
set_alike (y ∷ w) (x ∷ v) zero (suc j) b l e = absurd (omega arith)
set_alike (y ∷ w) (x ∷ v) (suc k) zero b l e = absurd (omega arith)
set_alike (y ∷ w) (x ∷ v) (suc k) (suc j) b l e = set_alike w v k j b (omega arith) (omega arith)

rests_was : (parts : List Placed) (n : ℕ) (ts : List ℕ) (w v : List Bool) (e : Domains) (k : ℕ) (b : Bool) → length v ≡ length w → Rests parts n ts w v e → Rests parts n (k ∷ ts) (set w k b) (set v k b) e
rests_was parts n ts w v e k b l r = λ j q s z. elim (cases_eq j k) [
  | inl i ↦ inl (sym (set_alike w v k j b l i) ∙ z)
  | inr i ↦ elim (r j q s (sym (get_or-set_other v k j b true i) ∙ z)) [
    | inl o ↦ inl (get_or-set_other w k j b true i ∙ o)
    | inr o ↦ inr (o.0, (λ m. elim m [ inl p ↦ i p | inr p ↦ o.1 p ]), o.2)
  ]
]

-- after parts are put to rest that were not touched since the points that they rest at
kept_rests : (parts : List Placed) (n : ℕ) (es : List Note) (ts : List ℕ) (w v : List Bool) (e : Domains) (past : List Domains) → length v ≡ length w → Rests parts n ts w v e → AreKept parts n es ts w e past → AreKept parts n es ts v e past
kept_rests parts n [] ts w v e past l r h = h
kept_rests parts n (Was k b ∷ es) ts w v e past l r h =
    (subst (λ m. k < m) (sym l) h.0, kept_rests parts n es (k ∷ ts) (set w k b) (set v k b) e past (length-set v k b ∙ l ∙ sym (length-set w k b)) (rests_was parts n ts w v e k b l r) h.1)
kept_rests parts n (Left ∷ es) ts w v e [] l r h = h
kept_rests parts n (Left ∷ es) ts w v e (d ∷ past) l r h =
    let quiet : (j : ℕ) (q : Placed) → slice_get parts j ≡ Some q → get_or v j true ≡ false → (get_or w j true ≡ false) ⊎ ((j < n) × (Among j [] → ⊥)
    × ((f : Domains) → length f ≡ length d → is_dead f ≡ false → AgreesOn q.face.scope d f → turn_of q.face f ≡ None)) =
    λ j q s z. elim (r j q s z) [
      | inl o ↦ inl o
      | inr o ↦ inr (o.0, (λ m. m), λ f m a g. o.2 f (m ∙ sym h.1.0) a (λ x i. sym (h.1.1 j q o.0 s o.1 x i) ∙ g x i))
    ] in (
      λ j q s z f m a g. elim (quiet j q s z) [
        | inl o ↦ h.0 j q s o f m a g
        | inr o ↦ o.2 f m a g
      ],
      h.1,
      kept_rests parts n es [] w v d past l quiet h.2,
    )

set_one : (ws : List Bool) (k j : ℕ) → get_or (set ws k false) j true ≡ false → (j ≡ k) ⊎ (get_or ws j true ≡ false)
set_one [] k j e = inr e
set_one (w ∷ ws) zero zero e = inl refl
set_one (w ∷ ws) zero (suc j) e = inr e
set_one (w ∷ ws) (suc k) zero e = inr e
set_one (w ∷ ws) (suc k) (suc j) e = elim (set_one ws k j e) [ inl p ↦ inl (ap suc p) | inr h ↦ inr h ]

rested_if : (parts : List Placed) (h : History) (k : ℕ) (e : Domains) (past : List Domains) (t : Bool) → nat_lt k h.lasting ≡ t → (t ≡ true → k < h.lasting) → k < length h.now → get_or h.now k false ≡ true
    → ((q : Placed) → slice_get parts k ≡ Some q → (f : Domains) → length f ≡ length e → is_dead f ≡ false → AgreesOn q.face.scope e f → turn_of q.face f ≡ None)
    → AreKept parts h.lasting h.notes [] h.now e past → AreKept parts h.lasting (cond t h.notes (Was k true ∷ h.notes)) [] (set h.now k false) e past
rested_if parts h k e past true t less there awake quiet kept =
    kept_rests parts h.lasting h.notes [] h.now (set h.now k false) e past (length-set h.now k false) (λ j q s z. elim (set_one h.now k j z) [
      | inl i ↦ inr (subst (λ m. m < h.lasting) (sym i) (less refl), (λ m. m), quiet q (subst (λ m. slice_get parts m ≡ Some q) i s))
      | inr o ↦ inl o
    ]) kept
rested_if parts h k e past false t less there awake quiet kept = (
  subst (λ n. k < n) (sym (length-set h.now k false)) there,
  kept-more parts h.lasting h.notes [] (k ∷ []) (set (set h.now k false) k true) e past (λ j m. absurd m)
      (subst (λ w. AreKept parts h.lasting h.notes [] w e past) (sym (set_over h.now k true false ∙ set-same h.now k awake)) kept),
)

-- after a part without a turn is put to rest
pub kept-rested : (parts : List Placed) (h : History) (k : ℕ) (e : Domains) (past : List Domains) → k < length h.now → get_or h.now k false ≡ true
    → ((q : Placed) → slice_get parts k ≡ Some q → (f : Domains) → length f ≡ length e → is_dead f ≡ false → AgreesOn q.face.scope e f → turn_of q.face f ≡ None)
    → AreKept parts h.lasting h.notes [] h.now e past → AreKept parts (rested h k).lasting (rested h k).notes [] (rested h k).now e past
kept-rested parts h k e past there awake quiet kept = elim (cases_lt k h.lasting) [
  | inl l ↦ subst (λ t. AreKept parts h.lasting (cond t h.notes (Was k true ∷ h.notes)) [] (set h.now k false) e past) (sym (lt-ltb k h.lasting l))
      (rested_if parts h k e past true (lt-ltb k h.lasting l) (λ r. l) there awake quiet kept)
  | inr l ↦ subst (λ t. AreKept parts h.lasting (cond t h.notes (Was k true ∷ h.notes)) [] (set h.now k false) e past) (sym (le-ltb k h.lasting l))
      (rested_if parts h k e past false (le-ltb k h.lasting l) (λ r. absurd (false≢true r)) there awake quiet kept)
]

-- at the point that was left last
pub kept-gone : (parts : List Placed) (n : ℕ) (es : List Note) (ts : List ℕ) (w : List Bool) (e d : Domains) (past : List Domains) → AreKept parts n es ts w e (d ∷ past)
    → Rest parts (gone n es w).now d × AreKept parts n (gone n es w).notes [] (gone n es w).now d past
kept-gone parts n [] ts w e d past h = (cc)
kept-gone parts n (Was k b ∷ es) ts w e d past h = kept-gone parts n es (k ∷ ts) (set w k b) e d past h.1
kept-gone parts n (Left ∷ es) ts w e d past h = (h.0, h.2)

-- with one part more, which is woken
pub kept-pushed : (parts : List Placed) (q : Placed) (n : ℕ) (es : List Note) (ts : List ℕ) (w : List Bool) (e : Domains) (past : List Domains) → length w ≡ length parts → n ≤ length parts
    → AreKept parts n es ts w e past → AreKept (parts ++ q ∷ []) n es ts (w ++ true ∷ []) e past
kept-pushed parts q n [] ts w e past l m h = h
kept-pushed parts q n (Was k b ∷ es) ts w e past l m h = (
  longer w k h.0,
  subst (λ v. AreKept (parts ++ q ∷ []) n es (k ∷ ts) v e past) (sym (set_pushed w k b h.0)) (kept-pushed parts q n es (k ∷ ts) (set w k b) e past (length-set w k b ∙ l) m h.1),
)
  where
    longer : (v : List Bool) (j : ℕ) → j < length v → j < length (v ++ true ∷ [])
    longer [] j a = absurd (omega arith)
    longer (x ∷ v) zero a = omega arith
    longer (x ∷ v) (suc j) a = omega (arith, longer v j (omega arith))
kept-pushed parts q n (Left ∷ es) ts w e [] l m h = h
kept-pushed parts q n (Left ∷ es) ts w e (d ∷ past) l m h =
    (rest-push parts w d q l h.0, (h.1.0, λ k p less s out. h.1.1 k p less (get-before parts q k p (omega arith) s) out), kept-pushed parts q n es [] w d past l m h.2)

-- ---- the same of a history and a course

-- the present point left, the parts on an atom's variable touched, and the state cut
pub kept-on : (parts : List Placed) (lists : List (List ℕ)) (h g : History) (c b : Course) (a : Atomic) → IsIndex (length c.present) parts lists → a.var < length c.present
    → Each (λ k. k < length h.now) (get_or lists a.var []) → g ≡ touched_each (left h) (get_or lists a.var []) → b.past ≡ c.past ++ c.present ∷ [] → b.present ≡ cut c.present a → IsKept parts h c → IsKept parts g b
kept-on parts lists h g c b a index on there eg ep ec kept =
    let ks : List ℕ = get_or lists a.var [] in
    let d : Domains = c.present in
    let off : (k : ℕ) (q : Placed) → slice_get parts k ≡ Some q → (Among k ks → ⊥) → AgreesOn q.face.scope d (cut d a) =
    λ k q s out. agree-off q.face.scope d a (off-index (length d) parts lists k a.var q index on s out) in
    let back : reverse b.past ≡ d ∷ reverse c.past = ap (λ (ds : List Domains). reverse ds) ep ∙ reverse-append c.past (d ∷ []) in
    let now : g.now ≡ with_woken h.now ks = ap (λ (k : History). k.now) eg ∙ touched_each-now (left h) ks in
    let last : g.lasting ≡ h.lasting = ap (λ (k : History). k.lasting) eg ∙ touched_each-lasting (left h) ks in
    record {
      rest = subst (λ (e : Domains). Rest parts g.now e) (sym ec) (subst (λ ws. Rest parts ws (cut d a)) (sym now)
          (rest-changed parts h.now (with_woken h.now ks) d (cut d a) (length-cut d a) kept.rest (λ k q s w. let t = with_woken-not h.now ks k w in (t.0, off k q s t.1))));
      earlier = subst (λ (e : Domains). AreKept parts g.lasting g.notes [] g.now e (reverse b.past)) (sym ec)
          (subst (λ (ds : List Domains). AreKept parts g.lasting g.notes [] g.now (cut d a) ds) (sym back)
          (subst (λ (k : History). AreKept parts k.lasting k.notes [] k.now (cut d a) (d ∷ reverse c.past)) (sym eg)
          (subst (λ n. AreKept parts n (touched_each (left h) ks).notes [] (touched_each (left h) ks).now (cut d a) (d ∷ reverse c.past)) (sym (touched_each-lasting (left h) ks))
          (kept-touched parts (left h) ks [] (cut d a) (d ∷ reverse c.past) there
          (kept.rest, (length-cut d a, λ k q l s out. off k q s (λ m. out (Among-append_left k ks [] m))), kept.earlier)))));
    }

-- one point back
pub kept-back : (parts : List Placed) (h g : History) (c b : Course) → g ≡ gone h.lasting h.notes h.now → c.past ≡ b.past ++ b.present ∷ [] → IsKept parts h c → IsKept parts g b
kept-back parts h g c b eg ep kept =
    let back : reverse c.past ≡ b.present ∷ reverse b.past = ap (λ (ds : List Domains). reverse ds) ep ∙ reverse-append b.past (b.present ∷ []) in
    let both = kept-gone parts h.lasting h.notes [] h.now c.present b.present (reverse b.past) (subst (AreKept parts h.lasting h.notes [] h.now c.present) back kept.earlier) in
    record {
      rest = subst (λ (k : History). Rest parts k.now b.present) (sym eg) both.0;
      earlier = subst (λ (k : History). AreKept parts k.lasting k.notes [] k.now b.present (reverse b.past)) (sym eg)
          (subst (λ n. AreKept parts n (gone h.lasting h.notes h.now).notes [] (gone h.lasting h.notes h.now).now b.present (reverse b.past)) (sym (gone-lasting h.lasting h.notes h.now)) both.1);
    }
