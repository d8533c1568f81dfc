-- An engine that goes to another place: which parts it sees, and who of them rests.
use Rattle.std.proofs.Common.{◌≡◌, ℕ, zero, suc, ◌+◌, ◌^◌, ◌<◌, ◌≤◌, Bool, true, false, List, [], ◌∷◌, ◌++◌, length, map, get_or, take, drop, Option, Some, None, slice_get, refl, sym, ◌∙◌, ap, subst, arith, append-nil, append_assoc}
use Rattle.std.proofs.lemmas.Bool.{false≢true}
use Rattle.dp_base.specs.Lists.{Each}
use Rattle.dp_domain.specs.Atoms.{Atomic}
use Rattle.dp_domain.specs.States.{AreOf, Domains, is_dead}
use Rattle.dp_parts.specs.Posed.{Posed}
use Rattle.dp_parts.specs.Problems.{Csp, posed}
use Rattle.dp_parts.specs.declared.part.Part.{Part}
use Rattle.dp_engine.specs.declared.part_id.PartId.{PartId}
use Rattle.dp_engine.specs.Debts.{History}
use Rattle.dp_engine.specs.Rests.{Rest}
use Rattle.dp_engine.specs.Engines.{Begins, KeepsParts, Propagation, Starts}
use Rattle.dp_engine.specs.Indexes.{Indexed, IsEntered, IsOver}
use Rattle.dp_engine.specs.Reaches.{joined}
use Rattle.dp_engine.specs.Placed.{Placed, of_constraints, of_nogoods, turn_order}
use Rattle.dp_engine.specs.Rosters.{Listed, all_placed, placed_at}
use Rattle.dp_engine.specs.Woken.{IsIndex, IsTracked}
use Rattle.dp_engine.proofs.ReachLaws.{joined-index}
use Rattle.dp_engine.proofs.SearchSteps.{order-parts}
use Rattle.dp_engine.proofs.StateSteps.{Each-take}
use Rattle.dp_engine.proofs.StepLaws.{owed-few}
use Rattle.dp_engine.proofs.TrackedLaws.{kept-none, seen}

-- ---- lists and their first items

pub take-drop : {A : Type 0} (n : ℕ) (xs : List A) → xs ≡ take n xs ++ drop n xs
take-drop zero xs = refl
take-drop (suc n) [] = refl
take-drop (suc n) (x ∷ xs) = ap (λ ys. x ∷ ys) (take-drop n xs)

pub take-front : {A : Type 0} (xs ys : List A) → take (length xs) (xs ++ ys) ≡ xs
take-front [] ys = refl
take-front (x ∷ xs) ys = ap (λ zs. x ∷ zs) (take-front xs ys)

take_fewer : {A : Type 0} (n : ℕ) (xs : List A) → length (take n xs) ≤ length xs
take_fewer zero xs = omega arith
take_fewer (suc n) [] = omega arith
take_fewer (suc n) (x ∷ xs) = omega (arith, take_fewer n xs)

all_true : (more : List Bool) (k : ℕ) → Each (λ w. w ≡ true) more → get_or more k true ≡ true
all_true [] k h = refl
all_true (w ∷ more) zero h = h.0
all_true (w ∷ more) (suc k) h = all_true more k h.1

grown_kept : (ws more : List Bool) (k : ℕ) → Each (λ w. w ≡ true) more → get_or (ws ++ more) k true ≡ false → get_or ws k true ≡ false
grown_kept [] more k h e = absurd (false≢true (sym e ∙ all_true more k h))
grown_kept (w ∷ ws) more zero h e = e
grown_kept (w ∷ ws) more (suc k) h e = grown_kept ws more k h e

taken_kept : (n : ℕ) (ws : List Bool) (k : ℕ) → get_or (take n ws) k true ≡ false → get_or ws k true ≡ false
taken_kept zero ws k e = absurd (false≢true (sym e))
taken_kept (suc n) [] k e = e
taken_kept (suc n) (w ∷ ws) zero e = e
taken_kept (suc n) (w ∷ ws) (suc k) e = taken_kept n ws k e

-- one that is not among the first is not woken there
pub taken-false : (n : ℕ) (ws : List Bool) (k : ℕ) → get_or ws k false ≡ false → get_or (take n ws) k false ≡ false
taken-false zero ws k e = refl
taken-false (suc n) [] k e = e
taken-false (suc n) (w ∷ ws) zero e = e
taken-false (suc n) (w ∷ ws) (suc k) e = taken-false n ws k e

-- of so many, with woken ones added, those that rest did before
pub resized-kept : (n : ℕ) (ws more vs us : List Bool) → vs ≡ ws ++ more → Each (λ w. w ≡ true) more → us ≡ take n vs → (k : ℕ) → get_or us k true ≡ false → get_or ws k true ≡ false
resized-kept n ws more vs us e h f k r =
    grown_kept ws more k h (subst (λ (xs : List Bool). get_or xs k true ≡ false) e (taken_kept n vs k (subst (λ (xs : List Bool). get_or xs k true ≡ false) f r)))

-- ---- the first parts

-- the parts with the first nogoods are the first parts
pub order-first : (p : Posed) (ns ms all : List (List Atomic)) → all ≡ ns ++ ms → turn_order p all ≡ turn_order p ns ++ of_nogoods (length ns) ms
order-first p ns ms all e = ap (turn_order p) e ∙ order-parts p ns ms ∙ sym (append_assoc (of_constraints 0 p.constraints) (of_nogoods 0 ns) (of_nogoods (length ns) ms))

get_more : (xs ys : List Placed) (k : ℕ) (q : Placed) → slice_get xs k ≡ Some q → slice_get (xs ++ ys) k ≡ Some q
get_more [] ys k q e = (cc)
get_more (x ∷ xs) ys zero q e = e
get_more (x ∷ xs) ys (suc k) q e = get_more xs ys k q e

get_within : (xs ys : List Placed) (k : ℕ) (q : Placed) → k < length xs → slice_get (xs ++ ys) k ≡ Some q → slice_get xs k ≡ Some q
get_within [] ys k q l e = absurd (omega arith)
get_within (x ∷ xs) ys zero q l e = e
get_within (x ∷ xs) ys (suc k) q l e = get_within xs ys k q (omega arith) e

rests_within : (ws : List Bool) (k : ℕ) → get_or ws k true ≡ false → k < length ws
rests_within [] k e = absurd (false≢true (sym e))
rests_within (w ∷ ws) zero e = omega arith
rests_within (w ∷ ws) (suc k) e = omega (arith, rests_within ws k e)

rest_seen : (old later now more : List Placed) (ws vs : List Bool) (d : Domains) → old ++ later ≡ now ++ more → length ws ≡ length old → Rest old ws d
    → ((k : ℕ) → get_or vs k true ≡ false → get_or ws k true ≡ false) → Rest now vs d
rest_seen old later now more ws vs d e l r kept = λ k q h w.
    let rests : get_or ws k true ≡ false = kept k w in
    let there : k < length old = subst (λ n. k < n) l (rests_within ws k rests) in
    r k q (get_within old later k q there (subst (λ (ps : List Placed). slice_get ps k ≡ Some q) (sym e) (get_more now more k q h))) rests

-- ---- states that begin with the initial one

first_of : {A : Type 0} (x y : A) (xs ys : List A) → x ∷ xs ≡ y ∷ ys → x ≡ y
first_of x y xs ys e = cc

pub begins-first : (d : Domains) (all now : List Domains) (mark : ℕ) → now ≡ take (mark + 1) all → Begins (d ∷ []) all → Begins (d ∷ []) now
begins-first d all now mark e b =
    let next : mark + 1 ≡ suc mark = omega arith in
    (take mark b.0, e ∙ ap (take (mark + 1)) b.1 ∙ ap (λ n. take n (d ∷ b.0)) next)

-- with none before it the present state is the first
pub present-first : (d e : Domains) (past : List Domains) → past ≡ [] → Begins (d ∷ []) (past ++ e ∷ []) → e ≡ d
present-first d e past n b = first_of e d [] b.0 (sym (ap (λ (ds : List Domains). ds ++ e ∷ []) n) ∙ b.1)

-- none is before the first state
pub past-none : (all past : List Domains) (e : Domains) → past ++ e ∷ [] ≡ take (0 + 1) all → past ≡ []
past-none all [] e h = refl
past-none [] (d ∷ past) e h = (cc)
past-none (a ∷ all) (d ∷ []) e h = (cc)
past-none (a ∷ all) (d ∷ c ∷ past) e h = (cc)

-- ---- at another place

pub tracked-seen : (p : Csp) (old now : Listed) (lists other : List (List ℕ)) (past : List Domains) (d : Domains) (g h : History) (dead : Bool) (all later more : List (List Atomic)) (count : ℕ)
    → IsTracked (seen p old.nogoods past d g.now) old lists g dead → length all < 2 ^ 32 → Each (AreOf p.initial) all → all ≡ old.nogoods ++ later → all ≡ now.nogoods ++ more
    → all_placed now ≡ turn_order (posed p) now.nogoods → IsIndex (length p.initial) (turn_order (posed p) now.nogoods) other → count ≡ length (all_placed now) → length h.now ≡ count → h.lasting ≡ count → h.notes ≡ [] → past ≡ []
    → ((k : ℕ) → get_or h.now k true ≡ false → get_or g.now k true ≡ false) → IsTracked (seen p now.nogoods past d h.now) now other h dead
tracked-seen p old now lists other past d g h dead all later more count t few on eo en parts index ec ev el eh e0 kept =
    let first : now.nogoods ≡ take (length now.nogoods) all = sym (ap (take (length now.nogoods)) en ∙ take-front now.nogoods more) in
    let whole : length h.now ≡ length (turn_order (posed p) now.nogoods) = ev ∙ ec ∙ ap (λ (qs : List Placed). length qs) parts in
    let fewer : length now.nogoods ≤ length all = subst (λ (ns : List (List Atomic)). length ns ≤ length all) (sym first) (take_fewer (length now.nogoods) all) in
    record {
      engine = record {
        problem = t.engine.problem;
        few = omega arith;
        nogoods = subst (Each (AreOf p.initial)) (sym first) (Each-take (AreOf p.initial) (length now.nogoods) all on);
        states = t.engine.states;
        owed = owed-few h.now (turn_order (posed p) now.nogoods) whole;
      };
      parts = parts;
      count = whole;
      index = index;
      lasting = let l = ec ∙ ap (λ (qs : List Placed). length qs) parts in omega arith;
      kept = record {
        rest = rest_seen (turn_order (posed p) old.nogoods) (of_nogoods (length old.nogoods) later) (turn_order (posed p) now.nogoods) (of_nogoods (length now.nogoods) more) g.now h.now d
            (sym (order-first (posed p) old.nogoods later all eo) ∙ order-first (posed p) now.nogoods more all en) t.count t.kept.rest kept;
        earlier = kept-none (turn_order (posed p) now.nogoods) h.lasting h.notes [] h.now d past eh e0;
      };
      start = t.start;
      known = t.known;
    }

-- ---- the index up to a place

abbrev listed : List (PartId × Part) → List (List Atomic) → Listed
listed es ns = record { model = es; nogoods = ns }

-- the entries and nogoods are all parts
pub entries-parts : (p : Csp) (es : List (PartId × Part)) (ns : List (List Atomic)) → map placed_at es ≡ of_constraints 0 (posed p).constraints → all_placed (listed es ns) ≡ turn_order (posed p) ns
entries-parts p es ns e = ap (λ (qs : List Placed). qs ++ of_nogoods 0 ns) e

pub first-index : (i : Indexed) (es : List (PartId × Part)) (lists reach : List (List ℕ)) (place bound : ℕ) (roster : Listed) → IsEntered i es lists → roster ≡ listed es (take place i.nogoods)
    → bound ≡ length (all_placed roster) → reach ≡ joined bound lists [] → IsIndex (length i.problem.initial) (turn_order (posed i.problem) (take place i.nogoods)) reach
first-index i es lists reach place bound roster t er eb eh =
    let count : bound ≡ length (turn_order (posed i.problem) (take place i.nogoods)) = eb ∙ ap (λ (l : Listed). length (all_placed l)) er ∙ ap (λ (qs : List Placed). length qs) (entries-parts i.problem es (take place i.nogoods) t.model) in
    subst (IsIndex (length i.problem.initial) (turn_order (posed i.problem) (take place i.nogoods))) (sym eh)
    (joined-index (length i.problem.initial) bound (turn_order (posed i.problem) (take place i.nogoods)) (of_nogoods (length (take place i.nogoods)) (drop place i.nogoods)) lists count
    (subst (λ (qs : List Placed). IsIndex (length i.problem.initial) qs lists) (order-first (posed i.problem) (take place i.nogoods) (drop place i.nogoods) i.nogoods (take-drop place i.nogoods)) t.index))

-- what is entered in a roster of a slice is what is entered in the list
pub listed-same : {E : Type 0} (g : E → PartId × Part) (es fs : List E) (ns ms : List (List Atomic)) (l : Listed) → l ≡ listed (map g es) ns → es ≡ fs → ns ≡ ms → l ≡ listed (map g fs) ms
listed-same g es fs ns ms l e h k = e ∙ ap (λ xs. listed (map g xs) ns) h ∙ ap (listed (map g fs)) k

-- ---- engines over an index

-- an engine that starts with the first nogoods of an index is over it
pub starts-over : (i : Indexed) (e : Propagation) (place : ℕ) → Starts i.problem (take place i.nogoods) e → IsOver i e
starts-over i e place s = record {
  problem = s.problem;
  later = drop place i.nogoods;
  nogoods = take-drop place i.nogoods ∙ ap (λ (ns : List (List Atomic)). ns ++ drop place i.nogoods) (sym s.nogoods);
}

-- so is one that starts with all of them
pub all-over : (i : Indexed) (e : Propagation) → Starts i.problem i.nogoods e → IsOver i e
all-over i e s = record {
  problem = s.problem;
  later = [];
  nogoods = sym (ap (λ (ns : List (List Atomic)). ns ++ []) s.nogoods ∙ append-nil i.nogoods);
}

-- and it stays so while its parts stay
pub keeps-over : (i : Indexed) (before now : Propagation) → IsOver i before → KeepsParts before now → IsOver i now
keeps-over i before now o k = record {
  problem = k.problem ∙ o.problem;
  later = o.later;
  nogoods = o.nogoods ∙ ap (λ (ns : List (List Atomic)). ns ++ o.later) (sym k.nogoods);
}
