-- Replay, turn by turn: a state that lacks what has to be gone before a kept turn lacks, after its hint, what has to be gone after it.
use Rattle.std.proofs.Common.{◌≡◌, ℕ, ◌<◌, Bool, true, false, not, ◌&&◌, ◌||◌, ◌==◌, Option, Some, None, if◌then◌else◌, List, [], ◌∷◌, ◌++◌, map, ℤ, refl, sym, ◌∙◌, ap, subst, inl, inr}
use Rattle.std.proofs.lemmas.Bool.{both_ways, cases_Bool, cases_eq, eqb-true, eq-eqb, and_from, and_parts, or_cases, or_left, or_right, not_from_false, not-true, true_from_ne_false}
use Rattle.dp_base.specs.Lists.{Among}
use Rattle.dp_base.proofs.Lists.{Among-append_cases, Among-filter_only, list_all-at, list_all-from, list_any-at}
use Rattle.dp_domain.specs.Atoms.{Atomic, meets, negated}
use Rattle.dp_domain.specs.Explanations.{failing, has, suffices}
use Rattle.dp_domain.specs.Faces.{Face}
use Rattle.dp_domain.specs.States.{Domains, IsWithin, cut, cut_all, entails, entails_all, fails_one, is_dead, values}
use Rattle.dp_domain.specs.declared.found.Found.{Found}
use Rattle.dp_domain.specs.declared.found.Found.TheVariants.{Clash, Atom}
use Rattle.dp_domain.proofs.AtomLaws.{meets-eq, meets-from_not}
use Rattle.dp_domain.proofs.ExplanationLaws.{IsWithin-more}
use Rattle.dp_domain.proofs.ExplanationSteps.{has_from}
use Rattle.dp_domain.proofs.StateLaws.{IsWithin-cut, IsWithin-trans, Among-cut_all, alive-from, alive-value, dead-within, entails-from, entails_all-within, length-cut}
use Rattle.dp_engine.specs.declared.part_id.PartId.{PartId}
use Rattle.dp_engine.specs.declared.part_id.PartId.TheVariants.{Model, Nogood}
use Rattle.dp_parts.specs.Rules.{cut_hint, «is», proves}
use Rattle.dp_parts.proofs.RuleLaws.{length-keep_where, values-keep_where, meets_one}
use Rattle.dp_rule_clause.specs.Nogoods.{face_nogood, test_nogood}
use Rattle.dp_justify.specs.Keeping.{Explained, before_kept, is_kept, kept, left, target_of, without}
use Rattle.dp_justify.specs.Pairs.{Pairs, excluded, excludes}
use Rattle.dp_justify.specs.Pieces.{denial_of, denied_by, nogood_at, step_of}
use Rattle.dp_justify.specs.Replay.{EndsInClash, IsReason, Lacks, Replays}

-- ---- what a state entails that lacks what atoms exclude

-- a value of a state within the base that fails one of the atoms is a pair that they exclude
excluded_there : (base d : Domains) (atoms : List Atomic) (a : Atomic) (v : ℤ) → IsWithin d base → Among a atoms → Among v (values d a.var) → meets a v ≡ false → excluded base atoms a.var v ≡ true
excluded_there base d atoms a v within here there fails =
    and_from (has (values base a.var) v) (fails_one a.var atoms v) (has_from (values base a.var) v (within.each a.var v there))
    (list_any-at (λ b. (b.var == a.var) && not (meets b v)) atoms a here
    (and_from (a.var == a.var) (not (meets a v)) (eq-eqb a.var a.var refl) (not_from_false (meets a v) fails)))

-- a state within the base that lacks what the atoms exclude there entails them
pub entails_all-lacking : (base d : Domains) (atoms : List Atomic) → IsWithin d base → Lacks d (excluded base atoms) → entails_all d atoms ≡ true
entails_all-lacking base d atoms within lacks =
    list_all-from (entails d) atoms (λ a here. entails-from d a (λ v there.
    true_from_ne_false (meets a v) (λ fails. lacks a.var v (excluded_there base d atoms a v within here there fails) there)))

-- a state that entails atoms of two lists entails them all
entails_all-append : (d : Domains) (xs ys : List Atomic) → entails_all d xs ≡ true → entails_all d ys ≡ true → entails_all d (xs ++ ys) ≡ true
entails_all-append d xs ys e f = list_all-from (entails d) (xs ++ ys) (λ a here. elim (Among-append_cases a xs ys here) [
  | inl h ↦ list_all-at (entails d) xs a e h
  | inr h ↦ list_all-at (entails d) ys a f h
])

-- ---- what a turn denies

-- the test of a nogood that clashes at a state clashes at every smaller one
nogood_within : (atoms : List Atomic) (d e : Domains) → IsWithin e d → test_nogood atoms d ≡ true → test_nogood atoms e ≡ true
nogood_within atoms d e within t = elim (or_cases (is_dead d) (entails_all d atoms) t) [
  | inl dead ↦ or_left (is_dead e) (entails_all e atoms) (dead-within d e within dead)
  | inr all ↦ or_right (is_dead e) (entails_all e atoms) (entails_all-within d e atoms within all)
]

-- that a turn of a nogood's place is one of that nogood
abbrev IsThatNogood : List (List Atomic) → PartId → Face → Type 0
IsThatNogood nogoods id face = (j : ℕ) → id ≡ Nogood j → face ≡ face_nogood (nogood_at nogoods j)

-- a state within the base that entails the premises, and fails the target, is dead or entails all that the turn denies
denied_where : (base d : Domains) (nogoods : List (List Atomic)) (id : PartId) (face : Face) (premises : List Atomic) (target : Option Atomic)
    → suffices face base target premises ≡ true → IsThatNogood nogoods id face → IsWithin d base → entails_all d (premises ++ failing target) ≡ true
    → (is_dead d || entails_all d (denied_by nogoods id premises target)) ≡ true
denied_where base d nogoods (Model k i) face premises target enough nogood within all = or_right (is_dead d) (entails_all d (premises ++ failing target)) all
denied_where base d nogoods (Nogood j) face premises target enough nogood within all =
    let below : IsWithin d (cut_all base (premises ++ failing target)) = IsWithin-more base d (premises ++ failing target) within (λ a here. list_all-at (entails d) (premises ++ failing target) a all here) in
    nogood_within (nogood_at nogoods j) (cut_all base (premises ++ failing target)) d below
    (sym (ap (λ (f : Face). f.test (cut_all base (premises ++ failing target))) (nogood j refl)) ∙ enough)

-- ---- the state with one value of a variable

-- it is alive where the state is
alive-is : (d : Domains) (x : ℕ) (v : ℤ) → is_dead d ≡ false → Among v (values d x) → is_dead (cut d («is» x v)) ≡ false
alive-is d x v alive here = alive-from (cut d («is» x v)) (λ y lt. elim (cases_eq y x) [
  | inl e ↦ (v, subst (λ (z : ℕ). Among v (values (cut d («is» x v)) z)) (sym e) (Among-cut_all d («is» x v) x v here (λ k. (meets-eq x v v).1 refl)))
  | inr n ↦
      let some : (w : ℤ) × Among w (values d y) = alive-value d y alive (subst (λ (m : ℕ). y < m) (length-cut d («is» x v)) lt) in
      (some.0, Among-cut_all d («is» x v) y some.0 some.1 (λ k. absurd (n k)))
])

or_second : (a b : Bool) → a ≡ false → (a || b) ≡ true → b ≡ true
or_second a b n e = elim (or_cases a b e) [ inl t ↦ absurd (both_ways a n t) | inr t ↦ t ]

-- where the state entails the premises, and the value fails the atom, it entails all that the turn denies
denied_with : (base d : Domains) (nogoods : List (List Atomic)) (id : PartId) (face : Face) (premises : List Atomic) (a : Atomic) (v : ℤ)
    → suffices face base (Some a) premises ≡ true → IsThatNogood nogoods id face → IsWithin d base → entails_all d premises ≡ true
    → is_dead d ≡ false → Among v (values d a.var) → meets a v ≡ false
    → entails_all (cut d («is» a.var v)) (denied_by nogoods id premises (Some a)) ≡ true
denied_with base d nogoods id face premises a v enough nogood within all alive here fails =
    let one : Domains = cut d («is» a.var v) in
    let smaller : IsWithin one d = IsWithin-cut d («is» a.var v) in
    let other : entails_all one (negated a ∷ []) ≡ true = list_all-from (entails one) (negated a ∷ []) (λ b k. elim k [
      | inl e ↦ subst (λ (c : Atomic). entails one c ≡ true) (sym e) (meets_one d a.var v (negated a) refl (meets-from_not a v fails))
      | inr none ↦ absurd none
    ]) in
    or_second (is_dead one) (entails_all one (denied_by nogoods id premises (Some a))) (alive-is d a.var v alive here)
    (denied_where base one nogoods id face premises (Some a) enough nogood (IsWithin-trans base d one smaller within)
    (entails_all-append one premises (negated a ∷ []) (entails_all-within d one premises smaller all) other))

-- ---- one hint

-- a hint leaves a state within the state
pub IsWithin-hint : (d : Domains) (denial : List Atomic) → IsWithin (cut_hint d denial) d
IsWithin-hint d denial =
    let keep : ℕ → ℤ → Bool = λ x v. not (entails_all (cut d («is» x v)) denial) in
    record {
      count = length-keep_where keep d;
      each = λ x v h. (Among-filter_only (keep x) (values d x) v (subst (λ (vs : List ℤ). Among v vs) (values-keep_where keep d x) h)).0;
    }

-- of the values that it leaves, none would make the state entail all of the denial
left_by_hint : (d : Domains) (denial : List Atomic) (x : ℕ) (v : ℤ) → Among v (values (cut_hint d denial) x) → entails_all (cut d («is» x v)) denial ≡ false
left_by_hint d denial x v h =
    let keep : ℕ → ℤ → Bool = λ y w. not (entails_all (cut d («is» y w)) denial) in
    not-true (entails_all (cut d («is» x v)) denial) (Among-filter_only (keep x) (values d x) v (subst (λ (vs : List ℤ). Among v vs) (values-keep_where keep d x) h)).1

-- ---- one turn

lacks_kept : (d : Domains) (p q : Pairs) (b : Bool) → b ≡ true → Lacks d (λ x v. if b then p x v else q x v) → Lacks d p
lacks_kept d p q b k lacks x v e = lacks x v (ap (λ (c : Bool). if c then p x v else q x v) k ∙ e)

lacks_passed : (d : Domains) (p q : Pairs) (b : Bool) → b ≡ false → Lacks d (λ x v. if b then p x v else q x v) → Lacks d q
lacks_passed d p q b k lacks x v e = lacks x v (ap (λ (c : Bool). if c then p x v else q x v) k ∙ e)

-- where what has to be gone before a kept atom is gone, what has to be gone after it is gone after its hint
lacks_after : (base d : Domains) (nogoods : List (List Atomic)) (id : PartId) (face : Face) (premises : List Atomic) (a : Atomic) (later : Pairs)
    → suffices face base (Some a) premises ≡ true → IsThatNogood nogoods id face → IsWithin d base → is_dead d ≡ false
    → Lacks d (before_kept base later (Atom a) premises) → Lacks (cut_hint d (denied_by nogoods id premises (Some a))) later
lacks_after base d nogoods id face premises a later enough nogood within alive lacks x v needed there =
    let denial : List Atomic = denied_by nogoods id premises (Some a) in
    let here : Among v (values d x) = (IsWithin-hint d denial).each x v there in
    let all : entails_all d premises ≡ true = entails_all-lacking base d premises within (λ y w e. lacks y w (or_right (later y w && not (excludes a y w)) (excluded base premises y w) e)) in
    elim (cases_Bool (excludes a x v)) [
      | inl out ↦
          let so : ((a.var == x) ≡ true) × (not (meets a v) ≡ true) = and_parts (a.var == x) (not (meets a v)) out in
          let same : a.var ≡ x = eqb-true a.var x so.0 in
          both_ways (entails_all (cut d («is» x v)) denial) (left_by_hint d denial x v there)
          (subst (λ (y : ℕ). entails_all (cut d («is» y v)) denial ≡ true) same
          (denied_with base d nogoods id face premises a v enough nogood within all alive (subst (λ (y : ℕ). Among v (values d y)) (sym same) here) (not-true (meets a v) so.1)))
      | inr stays ↦
          lacks x v (or_left (later x v && not (excludes a x v)) (excluded base premises x v)
          (and_from (later x v) (not (excludes a x v)) needed (not_from_false (excludes a x v) stays))) here
    ]

-- the hints of the kept turns, the first of them kept or not
abbrev hints_of : List (List Atomic) → List Explained → List (List Atomic)
hints_of nogoods es = map (denial_of nogoods) (map step_of es)

proves_same : (d : Domains) (nogoods : List (List Atomic)) (e : Explained) (es : List Explained) (b c : Bool) → b ≡ c
    → proves d (hints_of nogoods (if c then e ∷ es else es)) ≡ true → proves d (hints_of nogoods (if b then e ∷ es else es)) ≡ true
proves_same d nogoods e es b c k t = ap (λ (s : Bool). proves d (hints_of nogoods (if s then e ∷ es else es))) k ∙ t

-- a clash proves the nogood
proves_by_clash : (base d : Domains) (nogoods : List (List Atomic)) (id : PartId) (face : Face) (premises : List Atomic) (hints : List (List Atomic))
    → suffices face base None premises ≡ true → IsThatNogood nogoods id face → IsWithin d base → Lacks d (excluded base premises)
    → proves d (denied_by nogoods id premises None ∷ hints) ≡ true
proves_by_clash base d nogoods id face premises hints enough nogood within lacks =
    let denial : List Atomic = denied_by nogoods id premises None in
    or_left (is_dead d || entails_all d denial) (proves (cut_hint d denial) hints)
    (denied_where base d nogoods id face premises None enough nogood within (entails_all-append d premises [] (entails_all-lacking base d premises within lacks) refl))

-- a kept atom's hint leads to the state from which the others prove it
proves_by_atom : (base d : Domains) (nogoods : List (List Atomic)) (id : PartId) (face : Face) (premises : List Atomic) (a : Atomic) (later : Pairs) (hints : List (List Atomic))
    → suffices face base (Some a) premises ≡ true → IsThatNogood nogoods id face → IsWithin d base → Lacks d (before_kept base later (Atom a) premises)
    → ((next : Domains) → IsWithin next base → Lacks next later → proves next hints ≡ true)
    → proves d (denied_by nogoods id premises (Some a) ∷ hints) ≡ true
proves_by_atom base d nogoods id face premises a later hints enough nogood within lacks others =
    let denial : List Atomic = denied_by nogoods id premises (Some a) in
    elim (cases_Bool (is_dead d)) [
      | inl dead ↦ or_left (is_dead d || entails_all d denial) (proves (cut_hint d denial) hints) (or_left (is_dead d) (entails_all d denial) dead)
      | inr alive ↦
          or_right (is_dead d || entails_all d denial) (proves (cut_hint d denial) hints)
          (others (cut_hint d denial) (IsWithin-trans base d (cut_hint d denial) (IsWithin-hint d denial) within) (lacks_after base d nogoods id face premises a later enough nogood within alive lacks))
    ]

-- ---- all turns

clash_or_atom : (a : Atomic) (f : Found) (P : Type 0) → f ≡ Atom a → f ≡ Clash → P
clash_or_atom a f P e k = cc

-- after an atom the others end in a clash
ends_later : (e : Explained) (es : List Explained) (a : Atomic) → e.turn.found ≡ Atom a → EndsInClash (e ∷ es) → EndsInClash es
ends_later e [] a k ends = clash_or_atom a e.turn.found ⊥ k ends
ends_later e (f ∷ es) a k ends = ends

-- what the others do from any state within the base that lacks what is left
abbrev Follows : Domains → List (List Atomic) → List Explained → Type 0
Follows base nogoods es = EndsInClash es → (next : Domains) → IsWithin next base → Lacks next (left base es) → proves next (hints_of nogoods (kept base es)) ≡ true

replay_clash : (base d : Domains) (nogoods : List (List Atomic)) (e : Explained) (es : List Explained) → e.turn.found ≡ Clash → IsReason base nogoods e
    → IsWithin d base → Lacks d (left base (e ∷ es)) → proves d (hints_of nogoods (kept base (e ∷ es))) ≡ true
replay_clash base d nogoods e es k reason within lacks =
    let later : Pairs = left base es in
    let keeps : is_kept later e.turn.before e.turn.found ≡ true = ap (is_kept later e.turn.before) k in
    let gone : Lacks d (before_kept base later e.turn.found e.premises) = lacks_kept d (before_kept base later e.turn.found e.premises) later (is_kept later e.turn.before e.turn.found) keeps lacks in
    proves_same d nogoods e (kept base es) (is_kept later e.turn.before e.turn.found) true keeps
    (subst (λ (f : Found). proves d (denied_by nogoods e.turn.part.id e.premises (target_of f) ∷ hints_of nogoods (kept base es)) ≡ true) (sym k)
    (proves_by_clash base d nogoods e.turn.part.id e.turn.part.face e.premises (hints_of nogoods (kept base es))
    (subst (λ (f : Found). suffices e.turn.part.face base (target_of f) e.premises ≡ true) k reason.enough) reason.nogood within
    (λ x v n. gone x v (or_right (without later e.turn.found x v) (excluded base e.premises x v) n))))

replay_kept : (base d : Domains) (nogoods : List (List Atomic)) (e : Explained) (es : List Explained) (a : Atomic) → e.turn.found ≡ Atom a → IsReason base nogoods e
    → IsWithin d base → is_kept (left base es) e.turn.before e.turn.found ≡ true → Lacks d (left base (e ∷ es))
    → ((next : Domains) → IsWithin next base → Lacks next (left base es) → proves next (hints_of nogoods (kept base es)) ≡ true)
    → proves d (hints_of nogoods (kept base (e ∷ es))) ≡ true
replay_kept base d nogoods e es a k reason within keeps lacks others =
    let later : Pairs = left base es in
    let gone : Lacks d (before_kept base later e.turn.found e.premises) = lacks_kept d (before_kept base later e.turn.found e.premises) later (is_kept later e.turn.before e.turn.found) keeps lacks in
    proves_same d nogoods e (kept base es) (is_kept later e.turn.before e.turn.found) true keeps
    (subst (λ (f : Found). proves d (denied_by nogoods e.turn.part.id e.premises (target_of f) ∷ hints_of nogoods (kept base es)) ≡ true) (sym k)
    (proves_by_atom base d nogoods e.turn.part.id e.turn.part.face e.premises a later (hints_of nogoods (kept base es))
    (subst (λ (f : Found). suffices e.turn.part.face base (target_of f) e.premises ≡ true) k reason.enough) reason.nogood within
    (subst (λ (f : Found). Lacks d (before_kept base later f e.premises)) k gone) others))

replay_passed : (base d : Domains) (nogoods : List (List Atomic)) (e : Explained) (es : List Explained) → IsWithin d base
    → is_kept (left base es) e.turn.before e.turn.found ≡ false → Lacks d (left base (e ∷ es))
    → ((next : Domains) → IsWithin next base → Lacks next (left base es) → proves next (hints_of nogoods (kept base es)) ≡ true)
    → proves d (hints_of nogoods (kept base (e ∷ es))) ≡ true
replay_passed base d nogoods e es within passes lacks others =
    let later : Pairs = left base es in
    proves_same d nogoods e (kept base es) (is_kept later e.turn.before e.turn.found) false passes
    (others d within (lacks_passed d (before_kept base later e.turn.found e.premises) later (is_kept later e.turn.before e.turn.found) passes lacks))

replay_turn : (base d : Domains) (nogoods : List (List Atomic)) (e : Explained) (es : List Explained) (f : Found) → e.turn.found ≡ f → EndsInClash (e ∷ es) → IsReason base nogoods e
    → IsWithin d base → Lacks d (left base (e ∷ es)) → Follows base nogoods es → proves d (hints_of nogoods (kept base (e ∷ es))) ≡ true
replay_turn base d nogoods e es Clash k ends reason within lacks others = replay_clash base d nogoods e es k reason within lacks
replay_turn base d nogoods e es (Atom a) k ends reason within lacks others = elim (cases_Bool (is_kept (left base es) e.turn.before e.turn.found)) [
  | inl keeps ↦ replay_kept base d nogoods e es a k reason within keeps lacks (others (ends_later e es a k ends))
  | inr passes ↦ replay_passed base d nogoods e es within passes lacks (others (ends_later e es a k ends))
]

-- the law of replay
pub replays : Replays
replays base start nogoods [] ends reasons within lacks = absurd ends
replays base start nogoods (e ∷ es) ends reasons within lacks =
    replay_turn base start nogoods e es e.turn.found refl ends reasons.0 within lacks
    (λ later next below none. replays base next nogoods es later reasons.1 below none)
