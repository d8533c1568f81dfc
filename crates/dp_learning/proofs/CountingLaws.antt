-- No two learned nogoods have the same sorts of atoms, so there are fewer of them than sets of sorts.
use Rattle.std.proofs.Common.{◌≡◌, ℕ, ◌+◌, ◌<◌, ◌^◌, Bool, true, false, List, [], ◌∷◌, ◌++◌, ◌⊎◌, None, length, refl, sym, ◌∙◌, ap, subst, inl, inr}
use Rattle.std.specs.List.{list_any}
use Rattle.std.proofs.lemmas.Bool.{both_ways, false≢true, or_parts}
use Rattle.dp_base.specs.Lists.{Among, Each}
use Rattle.dp_base.proofs.Lists.{Among-append_cases, Among-append_right, Each-among, Each-append_parts, Each-from_among, list_all-fails, list_any-at, list_any-some}
use Rattle.dp_domain.specs.Atoms.{Atomic, negated}
use Rattle.dp_domain.specs.States.{AreOf, Domains, IsWithin, cut_all, entails, entails_all, is_dead}
use Rattle.dp_domain.specs.Turns.{IsTurn}
use Rattle.dp_domain.proofs.StateLaws.{IsWithin-cut_all, IsWithin-trans, entails-cut_all, entails-within}
use Rattle.dp_engine.specs.declared.part_id.PartId.TheVariants.{Nogood}
use Rattle.dp_engine.specs.declared.turn.Turn.TheVariants.{Quiet}
use Rattle.dp_engine.specs.Placed.{AreSound, Placed, of_constraints, of_nogoods, turn_order}
use Rattle.dp_engine.specs.Turns.{IsTurnAt, turn_at}
use Rattle.dp_engine.proofs.FailureLaws.{run-within}
use Rattle.dp_engine.proofs.PlacedLaws.{order-sound}
use Rattle.dp_engine.proofs.TurnLaws.{turn_at-is}
use Rattle.dp_parts.specs.Posed.{IsSoundlyPosed, Posed}
use Rattle.dp_rule_clause.specs.Nogoods.{face_nogood}
use Rattle.dp_learning.specs.Learning.{AreLearned, IsLearned, IsNew, left_after}
use Rattle.dp_learning.specs.Sorts.{sort_count}
use Rattle.dp_learning.proofs.AlikeLaws.{AreAlike, Sort, alike-sym, alike-trans, alike-where, among_sorts, denies-alike, entails-alike, is_of, is_of-itself, sort_of, sorts, sorts-count}
use Rattle.dp_learning.proofs.NewnessLaws.{denied}
use Rattle.dp_learning.proofs.PigeonLaws.{Differ, Pairwise, differ_or_same, few, pairwise_from, split_at}

-- ---- a state at which the parts and nogoods rest

-- a nogood is the face of one of the nogoods' places
nogood_placed : (j : ℕ) (nogoods : List (List Atomic)) (nogood : List Atomic) → Among nogood nogoods → (q : Placed) × Among q (of_nogoods j nogoods) × (q.face ≡ face_nogood nogood)
nogood_placed j [] nogood h = absurd h
nogood_placed j (n ∷ nogoods) nogood (inl e) = (record { id = Nogood j; face = face_nogood n }, inl refl, ap face_nogood (sym e))
nogood_placed j (n ∷ nogoods) nogood (inr h) = let r = nogood_placed (j + 1) nogoods nogood h in (r.0, inr r.1, r.2)

-- none of the nogoods gives anything
nogood_quiet : (p : Posed) (nogoods : List (List Atomic)) (nogood : List Atomic) (d : Domains) → AreSound (length p.initial) (turn_order p nogoods)
    → turn_at (turn_order p nogoods) d ≡ Quiet → Among nogood nogoods → IsTurn (face_nogood nogood) d None
nogood_quiet p nogoods nogood d sound e h =
    let quiet : IsTurnAt (turn_order p nogoods) d Quiet = subst (IsTurnAt (turn_order p nogoods) d) e (turn_at-is (length p.initial) (turn_order p nogoods) d sound) in
    let r = nogood_placed 0 nogoods nogood h in
    subst (λ f. IsTurn f d None) r.2
    (Each-among (λ (q : Placed). IsTurn q.face d None) (turn_order p nogoods) quiet.1 r.0
    (Among-append_right r.0 (of_constraints 0 p.constraints) (of_nogoods 0 nogoods) r.1))

-- propagation ends within the initial domains
left_within : (p : Posed) (nogoods : List (List Atomic)) (atoms : List Atomic) → AreSound (length p.initial) (turn_order p nogoods) → IsWithin (left_after p nogoods atoms) p.initial
left_within p nogoods atoms sound =
    IsWithin-trans p.initial (cut_all p.initial atoms) (left_after p nogoods atoms)
    (run-within (length p.initial) (turn_order p nogoods) (cut_all p.initial atoms) sound) (IsWithin-cut_all p.initial atoms)

-- and entails the atoms that it began with
left_entails : (p : Posed) (nogoods : List (List Atomic)) (atoms : List Atomic) → AreSound (length p.initial) (turn_order p nogoods) → (a : Atomic) → Among a atoms → entails (left_after p nogoods atoms) a ≡ true
left_entails p nogoods atoms sound a h =
    entails-within (cut_all p.initial atoms) (left_after p nogoods atoms) a
    (run-within (length p.initial) (turn_order p nogoods) (cut_all p.initial atoms) sound) (entails-cut_all p.initial atoms a h)

-- ---- two nogoods with the same sorts

-- each atom of the first has one of its sort in the second
abbrev HasSortsOf : Domains → List Atomic → List Atomic → Type 0
HasSortsOf initial n m = (a : Atomic) → Among a n → (b : Atomic) × Among b m × AreAlike initial a b

-- each atom of the nogood is entailed or of this sort
abbrev AllBut : Domains → Domains → List Atomic → Atomic → Type 0
AllBut initial d nogood u = (a : Atomic) → Among a nogood → (entails d a ≡ true) ⊎ AreAlike initial u a

alike_last : (initial : Domains) (a b last : Atomic) → AreAlike initial a b → Among b (last ∷ []) → AreAlike initial last a
alike_last initial a b last s (inl e) = alike-sym initial a last (subst (λ c. AreAlike initial a c) e s)
alike_last initial a b last s (inr h) = absurd h

-- where the atoms before the last are entailed, so are all of the other nogood but those of the last's sort
all_but_last : (initial d : Domains) (n m others : List Atomic) (last : Atomic) → IsWithin d initial → m ≡ others ++ last ∷ [] → ((b : Atomic) → Among b others → entails d b ≡ true) → HasSortsOf initial n m → AllBut initial d n last
all_but_last initial d n m others last within split entailed same = λ a h.
    let r = same a h in
    elim (Among-append_cases r.0 others (last ∷ []) (subst (λ atoms. Among r.0 atoms) split r.1)) [
      | inl k ↦ inl (entails-alike initial d r.0 a within (alike-sym initial a r.0 r.2) (entailed r.0 k))
      | inr k ↦ inr (alike_last initial a r.0 last r.2 k)
    ]

-- an atom that is not entailed is of that sort
left_over : (initial d : Domains) (nogood : List Atomic) (last u : Atomic) → AllBut initial d nogood last → Among u nogood → entails d u ≡ false → AreAlike initial last u
left_over initial d nogood last u all h e = elim (all u h) [ inl t ↦ absurd (both_ways (entails d u) e t) | inr s ↦ s ]

all_but_another : (initial d : Domains) (nogood : List Atomic) (last u : Atomic) → AllBut initial d nogood last → AreAlike initial last u → AllBut initial d nogood u
all_but_another initial d nogood last u all s = λ a h. elim (all a h) [
  | inl t ↦ inl t
  | inr k ↦ inr (alike-trans initial u last a (alike-sym initial last u s) k)
]

-- a nogood that gives nothing at the state, where all but those of the last's sort are entailed, denies the last
last_denied : (initial d : Domains) (nogood : List Atomic) (last : Atomic) → IsWithin d initial → IsTurn (face_nogood nogood) d None → AllBut initial d nogood last → entails d (negated last) ≡ true
last_denied initial d nogood last within quiet all =
    let u = list_all-fails (entails d) nogood (or_parts (is_dead d) (entails_all d nogood) quiet.0).1 in
    let s = left_over initial d nogood last u.0 all u.1 u.2 in
    denies-alike initial d u.0 last within (alike-sym initial last u.0 s)
    (denied initial d nogood u.0 (record { within = within; quiet = quiet; among = u.1; others = all_but_another initial d nogood last u.0 all s }))

-- so a nogood is not new behind one with the same sorts
not_new : (p : Posed) (before : List (List Atomic)) (n m : List Atomic) → AreSound (length p.initial) (turn_order p before) → Among n before → HasSortsOf p.initial n m → IsNew p before m → ⊥
not_new p before n m sound h same new =
    let d : Domains = left_after p before new.others in
    let within = left_within p before new.others sound in
    both_ways (entails d (negated new.last)) new.leaves
    (last_denied p.initial d n new.last within (nogood_quiet p before n d sound new.rests h)
    (all_but_last p.initial d n m new.others new.last within new.split (left_entails p before new.others sound) same))

-- ---- how many

-- whether some atom of the nogood is of the sort
abbrev has : Domains → Sort → List Atomic → Bool
has initial s nogood = list_any (is_of initial s) nogood

has_sort : (initial : Domains) (nogood : List Atomic) (a : Atomic) → Among a nogood → has initial (sort_of initial a) nogood ≡ true
has_sort initial nogood a h = list_any-at (is_of initial (sort_of initial a)) nogood a h (is_of-itself initial a)

-- the same of all sorts gives each atom one of its sort
sorts_shared : (initial : Domains) (n m : List Atomic) → AreOf initial n → ((s : Sort) → Among s (sorts initial) → has initial s n ≡ has initial s m) → HasSortsOf initial n m
sorts_shared initial n m variables same = λ a h.
    let s : Sort = sort_of initial a in
    let e = same s (among_sorts initial a (Each-among (λ (b : Atomic). b.var < length initial) n variables a h)) in
    let r = list_any-some (is_of initial s) m (sym e ∙ has_sort initial n a h) in
    (r.0, r.1, alike-where initial a r.0 r.2)

-- learned nogoods are on the problem's variables
learned_variables : (p : Posed) (nogoods : List (List Atomic)) → AreLearned p nogoods → Each (AreOf p.initial) nogoods
learned_variables p nogoods learned = Each-from_among (AreOf p.initial) nogoods (λ n h.
    let r = split_at nogoods n h in (learned r.0 r.1 n r.2).variables)

front_variables : (p : Posed) (nogoods before after : List (List Atomic)) (m : List Atomic) → AreLearned p nogoods → nogoods ≡ before ++ m ∷ after → Each (AreOf p.initial) before
front_variables p nogoods before after m learned e =
    (Each-append_parts (AreOf p.initial) before (m ∷ after) (subst (Each (AreOf p.initial)) e (learned_variables p nogoods learned))).0

-- each learned nogood differs from those before it in the sorts of its atoms
sorts_differ : (p : Posed) (nogoods before after : List (List Atomic)) (n m : List Atomic) → IsSoundlyPosed p → AreLearned p nogoods → nogoods ≡ before ++ m ∷ after → Among n before → Differ (has p.initial) (sorts p.initial) n m
sorts_differ p nogoods before after n m posed learned e h =
    let variables = front_variables p nogoods before after m learned e in
    elim (differ_or_same (has p.initial) (sorts p.initial) n m) [
      | inl r ↦ r
      | inr same ↦ absurd (not_new p before n m (order-sound p before posed variables) h
          (sorts_shared p.initial n m (Each-among (AreOf p.initial) before variables n h) same) (learned before after m e).new)
    ]

-- a nogood with an atom differs from none at all
atom_differs : (initial : Domains) (nogood : List Atomic) (a : Atomic) → AreOf initial nogood → Among a nogood → Differ (has initial) (sorts initial) [] nogood
atom_differs initial nogood a variables h = (
  sort_of initial a,
  among_sorts initial a (Each-among (λ (b : Atomic). b.var < length initial) nogood variables a h),
  λ e. false≢true (e ∙ has_sort initial nogood a h),
)

-- a learned nogood has an atom
learned_differs : (p : Posed) (before : List (List Atomic)) (nogood : List Atomic) → IsLearned p before nogood → Differ (has p.initial) (sorts p.initial) [] nogood
learned_differs p before nogood r =
    atom_differs p.initial nogood r.new.last r.variables
    (subst (λ atoms. Among r.new.last atoms) (sym r.new.split) (Among-append_right r.new.last r.new.others (r.new.last ∷ []) (inl refl)))

-- the empty set of atoms and the learned nogoods differ pairwise
all_differ : (p : Posed) (nogoods : List (List Atomic)) → IsSoundlyPosed p → AreLearned p nogoods → Pairwise (Differ (has p.initial) (sorts p.initial)) ([] ∷ nogoods)
all_differ p nogoods posed learned = (
  Each-from_among (Differ (has p.initial) (sorts p.initial) []) nogoods (λ m h. let r = split_at nogoods m h in learned_differs p r.0 m (learned r.0 r.1 m r.2)),
  pairwise_from (Differ (has p.initial) (sorts p.initial)) [] nogoods (λ before after n m e h. sorts_differ p nogoods before after n m posed learned e h),
)

-- there are fewer learned nogoods than sets of sorts
pub fewer-learned : (p : Posed) (nogoods : List (List Atomic)) → IsSoundlyPosed p → AreLearned p nogoods → length nogoods < 2 ^ sort_count p.initial
fewer-learned p nogoods posed learned =
    subst (λ k. length nogoods < 2 ^ k) (sorts-count p.initial)
    (few (has p.initial) (sorts p.initial) ([] ∷ nogoods) (all_differ p nogoods posed learned))
