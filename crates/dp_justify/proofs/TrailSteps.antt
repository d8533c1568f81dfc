-- The states of a run, which are found again by the marks of its turns.
use Rattle.std.proofs.Common.{◌≡◌, ℕ, ◌+◌, ◌<◌, ◌≤◌, Option, Some, None, List, [], ◌∷◌, ◌++◌, length, get_or, map, take, refl, sym, ◌∙◌, ap, subst, arith, append-nil, length-append, length-take-le, get_or-take}
use Rattle.std.proofs.lemmas.List.{get_or_append_left, map-append}
use Rattle.dp_base.specs.Lists.{Each}
use Rattle.dp_base.proofs.Lists.{Each-append, Each-weaker}
use Rattle.dp_domain.specs.States.{Domains, total}
use Rattle.dp_engine.specs.Engines.{Begins, Extends, KeepsParts, Propagation, parts_of, states}
use Rattle.dp_engine.specs.Placed.{AreSound, Placed, turn_order}
use Rattle.dp_engine.specs.Runs.{run, run_end}
use Rattle.dp_engine.specs.Turns.{applied, turn_at}
use Rattle.dp_engine.specs.declared.turn.Turn.{Turn}
use Rattle.dp_engine.specs.declared.turn.Turn.TheVariants.{Atom as Gave, Clash as Clashed, Quiet, Empty}
use Rattle.dp_engine.proofs.StateSteps.{Each-front, get-last}
use Rattle.dp_domain.specs.Atoms.{Atomic}
use Rattle.dp_parts.specs.Problems.{Csp, posed}
use Rattle.dp_justify.specs.Taking.{AreInOrder, IsTrail, SeenTurn, end_of_run, noted, said, seen, seen_among, seen_at}
use Rattle.dp_justify.specs.declared.turns.RunTurn.{RunTurn}
use Rattle.dp_justify.proofs.RunSteps.{IsAlong, along-end, along-more}

-- ---- the order of marks

order_push : (ts : List RunTurn) (u : RunTurn) → AreInOrder ts → Each (λ (t : RunTurn). t.mark ≤ u.mark) ts → AreInOrder (ts ++ u ∷ [])
order_push [] u o e = (tt, tt)
order_push (t ∷ ts) u o e = (Each-append (λ (v : RunTurn). t.mark ≤ v.mark) ts (u ∷ []) o.0 (e.0, tt), order_push ts u o.1 e.1)

order_front : (ts : List RunTurn) (u : RunTurn) → AreInOrder (ts ++ u ∷ []) → AreInOrder ts × Each (λ (t : RunTurn). t.mark ≤ u.mark) ts
order_front [] u o = (tt, tt)
order_front (t ∷ ts) u o =
    let front = Each-front (λ (v : RunTurn). t.mark ≤ v.mark) ts u o.0 in
    let rest = order_front ts u o.1 in
    ((front.0, rest.0), (front.1, rest.1))

order_noted : (ts : List RunTurn) (mark : ℕ) (turn : Turn) → AreInOrder ts → Each (λ (t : RunTurn). t.mark ≤ mark) ts → AreInOrder (ts ++ noted mark turn)
order_noted ts mark (Gave id a) o e = order_push ts (record { mark = mark; source = id; target = Some a }) o e
order_noted ts mark (Clashed id) o e = order_push ts (record { mark = mark; source = id; target = None }) o e
order_noted ts mark Quiet o e = subst AreInOrder (sym (append-nil ts)) o
order_noted ts mark Empty o e = subst AreInOrder (sym (append-nil ts)) o

noted_there : (mark n : ℕ) (turn : Turn) → mark < n → Each (λ (t : RunTurn). t.mark < n) (noted mark turn)
noted_there mark n (Gave id a) h = (h, tt)
noted_there mark n (Clashed id) h = (h, tt)
noted_there mark n Quiet h = tt
noted_there mark n Empty h = tt

-- ---- states found again

count_states : (past : List Domains) (d : Domains) → length (past ++ d ∷ []) ≡ length past + 1
count_states past d = length-append past (d ∷ [])

longer : (ds now : List Domains) → Begins ds now → length ds ≤ length now
longer ds now b = omega (arith, simp length-append at (ap (λ (es : List Domains). length es) b.1))

-- states that go on have each state at its place
seen_later : (ds now : List Domains) (ts : List RunTurn) → Begins ds now → Each (λ (t : RunTurn). t.mark < length ds) ts → map (seen_among now) ts ≡ map (seen_among ds) ts
seen_later ds now [] b e = refl
seen_later ds now (t ∷ ts) b e =
    ap (λ (d : Domains). seen_at d t ∷ map (seen_among now) ts) (ap (λ (es : List Domains). get_or es t.mark []) b.1 ∙ get_or_append_left ds b.0 [] t.mark e.0)
    ∙ ap (λ (us : List SeenTurn). seen_among ds t ∷ us) (seen_later ds now ts b e.1)

-- and so have the first of them
seen_first : (ds : List Domains) (mark : ℕ) (ts : List RunTurn) → Each (λ (t : RunTurn). t.mark ≤ mark) ts → map (seen_among (take (mark + 1) ds)) ts ≡ map (seen_among ds) ts
seen_first ds mark [] e = refl
seen_first ds mark (t ∷ ts) e =
    ap (λ (d : Domains). seen_at d t ∷ map (seen_among (take (mark + 1) ds)) ts) (get_or-take (mark + 1) ds t.mark [] (omega (arith, e.0)))
    ∙ ap (λ (us : List SeenTurn). seen_among ds t ∷ us) (seen_first ds mark ts e.1)

-- the state that was the last one stands at the mark
stands_at : (past now : List Domains) (d : Domains) (mark : ℕ) → mark ≡ length past → Begins (past ++ d ∷ []) now → get_or now mark [] ≡ d
stands_at past now d mark h b =
    ap (λ (es : List Domains). get_or es mark []) b.1
    ∙ get_or_append_left (past ++ d ∷ []) b.0 [] mark (omega (arith, h, count_states past d))
    ∙ get-last past (past ++ d ∷ []) mark d [] refl h

seen_noted : (past now : List Domains) (d : Domains) (mark : ℕ) (turn : Turn) → mark ≡ length past → Begins (past ++ d ∷ []) now → map (seen_among now) (noted mark turn) ≡ said d turn
seen_noted past now d mark (Gave id a) h b = ap (λ (e : Domains). let t : RunTurn = record { mark = mark; source = id; target = Some a } in seen_at e t ∷ []) (stands_at past now d mark h b)
seen_noted past now d mark (Clashed id) h b = ap (λ (e : Domains). let t : RunTurn = record { mark = mark; source = id; target = None } in seen_at e t ∷ []) (stands_at past now d mark h b)
seen_noted past now d mark Quiet h b = refl
seen_noted past now d mark Empty h b = refl

-- ---- one turn on

module _ (e f : Propagation) (turns now : List RunTurn) (mark : ℕ) (turn : Turn) (goes : Extends e f) (h : IsTrail (states e) turns) (m : mark ≡ length e.past) (k : now ≡ turns ++ noted mark turn) where
  last_there : mark < length (states f)
  last_there = omega (arith, m, count_states e.past e.present, longer (states e) (states f) goes)

  there_later : Each (λ (t : RunTurn). t.mark < length (states f)) turns
  there_later = Each-weaker (λ (t : RunTurn). t.mark < length (states e)) (λ (t : RunTurn). t.mark < length (states f)) (λ t l. omega (arith, l, longer (states e) (states f) goes)) turns h.there

  below_mark : Each (λ (t : RunTurn). t.mark ≤ mark) turns
  below_mark = Each-weaker (λ (t : RunTurn). t.mark < length (states e)) (λ (t : RunTurn). t.mark ≤ mark) (λ t l. omega (arith, l, m, count_states e.past e.present)) turns h.there

  -- the mark of one turn more stands among the states, after the others
  pub trail-more : IsTrail (states f) now
  trail-more = subst (IsTrail (states f)) (sym k) (record {
    there = Each-append (λ (t : RunTurn). t.mark < length (states f)) turns (noted mark turn) there_later (noted_there mark (length (states f)) turn last_there);
    ordered = order_noted turns mark turn h.ordered below_mark;
  })

  -- the turns are those before, and the one at the state that was the last one
  pub seen-more : map (seen_among (states f)) now ≡ map (seen_among (states e)) turns ++ said e.present turn
  seen-more =
      ap (map (seen_among (states f))) k ∙ map-append (seen_among (states f)) turns (noted mark turn)
      ∙ ap (λ (us : List SeenTurn). us ++ map (seen_among (states f)) (noted mark turn)) (seen_later (states e) (states f) turns goes h.there)
      ∙ ap (λ (us : List SeenTurn). map (seen_among (states e)) turns ++ us) (seen_noted e.past (states f) e.present mark turn m goes)

-- ---- one turn back

module _ (e : Propagation) (turns front : List RunTurn) (t : RunTurn) (k : turns ≡ front ++ t ∷ []) (h : IsTrail (states e) turns) where
  there_all : Each (λ (u : RunTurn). u.mark < length (states e)) front × (t.mark < length (states e))
  there_all = Each-front (λ (u : RunTurn). u.mark < length (states e)) front t (subst (Each (λ (u : RunTurn). u.mark < length (states e))) k h.there)

  order_all : AreInOrder front × Each (λ (u : RunTurn). u.mark ≤ t.mark) front
  order_all = order_front front t (subst AreInOrder k h.ordered)

  -- the last turn's mark is that of a state so far
  pub mark-there : t.mark ≤ length e.past
  mark-there = omega (arith, there_all.1, count_states e.past e.present)

  module _ (f : Propagation) (goes : states f ≡ take (t.mark + 1) (states e)) where
    count_first : length (states f) ≡ t.mark + 1
    count_first = ap (λ (ds : List Domains). length ds) goes ∙ length-take-le (t.mark + 1) (states e) (omega (arith, there_all.1))

    -- the other turns' marks stand among the first states
    pub trail-back : IsTrail (states f) front
    trail-back = record {
      there = Each-weaker (λ (u : RunTurn). u.mark ≤ t.mark) (λ (u : RunTurn). u.mark < length (states f)) (λ u l. omega (arith, l, count_first)) front order_all.1;
      ordered = order_all.0;
    }

    -- the state at the mark is the present one
    at_mark : get_or (states e) t.mark [] ≡ f.present
    at_mark =
        sym (get_or-take (t.mark + 1) (states e) t.mark [] (omega arith))
        ∙ ap (λ (ds : List Domains). get_or ds t.mark []) (sym goes)
        ∙ get-last f.past (states f) t.mark f.present [] refl (omega (arith, count_first, count_states f.past f.present))

    -- the turns are those before the last, and the last at the present state
    pub seen-back : map (seen_among (states e)) turns ≡ map (seen_among (states f)) front ++ seen_at f.present t ∷ []
    seen-back =
        ap (map (seen_among (states e))) k ∙ map-append (seen_among (states e)) front (t ∷ [])
        ∙ ap (λ (us : List SeenTurn). us ++ seen_among (states e) t ∷ []) (sym (ap (λ (ds : List Domains). map (seen_among ds) front) goes ∙ seen_first (states e) t.mark front order_all.1))
        ∙ ap (λ (d : Domains). map (seen_among (states f)) front ++ seen_at d t ∷ []) at_mark

-- ---- the run, turn after turn

-- an engine with the same problem and nogoods has the same parts
same_parts : (before now : Propagation) → KeepsParts before now → parts_of now ≡ parts_of before
same_parts before now k =
    ap (λ (p : Csp). turn_order (posed p) now.nogoods) k.problem ∙ ap (λ (ns : List (List Atomic)). turn_order (posed before.problem) ns) k.nogoods

-- a turn that the engine takes after others of the run, which are on its trail
pub record IsStep (first e f : Propagation) (turns now : List RunTurn) (end : Option Turn) : Type 0 where
  pub sound : AreSound (length first.problem.initial) (parts_of first)
  pub keeps : KeepsParts first e
  pub along : IsAlong (parts_of first) first.present (map (seen_among (states e)) turns) e.present
  pub trail : IsTrail (states e) turns
  pub goes : Extends e f
  pub more : now ≡ turns ++ noted (length e.past) (turn_at (parts_of e) e.present)
  pub told : end ≡ end_of_run (turn_at (parts_of e) e.present)

module _ (first e f : Propagation) (turns now : List RunTurn) (end : Option Turn) (h : IsStep first e f turns now end) where
  told_so : end ≡ end_of_run (turn_at (parts_of first) e.present)
  told_so = h.told ∙ ap (λ (parts : List Placed). end_of_run (turn_at parts e.present)) (same_parts first e h.keeps)

  seen_so : map (seen_among (states f)) now ≡ map (seen_among (states e)) turns ++ said e.present (turn_at (parts_of first) e.present)
  seen_so =
      seen-more e f turns now (length e.past) (turn_at (parts_of e) e.present) h.goes h.trail refl h.more
      ∙ ap (λ (parts : List Placed). map (seen_among (states e)) turns ++ said e.present (turn_at parts e.present)) (same_parts first e h.keeps)

  -- it is on the trail too
  pub step-trail : IsTrail (states f) now
  step-trail = trail-more e f turns now (length e.past) (turn_at (parts_of e) e.present) h.goes h.trail refl h.more

  -- where the run does not end with it, the run goes on from the next state, which is smaller
  pub step-on : end ≡ None → f.present ≡ applied e.present (turn_at (parts_of e) e.present)
      → IsAlong (parts_of first) first.present (map (seen_among (states f)) now) f.present × (total f.present < total e.present)
  step-on none next =
      along-more (length first.problem.initial) (parts_of first) first.present e.present f.present (map (seen_among (states e)) turns) (map (seen_among (states f)) now) end h.sound h.along told_so none
      (next ∙ ap (λ (parts : List Placed). applied e.present (turn_at parts e.present)) (same_parts first e h.keeps)) seen_so

  -- where it does, the turns are those of the run
  pub step-end : (last : Turn) → end ≡ Some last → (map (seen_among (states f)) now ≡ map seen (run (parts_of first) first.present)) × (last ≡ run_end (parts_of first) first.present)
  step-end last some =
      along-end (length first.problem.initial) (parts_of first) first.present e.present (map (seen_among (states e)) turns) (map (seen_among (states f)) now) end last h.sound h.along told_so some seen_so

-- parts that are kept twice are kept
pub keeps-more : (first before now : Propagation) → KeepsParts first before → KeepsParts before now → KeepsParts first now
keeps-more first before now h k = record { problem = k.problem ∙ h.problem; nogoods = k.nogoods ∙ h.nogoods }
