-- What an engine keeps of its parts, from call to call.
use Rattle.std.proofs.Common.{◌≡◌, ℕ, ◌^◌, ◌+◌, ◌-◌, ◌<◌, ◌≤◌, Bool, true, List, [], ◌∷◌, ◌++◌, length, map, get_or, refl, sym, ◌∙◌, ap, subst, arith, length-append}
use Rattle.std.specs.Prelude.{reverse}
use Rattle.dp_base.specs.Lists.{Each}
use Rattle.dp_domain.specs.Atoms.{Atomic}
use Rattle.dp_domain.specs.States.{AreOf, Domains, is_dead}
use Rattle.dp_parts.specs.Problems.{Csp, IsProblem, posed}
use Rattle.dp_rule_clause.specs.NogoodLaws.{nogood_lawful}
use Rattle.dp_rule_clause.specs.Nogoods.{face_nogood, scope_of}
use Rattle.dp_engine.specs.declared.part_id.PartId.TheVariants.{Nogood}
use Rattle.dp_engine.specs.declared.debts.Note.{Note}
use Rattle.dp_engine.specs.Debts.{AreKept, History, IsKept}
use Rattle.dp_engine.specs.Engines.{Begins, HaveCount, Propagation}
use Rattle.dp_engine.specs.Placed.{IsSound, Placed, of_constraints, turn_order}
use Rattle.dp_engine.specs.Rosters.{Listed, all_placed, placed_at}
use Rattle.dp_engine.specs.Woken.{IsIndex, IsTracked, entered, owed_of}
use Rattle.dp_engine.proofs.EngineSteps.{all-more, few-more}
use Rattle.dp_engine.proofs.PlacedLaws.{scope-covered}
use Rattle.dp_engine.proofs.RosterLaws.{placed-push}
use Rattle.dp_engine.proofs.StepLaws.{owed-few}
use Rattle.dp_engine.proofs.DebtLaws.{kept-pushed}
use Rattle.dp_engine.proofs.WokenLaws.{index-push, rest-none, rest-push}

-- an engine as it is seen
abbrev pub seen : Csp → List (List Atomic) → List Domains → Domains → List Bool → Propagation
seen p ns past d ws = record { problem = p; nogoods = ns; past = past; present = d; owed = owed_of ws }

-- at other states, with other parts woken
pub tracked-moved : (p : Csp) (roster : Listed) (lists : List (List ℕ)) (past later : List Domains) (d e : Domains) (g h : History) (was dead : Bool) → IsTracked (seen p roster.nogoods past d g.now) roster lists g was
    → HaveCount (length p.initial) (later ++ e ∷ []) → length h.now ≡ length g.now → h.lasting ≡ g.lasting → IsKept (turn_order (posed p) roster.nogoods) h (record { past = later; present = e }) → Begins (p.initial ∷ []) (later ++ e ∷ []) → dead ≡ is_dead e
    → IsTracked (seen p roster.nogoods later e h.now) roster lists h dead
tracked-moved p roster lists past later d e g h was dead t states count lasting kept start known = record {
  engine = record {
    problem = t.engine.problem;
    few = t.engine.few;
    nogoods = t.engine.nogoods;
    states = states;
    owed = owed-few h.now (turn_order (posed p) roster.nogoods) (count ∙ t.count);
  };
  parts = t.parts;
  count = count ∙ t.count;
  lasting = let l = t.lasting in omega arith;
  index = t.index;
  kept = kept;
  start = start;
  known = known;
}

-- where no point is before, nothing is to be kept of earlier ones
pub kept-none : (parts : List Placed) (n : ℕ) (es : List Note) (ts : List ℕ) (w : List Bool) (e : Domains) (past : List Domains) → es ≡ [] → past ≡ [] → AreKept parts n es ts w e (reverse past)
kept-none parts n es ts w e past h k = subst (λ (fs : List Note). AreKept parts n fs ts w e (reverse past)) (sym h) (ap (λ (ds : List Domains). reverse ds) k)

-- one part more, which is woken
abbrev pub one_more : History → History
one_more h = record { notes = h.notes; now = h.now ++ true ∷ []; lasting = h.lasting }

-- a new engine, whose parts are all woken
pub tracked-new : (p : Csp) (roster : Listed) (lists : List (List ℕ)) (past : List Domains) (d : Domains) (h : History) (dead : Bool) (ns : List (List Atomic)) (k : ℕ) → IsProblem p → length ns < 2 ^ 32
    → Each (AreOf p.initial) ns → roster.nogoods ≡ ns → all_placed roster ≡ turn_order (posed p) ns → past ≡ [] → d ≡ p.initial → IsIndex (length p.initial) (turn_order (posed p) ns) lists
    → k ≡ length (all_placed roster) → length h.now ≡ k → ((j : ℕ) → get_or h.now j true ≡ true) → h.notes ≡ [] → h.lasting ≡ k → dead ≡ is_dead d → IsTracked (seen p roster.nogoods past d h.now) roster lists h dead
tracked-new p roster lists past d h dead ns k kept few on en ep e0 ed index ek ew all eh el known =
    let parts : all_placed roster ≡ turn_order (posed p) roster.nogoods = ep ∙ ap (turn_order (posed p)) (sym en) in
    let count : length h.now ≡ length (turn_order (posed p) roster.nogoods) = ew ∙ ek ∙ ap (λ (qs : List Placed). length qs) parts in
    record {
      engine = record {
        problem = kept;
        few = subst (λ (ms : List (List Atomic)). length ms < 2 ^ 32) (sym en) few;
        nogoods = subst (Each (AreOf p.initial)) (sym en) on;
        states = subst (λ (ds : List Domains). HaveCount (length p.initial) (ds ++ d ∷ [])) (sym e0) (ap (λ (b : Domains). length b) ed, tt);
        owed = owed-few h.now (turn_order (posed p) roster.nogoods) count;
      };
      parts = parts;
      count = count;
      index = subst (λ (ms : List (List Atomic)). IsIndex (length p.initial) (turn_order (posed p) ms) lists) (sym en) index;
      lasting = let l = ek ∙ ap (λ (qs : List Placed). length qs) parts in omega arith;
      kept = record {
        rest = rest-none (turn_order (posed p) roster.nogoods) h.now d all;
        earlier = kept-none (turn_order (posed p) roster.nogoods) h.lasting h.notes [] h.now d past eh e0;
      };
      start = ([], ap (λ (ds : List Domains). ds ++ d ∷ []) e0 ∙ ap (λ (b : Domains). b ∷ []) ed);
      known = known;
    }

-- the part of a nogood behind so many
abbrev behind : List (List Atomic) → List Atomic → Placed
behind ns n = record { id = Nogood (length ns); face = face_nogood n }

added_roster : (p : Csp) (model : Listed) (lists : List (List ℕ)) (past : List Domains) (d : Domains) (h : History) (dead : Bool) (n : List Atomic) → IsTracked (seen p model.nogoods past d h.now) model lists h dead
    → length model.nogoods < 2 ^ 32 - 1 → AreOf p.initial n
    → IsTracked (seen p (model.nogoods ++ n ∷ []) past d (h.now ++ true ∷ [])) (record { model = model.model; nogoods = model.nogoods ++ n ∷ [] }) (entered lists (length (all_placed model)) (scope_of n)) (one_more h) dead
added_roster p roster lists past d h dead n t few on =
    let ns : List (List Atomic) = roster.nogoods in
    let ws : List Bool = h.now in
    let parts : List Placed = turn_order (posed p) ns in
    let q : Placed = behind ns n in
    let more : turn_order (posed p) (ns ++ n ∷ []) ≡ parts ++ q ∷ [] = placed-push (of_constraints 0 (posed p).constraints) ns n in
    let sound : IsSound (length p.initial) q = record { lawful = nogood_lawful n; covered = scope-covered (length p.initial) n on } in
    let count : length (ws ++ true ∷ []) ≡ length (parts ++ q ∷ []) = let c = t.count in omega (arith, length-append ws (true ∷ []), length-append parts (q ∷ [])) in
    let as_many : length (all_placed roster) ≡ length parts = ap (λ (qs : List Placed). length qs) t.parts in
    let lasts : h.lasting ≤ length (parts ++ q ∷ []) = let l = t.lasting in omega (arith, length-append parts (q ∷ [])) in
    record {
      engine = record {
        problem = t.engine.problem;
        few = few-more ns (ns ++ n ∷ []) n refl few;
        nogoods = all-more p.initial ns (ns ++ n ∷ []) n refl t.engine.nogoods on;
        states = t.engine.states;
        owed = owed-few (ws ++ true ∷ []) (turn_order (posed p) (ns ++ n ∷ [])) (count ∙ ap (λ (qs : List Placed). length qs) (sym more));
      };
      parts = placed-push (map placed_at roster.model) ns n ∙ ap (λ (qs : List Placed). qs ++ q ∷ []) t.parts ∙ sym more;
      count = count ∙ ap (λ (qs : List Placed). length qs) (sym more);
      lasting = subst (λ (qs : List Placed). h.lasting ≤ length qs) (sym more) lasts;
      index = subst (λ (qs : List Placed). IsIndex (length p.initial) qs (entered lists (length (all_placed roster)) (scope_of n))) (sym more)
          (subst (λ k. IsIndex (length p.initial) (parts ++ q ∷ []) (entered lists k (scope_of n))) (sym as_many) (index-push (length p.initial) parts lists q t.index sound));
      kept = subst (λ (qs : List Placed). IsKept qs (one_more h) (record { past = past; present = d })) (sym more) (record {
        rest = rest-push parts ws d q t.count t.kept.rest;
        earlier = kept-pushed parts q h.lasting h.notes [] ws d (reverse past) t.count t.lasting t.kept.earlier;
      });
      start = t.start;
      known = t.known;
    }

-- with one nogood more, which is woken
pub tracked-added : (p : Csp) (old now : Listed) (lists later : List (List ℕ)) (past : List Domains) (d : Domains) (h g : History) (dead : Bool) (n : List Atomic) → IsTracked (seen p old.nogoods past d h.now) old lists h dead
    → length old.nogoods < 2 ^ 32 - 1 → AreOf p.initial n → now.model ≡ old.model → now.nogoods ≡ old.nogoods ++ n ∷ [] → later ≡ entered lists (length (all_placed old)) (scope_of n) → g ≡ one_more h
    → IsTracked (seen p now.nogoods past d g.now) now later g dead
tracked-added p old now lists later past d h g dead n t few on em en el eg =
    subst (λ (k : History). IsTracked (seen p now.nogoods past d k.now) now later k dead) (sym eg)
    (subst (λ (ls : List (List ℕ)). IsTracked (seen p now.nogoods past d (h.now ++ true ∷ [])) now ls (one_more h) dead) (sym el)
    (subst (λ m. IsTracked (seen p now.nogoods past d (h.now ++ true ∷ [])) (record { model = m; nogoods = now.nogoods }) (entered lists (length (all_placed old)) (scope_of n)) (one_more h) dead) (sym em)
    (subst (λ (ms : List (List Atomic)). IsTracked (seen p ms past d (h.now ++ true ∷ [])) (record { model = old.model; nogoods = ms }) (entered lists (length (all_placed old)) (scope_of n)) (one_more h) dead) (sym en)
    (added_roster p old lists past d h dead n t few on))))

-- the same by its members
pub one-more : (h g : History) → g.now ≡ h.now ++ true ∷ [] → g.notes ≡ h.notes → g.lasting ≡ h.lasting → g ≡ one_more h
one-more h g e f k = ap (λ ws. record { notes = g.notes; now = ws; lasting = g.lasting }) e ∙ ap (λ es. record { notes = es; now = h.now ++ true ∷ []; lasting = g.lasting }) f
    ∙ ap (λ n. record { notes = h.notes; now = h.now ++ true ∷ []; lasting = n }) k
