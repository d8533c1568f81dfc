-- An engine that stands on a problem at a mark, through its calls.
use Rattle.std.proofs.Common.{◌≡◌, ℕ, ◌+◌, ◌≤◌, List, [], ◌∷◌, ◌++◌, length, take, get_or, refl, sym, ◌∙◌, ap, subst, arith, length-append}
use Rattle.std.proofs.lemmas.List.{get_or-take, length-take, take-append-le, take_all}
use Rattle.std.proofs.Math.Seq.{get_or-append_seam}
use Rattle.dp_base.specs.Lists.{Each}
use Rattle.dp_domain.specs.Atoms.{Atomic}
use Rattle.dp_domain.specs.States.{AreOf, Domains}
use Rattle.dp_engine.specs.Engines.{Begins, Extends, KeepsParts, KeepsStates, Propagation, parts_of, states}
use Rattle.dp_engine.specs.Placed.{AreSound, turn_order}
use Rattle.dp_engine.proofs.PlacedLaws.{problem-sound}
use Rattle.dp_engine.proofs.StateSteps.{Each-push}
use Rattle.dp_parts.specs.declared.part.Part.{Part}
use Rattle.dp_parts.specs.Problems.{Csp, posed}
use Rattle.dp_solver.specs.Marks.{IsEngineOf, IsOn}

-- ---- lists of states

count_last : (past : List Domains) (d : Domains) → length (past ++ d ∷ []) ≡ length past + 1
count_last past d = rw length-append refl

cut_count : (past now : List Domains) (d e : Domains) (mark : ℕ) → mark ≤ length past → now ++ e ∷ [] ≡ take (mark + 1) (past ++ d ∷ []) → length now ≡ mark
cut_count past now d e mark le is =
    let many : length now + 1 ≡ length (take (mark + 1) (past ++ d ∷ [])) = sym (count_last now e) ∙ ap (λ (ds : List Domains). length ds) is in
    let all : length (past ++ d ∷ []) ≡ length past + 1 = count_last past d in
    let front = length-take (mark + 1) (past ++ d ∷ []) in
    omega (arith, many, all, front, le)

-- the states up to the mark end with the one at the mark
pub undone : (past now : List Domains) (d e : Domains) (mark : ℕ) → mark ≤ length past → now ++ e ∷ [] ≡ take (mark + 1) (past ++ d ∷ []) → e ≡ get_or (past ++ d ∷ []) mark []
undone past now d e mark le is =
    let count : length now ≡ mark = cut_count past now d e mark le is in
    sym (get_or-append_seam now e [] [])
    ∙ ap (λ (k : ℕ). get_or (now ++ e ∷ []) k []) count
    ∙ ap (λ (ds : List Domains). get_or ds mark []) is
    ∙ get_or-take (mark + 1) (past ++ d ∷ []) mark [] (omega arith)

-- states that begin with others have the same first ones
pub begins-take : (a b : List Domains) (n : ℕ) → n ≤ length a → Begins a b → take n b ≡ take n a
begins-take a b n le h = ap (λ (ds : List Domains). take n ds) h.1 ∙ take-append-le n a h.0 le

front_short : (n : ℕ) (a : List Domains) → length (take n a) ≤ n
front_short n a = let front = length-take n a in omega (arith, front)

-- the first ones of the first ones
pub take-twice : (a b : List Domains) (n : ℕ) → b ≡ take n a → take n b ≡ take n a
take-twice a b n is = ap (λ (ds : List Domains). take n ds) is ∙ take_all n (take n a) (front_short n a)

reaches : (a b : List Domains) (n : ℕ) → take n a ≡ take n b → n ≤ length b → n ≤ length a
reaches a b n same le =
    let many : length (take n a) ≡ length (take n b) = ap (λ (ds : List Domains). length ds) same in
    let front = length-take n a in
    let back = length-take n b in
    omega (arith, many, front, back, le)

same_at : (a b : List Domains) (mark : ℕ) → take (mark + 1) a ≡ take (mark + 1) b → get_or a mark [] ≡ get_or b mark []
same_at a b mark same =
    sym (get_or-take (mark + 1) a mark [] (omega arith)) ∙ ap (λ (ds : List Domains). get_or ds mark []) same ∙ get_or-take (mark + 1) b mark [] (omega arith)

-- ---- the engine of a problem

-- its parts are the problem's, in order, and then the nogoods
pub parts-are : (p : Csp) (e : Propagation) → IsEngineOf p e → parts_of e ≡ turn_order (posed p) e.nogoods
parts-are p e h = ap (λ (qs : List (List Part)). turn_order (posed (record p { parts = qs })) e.nogoods) h.parts

-- they are sound
pub sound-of : (p : Csp) (e : Propagation) → IsEngineOf p e → AreSound (length p.initial) (turn_order (posed p) e.nogoods)
sound-of p e h = problem-sound p e.nogoods h.problem h.nogoods

-- it stays one where the parts stay
pub engine-kept : (p : Csp) (before now : Propagation) → IsEngineOf p before → KeepsParts before now → IsEngineOf p now
engine-kept p before now h k = record {
  problem = h.problem;
  parts = ap (λ (q : Csp). q.parts) k.problem ∙ h.parts;
  variables = ap (λ (q : Csp). length q.initial) k.problem ∙ h.variables;
  nogoods = subst (Each (AreOf p.initial)) (sym k.nogoods) h.nogoods;
}

-- and on the problem where also the states up to the mark stay
pub on-kept : (p : Csp) (mark : ℕ) (before now : Propagation) → IsOn p mark before → KeepsParts before now → take (mark + 1) (states now) ≡ take (mark + 1) (states before) → IsOn p mark now
on-kept p mark before now h k same =
    let old : length (states before) ≡ length before.past + 1 = count_last before.past before.present in
    let new : length (states now) ≡ length now.past + 1 = count_last now.past now.present in
    let was : mark ≤ length before.past = h.marked in
    let far : mark + 1 ≤ length (states now) = reaches (states now) (states before) (mark + 1) same (omega (arith, old, was)) in
    record {
      engine = engine-kept p before now h.engine k;
      marked = omega (arith, new, far);
      root = same_at (states now) (states before) mark same ∙ h.root;
    }

-- so where states are added
pub on-extended : (p : Csp) (mark : ℕ) (before now : Propagation) → IsOn p mark before → KeepsParts before now → Extends before now → IsOn p mark now
on-extended p mark before now h k more =
    let old : length (states before) ≡ length before.past + 1 = count_last before.past before.present in
    let was : mark ≤ length before.past = h.marked in
    on-kept p mark before now h k (begins-take (states before) (states now) (mark + 1) (omega (arith, old, was)) more)

-- and where a nogood is added
pub on-added : (p : Csp) (mark : ℕ) (before now : Propagation) (nogood : List Atomic) → IsOn p mark before → now.problem ≡ before.problem → now.nogoods ≡ before.nogoods ++ nogood ∷ [] → AreOf p.initial nogood → KeepsStates before now → IsOn p mark now
on-added p mark before now nogood h same more on k = record {
  engine = record {
    problem = h.engine.problem;
    parts = ap (λ (q : Csp). q.parts) same ∙ h.engine.parts;
    variables = ap (λ (q : Csp). length q.initial) same ∙ h.engine.variables;
    nogoods = subst (Each (AreOf p.initial)) (sym more) (Each-push (AreOf p.initial) before.nogoods nogood h.engine.nogoods on);
  };
  marked = subst (λ (past : List Domains). mark ≤ length past) (sym k.past) h.marked;
  root = ap (λ (past : List Domains). get_or (past ++ now.present ∷ []) mark []) k.past ∙ ap (λ (d : Domains). get_or (before.past ++ d ∷ []) mark []) k.present ∙ h.root;
}
