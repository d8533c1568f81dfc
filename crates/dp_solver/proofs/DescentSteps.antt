-- Propagation from the initial domains, a decision more, and the nogood of a conflict.
use Rattle.std.proofs.Common.{◌≡◌, ℕ, ◌+◌, ◌<◌, ◌≤◌, Bool, true, false, List, [], ◌∷◌, ◌++◌, length, refl, sym, ◌∙◌, ap, subst, inl, inr, arith, length-append}
use Rattle.std.specs.List.{remove}
use Rattle.std.proofs.lemmas.Bool.{both_ways}
use Rattle.dp_base.specs.Lists.{Among, Each}
use Rattle.dp_base.proofs.Lists.{Among-append_cases, Each-among, Each-from_among, list_all-at, list_all-from}
use Rattle.dp_domain.specs.Atoms.{Atomic}
use Rattle.dp_domain.specs.States.{AreOf, Domains, IsWithin, cut, cut_all, entails, entails_all, total}
use Rattle.dp_domain.proofs.ExplanationSteps.{cut_all-append}
use Rattle.dp_domain.proofs.StateLaws.{IsWithin-cut, IsWithin-cut_all, IsWithin-trans, entails-cut, entails-cut_all, entails-within, length-cut, length-cut_all, total-cut}
use Rattle.dp_engine.specs.Engines.{IsEngine, KeepsParts, Propagation, parts_of}
use Rattle.dp_engine.specs.Placed.{AreSound, Placed, turn_order}
use Rattle.dp_engine.specs.Runs.{fails, follows, run, run_end, state_after}
use Rattle.dp_engine.specs.Turns.{after}
use Rattle.dp_engine.specs.declared.turn.Turn.TheVariants.{Quiet}
use Rattle.dp_engine.proofs.FailureLaws.{run-within}
use Rattle.dp_engine.proofs.RunLaws.{run-induction}
use Rattle.dp_engine.proofs.StateSteps.{Each-push}
use Rattle.dp_engine.proofs.TurnLaws.{first-before, first-less}
use Rattle.dp_learning.specs.Learning.{IsAtRest, IsNew, end_after, left_after}
use Rattle.dp_learning.proofs.KeepLaws.{follows-from, keeps-assumed, keeps-base, keeps-run}
use Rattle.dp_learning.proofs.LearnedLaws.{open-is-new}
use Rattle.dp_learning.proofs.RestLaws.{cuts-keep, entailed-some, fails-or_rests, fewer-entailed_all, rest-survives, run-rests}
use Rattle.dp_parts.specs.ProblemLaws.{soundly_posed}
use Rattle.dp_parts.specs.Problems.{Csp, posed}
use Rattle.dp_rule_clause.specs.Nogoods.{IsOnce}
use Rattle.dp_solver.specs.Descents.{IsConflict, IsDescending, IsFixed, IsLearnable, IsOpenAt, IsReached, KeepsRest}
use Rattle.dp_solver.specs.Marks.{IsEngineOf, IsOn, state_at}
use Rattle.dp_solver.proofs.MarkSteps.{engine-kept, parts-are, sound-of}
use Rattle.dp_solver.proofs.RunSteps.{engine-sound, keeps-trans, same-parts}
use Rattle.dp_solver.proofs.OnceSteps.{among-remove, once-push, once-remove, remove-front}

-- ---- runs

-- a run that does not fail ends Quiet
rests-from : (n : ℕ) (parts : List Placed) (d : Domains) → AreSound n parts → fails parts d ≡ false → run_end parts d ≡ Quiet
rests-from n parts d sound f = elim (fails-or_rests n parts d sound) [
  | inl t ↦ absurd (both_ways (fails parts d) f t)
  | inr q ↦ q
]

-- a run adds no value
pub run-fewer : (n : ℕ) (parts : List Placed) (d : Domains) → AreSound n parts → total (state_after d (run parts d)) ≤ total d
run-fewer n parts d sound = run-induction n parts (λ b ts end. total (state_after b ts) ≤ total b) sound (record {
  dead = λ b k. omega arith;
  quiet = λ b k f. omega arith;
  clash = λ b t k f g. subst (λ (c : Domains). total c ≤ total b) (sym (ap (λ h. after t.before h) g ∙ first-before parts b t f)) (omega arith);
  atom = λ b t a ts end k f g h.
      let less : total (cut b a) < total b = first-less n parts b t a sound k f g in
      let at : after t.before t.found ≡ cut b a = ap (λ x. after t.before x) g ∙ ap (λ (c : Domains). cut c a) (first-before parts b t f) in
      let no_more : total (state_after (cut b a) ts) ≤ total (cut b a) = h in
      subst (λ (c : Domains). total (state_after c ts) ≤ total b) (sym at) (omega (arith, less, no_more));
}) d

-- ---- from the initial domains

-- propagation of the atoms that rests is the beginning of a way down
pub descending-start : (p : Csp) (atoms : List Atomic) (e : Propagation) → IsEngineOf p e → AreOf p.initial atoms → IsOnce atoms
    → e.present ≡ state_after (cut_all p.initial atoms) (run (turn_order (posed p) e.nogoods) (cut_all p.initial atoms))
    → fails (turn_order (posed p) e.nogoods) (cut_all p.initial atoms) ≡ false → IsDescending p atoms e
descending-start p atoms e engine variables once is f =
    let n : ℕ = length p.initial in
    let parts : List Placed = turn_order (posed p) e.nogoods in
    let start : Domains = cut_all p.initial atoms in
    let sound : AreSound n parts = sound-of p e engine in
    let within : IsWithin (state_after start (run parts start)) start = run-within n parts start sound in
    record {
      engine = engine;
      variables = variables;
      once = once;
      within = subst (λ (d : Domains). IsWithin d p.initial) (sym is) (IsWithin-trans p.initial start (state_after start (run parts start)) within (IsWithin-cut_all p.initial atoms));
      entailed = subst (λ (d : Domains). entails_all d atoms ≡ true) (sym is)
          (list_all-from (entails (state_after start (run parts start))) atoms (λ a h. entails-within start (state_after start (run parts start)) a within (entails-cut_all p.initial atoms a h)));
      rests = subst (λ (d : Domains). IsAtRest parts d) (sym is) (run-rests parts start (rests-from n parts start sound f));
      keeps = subst (λ (d : Domains). KeepsRest parts start d) (sym is) (keeps-run n parts start start sound (length-cut_all p.initial atoms) (keeps-base parts start));
    }

-- ---- a decision

-- the state that the decision leaves, before its run
keeps-decided : (p : Csp) (atoms : List Atomic) (e : Propagation) (a : Atomic) → IsDescending p atoms e
    → KeepsRest (turn_order (posed p) e.nogoods) (cut_all p.initial (atoms ++ a ∷ [])) (cut e.present a)
keeps-decided p atoms e a way =
    subst (λ (base : Domains). KeepsRest (turn_order (posed p) e.nogoods) base (cut e.present a)) (sym (cut_all-append p.initial atoms (a ∷ [])))
    (keeps-assumed (turn_order (posed p) e.nogoods) (cut_all p.initial atoms) e.present (a ∷ []) way.keeps)

not_yet : (d : Domains) (atoms : List Atomic) (a : Atomic) → entails_all d atoms ≡ true → entails d a ≡ false → ¬ (Among a atoms)
not_yet d atoms a all none h = both_ways (entails d a) none (list_all-at (entails d) atoms a all h)

count-decided : (p : Csp) (atoms : List Atomic) (e : Propagation) (a : Atomic) → IsDescending p atoms e → length (cut e.present a) ≡ length p.initial
count-decided p atoms e a way = length-cut e.present a ∙ way.within.count

on-decided : (p : Csp) (atoms : List Atomic) (e : Propagation) (a : Atomic) → IsDescending p atoms e → IsOpenAt e.present a → AreOf p.initial (atoms ++ a ∷ [])
on-decided p atoms e a way choice = Each-push (λ (b : Atomic). b.var < length p.initial) atoms a way.variables (subst (λ (n : ℕ). a.var < n) way.within.count choice.variable)

once-decided : (p : Csp) (atoms : List Atomic) (e : Propagation) (a : Atomic) → IsDescending p atoms e → IsOpenAt e.present a → IsOnce (atoms ++ a ∷ [])
once-decided p atoms e a way choice = once-push atoms a way.once (not_yet e.present atoms a way.entailed choice.unsettled)

-- where its run fails the atoms and the decision are a nogood
pub decision-fails : (p : Csp) (atoms more : List Atomic) (e : Propagation) (nogoods : List (List Atomic)) (a : Atomic) → IsDescending p atoms e → IsOpenAt e.present a → more ≡ atoms ++ a ∷ [] → nogoods ≡ e.nogoods
    → fails (turn_order (posed p) e.nogoods) (cut e.present a) ≡ true → IsLearnable p nogoods more
decision-fails p atoms more e nogoods a way choice pushed same f =
    let sound : AreSound (length p.initial) (turn_order (posed p) e.nogoods) = sound-of p e way.engine in
    subst (λ (ns : List (List Atomic)). IsLearnable p ns more) (sym same)
    (subst (IsLearnable p e.nogoods) (sym pushed) (record {
      learned = record {
        variables = on-decided p atoms e a way choice;
        follows = follows-from (posed p) e.nogoods (atoms ++ a ∷ []) (cut e.present a) sound (count-decided p atoms e a way) f (keeps-decided p atoms e a way);
        new = open-is-new (posed p) e.nogoods atoms a e.present (soundly_posed p way.engine.problem) sound way.rests way.within way.entailed choice.possible;
      };
      once = once-decided p atoms e a way choice;
    }))

-- where it does not, the way goes on
pub decision-rests : (p : Csp) (atoms more : List Atomic) (e now : Propagation) (a : Atomic) → IsDescending p atoms e → IsOpenAt e.present a → more ≡ atoms ++ a ∷ [] → KeepsParts e now
    → now.present ≡ state_after (cut e.present a) (run (turn_order (posed p) e.nogoods) (cut e.present a))
    → fails (turn_order (posed p) e.nogoods) (cut e.present a) ≡ false → IsDescending p more now × IsWithin now.present e.present
decision-rests p atoms more e now a way choice pushed kept is f =
    let n : ℕ = length p.initial in
    let parts : List Placed = turn_order (posed p) e.nogoods in
    let start : Domains = cut e.present a in
    let end : Domains = state_after start (run parts start) in
    let sound : AreSound n parts = sound-of p e way.engine in
    let within : IsWithin end start = run-within n parts start sound in
    let below : IsWithin end e.present = IsWithin-trans e.present start end within (IsWithin-cut e.present a) in
    let same : parts ≡ turn_order (posed p) now.nogoods = ap (λ (ns : List (List Atomic)). turn_order (posed p) ns) (sym kept.nogoods) in (
      subst (λ (xs : List Atomic). IsDescending p xs now) (sym pushed) (record {
        engine = engine-kept p e now way.engine kept;
        variables = on-decided p atoms e a way choice;
        once = once-decided p atoms e a way choice;
        within = subst (λ (d : Domains). IsWithin d p.initial) (sym is) (IsWithin-trans p.initial e.present end below way.within);
        entailed = subst (λ (d : Domains). entails_all d (atoms ++ a ∷ []) ≡ true) (sym is) (list_all-from (entails end) (atoms ++ a ∷ []) (λ b h. elim (Among-append_cases b atoms (a ∷ []) h) [
          | inl g ↦ list_all-at (entails end) atoms b (fewer-entailed_all e.present end atoms below way.entailed) g
          | inr g ↦ elim g [ inl q ↦ subst (λ (c : Atomic). entails end c ≡ true) (sym q) (entails-within start end a within (entails-cut e.present a)) | inr z ↦ absurd z ]
        ]));
        rests = subst (λ (ps : List Placed). IsAtRest ps now.present) same (subst (λ (d : Domains). IsAtRest parts d) (sym is) (run-rests parts start (rests-from n parts start sound f)));
        keeps = subst (λ (ps : List Placed). KeepsRest ps (cut_all p.initial (atoms ++ a ∷ [])) now.present) same
            (subst (λ (d : Domains). KeepsRest parts (cut_all p.initial (atoms ++ a ∷ [])) d) (sym is)
            (keeps-run n parts (cut_all p.initial (atoms ++ a ∷ [])) start sound (count-decided p atoms e a way) (keeps-decided p atoms e a way)));
      }),
      subst (λ (d : Domains). IsWithin d e.present) (sym is) below,
    )

-- and fewer values are left
pub decision-less : (n : ℕ) (parts : List Placed) (d now : Domains) (a : Atomic) → AreSound n parts → entails d a ≡ false → now ≡ state_after (cut d a) (run parts (cut d a)) → total now < total d
decision-less n parts d now a sound unsettled is =
    let cuts : total (cut d a) < total d = total-cut d a unsettled in
    let runs : total (state_after (cut d a) (run parts (cut d a))) ≤ total (cut d a) = run-fewer n parts (cut d a) sound in
    subst (λ (e : Domains). total e < total d) (sym is) (omega (arith, cuts, runs))

-- ---- the end of the way

-- propagation of the first atoms rests
pub start-rests : (p : Csp) (atoms : List Atomic) (e : Propagation) → IsDescending p atoms e → end_after (posed p) e.nogoods atoms ≡ Quiet
start-rests p atoms e way =
    rest-survives (length p.initial) (turn_order (posed p) e.nogoods) (cut_all p.initial atoms) e.present (sound-of p e way.engine) (length-cut_all p.initial atoms) way.rests
    (cuts-keep p.initial e.present atoms way.within way.entailed)

-- ---- shorter nogoods

-- the atoms that are left are on the problem's variables
pub removed-on : (p : Csp) (nogoods : List (List Atomic)) (atoms : List Atomic) (i : ℕ) → IsLearnable p nogoods atoms → AreOf p.initial (remove atoms i)
removed-on p nogoods atoms i h =
    Each-from_among (λ (a : Atomic). a.var < length p.initial) (remove atoms i) (λ a m. Each-among (λ (b : Atomic). b.var < length p.initial) atoms h.learned.variables a (among-remove atoms i a m))

last_short : (others : List Atomic) (last : Atomic) (atoms : List Atomic) (i : ℕ) → atoms ≡ others ++ last ∷ [] → i + 1 < length atoms → i < length others
last_short others last atoms i split few =
    let count : length atoms ≡ length others + 1 = ap (λ (xs : List Atomic). length xs) split ∙ rw length-append refl in omega (arith, count, few)

-- a nogood that still follows without an atom that is not its last can be learned so
pub shorter-learnable : (p : Csp) (e : Propagation) (atoms : List Atomic) (i : ℕ) → IsEngineOf p e → IsLearnable p e.nogoods atoms → i + 1 < length atoms → follows (posed p) e.nogoods (remove atoms i) ≡ true
    → IsLearnable p e.nogoods (remove atoms i)
shorter-learnable p e atoms i engine h few f =
    let parts : List Placed = turn_order (posed p) e.nogoods in
    let sound : AreSound (length p.initial) parts = sound-of p e engine in
    let is_new : IsNew (posed p) e.nogoods atoms = h.learned.new in
    let front : i < length is_new.others = last_short is_new.others is_new.last atoms i is_new.split few in
    let start : Domains = cut_all p.initial is_new.others in
    let left : Domains = left_after (posed p) e.nogoods is_new.others in
    let below : IsWithin left start = run-within (length p.initial) parts start sound in
    let all : entails_all left is_new.others ≡ true =
    list_all-from (entails left) is_new.others (λ a m. entails-within start left a below (entails-cut_all p.initial is_new.others a m)) in
    let split : remove atoms i ≡ remove is_new.others i ++ is_new.last ∷ [] = ap (λ (xs : List Atomic). remove xs i) is_new.split ∙ remove-front is_new.others i is_new.last front in
    record {
      learned = record {
        variables = removed-on p e.nogoods atoms i h;
        follows = f;
        new = subst (IsNew (posed p) e.nogoods) (sym split)
            (open-is-new (posed p) e.nogoods (remove is_new.others i) is_new.last left (soundly_posed p engine.problem) sound (run-rests parts start is_new.rests)
            (IsWithin-trans p.initial start left below (IsWithin-cut_all p.initial is_new.others))
            (entailed-some left (remove is_new.others i) is_new.others (λ a m. among-remove is_new.others i a m) all) is_new.leaves);
      };
      once = once-remove atoms i h.once;
    }

-- ---- the code's steps

fails-as : (p : Csp) (e mid : Propagation) (a : Atomic) → IsEngineOf p e → KeepsParts e mid → mid.present ≡ cut e.present a → fails (parts_of mid) mid.present ≡ fails (turn_order (posed p) e.nogoods) (cut e.present a)
fails-as p e mid a engine kept present =
    ap (λ (parts : List Placed). fails parts mid.present) (same-parts e mid kept ∙ parts-are p e engine) ∙ ap (λ (d : Domains). fails (turn_order (posed p) e.nogoods) d) present

left-as : (parts more : List Placed) (d e : Domains) → more ≡ parts → e ≡ d → state_after e (run more e) ≡ state_after d (run parts d)
left-as parts more d e same at = ap (λ (ps : List Placed). state_after e (run ps e)) same ∙ ap (λ (c : Domains). state_after c (run parts c)) at

-- the decision led to a conflict
pub decide-failed : (p : Csp) (e mid now : Propagation) (atoms more : List Atomic) (a : Atomic) (failed : Bool) → IsDescending p atoms e → IsOpenAt e.present a → more ≡ atoms ++ a ∷ []
    → KeepsParts e mid → mid.present ≡ cut e.present a → KeepsParts mid now → failed ≡ fails (parts_of mid) mid.present → failed ≡ true → IsLearnable p now.nogoods more
decide-failed p e mid now atoms more a failed way choice pushed kept present kept' is answer =
    decision-fails p atoms more e now.nogoods a way choice pushed (kept'.nogoods ∙ kept.nogoods) (sym (fails-as p e mid a way.engine kept present) ∙ sym is ∙ answer)

-- it did not
pub decide-rests : (p : Csp) (e mid now : Propagation) (atoms more : List Atomic) (a : Atomic) (failed : Bool) → IsDescending p atoms e → IsOpenAt e.present a → more ≡ atoms ++ a ∷ []
    → KeepsParts e mid → mid.present ≡ cut e.present a → KeepsParts mid now → now.present ≡ state_after mid.present (run (parts_of mid) mid.present) → failed ≡ fails (parts_of mid) mid.present → failed ≡ false
    → IsDescending p more now × IsWithin now.present e.present
decide-rests p e mid now atoms more a failed way choice pushed kept present kept' left is answer =
    decision-rests p atoms more e now a way choice pushed (keeps-trans e mid now kept kept')
    (left ∙ left-as (turn_order (posed p) e.nogoods) (parts_of mid) (cut e.present a) mid.present (same-parts e mid kept ∙ parts-are p e way.engine) present)
    (sym (fails-as p e mid a way.engine kept present) ∙ sym is ∙ answer)

-- fewer values are left
pub decide-less : (e mid now : Propagation) (a : Atomic) → IsEngine e → IsOpenAt e.present a → KeepsParts e mid → mid.present ≡ cut e.present a → now.present ≡ state_after mid.present (run (parts_of mid) mid.present) → total now.present < total e.present
decide-less e mid now a h choice kept present left =
    decision-less (length e.problem.initial) (parts_of e) e.present now.present a (engine-sound e h) choice.unsettled
    (left ∙ left-as (parts_of e) (parts_of mid) (cut e.present a) mid.present (same-parts e mid kept) present)

-- each variable has one value
pub go-reached : (p : Csp) (under atoms : List Atomic) (first e now : Propagation) → IsDescending p under first → IsDescending p atoms e → IsWithin e.present first.present → e.nogoods ≡ first.nogoods → IsFixed now.present → now.present ≡ e.present
    → IsReached p first.nogoods under now.present
go-reached p under atoms first e now start way below same fixed stays = record {
  within = subst (λ (d : Domains). IsWithin d p.initial) (sym stays) way.within;
  entailed = subst (λ (d : Domains). entails_all d under ≡ true) (sym stays) (fewer-entailed_all first.present e.present under below start.entailed);
  rests = subst (λ (ns : List (List Atomic)). IsAtRest (turn_order (posed p) ns) now.present) same (subst (λ (d : Domains). IsAtRest (turn_order (posed p) e.nogoods) d) (sym stays) way.rests);
  fixed = fixed;
}

-- a nogood is found
pub go-conflict : (p : Csp) (under more : List Atomic) (first now : Propagation) → IsDescending p under first → now.nogoods ≡ first.nogoods → IsLearnable p now.nogoods more → IsConflict p first.nogoods under more
go-conflict p under more first now start same found = record {
  rests = start-rests p under first start;
  found = subst (λ (ns : List (List Atomic)). IsLearnable p ns more) same found;
}

-- ---- from the root

root-fails : (p : Csp) (mark : ℕ) (e : Propagation) (atoms : List Atomic) → IsOn p mark e → fails (parts_of e) (cut_all (state_at mark e) atoms) ≡ follows (posed p) e.nogoods atoms
root-fails p mark e atoms on =
    ap (λ (parts : List Placed). fails parts (cut_all (state_at mark e) atoms)) (parts-are p e on.engine) ∙ ap (λ (d : Domains). fails (turn_order (posed p) e.nogoods) (cut_all d atoms)) on.root

-- whether propagation fails is whether the atoms follow as a nogood
pub propagated : (p : Csp) (mark : ℕ) (e : Propagation) (atoms : List Atomic) (failed answer : Bool) → IsOn p mark e → failed ≡ fails (parts_of e) (cut_all (state_at mark e) atoms) → failed ≡ answer → follows (posed p) e.nogoods atoms ≡ answer
propagated p mark e atoms failed answer on is at = sym (root-fails p mark e atoms on) ∙ sym is ∙ at

-- the atoms are on the engine's variables
pub on-engine : (p : Csp) (mark : ℕ) (e : Propagation) (atoms xs : List Atomic) → IsOn p mark e → xs ≡ atoms → AreOf p.initial atoms → AreOf e.problem.initial xs
on-engine p mark e atoms xs on same of =
    subst (AreOf e.problem.initial) (sym same) (subst (λ (n : ℕ). Each (λ (a : Atomic). a.var < n) atoms) (sym on.engine.variables) of)

-- propagation that rests is the beginning of a way down
pub propagated-rests : (p : Csp) (mark : ℕ) (e now : Propagation) (atoms xs : List Atomic) (failed : Bool) → IsOn p mark e → KeepsParts e now → AreOf p.initial atoms → IsOnce atoms → xs ≡ atoms
    → failed ≡ fails (parts_of e) (cut_all (state_at mark e) xs) → failed ≡ false
    → now.present ≡ state_after (cut_all (state_at mark e) xs) (run (parts_of e) (cut_all (state_at mark e) xs)) → IsDescending p atoms now
propagated-rests p mark e now atoms xs failed on kept of once same is answer left =
    let engine : IsEngineOf p now = engine-kept p e now on.engine kept in
    let parts : parts_of e ≡ turn_order (posed p) now.nogoods = parts-are p e on.engine ∙ ap (λ (ns : List (List Atomic)). turn_order (posed p) ns) (sym kept.nogoods) in
    let base : cut_all (state_at mark e) xs ≡ cut_all p.initial atoms = ap (λ (d : Domains). cut_all d xs) on.root ∙ ap (λ (ys : List Atomic). cut_all p.initial ys) same in
    descending-start p atoms now engine of once
    (left ∙ left-as (turn_order (posed p) now.nogoods) (parts_of e) (cut_all p.initial atoms) (cut_all (state_at mark e) xs) parts base)
    (sym (ap (λ (ps : List Placed). fails ps (cut_all (state_at mark e) xs)) parts ∙ ap (λ (d : Domains). fails (turn_order (posed p) now.nogoods) d) base) ∙ sym is ∙ answer)
