-- The processed log passes the tests of a log: each step behind those before it, and the conclusion behind all.
use Rattle.std.proofs.Common.{◌≡◌, ℕ, zero, suc, ◌+◌, ◌<◌, ◌≤◌, Bool, true, false, cond, Option, List, [], ◌∷◌, ◌++◌, length, map, append_assoc, append-nil, refl, sym, ◌∙◌, ap, subst, arith, length-append}
use Rattle.dp_base.specs.Lists.{Among, Each}
use Rattle.dp_base.proofs.Lists.{Each-append, Each-get_or, Each-weaker}
use Rattle.dp_domain.specs.Atoms.{Atomic}
use Rattle.dp_domain.specs.Explanations.{failing}
use Rattle.dp_domain.specs.States.{AreOf, cut_all}
use Rattle.dp_engine.specs.declared.part_id.PartId.{PartId}
use Rattle.dp_engine.specs.declared.part_id.PartId.TheVariants.{Model, Nogood}
use Rattle.dp_justify.specs.Pieces.{denial_of, nogood_at, start_of}
use Rattle.dp_justify.specs.Replay.{Holds, HoldsBy, SpeaksOf}
use Rattle.dp_justify.specs.declared.kept.Kept.{Kept}
use Rattle.dp_justify.proofs.JustifyLaws.{IsAsked}
use Rattle.dp_parts.specs.Posed.{Posed}
use Rattle.dp_parts.specs.Problems.{Csp, IsProblem, LeadBack, posed}
use Rattle.dp_parts.specs.Rules.{proves}
use Rattle.dp_checker.specs.Known.{denials, found}
use Rattle.dp_writer.specs.Steps.{Step, atoms_in, atoms_of}
use Rattle.dp_writer.specs.Written.{conclusion, named, nogood}
use Rattle.dp_scaffold.specs.Scaffolds.{nogood_of}
use Rattle.dp_replay.specs.Judging.{EachPasses, IsCounted, IsProved, LeadsTo, denials_of}
use Rattle.dp_process.specs.Met.{EachMetFollows, is_met, last_of, uses_at}
use Rattle.dp_process.specs.Processed.{count_below, hints_of, inferences, kept_at, label_at, number_at, steps_at, steps_below, steps_of, written_of}
use Rattle.dp_process.specs.Replaying.{LogPasses}
use Rattle.dp_process.proofs.ConclusionLaws.{last-concludes}
use Rattle.dp_process.proofs.HintLaws.{IsKnownIn, IsSourceKnown, count-below, hints-found, known-source, nogood-known}
use Rattle.dp_process.proofs.InferenceLaws.{inference-implied}
use Rattle.dp_process.proofs.ClosureLaws.{UsesBelow, met-is, met-last, met-used}
use Rattle.dp_process.proofs.NameLaws.{atoms-named, leads-bound, leads-inference, leads-nogood}
use Rattle.dp_process.proofs.NumberLaws.{Each-pieces, found-denials, found-known}
use Rattle.dp_process.proofs.KeptLaws.{IsPiece, piece-is, piece-proves, used-below, used-each}

-- ---- steps one after another

-- where the first steps pass, and the others behind them, all pass
passes_append : (q : Posed) (earlier xs ys : List Step) → EachPasses q earlier xs → EachPasses q (earlier ++ xs) ys → EachPasses q earlier (xs ++ ys)
passes_append q earlier [] ys h k = subst (λ (steps : List Step). EachPasses q steps ys) (append-nil earlier) k
passes_append q earlier (x ∷ xs) ys h k =
    (h.0, passes_append q (earlier ++ x ∷ []) xs ys h.1 (subst (λ (steps : List Step). EachPasses q steps ys) (sym (append_assoc earlier (x ∷ []) xs)) k))

written_pass : (p : Csp) (place : ℕ) (earlier : List Step) (source : PartId) (premises : List Atomic) (consequent : Option Atomic) → HoldsBy (posed p) place source premises consequent
    → EachPasses (posed p) earlier (written_of p source premises consequent)
written_pass p place earlier (Model k i) premises consequent h = (inference-implied p place k i premises consequent h, tt)
written_pass p place earlier (Nogood j) premises consequent h = tt

-- the inferences of kept turns that hold pass behind any steps
inferences_pass : (p : Csp) (place : ℕ) (ks : List Kept) (earlier : List Step) → Each (Holds (posed p) place) ks → EachPasses (posed p) earlier (inferences p ks)
inferences_pass p place [] earlier h = tt
inferences_pass p place (k ∷ ks) earlier h =
    passes_append (posed p) earlier (written_of p k.source k.premises k.consequent) (inferences p ks)
    (written_pass p place earlier k.source k.premises k.consequent h.0)
    (inferences_pass p place ks (earlier ++ written_of p k.source k.premises k.consequent) h.1)

-- ---- the steps of the nogoods

-- a problem, and nogoods on its variables, of which each that is met follows
pub record IsGiven (p : Csp) (nogoods : List (List Atomic)) : Type 0 where
  pub problem : IsProblem p
  pub back : LeadBack p.names
  pub below : Each (AreOf p.initial) nogoods
  pub follows : EachMetFollows (posed p) nogoods
  pub some : zero < length nogoods

module _ (p : Csp) (nogoods : List (List Atomic)) (given : IsGiven p nogoods) where
  asked : (place : ℕ) → place ≤ length nogoods → IsAsked p nogoods place
  asked place within = record { sound = given.problem; below = given.below; within = within }

  piece : (place : ℕ) → place ≤ length nogoods → IsPiece p place (kept_at p nogoods place) (uses_at (posed p) nogoods place)
  piece place within = piece-is p nogoods place (asked place within)

  uses_below : UsesBelow (uses_at (posed p) nogoods) (last_of nogoods)
  uses_below j i within used = used-below p j (kept_at p nogoods j) (uses_at (posed p) nogoods j) i (piece j (omega arith)) used

  -- what a met nogood uses is met, and stands before it
  used_known : (place : ℕ) → place < length nogoods → is_met (posed p) nogoods place ≡ true → (j : ℕ) → Among j (uses_at (posed p) nogoods place)
      → IsKnownIn (number_at p nogoods) nogoods (steps_below p nogoods place) j
  used_known place within met j used =
      let some : zero < length nogoods = given.some in
      nogood-known p nogoods j place
      (met-used (uses_at (posed p) nogoods) (last_of nogoods) uses_below (length nogoods) place j (omega arith) (omega arith) met used)
      (uses_below place j (omega arith) used)

  sources_known : (place : ℕ) → place < length nogoods → is_met (posed p) nogoods place ≡ true
      → Each (λ (k : Kept). IsSourceKnown (number_at p nogoods) nogoods (steps_below p nogoods place) k.source) (kept_at p nogoods place)
  sources_known place within met =
      Each-weaker (λ (k : Kept). (j : ℕ) → k.source ≡ Nogood j → IsKnownIn (number_at p nogoods) nogoods (steps_below p nogoods place) j)
      (λ (k : Kept). IsSourceKnown (number_at p nogoods) nogoods (steps_below p nogoods place) k.source)
      (λ k h. known-source (number_at p nogoods) nogoods (steps_below p nogoods place) k.source h) (kept_at p nogoods place)
      (used-each (IsKnownIn (number_at p nogoods) nogoods (steps_below p nogoods place)) p place (kept_at p nogoods place) (uses_at (posed p) nogoods place)
      (piece place (omega arith)) (used_known place within met))

  -- a met nogood is proved by its hints
  nogood_passes : (place : ℕ) → place < length nogoods → is_met (posed p) nogoods place ≡ true
      → IsProved (posed p) (denials_of (steps_below p nogoods place ++ inferences p (kept_at p nogoods place))) (atoms_in (map (named p) (nogood_at nogoods place)))
      (hints_of (number_at p nogoods) (count_below p nogoods place) (kept_at p nogoods place))
  nogood_passes place within met =
      let entries = denials_of (steps_below p nogoods place ++ inferences p (kept_at p nogoods place)) in
      let hints = hints_of (number_at p nogoods) (count_below p nogoods place) (kept_at p nogoods place) in
      let denied = map (denial_of nogoods) (kept_at p nogoods place) in
      let are = hints-found p (number_at p nogoods) nogoods (kept_at p nogoods place) (steps_below p nogoods place) (count_below p nogoods place) (count-below p nogoods place) (sources_known place within met) in
      record {
        known = found-known entries hints denied are;
        proved = ap (λ (atoms : List Atomic). proves (cut_all p.initial atoms) (denials entries hints)) (atoms-named p (nogood_at nogoods place))
            ∙ ap (proves (start_of (posed p) nogoods place)) (found-denials entries hints denied are)
            ∙ piece-proves p nogoods place (asked place (omega arith)) (given.follows place within (met-is (posed p) nogoods place met));
      }

  -- its steps pass behind those of the places below it
  steps_pass : (b : Bool) (place : ℕ) → place < length nogoods → is_met (posed p) nogoods place ≡ b → EachPasses (posed p) (steps_below p nogoods place) (cond b (steps_at p nogoods place) [])
  steps_pass true place within met =
      passes_append (posed p) (steps_below p nogoods place) (inferences p (kept_at p nogoods place))
      (nogood p (nogood_at nogoods place) (hints_of (number_at p nogoods) (count_below p nogoods place) (kept_at p nogoods place)) ∷ [])
      (inferences_pass p place (kept_at p nogoods place) (steps_below p nogoods place) (piece place (omega arith)).holds)
      (nogood_passes place within met, tt)
  steps_pass false place within met = tt

  all_pass : (n : ℕ) → n ≤ length nogoods → EachPasses (posed p) [] (steps_below p nogoods n)
  all_pass zero within = tt
  all_pass (suc j) within =
      passes_append (posed p) [] (steps_below p nogoods j) (cond (is_met (posed p) nogoods j) (steps_at p nogoods j) []) (all_pass j (omega arith))
      (steps_pass (is_met (posed p) nogoods j) j (omega arith) refl)

  -- ---- each step has a number, and the names of its atoms lead to their variables

  abbrev IsGood : Step → Type 0
  IsGood s = IsCounted s × Each (LeadsTo (posed p)) (atoms_of s)

  written_good : (source : PartId) (premises : List Atomic) (consequent : Option Atomic) → AreOf p.initial (premises ++ failing consequent) → Each IsGood (written_of p source premises consequent)
  written_good (Model k i) premises consequent h = ((refl, leads-inference p given.problem given.back premises consequent (k + 1) (label_at p k i) h), tt)
  written_good (Nogood j) premises consequent h = tt

  steps_good : (b : Bool) (place : ℕ) → place < length nogoods → Each IsGood (cond b (steps_at p nogoods place) [])
  steps_good true place within =
      let hints = hints_of (number_at p nogoods) (count_below p nogoods place) (kept_at p nogoods place) in
      Each-append IsGood (inferences p (kept_at p nogoods place)) (nogood p (nogood_at nogoods place) hints ∷ [])
      (Each-pieces (SpeaksOf p.initial) IsGood (λ (k : Kept). written_of p k.source k.premises k.consequent) (λ k h. written_good k.source k.premises k.consequent h)
      (kept_at p nogoods place) (piece place (omega arith)).speaks)
      ((refl, leads-nogood p given.problem given.back (nogood_at nogoods place) hints (Each-get_or (AreOf p.initial) nogoods place [] within given.below)), tt)
  steps_good false place within = tt

  all_good : (n : ℕ) → n ≤ length nogoods → Each IsGood (steps_below p nogoods n)
  all_good zero within = tt
  all_good (suc j) within =
      Each-append IsGood (steps_below p nogoods j) (cond (is_met (posed p) nogoods j) (steps_at p nogoods j) []) (all_good j (omega arith)) (steps_good (is_met (posed p) nogoods j) j (omega arith))

  -- ---- the conclusion

  last_known : IsKnownIn (number_at p nogoods) nogoods (steps_below p nogoods (length nogoods)) (last_of nogoods)
  last_known =
      let some : zero < length nogoods = given.some in
      nogood-known p nogoods (last_of nogoods) (length nogoods) (met-last (uses_at (posed p) nogoods) (last_of nogoods) (length nogoods)) (omega arith)

-- a scaffold has a nogood
some_nogood : (nogoods earlier : List (List Atomic)) (last : List Atomic) → nogoods ≡ earlier ++ last ∷ [] → zero < length nogoods
some_nogood nogoods earlier last e =
    let f : length nogoods ≡ length earlier + 1 = ap (λ (ns : List (List Atomic)). length ns) e ∙ length-append earlier (last ∷ []) in omega arith

pub log_passes : LogPasses
log_passes p s problem back scaffold scope follows =
    let given : IsGiven p s.nogoods = record {
      problem = problem;
      back = back;
      below = scope.nogoods;
      follows = follows;
      some = some_nogood s.nogoods scaffold.last.0 (nogood_of s.claim) scaffold.last.1;
    } in
    let steps = steps_of p s in
    let good = all_good p s.nogoods given (length s.nogoods) (omega arith) in
    let known = last_known p s.nogoods given [] in
    record {
      counted = Each-weaker (IsGood p s.nogoods given) IsCounted (λ step h. h.0) steps good;
      passes = passes_append (posed p) [] steps (conclusion p s.claim ∷ []) (all_pass p s.nogoods given (length s.nogoods) (omega arith)) (
        last-concludes p s.nogoods scaffold.last.0 s.claim (number_at p s.nogoods (last_of s.nogoods)) (denials_of steps) scaffold.last.1 scope.claim
            (ap (λ (all : List Step). found (number_at p s.nogoods (last_of s.nogoods)) (denials_of all)) (sym (append-nil steps)) ∙ known),
        tt,
      );
      names = Each-pieces (λ (step : Step). Each (LeadsTo (posed p)) (atoms_of step)) (LeadsTo (posed p)) atoms_of (λ step h. h) (steps ++ conclusion p s.claim ∷ [])
          (Each-append (λ (step : Step). Each (LeadsTo (posed p)) (atoms_of step)) steps (conclusion p s.claim ∷ [])
          (Each-weaker (IsGood p s.nogoods given) (λ (step : Step). Each (LeadsTo (posed p)) (atoms_of step)) (λ step h. h.1) steps good)
          (leads-bound p problem back s.claim scope.claim, tt));
    }
