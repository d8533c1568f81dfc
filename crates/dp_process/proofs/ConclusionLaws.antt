-- What a log concludes: a step that denies what is left.
use Rattle.std.proofs.Common.{◌≡◌, ℕ, ◌+◌, Bool, true, false, cond, ◌||◌, Option, Some, None, List, [], ◌∷◌, ◌++◌, length, refl, ◌∙◌, ap, arith, length-append}
use Rattle.std.specs.Prelude.{nat_eq}
use Rattle.std.specs.List.{list_any}
use Rattle.std.proofs.lemmas.Bool.{and_from, or_left, or_right}
use Rattle.dp_domain.specs.Atoms.{Atomic, negated}
use Rattle.dp_domain.specs.States.{Domains, cut, cut_all, entails, entails_all, is_dead}
use Rattle.dp_domain.specs.declared.verdict.Verdict.{Verdict}
use Rattle.dp_domain.specs.declared.verdict.Verdict.TheVariants.{Unsat, Bound}
use Rattle.dp_domain.proofs.StateLaws.{entails-cut}
use Rattle.dp_engine.proofs.StateSteps.{get-last}
use Rattle.dp_judge.specs.Logs.{IsOfGoal}
use Rattle.dp_justify.specs.Pieces.{nogood_at}
use Rattle.dp_parts.specs.Problems.{Csp, posed}
use Rattle.dp_parts.specs.Rules.{concludes}
use Rattle.dp_checker.specs.Known.{found}
use Rattle.dp_scaffold.specs.Scaffolds.{nogood_of}
use Rattle.dp_writer.specs.Written.{bound_of}
use Rattle.dp_replay.specs.Judging.{Concludes}
use Rattle.dp_process.specs.Met.{last_of}

same_denial : (x d : List Atomic) → ◌≡◌ {A = Option (List Atomic)} (Some x) (Some d) → x ≡ d
same_denial x d e = cc

none_found : (d : List Atomic) → ◌≡◌ {A = Option (List Atomic)} None (Some d) → ⊥
none_found d e = cc

any_step : (test : List Atomic → Bool) (x d : List Atomic) (b rest : Bool) (o : Option (List Atomic)) → cond b (Some x) o ≡ Some d → (o ≡ Some d → rest ≡ true) → test d ≡ true → (test x || rest) ≡ true
any_step test x d true rest o e more t = or_left (test x) rest (ap test (same_denial x d e) ∙ t)
any_step test x d false rest o e more t = or_right (test x) rest (more e)

-- where a number leads to a denial that passes, one passes
found_any : (test : List Atomic → Bool) (k : ℕ) (entries : List (ℕ × List Atomic)) (d : List Atomic) → found k entries ≡ Some d → test d ≡ true → list_any (λ (entry : ℕ × List Atomic). test entry.1) entries ≡ true
found_any test k [] d e t = absurd (none_found d e)
found_any test k (x ∷ entries) d e t =
    any_step test x.1 d (nat_eq k x.0) (list_any (λ (entry : ℕ × List Atomic). test entry.1) entries) (found k entries) e (λ f. found_any test k entries d f t) t

concludes_by : (start : Domains) (k : ℕ) (entries : List (ℕ × List Atomic)) (d : List Atomic) → found k entries ≡ Some d → entails_all start d ≡ true → concludes start entries ≡ true
concludes_by start k entries d e t =
    or_right (is_dead start) (list_any (λ (entry : ℕ × List Atomic). entails_all start entry.1) entries) (found_any (entails_all start) k entries d e t)

-- the last nogood is that of the claim
last_nogood : (nogoods earlier : List (List Atomic)) (claim : Verdict) → nogoods ≡ earlier ++ nogood_of claim ∷ [] → nogood_at nogoods (last_of nogoods) ≡ nogood_of claim
last_nogood nogoods earlier claim e =
    let f : length nogoods ≡ length earlier + 1 = ap (λ (ns : List (List Atomic)). length ns) e ∙ length-append earlier (nogood_of claim ∷ []) in
    get-last earlier nogoods (last_of nogoods) (nogood_of claim) [] e (omega arith)

-- where a number leads to it, what is claimed is concluded
pub last-concludes : (p : Csp) (nogoods earlier : List (List Atomic)) (claim : Verdict) (k : ℕ) (entries : List (ℕ × List Atomic))
    → nogoods ≡ earlier ++ nogood_of claim ∷ [] → IsOfGoal p claim → found k entries ≡ Some (nogood_at nogoods (last_of nogoods)) → Concludes (posed p) entries (bound_of p claim)
last-concludes p nogoods earlier Unsat k entries e goal f =
    concludes_by p.initial k entries [] (f ∙ ap (λ (d : List Atomic). Some d) (last_nogood nogoods earlier Unsat e)) refl
last-concludes p nogoods earlier (Bound a) k entries e goal f = (
  goal.0,
  concludes_by (cut_all p.initial (negated a ∷ [])) k entries (negated a ∷ []) (f ∙ ap (λ (d : List Atomic). Some d) (last_nogood nogoods earlier (Bound a) e))
      (and_from (entails (cut p.initial (negated a)) (negated a)) true (entails-cut p.initial (negated a)) refl),
)
