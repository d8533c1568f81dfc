-- The bytes of a written scaffold are read as its nogoods and its claim.
use Rattle.std.proofs.Common.{◌≡◌, ℕ, ◌≤◌, ◌^◌, Option, Some, Ok, Result, List, [], ◌∷◌, ◌++◌, length, ap, ◌∙◌, refl}
use Rattle.std.specs.List.{enumerate_from}
use Rattle.dp_base.specs.Lists.{Each}
use Rattle.dp_domain.specs.Atoms.{Atomic}
use Rattle.dp_domain.specs.States.{AreOf}
use Rattle.dp_domain.specs.declared.verdict.Verdict.{Verdict}
use Rattle.dp_domain.specs.declared.verdict.Verdict.TheVariants.{Unsat, Bound}
use Rattle.dp_judge.specs.Logs.{IsOfGoal, limits}
use Rattle.dp_learning.specs.Learning.{denial_of}
use Rattle.dp_learning.specs.Scaffolds.{scaffold_of, steps_of}
use Rattle.dp_lines.specs.Allowed.{IsAllowed}
use Rattle.dp_lines.specs.Lines.{Lines, lines as lines_in}
use Rattle.dp_lines.specs.Logs.{all_of}
use Rattle.dp_lines.specs.RawLines.{raw_lines}
use Rattle.dp_lines.specs.Spelling.{fields_text}
use Rattle.dp_lines.specs.declared.line.Line.{Line}
use Rattle.dp_lines.proofs.ReadBackLaws.{log_whole}
use Rattle.dp_parts.specs.Problems.{Csp, IsProblem, LeadBack, posed}
use Rattle.dp_rule_clause.specs.Nogoods.{IsOnce}
use Rattle.dp_scaffold.specs.Gathering.{Gathered, claimed, gather_all, nothing}
use Rattle.dp_scaffold.specs.Scaffolds.{Learned, nogood_of}
use Rattle.dp_scaffold.specs.Texts.{answer_after, give}
use Rattle.dp_scaffold.specs.declared.refusal.ScaffoldRefusal.{ScaffoldRefusal}
use Rattle.dp_writer.specs.Steps.{lines}
use Rattle.fz_prove.specs.Rereading.{IsInLimits, IsReadAs}
use Rattle.fz_prove.proofs.StepLemmas.{Says, all_say}

-- two facts of each item are one
pub both : {A : Type 0} (P Q : A → Type 0) (xs : List A) → Each P xs → Each Q xs → Each (λ x. P x × Q x) xs
both P Q [] e f = tt
both P Q (x ∷ xs) e f = ((e.0, f.0), both P Q xs e.1 f.1)

-- what denies a claim is the nogood that it is
pub denied : (claim : Verdict) → nogood_of claim ≡ denial_of claim
denied Unsat = refl
denied (Bound a) = refl

-- the scaffold of what is said, with this claim
abbrev scaffold : Gathered → Verdict → Learned
scaffold g claim = record { nogoods = g.nogoods; lines = g.lines; ids = g.ids; claim = claim }

-- lines that are read from bytes and say the nogoods and the claim make the bytes a scaffold
module _ (p : Csp) (nogoods : List (List Atomic)) (claim : Verdict) (ls : List Line) (bytes : List ℕ) (read : lines_in limits bytes ≡ all_of ls) where
  pub read_as : (later : Gathered) → gather_all (posed p) (Ok nothing) (enumerate_from 1 ls) ≡ Ok later → later.nogoods ≡ nogoods ++ nogood_of claim ∷ [] → later.claim ≡ Some claim
      → IsReadAs p nogoods claim bytes
  read_as later said those claims =
      let count : ℕ = length (raw_lines bytes) in
      record {
        scaffold = scaffold later claim;
        given = ap (λ (l : Lines). answer_after (gather_all (posed p) (Ok nothing) l.given) l count) read
            ∙ ap (λ (r : Result Gathered ScaffoldRefusal). answer_after r (all_of ls) count) said
            ∙ ap (λ (c : Option Verdict). give (claimed count later c)) claims;
        those = those ∙ ap (λ (d : List Atomic). nogoods ++ d ∷ []) (denied claim);
        claims = refl;
      }

-- the bytes of a written scaffold are read as its lines
lines_read : (p : Csp) (nogoods : List (List Atomic)) (claim : Verdict) → Each IsAllowed (lines (steps_of p nogoods (Some claim))) → IsInLimits p nogoods claim
    → lines_in limits (scaffold_of p nogoods (Some claim)) ≡ all_of (lines (steps_of p nogoods (Some claim)))
lines_read p nogoods claim allowed in_limits =
    let ls : List Line = lines (steps_of p nogoods (Some claim)) in
    log_whole limits ls (both IsAllowed (λ line. length (fields_text line) ≤ 2 ^ 24) ls allowed in_limits.short.lines) in_limits.short.text

-- what is written of nogoods and a claim is read as those
pub rereads : (p : Csp) (nogoods : List (List Atomic)) (claim : Verdict) → IsProblem p → LeadBack p.names → Each (AreOf p.initial) nogoods → Each IsOnce nogoods
    → IsOfGoal p claim → Each IsAllowed (lines (steps_of p nogoods (Some claim))) → IsInLimits p nogoods claim
    → IsReadAs p nogoods claim (scaffold_of p nogoods (Some claim))
rereads p nogoods claim problem back of once aimed allowed in_limits =
    let says : Says p 1 [] [] [] (steps_of p nogoods (Some claim)) nogoods claim =
    all_say p problem back claim aimed [] [] [] 1 nogoods (both (AreOf p.initial) IsOnce nogoods of once) refl in_limits.few in_limits.literals in
    read_as p nogoods claim (lines (steps_of p nogoods (Some claim))) (scaffold_of p nogoods (Some claim)) (lines_read p nogoods claim allowed in_limits) says.0 says.1 says.2 says.3
