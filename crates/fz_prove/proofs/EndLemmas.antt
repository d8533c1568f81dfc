-- What is written of nogoods and a claim is read as those, or a limit is told; and so is the log.
use Rattle.std.proofs.Common.{◌≡◌, ℕ, ◌+◌, ◌≤◌, ◌^◌, ◌⊎◌, Option, Some, None, Result, Ok, Err, List, [], ◌∷◌, ◌++◌, length, refl, sym, ap, ◌∙◌, subst, inl, inr, arith}
use Rattle.std.specs.List.{enumerate_from}
use Rattle.dp_base.specs.Lists.{Each}
use Rattle.dp_domain.specs.Atoms.{Atomic}
use Rattle.dp_domain.specs.States.{AreOf}
use Rattle.dp_domain.specs.declared.verdict.Verdict.{Verdict}
use Rattle.dp_judge.specs.Logs.{IsOfGoal, judged_log, limits}
use Rattle.dp_judge.specs.declared.answer.LogAnswer.TheVariants as judged
use Rattle.dp_learning.specs.Scaffolds.{scaffold_of, steps_of}
use Rattle.dp_lines.specs.Allowed.{IsAllowed}
use Rattle.dp_lines.specs.Lines.{Lines, lines as lines_in}
use Rattle.dp_lines.specs.Logs.{all_of}
use Rattle.dp_lines.specs.RawLines.{raw_lines}
use Rattle.dp_lines.specs.Spelling.{fields_text}
use Rattle.dp_lines.specs.declared.line.Line.{Line}
use Rattle.dp_lines.specs.declared.refusal.LineRefusal.{LineRefusal}
use Rattle.dp_lines.proofs.ReadBackLaws.{log_whole}
use Rattle.dp_parts.specs.Problems.{Csp, IsProblem, LeadBack, posed}
use Rattle.dp_process.specs.Processed.{log_of}
use Rattle.dp_replay.specs.Accepting.{AreShort, IsAccepted}
use Rattle.dp_rule_clause.specs.Nogoods.{IsOnce}
use Rattle.dp_scaffold.specs.Gathering.{Gathered, gather_all, nothing}
use Rattle.dp_scaffold.specs.Scaffolds.{Learned}
use Rattle.dp_scaffold.specs.Texts.{answer_after, scaffold_text}
use Rattle.dp_scaffold.specs.declared.answer.ScaffoldAnswer.{ScaffoldAnswer}
use Rattle.dp_scaffold.specs.declared.refusal.GatherWhy.TheVariants.{TooMany}
use Rattle.dp_scaffold.specs.declared.refusal.ScaffoldRefusal.{ScaffoldRefusal}
use Rattle.dp_writer.specs.Steps.{lines, text_of}
use Rattle.fz_prove.specs.Checks.{IsLimitedOf}
use Rattle.fz_prove.specs.Limits.{IsPastLimit, IsTooMuch}
use Rattle.fz_prove.specs.Proofs.{log_end}
use Rattle.fz_prove.specs.Rereading.{IsInLimits, IsReadAs}
use Rattle.fz_prove.specs.declared.proof.Proof.{Proof}
use Rattle.fz_prove.proofs.GatherLemmas.{all_append}
use Rattle.fz_prove.proofs.LimitLemmas.{AreFit, IsCut, log_ends, read_ends}
use Rattle.fz_prove.proofs.RereadLemmas.{both, rereads}
use Rattle.fz_prove.proofs.RoomLemmas.{AreFew, AreTooMany, refusal_stays, say_ends}
use Rattle.fz_prove.proofs.StepLemmas.{Says}

no_said : (r : ScaffoldRefusal) (g : Gathered) → ◌≡◌ {A = Result Gathered ScaffoldRefusal} (Err r) (Ok g) → ⊥
no_said r g e = cc

same_refusal : (q r : ScaffoldRefusal) → ◌≡◌ {A = Result Gathered ScaffoldRefusal} (Err q) (Err r) → q ≡ r
same_refusal q r e = cc

-- ---- the scaffold

module _ (p : Csp) (nogoods : List (List Atomic)) (claim : Verdict) (problem : IsProblem p) (back : LeadBack p.names) (of : Each (AreOf p.initial) nogoods) (once : Each IsOnce nogoods)
    (aimed : IsOfGoal p claim) (allowed : Each IsAllowed (lines (steps_of p nogoods (Some claim)))) where
  abbrev Said : Type 0
  Said = (Says p 1 [] [] [] (steps_of p nogoods (Some claim)) nogoods claim × AreFew nogoods) ⊎ AreTooMany (posed p) 1 nothing (lines (steps_of p nogoods (Some claim)))

  said_all : Said
  said_all = say_ends p problem back claim aimed [] [] [] 1 nogoods (both (AreOf p.initial) IsOnce nogoods of once) refl (omega arith, omega arith)

  -- all lines are read, and one is refused
  many_told : AreFit 0 (lines (steps_of p nogoods (Some claim))) → AreTooMany (posed p) 1 nothing (lines (steps_of p nogoods (Some claim))) → IsTooMuch (scaffold_text (posed p) (scaffold_of p nogoods (Some claim)))
  many_told fit many =
      let ls : List Line = lines (steps_of p nogoods (Some claim)) in
      let bytes : List ℕ = scaffold_of p nogoods (Some claim) in
      let count : ℕ = length (raw_lines bytes) in
      let room : length bytes ≤ 2 ^ 40 = omega (arith, fit.1) in
      let read : lines_in limits bytes ≡ all_of ls = log_whole limits ls (both IsAllowed (λ line. length (fields_text line) ≤ 2 ^ 24) ls allowed fit.0) room in
      subst IsTooMuch
      (sym (ap (λ (l : Lines). answer_after (gather_all (posed p) (Ok nothing) l.given) l count) read
      ∙ ap (λ (r : Result Gathered ScaffoldRefusal). answer_after r (all_of ls) count) many.2)) many.1

  -- of the lines before a cut one is refused, or the cut is told
  front_told : (cut : IsCut (lines (steps_of p nogoods (Some claim))) 0 (lines_in limits (scaffold_of p nogoods (Some claim)))) (r : Result Gathered ScaffoldRefusal)
      → gather_all (posed p) (Ok nothing) (enumerate_from 1 cut.front) ≡ r → Said → IsTooMuch (scaffold_text (posed p) (scaffold_of p nogoods (Some claim)))
  front_told cut (Ok g) e s =
      let bytes : List ℕ = scaffold_of p nogoods (Some claim) in
      let read : Lines = lines_in limits bytes in
      let count : ℕ = length (raw_lines bytes) in
      subst IsTooMuch
      (sym (ap (λ (r : Result Gathered ScaffoldRefusal). answer_after r read count) (ap (gather_all (posed p) (Ok nothing)) cut.given ∙ e)
      ∙ ap (λ (o : Option LineRefusal). answer_after (Ok g) (record { given = read.given; refusal = o }) count) cut.refused)) cut.limit
  front_told cut (Err r) e s =
      let ls : List Line = lines (steps_of p nogoods (Some claim)) in
      let bytes : List ℕ = scaffold_of p nogoods (Some claim) in
      let read : Lines = lines_in limits bytes in
      let count : ℕ = length (raw_lines bytes) in
      let whole : gather_all (posed p) (Ok nothing) (enumerate_from 1 ls) ≡ Err r =
      ap (λ (l : List Line). gather_all (posed p) (Ok nothing) (enumerate_from 1 l)) cut.parts
      ∙ all_append (posed p) 1 (Ok nothing) cut.front cut.back
      ∙ ap (λ (q : Result Gathered ScaffoldRefusal). gather_all (posed p) q (enumerate_from (1 + length cut.front) cut.back)) e
      ∙ refusal_stays (posed p) r (enumerate_from (1 + length cut.front) cut.back) in
      let why : r.why ≡ TooMany = elim s [
        | inl says ↦ absurd (no_said r says.0.0 (sym whole ∙ says.0.1))
        | inr many ↦ ap (λ (q : ScaffoldRefusal). q.why) (same_refusal r many.0 (sym whole ∙ many.2)) ∙ many.1
      ] in
      subst IsTooMuch (sym (ap (λ (q : Result Gathered ScaffoldRefusal). answer_after q read count) (ap (gather_all (posed p) (Ok nothing)) cut.given ∙ e))) why

  -- what is written is read as it was, within the limits, or a limit is told
  pub scaffold_ends : (IsReadAs p nogoods claim (scaffold_of p nogoods (Some claim)) × IsInLimits p nogoods claim) ⊎ IsTooMuch (scaffold_text (posed p) (scaffold_of p nogoods (Some claim)))
  scaffold_ends = elim (read_ends 0 0 (lines (steps_of p nogoods (Some claim))) allowed (omega arith)) [
    | inl fit ↦ elim said_all [
      | inl says ↦
          let room : length (scaffold_of p nogoods (Some claim)) ≤ 2 ^ 40 = omega (arith, fit.1) in
          let in_limits : IsInLimits p nogoods claim = record { few = says.1.0; literals = says.1.1; short = record { lines = fit.0; text = room } } in
          inl (rereads p nogoods claim problem back of once aimed allowed in_limits, in_limits)
      | inr many ↦ inr (many_told fit many)
    ]
    | inr cut ↦ inr (front_told cut (gather_all (posed p) (Ok nothing) (enumerate_from 1 cut.front)) refl said_all)
  ]

-- ---- the log

pub limited_of : (p : Csp) (s : Learned) (text log : List ℕ) (proof : Proof) → log ≡ text_of (log_of p s) → proof ≡ log_end text (judged_log (posed p) log)
    → Each IsAllowed (lines (log_of p s)) → IsAccepted (posed p) (lines (log_of p s)) s.claim → (AreShort (lines (log_of p s)) log → judged_log (posed p) log ≡ judged.Accepted s.claim)
    → IsLimitedOf p text s proof
limited_of p s text log proof same is allowed accepted checked = λ follows. elim (log_ends (posed p) (lines (log_of p s)) s.claim allowed accepted) [
  | inl short ↦ inl (is ∙ ap (log_end text) (checked (subst (λ (l : List ℕ). AreShort (lines (log_of p s)) l) (sym same) short)), short)
  | inr cut ↦ inr (subst IsPastLimit (sym (is ∙ ap (log_end text) (ap (judged_log (posed p)) same ∙ cut.2))) cut.1)
]
