-- The lines of a step are those of its new atoms, and its own.
use Rattle.std.proofs.Common.{◌≡◌, ℕ, ◌≤◌, ◌^◌, true, Option, Some, None, List, [], ◌∷◌, ◌++◌, length, ℤ, sym, ap, ◌∙◌, subst, refl}
use Rattle.std.proofs.lemmas.List.{append-nil}
use Rattle.std.proofs.lemmas.Grind.{flat_map-append}
use Rattle.std.specs.Prelude.{IfSome}
use Rattle.std.specs.Option.{option_map, option_to_list}
use Rattle.std.specs.List.{flat_map}
use Rattle.dp_base.specs.Lists.{Each}
use Rattle.dp_base.proofs.Lists.{Each-append}
use Rattle.dp_domain.specs.Atoms.{Atomic}
use Rattle.dp_lines.specs.Allowed.{IsAllowed, IsAllowedClaim, IsLiteral, IsNumber, is_label}
use Rattle.dp_lines.specs.Spelling.{line_text}
use Rattle.dp_lines.specs.declared.line.Line.{Line}
use Rattle.dp_lines.specs.declared.line.Line.TheVariants.{Inference as inference_line, Nogood as nogood_line, Conclude as conclusion_line}
use Rattle.dp_lines.specs.declared.line.Claim.{Claim}
use Rattle.dp_lines.specs.declared.line.Claim.TheVariants.{Unsat, Bound}
use Rattle.dp_writer.specs.Atoms.{Named, literal_in}
use Rattle.dp_writer.specs.Steps.{Step, atoms_of, line_of, literals_in}
use Rattle.dp_writer.specs.Steps.Step.{Inference, Nogood, Conclusion}
use Rattle.dp_writer.specs.Numbering.{Defines, IsClaimLine, Writes, claim_literals, literals_by, new_lines, with_atoms}
use Rattle.dp_writer.proofs.LiteralLemmas.{kept_literals, literals_allowed, with_atoms_front}
use Rattle.dp_writer.proofs.OrderLemmas.{defines_append, with_atoms_append}

-- the lines of the atoms, and then that of the step
pub writes_from : (number : ℕ) (step : Step) (old new : List Atomic) (mid text : List ℕ) (line : Line) → Defines (atoms_of step) old new [] mid
    → text ≡ mid ++ line_text line → line ≡ line_of (with_atoms old (atoms_of step)) number step → IsAllowed line → Writes number step old new text
writes_from number step old new mid text line defines spelled is allowed = record {
  table = defines.table;
  few = defines.few;
  spelled = spelled ∙ ap (λ t. t ++ line_text line) defines.text
      ∙ ap (λ t. flat_map line_text (new_lines old (atoms_of step)) ++ t) (sym (append-nil (line_text line)))
      ∙ sym (flat_map-append line_text (new_lines old (atoms_of step)) (line ∷ []))
      ∙ ap (λ l. flat_map line_text (new_lines old (atoms_of step) ++ l ∷ [])) is;
  allowed = Each-append IsAllowed (new_lines old (atoms_of step)) (line_of (with_atoms old (atoms_of step)) number step ∷ []) defines.allowed (subst IsAllowed is allowed, tt);
}

literals_whole : (table : List Atomic) (atoms : List Named) → literals_by table atoms ≡ literals_in (with_atoms table atoms) atoms
literals_whole table atoms = kept_literals table atoms [] ∙ ap (λ t. literals_in t atoms) (append-nil (with_atoms table atoms))

-- the literal of an atom that may be absent
optional : (table : List Atomic) (a : Option Named) (literal : Option ℤ) → option_to_list literal ≡ literals_in table (option_to_list a)
    → literal ≡ option_map (λ b. literal_in table b.atom) a
optional table None None e = refl
optional table None (Some l) e = cc
optional table (Some a) None e = cc
optional table (Some a) (Some l) e = cc

optional_allowed : (literal : Option ℤ) (literals : List ℤ) → option_to_list literal ≡ literals → Each IsLiteral literals → IfSome literal IsLiteral
optional_allowed None literals e all = tt
optional_allowed (Some l) literals e all = (subst (Each IsLiteral) (sym e) all).0

module _ (number : ℕ) (premises : List Named) (consequent : Option Named) (constraint : ℕ) (label : List ℕ) (old mid new : List Atomic)
    (between after : List ℕ) (literals : List ℤ) (literal : Option ℤ)
    (front : Defines premises old mid [] between) (back : Defines (option_to_list consequent) mid new between after)
    (are : literals ≡ literals_by old premises) (is : option_to_list literal ≡ literals_by mid (option_to_list consequent)) where
  -- the line of an inference is one that a log may have
  pub inference_allowed : IsNumber number → IsNumber constraint → is_label label ≡ true → IsAllowed (inference_line number literals literal (Some constraint) (Some label))
  inference_allowed n k l =
      let whole : Each IsLiteral literals = subst (Each IsLiteral) (sym are) (literals_allowed old premises (subst (λ t. length t ≤ 10 ^ 18) front.table front.few)) in
      let one : IfSome literal IsLiteral =
      optional_allowed literal (literals_by mid (option_to_list consequent)) is (literals_allowed mid (option_to_list consequent) (subst (λ t. length t ≤ 10 ^ 18) back.table back.few)) in
      (n, whole, one, k, l)

  pub inference_writes : (text : List ℕ) → text ≡ after ++ line_text (inference_line number literals literal (Some constraint) (Some label))
      → IsNumber number → IsNumber constraint → is_label label ≡ true → Writes number (Inference premises consequent constraint label) old new text
  inference_writes text spelled n k l =
      let both : with_atoms old (premises ++ option_to_list consequent) ≡ with_atoms (with_atoms old premises) (option_to_list consequent) =
      with_atoms_append old premises (option_to_list consequent) in
      let more = with_atoms_front (with_atoms old premises) (option_to_list consequent) in
      let table : List Atomic = with_atoms old (premises ++ option_to_list consequent) in
      let first : literals ≡ literals_in table premises =
      are ∙ kept_literals old premises more.0 ∙ ap (λ t. literals_in t premises) (sym (both ∙ more.1)) in
      let second : literal ≡ option_map (λ b. literal_in table b.atom) consequent =
      optional table consequent literal
      (is ∙ literals_whole mid (option_to_list consequent)
      ∙ ap (λ t. literals_in t (option_to_list consequent)) (ap (λ t. with_atoms t (option_to_list consequent)) front.table ∙ sym both)) in
      writes_from number (Inference premises consequent constraint label) old new after text (inference_line number literals literal (Some constraint) (Some label))
      (defines_append premises (option_to_list consequent) old mid new [] between after front back) spelled
      (λ j. inference_line number (first j) (second j) (Some constraint) (Some label))
      (inference_allowed n k l)

module _ (number : ℕ) (atoms : List Named) (hints : List ℕ) (old new : List Atomic) (after : List ℕ) (literals : List ℤ)
    (defines : Defines atoms old new [] after) (are : literals ≡ literals_by old atoms) where
  -- the line of a nogood is one that a log may have
  pub nogood_allowed : IsNumber number → Each IsNumber hints → IsAllowed (nogood_line number literals hints)
  nogood_allowed n hs =
      (n, subst (Each IsLiteral) (sym are) (literals_allowed old atoms (subst (λ t. length t ≤ 10 ^ 18) defines.table defines.few)), hs)

  pub nogood_writes : (text : List ℕ) → text ≡ after ++ line_text (nogood_line number literals hints) → IsNumber number → Each IsNumber hints
      → Writes number (Nogood atoms hints) old new text
  nogood_writes text spelled n hs =
      writes_from number (Nogood atoms hints) old new after text (nogood_line number literals hints) defines spelled
      (ap (λ ls. nogood_line number ls hints) (are ∙ literals_whole old atoms)) (nogood_allowed n hs)

claim_is : (table : List Atomic) (number : ℕ) (bound : Option Named) (claim : Claim) → option_to_list (claim_literals claim) ≡ literals_in table (option_to_list bound)
    → conclusion_line claim ≡ line_of table number (Conclusion bound)
claim_is table number None Unsat e = refl
claim_is table number None (Bound l) e = cc
claim_is table number (Some a) Unsat e = cc
claim_is table number (Some a) (Bound l) e =
    let here : l ≡ literal_in table a.atom = cc in
    ap (λ x. conclusion_line (Bound x)) here

claim_allowed : (claim : Claim) (literals : List ℤ) → option_to_list (claim_literals claim) ≡ literals → Each IsLiteral literals → IsAllowedClaim claim
claim_allowed Unsat literals e all = tt
claim_allowed (Bound l) literals e all = (subst (Each IsLiteral) (sym e) all).0

module _ (bound : Option Named) (claim : Claim) (old new : List Atomic) (after : List ℕ)
    (defines : Defines (option_to_list bound) old new [] after) (is : IsClaimLine old (Conclusion bound) claim) where
  pub conclusion_allowed : IsAllowedClaim claim
  conclusion_allowed =
      claim_allowed claim (literals_by old (option_to_list bound)) is
      (literals_allowed old (option_to_list bound) (subst (λ t. length t ≤ 10 ^ 18) defines.table defines.few))

  pub conclusion_writes : (number : ℕ) (text : List ℕ) → text ≡ after ++ line_text (conclusion_line claim) → Writes number (Conclusion bound) old new text
  conclusion_writes number text spelled =
      writes_from number (Conclusion bound) old new after text (conclusion_line claim) defines spelled
      (claim_is (with_atoms old (option_to_list bound)) number bound claim (is ∙ literals_whole old (option_to_list bound))) conclusion_allowed
