-- Annotations with a lawful close are lawful.
use Rattle.std.proofs.Common.{◌≡◌, ℕ, true, false, ◌⊎◌, inl, inr, List, [], ◌∷◌, ◌++◌, Option, Some, None, refl}
use Rattle.dp_grammar.specs.Chain.{chain, behind_mark}
use Rattle.dp_grammar.specs.Choice.{IsLed, either}
use Rattle.dp_grammar.specs.Grammar.{IsLawful}
use Rattle.dp_grammar.specs.Many.{links}
use Rattle.dp_grammar.proofs.Bracketings.{inside_lawful}
use Rattle.dp_grammar.proofs.Chains.{chain_lawful, behind_mark_lawful, shaped_lawful}
use Rattle.dp_grammar.proofs.Choices.{either_lawful}
use Rattle.dp_grammar.proofs.Manys.{links_lawful}
use Rattle.fz_model.specs.Annotations.{Balanced, balanced, Annotation, Tail, tail, LinkParts, link_parts, with_tail, link_of, parts_with, parts_of, Close, annotation_link, annotated}
use Rattle.fz_model.specs.Literals.{name}
use Rattle.fz_model.specs.Marks.{is_stop, is_open, stop, opens}
use Rattle.fz_model.specs.declared.fault.Fault.{Fault}
use Rattle.fz_model.specs.Words.{Round, DoubleColon, bracketing}
use Rattle.fz_model.proofs.MarkLaws.{stop_lawful, opens_lawful, is_bracketing}
use Rattle.fz_model.proofs.LiteralLaws.{name_lawful}

-- what may close annotations: it begins with neither `::` nor `(`
pub record IsClose {C : Type 0} (close : Close C) : Type 0 where
  pub lawful : (kept : List Annotation) → IsLawful (close kept)
  pub no_more : (kept : List Annotation) (c : C) → IsLed (is_stop DoubleColon) false ((close kept).spell c)
  pub no_args : (kept : List Annotation) (c : C) → IsLed (is_open Round) false ((close kept).spell c)

pub balanced_lawful : IsLawful balanced
balanced_lawful = inside_lawful Fault bracketing is_bracketing (Round ∷ [])

pub tail_lawful : {C : Type 0} (close : Close C) → IsClose close → (kept : List Annotation) → IsLawful (tail (close kept))
tail_lawful close is kept =
    either_lawful (is_stop DoubleColon) (stop DoubleColon) (close kept) (record { first = λ x. refl; second = is.no_more kept }) (stop_lawful DoubleColon) (is.lawful kept)

tail_no_args : {C : Type 0} (close : Close C) → IsClose close → (kept : List Annotation) (t : Tail C) → IsLed (is_open Round) false ((tail (close kept)).spell t)
tail_no_args close is kept (inl more) = refl
tail_no_args close is kept (inr c) = is.no_args kept c

abbrev after : List Annotation → List ℕ → Option Balanced → List Annotation
after kept bytes args = kept ++ record { name = bytes; args = args } ∷ []

pub link_parts_lawful : {C : Type 0} (close : Close C) → IsClose close → (kept : List Annotation) → IsLawful (link_parts close kept)
link_parts_lawful close is kept =
    chain_lawful (name (λ bytes. None)) (λ bytes. either (is_open Round)
    (chain (behind_mark (opens Round) balanced) (λ args. tail (close (after kept bytes (Some args)))))
    (tail (close (after kept bytes None))))
    (name_lawful (λ bytes. None))
    (λ bytes. either_lawful (is_open Round) (chain (behind_mark (opens Round) balanced) (λ args. tail (close (after kept bytes (Some args))))) (tail (close (after kept bytes None)))
    (record { first = λ x. refl; second = tail_no_args close is (after kept bytes None) })
    (chain_lawful (behind_mark (opens Round) balanced) (λ args. tail (close (after kept bytes (Some args)))) (behind_mark_lawful (opens Round) balanced (opens_lawful Round) balanced_lawful)
    (λ args. tail_lawful close is (after kept bytes (Some args))))
    (tail_lawful close is (after kept bytes None)))

parts : {C : Type 0} (p : LinkParts C) → parts_of (link_of p) ≡ p
parts (bytes, inl (args, inl more)) = refl
parts (bytes, inl (args, inr c)) = refl
parts (bytes, inr (inl more)) = refl
parts (bytes, inr (inr c)) = refl

made : {C : Type 0} (bytes : List ℕ) (args : Option Balanced) (t : Tail C) → link_of (parts_with bytes args t) ≡ with_tail (record { name = bytes; args = args }) t
made bytes None t = refl
made bytes (Some args) t = refl

makes : {C : Type 0} (z : Annotation ⊎ (Annotation × C)) → link_of (parts_of z) ≡ z
makes (inl a) = made a.name a.args (inl tt)
makes (inr p) = made p.0.name p.0.args (inr p.1)

begins_name : {C : Type 0} (close : Close C) (kept : List Annotation) (bytes : List ℕ) (args : Option Balanced) (t : Tail C) → IsLed (λ _. true) true ((link_parts close kept).spell (parts_with bytes args t))
begins_name close kept bytes None t = refl
begins_name close kept bytes (Some args) t = refl

pub annotated_lawful : {C : Type 0} (close : Close C) → IsClose close → IsLawful (annotated close)
annotated_lawful {C} close is =
    either_lawful (is_stop DoubleColon) (behind_mark (stop DoubleColon) (links (annotation_link close))) (close [])
    (record { first = λ x. refl; second = is.no_more [] })
    (behind_mark_lawful (stop DoubleColon) (links (annotation_link close)) (stop_lawful DoubleColon)
    (links_lawful (annotation_link close) (record {
      lawful = λ kept. shaped_lawful link_of parts_of (link_parts close kept) (record { opens = parts; makes = makes }) (link_parts_lawful close is kept);
      takes = λ kept a. begins_name close kept a.name a.args (inl tt);
      end = λ kept. (record { name = []; args = None }, (is.lawful []).some);
    })))
    (is.lawful [])
