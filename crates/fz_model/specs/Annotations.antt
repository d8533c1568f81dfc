-- Annotations, and what follows the last of them.
use Rattle.std.specs.Prelude.{ℕ, ◌⊎◌, List, [], ◌∷◌, ◌++◌, Option, Some, None}
use Rattle.std.proofs.Common.{inl, inr}
use Rattle.dp_grammar.specs.Brackets.{Inside, inside}
use Rattle.dp_grammar.specs.Chain.{chain, behind_mark, shaped}
use Rattle.dp_grammar.specs.Choice.{either}
use Rattle.dp_grammar.specs.Many.{Link, links}
use Rattle.fz_model.specs.Literals.{name}
use Rattle.fz_model.specs.Marks.{Production, is_stop, is_open, stop, opens}
use Rattle.fz_model.specs.declared.fault.Fault.{Fault}
use Rattle.fz_model.specs.Words.{Bracket, Round, DoubleColon, Word, PlainWord, bracketing}

-- what stands in round brackets that are open
abbrev pub Balanced : Type 0
Balanced = Inside PlainWord Bracket (Round ∷ [])

abbrev pub balanced : Production Balanced
balanced = inside bracketing (Round ∷ [])

pub record Annotation : Type 0 where
  pub name : List ℕ
  pub args : Option Balanced

-- another annotation follows, or what closes them
abbrev pub Tail : Type 0 → Type 0
Tail C = Unit {0} ⊎ C

abbrev pub tail : {C : Type 0} → Production C → Production (Tail C)
tail close = either (is_stop DoubleColon) (stop DoubleColon) close

-- a name, with or without arguments, and the tail
abbrev pub LinkParts : Type 0 → Type 0
LinkParts C = List ℕ × ((Balanced × Tail C) ⊎ Tail C)

-- what closes them may look at them
abbrev pub Close : Type 0 → Type 0
Close C = List Annotation → Production C

abbrev pub link_parts : {C : Type 0} → Close C → List Annotation → Production (LinkParts C)
link_parts close kept =
    chain (name (λ bytes. None)) (λ bytes. either (is_open Round)
    (chain (behind_mark (opens Round) balanced) (λ args. tail (close (kept ++ record { name = bytes; args = Some args } ∷ []))))
    (tail (close (kept ++ record { name = bytes; args = None } ∷ []))))

abbrev pub with_tail : {C : Type 0} → Annotation → Tail C → Annotation ⊎ (Annotation × C)
with_tail a (inl more) = inl a
with_tail a (inr c) = inr (a, c)

abbrev pub link_of : {C : Type 0} → LinkParts C → Annotation ⊎ (Annotation × C)
link_of (bytes, inl p) = with_tail (record { name = bytes; args = Some p.0 }) p.1
link_of (bytes, inr t) = with_tail (record { name = bytes; args = None }) t

abbrev pub parts_with : {C : Type 0} → List ℕ → Option Balanced → Tail C → LinkParts C
parts_with bytes None t = (bytes, inr t)
parts_with bytes (Some args) t = (bytes, inl (args, t))

abbrev pub parts_of : {C : Type 0} → Annotation ⊎ (Annotation × C) → LinkParts C
parts_of (inl a) = parts_with a.name a.args (inl tt)
parts_of (inr p) = parts_with p.0.name p.0.args (inr p.1)

abbrev pub annotation_link : {C : Type 0} → Close C → Link Word Fault Annotation (Annotation × C)
annotation_link close = λ kept. shaped link_of parts_of (link_parts close kept)

-- the annotations but the last, and the last with the close; or the close alone
abbrev pub Annotated : Type 0 → Type 0
Annotated C = (List Annotation × (Annotation × C)) ⊎ C

-- ('::' NAME ('(' balanced ')')?)*, and then the close
abbrev pub annotated : {C : Type 0} → Close C → Production (Annotated C)
annotated close = either (is_stop DoubleColon) (behind_mark (stop DoubleColon) (links (annotation_link close))) (close [])
