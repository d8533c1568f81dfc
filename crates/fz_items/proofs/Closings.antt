-- What stands behind annotations of which nothing is kept.
use Rattle.std.proofs.Common.{◌≡◌, List, inl, inr, refl, ap, ◌∙◌}
use Rattle.fz_token.specs.declared.Keyword.TheVariants as key
use Rattle.dp_grammar.specs.Chain.{followed, mapped}
use Rattle.dp_grammar.specs.Grammar.{Cause, Reading, Takes, Stops}
use Rattle.fz_model.specs.Annotations.{Annotated, annotated}
use Rattle.fz_model.specs.Context.{Context}
use Rattle.fz_model.specs.Marks.{Production, keyword, stop}
use Rattle.fz_model.specs.ModelText.{GoalWords, closing, goal, solve_item}
use Rattle.fz_model.specs.Words.{Semicolon, Word}
use Rattle.fz_model.specs.declared.fault.Fault.{Fault}
use Rattle.fz_model.proofs.AnnotationLaws.{IsClose}
use Rattle.fz_model.proofs.MarkLaws.{stop_lawful}
use Rattle.fz_items.specs.ConstraintItems.{item_end}
use Rattle.fz_items.specs.Notes.{Seen, notes, seen_of}
use Rattle.fz_items.proofs.Annotated.{annotated_reads}
use Rattle.fz_items.proofs.GoalLaws.{goal_closes}

closing_seen : {C : Type 0} (r : Reading Word Fault (Annotated C)) → mapped closing r ≡ mapped (λ p. p.1) (mapped seen_of r)
closing_seen (Takes (inl p) rest) = refl
closing_seen (Takes (inr c) rest) = refl
closing_seen (Stops cause rest) = refl

unpaired : {C : Type 0} (seen : Seen) (r : Reading Word Fault C) → mapped (λ p. p.1) (mapped (λ c. let p : Seen × C = (seen, c) in p) r) ≡ r
unpaired seen (Takes c rest) = refl
unpaired seen (Stops cause rest) = refl

unseen : {C : Type 0} (g : Production C) (r : Reading Word Fault Seen)
    → mapped (λ p. p.1) (followed r (λ seen rest. mapped (λ c. let p : Seen × C = (seen, c) in p) (g.read rest))) ≡ followed r (λ seen rest. g.read rest)
unseen g (Takes seen rest) = unpaired seen (g.read rest)
unseen g (Stops cause rest) = refl

pub closed_reads : {C : Type 0} (g : Production C) → IsClose (λ notes. g) → (text : List Word) → mapped closing ((annotated (λ notes. g)).read text) ≡ followed (notes text) (λ seen rest. g.read rest)
closed_reads {C} g is text =
    closing_seen ((annotated (λ notes. g)).read text)
    ∙ ap (λ (r : Reading Word Fault (Seen × C)). mapped (λ p. p.1) r) (annotated_reads (λ notes. g) is (λ seen. g) (λ ns. refl) text)
    ∙ unseen g (notes text)

-- behind all annotations
pub closed_behind : {C : Type 0} (g : Production C) → IsClose (λ notes. g) → (text : List Word) (seen : Seen) (rest : List Word) (r : Reading Word Fault C)
    → notes text ≡ Takes seen rest → g.read rest ≡ r → mapped closing ((annotated (λ notes. g)).read text) ≡ r
closed_behind g is text seen rest r n e = closed_reads g is text ∙ ap (λ (s : Reading Word Fault Seen). followed s (λ seen rest. g.read rest)) n ∙ e

-- at an annotation that is refused
pub closed_stop : {C : Type 0} (g : Production C) → IsClose (λ notes. g) → (text : List Word) (cause : Cause Fault) (rest : List Word)
    → notes text ≡ Stops cause rest → mapped closing ((annotated (λ notes. g)).read text) ≡ Stops cause rest
closed_stop g is text cause rest n = closed_reads g is text ∙ ap (λ (s : Reading Word Fault Seen). followed s (λ seen rest. g.read rest)) n

-- ---- the end of an item

end_closes : IsClose (λ notes. stop Semicolon)
end_closes = record { lawful = λ notes. stop_lawful Semicolon; no_more = λ notes c. refl; no_args = λ notes c. refl }

nothing_closing : (r : Reading Word Fault (Annotated (Unit {0}))) → mapped (λ notes. tt {0}) r ≡ mapped closing r
nothing_closing (Takes notes rest) = refl
nothing_closing (Stops cause rest) = refl

pub end_behind : (text : List Word) (seen : Seen) (rest : List Word) (r : Reading Word Fault (Unit {0}))
    → notes text ≡ Takes seen rest → (stop Semicolon).read rest ≡ r → mapped (λ notes. tt) (item_end.read text) ≡ r
end_behind text seen rest r n e = nothing_closing (item_end.read text) ∙ closed_behind (stop Semicolon) end_closes text seen rest r n e

pub end_stop : (text : List Word) (cause : Cause Fault) (rest : List Word) → notes text ≡ Stops cause rest → mapped (λ notes. tt {0}) (item_end.read text) ≡ Stops cause rest
end_stop text cause rest n = nothing_closing (item_end.read text) ∙ closed_stop (stop Semicolon) end_closes text cause rest n

-- ---- the goal

unmarked : {X : Type 0} (r : Reading Word Fault X) → mapped (λ p. p.1) (mapped (λ y. let p : Unit {0} × X = (tt, y) in p) r) ≡ r
unmarked (Takes x rest) = refl
unmarked (Stops cause rest) = refl

solve_at : (context : Context) (text left : List Word) → (keyword key.Solve).read text ≡ Takes tt left → (solve_item context).read text ≡ (annotated (λ notes. goal context)).read left
solve_at context text left k =
    ap (λ (r : Reading Word Fault (Unit {0})). mapped (λ p. p.1) (followed r (λ x rest. mapped (λ y. let p : Unit {0} × Annotated GoalWords = (x, y) in p) ((annotated (λ notes. goal context)).read rest)))) k
    ∙ unmarked ((annotated (λ notes. goal context)).read left)

pub solve_behind : (context : Context) (text left : List Word) (seen : Seen) (rest : List Word) (r : Reading Word Fault GoalWords)
    → (keyword key.Solve).read text ≡ Takes tt left → notes left ≡ Takes seen rest → (goal context).read rest ≡ r → mapped closing ((solve_item context).read text) ≡ r
solve_behind context text left seen rest r k n e = ap (mapped closing) (solve_at context text left k) ∙ closed_behind (goal context) (goal_closes context) left seen rest r n e

pub solve_stop : (context : Context) (text left : List Word) (cause : Cause Fault) (rest : List Word)
    → (keyword key.Solve).read text ≡ Takes tt left → notes left ≡ Stops cause rest → mapped closing ((solve_item context).read text) ≡ Stops cause rest
solve_stop context text left cause rest k n = ap (mapped closing) (solve_at context text left k) ∙ closed_stop (goal context) (goal_closes context) left cause rest n
