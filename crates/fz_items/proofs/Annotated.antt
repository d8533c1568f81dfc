-- Annotations and what closes them, read one after the other.
use Rattle.std.proofs.Common.{◌≡◌, ℕ, zero, suc, ◌<◌, Bool, true, false, if◌then◌else◌, ◌⊎◌, inl, inr, List, [], ◌∷◌, ◌++◌, length, Option, Some, None, refl, ap, sym, ◌∙◌, arith, append_assoc}
use Rattle.dp_grammar.specs.Brackets.{Plain}
use Rattle.dp_grammar.specs.Chain.{followed, mapped, chain, behind_mark}
use Rattle.dp_grammar.specs.Choice.{IsLed, begins, either, read_either}
use Rattle.dp_grammar.specs.Grammar.{Reading, Takes, Stops, IsLawful}
use Rattle.dp_grammar.specs.Leaf.{valued, only}
use Rattle.dp_grammar.specs.Many.{IsLink, linked, links, links_behind, with_item}
use Rattle.dp_grammar.proofs.Chains.{chain_lawful, shaped_lawful, behind_mark_lawful}
use Rattle.dp_grammar.proofs.Choices.{either_lawful}
use Rattle.dp_grammar.proofs.Manys as manys
use Rattle.fz_model.specs.Annotations.{Balanced, balanced, Annotation, Close, LinkParts, Tail, annotated, annotation_link, link_of, link_parts, parts_of, parts_with, tail, with_tail}
use Rattle.fz_model.specs.Literals.{name}
use Rattle.fz_model.specs.Marks.{Production, is_stop, is_open, stop, opens}
use Rattle.fz_model.specs.declared.fault.Fault.{Fault}
use Rattle.fz_model.specs.Words.{Round, DoubleColon, Stop, Word}
use Rattle.fz_model.proofs.AnnotationLaws.{IsClose, balanced_lawful}
use Rattle.fz_model.proofs.LiteralLaws.{name_lawful}
use Rattle.fz_model.proofs.MarkLaws.{stop_lawful, opens_lawful}
use Rattle.fz_items.specs.Notes.{Seen, add_note, note, note_args, notes, notes_from, nothing_seen, seen_behind, seen_in, seen_of}
use Rattle.fz_items.specs.Standing.{behind}
use Rattle.fz_items.proofs.Lists.{separated}
use Rattle.fz_items.proofs.NoteLaws.{behind_shorter, note_shortens}

-- ---- the links are lawful

tail_lawful : {C : Type 0} (close : Close C) → IsClose close → (kept : List Annotation) → IsLawful (tail (close kept))
tail_lawful close is kept =
    either_lawful (is_stop DoubleColon) (stop DoubleColon) (close kept) (record { first = λ x. refl; second = is.no_more kept }) (stop_lawful DoubleColon) (is.lawful kept)

tail_no_args : {C : Type 0} (close : Close C) → IsClose close → (kept : List Annotation) (t : Tail C) → IsLed (is_open Round) false ((tail (close kept)).spell t)
tail_no_args close is kept (inl more) = refl
tail_no_args close is kept (inr c) = is.no_args kept c

abbrev after : List Annotation → List ℕ → Option Balanced → List Annotation
after kept bytes args = kept ++ record { name = bytes; args = args } ∷ []

link_parts_lawful : {C : Type 0} (close : Close C) → IsClose close → (kept : List Annotation) → IsLawful (link_parts close kept)
link_parts_lawful close is kept =
    chain_lawful (name (λ bytes. None)) (λ bytes. either (is_open Round)
    (chain (behind_mark (opens Round) balanced) (λ args. tail (close (after kept bytes (Some args)))))
    (tail (close (after kept bytes None))))
    (name_lawful (λ bytes. None))
    (λ bytes. either_lawful (is_open Round) (chain (behind_mark (opens Round) balanced) (λ args. tail (close (after kept bytes (Some args))))) (tail (close (after kept bytes None)))
    (record { first = λ x. refl; second = tail_no_args close is (after kept bytes None) })
    (chain_lawful (behind_mark (opens Round) balanced) (λ args. tail (close (after kept bytes (Some args)))) (behind_mark_lawful (opens Round) balanced (opens_lawful Round) balanced_lawful)
    (λ args. tail_lawful close is (after kept bytes (Some args))))
    (tail_lawful close is (after kept bytes None)))

parts : {C : Type 0} (p : LinkParts C) → parts_of (link_of p) ≡ p
parts (bytes, inl (args, inl more)) = refl
parts (bytes, inl (args, inr c)) = refl
parts (bytes, inr (inl more)) = refl
parts (bytes, inr (inr c)) = refl

made : {C : Type 0} (bytes : List ℕ) (args : Option Balanced) (t : Tail C) → link_of (parts_with bytes args t) ≡ with_tail (record { name = bytes; args = args }) t
made bytes None t = refl
made bytes (Some args) t = refl

makes : {C : Type 0} (z : Annotation ⊎ (Annotation × C)) → link_of (parts_of z) ≡ z
makes (inl a) = made a.name a.args (inl tt)
makes (inr p) = made p.0.name p.0.args (inr p.1)

begins_name : {C : Type 0} (close : Close C) (kept : List Annotation) (bytes : List ℕ) (args : Option Balanced) (t : Tail C) → IsLed (λ _. true) true ((link_parts close kept).spell (parts_with bytes args t))
begins_name close kept bytes None t = refl
begins_name close kept bytes (Some args) t = refl

link_is : {C : Type 0} (close : Close C) → IsClose close → IsLink (annotation_link close)
link_is close is = record {
  lawful = λ kept. shaped_lawful link_of parts_of (link_parts close kept) (record { opens = parts; makes = makes }) (link_parts_lawful close is kept);
  takes = λ kept a. begins_name close kept a.name a.args (inl tt);
  end = λ kept. (record { name = []; args = None }, (is.lawful []).some);
}

-- ---- a link is an annotation and its tail

abbrev linked_to : {C : Type 0} → Close C → List Annotation → Annotation → List Word → Reading Word Fault (Annotation ⊎ (Annotation × C))
linked_to close kept a rest = mapped (with_tail a) ((tail (close (kept ++ a ∷ []))).read rest)

with_args : {C : Type 0} (bytes : List ℕ) (args : Balanced) (r : Reading Word Fault (Tail C))
    → mapped link_of (mapped (λ y. let p : LinkParts C = (bytes, y) in p) (mapped inl (mapped (λ y. let p : Balanced × Tail C = (args, y) in p) r))) ≡ mapped (with_tail (record { name = bytes; args = Some args })) r
with_args bytes args (Takes t rest) = refl
with_args bytes args (Stops cause rest) = refl

without_args : {C : Type 0} (bytes : List ℕ) (r : Reading Word Fault (Tail C))
    → mapped link_of (mapped (λ y. let p : LinkParts C = (bytes, y) in p) (mapped inr r)) ≡ mapped (with_tail (record { name = bytes; args = None })) r
without_args bytes (Takes t rest) = refl
without_args bytes (Stops cause rest) = refl

from_bracket : {C : Type 0} (close : Close C) (kept : List Annotation) (bytes : List ℕ) (r : Reading Word Fault Balanced)
    → mapped link_of (mapped (λ y. let p : LinkParts C = (bytes, y) in p) (mapped inl (followed r (λ args rest. mapped (λ y. let p : Balanced × Tail C = (args, y) in p) ((tail (close (after kept bytes (Some args)))).read rest)))))
    ≡ followed (mapped (λ args. record { name = bytes; args = args }) (mapped (λ args. Some args) r)) (linked_to close kept)
from_bracket close kept bytes (Takes args rest) = with_args bytes args ((tail (close (after kept bytes (Some args)))).read rest)
from_bracket close kept bytes (Stops cause rest) = refl

from_choice : {C : Type 0} (close : Close C) (kept : List Annotation) (bytes : List ℕ) (rest : List Word) (b : Bool)
    → mapped link_of (mapped (λ y. let p : LinkParts C = (bytes, y) in p) (read_either b (chain (behind_mark (opens Round) balanced) (λ args. tail (close (after kept bytes (Some args))))) (tail (close (after kept bytes None))) rest))
    ≡ followed (mapped (λ args. record { name = bytes; args = args }) (note_args b rest)) (linked_to close kept)
from_choice close kept bytes rest true = from_bracket close kept bytes ((behind_mark (opens Round) balanced).read rest)
from_choice close kept bytes rest false = without_args bytes ((tail (close (after kept bytes None))).read rest)

from_name : {C : Type 0} (close : Close C) (kept : List Annotation) (r : Reading Word Fault (List ℕ))
    → mapped link_of (followed r (λ bytes rest. mapped (λ y. let p : LinkParts C = (bytes, y) in p) ((either (is_open Round) (chain (behind_mark (opens Round) balanced) (λ args. tail (close (after kept bytes (Some args))))) (tail (close (after kept bytes None)))).read rest)))
    ≡ followed (followed r (λ bytes rest. mapped (λ args. record { name = bytes; args = args }) (note_args (begins (is_open Round) rest) rest))) (linked_to close kept)
from_name close kept (Takes bytes rest) = from_choice close kept bytes rest (begins (is_open Round) rest)
from_name close kept (Stops cause rest) = refl

link_reads : {C : Type 0} (close : Close C) (kept : List Annotation) (text : List Word) → (annotation_link close kept).read text ≡ followed (note text) (linked_to close kept)
link_reads close kept text = from_name close kept ((name (λ bytes. None)).read text)

-- ---- what is seen

seen_more : (seen : Seen) (front : List Annotation) (a : Annotation) → seen_behind seen (front ++ a ∷ []) ≡ add_note (seen_behind seen front) a
seen_more seen [] a = refl
seen_more seen (b ∷ front) a = seen_more (add_note seen b) front a

abbrev view : {C : Type 0} → List Annotation → List Annotation × (Annotation × C) → Seen × C
view kept p = (seen_in (kept ++ (p.0 ++ p.1.0 ∷ [])), p.1.1)

view_item : {C : Type 0} (kept : List Annotation) (a : Annotation) (r : Reading Word Fault (List Annotation × (Annotation × C))) → mapped (view kept) (mapped (with_item a) r) ≡ mapped (view (kept ++ a ∷ [])) r
view_item {C} kept a (Takes p rest) = ap (λ (ns : List Annotation). let q : Seen × C = (seen_in ns, p.1.1) in Takes q rest) (sym (append_assoc kept (a ∷ []) (p.0 ++ p.1.0 ∷ [])))
view_item kept a (Stops cause rest) = refl

followed_twice : {X Y Z : Type 0} (r : Reading Word Fault X) (f : X → List Word → Reading Word Fault Y) (g : Y → List Word → Reading Word Fault Z) → followed (followed r f) g ≡ followed r (λ x rest. followed (f x rest) g)
followed_twice (Takes x rest) f g = refl
followed_twice (Stops cause rest) f g = refl

-- ---- links, one after another

-- what is read behind the annotations
abbrev close_at : {C : Type 0} → (Seen → Production C) → Seen → List Word → Reading Word Fault (Seen × C)
close_at {C} shut seen rest = mapped (λ c. let p : Seen × C = (seen, c) in p) ((shut seen).read rest)

abbrev then_close : {C : Type 0} → (Seen → Production C) → ℕ → Seen → List Word → Reading Word Fault (Seen × C)
then_close shut most seen rest = followed (notes_from most seen rest) (close_at shut)

abbrev behind_links : {C : Type 0} → Close C → List Annotation → List Word → Reading Word Fault (List Annotation × (Annotation × C))
behind_links close kept text = (links_behind (annotation_link close) kept).read text

abbrev goes_on : {C : Type 0} → Close C → List Annotation → Annotation ⊎ (Annotation × C) → List Word → Reading Word Fault (List Annotation × (Annotation × C))
goes_on close kept = linked (λ x rest. behind_links close (kept ++ x ∷ []) rest)

-- by what the tail is
abbrev tail_at : {C : Type 0} → Close C → List Annotation → Annotation → Bool → List Word → Reading Word Fault (List Annotation × (Annotation × C))
tail_at close kept a b rest = followed (mapped (with_tail a) (read_either b (stop DoubleColon) (close (kept ++ a ∷ [])) rest)) (goes_on close kept)

more_tail : {C : Type 0} (close : Close C) (kept : List Annotation) (a : Annotation) (rest : List Word) → begins (is_stop DoubleColon) rest ≡ true
    → tail_at close kept a true rest ≡ mapped (with_item a) (behind_links close (kept ++ a ∷ []) (behind rest))
more_tail close kept a [] b = absurd cc
more_tail close kept a (t ∷ rest) b =
    ap (λ (b : Bool). followed (mapped (with_tail a) (mapped inl (valued (only (is_stop DoubleColon) (Plain (Stop DoubleColon)) None) (if b then Some tt else None) t rest))) (goes_on close kept)) b

closed_tail : {C : Type 0} (close : Close C) (kept : List Annotation) (a : Annotation) (r : Reading Word Fault C)
    → mapped (view kept) (followed (mapped (with_tail a) (mapped inr r)) (goes_on close kept)) ≡ mapped (λ c. let p : Seen × C = (seen_in (kept ++ a ∷ []), c) in p) r
closed_tail close kept a (Takes c rest) = refl
closed_tail close kept a (Stops cause rest) = refl

done : (most : ℕ) (seen : Seen) (rest : List Word) → begins (is_stop DoubleColon) rest ≡ false → notes_from most seen rest ≡ Takes seen rest
unfolding notes_from
done zero seen rest b = refl
done (suc most) seen rest b = ap (λ (b : Bool). if b then followed (note (behind rest)) (λ a rest. notes_from most (add_note seen a) rest) else Takes seen rest) b

more : (most : ℕ) (seen : Seen) (rest : List Word) → begins (is_stop DoubleColon) rest ≡ true → notes_from (suc most) seen rest ≡ followed (note (behind rest)) (λ a rest. notes_from most (add_note seen a) rest)
unfolding notes_from
more most seen rest b = ap (λ (b : Bool). if b then followed (note (behind rest)) (λ a rest. notes_from most (add_note seen a) rest) else Takes seen rest) b

-- the close looks at what is seen alone
abbrev pub LooksAt : {C : Type 0} → Close C → (Seen → Production C) → Type 0
LooksAt close shut = (ns : List Annotation) → close ns ≡ shut (seen_in ns)

-- links behind these annotations are an annotation, further ones and the close
abbrev Reads : {C : Type 0} → Close C → (Seen → Production C) → ℕ → Type 0
Reads close shut most = (kept : List Annotation) (text : List Word) → length text < most
    → mapped (view kept) (behind_links close kept text) ≡ followed (note text) (λ a rest. then_close shut most (add_note (seen_in kept) a) rest)

tail_reads : {C : Type 0} (close : Close C) (shut : Seen → Production C) → LooksAt close shut → (most : ℕ) → Reads close shut most → (kept : List Annotation) (a : Annotation) (rest : List Word) (b : Bool) → begins (is_stop DoubleColon) rest ≡ b → length rest < suc most
    → mapped (view kept) (tail_at close kept a b rest) ≡ then_close shut (suc most) (add_note (seen_in kept) a) rest
tail_reads {C} close shut looks most reads kept a rest true b enough =
    let shorter = behind_shorter (is_stop DoubleColon) rest b in
    ap (mapped (view kept)) (more_tail close kept a rest b)
    ∙ view_item kept a (behind_links close (kept ++ a ∷ []) (behind rest))
    ∙ reads (kept ++ a ∷ []) (behind rest) (omega (arith, shorter, enough))
    ∙ ap (λ (s : Seen). followed (note (behind rest)) (λ a rest. then_close shut most (add_note s a) rest)) (seen_more nothing_seen kept a)
    ∙ sym (followed_twice (note (behind rest)) (λ x rest. notes_from most (add_note (add_note (seen_in kept) a) x) rest) (close_at shut))
    ∙ ap (λ (r : Reading Word Fault Seen). followed r (close_at shut)) (sym (more most (add_note (seen_in kept) a) rest b))
tail_reads {C} close shut looks most reads kept a rest false b enough =
    closed_tail close kept a ((close (kept ++ a ∷ [])).read rest)
    ∙ ap (λ (g : Production C). mapped (λ c. let p : Seen × C = (seen_in (kept ++ a ∷ []), c) in p) (g.read rest)) (looks (kept ++ a ∷ []))
    ∙ ap (λ (s : Seen). close_at shut s rest) (seen_more nothing_seen kept a)
    ∙ ap (λ (r : Reading Word Fault Seen). followed r (close_at shut)) (sym (done (suc most) (add_note (seen_in kept) a) rest b))

note_reads : {C : Type 0} (close : Close C) (shut : Seen → Production C) → LooksAt close shut → (most : ℕ) → Reads close shut most → (kept : List Annotation) (text : List Word) (r : Reading Word Fault Annotation) → note text ≡ r → length text < suc (suc most)
    → mapped (view kept) (followed (followed r (linked_to close kept)) (goes_on close kept)) ≡ followed r (λ a rest. then_close shut (suc most) (add_note (seen_in kept) a) rest)
note_reads close shut looks most reads kept text (Takes a rest) e enough =
    let shorter = note_shortens text a rest e in
    tail_reads close shut looks most reads kept a rest (begins (is_stop DoubleColon) rest) refl (omega (arith, shorter, enough))
note_reads close shut looks most reads kept text (Stops cause rest) e enough = refl

-- with none allowed, nothing is left
links_read : {C : Type 0} (close : Close C) → IsClose close → (shut : Seen → Production C) → LooksAt close shut → (most : ℕ) → Reads close shut (suc most)
links_read {C} close is shut looks zero kept text enough =
    let reads : Reads close shut zero = λ kept text none. absurd (omega (arith, none)) in
    ap (mapped (view kept)) (manys.unrolled (annotation_link close) (link_is close is) kept text ∙ ap (λ (r : Reading Word Fault (Annotation ⊎ (Annotation × C))). followed r (goes_on close kept)) (link_reads close kept text))
    ∙ note_reads close shut looks zero reads kept text (note text) refl (omega (arith, enough))
links_read {C} close is shut looks (suc most) kept text enough =
    ap (mapped (view kept)) (manys.unrolled (annotation_link close) (link_is close is) kept text ∙ ap (λ (r : Reading Word Fault (Annotation ⊎ (Annotation × C))). followed r (goes_on close kept)) (link_reads close kept text))
    ∙ note_reads close shut looks (suc most) (links_read close is shut looks most) kept text (note text) refl (omega (arith, enough))

-- ---- annotations and the close

seen_links : {C : Type 0} (r : Reading Word Fault (List Annotation × (Annotation × C))) → mapped seen_of (mapped inl r) ≡ mapped (view []) r
seen_links (Takes p rest) = refl
seen_links (Stops cause rest) = refl

seen_close : {C : Type 0} (r : Reading Word Fault C) → mapped seen_of (mapped inr r) ≡ mapped (λ c. let p : Seen × C = (nothing_seen, c) in p) r
seen_close (Takes c rest) = refl
seen_close (Stops cause rest) = refl

enough_read : {C : Type 0} (close : Close C) → IsClose close → (shut : Seen → Production C) → LooksAt close shut → (most : ℕ) (text : List Word) → length text < most
    → mapped (view []) (behind_links close [] text) ≡ followed (note text) (λ a rest. then_close shut most (add_note nothing_seen a) rest)
enough_read close is shut looks zero text enough = absurd (omega (arith, enough))
enough_read close is shut looks (suc most) text enough = links_read close is shut looks most [] text enough

by_mark : {C : Type 0} (close : Close C) → IsClose close → (shut : Seen → Production C) → LooksAt close shut → (text : List Word) (b : Bool) → begins (is_stop DoubleColon) text ≡ b
    → mapped seen_of (read_either b (behind_mark (stop DoubleColon) (links (annotation_link close))) (close []) text) ≡ followed (notes text) (close_at shut)
by_mark {C} close is shut looks text true b =
    let shorter = behind_shorter (is_stop DoubleColon) text b in
    ap (λ (r : Reading Word Fault (List Annotation × (Annotation × C))). mapped seen_of (mapped inl r)) (separated (is_stop DoubleColon) (Plain (Stop DoubleColon)) (links (annotation_link close)) text (behind_links close [] (behind text)) b refl)
    ∙ seen_links (behind_links close [] (behind text))
    ∙ enough_read close is shut looks (length text) (behind text) shorter
    ∙ sym (followed_twice (note (behind text)) (λ x rest. notes_from (length text) (add_note nothing_seen x) rest) (close_at shut))
    ∙ ap (λ (r : Reading Word Fault Seen). followed r (close_at shut)) (sym (more (length text) nothing_seen text b))
by_mark {C} close is shut looks text false b =
    seen_close ((close []).read text)
    ∙ ap (λ (g : Production C). mapped (λ c. let p : Seen × C = (nothing_seen, c) in p) (g.read text)) (looks [])
    ∙ ap (λ (r : Reading Word Fault Seen). followed r (close_at shut)) (sym (done (suc (length text)) nothing_seen text b))

-- Annotations and their close are all annotations, and then what closes them.
pub annotated_reads : {C : Type 0} (close : Close C) → IsClose close → (shut : Seen → Production C) → LooksAt close shut → (text : List Word)
    → mapped seen_of ((annotated close).read text) ≡ followed (notes text) (λ seen rest. mapped (λ c. let p : Seen × C = (seen, c) in p) ((shut seen).read rest))
annotated_reads close is shut looks text = by_mark close is shut looks text (begins (is_stop DoubleColon) text) refl
