-- Annotations, one after another.
use Rattle.std.proofs.Common.{◌≡◌, ℕ, zero, suc, ◌<◌, ◌≤◌, Bool, true, false, if◌then◌else◌, List, [], ◌∷◌, length, Option, Some, None, refl, ap, subst, sym, ◌∙◌, arith, length-append}
use Rattle.dp_grammar.specs.Chain.{followed, mapped, behind_mark}
use Rattle.dp_grammar.specs.Choice.{begins}
use Rattle.dp_grammar.specs.Grammar.{Cause, Reading, Takes, Stops, Tells, IsLawful}
use Rattle.dp_grammar.proofs.Chains.{behind_mark_lawful}
use Rattle.fz_model.specs.Annotations.{Balanced, balanced, Annotation}
use Rattle.fz_model.specs.Literals.{name}
use Rattle.fz_model.specs.Marks.{Production, is_stop, is_open, opens}
use Rattle.fz_model.specs.declared.fault.Fault.{Fault}
use Rattle.fz_model.specs.Words.{Round, DoubleColon, Word}
use Rattle.fz_model.proofs.AnnotationLaws.{balanced_lawful}
use Rattle.fz_model.proofs.LiteralLaws.{name_lawful}
use Rattle.fz_model.proofs.MarkLaws.{opens_lawful}
use Rattle.fz_items.specs.Notes.{Seen, add_note, closing_all, counted, note, note_args, nothing_of, notes_from}
use Rattle.fz_items.specs.Standing.{behind}

-- ---- arguments that do not count

unmapped : {X : Type 0} (r : Reading Word Fault X) → mapped (λ p. p.1) (mapped (λ y. let p : Unit {0} × X = (tt, y) in p) r) ≡ r
unmapped (Takes x rest) = refl
unmapped (Stops cause rest) = refl

passed_over : (r : Reading Word Fault Balanced) → mapped (counted false) (mapped (λ args. Some args) r) ≡ mapped (λ u. None) (nothing_of r)
passed_over (Takes args rest) = refl
passed_over (Stops cause rest) = refl

pub args_over : (first : Bool) (text inner : List Word) (u : Unit {0}) → first ≡ false → begins (is_open Round) text ≡ true → (opens Round).read text ≡ Takes u inner
    → mapped (counted first) (note_args (begins (is_open Round) text) text) ≡ mapped (λ u. None) (closing_all (Round ∷ []) inner)
unfolding closing_all
args_over first text inner u f b e =
    ap (λ (first : Bool). mapped (counted first) (note_args (begins (is_open Round) text) text)) f
    ∙ ap (λ (b : Bool). mapped (counted false) (note_args b text)) b
    ∙ ap (λ (r : Reading Word Fault (Unit {0})). mapped (counted false) (mapped (λ args. Some args) (mapped (λ p. p.1) (followed r (λ x rest. mapped (λ y. let p : Unit {0} × Balanced = (x, y) in p) (balanced.read rest)))))) e
    ∙ ap (λ (r : Reading Word Fault Balanced). mapped (counted false) (mapped (λ args. Some args) r)) (unmapped (balanced.read inner))
    ∙ passed_over (balanced.read inner)

-- ---- an annotation takes words

no_longer : {X : Type 0} (g : Production X) → IsLawful g → (text : List Word) (x : X) (rest : List Word) → g.read text ≡ Takes x rest → length rest ≤ length text
no_longer g is text x rest e =
    let tell = subst (Tells g text) e (is.tells text) in
    let size = ap length tell.0 ∙ length-append (g.spell x) rest in
    omega (arith, size)

name_shortens : (text : List Word) (bytes : List ℕ) (rest : List Word) → (name (λ bytes. None)).read text ≡ Takes bytes rest → length rest < length text
name_shortens text bytes rest e =
    let tell = subst (Tells (name (λ bytes. None)) text) e ((name_lawful (λ bytes. None)).tells text) in
    let size = ap length tell.0 in
    omega (arith, size)

args_read : (r : Reading Word Fault Balanced) (text : List Word) (args : Option Balanced) (rest : List Word) → (behind_mark (opens Round) balanced).read text ≡ r → mapped (λ args. Some args) r ≡ Takes args rest → length rest ≤ length text
args_read (Takes x left) text args rest e taken =
    let same : left ≡ rest = cc in
    let size = no_longer (behind_mark (opens Round) balanced) (behind_mark_lawful (opens Round) balanced (opens_lawful Round) balanced_lawful) text x left e in
    omega (arith, ap length same, size)
args_read (Stops cause left) text args rest e taken = absurd cc

args_no_longer : (b : Bool) (text : List Word) (args : Option Balanced) (rest : List Word) → note_args b text ≡ Takes args rest → length rest ≤ length text
args_no_longer false text args rest e = let same : text ≡ rest = cc in omega (arith, ap length same)
args_no_longer true text args rest e = args_read ((behind_mark (opens Round) balanced).read text) text args rest refl e

from_args : (bytes : List ℕ) (r : Reading Word Fault (Option Balanced)) (inner : List Word) (a : Annotation) (rest : List Word) → ((args : Option Balanced) (rest : List Word) → r ≡ Takes args rest → length rest ≤ length inner)
    → mapped (λ args. record { name = bytes; args = args }) r ≡ Takes a rest → length rest ≤ length inner
from_args bytes (Takes args left) inner a rest h e = let same : left ≡ rest = cc in omega (arith, ap length same, h args left refl)
from_args bytes (Stops cause left) inner a rest h e = absurd cc

from_name : (text : List Word) (r : Reading Word Fault (List ℕ)) → (name (λ bytes. None)).read text ≡ r → (a : Annotation) (rest : List Word)
    → followed r (λ bytes rest. mapped (λ args. record { name = bytes; args = args }) (note_args (begins (is_open Round) rest) rest)) ≡ Takes a rest → length rest < length text
from_name text (Takes bytes inner) e a rest taken =
    let first = name_shortens text bytes inner e in
    let second = from_args bytes (note_args (begins (is_open Round) inner) inner) inner a rest (λ args rest h. args_no_longer (begins (is_open Round) inner) inner args rest h) taken in
    omega (arith, first, second)
from_name text (Stops cause left) e a rest taken = absurd cc

pub note_shortens : (text : List Word) (a : Annotation) (rest : List Word) → note text ≡ Takes a rest → length rest < length text
note_shortens text a rest e = from_name text ((name (λ bytes. None)).read text) refl a rest e

-- ---- one more annotation, or the end of them

abbrev after_mark : ℕ → Seen → Reading Word Fault Annotation → Reading Word Fault Seen
after_mark most seen r = followed r (λ a rest. notes_from most (add_note seen a) rest)

unrolled : (most : ℕ) (seen : Seen) (left : List Word) → begins (is_stop DoubleColon) left ≡ true → notes_from (suc most) seen left ≡ after_mark most seen (note (behind left))
unfolding notes_from
unrolled most seen left b = ap (λ (b : Bool). if b then after_mark most seen (note (behind left)) else Takes seen left) b

pub behind_shorter : {T : Type 0} (test : T → Bool) (text : List T) → begins test text ≡ true → length (behind text) < length text
behind_shorter test [] b = absurd cc
behind_shorter test (t ∷ rest) b = omega arith

-- with the annotation, the rest is as it was to be
pub record GoesOn (total : Reading Word Fault Seen) (seen : Seen) (left rest : List Word) : Type 0 where
  pub most : ℕ
  pub enough : length rest < most
  pub so_far : notes_from most seen rest ≡ total
  pub shorter : length rest < length left

went_on : (most : ℕ) (seen : Seen) (left : List Word) (total : Reading Word Fault Seen) (r : Reading Word Fault Annotation) (next : Seen) (rest : List Word) → begins (is_stop DoubleColon) left ≡ true → length left < suc most
    → note (behind left) ≡ r → after_mark most seen r ≡ total → mapped (add_note seen) r ≡ Takes next rest → GoesOn total next left rest
went_on most seen left total (Takes a after) next rest b enough e so_far taken =
    let same : after ≡ rest = cc in
    let added : add_note seen a ≡ next = cc in
    let one = note_shortens (behind left) a after e in
    let two = behind_shorter (is_stop DoubleColon) left b in
    let size = ap length same in
    record {
      most = most;
      enough = omega (arith, one, two, enough, size);
      so_far = sym (ap (λ (s : Seen). notes_from most s after) added ∙ ap (notes_from most next) same) ∙ so_far;
      shorter = omega (arith, one, two, size);
    }
went_on most seen left total (Stops cause after) next rest b enough e so_far taken = absurd cc

pub notes_more : (most : ℕ) (seen : Seen) (left : List Word) (total : Reading Word Fault Seen) (next : Seen) (rest : List Word) → begins (is_stop DoubleColon) left ≡ true → length left < most
    → notes_from most seen left ≡ total → mapped (add_note seen) (note (behind left)) ≡ Takes next rest → GoesOn total next left rest
notes_more zero seen left total next rest b enough so_far taken = absurd (omega (arith, enough))
notes_more (suc most) seen left total next rest b enough so_far taken =
    went_on most seen left total (note (behind left)) next rest b enough refl (sym (unrolled most seen left b) ∙ so_far) taken

stopped : (most : ℕ) (seen : Seen) (r : Reading Word Fault Annotation) (cause : Cause Fault) (rest : List Word) → mapped (add_note seen) r ≡ Stops cause rest → after_mark most seen r ≡ Stops cause rest
stopped most seen (Takes a after) cause rest e = absurd cc
stopped most seen (Stops other after) cause rest e = cc

pub notes_refused : (most : ℕ) (seen : Seen) (left : List Word) (total : Reading Word Fault Seen) (cause : Cause Fault) (rest : List Word) → begins (is_stop DoubleColon) left ≡ true → length left < most
    → notes_from most seen left ≡ total → mapped (add_note seen) (note (behind left)) ≡ Stops cause rest → total ≡ Stops cause rest
notes_refused zero seen left total cause rest b enough so_far e = absurd (omega (arith, enough))
notes_refused (suc most) seen left total cause rest b enough so_far e = sym so_far ∙ unrolled most seen left b ∙ stopped most seen (note (behind left)) cause rest e

pub notes_done : (most : ℕ) (seen : Seen) (left : List Word) (total : Reading Word Fault Seen) → begins (is_stop DoubleColon) left ≡ false → notes_from most seen left ≡ total → total ≡ Takes seen left
unfolding notes_from
notes_done zero seen left total b so_far = sym so_far
notes_done (suc most) seen left total b so_far = sym so_far ∙ ap (λ (b : Bool). if b then after_mark most seen (note (behind left)) else Takes seen left) b
