-- The words of the canonical spelling are words that tokens stand for.
use Rattle.std.proofs.Common.{◌≡◌, ℕ, Bool, true, false, inl, inr, List, [], ◌∷◌, ◌++◌, map, length, Option, Some, None, Result, Ok, Err, ℤ, find, cond, refl, sym, ◌∙◌, ap, subst, append-nil, append_assoc}
use Rattle.std.specs.Option.{option_map_or}
use Rattle.dp_base.specs.Lists.{Each}
use Rattle.dp_base.proofs.Lists.{Each-append, Each-append_parts}
use Rattle.dp_grammar.specs.Brackets.{Closes, spell_inside}
use Rattle.dp_grammar.specs.Choice.{either}
use Rattle.dp_grammar.specs.Grammar.{Cause, Reading, Stops, Takes, Tells}
use Rattle.dp_grammar.specs.Listed.{Listing, further, listed}
use Rattle.dp_grammar.specs.Many.{Link, spell_behind}
use Rattle.dp_grammar.specs.Whole.{finished, whole}
use Rattle.fz_model.specs.Annotations.{Annotation, Annotated, Balanced, Close, annotated, annotation_link, link_parts, parts_with}
use Rattle.fz_model.specs.Arrays.{output_ranges}
use Rattle.std.specs.Prelude.{slice_get}
use Rattle.fz_model.specs.Table.{args_of}
use Rattle.fz_model.specs.declared.kinds.ArgKind.{ArgKind}
use Rattle.fz_model.specs.declared.kinds.ConstraintKind.{ConstraintKind}
use Rattle.fz_model.specs.Constraints.{ArgWords, argument, behind}
use Rattle.fz_model.specs.Context.{BasicText, Context, Name, Truth, Whole}
use Rattle.fz_model.specs.Items.{IntText, SetWords, TypeWords, array_literal, basic_word}
use Rattle.fz_model.specs.Literals.{set_literal, var_type}
use Rattle.fz_model.specs.Models.{notes_of, output_of, ranges_of, ranges_read, set_of, type_of}
use Rattle.fz_model.specs.ModelText.{closing}
use Rattle.fz_model.specs.Words.{Round, Square, IsSpelled, Word, bracketing}
use Rattle.fz_model.specs.declared.fault.Fault.{Fault}
use Rattle.fz_facts.proofs.Faults.{EachBehind}
use Rattle.fz_print.specs.Canonical.{ranges_inside, set_words, type_words}
use Rattle.fz_print.proofs.Cleaned.{elements_listing, numbers_listing, plain_number, plain_text, same_numbers}
use Rattle.fz_print.proofs.CleanConstraints.{args_listing, clean_arg}
use Rattle.fz_print.proofs.Outputs.{Range, as_values, as_words, is_sized, ranges_spell, sizes, sizes_lawful}
use Rattle.fz_print.proofs.Unrefused.{EachBehind-each}

-- ---- lists

module _ {X Y : Type 0} (l : Listing Word Fault X) (m : Listing Word Fault Y) (f : X → Y)
    (item : (kept : List X) (more : List Y) (x : X) → Each IsSpelled ((l.item kept).spell x) → Each IsSpelled ((m.item more).spell (f x)))
    (separator : IsSpelled m.separator) (close : (more : List Y) → Each IsSpelled ((m.close more).spell tt)) where
  further_map : (a : X) (b : Y) (kept : List X) (more : List Y) (xs : List X)
      → Each IsSpelled (spell_behind (λ before. either (further l a).goes_on ((further l a).item before) ((further l a).close before)) kept xs tt)
      → Each IsSpelled (spell_behind (λ before. either (further m b).goes_on ((further m b).item before) ((further m b).close before)) more (map f xs) tt)
  further_map a b kept more [] h = close (b ∷ more)
  further_map a b kept more (x ∷ xs) h =
      let p = Each-append_parts IsSpelled ((l.item (a ∷ kept)).spell x) (spell_behind (λ before. either (further l a).goes_on ((further l a).item before) ((further l a).close before)) (kept ++ x ∷ []) xs tt) h.1 in (
        separator,
        Each-append IsSpelled ((m.item (b ∷ more)).spell (f x)) (spell_behind (λ before. either (further m b).goes_on ((further m b).item before) ((further m b).close before)) (more ++ f x ∷ []) (map f xs) tt)
            (item (a ∷ kept) (b ∷ more) x p.0) (further_map a b (kept ++ x ∷ []) (more ++ f x ∷ []) xs p.1),
      )

  pub spelled_map : (xs : List X) → Each IsSpelled ((listed l).spell xs) → Each IsSpelled ((listed m).spell (map f xs))
  spelled_map [] h = close []
  spelled_map (x ∷ xs) h =
      let p = Each-append_parts IsSpelled ((l.item []).spell x) (spell_behind (λ before. either (further l x).goes_on ((further l x).item before) ((further l x).close before)) [] xs tt) h in
      Each-append IsSpelled ((m.item []).spell (f x)) (spell_behind (λ before. either (further m (f x)).goes_on ((further m (f x)).item before) ((further m (f x)).close before)) [] (map f xs) tt)
      (item [] [] x p.0) (further_map x (f x) [] [] xs p.1)

-- ---- sets, types and elements

numbers_spelled : (test : ℕ → ℤ → Option Fault) (ns : List IntText) → Each IsSpelled ((listed (numbers_listing test)).spell ns) → Each IsSpelled ((listed (numbers_listing test)).spell (map plain_number ns))
numbers_spelled test ns h = spelled_map (numbers_listing test) (numbers_listing test) plain_number (λ kept more x k. k) tt (λ more. (tt, tt)) ns h

pub set_spelled : (test : ℕ → ℤ → Option Fault) (bound : ℤ → Option Fault) (s : SetWords) → Each IsSpelled ((set_literal (λ kept v. test (length kept) v) bound).spell s)
    → Each IsSpelled ((set_literal (λ kept v. test (length kept) v) bound).spell (set_words (set_of s)))
set_spelled test bound (inl ns) h = (tt, subst (λ l. Each IsSpelled ((listed (numbers_listing test)).spell l)) (sym (same_numbers ns)) (numbers_spelled test ns h.1))
set_spelled test bound (inr b) h = h

pub type_spelled : (test : ℕ → ℤ → Option Fault) (bound : ℤ → Option Fault) (t : TypeWords) → Each IsSpelled ((var_type (λ kept v. test (length kept) v) bound).spell t)
    → Each IsSpelled ((var_type (λ kept v. test (length kept) v) bound).spell (type_words (type_of t)))
type_spelled test bound (inl bool) h = h
type_spelled test bound (inr (inl int)) h = h
type_spelled test bound (inr (inr (inl ns))) h = (tt, subst (λ l. Each IsSpelled ((listed (numbers_listing test)).spell l)) (sym (same_numbers ns)) (numbers_spelled test ns h.1))
type_spelled test bound (inr (inr (inr b))) h = h

pub basic_spelled : (t : BasicText) → IsSpelled (basic_word t) → IsSpelled (basic_word (plain_text t))
basic_spelled (Truth true) h = tt
basic_spelled (Truth false) h = tt
basic_spelled (Whole v dotted) h = h
basic_spelled (Name bytes) h = h

pub elements_spelled : (element other : List BasicText → BasicText → Option Fault) (close last : List BasicText → Option Fault) (ts : List BasicText)
    → Each IsSpelled ((array_literal element close).spell ts) → Each IsSpelled ((array_literal other last).spell (map plain_text ts))
elements_spelled element other close last ts h =
    (tt, spelled_map (elements_listing element close) (elements_listing other last) plain_text (λ kept more x k. (basic_spelled x k.0, tt)) tt (λ more. (tt, tt)) ts h.1)

-- ---- arguments

argument_spelled : (c d : Context) (wanted other : Option ArgKind) (a : ArgWords) → Each IsSpelled ((argument c wanted).spell a) → Each IsSpelled ((argument d other).spell (clean_arg a))
argument_spelled c d wanted other (inl ns) h = (tt, numbers_spelled (λ k v. None) ns h.1)
argument_spelled c d wanted other (inr (inl ts)) h = elements_spelled (λ kept t. None) (λ kept t. None) (λ kept. None) (λ kept. None) ts h
argument_spelled c d wanted other (inr (inr (inl bounds))) h = h
argument_spelled c d wanted other (inr (inr (inr t))) h = h

pub args_spelled : (c d : Context) (kind : ConstraintKind) (xs : List ArgWords) → Each IsSpelled ((listed (args_listing c kind)).spell xs) → Each IsSpelled ((listed (args_listing d kind)).spell (map clean_arg xs))
args_spelled c d kind xs h =
    spelled_map (args_listing c kind) (args_listing d kind) clean_arg
    (λ kept more x k. argument_spelled (behind c kept) (behind d more) (slice_get (args_of kind) (length kept)) (slice_get (args_of kind) (length more)) x k) tt (λ more. (tt, tt)) xs h

-- ---- annotations

pub spelled_behind : {X C : Type 0} (link : Link Word Fault X C) (kept xs : List X) (c : C) → Each IsSpelled (spell_behind link kept xs c)
    → EachBehind (λ before x. Each IsSpelled ((link before).spell (inl x))) kept xs × Each IsSpelled ((link (kept ++ xs)).spell (inr c))
spelled_behind link kept [] c h = (tt, subst (λ k. Each IsSpelled ((link k).spell (inr c))) (sym (append-nil kept)) h)
spelled_behind link kept (x ∷ xs) c h =
    let p = Each-append_parts IsSpelled ((link kept).spell (inl x)) (spell_behind link (kept ++ x ∷ []) xs c) h in
    let q = spelled_behind link (kept ++ x ∷ []) xs c p.1 in
    ((p.0, q.0), subst (λ k. Each IsSpelled ((link k).spell (inr c))) (append_assoc kept (x ∷ []) xs) q.1)

-- the words inside the brackets of an annotation
abbrev pub inside_words : Option Balanced → List Word
inside_words None = []
inside_words (Some args) = spell_inside bracketing (Round ∷ []) args

last_spelled : {C : Type 0} (close : Close C) (kept : List Annotation) (bytes : List ℕ) (args : Option Balanced) (c : C) → Each IsSpelled ((link_parts close kept).spell (parts_with bytes args (inr c)))
    → Each IsSpelled (inside_words args) × Each IsSpelled ((close (kept ++ record { name = bytes; args = args } ∷ [])).spell c)
last_spelled close kept bytes None c h = (tt, h.1)
last_spelled close kept bytes (Some args) c h =
    Each-append_parts IsSpelled (spell_inside bracketing (Round ∷ []) args) ((close (kept ++ record { name = bytes; args = Some args } ∷ [])).spell c) h.1.1

note_spelled : {C : Type 0} (close : Close C) (kept : List Annotation) (bytes : List ℕ) (args : Option Balanced) → Each IsSpelled ((link_parts close kept).spell (parts_with bytes args (inl tt))) → Each IsSpelled (inside_words args)
note_spelled close kept bytes None h = tt
note_spelled close kept bytes (Some args) h = (Each-append_parts IsSpelled (spell_inside bracketing (Round ∷ []) args) _ h.1.1).0

pub annotated_spelled : {C : Type 0} (close : Close C) (a : Annotated C) → Each IsSpelled ((annotated close).spell a)
    → Each (λ note. Each IsSpelled (inside_words note.args)) (notes_of a) × Each IsSpelled ((close (notes_of a)).spell (closing a))
annotated_spelled close (inl p) h =
    let q = spelled_behind (annotation_link close) [] p.0 p.1 h.1 in
    let r = last_spelled close p.0 p.1.0.name p.1.0.args p.1.1 q.1 in
    let each = EachBehind-each (λ before x. Each IsSpelled ((annotation_link close before).spell (inl x))) (λ note. Each IsSpelled (inside_words note.args))
    (λ before x k. note_spelled close before x.name x.args k) [] p.0 q.0 in
    (Each-append (λ note. Each IsSpelled (inside_words note.args)) p.0 (p.1.0 ∷ []) each (r.0, tt), r.1)
annotated_spelled close (inr c) h = (tt, h)

-- ---- the ranges of an array to be printed

finished_takes : {X : Type 0} (r : Reading Word Fault X) (x : X) → finished r ≡ Ok x → r ≡ Takes x []
finished_takes (Takes y []) x e = let same : y ≡ x = cc in ap (λ z. Takes z []) same
finished_takes (Takes y (t ∷ rest)) x e = absurd cc
finished_takes (Stops cause rest) x e = absurd cc

read_spelled : (text : List Word) (xs : List Range) → whole output_ranges text ≡ Ok xs → text ≡ output_ranges.spell xs
read_spelled text xs e =
    (subst (Tells output_ranges text) (finished_takes (output_ranges.read text) xs e) (sizes_lawful.tells text)).0 ∙ append-nil (output_ranges.spell xs)

abbrev again_range : Range → Range
again_range x = as_words (as_values x)

again_ranges : (xs : List Range) → map again_range xs ≡ map as_words (map as_values xs)
again_ranges [] = refl
again_ranges (x ∷ xs) = ap (λ l. again_range x ∷ l) (again_ranges xs)

ranges_spelled : (xs : List Range) → Each IsSpelled (output_ranges.spell xs) → Each IsSpelled (output_ranges.spell (map as_words (map as_values xs)))
ranges_spelled xs h =
    let p = Each-append_parts IsSpelled ((listed sizes).spell xs) (Closes Round ∷ []) h.1 in
    subst (λ l. Each IsSpelled (output_ranges.spell l)) (again_ranges xs)
    (tt, Each-append IsSpelled ((listed sizes).spell (map again_range xs)) (Closes Round ∷ []) (spelled_map sizes sizes again_range (λ kept more x k. k) tt (λ more. (tt, tt)) xs p.0) (tt, tt))

abbrev pub Printable : Option (List (ℤ × ℤ)) → Type 0
Printable None = Unit {0}
Printable (Some rs) = Each IsSpelled (spell_inside bracketing (Square ∷ Round ∷ []) (ranges_inside rs))

read_printable : (text : List Word) (r : Result (List Range) (Cause Fault × List Word)) → Each IsSpelled text → whole output_ranges text ≡ r → Printable (ranges_read r)
read_printable text (Err refusal) h e = tt
read_printable text (Ok xs) h e =
    (subst (Each IsSpelled) (ranges_spell (map as_values xs)) (ranges_spelled xs (subst (Each IsSpelled) (read_spelled text xs e) h))).1

args_printable : (args : Option Balanced) → Each IsSpelled (inside_words args) → Printable (ranges_of args)
args_printable None h = tt
args_printable (Some args) h = read_printable (spell_inside bracketing (Round ∷ []) args) (whole output_ranges (spell_inside bracketing (Round ∷ []) args)) h refl

found_printable : (o : Option Annotation) → ((note : Annotation) → o ≡ Some note → Each IsSpelled (inside_words note.args)) → Printable (option_map_or (λ note. ranges_of note.args) o None)
found_printable None h = tt
found_printable (Some note) h = args_printable note.args (h note refl)

find_step : (P : Annotation → Type 0) (x : Annotation) (o : Option Annotation) (b : Bool) → P x → ((note : Annotation) → o ≡ Some note → P note) → (note : Annotation) → cond b (Some x) o ≡ Some note → P note
find_step P x o true p h note e = let same : x ≡ note = cc in subst P same p
find_step P x o false p h note e = h note e

find_each : (P : Annotation → Type 0) (notes : List Annotation) → Each P notes → (note : Annotation) → find is_sized notes ≡ Some note → P note
find_each P [] h note e = absurd cc
find_each P (x ∷ notes) h note e = find_step P x (find is_sized notes) (is_sized x) h.0 (find_each P notes h.1) note e

pub output_printable : (notes : List Annotation) → Each (λ note. Each IsSpelled (inside_words note.args)) notes → Printable (output_of notes)
output_printable notes h = found_printable (find is_sized notes) (find_each (λ note. Each IsSpelled (inside_words note.args)) notes h)
