-- Atoms of lists joined end to end.
use Rattle.std.proofs.Common.{◌≡◌, ℕ, ◌+◌, ◌≤◌, ◌^◌, Bool, true, false, List, [], ◌∷◌, ◌++◌, cond, map, take, drop, length, get_or, ◌<◌, ℤ, sym, ap, ◌∙◌, subst, refl, append_assoc}
use Rattle.std.proofs.lemmas.List.{append-nil, map_push, take_more, take-append-drop}
use Rattle.std.proofs.Math.Seq.{take-append_seam}
use Rattle.std.proofs.lemmas.Grind.{flat_map-append}
use Rattle.std.specs.List.{flat_map}
use Rattle.dp_base.specs.Lists.{Each}
use Rattle.dp_base.proofs.Lists.{Each-append}
use Rattle.dp_domain.specs.Atoms.{Atomic, negated}
use Rattle.dp_lines.specs.Allowed.{IsAllowed}
use Rattle.dp_lines.specs.Spelling.{line_text}
use Rattle.dp_parts.specs.Problems.{Csp}
use Rattle.dp_writer.specs.Atoms.{Named, defined, named_defined, is_defined, literal_in}
use Rattle.dp_writer.specs.Written.{named, own_name}
use Rattle.dp_writer.specs.Numbering.{Defines, line_if_new, literals_by, new_lines, with_atom, with_atoms}

pub with_atoms_append : (table : List Atomic) (xs ys : List Named) → with_atoms table (xs ++ ys) ≡ with_atoms (with_atoms table xs) ys
with_atoms_append table [] ys = refl
with_atoms_append table (x ∷ xs) ys = with_atoms_append (with_atom table (defined x.atom)) xs ys

pub new_lines_append : (table : List Atomic) (xs ys : List Named) → new_lines table (xs ++ ys) ≡ new_lines table xs ++ new_lines (with_atoms table xs) ys
new_lines_append table [] ys = refl
new_lines_append table (x ∷ xs) ys =
    ap (λ ls. line_if_new table (named_defined x) ++ ls) (new_lines_append (with_atom table (defined x.atom)) xs ys)
    ∙ sym (append_assoc (line_if_new table (named_defined x)) (new_lines (with_atom table (defined x.atom)) xs) (new_lines (with_atoms (with_atom table (defined x.atom)) xs) ys))

pub literals_by_append : (table : List Atomic) (xs ys : List Named) → literals_by table (xs ++ ys) ≡ literals_by table xs ++ literals_by (with_atoms table xs) ys
literals_by_append table [] ys = refl
literals_by_append table (x ∷ xs) ys = ap (λ ls. literal_in table x.atom ∷ ls) (literals_by_append (with_atom table (defined x.atom)) xs ys)

-- some atoms, then others
pub defines_append : (xs ys : List Named) (old mid new : List Atomic) (before between after : List ℕ)
    → Defines xs old mid before between → Defines ys mid new between after → Defines (xs ++ ys) old new before after
defines_append xs ys old mid new before between after front back = record {
  table = back.table ∙ ap (λ t. with_atoms t ys) front.table ∙ sym (with_atoms_append old xs ys);
  few = back.few;
  text = back.text ∙ (λ j. front.text j ++ flat_map line_text (new_lines (front.table j) ys))
      ∙ append_assoc before (flat_map line_text (new_lines old xs)) (flat_map line_text (new_lines (with_atoms old xs) ys))
      ∙ ap (λ t. before ++ t) (sym (flat_map-append line_text (new_lines old xs) (new_lines (with_atoms old xs) ys)))
      ∙ ap (λ ls. before ++ flat_map line_text ls) (sym (new_lines_append old xs ys));
  allowed = subst (Each IsAllowed) (sym (new_lines_append old xs ys))
      (Each-append IsAllowed (new_lines old xs) (new_lines (with_atoms old xs) ys) front.allowed
      (subst (λ t. Each IsAllowed (new_lines t ys)) front.table back.allowed));
}

var_of : (b : Bool) (a : Atomic) → (cond b a (negated a)).var ≡ a.var
var_of true a = refl
var_of false a = refl

pub defined_var : (a : Atomic) → (defined a).var ≡ a.var
defined_var a = var_of (is_defined a.op) a

pub named_is : (p : Csp) (a : Atomic) → named p (defined a) ≡ named_defined (named p a)
named_is p a = ap (λ x. record { name = own_name p x; atom = defined a }) (defined_var a)

-- one atom
pub defines_one : (p : Csp) (a : Atomic) (old new : List Atomic) (before after : List ℕ) → new ≡ with_atom old (defined a) → length new ≤ 10 ^ 18
    → after ≡ before ++ flat_map line_text (line_if_new old (named p (defined a))) → Each IsAllowed (line_if_new old (named p (defined a)))
    → Defines (named p a ∷ []) old new before after
defines_one p a old new before after table few text allowed =
    let same_lines : line_if_new old (named p (defined a)) ≡ new_lines old (named p a ∷ []) =
    ap (line_if_new old) (named_is p a) ∙ sym (append-nil (line_if_new old (named_defined (named p a)))) in
    record {
      table = table;
      few = few;
      text = text ∙ ap (λ ls. before ++ flat_map line_text ls) same_lines;
      allowed = subst (Each IsAllowed) same_lines allowed;
    }

-- no atom
pub defines_none : (old : List Atomic) (before : List ℕ) → length old ≤ 10 ^ 18 → Defines [] old old before before
defines_none old before few = record { table = refl; few = few; text = sym (append-nil before); allowed = tt }

-- a front of a list's front is a front of the list
pub kept_on : {A : Type 0} (old mid new : List A) → take (length old) mid ≡ old → take (length mid) new ≡ mid → take (length old) new ≡ old
kept_on old mid new front back =
    let d : List _ = drop (length old) mid in
    let e : List _ = drop (length mid) new in
    let whole : new ≡ old ++ (d ++ e) =
    sym (take-append-drop (length mid) new) ∙ ap (λ l. l ++ e) (back ∙ sym (take-append-drop (length old) mid) ∙ ap (λ l. l ++ d) front)
    ∙ append_assoc old d e in
    ap (take (length old)) whole ∙ take-append_seam old (d ++ e)

-- one atom more of those that are used
pub used_more : (p : Csp) (used : List Atomic) (i : ℕ) (a : Atomic) → i < length used → a ≡ get_or used i a
    → map (named p) (take (i + 1) used) ≡ map (named p) (take i used) ++ named p a ∷ []
used_more p used i a within is =
    ap (map (named p)) (take_more used i a within) ∙ map_push (named p) (take i used) (get_or used i a)
    ∙ ap (λ x. map (named p) (take i used) ++ named p x ∷ []) (sym is)

-- and its literal
pub literals_more : (p : Csp) (used : List Atomic) (i : ℕ) (a : Atomic) (old mid : List Atomic) (literals : List ℤ) (literal : ℤ)
    → i < length used → a ≡ get_or used i a
    → mid ≡ with_atoms old (map (named p) (take i used)) → literals ≡ literals_by old (map (named p) (take i used)) → literal ≡ literal_in mid a
    → literals ++ literal ∷ [] ≡ literals_by old (map (named p) (take (i + 1) used))
literals_more p used i a old mid literals literal within is table before here =
    (λ j. before j ++ here j ∷ []) ∙ ap (λ t. literals_by old (map (named p) (take i used)) ++ literal_in t a ∷ []) table
    ∙ sym (literals_by_append old (map (named p) (take i used)) (named p a ∷ []))
    ∙ ap (literals_by old) (sym (used_more p used i a within is))

pub defines_more : (p : Csp) (used : List Atomic) (i : ℕ) (a : Atomic) (old mid new : List Atomic) (before between after : List ℕ)
    → i < length used → a ≡ get_or used i a
    → Defines (map (named p) (take i used)) old mid before between → Defines (named p a ∷ []) mid new between after
    → Defines (map (named p) (take (i + 1) used)) old new before after
defines_more p used i a old mid new before between after within is front back =
    subst (λ xs. Defines xs old new before after) (sym (used_more p used i a within is))
    (defines_append (map (named p) (take i used)) (named p a ∷ []) old mid new before between after front back)
