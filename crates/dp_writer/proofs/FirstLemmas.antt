-- The table of steps, with one step more.
use Rattle.std.proofs.Common.{◌≡◌, ◌+◌, Bool, true, false, not, ◌||◌, List, [], ◌∷◌, ◌++◌, cond, map, filter, drop, length, sym, ap, ◌∙◌, refl, append_assoc}
use Rattle.std.proofs.lemmas.List.{append-nil, map-append, length-append, length-map}
use Rattle.std.proofs.lemmas.List.Elements.{filter-append}
use Rattle.std.proofs.lemmas.Grind.{flat_map-append}
use Rattle.std.proofs.Math.Seq.{drop-append_seam}
use Rattle.std.specs.List.{list_any}
use Rattle.dp_domain.specs.Atoms.{Atomic}
use Rattle.dp_writer.specs.Atoms.{Named, defined, named_defined, same, firsts}
use Rattle.dp_writer.specs.AtomLaws.{same_equiv}
use Rattle.dp_writer.specs.Steps.{Step, atoms_in, atoms_of, uses, table, new_atoms, definition, definitions, line_of, lines_of, lines_after, count_of}
use Rattle.dp_writer.specs.Numbering.{new_lines, step_lines, with_atom, with_atoms}

-- ---- each atom once

abbrev pub others : Atomic → List Named → List Named
others a atoms = filter (λ b. not (same a b.atom)) atoms

-- an atom that is the same as one is apart from what is apart from that one
apart_from : (a d y : Atomic) → same a d ≡ false → same a y ≡ true → same d y ≡ false
apart_from a d y apart e = same_equiv.symm d y ∙ sym (same_equiv.congr a y d e) ∙ apart

any_step : (a d : Atomic) (y : Named) (ys zs : List Named) → same a d ≡ false → (b : Bool) → same a y.atom ≡ b
    → list_any (same d) (atoms_in zs) ≡ list_any (same d) (atoms_in ys)
    → list_any (same d) (atoms_in (cond (not b) (y ∷ zs) zs)) ≡ list_any (same d) (atoms_in (y ∷ ys))
any_step a d y ys zs apart true e rest =
    rest ∙ ap (λ b. b || list_any (same d) (atoms_in ys)) (sym (apart_from a d y.atom apart e))
any_step a d y ys zs apart false e rest = ap (λ r. same d y.atom || r) rest

-- an atom apart from a is among the others where it is among all
pub any_others : (a d : Atomic) (atoms : List Named) → same a d ≡ false → list_any (same d) (atoms_in (others a atoms)) ≡ list_any (same d) (atoms_in atoms)
any_others a d [] apart = refl
any_others a d (y ∷ ys) apart = any_step a d y ys (others a ys) apart (same a y.atom) refl (any_others a d ys apart)

-- the atom, where no test says that it is there
abbrev pub unless_there : Bool → Named → List Named
unless_there b d = cond b [] (d ∷ [])

last_step : (a : Atomic) (d : Named) (atoms : List Named) (b : Bool) → same a d.atom ≡ b
    → others a (unless_there (list_any (same d.atom) (atoms_in atoms)) d) ≡ unless_there (same d.atom a || list_any (same d.atom) (atoms_in (others a atoms))) d
last_step a d atoms true e =
    gone (list_any (same d.atom) (atoms_in atoms)) ∙ sym (ap (λ b. unless_there (b || list_any (same d.atom) (atoms_in (others a atoms))) d) (same_equiv.symm d.atom a ∙ e))
  where
    gone : (b : Bool) → others a (unless_there b d) ≡ []
    gone true = refl
    gone false = ap (λ b. cond (not b) (d ∷ []) []) e
last_step a d atoms false e =
    stays (list_any (same d.atom) (atoms_in atoms))
    ∙ sym (ap (λ b. unless_there (b || list_any (same d.atom) (atoms_in (others a atoms))) d) (same_equiv.symm d.atom a ∙ e)
    ∙ ap (λ b. unless_there b d) (any_others a d.atom atoms e))
  where
    stays : (b : Bool) → others a (unless_there b d) ≡ unless_there b d
    stays true = refl
    stays false = ap (λ b. cond (not b) (d ∷ []) []) e

-- one atom more goes last, unless it is there
pub firsts_push : (xs : List Named) (d : Named) → firsts (xs ++ d ∷ []) ≡ firsts xs ++ unless_there (list_any (same d.atom) (atoms_in (firsts xs))) d
firsts_push [] d = refl
firsts_push (x ∷ xs) d =
    ap (λ l. x ∷ others x.atom l) (firsts_push xs d)
    ∙ ap (λ l. x ∷ l) (filter-append (λ b. not (same x.atom b.atom)) (firsts xs) (unless_there (list_any (same d.atom) (atoms_in (firsts xs))) d))
    ∙ ap (λ l. x ∷ (others x.atom (firsts xs) ++ l)) (last_step x.atom d (firsts xs) (same x.atom d.atom) refl)

-- ---- the new atoms, one after another

fresh : List Atomic → List Named → List Named
fresh known [] = []
fresh known (a ∷ atoms) = unless_there (list_any (same (defined a.atom)) known) (named_defined a) ++ fresh (with_atom known (defined a.atom)) atoms

with_step : (known : List Atomic) (a : Named) (atoms : List Named) → ((t : List Atomic) → with_atoms t atoms ≡ t ++ atoms_in (fresh t atoms)) → (b : Bool)
    → with_atoms (cond b known (known ++ defined a.atom ∷ [])) atoms
    ≡ known ++ atoms_in (unless_there b (named_defined a) ++ fresh (cond b known (known ++ defined a.atom ∷ [])) atoms)
with_step known a atoms rest true = rest known
with_step known a atoms rest false =
    rest (known ++ defined a.atom ∷ []) ∙ append_assoc known (defined a.atom ∷ []) (atoms_in (fresh (known ++ defined a.atom ∷ []) atoms))

with_fresh : (known : List Atomic) (atoms : List Named) → with_atoms known atoms ≡ known ++ atoms_in (fresh known atoms)
unfolding fresh
with_fresh known [] = sym (append-nil known)
with_fresh known (a ∷ atoms) = with_step known a atoms (λ t. with_fresh t atoms) (list_any (same (defined a.atom)) known)

lines_step : (known : List Atomic) (a : Named) (atoms : List Named) → ((t : List Atomic) → new_lines t atoms ≡ definitions (length t) (fresh t atoms)) → (b : Bool)
    → cond b [] (definition (length known + 1) (named_defined a) ∷ []) ++ new_lines (cond b known (known ++ defined a.atom ∷ [])) atoms
    ≡ definitions (length known) (unless_there b (named_defined a) ++ fresh (cond b known (known ++ defined a.atom ∷ [])) atoms)
lines_step known a atoms rest true = rest known
lines_step known a atoms rest false =
    ap (λ ls. definition (length known + 1) (named_defined a) ∷ ls)
    (rest (known ++ defined a.atom ∷ []) ∙ ap (λ n. definitions n (fresh (known ++ defined a.atom ∷ []) atoms)) (length-append known (defined a.atom ∷ [])))

lines_fresh : (known : List Atomic) (atoms : List Named) → new_lines known atoms ≡ definitions (length known) (fresh known atoms)
unfolding fresh
lines_fresh known [] = refl
lines_fresh known (a ∷ atoms) = lines_step known a atoms (λ t. lines_fresh t atoms) (list_any (same (defined a.atom)) known)

atoms_push : (atoms : List Named) (d : Named) → atoms_in (atoms ++ unless_there (list_any (same d.atom) (atoms_in atoms)) d) ≡ with_atom (atoms_in atoms) d.atom
atoms_push atoms d = here (list_any (same d.atom) (atoms_in atoms))
  where
    here : (b : Bool) → atoms_in (atoms ++ unless_there b d) ≡ cond b (atoms_in atoms) (atoms_in atoms ++ d.atom ∷ [])
    here true = ap atoms_in (append-nil atoms)
    here false = map-append (λ (a : Named). a.atom) atoms (d ∷ [])

firsts_fresh : (xs atoms : List Named) → firsts (xs ++ map named_defined atoms) ≡ firsts xs ++ fresh (atoms_in (firsts xs)) atoms
unfolding fresh
firsts_fresh xs [] = ap firsts (append-nil xs) ∙ sym (append-nil (firsts xs))
firsts_fresh xs (a ∷ atoms) =
    let d : Named = named_defined a in
    let one : List Named = unless_there (list_any (same d.atom) (atoms_in (firsts xs))) d in
    ap firsts (sym (append_assoc xs (d ∷ []) (map named_defined atoms)))
    ∙ firsts_fresh (xs ++ d ∷ []) atoms
    ∙ ap (λ f. f ++ fresh (atoms_in f) atoms) (firsts_push xs d)
    ∙ append_assoc (firsts xs) one (fresh (atoms_in (firsts xs ++ one)) atoms)
    ∙ ap (λ t. firsts xs ++ (one ++ fresh t atoms)) (atoms_push (firsts xs) d)

-- ---- one step more

uses_push : (steps : List Step) (step : Step) → uses (steps ++ step ∷ []) ≡ uses steps ++ map named_defined (atoms_of step)
uses_push steps step =
    flat_map-append (λ s. map named_defined (atoms_of s)) steps (step ∷ []) ∙ ap (λ l. uses steps ++ l) (append-nil (map named_defined (atoms_of step)))

table_push : (steps : List Step) (step : Step) → table (steps ++ step ∷ []) ≡ table steps ++ fresh (atoms_in (table steps)) (atoms_of step)
table_push steps step = ap firsts (uses_push steps step) ∙ firsts_fresh (uses steps) (atoms_of step)

-- the table has the step's atoms added, each in turn
pub atoms_after : (steps : List Step) (step : Step) → with_atoms (atoms_in (table steps)) (atoms_of step) ≡ atoms_in (table (steps ++ step ∷ []))
atoms_after steps step =
    with_fresh (atoms_in (table steps)) (atoms_of step)
    ∙ sym (ap atoms_in (table_push steps step) ∙ map-append (λ (a : Named). a.atom) (table steps) (fresh (atoms_in (table steps)) (atoms_of step)))

new_is : (steps : List Step) (step : Step) → fresh (atoms_in (table steps)) (atoms_of step) ≡ new_atoms steps step
new_is steps step =
    sym (ap (drop (length (table steps))) (table_push steps step) ∙ drop-append_seam (table steps) (fresh (atoms_in (table steps)) (atoms_of step)))

-- the table has the atoms that the step is the first to use behind the others
pub table_new : (steps : List Step) (step : Step) → table (steps ++ step ∷ []) ≡ table steps ++ new_atoms steps step
table_new steps step = table_push steps step ∙ ap (λ l. table steps ++ l) (new_is steps step)

-- the lines of a step are those of its atoms in turn, and its own
pub lines_are : (steps : List Step) (step : Step) → step_lines (atoms_in (table steps)) (count_of steps + 1) step ≡ lines_of steps step
lines_are steps step =
    let defined_lines : new_lines (atoms_in (table steps)) (atoms_of step) ≡ definitions (length (table steps)) (new_atoms steps step) =
    lines_fresh (atoms_in (table steps)) (atoms_of step) ∙ (λ j. definitions (length-map (table steps) (λ (a : Named). a.atom) j) (new_is steps step j)) in
    λ j. defined_lines j ++ line_of (atoms_after steps step j) (count_of steps + 1) step ∷ []

-- the lines of one step more stand behind those of the others
pub lines_push : (earlier steps : List Step) (step : Step) → lines_after earlier (steps ++ step ∷ []) ≡ lines_after earlier steps ++ lines_of (earlier ++ steps) step
lines_push earlier [] step = append-nil (lines_of earlier step) ∙ ap (λ e. lines_of e step) (sym (append-nil earlier))
lines_push earlier (s ∷ steps) step =
    ap (λ ls. lines_of earlier s ++ ls) (lines_push (earlier ++ s ∷ []) steps step)
    ∙ sym (append_assoc (lines_of earlier s) (lines_after (earlier ++ s ∷ []) steps) (lines_of ((earlier ++ s ∷ []) ++ steps) step))
    ∙ ap (λ e. (lines_of earlier s ++ lines_after (earlier ++ s ∷ []) steps) ++ lines_of e step) (append_assoc earlier (s ∷ []) steps)
