-- The literals of steps stand for their atoms.
use Rattle.std.proofs.Common.{◌≡◌, ℕ, zero, suc, ◌+◌, Bool, true, false, not, ◌||◌, eqb, Some, List, [], ◌∷◌, ◌++◌, cond, map, slice_get, sym, ap, ◌∙◌, subst, refl, append_assoc, true≢false, inl, inr, arith}
use Rattle.std.proofs.lemmas.Bool.{and_parts, eqb-true, or_left, or_right}
use Rattle.std.proofs.lemmas.Bool.Decides.{Decides-int_eq}
use Rattle.std.proofs.lemmas.List.{append-nil, map-append}
use Rattle.std.proofs.lemmas.Grind.{flat_map-append}
use Rattle.std.specs.Option.{option_map}
use Rattle.std.specs.Ordering.{int_eq}
use Rattle.std.specs.List.{flat_map, list_any, position_or_len}
use Rattle.dp_base.specs.Lists.{Among}
use Rattle.dp_base.proofs.Lists.{Each-from_among}
use Rattle.dp_domain.specs.Atoms.{Atomic, negated}
use Rattle.dp_domain.specs.declared.atom.Op.{Op}
use Rattle.dp_domain.specs.declared.atom.Op.TheVariants.{Ge, Le, Eq, Ne}
use Rattle.dp_domain.proofs.AtomLaws.{negated-negated}
use Rattle.dp_domain.proofs.ExplanationLaws.{Among-flat_map, Among-flat_map_piece, Among-map}
use Rattle.dp_writer.specs.Atoms.{Named, rank, same, defined, is_defined, named_defined, firsts, signed_by, number_in, literal_in}
use Rattle.dp_writer.specs.AtomLaws.{same_equiv}
use Rattle.dp_writer.specs.Steps.{Step, atoms_in, atoms_of, uses, table}
use Rattle.dp_writer.specs.Reading.{atom_of, AreRead, Stay}
use Rattle.dp_writer.proofs.FirstLemmas.{any_others, firsts_push, others, unless_there}
use Rattle.dp_writer.proofs.LiteralLemmas.{kept_place}

-- ---- atoms that are the same are equal

op_at : ℕ → Op
op_at zero = Ge
op_at (suc zero) = Le
op_at (suc (suc zero)) = Eq
op_at (suc (suc (suc n))) = Ne

ranked : (o : Op) → op_at (rank o) ≡ o
unfolding op_at
ranked Ge = refl
ranked Le = refl
ranked Eq = refl
ranked Ne = refl

pub same_equal : (a b : Atomic) → same a b ≡ true → a ≡ b
same_equal a b h =
    let p = and_parts (eqb a.var b.var) _ h in
    let q = and_parts (eqb (rank a.op) (rank b.op)) (int_eq a.value b.value) p.1 in
    let var : a.var ≡ b.var = eqb-true a.var b.var p.0 in
    let op : a.op ≡ b.op = sym (ranked a.op) ∙ ap op_at (eqb-true (rank a.op) (rank b.op) q.0) ∙ ranked b.op in
    let value : a.value ≡ b.value = (Decides-int_eq a.value b.value).0 q.1 in
    λ j. record { var = var j; op = op j; value = value j }

-- ---- each atom that is used is in the table

pub among_firsts : (xs : List Named) (x : Named) → Among x xs → list_any (same x.atom) (atoms_in (firsts xs)) ≡ true
among_firsts [] x h = absurd h
among_firsts (y ∷ ys) x (inl e) =
    or_left (same x.atom y.atom) (list_any (same x.atom) (atoms_in (others y.atom (firsts ys))))
    (subst (λ (z : Named). same x.atom z.atom ≡ true) e (same_equiv.refl x.atom))
among_firsts (y ∷ ys) x (inr h) = later (same y.atom x.atom) refl (among_firsts ys x h)
  where
    later : (b : Bool) → same y.atom x.atom ≡ b → list_any (same x.atom) (atoms_in (firsts ys)) ≡ true
        → (same x.atom y.atom || list_any (same x.atom) (atoms_in (others y.atom (firsts ys)))) ≡ true
    later true e found = or_left (same x.atom y.atom) (list_any (same x.atom) (atoms_in (others y.atom (firsts ys)))) (same_equiv.symm x.atom y.atom ∙ e)
    later false e found =
        or_right (same x.atom y.atom) (list_any (same x.atom) (atoms_in (others y.atom (firsts ys)))) (any_others y.atom x.atom (firsts ys) e ∙ found)

pub used_in_table : (steps : List Step) (a : Named) → Among a (flat_map atoms_of steps) → list_any (same (defined a.atom)) (atoms_in (table steps)) ≡ true
used_in_table steps a h =
    let piece = Among-flat_map_piece atoms_of steps a h in
    among_firsts (uses steps) (named_defined a)
    (Among-flat_map (λ step. map named_defined (atoms_of step)) steps piece.0 (named_defined a) piece.1
    (Among-map named_defined (atoms_of piece.0) a piece.2))

-- ---- reading

place_step : {X : Type 0} (p : X → Bool) (x : X) (xs : List X) (b : Bool) → p x ≡ b
    → (list_any p xs ≡ true → (y : X) × (slice_get xs (position_or_len p xs) ≡ Some y) × (p y ≡ true)) → (b || list_any p xs) ≡ true
    → (y : X) × (slice_get (x ∷ xs) (cond (not b) (1 + position_or_len p xs) 0) ≡ Some y) × (p y ≡ true)
place_step p x xs true e rest found = (x, refl, e)
place_step p x xs false e rest found =
    let r = rest found in
    let next : 1 + position_or_len p xs ≡ suc (position_or_len p xs) = omega arith in
    (r.0, ap (slice_get (x ∷ xs)) next ∙ r.1, r.2)

-- what passes stands at the place of the first that does
pub place_holds : {X : Type 0} (p : X → Bool) (xs : List X) → list_any p xs ≡ true → (y : X) × (slice_get xs (position_or_len p xs) ≡ Some y) × (p y ≡ true)
place_holds p [] found = absurd (true≢false (sym found))
place_holds p (x ∷ xs) found = place_step p x xs (p x) refl (place_holds p xs) found

read_by : (atoms : List Atomic) (a : Atomic) (place : ℕ) (b : Bool) → slice_get atoms place ≡ Some (cond b a (negated a))
    → atom_of atoms (signed_by b (suc place)) ≡ Some a
read_by atoms a place true at = at
read_by atoms a place false at = ap (option_map negated) at ∙ ap Some (negated-negated a)

pub read_literal : (atoms : List Atomic) (a : Atomic) → list_any (same (defined a)) atoms ≡ true → atom_of atoms (literal_in atoms a) ≡ Some a
read_literal atoms a found =
    let d : Atomic = defined a in
    let place : ℕ = position_or_len (same d) atoms in
    let h = place_holds (same d) atoms found in
    let at : slice_get atoms place ≡ Some d = h.1 ∙ ap Some (sym (same_equal d h.0 h.2)) in
    let number : number_in atoms d ≡ suc place = omega arith in
    ap (λ n. atom_of atoms (signed_by (is_defined a.op) n)) number ∙ read_by atoms a place (is_defined a.op) at

pub are_read : (steps : List Step) → AreRead steps
are_read steps = Each-from_among _ (flat_map atoms_of steps) (λ a h. read_literal (atoms_in (table steps)) a.atom (used_in_table steps a h))

-- ---- later steps

pub firsts_front : (xs ys : List Named) → (more : List Named) × (firsts (xs ++ ys) ≡ firsts xs ++ more)
firsts_front xs [] = ([], ap firsts (append-nil xs) ∙ sym (append-nil (firsts xs)))
firsts_front xs (y ∷ ys) =
    let one : List Named = unless_there (list_any (same y.atom) (atoms_in (firsts xs))) y in
    let rest = firsts_front (xs ++ y ∷ []) ys in (
      one ++ rest.0,
      ap firsts (sym (append_assoc xs (y ∷ []) ys)) ∙ rest.1 ∙ ap (λ f. f ++ rest.0) (firsts_push xs y) ∙ append_assoc (firsts xs) one rest.0,
    )

pub table_whole : (steps later : List Step) → (more : List Named) × (table (steps ++ later) ≡ table steps ++ more)
table_whole steps later =
    let front = firsts_front (uses steps) (uses later) in
    (front.0, ap firsts (flat_map-append (λ step. map named_defined (atoms_of step)) steps later) ∙ front.1)

pub table_front : (steps later : List Step) → (more : List Atomic) × (atoms_in (table (steps ++ later)) ≡ atoms_in (table steps) ++ more)
table_front steps later =
    let whole = table_whole steps later in
    (atoms_in whole.0, ap atoms_in whole.1 ∙ map-append (λ (a : Named). a.atom) (table steps) whole.0)

pub stay : (steps later : List Step) → Stay steps later
stay steps later =
    let front = table_front steps later in
    Each-from_among _ (flat_map atoms_of steps)
    (λ a h. ap (λ t. literal_in t a.atom) front.1
    ∙ ap (λ n. signed_by (is_defined a.atom.op) (n + 1)) (kept_place (same (defined a.atom)) (atoms_in (table steps)) front.0 (used_in_table steps a h)))
