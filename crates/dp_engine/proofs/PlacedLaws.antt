-- Where parts stand, and that those of a problem and its nogoods are sound.
use Rattle.std.proofs.Common.{◌≡◌, ℕ, zero, suc, ◌+◌, ◌<◌, List, [], ◌∷◌, length, Some, slice_get, refl, sym, ◌∙◌, ap, subst, inl, inr, arith}
use Rattle.std.specs.Option.{option_map, option_and_then}
use Rattle.dp_base.specs.Lists.{Among, Each}
use Rattle.dp_base.proofs.Lists.{Among-append_cases, Each-among, Each-append, Each-from_among}
use Rattle.dp_base.proofs.ScopeLaws.{among_in_order_out}
use Rattle.dp_domain.specs.Atoms.{Atomic}
use Rattle.dp_domain.specs.Faces.{Face}
use Rattle.dp_domain.specs.States.{AreOf}
use Rattle.dp_parts.specs.Posed.{IsSoundPart, IsSoundlyPosed, Labelled, Posed}
use Rattle.dp_parts.specs.ProblemLaws.{soundly_posed}
use Rattle.dp_parts.specs.Problems.{Csp, IsProblem, posed}
use Rattle.dp_rule_clause.specs.NogoodLaws.{nogood_lawful}
use Rattle.dp_rule_clause.specs.Nogoods.{face_nogood, scope_of, variables}
use Rattle.dp_engine.specs.declared.part_id.PartId.TheVariants.{Model, Nogood}
use Rattle.dp_engine.specs.Placed.{AreSound, IsSound, Placed, face_at, of_constraint, of_constraints, of_nogoods, turn_order}

-- ---- where parts stand

-- the place one further on in what is left is the next place in the whole
next : (i j : ℕ) → (i + 1) + j ≡ i + suc j
next i j = omega arith

-- the part of a constraint at a place, the nogood at a place
abbrev part_at : ℕ → Face → ℕ → Placed
part_at k f i = record { id = Model k i; face = f }

abbrev nogood_at : Face → ℕ → Placed
nogood_at f j = record { id = Nogood j; face = f }

of_constraint-place : (k i : ℕ) (qs : List Labelled) (q : Placed) → Among q (of_constraint k i qs) → (j : ℕ) × (part : Labelled) × (q ≡ part_at k part.face (i + j)) × (slice_get qs j ≡ Some part)
of_constraint-place k i [] q h = absurd h
of_constraint-place k i (x ∷ qs) q (inl e) = (zero, x, e ∙ ap (part_at k x.face) (omega arith), refl)
of_constraint-place k i (x ∷ qs) q (inr h) =
    let r = of_constraint-place k (i + 1) qs q h in (suc r.0, r.1, r.2 ∙ ap (part_at k r.1.face) (next i r.0), r.3)

of_constraints-place : (k : ℕ) (cs : List (List Labelled)) (q : Placed) → Among q (of_constraints k cs)
    → (j : ℕ) × (c : List Labelled) × (i : ℕ) × (part : Labelled) × (q ≡ part_at (k + j) part.face i) × (slice_get cs j ≡ Some c) × (slice_get c i ≡ Some part)
of_constraints-place k [] q h = absurd h
of_constraints-place k (c ∷ cs) q h = elim (Among-append_cases q (of_constraint k 0 c) (of_constraints (k + 1) cs) h) [
  | inl m ↦ let r = of_constraint-place k 0 c q m in
      (zero, c, r.0, r.1, r.2 ∙ ap (part_at k r.1.face) (omega arith) ∙ ap (λ n. part_at n r.1.face r.0) (omega arith), refl, r.3)
  | inr m ↦ let r = of_constraints-place (k + 1) cs q m in
      (suc r.0, r.1, r.2, r.3, r.4 ∙ ap (λ n. part_at n r.3.face r.2) (next k r.0), r.5, r.6)
]

of_nogoods-place : (j : ℕ) (ns : List (List Atomic)) (q : Placed) → Among q (of_nogoods j ns) → (i : ℕ) × (n : List Atomic) × (q ≡ nogood_at (face_nogood n) (j + i)) × (slice_get ns i ≡ Some n)
of_nogoods-place j [] q h = absurd h
of_nogoods-place j (n ∷ ns) q (inl e) = (zero, n, e ∙ ap (nogood_at (face_nogood n)) (omega arith), refl)
of_nogoods-place j (n ∷ ns) q (inr h) =
    let r = of_nogoods-place (j + 1) ns q h in (suc r.0, r.1, r.2 ∙ ap (nogood_at (face_nogood r.1)) (next j r.0), r.3)

model_face : (p : Posed) (nogoods : List (List Atomic)) (q : Placed) (k i : ℕ) (c : List Labelled) (part : Labelled) → q ≡ part_at k part.face i → slice_get p.constraints k ≡ Some c → slice_get c i ≡ Some part → face_at p nogoods q.id ≡ Some q.face
model_face p nogoods q k i c part e f g =
    subst (λ (r : Placed). face_at p nogoods r.id ≡ Some r.face) (sym e)
    (ap (λ o. option_map (λ (l : Labelled). l.face) (option_and_then (λ (ls : List Labelled). slice_get ls i) o)) f ∙ ap (option_map (λ (l : Labelled). l.face)) g)

nogood_face : (p : Posed) (nogoods : List (List Atomic)) (q : Placed) (j : ℕ) (n : List Atomic) → q ≡ nogood_at (face_nogood n) j → slice_get nogoods j ≡ Some n → face_at p nogoods q.id ≡ Some q.face
nogood_face p nogoods q j n e f =
    subst (λ (r : Placed). face_at p nogoods r.id ≡ Some r.face) (sym e) (ap (option_map face_nogood) f)

-- each part stands where its place says
pub placed-face : (p : Posed) (nogoods : List (List Atomic)) (q : Placed) → Among q (turn_order p nogoods) → face_at p nogoods q.id ≡ Some q.face
placed-face p nogoods q h = elim (Among-append_cases q (of_constraints 0 p.constraints) (of_nogoods 0 nogoods) h) [
  | inl m ↦ let r = of_constraints-place 0 p.constraints q m in
      model_face p nogoods q r.0 r.2 r.1 r.3 (r.4 ∙ ap (λ n. part_at n r.3.face r.2) (omega arith)) r.5 r.6
  | inr m ↦ let r = of_nogoods-place 0 nogoods q m in
      nogood_face p nogoods q r.0 r.1 (r.2 ∙ ap (nogood_at (face_nogood r.1)) (omega arith)) r.3
]

-- ---- soundness

of_constraint-sound : (n k i : ℕ) (qs : List Labelled) → Each (IsSoundPart n) qs → AreSound n (of_constraint k i qs)
of_constraint-sound n k i [] e = tt
of_constraint-sound n k i (q ∷ qs) e = (record { lawful = e.0.lawful; covered = e.0.covered }, of_constraint-sound n k (i + 1) qs e.1)

of_constraints-sound : (n k : ℕ) (cs : List (List Labelled)) → Each (Each (IsSoundPart n)) cs → AreSound n (of_constraints k cs)
of_constraints-sound n k [] e = tt
of_constraints-sound n k (c ∷ cs) e =
    Each-append (IsSound n) (of_constraint k 0 c) (of_constraints (k + 1) cs) (of_constraint-sound n k 0 c e.0) (of_constraints-sound n (k + 1) cs e.1)

variables-below : (n : ℕ) (atoms : List Atomic) → Each (λ (a : Atomic). a.var < n) atoms → Each (λ x. x < n) (variables atoms)
variables-below n [] e = tt
variables-below n (a ∷ atoms) e = (e.0, variables-below n atoms e.1)

-- the scope of a nogood's atoms has a set for each variable
pub scope-covered : (n : ℕ) (atoms : List Atomic) → Each (λ (a : Atomic). a.var < n) atoms → Each (λ x. x < n) (scope_of atoms)
scope-covered n atoms e = Each-from_among (λ x. x < n) (scope_of atoms)
    (λ x h. Each-among (λ y. y < n) (variables atoms) (variables-below n atoms e) x (among_in_order_out x (variables atoms) h))

of_nogoods-sound : (n j : ℕ) (ns : List (List Atomic)) → Each (λ atoms. Each (λ (a : Atomic). a.var < n) atoms) ns → AreSound n (of_nogoods j ns)
of_nogoods-sound n j [] e = tt
of_nogoods-sound n j (a ∷ ns) e = (record { lawful = nogood_lawful a; covered = scope-covered n a e.0 }, of_nogoods-sound n (j + 1) ns e.1)

-- the parts of a problem and of nogoods on its variables are sound
pub order-sound : (p : Posed) (nogoods : List (List Atomic)) → IsSoundlyPosed p → Each (AreOf p.initial) nogoods → AreSound (length p.initial) (turn_order p nogoods)
order-sound p nogoods s e =
    Each-append (IsSound (length p.initial)) (of_constraints 0 p.constraints) (of_nogoods 0 nogoods)
    (of_constraints-sound (length p.initial) 0 p.constraints s) (of_nogoods-sound (length p.initial) 0 nogoods e)

-- the same of a problem as it is kept
pub problem-sound : (p : Csp) (nogoods : List (List Atomic)) → IsProblem p → Each (AreOf p.initial) nogoods → AreSound (length p.initial) (turn_order (posed p) nogoods)
problem-sound p nogoods kept e = order-sound (posed p) nogoods (soundly_posed p kept) e
