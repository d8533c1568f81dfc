-- The steps of a justification: what stands at their sources, and that each holds.
use Rattle.std.proofs.Common.{◌≡◌, ℕ, ◌<◌, ◌≤◌, true, ◌&&◌, Option, Some, None, List, [], ◌++◌, length, get_or, take, slice_get, refl, sym, ◌∙◌, ap, subst, arith}
use Rattle.std.specs.List.{list_any}
use Rattle.std.specs.Option.{option_map, option_and_then}
use Rattle.std.specs.Str.{bytes_eq}
use Rattle.std.proofs.lemmas.Bool.{and_from, or_right}
use Rattle.std.proofs.lemmas.List.{get_or-take, length-take-le}
use Rattle.std.proofs.lemmas.Option.{get_or_from_slice_get, slice_get_within}
use Rattle.std.proofs.lemmas.Slice.Eq.{bytes_eq-Decides}
use Rattle.dp_base.specs.Lists.{Among}
use Rattle.dp_base.proofs.Lists.{Among-get_or, list_any-at}
use Rattle.dp_domain.specs.Atoms.{Atomic}
use Rattle.dp_domain.specs.Explanations.{failing, suffices}
use Rattle.dp_domain.specs.Faces.{Face}
use Rattle.dp_domain.specs.States.{Domains, cut_all, is_dead}
use Rattle.dp_engine.specs.Placed.{face_at}
use Rattle.dp_engine.specs.declared.part_id.PartId.{PartId}
use Rattle.dp_engine.specs.declared.part_id.PartId.TheVariants.{Model, Nogood}
use Rattle.dp_parts.specs.Posed.{Labelled, Posed}
use Rattle.dp_parts.specs.Rules.{implies, is_labelled}
use Rattle.dp_rule_clause.specs.Nogoods.{face_nogood}
use Rattle.dp_justify.specs.Pieces.{nogood_at}
use Rattle.dp_justify.specs.Replay.{HoldsBy, constraint_at}

-- ---- nogoods

-- what stands there, where a map of it is known
mapped : {A B : Type 0} (f : A → B) (o : Option A) (y : B) → option_map f o ≡ Some y → (x : A) × (o ≡ Some x) × (f x ≡ y)
mapped f None y e = (cc)
mapped f (Some x) y e = (x, refl, (cc))

-- a nogood that stands among the first ones is one of them
pub nogood-stands : (p : Posed) (nogoods : List (List Atomic)) (place j : ℕ) (face : Face) → face_at p (take place nogoods) (Nogood j) ≡ Some face
    → (j < length (take place nogoods)) × (face ≡ face_nogood (nogood_at (take place nogoods) j))
nogood-stands p nogoods place j face e =
    let so = mapped face_nogood (slice_get (take place nogoods) j) face e in
    (slice_get_within (take place nogoods) j so.0 so.1, sym so.2 ∙ ap face_nogood (sym (get_or_from_slice_get (take place nogoods) j so.0 [] so.1)))

-- and then it is that one of all, and stands before the place
pub nogood-before : (p : Posed) (nogoods : List (List Atomic)) (place j : ℕ) (face : Face) → place ≤ length nogoods → face_at p (take place nogoods) (Nogood j) ≡ Some face
    → (j < place) × (face ≡ face_nogood (nogood_at nogoods j))
nogood-before p nogoods place j face within e =
    let so = nogood-stands p nogoods place j face e in
    let below : j < place = omega (arith, so.0, length-take-le place nogoods within) in
    (below, so.1 ∙ ap face_nogood (get_or-take place nogoods j [] below))

-- ---- parts of the model

listed : {A : Type 0} (xs : List A) (i : ℕ) (x : A) → slice_get xs i ≡ Some x → Among x xs
listed xs i x e = subst (λ y. Among y xs) (get_or_from_slice_get xs i x x e) (Among-get_or xs i x (slice_get_within xs i x e))

inner : {A : Type 0} (xss : List (List A)) (k i : ℕ) (x : A) → option_and_then (λ xs. slice_get xs i) (slice_get xss k) ≡ Some x → slice_get (get_or xss k []) i ≡ Some x
inner xss k i x e = in_list xss k i x (slice_get xss k) refl e
  where
    in_list : {A : Type 0} (xss : List (List A)) (k i : ℕ) (x : A) (o : Option (List A)) → slice_get xss k ≡ o → option_and_then (λ xs. slice_get xs i) o ≡ Some x → slice_get (get_or xss k []) i ≡ Some x
    in_list xss k i x None f e = (cc)
    in_list xss k i x (Some xs) f e = ap (λ ys. slice_get ys i) (get_or_from_slice_get xss k xs [] f) ∙ e

-- a model's part that stands there is a part of the constraint
pub part-stands : (p : Posed) (nogoods : List (List Atomic)) (k i : ℕ) (face : Face) → face_at p nogoods (Model k i) ≡ Some face
    → (q : Labelled) × (slice_get (constraint_at p k) i ≡ Some q) × (q.face ≡ face)
part-stands p nogoods k i face e =
    let so = mapped (λ (q : Labelled). q.face) (option_and_then (λ c. slice_get c i) (slice_get p.constraints k)) face e in
    (so.0, inner p.constraints k i so.0 so.1, so.2)

-- ---- the rule of inferences

implied : (start : Domains) (parts : List Labelled) (q : Labelled) → Among q parts → q.face.test start ≡ true → implies start parts (Some q.label) ≡ true
implied start parts q here clash =
    or_right (is_dead start) (list_any (λ part. is_labelled (Some q.label) part && part.face.test start) parts)
    (list_any-at (λ part. is_labelled (Some q.label) part && part.face.test start) parts q here
    (and_from (bytes_eq q.label q.label) (q.face.test start) ((bytes_eq-Decides q.label q.label).1 refl) clash))

-- a step whose premises suffice holds
pub step-holds : (p : Posed) (nogoods : List (List Atomic)) (place : ℕ) (id : PartId) (face : Face) (premises : List Atomic) (target : Option Atomic)
    → place ≤ length nogoods → face_at p (take place nogoods) id ≡ Some face → suffices face p.initial target premises ≡ true → HoldsBy p place id premises target
step-holds p nogoods place (Model k i) face premises target within e enough =
    let so = part-stands p (take place nogoods) k i face e in
    let start : Domains = cut_all p.initial (premises ++ failing target) in
    (so.0, so.1, implied start (constraint_at p k) so.0 (listed (constraint_at p k) i so.0 so.1) (ap (λ (f : Face). f.test start) so.2 ∙ enough))
step-holds p nogoods place (Nogood j) face premises target within e enough = (nogood-before p nogoods place j face within e).0
