-- The inference of a kept turn is implied by the part that gives it, under that part's own label.
use Rattle.std.proofs.Common.{◌≡◌, ℕ, ◌+◌, ◌-◌, ◌<◌, ◌≤◌, true, false, cond, ◌⊎◌, Option, Some, None, List, [], ◌∷◌, ◌++◌, length, map, slice_get, refl, sym, ◌∙◌, ap, subst, inl, inr, arith}
use Rattle.std.specs.Prelude.{nat_lt, slice_index_or}
use Rattle.std.specs.List.{list_any}
use Rattle.std.specs.Str.{bytes_eq}
use Rattle.std.proofs.lemmas.Bool.{and_from, cases_lt, lt-ltb, or_right}
use Rattle.std.proofs.lemmas.List.{get_or_past}
use Rattle.std.proofs.lemmas.Option.{get_or_from_slice_get, slice_get_within}
use Rattle.std.proofs.lemmas.Slice.Eq.{bytes_eq-Decides}
use Rattle.dp_base.specs.Lists.{Among, Each}
use Rattle.dp_base.proofs.Lists.{Among-get_or, Each-among, Each-get_or, list_any-at}
use Rattle.dp_domain.specs.Atoms.{Atomic}
use Rattle.dp_domain.specs.Explanations.{failing}
use Rattle.dp_domain.specs.States.{cut_all}
use Rattle.dp_parts.specs.Posed.{Labelled, Posed}
use Rattle.dp_parts.specs.Problems.{Csp, labelled, posed}
use Rattle.dp_parts.specs.Rules.{implies, is_labelled}
use Rattle.dp_parts.specs.declared.part.Part.{Part}
use Rattle.dp_parts.specs.declared.part.Part.TheVariants.{LinLe, LinNe, Nogood as Clause, Within, Element, Cumulative, AllDiff, Times, Greatest, Least, Absolute}
use Rattle.dp_checker.specs.Judged.{initial_domain, parts_of}
use Rattle.dp_engine.specs.declared.part_id.PartId.TheVariants.{Model}
use Rattle.dp_justify.specs.Replay.{HoldsBy, constraint_at}
use Rattle.dp_writer.specs.Written.{inference}
use Rattle.dp_replay.specs.Judging.{IsImplied, denied}
use Rattle.dp_process.specs.Processed.{label_at, label_in}
use Rattle.dp_process.proofs.NameLaws.{denied-inference}

-- ---- labels

-- the part's label asks for no empty start state
abbrev IsOfKind : Labelled → Type 0
IsOfKind q = bytes_eq q.label initial_domain ≡ false

kind_label : (q : Part) → IsOfKind (labelled q)
kind_label (LinLe q) = refl
kind_label (LinNe q) = refl
kind_label (Clause q) = refl
kind_label (Within q) = refl
kind_label (Element q) = refl
kind_label (Cumulative q) = refl
kind_label (AllDiff q) = refl
kind_label (Times q) = refl
kind_label (Greatest q) = refl
kind_label (Least q) = refl
kind_label (Absolute q) = refl

kind_labels : (ps : List Part) → Each IsOfKind (map labelled ps)
kind_labels [] = tt
kind_labels (q ∷ ps) = (kind_label q, kind_labels ps)

all_labels : (pss : List (List Part)) → Each (Each IsOfKind) (map (map labelled) pss)
all_labels [] = tt
all_labels (ps ∷ pss) = (kind_labels ps, all_labels pss)

-- ---- an inference by a part of a constraint

-- there is such a part
pub record IsPartAt (q : Posed) (k : ℕ) (part : Labelled) : Type 0 where
  pub below : k < length q.constraints
  pub here : Among part (constraint_at q k)
  pub kind : bytes_eq part.label initial_domain ≡ false

implied_by : (q : Posed) (denial : List Atomic) (k : ℕ) (part : Labelled) → IsPartAt q k part → implies (cut_all q.initial denial) (constraint_at q k) (Some part.label) ≡ true → IsImplied q denial (k + 1) part.label
implied_by q denial k part at h =
    let below : k < length q.constraints = at.below in
    let same : k ≡ k + 1 - 1 = omega arith in
    let there : Among part (parts_of q (Some (k + 1))) = subst (λ (n : ℕ). Among part (slice_index_or q.constraints n [])) same at.here in
    record {
      named = and_from (nat_lt 0 (k + 1)) (nat_lt (k + 1 - 1) (length q.constraints)) (lt-ltb 0 (k + 1) (omega arith)) (lt-ltb (k + 1 - 1) (length q.constraints) (omega arith));
      fits = or_right (bytes_eq part.label initial_domain) (list_any (is_labelled (Some part.label)) (parts_of q (Some (k + 1))))
          (list_any-at (is_labelled (Some part.label)) (parts_of q (Some (k + 1))) part there ((bytes_eq-Decides part.label part.label).1 refl));
      holds = ap (λ b. implies (cut_all q.initial denial) (cond b [] (parts_of q (Some (k + 1)))) (Some part.label)) at.kind
          ∙ ap (λ (n : ℕ). implies (cut_all q.initial denial) (slice_index_or q.constraints n []) (Some part.label)) (sym same) ∙ h;
    }

-- ---- a kept turn

no_part : (part : Labelled) → ◌≡◌ {A = Option Labelled} None (Some part) → ⊥
no_part part e = cc

part_stands : (q : Posed) (k i : ℕ) (part : Labelled) → Each (Each IsOfKind) q.constraints → slice_get (constraint_at q k) i ≡ Some part → (k < length q.constraints) ⊎ (length q.constraints ≤ k) → IsPartAt q k part
part_stands q k i part kinds e (inl below) =
    let here : Among part (constraint_at q k) =
    subst (λ (x : Labelled). Among x (constraint_at q k)) (get_or_from_slice_get (constraint_at q k) i part part e)
    (Among-get_or (constraint_at q k) i part (slice_get_within (constraint_at q k) i part e)) in
    record { below = below; here = here; kind = Each-among IsOfKind (constraint_at q k) (Each-get_or (Each IsOfKind) q.constraints k [] below kinds) part here }
part_stands q k i part kinds e (inr past) =
    absurd (no_part part (ap (λ (ps : List Labelled). slice_get ps i) (sym (get_or_past q.constraints k [] past)) ∙ e))

-- the inference of a kept turn is implied
pub inference-implied : (p : Csp) (place k i : ℕ) (premises : List Atomic) (consequent : Option Atomic) → HoldsBy (posed p) place (Model k i) premises consequent
    → IsImplied (posed p) (denied (inference p premises consequent (k + 1) (label_at p k i))) (k + 1) (label_at p k i)
inference-implied p place k i premises consequent h =
    let at = part_stands (posed p) k i h.0 (all_labels p.parts) h.1 (cases_lt k (length (posed p).constraints)) in
    let one : IsImplied (posed p) (premises ++ failing consequent) (k + 1) h.0.label = implied_by (posed p) (premises ++ failing consequent) k h.0 at h.2 in
    let two : IsImplied (posed p) (premises ++ failing consequent) (k + 1) (label_at p k i) =
    subst (λ (l : List ℕ). IsImplied (posed p) (premises ++ failing consequent) (k + 1) l) (sym (ap label_in h.1)) one in
    subst (λ (d : List Atomic). IsImplied (posed p) d (k + 1) (label_at p k i)) (sym (denied-inference p premises consequent (k + 1) (label_at p k i))) two
