-- The hints of a nogood lead to what its kept turns deny, in their order.
use Rattle.std.proofs.Common.{◌≡◌, ℕ, zero, suc, ◌+◌, ◌-◌, ◌<◌, Bool, true, false, cond, Option, Some, List, [], ◌∷◌, ◌++◌, length, map, append_assoc, append-nil, refl, sym, ◌∙◌, ap, subst, arith}
use Rattle.dp_base.specs.Lists.{Each}
use Rattle.dp_base.proofs.Lists.{Each-append, Each-weaker}
use Rattle.dp_domain.specs.Atoms.{Atomic}
use Rattle.dp_engine.specs.declared.part_id.PartId.{PartId}
use Rattle.dp_engine.specs.declared.part_id.PartId.TheVariants.{Model, Nogood}
use Rattle.dp_justify.specs.Pieces.{denial_of, denied_by, nogood_at}
use Rattle.dp_justify.specs.declared.kept.Kept.{Kept}
use Rattle.dp_parts.specs.Problems.{Csp, posed}
use Rattle.dp_checker.specs.Known.{found}
use Rattle.dp_writer.specs.Steps.{Step, count_of}
use Rattle.dp_writer.specs.Written.{inference, nogood}
use Rattle.dp_replay.specs.Judging.{IsCounted, denials_of}
use Rattle.dp_process.specs.Met.{is_met}
use Rattle.dp_process.specs.Processed.{after_turn, count_below, hint_of, hints_of, inferences, kept_at, label_at, number_at, steps_at, steps_below, written_of}
use Rattle.dp_process.proofs.NameLaws.{atoms-named, denied-inference}
use Rattle.dp_process.proofs.NumberLaws.{AreFound, count-append, count-counted, found-step}

-- ---- nogoods that stand before

-- the number of the nogood at the place leads to it behind these steps, whatever follows
abbrev pub IsKnownIn : (ℕ → ℕ) → List (List Atomic) → List Step → ℕ → Type 0
IsKnownIn number nogoods earlier j = (more : List Step) → found (number j) (denials_of (earlier ++ more)) ≡ Some (nogood_at nogoods j)

-- it does where a turn is of a nogood
abbrev pub IsSourceKnown : (ℕ → ℕ) → List (List Atomic) → List Step → PartId → Type 0
IsSourceKnown number nogoods earlier (Model k i) = Unit {0}
IsSourceKnown number nogoods earlier (Nogood j) = IsKnownIn number nogoods earlier j

-- it still does behind one more step
known_more : (number : ℕ → ℕ) (nogoods : List (List Atomic)) (earlier : List Step) (s : Step) (source : PartId) → IsSourceKnown number nogoods earlier source → IsSourceKnown number nogoods (earlier ++ s ∷ []) source
known_more number nogoods earlier s (Model k i) h = tt
known_more number nogoods earlier s (Nogood j) h = λ more.
    subst (λ (steps : List Step). found (number j) (denials_of steps) ≡ Some (nogood_at nogoods j)) (sym (append_assoc earlier (s ∷ []) more)) (h (s ∷ more))

-- a turn's nogood is known where each nogood that it may be is
pub known-source : (number : ℕ → ℕ) (nogoods : List (List Atomic)) (earlier : List Step) (source : PartId) → ((j : ℕ) → source ≡ Nogood j → IsKnownIn number nogoods earlier j) → IsSourceKnown number nogoods earlier source
known-source number nogoods earlier (Model k i) h = tt
known-source number nogoods earlier (Nogood j) h = h j refl

-- ---- the hints

module _ (p : Csp) (number : ℕ → ℕ) (nogoods : List (List Atomic)) where
  -- the hints of the turns, after n steps, lead to their denials
  abbrev AreHints : List Step → ℕ → List Kept → Type 0
  AreHints earlier n ks = AreFound (denials_of (earlier ++ inferences p ks)) (hints_of number n ks) (map (denial_of nogoods) ks)

  abbrev AreKnown : List Step → List Kept → Type 0
  AreKnown earlier ks = Each (λ (k : Kept). IsSourceKnown number nogoods earlier k.source) ks

  hint_found : (earlier : List Step) (n : ℕ) (source : PartId) (premises : List Atomic) (consequent : Option Atomic) (ks : List Kept) → count_of earlier ≡ n
      → IsSourceKnown number nogoods earlier source → AreKnown earlier ks → ((steps : List Step) (m : ℕ) → count_of steps ≡ m → AreKnown steps ks → AreHints steps m ks)
      → AreFound (denials_of (earlier ++ (written_of p source premises consequent ++ inferences p ks))) (hint_of number n source ∷ hints_of number (after_turn n source) ks)
      (denied_by nogoods source premises consequent ∷ map (denial_of nogoods) ks)
  hint_found earlier n (Model k i) premises consequent ks count one all more =
      let s = inference p premises consequent (k + 1) (label_at p k i) in (
        found-step (n + 1) 0 earlier s (inferences p ks) refl (omega arith) ∙ ap (λ (d : List Atomic). Some d) (denied-inference p premises consequent (k + 1) (label_at p k i)),
        subst (λ (steps : List Step). AreFound (denials_of steps) (hints_of number (n + 1) ks) (map (denial_of nogoods) ks)) (append_assoc earlier (s ∷ []) (inferences p ks))
            (more (earlier ++ s ∷ []) (n + 1) (count-append earlier (s ∷ []) ∙ ap (λ (m : ℕ). m + 1) count)
            (Each-weaker (λ (t : Kept). IsSourceKnown number nogoods earlier t.source) (λ (t : Kept). IsSourceKnown number nogoods (earlier ++ s ∷ []) t.source)
            (λ t h. known_more number nogoods earlier s t.source h) ks all)),
      )
  hint_found earlier n (Nogood j) premises consequent ks count one all more = (one (inferences p ks), more earlier n count all)

  pub hints-found : (ks : List Kept) (earlier : List Step) (n : ℕ) → count_of earlier ≡ n → AreKnown earlier ks → AreHints earlier n ks
  hints-found [] earlier n count all = tt
  hints-found (k ∷ ks) earlier n count all =
      hint_found earlier n k.source k.premises k.consequent ks count all.0 all.1 (λ steps m c h. hints-found ks steps m c h)

-- ---- the steps that are written

-- each has a number
written_counted : (p : Csp) (source : PartId) (premises : List Atomic) (consequent : Option Atomic) → Each IsCounted (written_of p source premises consequent)
written_counted p (Model k i) premises consequent = (refl, tt)
written_counted p (Nogood j) premises consequent = tt

pub inferences-counted : (p : Csp) (ks : List Kept) → Each IsCounted (inferences p ks)
inferences-counted p [] = tt
inferences-counted p (k ∷ ks) = Each-append IsCounted (written_of p k.source k.premises k.consequent) (inferences p ks) (written_counted p k.source k.premises k.consequent) (inferences-counted p ks)

module _ (p : Csp) (nogoods : List (List Atomic)) where
  abbrev its_inferences : ℕ → List Step
  its_inferences j = inferences p (kept_at p nogoods j)

  abbrev its_hints : ℕ → List ℕ
  its_hints j = hints_of (number_at p nogoods) (count_below p nogoods j) (kept_at p nogoods j)

  count_at : (j : ℕ) → count_of (steps_at p nogoods j) ≡ length (its_inferences j) + 1
  count_at j =
      let e = count-append (its_inferences j) (nogood p (nogood_at nogoods j) (its_hints j) ∷ []) in
      let f = count-counted (its_inferences j) (inferences-counted p (kept_at p nogoods j)) in
      omega arith

  count_choice : (b : Bool) (j : ℕ) → count_of (cond b (steps_at p nogoods j) []) ≡ cond b (length (its_inferences j) + 1) 0
  count_choice true j = count_at j
  count_choice false j = refl

  -- as many steps are written below a place as are counted
  pub count-below : (n : ℕ) → count_of (steps_below p nogoods n) ≡ count_below p nogoods n
  count-below zero = refl
  count-below (suc j) =
      let e = count-append (steps_below p nogoods j) (cond (is_met (posed p) nogoods j) (steps_at p nogoods j) []) in
      let f = count_choice (is_met (posed p) nogoods j) j in
      let g = count-below j in
      omega arith

  -- with more places there are more steps behind
  below_grows : (n i j : ℕ) → n + i ≡ j → (rest : List Step) × (steps_below p nogoods j ≡ steps_below p nogoods i ++ rest)
  below_grows zero i j e = let same : j ≡ i = omega arith in ([], ap (steps_below p nogoods) same ∙ sym (append-nil (steps_below p nogoods i)))
  below_grows (suc n) i zero e = absurd (omega arith)
  below_grows (suc n) i (suc j) e =
      let r = below_grows n i j (omega arith) in
      let own = cond (is_met (posed p) nogoods j) (steps_at p nogoods j) [] in
      (r.0 ++ own, ap (λ (steps : List Step). steps ++ own) r.1 ∙ append_assoc (steps_below p nogoods i) r.0 own)

  regrouped : (a b c d : List Step) (s : Step) → ((a ++ (b ++ s ∷ [])) ++ c) ++ d ≡ (a ++ b) ++ s ∷ (c ++ d)
  regrouped a b c d s = simp append_assoc

  -- the number of a met nogood leads to it behind the steps of the places up to its own
  pub nogood-known : (i j : ℕ) → is_met (posed p) nogoods i ≡ true → i < j → IsKnownIn (number_at p nogoods) nogoods (steps_below p nogoods j) i
  nogood-known i j met below = λ more.
      let r = below_grows (j - suc i) (suc i) j (omega arith) in
      let s = nogood p (nogood_at nogoods i) (its_hints i) in
      let front = steps_below p nogoods i ++ its_inferences i in
      let order : steps_below p nogoods j ++ more ≡ front ++ s ∷ (r.0 ++ more) =
      ap (λ (steps : List Step). steps ++ more) (r.1 ∙ ap (λ b. (steps_below p nogoods i ++ cond b (steps_at p nogoods i) []) ++ r.0) met)
      ∙ regrouped (steps_below p nogoods i) (its_inferences i) r.0 more s in
      let number : number_at p nogoods i ≡ count_below p nogoods i + (length (its_inferences i) + 1) =
      ap (λ b. count_below p nogoods i + cond b (length (its_inferences i) + 1) 0) met in
      let e = count-append (steps_below p nogoods i) (its_inferences i) in
      let f = count-counted (its_inferences i) (inferences-counted p (kept_at p nogoods i)) in
      let g = count-below i in
      let place : number_at p nogoods i ≡ 0 + count_of front + 1 = omega arith in
      subst (λ (steps : List Step). found (number_at p nogoods i) (denials_of steps) ≡ Some (nogood_at nogoods i)) (sym order)
      (found-step (number_at p nogoods i) 0 front s (r.0 ++ more) refl place ∙ ap (λ (d : List Atomic). Some d) (atoms-named p (nogood_at nogoods i)))
