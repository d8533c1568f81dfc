-- The processed log of a scaffold: for each met nogood in its order the kept turns of its run, then itself.
use Rattle.std.specs.Prelude.{ℕ, ◌+◌, ◌-◌, zero, suc, if◌then◌else◌, Option, Some, None, List, [], ◌∷◌, ◌++◌, length, slice_get}
use Rattle.std.specs.List.{flat_map}
use Rattle.dp_domain.specs.Atoms.{Atomic}
use Rattle.dp_engine.specs.declared.part_id.PartId.{PartId}
use Rattle.dp_engine.specs.declared.part_id.PartId.TheVariants.{Model, Nogood}
use Rattle.dp_justify.specs.Pieces.{justification, nogood_at}
use Rattle.dp_justify.specs.Replay.{constraint_at}
use Rattle.dp_justify.specs.declared.kept.Kept.{Kept}
use Rattle.dp_parts.specs.Posed.{Labelled}
use Rattle.dp_parts.specs.Problems.{Csp, posed}
use Rattle.dp_scaffold.specs.Scaffolds.{Learned}
use Rattle.dp_writer.specs.Steps.{Step}
use Rattle.dp_writer.specs.Written.{conclusion, inference, nogood}
use Rattle.dp_process.specs.Met.{is_met, kept_in}

-- the label, where there is a part
abbrev pub label_in : Option Labelled → List ℕ
label_in None = []
label_in (Some part) = part.label

-- the label of part i of constraint k
abbrev pub label_at : Csp → ℕ → ℕ → List ℕ
label_at p k i = label_in (slice_get (constraint_at (posed p) k) i)

-- what is written of a kept turn: an inference where a part of the model gives it; a nogood that gives it stands already
abbrev pub written_of : Csp → PartId → List Atomic → Option Atomic → List Step
written_of p (Model k i) premises consequent = inference p premises consequent (k + 1) (label_at p k i) ∷ []
written_of p (Nogood j) premises consequent = []

-- the inferences that are written of kept turns
abbrev pub inferences : Csp → List Kept → List Step
inferences p steps = flat_map (λ k. written_of p k.source k.premises k.consequent) steps

-- the number of the kept turn's step, after n steps; a nogood's is given by its place
abbrev pub hint_of : (ℕ → ℕ) → ℕ → PartId → ℕ
hint_of number n (Model k i) = n + 1
hint_of number n (Nogood j) = number j

-- how many steps have numbers behind it
abbrev pub after_turn : ℕ → PartId → ℕ
after_turn n (Model k i) = n + 1
after_turn n (Nogood j) = n

-- the numbers of the kept turns' steps in order, after n steps
abbrev pub hints_of : (ℕ → ℕ) → ℕ → List Kept → List ℕ
hints_of number n [] = []
hints_of number n (k ∷ steps) = hint_of number n k.source ∷ hints_of number (after_turn n k.source) steps

-- the kept turns of the nogood at the place
abbrev pub kept_at : Csp → List (List Atomic) → ℕ → List Kept
kept_at p nogoods place = kept_in (justification (posed p) nogoods place)

-- how many steps are written for the nogoods that are met below the place: each has its inferences, then itself
abbrev pub count_below : Csp → List (List Atomic) → ℕ → ℕ
count_below p nogoods zero = 0
count_below p nogoods (suc j) =
    count_below p nogoods j + (if is_met (posed p) nogoods j then length (inferences p (kept_at p nogoods j)) + 1 else 0)

-- the number of the nogood at the place: it is the last of its steps
abbrev pub number_at : Csp → List (List Atomic) → ℕ → ℕ
number_at p nogoods place = count_below p nogoods (suc place)

-- the steps that are written for the nogood at the place
abbrev pub steps_at : Csp → List (List Atomic) → ℕ → List Step
steps_at p nogoods place =
    inferences p (kept_at p nogoods place)
    ++ nogood p (nogood_at nogoods place) (hints_of (number_at p nogoods) (count_below p nogoods place) (kept_at p nogoods place)) ∷ []

-- the steps that are written for the nogoods that are met below the place
abbrev pub steps_below : Csp → List (List Atomic) → ℕ → List Step
steps_below p nogoods zero = []
steps_below p nogoods (suc j) = steps_below p nogoods j ++ (if is_met (posed p) nogoods j then steps_at p nogoods j else [])

-- the numbered steps of the log: those of all nogoods that are met, of which the conclusion's is the last
abbrev pub steps_of : Csp → Learned → List Step
steps_of p s = steps_below p s.nogoods (length s.nogoods)

-- the processed log
abbrev pub log_of : Csp → Learned → List Step
log_of p s = steps_of p s ++ conclusion p s.claim ∷ []

-- how many nogoods are met below the place
abbrev pub met_below : Csp → List (List Atomic) → ℕ → ℕ
met_below p nogoods zero = 0
met_below p nogoods (suc j) = met_below p nogoods j + (if is_met (posed p) nogoods j then 1 else 0)

-- how many nogoods are kept: those that are met, without the conclusion
abbrev pub kept_count : Csp → Learned → ℕ
kept_count p s = met_below p s.nogoods (length s.nogoods - 1)
