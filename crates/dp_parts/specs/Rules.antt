-- The three rules by which a log's steps and its conclusion hold.
use Rattle.std.specs.Prelude.{ℕ, ◌+◌, Bool, true, not, ◌&&◌, ◌||◌, Option, Some, None, List, [], ◌∷◌, filter, ℤ}
use Rattle.std.specs.List.{list_any}
use Rattle.std.specs.Str.{bytes_eq}
use Rattle.dp_domain.specs.Atoms.{Atomic}
use Rattle.dp_domain.specs.declared.atom.Op.TheVariants.{Eq}
use Rattle.dp_domain.specs.States.{Domains, cut, entails_all, is_dead}
use Rattle.dp_parts.specs.Posed.{Labelled}

-- whether a label is not given, or is the part's
abbrev pub is_labelled : Option (List ℕ) → Labelled → Bool
is_labelled None part = true
is_labelled (Some label) part = bytes_eq label part.label

-- an inference holds where its start state is empty, or a part with the label, if one is given,
-- clashes there
abbrev pub implies : Domains → List Labelled → Option (List ℕ) → Bool
implies start parts label = is_dead start || list_any (λ part. is_labelled label part && part.face.test start) parts

-- for each variable the values that may be kept
abbrev pub keep_where : (ℕ → ℤ → Bool) → Domains → Domains
keep_where keep [] = []
keep_where keep (xs ∷ d) = filter (keep 0) xs ∷ keep_where (λ x. keep (x + 1)) d

-- the variable is the number
abbrev pub is : ℕ → ℤ → Atomic
is x v = record { var = x; op = Eq; value = v }

-- a hint takes away each value with which the state would entail all of the hint's denial
abbrev pub cut_hint : Domains → List Atomic → Domains
cut_hint d denial = keep_where (λ x v. not (entails_all (cut d (is x v)) denial)) d

-- a nogood is proved where the state, cut hint by hint, becomes empty or entails a hint's whole denial
abbrev pub proves : Domains → List (List Atomic) → Bool
proves d [] = is_dead d
proves d (denial ∷ hints) = is_dead d || entails_all d denial || proves (cut_hint d denial) hints

-- a conclusion holds where its start state is empty, or entails a step's whole denial
abbrev pub concludes : Domains → List (ℕ × List Atomic) → Bool
concludes start steps = is_dead start || list_any (λ step. entails_all start step.1) steps
