-- What an assignment is to the model that a text spells.
use Rattle.std.specs.Prelude.{◌≡◌, ◌↔◌, ℕ, IsTrue, List, length, Result, Ok, Err, ℤ}
use Rattle.fz_model.specs.Models.{Plan, count_variables}
use Rattle.fz_items.specs.Answers.{model_text}
use Rattle.fz_items.specs.declared.refusal.ModelRefusal.{ModelRefusal}
use Rattle.fz_items.specs.declared.refusal.ModelRefusal.TheVariants.{Memory}
use Rattle.fz_sat.specs.Satisfies.{Satisfies, objective_of, valuation}
use Rattle.dp_vectors.specs.declared.judgement.Judgement.{Judgement}
use Rattle.dp_vectors.specs.declared.judgement.Judgement.TheVariants.{WrongCount, Judged}

-- there is a value for each variable, and it is said whether they satisfy the model, and what its objective is; or there
-- is another number of values than of variables
abbrev pub Judges : Plan → List ℤ → Judgement → Type 0
Judges m values (WrongCount count) = (count ≡ count_variables m.items) × (¬ (length values ≡ count))
Judges m values (Judged satisfied objective) =
    (length values ≡ count_variables m.items) × (IsTrue satisfied ↔ Satisfies m (valuation values)) × (objective ≡ objective_of m (valuation values))

-- the same of the model that the text spells, or the text's first refusal; of want of memory nothing is said
abbrev pub JudgesText : List ℕ → List ℤ → Result Judgement ModelRefusal → Type 0
JudgesText text values (Ok judgement) = (m : Plan) × (model_text text ≡ Ok m) × Judges m values judgement
JudgesText text values (Err Memory) = Unit {0}
JudgesText text values (Err refusal) = model_text text ≡ Err refusal
