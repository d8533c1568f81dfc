-- A text spelled anew.
use Rattle.std.specs.Prelude.{◌≡◌, ℕ, List, Result, Ok, Err}
use Rattle.fz_model.specs.Models.{Plan}
use Rattle.fz_items.specs.Answers.{model_text}
use Rattle.fz_items.specs.declared.refusal.ModelRefusal.{ModelRefusal}
use Rattle.fz_items.specs.declared.refusal.ModelRefusal.TheVariants.{Memory}
use Rattle.fz_print.specs.Printed.{printed}

-- the canonical spelling of the model that was read, or the refusal
abbrev pub spelled_anew : Result Plan ModelRefusal → Result (List ℕ) ModelRefusal
spelled_anew (Ok m) = Ok (printed m)
spelled_anew (Err refusal) = Err refusal

-- the canonical spelling of the model that the text spells, or the text's first refusal
abbrev pub reprinted : List ℕ → Result (List ℕ) ModelRefusal
reprinted text = spelled_anew (model_text text)

-- a call gives the text of an answer, or its refusal; of want of memory nothing is said
abbrev pub Gives : Result (List ℕ) ModelRefusal → Result (List ℕ) ModelRefusal → Type 0
Gives answer (Ok text) = answer ≡ Ok text
Gives answer (Err Memory) = Unit {0}
Gives answer (Err refusal) = answer ≡ Err refusal
