-- The law of the model's text, for the text that is read.
use Rattle.std.specs.Prelude.{◌≡◌, ◌↔◌, ℕ, List, Option, Ok, Err}
use Rattle.dp_desk.specs.Channel.{Files}
use Rattle.fz_items.specs.Answers.{model_text}
use Rattle.fz_items.specs.Spelling.{IsTextOf, RefusesFirst}
use Rattle.fz_items.specs.declared.refusal.ModelRefusal.{ModelRefusal}
use Rattle.fz_model.specs.Models.{Plan}
use Rattle.dp_command.proofs.laws.models_are_spelled.Goals as goal
use Rattle.dp_command.specs.Replies.{IsGiven, RefusesModel}
use Rattle.dp_command.specs.Spelled.{IsRefusedFirst, IsSpelled}

-- what a text is read as, and what refuses it
abbrev Read : Type 0
Read = (text : List ℕ) (m : Plan) → (model_text text ≡ Ok m) ↔ IsTextOf text m

abbrev Refused : Type 0
Refused = (text : List ℕ) (refusal : ModelRefusal) → (model_text text ≡ Err refusal) ↔ RefusesFirst text refusal

spelled : Read → (names : Option Files) (model : List ℕ) (m : Plan) → IsGiven names model m → IsSpelled names model m
spelled law names model m h = record { text = h.text; read = h.read; spells = (law h.text m).0 h.spelled }

given : Read → (names : Option Files) (model : List ℕ) (m : Plan) → IsSpelled names model m → IsGiven names model m
given law names model m h = record { text = h.text; read = h.read; spelled = (law h.text m).1 h.spells }

first : Refused → (names : Option Files) (words : List (List ℕ)) (refusal : ModelRefusal) → RefusesModel names words refusal → IsRefusedFirst names words refusal
first law names words refusal h = record {
  request = h.request;
  asked = h.asked;
  model = h.model;
  named = h.named;
  text = h.text;
  read = h.read;
  first = (law h.text refusal).0 h.refused;
}

refused : Refused → (names : Option Files) (words : List (List ℕ)) (refusal : ModelRefusal) → IsRefusedFirst names words refusal → RefusesModel names words refusal
refused law names words refusal h = record {
  request = h.request;
  asked = h.asked;
  model = h.model;
  named = h.named;
  text = h.text;
  read = h.read;
  refused = (law h.text refusal).1 h.first;
}

pub returns-clause-given : goal.returns-clause-given
returns-clause-given c = λ names model m. (spelled c.exactness.ensures.read names model m, given c.exactness.ensures.read names model m)

pub returns-clause-refused : goal.returns-clause-refused
returns-clause-refused c = λ names words refusal. (first c.exactness.ensures.refused names words refusal, refused c.exactness.ensures.refused names words refusal)
