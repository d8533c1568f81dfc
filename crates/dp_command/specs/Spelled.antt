-- Models and their refusals by what their bytes spell, in words that know nothing of reading.
use Rattle.std.specs.Prelude.{◌≡◌, ℕ, Option, Some, List}
use Rattle.dp_desk.specs.Channel.{Files}
use Rattle.fz_items.specs.Spelling.{IsTextOf, RefusesFirst}
use Rattle.fz_items.specs.declared.refusal.ModelRefusal.{ModelRefusal}
use Rattle.fz_model.specs.Models.{Plan}
use Rattle.dp_command.specs.Inputs.{IsRead}
use Rattle.dp_command.specs.Replies.{model_of, most_of_model}
use Rattle.dp_command.specs.Words.{Request, Spells}

-- the bytes that are read of the model of this name spell this model, and are no more than a model may have
pub record IsSpelled (names : Option Files) (model : List ℕ) (m : Plan) : Type 0 where
  pub text : List ℕ
  pub read : IsRead most_of_model names model text
  pub spells : IsTextOf text m

-- the words ask for a model, and this is the first thing that refuses the bytes that are read of it
pub record IsRefusedFirst (names : Option Files) (words : List (List ℕ)) (refusal : ModelRefusal) : Type 0 where
  pub request : Request
  pub asked : Spells request words
  pub model : List ℕ
  pub named : model_of request ≡ Some model
  pub text : List ℕ
  pub read : IsRead most_of_model names model text
  pub first : RefusesFirst text refusal
