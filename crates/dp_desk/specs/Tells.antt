-- What holds of all that a desk in memory tells.
use Rattle.std.specs.Prelude.{ℕ, List, Option, Some, None}
use Rattle.dp_desk.specs.Channel.{Files, IsNotHidden, IsOpen}
use Rattle.dp_desk.specs.Sight.{TellsInputs}
use Rattle.dp_desk.specs.Stored.{Stored, sight_of, opened_input, open_output}

input_told : (left : Option (List ℕ)) → IsNotHidden (opened_input left)
input_told None = tt
input_told (Some bytes) = tt

pub stored_tells_inputs : (names : List (List ℕ × List ℕ) → Files) (stored : Stored) → TellsInputs (sight_of names stored)
stored_tells_inputs names stored = (input_told stored.model, input_told stored.log)

always_open : (written : Option (List ℕ)) → IsOpen (open_output written)
always_open None = tt
always_open (Some bytes) = tt

pub stored_answer_open : (names : List (List ℕ × List ℕ) → Files) (stored : Stored) → IsOpen (sight_of names stored).answer
stored_answer_open names stored = always_open stored.answer
