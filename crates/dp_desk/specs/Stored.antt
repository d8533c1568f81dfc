-- What a desk in memory holds: its files, its inputs and its outputs.
use Rattle.std.specs.Prelude.{ℕ, List, [], Option, Some, None, option_map, unwrap_or, find, drop, bytes_eq}
use Rattle.dp_desk.specs.Channel.{Channel, Shut, Hidden, Shown, Files}
use Rattle.dp_desk.specs.Sight.{Sight}
use Rattle.dp_desk.specs.declared.desk.In.{In}
use Rattle.dp_desk.specs.declared.desk.In.TheVariants.{Model, Log}
use Rattle.dp_desk.specs.declared.desk.Out.{Out}
use Rattle.dp_desk.specs.declared.desk.Out.TheVariants.{Answer, First, Second}

-- the names with their bytes; the bytes left of each opened input; the bytes written of the answer, where they are
-- told; the other outputs
pub record Stored : Type 0 where
  pub files : List (List ℕ × List ℕ)
  pub model : Option (List ℕ)
  pub log : Option (List ℕ)
  pub answer : Option (List ℕ)
  pub first : Channel
  pub second : Channel

-- what a name holds: the bytes of the first file of that name
abbrev pub held : List (List ℕ × List ℕ) → Files
held files name = option_map (λ file. file.1) (find (λ file. bytes_eq file.0 name) files)

-- an input: opened with these bytes left, or not opened
abbrev pub opened_input : Option (List ℕ) → Channel
opened_input None = Shut
opened_input (Some left) = Shown left

-- an output that is open: told with these bytes written, or not told
abbrev pub open_output : Option (List ℕ) → Channel
open_output None = Hidden
open_output (Some bytes) = Shown bytes

-- what is told of an output
abbrev pub output_of : Out → Stored → Channel
output_of Answer stored = open_output stored.answer
output_of First stored = stored.first
output_of Second stored = stored.second

-- what a desk tells that has it, where names hold this of the files
abbrev pub sight_of : (List (List ℕ × List ℕ) → Files) → Stored → Sight
sight_of names stored = record {
  names = Some (names stored.files);
  model = opened_input stored.model;
  log = opened_input stored.log;
  answer = open_output stored.answer;
  first = stored.first;
  second = stored.second;
}

-- the bytes left of an input
abbrev pub bytes_left : In → Stored → List ℕ
bytes_left Model stored = unwrap_or stored.model []
bytes_left Log stored = unwrap_or stored.log []

-- the same with an input opened that has these bytes
abbrev pub with_input_opened : In → List ℕ → Stored → Stored
with_input_opened Model bytes stored = record stored { model = Some bytes }
with_input_opened Log bytes stored = record stored { log = Some bytes }

-- the same after so many bytes were taken of an input
abbrev pub taken : ℕ → In → Stored → Stored
taken count Model stored = record stored { model = option_map (λ left. drop count left) stored.model }
taken count Log stored = record stored { log = option_map (λ left. drop count left) stored.log }

-- the bytes that are told of an output
abbrev pub shown_bytes : Channel → Option (List ℕ)
shown_bytes (Shown bytes) = Some bytes
shown_bytes _ = None

-- the bytes written of an output, where they are told
abbrev pub written_to : Out → Stored → Option (List ℕ)
written_to Answer stored = stored.answer
written_to First stored = shown_bytes stored.first
written_to Second stored = shown_bytes stored.second

-- the same with these bytes written of an output, or not told
abbrev pub with_written : Out → Option (List ℕ) → Stored → Stored
with_written Answer written stored = record stored { answer = written }
with_written First written stored = record stored { first = open_output written }
with_written Second written stored = record stored { second = open_output written }

-- these files, of which none was opened; the answer is empty
abbrev pub unopened : List (List ℕ × List ℕ) → Stored
unopened files = record {
  files = files;
  model = None;
  log = None;
  answer = Some [];
  first = Shut;
  second = Shut;
}
