-- What the parts of a desk in memory stand for.
use Rattle.std.specs.Prelude.{◌≡◌, ℕ, min, List, [], Option, Some, None, option_map, unwrap_or, slice_get, drop, vec_capacity}
use Rattle.dp_desk.specs.Channel.{Channel, Shut, Hidden, Shown, Grows}
use Rattle.dp_desk.specs.Stored.{Stored, shown_bytes}
use Rattle.dp_desk.specs.declared.storage.Place.{Place}
use Rattle.dp_desk.specs.declared.sheet.Sheet.{Sheet}
use Rattle.dp_desk.specs.declared.sheet.State.{State}
use Rattle.dp_desk.specs.declared.sheet.State.TheVariants as state
use Rattle.dp_desk.specs.declared.store.Store.{Store}

-- the bytes of the file at a place in the list
abbrev pub bytes_at : List (List ℕ × List ℕ) → ℕ → List ℕ
bytes_at files at = unwrap_or (option_map (λ file. file.1) (slice_get files at)) []

-- the bytes of a file from a place on
abbrev pub left_at : List (List ℕ × List ℕ) → Option Place → Option (List ℕ)
left_at files None = None
left_at files (Some place) = Some (drop place.at (bytes_at files place.file))

-- the bytes of a file from a place on, none where there is no place
abbrev pub left_bytes : List (List ℕ × List ℕ) → Option Place → List ℕ
left_bytes files place = unwrap_or (left_at files place) []

-- an output in this state, to which these bytes were written
abbrev pub channel_in : State → List ℕ → Channel
channel_in state.Shut bytes = Shut
channel_in state.Lost bytes = Hidden
channel_in state.Kept bytes = Shown bytes

-- what a sheet tells
abbrev pub channel_of : Sheet → Channel
channel_of sheet = channel_in sheet.state sheet.bytes.items

-- a sheet that was opened grew; another stayed as it was
abbrev pub GrowsIfOpen : Channel → Channel → List ℕ → Type 0
GrowsIfOpen Shut now bytes = now ≡ Shut
GrowsIfOpen Hidden now bytes = Grows Hidden now bytes
GrowsIfOpen (Shown was) now bytes = Grows (Shown was) now bytes

-- what a store holds
abbrev pub stored_of : Store → Stored
stored_of store = record {
  files = store.files.items;
  model = left_at store.files.items store.model;
  log = left_at store.files.items store.log;
  answer = shown_bytes (channel_of store.answer);
  first = channel_of store.first;
  second = channel_of store.second;
}

-- for how many bytes each output has memory
abbrev pub room_of : Store → ℕ
room_of store = min (vec_capacity store.answer.bytes) (min (vec_capacity store.first.bytes) (vec_capacity store.second.bytes))
