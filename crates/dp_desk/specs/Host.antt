-- The desk of the machine, which tells only what was opened.
use Rattle.std.specs.Prelude.{ℕ, Bool, true, false, None}
use Rattle.dp_desk.specs.Channel.{Channel, Shut, Hidden}
use Rattle.dp_desk.specs.Sight.{Sight}

-- which of its streams were opened beside the answer, and how often it has failed
pub record Host : Type 0 where
  pub model : Bool
  pub log : Bool
  pub first : Bool
  pub second : Bool
  pub faults_in : ℕ
  pub faults_out : ℕ

-- a stream that was opened or not, and whose bytes are not told
abbrev pub stream : Bool → Channel
stream true = Hidden
stream false = Shut

-- what it tells
abbrev pub host_sight : Host → Sight
host_sight desk = record {
  names = None;
  model = stream desk.model;
  log = stream desk.log;
  answer = Hidden;
  first = stream desk.first;
  second = stream desk.second;
}

-- a new one: only the answer is open
abbrev pub idle : Host
idle = record {
  model = false;
  log = false;
  first = false;
  second = false;
  faults_in = 0;
  faults_out = 0;
}
