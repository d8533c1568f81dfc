-- All that a desk tells.
use Rattle.std.specs.Prelude.{Option, IfSome}
use Rattle.dp_desk.specs.Channel.{Channel, Files, IsNotHidden}
use Rattle.dp_desk.specs.declared.desk.In.{In}
use Rattle.dp_desk.specs.declared.desk.In.TheVariants.{Model, Log}
use Rattle.dp_desk.specs.declared.desk.Out.{Out}
use Rattle.dp_desk.specs.declared.desk.Out.TheVariants.{Answer, First, Second}

-- what the names hold, where that is told, and each input and output
pub record Sight : Type 0 where
  pub names : Option Files
  pub model : Channel
  pub log : Channel
  pub answer : Channel
  pub first : Channel
  pub second : Channel

-- an input of the desk
abbrev pub input : In → Sight → Channel
input Model sight = sight.model
input Log sight = sight.log

-- an output of the desk
abbrev pub output : Out → Sight → Channel
output Answer sight = sight.answer
output First sight = sight.first
output Second sight = sight.second

-- the same but for one input
abbrev pub with_input : In → Channel → Sight → Sight
with_input Model now sight = record sight { model = now }
with_input Log now sight = record sight { log = now }

-- the same but for one output
abbrev pub with_output : Out → Channel → Sight → Sight
with_output Answer now sight = record sight { answer = now }
with_output First now sight = record sight { first = now }
with_output Second now sight = record sight { second = now }

-- a desk that tells what its names hold tells what is left of each opened input
abbrev pub TellsInputs : Sight → Type 0
TellsInputs sight = IfSome sight.names (λ files. IsNotHidden sight.model × IsNotHidden sight.log)
