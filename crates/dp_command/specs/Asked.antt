-- What a command of the code asks for.
use Rattle.dp_command.specs.Words.{Request}
use Rattle.dp_command.specs.Words as request
use Rattle.dp_command.specs.declared.words.Command.{Command}
use Rattle.dp_command.specs.declared.words.Command.TheVariants.{Check, Show, Process, Solve, Prove, Gen}

-- the command with the names that it holds
abbrev pub asked : Command → Request
asked (Check model log) = request.Check model.now log.now
asked (Show log) = request.Show log.now
asked (Process model scaffold out workers) = request.Process model.now scaffold.now out.now workers
asked (Solve model out conflicts) = request.Solve model.now out.now conflicts
asked (Prove model workers conflicts) = request.Prove model.now workers conflicts
asked (Gen n model scaffold) = request.Gen n model.now scaffold.now
