-- What an answer of a reader's call says beside want of memory.
use Rattle.std.specs.Prelude.{Result, Ok, Err}
use Rattle.dp_lines.specs.declared.refusal.LineFault.{LineFault}
use Rattle.dp_lines.specs.declared.refusal.LineFault.TheVariants.{Refused, Memory}

-- the fact holds where memory did not run out
abbrev pub UnlessMemory : {A : Type 0} → Result A LineFault → Type 0 → Type 0
UnlessMemory (Ok x) fact = fact
UnlessMemory (Err (Refused refusal)) fact = fact
UnlessMemory (Err Memory) fact = Unit {0}

-- the fact holds where it did
abbrev pub IfMemory : {A : Type 0} → Result A LineFault → Type 0 → Type 0
IfMemory (Ok x) fact = Unit {0}
IfMemory (Err (Refused refusal)) fact = Unit {0}
IfMemory (Err Memory) fact = fact
