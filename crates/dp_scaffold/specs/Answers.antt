-- What the calls of the gatherer answer, and what stands after them.
use Rattle.std.specs.Prelude.{◌≡◌, Option, Some, None, Result, Ok, Err, IsOk}
use Rattle.dp_parts.specs.Problems.{Csp}
use Rattle.dp_scaffold.specs.Gathering.{Gathered}
use Rattle.dp_scaffold.specs.declared.facts.Facts.{Facts}
use Rattle.dp_scaffold.specs.declared.fault.GatherFault.{GatherFault}
use Rattle.dp_scaffold.specs.declared.fault.GatherFault.TheVariants.{Refused, Memory}
use Rattle.dp_scaffold.specs.declared.refusal.ScaffoldRefusal.{ScaffoldRefusal}

-- a problem, and what the lines so far say, or the first refusal
pub record Standing : Type 0 where
  pub problem : Csp
  pub progress : Result Gathered ScaffoldRefusal

-- what the kept atoms, numbers, nogoods and claim say
abbrev pub gathered_of : Facts → Gathered
gathered_of f = record {
  atoms = f.atoms.entries;
  steps = f.steps.keys;
  literals = f.literals;
  nogoods = f.nogoods.items;
  lines = f.lines.items;
  ids = f.ids.items;
  claim = f.claim;
}

-- the refusal, or what is said where there is none
abbrev pub progress_of : Option ScaffoldRefusal → Gathered → Result Gathered ScaffoldRefusal
progress_of None gathered = Ok gathered
progress_of (Some refusal) gathered = Err refusal

-- the fact holds, unless memory was wanting
abbrev pub UnlessMemory : {T : Type 0} → Result T GatherFault → Type 0 → Type 0
UnlessMemory (Ok x) P = P
UnlessMemory (Err (Refused refusal)) P = P
UnlessMemory (Err Memory) P = Unit {0}

-- the fact holds, where memory was wanting
abbrev pub IfMemory : {T : Type 0} → Result T GatherFault → Type 0 → Type 0
IfMemory (Ok x) P = Unit {0}
IfMemory (Err (Refused refusal)) P = Unit {0}
IfMemory (Err Memory) P = P

-- the answer tells what stands: no refusal, or this one
abbrev pub Tells : {T : Type 0} → Result T GatherFault → Result Gathered ScaffoldRefusal → Type 0
Tells (Ok x) progress = IsOk progress
Tells (Err (Refused refusal)) progress = progress ≡ Err refusal
Tells (Err Memory) progress = Unit {0}
