-- What the calls of the checker answer, and what stands after them.
use Rattle.std.specs.Prelude.{◌≡◌, Option, Some, None, Result, Ok, Err, IsOk}
use Rattle.dp_parts.specs.Problems.{Csp}
use Rattle.dp_checker.specs.Known.{Known}
use Rattle.dp_checker.specs.declared.facts.Facts.{Facts}
use Rattle.dp_checker.specs.declared.fault.CheckFault.{CheckFault}
use Rattle.dp_checker.specs.declared.fault.CheckFault.TheVariants.{Refused, Memory}
use Rattle.dp_checker.specs.declared.fault.Fault.{Fault}
use Rattle.dp_checker.specs.declared.fault.Fault.TheVariants.{Refused as refused, Memory as memory}
use Rattle.dp_checker.specs.declared.refusal.StepRefusal.{StepRefusal}
use Rattle.dp_checker.specs.declared.refusal.Why.{Why}

-- a problem, and what the lines so far have made known of it, or the first refusal
pub record Checking : Type 0 where
  pub problem : Csp
  pub progress : Result Known StepRefusal

-- what the kept atoms, denials and conclusion say
abbrev pub known_of : Facts → Known
known_of f = record { atoms = f.atoms.entries; steps = f.steps; conclusion = f.conclusion }

-- the refusal, or what is known where there is none
abbrev pub progress_of : Option StepRefusal → Known → Result Known StepRefusal
progress_of None known = Ok known
progress_of (Some refusal) known = Err refusal

-- the fact holds, unless memory was wanting
abbrev pub UnlessMemory : {T : Type 0} → Result T CheckFault → Type 0 → Type 0
UnlessMemory (Ok x) P = P
UnlessMemory (Err (Refused refusal)) P = P
UnlessMemory (Err Memory) P = Unit {0}

-- the fact holds, where memory was wanting
abbrev pub IfMemory : {T : Type 0} → Result T CheckFault → Type 0 → Type 0
IfMemory (Ok x) P = Unit {0}
IfMemory (Err (Refused refusal)) P = Unit {0}
IfMemory (Err Memory) P = P

-- the answer tells what stands: no refusal, or this one
abbrev pub Tells : {T : Type 0} → Result T CheckFault → Result Known StepRefusal → Type 0
Tells (Ok x) progress = IsOk progress
Tells (Err (Refused refusal)) progress = progress ≡ Err refusal
Tells (Err Memory) progress = Unit {0}

-- the test that refused has the property
abbrev pub IfRefused : {T : Type 0} → Result T Fault → (Why → Type 0) → Type 0
IfRefused (Ok x) P = Unit {0}
IfRefused (Err (refused why)) P = P why
IfRefused (Err memory) P = Unit {0}
