-- What a production of the code answers.
use Rattle.std.specs.Prelude.{◌≡◌, List, Option, Some, None, Result, Ok, Err}
use Rattle.dp_grammar.specs.Grammar as grammar
use Rattle.dp_grammar.specs.Grammar.{Reading, Takes, Stops}
use Rattle.fz_model.specs.Marks.{Production}
use Rattle.fz_model.specs.declared.fault.Fault.{Fault}
use Rattle.fz_model.specs.Words.{Word}
use Rattle.fz_items.specs.Standing.{behind}
use Rattle.fz_items.specs.declared.stop.Cause.{Cause}
use Rattle.fz_items.specs.declared.stop.Cause.TheVariants.{Syntax, Test}
use Rattle.fz_items.specs.declared.stop.Stop.{Stop}
use Rattle.fz_items.specs.declared.stop.Stop.TheVariants.{Refused, Memory}

-- a cause, in the words of the grammar
abbrev pub cause_of : Cause → grammar.Cause Fault
cause_of Syntax = grammar.Syntax
cause_of (Test fault) = grammar.Test fault

-- the answer and the words that are left, as a reading
abbrev pub given : {X Y : Type 0} → (Y → X) → Result Y Cause → List Word → Reading Word Fault X
given view (Ok y) rest = Takes (view y) rest
given view (Err cause) rest = Stops (cause_of cause) rest

-- the same, where memory may be wanting; of that nothing is said
abbrev pub Gives : {X Y : Type 0} → (Y → X) → Reading Word Fault X → Result Y Stop → List Word → Type 0
Gives view reading (Ok y) rest = reading ≡ Takes (view y) rest
Gives view reading (Err (Refused cause)) rest = reading ≡ Stops (cause_of cause) rest
Gives view reading (Err Memory) rest = Unit {0}

-- this of the cause of a refusal
abbrev pub IfRefused : Stop → (Cause → Type 0) → Type 0
IfRefused (Refused cause) P = P cause
IfRefused Memory P = Unit {0}

-- ---- a first word that a test may yet refuse

-- the first word passes its test, or is refused
abbrev pub tested_at : {X : Type 0} → Option Fault → X → List Word → Reading Word Fault X
tested_at None x left = Takes x (behind left)
tested_at (Some fault) x left = Stops (grammar.Test fault) left

-- the first word has this value, of which a test sees a part; or no production of the kind has it
abbrev pub IsHere : {X K Y : Type 0} → (Y → X) → (X → K) → ((K → Option Fault) → Production X) → List Word → Result Y Cause → Type 0
IsHere {X} {K} {Y} view part production left (Ok y) = (test : K → Option Fault) → (production test).read left ≡ tested_at (test (part (view y))) (view y) left
IsHere {X} {K} {Y} view part production left (Err cause) = (test : K → Option Fault) → (production test).read left ≡ Stops (cause_of cause) left
