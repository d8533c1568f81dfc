-- The items of a model, as they are read.
use Rattle.std.specs.Prelude.{◌≡◌, false, List, Result, Ok, Err}
use Rattle.dp_grammar.specs.Choice.{begins}
use Rattle.dp_grammar.specs.Grammar.{Stops}
use Rattle.dp_grammar.specs.Many.{Repeat}
use Rattle.dp_grammar.proofs.Loops.{with_front, behind_items}
use Rattle.fz_model.specs.Context.{Context}
use Rattle.fz_model.specs.ModelText.{ItemWords, Rest, begins_item, context_of, item, model, rest_of}
use Rattle.fz_model.specs.Models.{Plan, items_of}
use Rattle.fz_model.specs.Words.{Word}
use Rattle.fz_model.specs.declared.fault.Fault.{Fault}
use Rattle.fz_model.specs.declared.model.Item.{Item}
use Rattle.fz_items.specs.Gives.{cause_of}
use Rattle.fz_items.specs.States.{State}
use Rattle.fz_items.specs.declared.stop.Stop.{Stop}
use Rattle.fz_items.specs.declared.stop.Stop.TheVariants.{Refused, Memory}
use Rattle.fz_items.specs.declared.whole.Parts.{Parts}

-- items up to the constraints and the goal
abbrev pub model_parts : Repeat Word Fault ItemWords Rest
model_parts = record { goes_on = begins_item; item = λ kept. item (context_of kept); close = λ kept. rest_of (context_of kept) }

-- these items stand before what is read behind them, and declare what the context says
pub record HasItems (text : List Word) (context : Context) (items : List Item) (left : List Word) : Type 0 where
  pub kept : List ItemWords
  pub so_far : with_front kept (behind_items model_parts kept left) ≡ model.read text
  pub context_is : context ≡ context_of kept
  pub items_are : items ≡ items_of kept

-- what the items are read as, and the context and items behind them
abbrev pub ItemsRead : List Word → Result State Stop → List Word → Type 0
ItemsRead text (Ok state) left = HasItems text state.context state.items left × (begins begins_item left ≡ false)
ItemsRead text (Err (Refused cause)) left = model.read text ≡ Stops (cause_of cause) left
ItemsRead text (Err Memory) left = Unit {0}

-- the parts of a model
abbrev pub plan_of : Parts → Plan
plan_of parts = record { items = parts.items.items; constraints = parts.constraints.items; goal = parts.goal }
