-- What stands behind the items is lawful.
use Rattle.fz_token.specs.declared.Keyword.TheVariants as key
use Rattle.std.proofs.Common.{refl}
use Rattle.dp_grammar.specs.Many.{Repeat, IsRepeat}
use Rattle.fz_model.specs.Annotations.{Annotated}
use Rattle.fz_model.specs.Constraints.{ConstraintWords, constraint_item}
use Rattle.fz_model.specs.Context.{Context}
use Rattle.fz_model.specs.Marks.{is_key}
use Rattle.fz_model.specs.ModelText.{GoalWords, context_of, goal, solve_item}
use Rattle.fz_model.specs.Words.{Word}
use Rattle.fz_model.specs.declared.fault.Fault.{Fault}
use Rattle.fz_model.proofs.AnnotationLaws.{IsClose}
use Rattle.fz_model.proofs.ConstraintLaws.{constraint_item_lawful}
use Rattle.fz_model.proofs.ModelLaws.{begins, goal_lawful, goal_no_open, goal_no_stop, item_lawful, rest_lawful, rest_no_item, solve_lawful}
use Rattle.fz_items.specs.Wholes.{model_parts}

-- annotations may stand before the goal
pub goal_closes : (context : Context) → IsClose (λ notes. goal context)
goal_closes context = record { lawful = λ notes. goal_lawful context; no_more = λ notes c. goal_no_stop context c; no_args = λ notes c. goal_no_open context c }

-- constraints up to the goal
abbrev pub constraints_of : Context → Repeat Word Fault ConstraintWords (Annotated GoalWords)
constraints_of context = record { goes_on = is_key key.Constraint; item = λ kept. constraint_item context kept; close = λ kept. solve_item context }

pub constraints_are : (context : Context) → IsRepeat (constraints_of context)
constraints_are context = record { item = constraint_item_lawful context; close = λ kept. solve_lawful context; begins = λ kept x. refl; ends = λ kept c. refl }

pub parts_are : IsRepeat model_parts
parts_are = record {
  item = λ kept. item_lawful (context_of kept);
  close = λ kept. rest_lawful (context_of kept);
  begins = λ kept x. begins (context_of kept) x;
  ends = λ kept c. rest_no_item (context_of kept) c;
}
