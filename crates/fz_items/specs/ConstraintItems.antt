-- Constraint items, as the code reads them.
use Rattle.std.specs.Prelude.{ℕ, nat_le, is_none, List, map, Option}
use Rattle.fz_token.specs.declared.Keyword.TheVariants as key
use Rattle.dp_grammar.specs.Brackets.{Plain}
use Rattle.dp_grammar.specs.Chain.{chain, behind_mark, mapped}
use Rattle.dp_grammar.specs.Grammar.{Reading}
use Rattle.dp_grammar.specs.Leaf.{tested_mark}
use Rattle.fz_model.specs.Annotations.{Annotated, annotated}
use Rattle.fz_model.specs.Constraints.{ArgWords, ConstraintWords, arguments, behind, kind_named}
use Rattle.fz_model.specs.Context.{Context}
use Rattle.fz_model.specs.Limits.{max_constraints, refuse_if}
use Rattle.fz_model.specs.Literals.{name}
use Rattle.fz_model.specs.Marks.{Production, is_key, stop}
use Rattle.fz_model.specs.Table.{constraint_of}
use Rattle.fz_model.specs.Words.{Semicolon, Word, Key}
use Rattle.fz_model.specs.declared.fault.Fault.{Fault}
use Rattle.fz_model.specs.declared.fault.Fault.TheVariants.{Unsupported, Limit}
use Rattle.fz_model.specs.declared.model.Constraint.{Constraint}
use Rattle.fz_items.specs.Arguments.{arg_words}
use Rattle.fz_items.specs.Places.{expr_in, names_in}
use Rattle.fz_items.specs.declared.constraint.ConstraintWords as code

-- where there are so many constraints already
abbrev pub too_many : ℕ → Option Fault
too_many count = refuse_if (nat_le max_constraints count) Limit

-- a name of no constraint
abbrev pub no_constraint : List ℕ → Option Fault
no_constraint bytes = refuse_if (is_none (constraint_of bytes)) Unsupported

-- annotations and the `;` that ends an item
abbrev pub item_end : Production (Annotated (Unit {0}))
item_end = annotated (λ notes. stop Semicolon)

-- a constraint behind so many others, whose elements the context counts
abbrev pub constraint_behind : Context → ℕ → Production ConstraintWords
constraint_behind context count =
    behind_mark (tested_mark (is_key key.Constraint) (Plain (Key key.Constraint)) (too_many count))
    (chain (name no_constraint) (λ bytes. chain (arguments context (kind_named bytes)) (λ args. item_end)))

-- ---- values

-- the name and the arguments
abbrev pub named_args : ConstraintWords → List ℕ × List ArgWords
named_args c = (c.0, c.1.0)

abbrev pub words_of : code.ConstraintWords → List ℕ × List ArgWords
words_of c = (c.name.now, map arg_words c.args.items)

-- the constraint of a name and arguments, and the context behind it
abbrev pub told : Context → List ℕ × List ArgWords → Constraint × Context
told context p = (record { name = p.0; args = map (expr_in (names_in context)) p.1 }, behind context p.1)

-- what is kept of a constraint
abbrev pub told_of : Context → Reading Word Fault ConstraintWords → Reading Word Fault (Constraint × Context)
told_of context reading = mapped (λ c. told context (named_args c)) reading
