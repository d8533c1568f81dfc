-- Variables, as the code reads them.
use Rattle.std.specs.Prelude.{ℕ, Bool, ◌⊎◌, List, Option, Some, None}
use Rattle.std.proofs.Common.{inl, inr}
use Rattle.fz_token.specs.declared.Keyword.TheVariants as key
use Rattle.dp_grammar.specs.Chain.{followed, mapped}
use Rattle.dp_grammar.specs.Grammar.{Reading}
use Rattle.fz_model.specs.Context.{Context, BasicText, fresh_variable}
use Rattle.fz_model.specs.Items as grammar
use Rattle.fz_model.specs.Items.{domain_test, variable_end}
use Rattle.fz_model.specs.Limits.{beyond_small}
use Rattle.fz_model.specs.Literals.{name, var_type}
use Rattle.fz_model.specs.Marks.{keyword, stop}
use Rattle.fz_model.specs.declared.fault.Fault.{Fault}
use Rattle.fz_model.specs.Words.{Colon, Word}
use Rattle.fz_items.specs.Literals.{type_words}
use Rattle.fz_items.specs.Notes.{notes}
use Rattle.fz_items.specs.Seen.{basic_text}
use Rattle.fz_items.specs.declared.text.BasicWord.{BasicWord}
use Rattle.fz_items.specs.declared.text.VarText.{VarText}

-- the type, the name, whether it is printed, and what defines it
abbrev pub Variable : Type 0
Variable = grammar.TypeWords × (List ℕ × (Bool × (BasicText ⊎ Unit {0})))

-- 'var' vtype ':' NAME annotations ('=' basic)? ';'
abbrev pub variable_read : Context → List Word → Reading Word Fault Variable
variable_read context left =
    followed ((keyword key.Var).read left) (λ u left. followed ((var_type (domain_test context) beyond_small).read left) (λ type left.
    followed ((stop Colon).read left) (λ u left. followed ((name (fresh_variable context)).read left) (λ bytes left.
    followed (notes left) (λ seen left. mapped (λ value. let v : Variable = (type, (bytes, (seen.var, value))) in v) ((variable_end context type).read left))))))

-- ---- as the code keeps them

abbrev pub end_of : Option BasicWord → BasicText ⊎ Unit {0}
end_of None = inr tt
end_of (Some word) = inl (basic_text word)

abbrev pub variable_text : VarText → Variable
variable_text t = (type_words t.kind, (t.name.now, (t.output, end_of t.value)))
