-- What is read, with the places of what it names in place of the names.
use Rattle.std.specs.Prelude.{ℕ, List, map, bytes_eq, unwrap_or}
use Rattle.std.specs.List.{position}
use Rattle.std.proofs.Common.{inl, inr}
use Rattle.fz_model.specs.Constraints.{ArgWords, ConstraintWords, arg_basic}
use Rattle.fz_model.specs.Context.{BasicText, Context, Truth, Whole, Name}
use Rattle.fz_model.specs.declared.model.Basic.{Basic}
use Rattle.fz_model.specs.declared.model.Basic.TheVariants as basic
use Rattle.fz_model.specs.declared.model.Constraint.{Constraint}
use Rattle.fz_model.specs.declared.model.Expr.{Expr}
use Rattle.fz_model.specs.declared.model.Expr.TheVariants as expr
use Rattle.fz_model.specs.declared.model.SetText.TheVariants as set

-- the names that are declared
abbrev pub names_in : Context → List (List ℕ)
names_in context = map (λ e. e.0) context.entries

-- the place of the name among these
abbrev pub place_in : List (List ℕ) → List ℕ → ℕ
place_in names name = unwrap_or (position (bytes_eq name) names) 0

abbrev pub basic_in : List (List ℕ) → BasicText → Basic
basic_in names (Truth value) = basic.Bool value
basic_in names (Whole value dotted) = basic.Int value
basic_in names (Name bytes) = basic.Item (place_in names bytes)

abbrev pub expr_in : List (List ℕ) → ArgWords → Expr
expr_in names (inl numbers) = expr.Set (set.List (map (λ n. n.0) numbers))
expr_in names (inr (inl elements)) = expr.Array (map (basic_in names) elements)
expr_in names (inr (inr (inl bounds))) = expr.Set (set.Range bounds.0 bounds.1.0)
expr_in names (inr (inr (inr text))) = expr.Basic (basic_in names (arg_basic text))

abbrev pub constraint_in : List (List ℕ) → ConstraintWords → Constraint
constraint_in names c = record { name = c.0; args = map (expr_in names) c.1.0 }
