-- The solutions of a model's problem are the assignments that satisfy the model.
use Rattle.std.proofs.Common.{ℕ, ◌<◌, List, [], ◌∷◌, map, Option, Some, None, ℤ}
use Rattle.std.specs.Prelude.{◌↔◌, MatchOption}
use Rattle.std.specs.Option.{option_map_or}
use Rattle.dp_base.specs.Lists.{Each}
use Rattle.dp_domain.specs.Sets.{IsSmall}
use Rattle.dp_domain.specs.declared.term.Term.{Term}
use Rattle.dp_domain.specs.declared.term.Term.TheVariants.{Var, Const}
use Rattle.dp_parts.specs.Problems.{IsSolution}
use Rattle.fz_model.specs.Models.{Plan, count_variables}
use Rattle.fz_model.specs.Table.{args_of, constraint_of}
use Rattle.fz_model.specs.declared.kinds.ConstraintKind.{ConstraintKind}
use Rattle.fz_model.specs.declared.kinds.ConstraintKind.TheVariants as of
use Rattle.fz_model.specs.declared.model.Constraint.{Constraint}
use Rattle.fz_model.specs.declared.model.Expr.{Expr}
use Rattle.fz_model.specs.declared.model.Item.{Item}
use Rattle.fz_sat.specs.Args.{arg_term}
use Rattle.fz_sat.specs.Meaning.{Meaning, given}
use Rattle.fz_sat.specs.Satisfies.{IsMet, Satisfies}
use Rattle.fz_facts.specs.Facts.{AreFit, IsFitted, IsIntTerm, IsWellFormed}
use Rattle.dp_lower.specs.Problem.{parts_of, problem_of}
use Rattle.dp_lower.specs.Recipe.{args_in, recipe}
use Rattle.dp_lower.proofs.DomainLaws.{AreDeclared, kept_within, small_within, within_kept}
use Rattle.dp_lower.proofs.RecipeLaws.{IsSmallAt, Rests, recipe_means}
use Rattle.dp_lower.proofs.SideLaws.{AreMet}

-- ---- one constraint

-- a variable of the model is within ±10^9
small_at : (s : ℕ → ℤ) (items : List Item) (t : Term) → ((x : ℕ) → x < count_variables items → IsSmall (s x)) → IsIntTerm items t → IsSmallAt s t
small_at s items (Var x) small h = small x h.0
small_at s items (Const v) small h = tt

-- what a row rests on follows from what its arguments are
rests_on : (s : ℕ → ℤ) (items : List Item) (args : List Expr) (kind : ConstraintKind) → ((x : ℕ) → x < count_variables items → IsSmall (s x)) → AreFit items args 0 (args_of kind) → Rests s kind (args_in items args)
rests_on s items args of.IntLinLe small h = (h.0.each, h.1.1.0)
rests_on s items args of.IntLinEq small h = (h.0.each, h.1.1.0)
rests_on s items args of.IntLinNe small h = (h.0.each, h.1.1.0)
rests_on s items args of.IntLinLeReif small h = (h.0.each, h.1.1.0)
rests_on s items args of.IntLinEqReif small h = (h.0.each, h.1.1.0)
rests_on s items args of.IntLinNeReif small h = (h.0.each, h.1.1.0)
rests_on s items args of.IntLe small h = tt
rests_on s items args of.IntLt small h = tt
rests_on s items args of.IntEq small h = tt
rests_on s items args of.IntNe small h = tt
rests_on s items args of.IntLeReif small h = tt
rests_on s items args of.IntLtReif small h = tt
rests_on s items args of.IntEqReif small h = tt
rests_on s items args of.IntNeReif small h = tt
rests_on s items args of.IntPlus small h = tt
rests_on s items args of.IntTimes small h = tt
rests_on s items args of.IntMax small h = tt
rests_on s items args of.IntMin small h = tt
rests_on s items args of.IntAbs small h = tt
rests_on s items args of.Bool2Int small h = tt
rests_on s items args of.BoolEq small h = tt
rests_on s items args of.BoolNot small h = tt
rests_on s items args of.BoolXor small h = tt
rests_on s items args of.BoolLe small h = tt
rests_on s items args of.BoolLt small h = tt
rests_on s items args of.BoolEqReif small h = tt
rests_on s items args of.BoolLeReif small h = tt
rests_on s items args of.BoolLtReif small h = tt
rests_on s items args of.BoolAnd small h = tt
rests_on s items args of.BoolOr small h = tt
rests_on s items args of.ArrayBoolAnd small h = tt
rests_on s items args of.ArrayBoolOr small h = tt
rests_on s items args of.BoolClause small h = tt
rests_on s items args of.BoolClauseReif small h = tt
rests_on s items args of.SetIn small h = small_at s items (arg_term items args 0) small h.0
rests_on s items args of.SetInReif small h = small_at s items (arg_term items args 0) small h.0
rests_on s items args of.ArrayIntElement small h = tt
rests_on s items args of.ArrayVarIntElement small h = tt
rests_on s items args of.ArrayBoolElement small h = tt
rests_on s items args of.ArrayVarBoolElement small h = tt
rests_on s items args of.AllDifferentInt small h = tt
rests_on s items args of.FznAllDifferentInt small h = tt
rests_on s items args of.Cumulative small h = record { durations = h.1.0.each; uses = h.1.1.0.each; capacity = h.1.1.1.0 }
rests_on s items args of.FznCumulative small h = record { durations = h.1.0.each; uses = h.1.1.0.each; capacity = h.1.1.1.0 }

-- the assignment meets a constraint's parts exactly where it meets the constraint
parts_by : (s : ℕ → ℤ) (items : List Item) (c : Constraint) (o : Option ConstraintKind) → ((x : ℕ) → x < count_variables items → IsSmall (s x)) → MatchOption o ⊥ (λ kind. AreFit items c.args 0 (args_of kind)) →
    AreMet s (option_map_or (λ kind. recipe kind (args_in items c.args)) o []) ↔ MatchOption o ⊥ (λ kind. Meaning kind (given items c.args s))
parts_by s items c None small fitted = absurd fitted
parts_by s items c (Some kind) small fitted = recipe_means s kind (args_in items c.args) (rests_on s items c.args kind small fitted)

pub parts_met : (s : ℕ → ℤ) (items : List Item) (c : Constraint) → ((x : ℕ) → x < count_variables items → IsSmall (s x)) → IsFitted items c → AreMet s (parts_of items c) ↔ IsMet items s c
parts_met s items c small fitted = parts_by s items c (constraint_of c.name) small fitted

-- ---- all constraints

pub all_met : (s : ℕ → ℤ) (items : List Item) (cs : List Constraint) → ((x : ℕ) → x < count_variables items → IsSmall (s x)) → Each (IsFitted items) cs →
    Each (AreMet s) (map (parts_of items) cs) ↔ Each (IsMet items s) cs
all_met s items [] small fitted = (λ h. tt, λ h. tt)
all_met s items (c ∷ cs) small fitted =
    let here = parts_met s items c small fitted.0 in
    let later = all_met s items cs small fitted.1 in
    (λ h. (here.0 h.0, later.0 h.1), λ h. (here.1 h.0, later.1 h.1))

-- ---- the whole

-- an assignment satisfies the model exactly where it is a solution of its problem
pub same_solutions : (m : Plan) → IsWellFormed m → (s : ℕ → ℤ) → Satisfies m s ↔ IsSolution s (problem_of m)
same_solutions m h s =
    let declared : AreDeclared m.items = record { numbered = h.numbered; declared = h.declared } in (
      λ sat. let lies = within_kept m.items s declared sat.kept in
          record { within = lies; meets = (all_met s m.items m.constraints (small_within m.items s lies) h.fitted).1 sat.met },
      λ solution. record {
        kept = kept_within m.items s declared solution.within;
        met = (all_met s m.items m.constraints (small_within m.items s solution.within) h.fitted).0 solution.meets;
      },
    )
