-- The lower bound where there is one, else the upper.
use Rattle.std.proofs.Common.{◌≡◌, false, Option, Some, None, is_some, refl, sym, ◌∙◌, subst, inl, inr}
use Rattle.std.proofs.lemmas.Bool.{true≢false}
use Rattle.dp_domain.specs.Atoms.{Atomic}
use Rattle.dp_rule_cumulative.specs.Profiles.{IsLowerBound}
use Rattle.dp_rule_cumulative.proofs.bound.bound.Goals as goal

absent : (a : Option Atomic) → is_some a ≡ false → a ≡ None
absent None e = refl
absent (Some a) e = absurd (true≢false e)

pub returns-then-is_some : goal.returns-then-is_some
returns-then-is_some c = inl (c.new_lower-lower.ensures, sym c.is_some.ensures ∙ c.if-is_some.true)

pub returns : goal.returns
returns c = inr (
  subst (IsLowerBound c.args.capacity c.args.profile.now c.args.set.now c.args.task.now c.args.var) (absent c.new_lower-lower.result (sym c.is_some.ensures ∙ c.if-is_some.false)) c.new_lower-lower.ensures,
  c.new_upper.ensures,
)
