-- What is found among bounded coefficients is bounded.
use Rattle.std.proofs.Common.{◌≡◌, ◌^◌, ◌∙◌, ap, arith, pos, subst, sym}
use Rattle.std.specs.Prelude.{unwrap_or}
use Rattle.std.specs.BTreeMap.{get, is_at}
use Rattle.std.specs.Ordering.{nat_cmp}
use Rattle.std.proofs.lemmas.Int.{ints}
use Rattle.dp_rule_linear.specs.Forms.{IsBounded}
use Rattle.dp_lower.proofs.MergeLaws.{found_bounded}
use Rattle.dp_lower.proofs.sum.coefficient_of.Goals as goal

pub returns-clause-bounded : goal.returns-clause-bounded
returns-clause-bounded c =
    let r : c.unwrap_or.result ≡ unwrap_or (get nat_cmp c.args.coefficients.now c.args.var) (pos 0) =
    c.unwrap_or.ensures ∙ ap (λ o. unwrap_or o (pos 0)) (c.copied.ensures ∙ c.get.ensures.value) in
    let h : IsBounded (10 ^ 16) c.unwrap_or.result = subst (IsBounded (10 ^ 16)) (sym r) (found_bounded (10 ^ 16) (is_at (nat_cmp c.args.var)) c.args.coefficients.now.entries c.requires) in
    let a = h.0 in let b = h.1 in (omega (arith, ints), omega (arith, ints))
